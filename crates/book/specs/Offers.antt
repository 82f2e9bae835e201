-- Offers, and lists of them.
use Rattle.std.specs.Prelude.{ℕ, min, Bool, cond, List, [], ◌∷◌, find, sum_by, Option, nat_le}
use Rattle.std.specs.Str.{bytes_eq}
use Rattle.book.specs.declared.offer.Offer.{Offer}

-- x may stand before y: it is priced not above it
abbrev pub cheaper : Offer → Offer → Bool
cheaper x y = nat_le x.price y.price

-- the offer has the member's code, all four bytes of it
abbrev pub of_member : Offer → List ℕ → Bool
of_member o member = bytes_eq o.member member

-- the first offer that passes the test
abbrev pub first_that : (Offer → Bool) → List Offer → Option Offer
first_that test os = find test os

-- the list without the first offer that passes the test
abbrev pub without_first : (Offer → Bool) → List Offer → List Offer
without_first test [] = []
without_first test (o ∷ os) = cond (test o) os (o ∷ without_first test os)

-- the total of the lots
abbrev pub supplied : List Offer → ℕ
supplied os = sum_by (λ o. o.lots) os

-- a total as 64 bits can hold it
abbrev pub capped : ℕ → ℕ
capped n = min n 18446744073709551615
