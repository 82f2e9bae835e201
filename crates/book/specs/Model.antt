-- The plain model of a book: a list, a count and a time.
use Rattle.std.specs.Prelude.{◌≡◌, ℕ, ◌<◌, Bool, cond, List, [], length, Some, None, Option, ◌==◌, remove}
use Rattle.ordered.specs.Listed.{listed, capacity}
use Rattle.book.specs.declared.book.Book.{Book}
use Rattle.book.specs.declared.offer.Offer.{Offer}
use Rattle.book.specs.Offers.{first_that, without_first}

-- the standing offers in their order, how many entries were accepted, and the time of the latest accepted call
pub record Model : Type 0 where
  pub list : List Offer
  pub count : ℕ
  pub time : ℕ

-- the model at first
abbrev pub fresh : Model
fresh = record { list = []; count = 0; time = 0 }

-- the model that a book stands for
abbrev pub model_of : Book → Model
model_of b = record { list = listed b.list; count = b.accepted; time = b.latest }

-- how many records the book was handed
abbrev pub space : Book → ℕ
space b = capacity b.list

-- the offer has the number
abbrev pub has_number : ℕ → Offer → Bool
has_number number o = o.number == number

-- The standing offer with a number. On another number of records than 512 none stands.
abbrev pub standing : ℕ → List Offer → ℕ → Option Offer
standing n os number = cond (n == 512) (first_that (has_number number) os) None

-- the offers without the one with the number
abbrev pub without : ℕ → List Offer → List Offer
without number os = without_first (has_number number) os

-- The offer that stands with a number stands at the index: taken out there, it leaves the offers without it.
abbrev pub StandsAt : ℕ → List Offer → ℕ → ℕ × Offer → Type 0
StandsAt n os number p = (standing n os number ≡ Some p.1) × (p.0 < length os) × (remove os p.0 ≡ without number os)
