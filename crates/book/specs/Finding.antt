-- What a member's question is answered with.
use Rattle.std.specs.Prelude.{◌≡◌, ℕ, true, false, List, Option, MatchOption}
use Rattle.std.specs.List.{ContainsAt as Has, AllByRecursion}
use Rattle.book.specs.declared.finding.Sheet.{Sheet}
use Rattle.book.specs.declared.offer.Offer.{Offer}
use Rattle.book.specs.Offers.{of_member}

-- no offer of the member stands
abbrev pub Without : List ℕ → List Offer → Type 0
Without member os = AllByRecursion (λ o. of_member o member ≡ false) os

-- the offer stands, and is the member's
abbrev pub Own : List ℕ → List Offer → Offer → Type 0
Own member os o = Has os o × (of_member o member ≡ true)

-- Finding answers the number of a standing offer of the member, or none exactly if it has none. Which one is left free.
abbrev pub Finds : List ℕ → List Offer → Option ℕ → Type 0
Finds member os r = MatchOption r (Without member os) (λ n. (o : Offer) × Own member os o × (n ≡ o.number))

-- the sheet of an offer: its number, price and lots
abbrev pub sheet_of : Offer → Sheet
sheet_of o = record { number = o.number; price = o.price; lots = o.lots }

-- The sheet is that of a standing offer of the member, or none exactly if it has none.
abbrev pub Shows : List ℕ → List Offer → Option Sheet → Type 0
Shows member os r = MatchOption r (Without member os) (λ s. (o : Offer) × Own member os o × (s ≡ sheet_of o))
