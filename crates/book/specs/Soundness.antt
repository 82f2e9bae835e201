-- The condition that each call keeps.
use Rattle.std.specs.Prelude.{◌<◌, ◌≤◌, List, [], ◌∷◌, length, ◌≢◌}
use Rattle.std.specs.List.{AllByRecursion}
use Rattle.ordered.specs.Behind.{InOrder}
use Rattle.book.specs.declared.offer.Offer.{Offer}
use Rattle.book.specs.Model.{Model}
use Rattle.book.specs.Offers.{cheaper}

-- no two offers have one number
abbrev pub Apart : List Offer → Type 0
Apart [] = Unit {0}
Apart (o ∷ os) = AllByRecursion (λ x. x.number ≢ o.number) os × Apart os

-- what holds of the offers of a book, its count and its time
pub record Sound (m : Model) : Type 0 where
  -- the offers stand in order of price
  pub ordered : InOrder cheaper m.list
  -- their numbers differ, and are below the count
  pub apart : Apart m.list
  pub numbered : AllByRecursion (λ o. o.number < m.count) m.list
  -- no more stand than were accepted, and 512 at most were accepted
  pub few : length m.list ≤ m.count
  pub accepted : m.count ≤ 512
  -- each price is from 1 to 920,000, and each offer's lots are from 1 to 1,000,000
  pub prices : AllByRecursion (λ o. (1 ≤ o.price) × (o.price ≤ 920000)) m.list
  pub lots : AllByRecursion (λ o. (1 ≤ o.lots) × (o.lots ≤ 1000000)) m.list
