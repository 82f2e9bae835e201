-- An offer put behind those that may stand before it.
use Rattle.std.proofs.Common.{◌≡◌, ◌+◌, List, [], ◌∷◌, length, sym, arith}
use Rattle.std.specs.List.{AllByRecursion}
use Rattle.std.proofs.lemmas.Bool.{cond_both, leb-true, leb-false, le-leb}
use Rattle.ordered.specs.Behind.{behind}
use Rattle.ordered.specs.Ranks.{Total, Transitive}
use Rattle.ordered.proofs.Keeps.{all_behind}
use Rattle.book.specs.declared.offer.Offer.{Offer}
use Rattle.book.specs.Offers.{cheaper}
use Rattle.book.specs.Soundness.{Apart}

-- the order by price compares any two offers, and is transitive
pub total : Total cheaper
total x y e = le-leb y.price x.price (omega (arith, leb-false x.price y.price e))

pub transitive : Transitive cheaper
transitive x y z e f = le-leb x.price z.price (omega (arith, leb-true x.price y.price e, leb-true y.price z.price f))

-- the list is one longer
pub length_behind : (o : Offer) (xs : List Offer) → length (behind cheaper o xs) ≡ length xs + 1
length_behind o [] = omega arith
length_behind o (y ∷ ys) =
    let rest = length_behind o ys in
    cond_both (cheaper y o) (y ∷ behind cheaper o ys) (o ∷ y ∷ ys) (λ zs. length zs ≡ length (y ∷ ys) + 1) (λ _. omega arith) (λ _. omega arith)

-- an offer under a number of its own leaves the numbers apart
pub apart_behind : (o : Offer) (xs : List Offer) → AllByRecursion (λ x. x.number ≡ o.number → ⊥) xs → Apart xs → Apart (behind cheaper o xs)
apart_behind o [] a d = (tt, tt)
apart_behind o (y ∷ ys) a d =
    cond_both (cheaper y o) (y ∷ behind cheaper o ys) (o ∷ y ∷ ys) Apart
    (λ _. (all_behind cheaper (λ x. x.number ≡ y.number → ⊥) o ys (λ e. a.0 (sym e)) d.0, apart_behind o ys a.1 d.1))
    (λ _. (a, d))
