-- The whole promise of the fills.
use Rattle.std.proofs.Common.{◌≡◌, ℕ, suc, ◌-◌, ◌*◌, ◌<◌, ◌≤◌, eqb, List, [], ◌∷◌, map, length, Some, None, sum, sym, refl, ap, ◌∙◌, ⊎_elim, mul_assoc, add-mul, mul-le-mul_left, arith}
use Rattle.std.proofs.ByRecursion.{All-weaker}
use Rattle.std.proofs.lemmas.Bool.Decides.{nat_tests}
use Rattle.std.proofs.lemmas.List.Sums.{sum_by-cons}
use Rattle.std.proofs.lemmas.Bool.{cases_lt, cond-true, eq-eqb}
use Rattle.sharing.specs.declared.claim.Claim.{Claim}
use Rattle.stages.specs.declared.shortfall.Shortfall.{Shortfall}
use Rattle.stages.specs.declared.shortfall.Shortfall.TheVariants.{Take, Void}
use Rattle.book.specs.declared.offer.Offer.{Offer}
use Rattle.book.specs.Offers.{supplied}
use Rattle.allotment_theory.specs.Offered.{below, due_of, marginal_of, reaching, Standing, Single}
use Rattle.allotment_theory.specs.Fills.{Paired, Within, Cut, worth, tied, filled, fills_by, fills_of, Filled}
use Rattle.allotment_theory.specs.Theorems.{WorthBounded, Lawful, Allots, FillsRow}
use Rattle.allotment_theory.proofs.Pass.{pass_finds, pass_ends}
use Rattle.allotment_theory.proofs.Total.{ties, fills_total, fills_cut}
use Rattle.allotment_theory.proofs.Choice.{cheapest}
use Rattle.allotment_theory.proofs.Scatter.{gathers, scatter_total}
use Rattle.allotment_theory.proofs.Ties.{ties_admissible}

paired_weaker : (P Q : Offer → ℕ → Type 0) → ((o : Offer) (x : ℕ) → P o x → Q o x) → (os : List Offer) (xs : List ℕ) → Paired P os xs → Paired Q os xs
paired_weaker P Q f [] [] h = tt
paired_weaker P Q f [] (x ∷ xs) h = absurd h
paired_weaker P Q f (o ∷ os) [] h = absurd h
paired_weaker P Q f (o ∷ os) (x ∷ xs) h = (f o x h.0, paired_weaker P Q f os xs h.1)

pub paired_long : (P : Offer → ℕ → Type 0) (os : List Offer) (xs : List ℕ) → Paired P os xs → length xs ≡ length os
paired_long P [] [] h = refl
paired_long P [] (x ∷ xs) h = absurd h
paired_long P (o ∷ os) [] h = absurd h
paired_long P (o ∷ os) (x ∷ xs) h = ap suc (paired_long P os xs h.1)

pub worth_bounded : WorthBounded
worth_bounded unit most price [] xs a = omega arith
worth_bounded unit most price (o ∷ os) [] a = omega arith
worth_bounded unit most price (o ∷ os) (x ∷ xs) a =
    let ih = worth_bounded unit most price os xs a.1 in
    let e = mul_assoc x unit most in
    let le = mul-le-mul_left (x * unit) a.0 in
    let all = ap (λ (n : ℕ). n * (unit * most)) (sum_by-cons (λ n. n) x xs) ∙ add-mul x (sum xs) (unit * most) in
    omega arith

-- nothing is due
pub zeros : {X : Type 0} (os : List X) → sum (map (λ _. 0) os) ≡ 0
zeros [] = refl
zeros (o ∷ os) = omega (arith, sum_by-cons (λ (n : ℕ). n) 0 (map (λ _. 0) os), zeros os)

zeros_within : (os : List Offer) → Paired Within os (map (λ _. 0) os)
zeros_within [] = tt
zeros_within (o ∷ os) = (omega arith, zeros_within os)

zeros_worth : (unit : ℕ) (price : Offer → ℕ) (os : List Offer) → worth unit price os (map (λ _. 0) os) ≡ 0
zeros_worth unit price [] = refl
zeros_worth unit price (o ∷ os) = omega (arith, mul_assoc 0 unit (price o), zeros_worth unit price os)

module _ (shares : List Claim → ℕ → List ℕ) (lawful : Lawful shares) (os : List Offer) (sound : Standing os) (due : ℕ) (le : due ≤ supplied os) where
  at_price : (p : ℕ) → 0 < due → marginal_of due os ≡ Some p → Filled shares os due (Some p) (fills_by shares due os (Some p))
  at_price p pos e =
      let m = pass_finds os due p sound.order e in
      let fair = lawful (tied p os) (ties_admissible os p sound) (due - below p os) in
      let ss = shares (tied p os) (due - below p os) in
      let cut = fills_cut os (due - below p os) p ss fair in
      let total = fills_total os due p ss m fair in
      record {
        total = total;
        within = paired_weaker (Cut p) Within (λ o x c. c.within) os (filled p os ss) cut;
        cheapest = λ unit ys w same. cheapest unit p os (filled p os ss) ys cut w (same ∙ sym total);
        priced = record { some_due = pos; marginal = m; cut = cut; ties = ties p os ss fair.one_each };
      }

  no_price : due ≡ 0 → Filled shares os due None (fills_by shares due os None)
  no_price e = record {
    total = zeros os ∙ sym e;
    within = zeros_within os;
    cheapest = λ unit ys w same. omega (arith, zeros_worth unit (λ o. o.price) os);
    priced = record { none_due = e; none_filled = refl };
  }

  pub allots_at : Filled shares os due (marginal_of due os) (fills_of shares due os)
  allots_at =
      ⊎_elim
      (λ (pos : 0 < due). let r = pass_ends os due pos le in rw r.1 (at_price r.0 pos r.1))
      (λ (z : due ≤ 0). let n : marginal_of due os ≡ None = cond-true (eqb due 0) None (reaching due os) (eq-eqb due 0 (omega arith)) in rw n (no_price (omega arith)))
      (cases_lt 0 due)

pub allots : Allots
allots shares lawful os sound due le = allots_at shares lawful os sound due le

pub fills_row : FillsRow
fills_row shares lawful os sound due le =
    let all = allots shares lawful os sound due le in
    let xs = fills_of shares due os in
    let small = All-weaker Single (λ (o : Offer). o.number ≤ 511) (λ o x. x.0) os sound.each in
    let long = paired_long Within os xs all.within in
    record {
      fills = rw (gathers os xs sound.apart small long) all;
      elsewhere = scatter_total os xs sound.apart small long ∙ all.total;
    }

-- what is due is at most what is offered, and at most the demand
pub due_le : (demand : ℕ) (short : Shortfall) (supply : ℕ) → (due_of demand short supply ≤ supply) × (due_of demand short supply ≤ demand)
due_le demand Take supply = (grind (arith, nat_tests), grind (arith, nat_tests))
due_le demand Void supply = (grind (arith, nat_tests), grind (arith, nat_tests))
