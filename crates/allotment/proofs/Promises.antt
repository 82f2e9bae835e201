-- What is computed keeps the promise.
use Rattle.std.proofs.Common.{◌≡◌, ℕ, ◌+◌, ◌-◌, ◌*◌, ◌<◌, ◌≤◌, List, ◌++◌, map, length, get_or, take, drop, replicate, Some, None, sum, Option, sym, refl, ap, ◌∙◌, subst, ⊎_elim, arith, MatchOption}
use Rattle.std.proofs.lemmas.Bool.{cases_lt}
use Rattle.std.proofs.lemmas.List.{drop-replicate, get_or-take, replicate-append-replicate}
use Rattle.stages.specs.declared.particulars.Particulars.{Particulars}
use Rattle.stages.specs.declared.terms.Buyer.{Buyer}
use Rattle.stages.specs.Buyers as filed
use Rattle.sharing.specs.declared.claim.Claim.{Claim}
use Rattle.sharing.specs.Claims.{Fair, claimed, nobody}
use Rattle.sharing.specs.Shares.{proportional, largest_remainder, shareable}
use Rattle.sharing.proofs.Near.{proportional_near, remainder_near}
use Rattle.book.specs.declared.offer.Offer.{Offer}
use Rattle.book.specs.Offers.{supplied}
use Rattle.allotment_theory.specs.Offered.{Standing, below, marginal_of}
use Rattle.allotment_theory.specs.Fills.{Paired, Priced, Unpriced, FilledRow, fills_of, row_of, gathered, tied, worth}
use Rattle.allotment_theory.specs.Receipts.{paid_at, receipts_of, price_or_0, payments_of, Nearby}
use Rattle.allotment_theory.specs.Theorems.{Lawful}
use Rattle.allotment_theory.proofs.Near.{carries, remains}
use Rattle.allotment_theory.proofs.Telescope.{payments_total, payments_near, payments_any}
use Rattle.allotment_theory.proofs.Ties.{ties_admissible}
use Rattle.allotment_theory.proofs.Whole.{fills_row, due_le, paired_long, zeros}
use Rattle.allotment_theory.proofs.Worth.{receipts_fit, receipts_worth, nothing_worth}
use Rattle.allotment.specs.declared.pay.BuyerRow.{BuyerRow}
use Rattle.allotment.specs.declared.tender.Allotted.{Allotted}
use Rattle.allotment.specs.Promise.{Asked, Computed, Promise, AtPrice, WithoutPrice, AboutItsProportion, LessThanALotOff}
use Rattle.allotment.specs.Rows.{no_row, rows_of, lots_in, payments_in, billed_of, claims_of}
use Rattle.allotment.proofs.Filed.{Agreed, agreed, length_claims, claimed_is, lots_at, filed_admissible}
use Rattle.allotment.proofs.Rows as rows

module _ (sellers : List Claim → ℕ → List ℕ) (lawful : Lawful sellers) (os : List Offer) (sound : Standing os) (due : ℕ) (xs : List ℕ) where
  -- under the proportional rule tied offers are near their proportions
  near : (q : ℕ) → Priced sellers os due q xs → (rank : ℕ → ℕ) → sellers ≡ proportional rank → Paired (λ o x. o.price ≡ q → AboutItsProportion (due - below q os) (claimed (tied q os)) o.lots x) os xs
  near q at rank same =
      let cs = tied q os in
      let a = due - below q os in
      let ok = ties_admissible os q sound in
      let fair = lawful cs ok a in
      let about = proportional_near rank cs ok a in
      let is : sellers cs a ≡ proportional rank cs a = ap (λ (f : List Claim → ℕ → List ℕ). f cs a) same in
      let all = remains os due q at.marginal in
      carries (AboutItsProportion a (claimed cs)) q os xs (proportional rank cs a) (paired_long _ os xs at.cut) (at.ties ∙ is) (ap length (sym is) ∙ fair.one_each)
      (λ i lt.
      let scaled = ap (λ (n : ℕ). n * (get_or cs i nobody).lots) all in
      record { not_a_lot_below = omega (arith, about.not_a_lot_below i lt); at_most_a_lot_above = omega (arith, about.at_most_a_lot_above i lt) })

  at_price : (price : Option ℕ) → MatchOption price (Unpriced os due xs) (λ p. Priced sellers os due p xs) → MatchOption price (WithoutPrice os due xs) (λ q. AtPrice sellers os due q xs)
  at_price None h = record { none_due = h.none_due; none_filled = h.none_filled }
  at_price (Some q) h = record { some_due = h.some_due; marginal = h.marginal; cut = h.cut; tied_shares = h.ties; tied_near = near q h }

module _
    (sellers purchasers : List Claim → ℕ → List ℕ) (p : Particulars) (os : List Offer) (bs : List Buyer) (long wide : ℕ)
    (a : Allotted) (fills : List ℕ) (rs : List BuyerRow)
    (lawful : Lawful sellers) (just : Lawful purchasers) (sound : Standing os) (asked : Asked p long wide bs) (wide_is : length rs ≡ wide)
    (did : Computed sellers purchasers p os (claims_of bs) long wide a fills rs) where
  ok : Agreed p bs
  ok = agreed p bs asked.buyers

  n : ℕ
  n = length bs

  abbrev cs : List Claim
  cs = claims_of bs

  small : (a.due ≤ supplied os) × (a.due ≤ p.demand)
  small = let le = due_le p.demand p.shortfall (supplied os) in (omega (arith, did.due), omega (arith, did.due))

  written : fills ≡ row_of os (fills_of sellers a.due os)
  written = did.filled sound asked.fills

  row : FilledRow sellers os a.due a.price fills
  row = rw (did.price, written) (fills_row sellers lawful os sound a.due small.0)

  abbrev xs : List ℕ
  xs = gathered os fills

  fair : Fair cs a.due (purchasers cs a.due)
  fair = just cs (filed_admissible p bs ok) a.due

  demand : claimed cs ≡ p.demand
  demand = claimed_is 0 bs ∙ ok.total

  total : sum (purchasers cs a.due) ≡ a.due
  total = omega (arith, fair.whole, demand, small.1)

  front : take (length bs) rs ≡ rows_of a.receipts a.due (billed_of p.kind) (purchasers cs a.due)
  front = ap (λ (k : ℕ). take k rs) (sym (length_claims 0 bs)) ∙ did.paid (filed_admissible p bs ok) (omega (arith, total))

  beyond : drop (length bs) rs ≡ replicate (8 - length bs) no_row
  beyond =
      ap (λ (k : ℕ). drop k rs) (sym (length_claims 0 bs))
      ∙ did.beyond
      ∙ ap (λ (k : ℕ). drop k (replicate wide no_row)) (length_claims 0 bs)
      ∙ drop-replicate (length bs) wide no_row
      ∙ ap (λ (k : ℕ). replicate (k - length bs) no_row) asked.rows

  held : lots_in (take (length bs) rs) ≡ purchasers cs a.due
  held = ap lots_in front ∙ rows.lots_held a.receipts a.due (billed_of p.kind) 0 (purchasers cs a.due)

  exact : a.receipts ≡ worth p.unit (paid_at p.method (price_or_0 a.price)) os xs
  exact =
      let f = paid_at p.method (price_or_0 a.price) in
      let at_price : FilledRow sellers os a.due (marginal_of a.due os) fills = subst (λ q. FilledRow sellers os a.due q fills) did.price row in
      let most = p.demands in
      let units = p.units in
      let fit = receipts_fit sellers os a.due p.unit p.method fills sound at_price (omega (arith, small.1)) (omega arith) in
      let same = ap (λ q. receipts_of p.unit (paid_at p.method (price_or_0 q)) os fills) did.price in
      omega (arith, did.receipts, receipts_worth p.unit f os fills)

  pays : payments_in (take (length bs) rs) ≡ payments_of a.receipts a.due (lots_in (take (length bs) rs))
  pays =
      ap payments_in front
      ∙ rows.payments_held a.receipts a.due (billed_of p.kind) 0 (purchasers cs a.due)
      ∙ sym (payments_any a.receipts a.due (purchasers cs a.due))
      ∙ ap (payments_of a.receipts a.due) (sym held)

  front_lots : sum (lots_in (take (length bs) rs)) ≡ a.due
  front_lots = ap sum held ∙ total

  all_lots : sum (lots_in rs) ≡ a.due
  all_lots = rows.column_sum (λ b. b.lots) refl (length bs) (8 - length bs) rs beyond ∙ front_lots

  none_received : a.due ≡ 0 → a.receipts ≡ 0
  none_received none =
      let f = paid_at p.method (price_or_0 a.price) in
      exact ∙ nothing_worth p.unit f os xs (row.fills.total ∙ none)

  none_front : a.due ≡ 0 → payments_in (take (length bs) rs) ≡ map (λ _. 0) (lots_in (take (length bs) rs))
  none_front none = pays ∙ ap (λ (d : ℕ). payments_of a.receipts d (lots_in (take (length bs) rs))) none

  all_paid : sum (payments_in rs) ≡ a.receipts
  all_paid =
      rows.column_sum (λ b. b.payment) refl (length bs) (8 - length bs) rs beyond
      ∙ ⊎_elim
      (λ (pos : 0 < a.due). ap sum pays ∙ payments_total a.receipts a.due (lots_in (take (length bs) rs)) pos front_lots)
      (λ (none : a.due ≤ 0).
      let due : a.due ≡ 0 = omega arith in
      ap sum (none_front due) ∙ zeros (lots_in (take (length bs) rs)) ∙ sym (none_received due))
      (cases_lt 0 a.due)

  columns : (payments_in rs ≡ payments_in (take (length bs) rs) ++ replicate (8 - length bs) 0) × (lots_in rs ≡ lots_in (take (length bs) rs) ++ replicate (8 - length bs) 0)
  columns =
      (rows.column (λ b. b.payment) refl (length bs) (8 - length bs) rs beyond, rows.column (λ b. b.lots) refl (length bs) (8 - length bs) rs beyond)

  nearby : 0 < a.due → Nearby a.receipts a.due (lots_in rs) (payments_in rs)
  nearby pos =
      rw (columns.0, columns.1)
      (rows.nearby_more a.receipts a.due pos (lots_in (take (length bs) rs)) (payments_in (take (length bs) rs)) (8 - length bs)
      (rw pays (payments_near a.receipts a.due (lots_in (take (length bs) rs)) pos)))

  count : length (lots_in (take (length bs) rs)) ≡ length bs
  count = ap length held ∙ fair.one_each ∙ length_claims 0 bs

  none_paid : a.due ≡ 0 → payments_in rs ≡ replicate 8 0
  none_paid none =
      let front = none_front none ∙ rows.map_zero (lots_in (take (length bs) rs)) ∙ ap (λ (k : ℕ). replicate k 0) count in
      let counts = p.counts in
      let eight : length bs + (8 - length bs) ≡ 8 = omega (arith, ok.count) in
      columns.0 ∙ ap (λ (l : List ℕ). l ++ replicate (8 - length bs) 0) front ∙ replicate-append-replicate (length bs) (8 - length bs) 0 ∙ ap (λ (k : ℕ). replicate k 0) eight

  lots_near : (rank : ℕ → ℕ) → purchasers ≡ largest_remainder rank → (i : ℕ) → i < length bs → LessThanALotOff a.due p.demand (get_or bs i filed.nobody).lots (get_or rs i no_row).lots
  lots_near rank same i lt =
      let off = remainder_near rank cs (filed_admissible p bs ok) a.due in
      let in_cs : i < length cs = omega (arith, length_claims 0 bs) in
      let at : (get_or rs i no_row).lots ≡ get_or (largest_remainder rank cs a.due) i 0 =
      ap (λ (b : BuyerRow). b.lots) (sym (get_or-take (length bs) rs i no_row lt))
      ∙ sym (rows.get_or_in (take (length bs) rs) i)
      ∙ ap (λ (l : List ℕ). get_or l i 0) (held ∙ ap (λ (f : List Claim → ℕ → List ℕ). f cs a.due) same) in
      let all : shareable cs a.due ≡ a.due = omega (arith, demand, small.1) in
      let lots = lots_at 0 bs i in
      let scaled = ap (λ (k : ℕ). k * (get_or cs i nobody).lots) all ∙ ap (λ (k : ℕ). a.due * k) lots in
      let times = ap (λ (k : ℕ). k * get_or (largest_remainder rank cs a.due) i 0) demand ∙ ap (λ (k : ℕ). p.demand * k) (sym at) in
      record { below = omega (arith, off.below i in_cs, demand); above = omega (arith, off.above i in_cs, demand) }

  marks : (i : ℕ) → i < length bs → (get_or rs i no_row).billed ≡ billed_of p.kind
  marks i lt =
      ap (λ (b : BuyerRow). b.billed) (sym (get_or-take (length bs) rs i no_row lt) ∙ ap (λ (l : List BuyerRow). get_or l i no_row) front)
      ∙ rows.marks_held a.receipts a.due (billed_of p.kind) 0 (purchasers cs a.due) i (omega (arith, fair.one_each, length_claims 0 bs))

  pub keeps : length fills ≡ 512 → Promise sellers purchasers p os bs a fills rs
  keeps places = record {
    due = did.due;
    places = places;
    total = row.elsewhere;
    total_standing = row.fills.total;
    none_above = row.fills.within;
    cheapest = row.fills.cheapest p.unit;
    priced = at_price sellers lawful os sound a.due xs a.price row.fills.priced;
    receipts = exact;
    fee = did.fee;
    width = wide_is ∙ asked.rows;
    beyond = beyond;
    lots = held;
    all_lots = all_lots;
    lots_near = lots_near;
    payments = pays;
    all_paid = all_paid;
    payments_near = nearby;
    nothing_paid = λ none. (none_received none, none_paid none);
    billed = marks;
  }
