-- Standing offers stand in order of price, and at one price in order of arrival.
use Rattle.std.proofs.Common.{◌≡◌, ℕ, zero, suc, ◌+◌, ◌<◌, ◌≤◌, Bool, true, false, cond, not, eqb, ◌⊎◌, List, [], ◌∷◌, map, is_some, Some, None, Option, sym, refl, ap, ◌∙◌, subst, inl, inr, ⊎_elim, arith}
use Rattle.std.specs.List.{AllByRecursion}
use Rattle.std.proofs.ByRecursion.{All-weaker}
use Rattle.std.proofs.lemmas.Bool.{and_from, and_left, and_right, cases_Bool, cond_both, cond-true, cond-false, eq-eqb, ne_eqb, eqb-true, false≢true, leb-true, leb-false}
use Rattle.ordered.specs.Behind.{behind, InOrder}
use Rattle.ordered.proofs.Keeps.{all_behind}
use Rattle.stages.specs.declared.opened.Open.{Open}
use Rattle.stages.specs.declared.terms.Buyer.{Buyer}
use Rattle.book.specs.declared.call.Call as call
use Rattle.book.specs.declared.call.Call.TheVariants as calls
use Rattle.book.specs.declared.cancel.Cancellation.{Cancellation}
use Rattle.book.specs.declared.change.Change.{Change}
use Rattle.book.specs.declared.entry.Entry.{Entry}
use Rattle.book.specs.declared.offer.Offer.{Offer}
use Rattle.book.specs.Judgement.{entry_code, change_code, cancel_code, outside_window, before_latest, bad_price, bad_lots}
use Rattle.book.specs.Model.{Model, fresh, has_number, standing, without}
use Rattle.book.specs.Offers.{cheaper, first_that, without_first}
use Rattle.book.specs.Soundness.{Sound, Apart}
use Rattle.book.specs.Told.{told, tally, entered, changed, cancelled, offered, repriced, changed_list}
use Rattle.book.proofs.Keeping.{sound_entered, sound_changed, sound_cancelled}
use Rattle.allotment_theory.specs.Arrivals.{comes, ComesAt, LastAt, Before, ByPriority, InPriority}

-- x stands before y, where each number has a time of arrival
pub record Ahead (at : ℕ → ℕ) (x y : Offer) : Type 0 where
  pub price : x.price ≤ y.price
  pub earlier : x.price ≡ y.price → at x.number < at y.number

abbrev Ranked : (ℕ → ℕ) → List Offer → Type 0
Ranked at [] = Unit {0}
Ranked at (o ∷ os) = AllByRecursion (Ahead at o) os × Ranked at os

-- an arrival that is kept
abbrev Kept : (ℕ → ℕ) → (ℕ → ℕ) → Offer → Type 0
Kept at new o = new o.number ≡ at o.number

module _ (at new : ℕ → ℕ) where
  again : (x : Offer) → Kept at new x → (os : List Offer) → AllByRecursion (Kept at new) os → AllByRecursion (Ahead at x) os → AllByRecursion (Ahead new x) os
  again x k [] ks a = tt
  again x k (o ∷ os) ks a = (record { price = a.0.price; earlier = λ e. omega (arith, a.0.earlier e, k, ks.0) }, again x k os ks.1 a.1)

  ranked_again : (os : List Offer) → AllByRecursion (Kept at new) os → Ranked at os → Ranked new os
  ranked_again [] ks r = tt
  ranked_again (o ∷ os) ks r = (again o ks.0 os ks.1 r.0, ranked_again os ks.1 r.1)

-- an offer put in that comes after all others
module _ (at : ℕ → ℕ) (o : Offer) where
  dearer : (y : Offer) → o.price < y.price → (ys : List Offer) → AllByRecursion (λ z. cheaper y z ≡ true) ys → AllByRecursion (Ahead at o) ys
  dearer y lt [] a = tt
  dearer y lt (z ∷ zs) a =
      let le = leb-true y.price z.price a.0 in
      (record { price = omega arith; earlier = λ e. absurd (omega arith) }, dearer y lt zs a.1)

  ranked_behind : (os : List Offer) → InOrder cheaper os → AllByRecursion (λ y. at y.number < at o.number) os → Ranked at os → Ranked at (behind cheaper o os)
  ranked_behind [] ord early r = (tt, tt)
  ranked_behind (y ∷ ys) ord early r =
      cond_both (cheaper y o) (y ∷ behind cheaper o ys) (o ∷ y ∷ ys) (Ranked at)
      (λ t.
      let le = leb-true y.price o.price t in
      (all_behind cheaper (Ahead at y) o ys (record { price = le; earlier = λ _. early.0 }) r.0, ranked_behind ys ord.1 early.1 r.1))
      (λ f.
      let lt = leb-false y.price o.price f in
      ((record { price = omega arith; earlier = λ e. absurd (omega arith) }, dearer y lt ys ord.0), r))

-- an offer taken out
module _ (test : Offer → Bool) where
  all_out : (P : Offer → Type 0) (xs : List Offer) → AllByRecursion P xs → AllByRecursion P (without_first test xs)
  all_out P [] a = tt
  all_out P (x ∷ xs) a = cond_both (test x) xs (x ∷ without_first test xs) (AllByRecursion P) (λ _. a.1) (λ _. (a.0, all_out P xs a.1))

  order_out : (xs : List Offer) → InOrder cheaper xs → InOrder cheaper (without_first test xs)
  order_out [] r = tt
  order_out (x ∷ xs) r =
      cond_both (test x) xs (x ∷ without_first test xs) (InOrder cheaper) (λ _. r.1) (λ _. (all_out (λ z. cheaper x z ≡ true) xs r.0, order_out xs r.1))

  ranked_out : (at : ℕ → ℕ) (xs : List Offer) → Ranked at xs → Ranked at (without_first test xs)
  ranked_out at [] r = tt
  ranked_out at (x ∷ xs) r =
      cond_both (test x) xs (x ∷ without_first test xs) (Ranked at) (λ _. r.1) (λ _. (all_out (Ahead at x) xs r.0, ranked_out at xs r.1))

-- the offer found has the number, and no other has it
module _ (n : ℕ) (o : Offer) where
  found_number : (xs : List Offer) → first_that (has_number n) xs ≡ Some o → o.number ≡ n
  found_number [] e = let z : ◌≡◌ {A = ℕ} 0 1 = cc in absurd (omega arith)
  found_number (x ∷ xs) e =
      ⊎_elim
      (λ t. let here = cond-true (has_number n x) (Some x) (first_that (has_number n) xs) t in let same : x ≡ o = cc in ap (λ (y : Offer). y.number) (sym same) ∙ eqb-true x.number n t)
      (λ f. found_number xs (sym (cond-false (has_number n x) (Some x) (first_that (has_number n) xs) f) ∙ e))
      (cases_Bool (has_number n x))

others : (n : ℕ) (xs : List Offer) → Apart xs → AllByRecursion (λ x. x.number ≡ n → ⊥) (without_first (has_number n) xs)
others n [] d = tt
others n (x ∷ xs) d =
    cond_both (has_number n x) xs (x ∷ without_first (has_number n) xs) (AllByRecursion (λ z. z.number ≡ n → ⊥))
    (λ t. let is = eqb-true x.number n t in All-weaker (λ z. z.number ≡ x.number → ⊥) (λ z. z.number ≡ n → ⊥) (λ z h e. h (e ∙ sym is)) xs d.0)
    (λ f. ((λ e. false≢true (sym f ∙ eq-eqb x.number n e)), others n xs d.1))

-- the arrivals after a call, made at time k
abbrev after : Open → List Buyer → Model → call.Call → ℕ → (ℕ → ℕ) → ℕ → ℕ
after t bs m c k at x = cond (comes t bs m c x) k (at x)

-- what holds after each call: ranked by arrival, and each arrival is from 1 to before k
pub record Timed (m : Model) (k : ℕ) (at : ℕ → ℕ) : Type 0 where
  pub ranked : Ranked at m.list
  pub times : AllByRecursion (λ o. (1 ≤ at o.number) × (at o.number < k)) m.list

sound_told : (t : Open) (bs : List Buyer) (m : Model) (c : call.Call) → Sound m → Sound (told t 512 m c bs)
sound_told t bs m (calls.Enter e) s = sound_entered t 512 m e bs s
sound_told t bs m (calls.Change c) s = sound_changed t 512 m c s
sound_told t bs m (calls.Cancel c) s = sound_cancelled t 512 m c s

-- a list whose offers keep their arrivals
kept_timed : (k : ℕ) (at new : ℕ → ℕ) (os : List Offer) → AllByRecursion (Kept at new) os → AllByRecursion (λ o. (1 ≤ at o.number) × (at o.number < k)) os → AllByRecursion (λ o. (1 ≤ new o.number) × (new o.number < suc k)) os
kept_timed k at new [] ks a = tt
kept_timed k at new (o ∷ os) ks a = ((omega (arith, ks.0, a.0.0), omega (arith, ks.0, a.0.1)), kept_timed k at new os ks.1 a.1)

early : (k : ℕ) (at new : ℕ → ℕ) (n : ℕ) (os : List Offer) → new n ≡ k → AllByRecursion (Kept at new) os → AllByRecursion (λ o. (1 ≤ at o.number) × (at o.number < k)) os → AllByRecursion (λ y. new y.number < new n) os
early k at new n [] is ks a = tt
early k at new n (o ∷ os) is ks a = (omega (arith, ks.0, a.0.1), early k at new n os is ks.1 a.1)

-- an offer put in
put_in : (m : Model) (o : Offer) (xs : List Offer) (count time k : ℕ) (at new : ℕ → ℕ) → 1 ≤ k → InOrder cheaper xs → Ranked at xs → AllByRecursion (λ o. (1 ≤ at o.number) × (at o.number < k)) xs → AllByRecursion (Kept at new) xs → new o.number ≡ k → Timed (record { list = behind cheaper o xs; count = count; time = time }) (suc k) new
put_in m o xs count time k at new one ord r ts ks is = record {
  ranked = ranked_behind new o xs ord (early k at new o.number xs is ks ts) (ranked_again at new xs ks r);
  times = all_behind cheaper (λ y. (1 ≤ new y.number) × (new y.number < suc k)) o xs (omega arith, omega arith) (kept_timed k at new xs ks ts);
}

-- a judgement that refuses nothing passed its first test
pub passed : (n : ℕ) (b : Bool) (x : ℕ) → (n ≡ 0 → ⊥) → cond b n x ≡ 0 → (b ≡ false) × (x ≡ 0)
passed n true x ne z = absurd (ne z)
passed n false x ne z = (refl, z)

-- a change that is not refused finds its offer
found : (t : Open) (m : Model) (c : Change) → change_code t 512 m c ≡ 0 → (o : Offer) × (first_that (has_number c.number) m.list ≡ Some o)
found t m c z =
    let p5 = passed 5 (outside_window t c.time) _ (λ x. omega arith) z in
    let p6 = passed 6 (before_latest m c.time) _ (λ x. omega arith) p5.1 in
    let p7 = passed 7 (bad_price t c.price) _ (λ x. omega arith) p6.1 in
    let p8 = passed 8 (bad_lots c.lots) _ (λ x. omega arith) p7.1 in
    let p11 = passed 11 (not (is_some (standing 512 m.list c.number))) _ (λ x. omega arith) p8.1 in
    there (first_that (has_number c.number) m.list) p11.0
  where
    there : (r : Option Offer) → not (is_some r) ≡ false → (o : Offer) × (r ≡ Some o)
    there None f = absurd (false≢true (sym f))
    there (Some o) f = (o, refl)

everywhere : (P : Offer → Type 0) → ((o : Offer) → P o) → (os : List Offer) → AllByRecursion P os
everywhere P h [] = tt
everywhere P h (o ∷ os) = (h o, everywhere P h os)

-- a model whose offers keep their arrivals
same_timed : (m : Model) (k : ℕ) (at new : ℕ → ℕ) → AllByRecursion (Kept at new) m.list → Timed m k at → Timed m (suc k) new
same_timed m k at new ks h = record { ranked = ranked_again at new m.list ks h.ranked; times = kept_timed k at new m.list ks h.times }

module _ (t : Open) (bs : List Buyer) (m : Model) (k : ℕ) (at : ℕ → ℕ) (one : 1 ≤ k) (s : Sound m) (h : Timed m k at) where
  timed_entered : (e : Entry) → Timed (entered t 512 m e bs) (suc k) (after t bs m (calls.Enter e) k at)
  timed_entered e =
      let code = entry_code t 512 m e bs in
      let new = after t bs m (calls.Enter e) k at in
      let more : Model = record { list = behind cheaper (offered m e) m.list; count = m.count + 1; time = e.time } in
      cond_both (eqb code 0) more m (λ (x : Model). Timed x (suc k) new)
      (λ z.
      let ks = All-weaker (λ o. o.number < m.count) (Kept at new) (λ o lt. cond-false (comes t bs m (calls.Enter e) o.number) k (at o.number) (and_right (eqb code 0) (eqb m.count o.number) (ne_eqb m.count o.number (λ x. omega arith)))) m.list s.numbered in
      let is = cond-true (comes t bs m (calls.Enter e) m.count) k (at m.count) (and_from (eqb code 0) (eqb m.count m.count) z (eq-eqb m.count m.count refl)) in
      put_in m (offered m e) m.list (m.count + 1) e.time k at new one s.ordered h.ranked h.times ks is)
      (λ z. same_timed m k at new (everywhere (Kept at new) (λ o. cond-false (comes t bs m (calls.Enter e) o.number) k (at o.number) (and_left (eqb code 0) (eqb m.count o.number) z)) m.list) h)

  timed_changed : (c : Change) → Timed (changed t 512 m c) (suc k) (after t bs m (calls.Change c) k at)
  timed_changed c =
      let code = change_code t 512 m c in
      let new = after t bs m (calls.Change c) k at in
      let os = m.list in
      let xs = without c.number os in
      let test = has_number c.number in
      let more : Model = record { list = changed_list (standing 512 os c.number) c os; count = m.count; time = c.time } in
      cond_both (eqb code 0) more m (λ (x : Model). Timed x (suc k) new)
      (λ z.
      let there = found t m c (eqb-true code 0 z) in
      let o = there.0 in
      let number = found_number c.number o os there.1 in
      let ks = All-weaker (λ x. x.number ≡ c.number → ⊥) (Kept at new) (λ x ne. cond-false (comes t bs m (calls.Change c) x.number) k (at x.number) (and_right (eqb code 0) (eqb c.number x.number) (ne_eqb c.number x.number (λ e. ne (sym e))))) xs (others c.number os s.apart) in
      let is = cond-true (comes t bs m (calls.Change c) o.number) k (at o.number) (and_from (eqb code 0) (eqb c.number o.number) z (eq-eqb c.number o.number (sym number))) in
      let done = put_in m (repriced o c) xs m.count c.time k at new one (order_out test os s.ordered) (ranked_out test at os h.ranked) (all_out test (λ o. (1 ≤ at o.number) × (at o.number < k)) os h.times) ks is in
      let list : behind cheaper (repriced o c) xs ≡ changed_list (standing 512 os c.number) c os = ap (λ r. changed_list r c os) (sym there.1) in
      subst (λ (l : List Offer). Timed (record { list = l; count = m.count; time = c.time }) (suc k) new) list done)
      (λ z. same_timed m k at new (everywhere (Kept at new) (λ o. cond-false (comes t bs m (calls.Change c) o.number) k (at o.number) (and_left (eqb code 0) (eqb c.number o.number) z)) m.list) h)

  timed_cancelled : (c : Cancellation) → Timed (cancelled t 512 m c) (suc k) (after t bs m (calls.Cancel c) k at)
  timed_cancelled c =
      let code = cancel_code t 512 m c in
      let new = after t bs m (calls.Cancel c) k at in
      let os = m.list in
      let test = has_number c.number in
      let more : Model = record { list = without c.number os; count = m.count; time = c.time } in
      let keep : (l : List Offer) → AllByRecursion (Kept at new) l = everywhere (Kept at new) (λ o. cond-false (comes t bs m (calls.Cancel c) o.number) k (at o.number) (and_right (eqb code 0) false refl)) in
      cond_both (eqb code 0) more m (λ (x : Model). Timed x (suc k) new)
      (λ z. record {
        ranked = ranked_again at new (without c.number os) (keep (without c.number os)) (ranked_out test at os h.ranked);
        times = kept_timed k at new (without c.number os) (keep (without c.number os)) (all_out test (λ o. (1 ≤ at o.number) × (at o.number < k)) os h.times);
      })
      (λ z. same_timed m k at new (keep m.list) h)

  timed_told : (c : call.Call) → Timed (told t 512 m c bs) (suc k) (after t bs m c k at)
  timed_told (calls.Enter e) = timed_entered e
  timed_told (calls.Change c) = timed_changed c
  timed_told (calls.Cancel c) = timed_cancelled c

-- the arrivals after all calls
abbrev arrivals : Open → List Buyer → Model → ℕ → (ℕ → ℕ) → List call.Call → ℕ → ℕ
arrivals t bs m k at [] = at
arrivals t bs m k at (c ∷ cs) = arrivals t bs (told t 512 m c bs) (suc k) (after t bs m c k at) cs

abbrev tallied : Open → List Buyer → Model → List call.Call → Model
tallied t bs m cs = tally t 512 m (map (λ c. (c, bs)) cs)

module _ (t : Open) (bs : List Buyer) where
  timed_run : (cs : List call.Call) (m : Model) (k : ℕ) (at : ℕ → ℕ) → 1 ≤ k → Sound m → Timed m k at → (n : ℕ) × Timed (tallied t bs m cs) n (arrivals t bs m k at cs)
  timed_run [] m k at one s h = (k, h)
  timed_run (c ∷ cs) m k at one s h =
      timed_run cs (told t 512 m c bs) (suc k) (after t bs m c k at) (omega arith) (sound_told t bs m c s) (timed_told t bs m k at one s h c)

  -- the last of no calls before, or the first of the calls
  later : (c : call.Call) (cs : List call.Call) (m : Model) (x i : ℕ) → LastAt t bs (told t 512 m c bs) cs x i → LastAt t bs m (c ∷ cs) x (suc i)
  later c cs m x i l = record { came = l.came; last = last }
    where
      last : (j : ℕ) → suc i < j → ComesAt t bs m (c ∷ cs) x j → ⊥
      last zero lt h = omega arith
      last (suc j) lt h = l.last j (omega arith) h

  first_last : (c : call.Call) (cs : List call.Call) (m : Model) (x : ℕ) → comes t bs m c x ≡ true → ((j : ℕ) → ComesAt t bs (told t 512 m c bs) cs x j → ⊥) → LastAt t bs m (c ∷ cs) x 0
  first_last c cs m x is none = record { came = is; last = last }
    where
      last : (j : ℕ) → 0 < j → ComesAt t bs m (c ∷ cs) x j → ⊥
      last zero lt h = omega arith
      last (suc j) lt h = none j h

  never : (c : call.Call) (cs : List call.Call) (m : Model) (x : ℕ) → comes t bs m c x ≡ false → ((j : ℕ) → ComesAt t bs (told t 512 m c bs) cs x j → ⊥) → (j : ℕ) → ComesAt t bs m (c ∷ cs) x j → ⊥
  never c cs m x not_now none zero h = false≢true (sym not_now ∙ h)
  never c cs m x not_now none (suc j) h = none j h

  abbrev Tells : List call.Call → Model → ℕ → (ℕ → ℕ) → ℕ → Type 0
  Tells cs m k at x =
      ((i : ℕ) × LastAt t bs m cs x i × (arrivals t bs m k at cs x ≡ k + i))
      ⊎ (((j : ℕ) → ComesAt t bs m cs x j → ⊥) × (arrivals t bs m k at cs x ≡ at x))

  tells : (cs : List call.Call) (m : Model) (k : ℕ) (at : ℕ → ℕ) (x : ℕ) → Tells cs m k at x
  tells [] m k at x = inr ((λ j h. h), refl)
  tells (c ∷ cs) m k at x =
      ⊎_elim {C = Tells (c ∷ cs) m k at x}
      (λ r. inl (suc r.0, later c cs m x r.0 r.1, r.2 ∙ omega arith))
      (λ r.
      ⊎_elim {C = Tells (c ∷ cs) m k at x}
      (λ is. inl (0, first_last c cs m x is r.0, r.1 ∙ cond-true (comes t bs m c x) k (at x) is ∙ omega arith))
      (λ is. inr (never c cs m x is r.0, r.1 ∙ cond-false (comes t bs m c x) k (at x) is))
      (cases_Bool (comes t bs m c x)))
      (tells cs (told t 512 m c bs) (suc k) (after t bs m c k at) x)

  module _ (cs : List call.Call) where
    abbrev at_last : ℕ → ℕ
    at_last = arrivals t bs fresh 1 (λ _. 0) cs

    came_at : (x : ℕ) → 1 ≤ at_last x → (i : ℕ) × LastAt t bs fresh cs x i × (at_last x ≡ 1 + i)
    came_at x some = ⊎_elim (λ r. r) (λ r. absurd (omega (arith, r.1))) (tells cs fresh 1 (λ _. 0) x)

    before : (x y : Offer) → 1 ≤ at_last x.number → 1 ≤ at_last y.number → Ahead at_last x y → Before t bs fresh cs x y
    before x y sx sy a =
        let cx = came_at x.number sx in
        let cy = came_at y.number sy in
        record { price = a.price; earlier = λ e. (cx.0, cy.0, cx.1, cy.1, omega (arith, a.earlier e, cx.2, cy.2)) }

    all_before : (n : ℕ) (x : Offer) → 1 ≤ at_last x.number → (os : List Offer) → AllByRecursion (λ o. (1 ≤ at_last o.number) × (at_last o.number < n)) os → AllByRecursion (Ahead at_last x) os → AllByRecursion (Before t bs fresh cs x) os
    all_before n x some [] ts a = tt
    all_before n x some (o ∷ os) ts a = (before x o some ts.0.0 a.0, all_before n x some os ts.1 a.1)

    by_priority : (n : ℕ) (os : List Offer) → AllByRecursion (λ o. (1 ≤ at_last o.number) × (at_last o.number < n)) os → Ranked at_last os → ByPriority t bs fresh cs os
    by_priority n [] ts r = tt
    by_priority n (o ∷ os) ts r = (all_before n o ts.0.0 os ts.1 r.0, by_priority n os ts.1 r.1)

-- the model at first is sound
pub fresh_sound : Sound fresh
fresh_sound = record { ordered = tt; apart = tt; numbered = tt; few = omega arith; accepted = omega arith; prices = tt; lots = tt }

pub in_priority : InPriority
in_priority t bs cs =
    let run = timed_run t bs cs fresh 1 (λ _. 0) (omega arith) fresh_sound (record { ranked = tt; times = tt }) in
    by_priority t bs cs run.0 (tallied t bs fresh cs).list run.1.times run.1.ranked
