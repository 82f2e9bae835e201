-- The steps that the messages of a file ask for, in its reading.
use Rattle.std.proofs.Common.{◌≡◌, ℕ, Bool, true, false, cond, not, ◌&&◌, eqb, leb, List, [], ◌∷◌, length, drop, is_some, Ok, Err, Result, MatchResult, sym, refl, subst, arith}
use Rattle.std.proofs.lemmas.Bool.{and_from, and_parts, eq-eqb}
use Rattle.stages.specs.declared.opened.Open.{Open}
use Rattle.stages.specs.declared.particulars.Particulars.{Particulars}
use Rattle.stages.specs.declared.terms.Buyer.{Buyer}
use Rattle.stages.specs.declared.terms.Terms.{Terms}
use Rattle.stages.specs.Buyers.{all_have_lots, all_within, as_filed, demanded, lots_fit}
use Rattle.stages.specs.Filing.{AsFiled, buyers_fit_choice, choices_at, filing_code, ranges_fit}
use Rattle.stages.specs.Steps.{opening_code}
use Rattle.sharing.specs.Draws.{stride_code}
use Rattle.values.specs.declared.draw.DrawNumbers.{DrawNumbers}
use Rattle.messages.specs.declared.message.Message.TheVariants as says
use Rattle.messages.specs.Reading.{MessageStands}
use Rattle.faults.specs.declared.fault.ProgramFault.{ProgramFault}
use Rattle.faults.specs.declared.layer.Layer.TheVariants.{Rule}
use Rattle.faults.specs.Faults.{number_of, place_of}
use Rattle.replay.specs.Files.{Leads, Reads}
use Rattle.replay.specs.Files.Reads.{refused}
use Rattle.replay.specs.Files.Verdict.{Faulty}
use Rattle.replay.specs.Heading.{Refused}
use Rattle.replay.specs.Reading.{Buyers}
use Rattle.replay.specs.Running.{OpenedAt, faulted}
use Rattle.replay.specs.Stages.{Stage}
use Rattle.replay.specs.Stages.RefusedBy.{draw, filing, opening}
use Rattle.replay.specs.Stages.Stage.{Start, Filing, Drawn, Running}
use Rattle.replay.specs.Stages.Step.{files, opens}
use Rattle.replay.proofs.Walk.{past, stood}

-- a verdict by a rule is that of the refusal
pub ruled : (rest : List ℕ) (at n : ℕ) (s : Stage) (e : ProgramFault) → Refused n at e → Reads rest at s (Faulty Rule n at) → Reads rest at s (faulted e)
ruled rest at n s e h r =
    subst (λ l. Reads rest at s (Faulty l (number_of e) (place_of e))) (sym h.layer)
    (subst (λ m. Reads rest at s (Faulty Rule m (place_of e))) (sym h.number)
    (subst (λ p. Reads rest at s (Faulty Rule n p)) (sym h.at) r))

-- the opening at its place
pub opened : (file : List ℕ) (at then : ℕ) (p : Particulars) (base : ℕ) (r : Result Open ProgramFault) →
    MessageStands file at (record { place = at; message = says.Open base }) then →
    MatchResult r (λ o. (opening_code p base ≡ 0) × (o.particulars ≡ p) × (o.base ≡ base)) (λ e. Refused (opening_code p base) at e) → OpenedAt file at p r then
opened file at then p base (Ok o) f h = (
  h.1,
  λ t bs d filed. subst (λ b. Leads file at (Drawn t bs d) then (Running t bs d b [])) (sym h.2) (past file at then _ _ _ f (opens filed h.0)),
)
opened file at then p base (Err e) f h = λ t bs d filed. ruled (drop at file) at _ _ e h (refused (stood file at then _ f) (opening filed h.some))

-- the reading up to the draw
pub up_to_draw : (ys file : List ℕ) (from at : ℕ) (t : Terms) (bs : List Buyer) (d : DrawNumbers) (place then : ℕ) →
    ys ≡ file → Leads file from Start at (Filing t []) → Buyers ys at t bs d place then → Buyers file at t bs d place then × Leads file from Start place (Filing t bs)
up_to_draw ys file from at t bs d place then e before b =
    let c : Buyers file at t bs d place then = subst (λ z. Buyers z at t bs d place then) e b in
    (c, λ v rest. before v (c.leads v rest))

-- the filing is refused
pub not_filed : (ys file : List ℕ) (from at : ℕ) (t : Terms) (bs : List Buyer) (d : DrawNumbers) (place then : ℕ) (e : ProgramFault) →
    ys ≡ file → Leads file from Start at (Filing t []) → Buyers ys at t bs d place then → Refused (filing_code t bs) place e → Reads (drop from file) from Start (faulted e)
not_filed ys file from at t bs d place then e same before b h =
    let c = up_to_draw ys file from at t bs d place then same before b in
    c.1 _ (ruled (drop place file) place _ _ e h (refused (stood file place then _ c.0.found) (filing h.some)))

-- the draw is refused
pub not_drawn : (ys file : List ℕ) (from at : ℕ) (t : Terms) (bs : List Buyer) (d : DrawNumbers) (place then : ℕ) (e : ProgramFault) →
    ys ≡ file → Leads file from Start at (Filing t []) → Buyers ys at t bs d place then → filing_code t bs ≡ 0 → Refused (stride_code d.stride d.shift) place e →
    Reads (drop from file) from Start (faulted e)
not_drawn ys file from at t bs d place then e same before b passed h =
    let c = up_to_draw ys file from at t bs d place then same before b in
    c.1 _ (ruled (drop place file) place _ _ e h (refused (stood file place then _ c.0.found) (draw passed h.some)))

-- the tender is filed, and its draw made
pub drawn : (ys file : List ℕ) (from at : ℕ) (t : Terms) (bs : List Buyer) (d : DrawNumbers) (place then : ℕ) →
    ys ≡ file → Leads file from Start at (Filing t []) → Buyers ys at t bs d place then → filing_code t bs ≡ 0 → stride_code d.stride d.shift ≡ 0 →
    Leads file from Start then (Drawn t bs d)
drawn ys file from at t bs d place then same before b passed fair v rest =
    let c = up_to_draw ys file from at t bs d place then same before b in
    c.1 v (past file place then _ _ _ c.0.found (files passed fair) v rest)

-- lots that are within their range are some
some_lots : (bs : List Buyer) → all_within bs ≡ true → all_have_lots bs ≡ true
some_lots [] h = refl
some_lots (b ∷ bs) h =
    let parts = and_parts (leb 1 b.lots && leb b.lots 1000000) (all_within bs) h in
    and_from (leb 1 b.lots) (all_have_lots bs) (and_parts (leb 1 b.lots) (leb b.lots 1000000) parts.0).0 (some_lots bs parts.1)

-- a filing that is not refused has lots that fit
fitting : (a b c : Bool) → ◌≡◌ {A = ℕ} (cond (not a) 1 (cond (not b) 2 (cond (not c) 3 0))) 0 → c ≡ true
fitting a b true h = refl
fitting true true false h = absurd (omega (arith, h))
fitting true false false h = absurd (omega (arith, h))
fitting false b false h = absurd (omega (arith, h))

-- the buyers of a tender are those that it was filed for
pub filed_for : (t : Terms) (bs : List Buyer) (p : Particulars) → filing_code t bs ≡ 0 → AsFiled t bs p → as_filed p bs ≡ true
filed_for t bs p passed filed =
    let fits = fitting (is_some (choices_at t) && ranges_fit t) (buyers_fit_choice (choices_at t) bs) (lots_fit bs) passed in
    let within = (and_parts (all_within bs) (leb (demanded bs) 1000000) fits).0 in
    and_from (eqb (length bs) p.buyers) (eqb (demanded bs) p.demand && all_have_lots bs) (eq-eqb (length bs) p.buyers (sym filed.buyers))
    (and_from (eqb (demanded bs) p.demand) (all_have_lots bs) (eq-eqb (demanded bs) p.demand (sym filed.demand)) (some_lots bs within))
