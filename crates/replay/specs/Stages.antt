-- How far a tender file has been read, and which message may come next.
use Rattle.std.specs.Prelude.{◌≡◌, ℕ, ◌<◌, Bool, true, false, ◌&&◌, ◌||◌, List, [], ◌∷◌, ◌++◌, length, ◌==◌, nat_le, nat_lt}
use Rattle.stages.specs.declared.particulars.Particulars.{Particulars}
use Rattle.stages.specs.declared.terms.Buyer.{Buyer}
use Rattle.stages.specs.declared.terms.Terms.{Terms}
use Rattle.stages.specs.Filing.{AsFiled, filing_code}
use Rattle.stages.specs.Steps.{closing_code, opening_code}
use Rattle.sharing.specs.Draws.{stride_code}
use Rattle.book.specs.declared.call.Call.{Call}
use Rattle.values.specs.declared.draw.DrawNumbers.{DrawNumbers}
use Rattle.messages.specs.declared.message.Message.{Message}
use Rattle.messages.specs.declared.message.Message.TheVariants as says

-- What a whole tender file says.
pub record Script : Type 0 where
  pub terms : Terms
  pub buyers : List Buyer
  pub draw : DrawNumbers
  pub base : ℕ
  pub calls : List Call
  pub closing : ℕ

-- how far a file has been read
pub data Stage : Type 0 where
  -- nothing
  Start : Stage
  -- the terms, and these buyers
  Filing : Terms → List Buyer → Stage
  -- the draw: the tender is filed
  Drawn : Terms → List Buyer → DrawNumbers → Stage
  -- the base price: the tender is open, and these calls were made
  Running : Terms → List Buyer → DrawNumbers → ℕ → List Call → Stage
  -- the closing time
  Over : Script → Stage

-- the file may end here
abbrev pub over : Stage → Bool
over Start = false
over (Filing t bs) = false
over (Drawn t bs d) = false
over (Running t bs d base cs) = false
over (Over s) = true

-- Whether a message of the tag may come in the stage: the terms (1), up to eight buyers (2), the draw (8), the base price (3), any
-- calls (4 to 6), the closing (7).
abbrev pub in_order : Stage → ℕ → Bool
in_order Start tag = tag == 1
in_order (Filing t bs) tag = (tag == 2 && nat_lt (length bs) 8) || tag == 8
in_order (Drawn t bs d) tag = tag == 3
in_order (Running t bs d base cs) tag = nat_le 4 tag && nat_le tag 7
in_order (Over s) tag = false

-- What a message asks for is refused in the stage by a number: the filing and then the draw at the draw's frame, the opening and the
-- closing of the tender that was filed. A refused call is counted, and is no fault.
pub data RefusedBy : Stage → Message → ℕ → Type 0 where
  filing : {t : Terms} {bs : List Buyer} {d : DrawNumbers} → 0 < filing_code t bs → RefusedBy (Filing t bs) (says.Draw d) (filing_code t bs)
  draw : {t : Terms} {bs : List Buyer} {d : DrawNumbers} →
      filing_code t bs ≡ 0 → 0 < stride_code d.stride d.shift → RefusedBy (Filing t bs) (says.Draw d) (stride_code d.stride d.shift)
  opening : {t : Terms} {bs : List Buyer} {d : DrawNumbers} {p : Particulars} {base : ℕ} →
      AsFiled t bs p → 0 < opening_code p base → RefusedBy (Drawn t bs d) (says.Open base) (opening_code p base)
  closing : {t : Terms} {bs : List Buyer} {d : DrawNumbers} {p : Particulars} {base : ℕ} {cs : List Call} {time : ℕ} →
      AsFiled t bs p → 0 < closing_code p time → RefusedBy (Running t bs d base cs) (says.Close time) (closing_code p time)

-- The stage that a message in its order, and not refused, leads to.
pub data Step : Stage → Message → Stage → Type 0 where
  terms : {t : Terms} → Step Start (says.Terms t) (Filing t [])
  buyer : {t : Terms} {bs : List Buyer} {b : Buyer} → length bs < 8 → Step (Filing t bs) (says.Buyer b) (Filing t (bs ++ b ∷ []))
  files : {t : Terms} {bs : List Buyer} {d : DrawNumbers} →
      filing_code t bs ≡ 0 → stride_code d.stride d.shift ≡ 0 → Step (Filing t bs) (says.Draw d) (Drawn t bs d)
  opens : {t : Terms} {bs : List Buyer} {d : DrawNumbers} {p : Particulars} {base : ℕ} →
      AsFiled t bs p → opening_code p base ≡ 0 → Step (Drawn t bs d) (says.Open base) (Running t bs d base [])
  call : {t : Terms} {bs : List Buyer} {d : DrawNumbers} {base : ℕ} {cs : List Call} {c : Call} →
      Step (Running t bs d base cs) (says.Call c) (Running t bs d base (cs ++ c ∷ []))
  closes : {t : Terms} {bs : List Buyer} {d : DrawNumbers} {p : Particulars} {base : ℕ} {cs : List Call} {time : ℕ} →
      AsFiled t bs p → closing_code p time ≡ 0 →
      Step (Running t bs d base cs) (says.Close time) (Over (record { terms = t; buyers = bs; draw = d; base = base; calls = cs; closing = time }))
