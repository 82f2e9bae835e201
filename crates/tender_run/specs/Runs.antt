-- What the calls of a tender come to, and which runs are refused.
use Rattle.std.specs.Prelude.{ℕ, ◌+◌, cond, not, List, [], ◌∷◌, map, ◌==◌}
use Rattle.sharing.specs.declared.claim.Claim.{Claim}
use Rattle.sharing.specs.Shares.{proportional}
use Rattle.sharing.specs.TimeOrder.{in_turn}
use Rattle.stages.specs.declared.kind.Kind.{Kind}
use Rattle.stages.specs.declared.kind.Kind.TheVariants.{General, Financing}
use Rattle.stages.specs.declared.opened.Open.{Open}
use Rattle.stages.specs.declared.particulars.Particulars.{Particulars}
use Rattle.stages.specs.declared.terms.Buyer.{Buyer}
use Rattle.stages.specs.Buyers.{as_filed}
use Rattle.stages.specs.Kinds.{over_at}
use Rattle.stages.specs.Register.{first_of}
use Rattle.book.specs.declared.call.Call.{Call}
use Rattle.book.specs.Model.{Model, fresh}
use Rattle.book.specs.Told.{call_code, told, tally}
use Rattle.allotment.specs.Judgement.{wrong_places}

-- the calls, with the buyers as filed handed to each
abbrev pub with_buyers : List Buyer → List Call → List (Call × List Buyer)
with_buyers bs calls = map (λ c. (c, bs)) calls

-- the model after the calls, from a fresh book on 512 records
abbrev pub tallied : Open → List Buyer → List Call → Model
tallied t bs calls = tally t 512 fresh (with_buyers bs calls)

-- how many of the calls the model takes: those that are not refused, as it stands when each is made
abbrev pub taken_of : Open → ℕ → List Buyer → Model → List Call → ℕ
taken_of t n bs m [] = 0
taken_of t n bs m (c ∷ cs) = cond (call_code t n m c bs == 0) 1 0 + taken_of t n bs (told t n m c bs) cs

-- The judgement of a run. 13: the closing time is not after the window, or above the last second of the day. 14: a place of the
-- wrong size. 15: the buyers handed over are not those filed.
abbrev pub run_code : Particulars → ℕ → ℕ → ℕ → ℕ → List Buyer → ℕ
run_code p closing records fills rows bs =
    first_of (
    (13, not (over_at p.kind closing)) ∷
    (14, wrong_places records fills rows) ∷
    (15, not (as_filed p bs)) ∷
    []
    )

-- the sellers' rule of each kind of tender: proportional in a general one, time in a financing one
abbrev pub rule_of : Kind → (ℕ → ℕ) → List Claim → ℕ → List ℕ
rule_of General rank = proportional rank
rule_of Financing rank = in_turn
