-- The end of a file: the closing, and what stands behind it.
use Rattle.std.proofs.Common.{◌≡◌, ℕ, ◌≤◌, List, [], length, drop, sym, subst}
use Rattle.std.proofs.lemmas.List.{drop_all}
use Rattle.stages.specs.declared.particulars.Particulars.{Particulars}
use Rattle.stages.specs.declared.terms.Buyer.{Buyer}
use Rattle.stages.specs.declared.terms.Terms.{Terms}
use Rattle.stages.specs.Filing.{AsFiled}
use Rattle.stages.specs.Steps.{closing_code}
use Rattle.book.specs.declared.call.Call.{Call}
use Rattle.values.specs.declared.draw.DrawNumbers.{DrawNumbers}
use Rattle.faults.specs.declared.fault.OrderFault.{OrderFault}
use Rattle.faults.specs.declared.fault.ProgramFault.{ProgramFault}
use Rattle.replay.specs.Files.{Leads, Reads}
use Rattle.replay.specs.Files.Reads.{done, refused}
use Rattle.replay.specs.Files.Verdict.{Ran}
use Rattle.replay.specs.Heading.{Refused}
use Rattle.replay.specs.Reading.{Calls, Stops, order_fault}
use Rattle.replay.specs.Running.{faulted, script_of}
use Rattle.replay.specs.Stages.{Script}
use Rattle.replay.specs.Stages.RefusedBy.{closing}
use Rattle.replay.specs.Stages.Stage.{Running, Over}
use Rattle.replay.specs.Stages.Step.{closes}
use Rattle.replay.proofs.Heads.{ruled}
use Rattle.replay.proofs.Walk.{past, stood}

-- the closing is refused
pub not_closed : (file : List ℕ) (from : ℕ) (t : Terms) (bs : List Buyer) (d : DrawNumbers) (p : Particulars) (base : ℕ) (cs : List Call) (time place then : ℕ) (e : ProgramFault) →
    Calls file from t bs d base cs time place then → AsFiled t bs p → Refused (closing_code p time) place e → Reads (drop from file) from (Running t bs d base []) (faulted e)
not_closed file from t bs d p base cs time place then e c filed h =
    c.leads _ (ruled (drop place file) place _ _ e h (refused (stood file place then _ c.found) (closing filed h.some)))

-- the closing is taken
pub closed : (file : List ℕ) (from : ℕ) (t : Terms) (bs : List Buyer) (d : DrawNumbers) (p : Particulars) (base : ℕ) (cs : List Call) (time place then : ℕ) →
    Calls file from t bs d base cs time place then → AsFiled t bs p → closing_code (p) time ≡ 0 → Leads file from (Running t bs d base []) then (Over (script_of t bs d base cs time))
closed file from t bs d p base cs time place then c filed passed v rest = c.leads v (past file place then _ _ _ c.found (closes filed passed) v rest)

-- something stands behind the closing
pub not_ended : (ys file : List ℕ) (from : ℕ) (t : Terms) (bs : List Buyer) (d : DrawNumbers) (p : Particulars) (base : ℕ) (cs : List Call) (time place then : ℕ) (e : OrderFault) →
    ys ≡ file → Calls file from t bs d base cs time place then → AsFiled t bs p → closing_code (p) time ≡ 0 → ((s : Script) → Stops ys then (Over s) e) →
    Reads (drop from file) from (Running t bs d base []) (order_fault e)
not_ended ys file from t bs d p base cs time place then e same c filed passed stops =
    closed file from t bs d p base cs time place then c filed passed _ (subst (λ z. Stops z then (Over (script_of t bs d base cs time)) e) same (stops _))

-- the file ends behind the closing
pub ended_well : (ys file : List ℕ) (from : ℕ) (t : Terms) (bs : List Buyer) (d : DrawNumbers) (p : Particulars) (base : ℕ) (cs : List Call) (time place then : ℕ) →
    ys ≡ file → Calls file from t bs d base cs time place then → AsFiled t bs p → closing_code (p) time ≡ 0 → length ys ≤ then →
    Reads (drop from file) from (Running t bs d base []) (Ran (script_of t bs d base cs time))
ended_well ys file from t bs d p base cs time place then same c filed passed end =
    closed file from t bs d p base cs time place then c filed passed _
    (subst (λ zs. Reads zs then (Over (script_of t bs d base cs time)) (Ran (script_of t bs d base cs time))) (sym (drop_all then file (subst (λ z. length z ≤ then) same end))) done)
