-- The parts of a run of a file, joined.
use Rattle.std.proofs.Common.{◌≡◌, ℕ, ◌<◌, ◌≤◌, List, [], length, drop, sym, refl, subst}
use Rattle.stages.specs.declared.opened.Open.{Open}
use Rattle.stages.specs.declared.particulars.Particulars.{Particulars}
use Rattle.stages.specs.declared.terms.Buyer.{Buyer}
use Rattle.stages.specs.declared.terms.Terms.{Terms}
use Rattle.stages.specs.Filing.{AsFiled}
use Rattle.sharing.specs.Draws.{stridden}
use Rattle.sharing.specs.Shares.{largest_remainder}
use Rattle.tender_run.specs.Promise.{RunPromise}
use Rattle.tender_run.specs.Runs.{rule_of}
use Rattle.frames.specs.declared.fault.FrameFault.{FrameFault}
use Rattle.frames.specs.declared.fault.FrameFault.TheVariants.{TooLong}
use Rattle.frames.specs.Faults.{number_of, place_of}
use Rattle.values.specs.declared.draw.DrawNumbers.{DrawNumbers}
use Rattle.faults.specs.declared.fault.ProgramFault.{ProgramFault}
use Rattle.replay.specs.declared.heading.Drawing.{Drawing}
use Rattle.replay.specs.declared.running.Ran.{Ran as RanCalls}
use Rattle.replay.specs.declared.report.Report.{Report}
use Rattle.faults.specs.declared.layer.Layer.TheVariants.{Frame}
use Rattle.replay.specs.Files.{ComesTo, Leads, Reads, Verdict}
use Rattle.replay.specs.Files.ComesTo.{read, too_long}
use Rattle.replay.specs.Files.Verdict.{Faulty, Ran}
use Rattle.replay.specs.Running.{RunRead, RunStops, TenderRead, Told, faulted, script_of}
use Rattle.replay.specs.Stages.Stage.{Start, Drawn, Running}
use Rattle.replay.proofs.Encoded.{encoded}

-- a file that is too long
pub over_long : (file : List ℕ) (e : FrameFault) → 65536 < length file → e ≡ TooLong → ComesTo file (Faulty Frame (number_of e) (place_of e))
over_long file e far is = subst (λ e. ComesTo file (Faulty Frame (number_of e) (place_of e))) (sym is) (too_long far)

-- what is read from the start
from_start : (file : List ℕ) (at : ℕ) (v : Verdict) → at ≡ 0 → Reads (drop at file) at Start v → Reads file 0 Start v
from_start file at v start r = subst (λ n. Reads (drop n file) n Start v) start r

pub comes : (file : List ℕ) (at : ℕ) (v : Verdict) → length file ≤ 65536 → at ≡ 0 → Reads (drop at file) at Start v → ComesTo file v
comes file at v short start r = read short (from_start file at v start r)

-- the opening comes to a fault
pub not_opened : (file ys : List ℕ) (at then : ℕ) (d : Drawing) (e : ProgramFault) → length file ≤ 65536 → at ≡ 0 → ys ≡ file →
    TenderRead file at d then →
    ((t : Terms) (bs : List Buyer) (n : DrawNumbers) → AsFiled t bs d.filed.particulars → Reads (drop then ys) then (Drawn t bs n) (faulted e)) → ComesTo file (faulted e)
not_opened file ys at then d e short start same head stops =
    comes file at _ short start (head.leads _ (subst (λ z. Reads (drop then z) then (Drawn head.terms d.buyers.items head.numbers) (faulted e)) same (stops _ _ _ head.filed)))

-- The reading up to the opening.
up_to_calls : (file ys : List ℕ) (at mid then : ℕ) (d : Drawing) (tender : Open) → ys ≡ file → (head : TenderRead file at d mid) →
    ((t : Terms) (bs : List Buyer) (n : DrawNumbers) → AsFiled t bs d.filed.particulars → Leads ys mid (Drawn t bs n) then (Running t bs n tender.base [])) →
    Leads file at Start then (Running head.terms d.buyers.items head.numbers tender.base [])
up_to_calls file ys at mid then d tender same head opens v rest =
    head.leads v
    (subst (λ z. Leads z mid (Drawn head.terms d.buyers.items head.numbers) then (Running head.terms d.buyers.items head.numbers tender.base []))
    same (opens _ _ _ head.filed) v rest)

-- the run comes to a fault
pub not_run : (file ys zs : List ℕ) (at mid then : ℕ) (d : Drawing) (tender : Open) (e : ProgramFault) → length file ≤ 65536 → at ≡ 0 → ys ≡ file → zs ≡ file →
    TenderRead file at d mid →
    ((t : Terms) (bs : List Buyer) (n : DrawNumbers) → AsFiled t bs d.filed.particulars → Leads ys mid (Drawn t bs n) then (Running t bs n tender.base [])) →
    tender.particulars ≡ d.filed.particulars → RunStops zs then tender d.buyers.items e → ComesTo file (faulted e)
not_run file ys zs at mid then d tender e short start same after head opens is stops =
    comes file at _ short start
    (up_to_calls file ys at mid then d tender same head opens _
    (subst (λ z. Reads (drop then z) then (Running head.terms d.buyers.items head.numbers tender.base []) (faulted e)) after (stops _ _ (subst (λ q. AsFiled head.terms d.buyers.items q) (sym is) head.filed))))

-- the file is run
pub told : (file ys zs : List ℕ) (at mid then : ℕ) (d : Drawing) (tender : Open) (p : Particulars) (r : RanCalls) →
    length file ≤ 65536 → at ≡ 0 → ys ≡ file → zs ≡ file → TenderRead file at d mid → tender.particulars ≡ d.filed.particulars →
    ((t : Terms) (bs : List Buyer) (n : DrawNumbers) → AsFiled t bs d.filed.particulars → Leads ys mid (Drawn t bs n) then (Running t bs n tender.base [])) → p ≡ tender.particulars →
    RunRead zs then (stridden d.draw.stride d.draw.shift) tender d.buyers.items r →
    Told file (record { particulars = p; outcome = r.outcome; offers = r.offers; fills = r.fills; buyers = d.buyers; rows = r.rows })
told file ys zs at mid then d tender p r short start same after head is opens given run =
    let bs = d.buyers.items in
    let filed : AsFiled head.terms bs tender.particulars = subst (λ q. AsFiled head.terms bs q) (sym is) head.filed in
    let script = script_of head.terms bs head.numbers tender.base run.calls run.closing in
    let all : Reads file 0 Start (Ran script) =
    from_start file at _ start
    (up_to_calls file ys at mid then d tender same head opens _
    (subst (λ z. Reads (drop then z) then (Running head.terms bs head.numbers tender.base []) (Ran script)) after (run.reads _ _ filed))) in
    let P : ℕ → ℕ → Type 0 =
    λ a b. RunPromise (rule_of tender.particulars.kind (stridden a b)) (largest_remainder (stridden a b)) tender run.calls bs r.outcome r.offers.items r.fills r.rows in
    record {
      script = script;
      tender = tender;
      comes = read short all;
      bytes = encoded all;
      filed = filed;
      base = refl;
      particulars = given;
      buyers_filed = refl;
      run = subst (λ n. P head.numbers.stride n) head.shift (subst (λ n. P n d.draw.shift) head.stride run.promised.promise);
      offers = run.promised.offers;
    }

-- the same of the file that the reader reads
pub told_of : {xs file : List ℕ} {r : Report} → xs ≡ file → Told xs r → Told file r
told_of {r = r} e = subst (λ f. Told f r) e
