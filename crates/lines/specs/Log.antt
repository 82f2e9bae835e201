-- The log line of a report, and the line of a fault.
use Rattle.std.specs.Prelude.{◌≡◌, ℕ, List, [], ◌∷◌, ◌++◌, Some, codes, decimal}
use Rattle.stages.specs.declared.kind.Kind.{Kind}
use Rattle.stages.specs.declared.kind.Kind.TheVariants.{General}
use Rattle.stages.specs.declared.method.Method.{Method}
use Rattle.stages.specs.declared.method.Method.TheVariants.{OnePrice}
use Rattle.stages.specs.declared.shortfall.Shortfall.{Shortfall}
use Rattle.stages.specs.declared.shortfall.Shortfall.TheVariants.{Take}
use Rattle.stages.specs.Kinds.{method_number, row_of, shortfall_letter}
use Rattle.allotment.specs.declared.tender.Allotted.{Allotted}
use Rattle.tender_run.specs.declared.running.Outcome.{Outcome}
use Rattle.faults.specs.declared.fault.ProgramFault.{ProgramFault}
use Rattle.replay.specs.declared.report.Report.{Report}
use Rattle.faults.specs.Words.{fault_words}
use Rattle.lines.specs.Parts.{price_text}

-- KIND METHOD SHORTFALL
abbrev pub choices_text : Kind → Method → Shortfall → List ℕ
choices_text kind method shortfall = (row_of kind).letter ∷ (codes " " ++ (decimal (method_number method) ++ (codes " " ++ shortfall_letter shortfall ∷ [])))

-- due DUE price PRICE total RECEIPTS fee FEE
abbrev pub figures_text : Allotted → List ℕ
figures_text a =
    codes "due "
    ++ (decimal a.due ++ (codes " price " ++ (price_text a.price ++ (codes " total " ++ (decimal a.receipts ++ (codes " fee " ++ decimal a.fee))))))

-- CHOICES FIGURES accepted CALLS refused CALLS
abbrev pub log_line : Kind → Method → Shortfall → Outcome → List ℕ
log_line kind method shortfall o =
    choices_text kind method shortfall
    ++ (codes " " ++ (figures_text o.allotted ++ (codes " accepted " ++ (decimal o.accepted ++ (codes " refused " ++ (decimal o.refused ++ codes "\n"))))))

-- the log line of a report
abbrev pub line_of : Report → List ℕ
line_of r = log_line r.particulars.kind r.particulars.method r.particulars.shortfall r.outcome

-- The line of a general tender at one price that takes what there is: 10 lots due at 4,100 for 41,000,000 with a fee of 20,500, after
-- 5 calls accepted and 1 refused.
abbrev pub BookALine : Type 0
BookALine =
    (standing : ℕ) →
    log_line General OnePrice Take
    (record { allotted = record { due = 10; price = Some 4100; receipts = 41000000; fee = 20500 }; accepted = 5; refused = 1; standing = standing })
    ≡ codes "G 1 T due 10 price 4100 total 41000000 fee 20500 accepted 5 refused 1\n"

-- fault LAYER NUMBER at PLACE
abbrev pub fault_line_of : ProgramFault → List ℕ
fault_line_of e = fault_words e ++ codes "\n"
