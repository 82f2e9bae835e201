-- What the program answers to what it is asked.
use Rattle.std.specs.Prelude.{◌≡◌, ℕ, List, length, vec_items}
use Rattle.sharing.specs.Register.{number_of}
use Rattle.share.specs.declared.failure.Failure.{Failure}
use Rattle.share.specs.declared.failure.Failure.TheVariants.{Usage, Refused, Memory, Io}
use Rattle.share.specs.declared.request.Request.{Request}
use Rattle.share.specs.Report.{report_of}
use Rattle.share.specs.Rules.{shares_under, asked_code}

-- the number under which what is asked is refused, 0 where it is accepted
abbrev pub code : Request → ℕ
code q = let cs = vec_items q.claims in asked_code q.stride q.shift cs (length cs)

-- Accepted: the text tells the shares that the rule means.
pub record Answered (q : Request) (text : List ℕ) : Type 0 where
  pub accepted : code q ≡ 0
  pub told : let cs = vec_items q.claims in text ≡ report_of q.rule q.amount cs (shares_under q.rule q.stride q.shift cs q.amount)

-- Not answered: it is refused by its number, or memory is wanting.
abbrev pub Failed : Request → Failure → Type 0
Failed q Usage = ⊥
Failed q (Refused e) = number_of e ≡ code q
Failed q Memory = Unit {0}
Failed q Io = ⊥
