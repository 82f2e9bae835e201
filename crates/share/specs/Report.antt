-- The text that tells what was shared out.
use Rattle.std.specs.Prelude.{ℕ, min, List, [], ◌∷◌, ◌++◌, length, codes, decimal, sum}
use Rattle.sharing.specs.Claims.{claimed}
use Rattle.sharing.specs.Totals.{capped}
use Rattle.sharing.specs.declared.claim.Claim.{Claim}
use Rattle.share.specs.declared.rule.Rule.{Rule}
use Rattle.share.specs.Rules.{rule_word}

-- RULE shares A of K lots among N claims
abbrev pub heading : List ℕ → ℕ → ℕ → ℕ → List ℕ
heading word shared all count =
    word
    ++ (codes " shares " ++ (decimal shared ++ (codes " of " ++ (decimal all ++ (codes " lots among " ++ (decimal count ++ codes " claims\n"))))))

-- claim NUMBER lots LOTS gets SHARE
abbrev pub claim_line : Claim → ℕ → List ℕ
claim_line c share =
    codes "claim " ++ (decimal c.number ++ (codes " lots " ++ (decimal c.lots ++ (codes " gets " ++ (decimal share ++ codes "\n")))))

abbrev pub claim_lines : List Claim → List ℕ → List ℕ
claim_lines [] shares = []
claim_lines (c ∷ cs) [] = []
claim_lines (c ∷ cs) (s ∷ shares) = claim_line c s ++ claim_lines cs shares

-- total T
abbrev pub total_line : ℕ → List ℕ
total_line total = codes "total " ++ (decimal total ++ codes "\n")

-- The whole text: what is shared out of how much, a line for each claim, and what the shares come to.
abbrev pub report_of : Rule → ℕ → List Claim → List ℕ → List ℕ
report_of rule amount cs shares =
    let all = capped (claimed cs) in
    heading (rule_word rule) (min amount all) all (length cs) ++ (claim_lines cs shares ++ total_line (capped (sum shares)))
