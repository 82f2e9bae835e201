-- The rules by their words, and what each means under a stride draw.
use Rattle.std.specs.Prelude.{ℕ, cond, List, Some, None, codes, Option, ◌==◌}
use Rattle.std.specs.Str.{bytes_eq}
use Rattle.sharing.specs.Claims.{share_code}
use Rattle.sharing.specs.Draws.{stridden, stride_code}
use Rattle.sharing.specs.Shares.{proportional, largest_remainder}
use Rattle.sharing.specs.TimeOrder.{in_turn}
use Rattle.sharing.specs.declared.claim.Claim.{Claim}
use Rattle.share.specs.declared.rule.Rule.{Rule}
use Rattle.share.specs.declared.rule.Rule.TheVariants.{Proportional, Remainder, Time}

abbrev pub rule_word : Rule → List ℕ
rule_word Proportional = codes "proportional"
rule_word Remainder = codes "remainder"
rule_word Time = codes "time"

-- the rule of that name
abbrev pub named : List ℕ → Option Rule
named word =
    cond (bytes_eq word (rule_word Proportional)) (Some Proportional)
    (cond (bytes_eq word (rule_word Remainder)) (Some Remainder) (cond (bytes_eq word (rule_word Time)) (Some Time) None))

-- the shares under a rule, by a stride draw where the rule draws
abbrev pub shares_under : Rule → ℕ → ℕ → List Claim → ℕ → List ℕ
shares_under Proportional stride shift = proportional (stridden stride shift)
shares_under Remainder stride shift = largest_remainder (stridden stride shift)
shares_under Time stride shift = in_turn

-- stride and shift are asked first, for every rule, and then the claims
abbrev pub asked_code : ℕ → ℕ → List Claim → ℕ → ℕ
asked_code stride shift cs room = cond (stride_code stride shift == 0) (share_code cs room) (stride_code stride shift)
