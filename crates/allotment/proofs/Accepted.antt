-- Claims that are accepted.
use Rattle.std.proofs.Common.{◌≡◌, ℕ, true, ◌&&◌, eqb, List, length}
use Rattle.std.proofs.lemmas.Bool.{and_from, cond-true, eq-eqb}
use Rattle.sharing.specs.declared.claim.Claim.{Claim}
use Rattle.sharing.specs.Claims.{admissible, share_code}

pub accepts : (cs : List Claim) (room : ℕ) → admissible cs ≡ true → room ≡ length cs → share_code cs room ≡ 0
accepts cs room ok long = cond-true (admissible cs && eqb room (length cs)) 0 16 (and_from (admissible cs) (eqb room (length cs)) ok (eq-eqb room (length cs) long))
