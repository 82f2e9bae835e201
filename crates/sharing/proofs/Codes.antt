-- What the numbers that judge ranks and claims tell.
use Rattle.std.proofs.Common.{◌≡◌, ℕ, Bool, true, false, cond, ◌&&◌, eqb, List, length, Ok, Err, Result, refl, ap, ◌∙◌, arith, MatchResult}
use Rattle.std.specs.List.{range_with_len}
use Rattle.std.proofs.lemmas.Bool.{eq-eqb, ne_eqb}
use Rattle.sharing.specs.declared.claim.Claim.{Claim}
use Rattle.sharing.specs.declared.refusal.Refusal.{Refusal}
use Rattle.sharing.specs.declared.refusal.Refusal.TheVariants.{Claims, RankCount, EqualRanks, Stride}
use Rattle.sharing.specs.Claims.{admissible, share_code}
use Rattle.sharing.specs.Distinct.{distinct}
use Rattle.sharing.specs.Draws.{ranks_code, standing}
use Rattle.sharing.specs.Register.{number_of, code_of}

-- a refusal has a number
pub numbered : (e : Refusal) → number_of e ≡ 0 → ⊥
numbered Claims z = omega arith
numbered RankCount z = omega arith
numbered EqualRanks z = omega arith
numbered Stride z = omega arith

pub full_code : (ranks : List ℕ) → length ranks ≡ 512 → ranks_code ranks ≡ cond (distinct ranks) 0 18
full_code ranks long = ap (λ (b : Bool). cond b (cond (distinct ranks) 0 18) 17) (eq-eqb (length ranks) 512 long)

stood : (n : ℕ) (ranks : List ℕ) → (n ≡ 0 → ⊥) → range_with_len 0 512 ≡ cond (eqb n 0) ranks (range_with_len 0 512)
stood n ranks ne = rw (ne_eqb n 0)

pub stands_on_own : (ranks : List ℕ) (e : Refusal) → number_of e ≡ ranks_code ranks → range_with_len 0 512 ≡ standing ranks
stands_on_own ranks e is = stood (ranks_code ranks) ranks (λ z. numbered e (is ∙ z))

accepted : (a b : Bool) → ◌≡◌ {A = ℕ} 0 (cond (a && b) 0 16) → a ≡ true
accepted true b z = refl
accepted false b z = absurd (omega arith)

-- accepted claims are admissible
pub accepted_claims : (cs : List Claim) (room : ℕ) → ◌≡◌ {A = ℕ} 0 (share_code cs room) → admissible cs ≡ true
accepted_claims cs room z = accepted (admissible cs) (eqb room (length cs)) z

-- what an accepted call gives
pub at_accepted : {T : Type 0} (r : Result T Refusal) (P : T → Type 0) (Q : Refusal → Type 0) (R : Type 0) → ((x : T) → P x → R) → code_of r ≡ 0 → MatchResult r P Q → R
at_accepted (Ok x) P Q R then z p = then x p
at_accepted (Err e) P Q R then z p = absurd (numbered e z)
