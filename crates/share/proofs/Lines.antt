-- The lines of the claims where one of the two lists is at its end.
use Rattle.std.proofs.Common.{◌≡◌, ℕ, List, [], ◌∷◌, refl, ap, ◌∙◌, ◌⊎◌, ⊎_elim}
use Rattle.sharing.specs.declared.claim.Claim.{Claim}
use Rattle.share.specs.Report.{claim_lines}

no_shares : (cs : List Claim) → claim_lines cs [] ≡ []
no_shares [] = refl
no_shares (c ∷ cs) = refl

pub no_lines : (cs : List Claim) (shares : List ℕ) → (cs ≡ []) ⊎ (shares ≡ []) → claim_lines cs shares ≡ []
no_lines cs shares =
    ⊎_elim
    (λ (e : cs ≡ []). ap (λ (l : List Claim). claim_lines l shares) e)
    (λ (e : shares ≡ []). ap (claim_lines cs) e ∙ no_shares cs)
