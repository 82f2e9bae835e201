-- What a result was before its error was made another.
use Rattle.std.proofs.Common.{◌≡◌, Ok, Err, Result, sym, ◌∙◌, subst}
use Rattle.std.specs.Result.{IsErrAnd, MatchResult}

pub mapped_ok : {T E D : Type 0} (Q : E → D → Type 0) (r : Result T E) (s : Result T D) (x : T) →
    MatchResult r (λ x. s ≡ Ok x) (λ e. IsErrAnd s (Q e)) → s ≡ Ok x → r ≡ Ok x
mapped_ok Q (Ok y) s x h is = let e = sym h ∙ is in cc
mapped_ok Q (Err e) s x h is = absurd (subst (λ t. IsErrAnd t (Q e)) is h)
