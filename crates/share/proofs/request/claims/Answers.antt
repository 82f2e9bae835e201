use Rattle.std.proofs.Common.{◌≡◌, ℕ, ◌<◌, List, [], ◌∷◌, ◌++◌, map, length, get_or, vec_items, string_bytes, sym, ap, ◌∙◌, arith}
use Rattle.std.proofs.lemmas.List.{length-map}
use Rattle.sharing.proofs.Queue.{lined_more}
use Rattle.sharing.specs.declared.claim.Claim.{Claim}
use Rattle.share.specs.Asked.{claim_at, numeral}
use Rattle.share.proofs.Reading.{word_at}
use Rattle.share.proofs.request.claims.Goals as goal

abbrev make : ℕ → ℕ → Claim
make number lots = record { number = number; lots = lots }

pub loop-place-preserved : goal.loop-place-preserved
loop-place-preserved c =
    let words = map string_bytes c.args.lots.now in
    let i = c.loop-place.place in
    let word = string_bytes c.index-lots-place.result in
    let long = length-map c.args.lots.now string_bytes in
    let lt : i < length words = omega (arith, c.loop-place-test.true) in
    let there : get_or words i [] ≡ word = word_at string_bytes c.args.lots.now i c.index-lots-place.result c.loop-place-test.true c.index-lots-place.is in
    let lots_is : c.in_ok-lots.lots ≡ numeral word = c.in_ok-lots.ensures.value.0.1 ∙ ap numeral c.as_str.ensures.value in
    let claim_is = ap (λ (n : ℕ). make n c.in_ok-lots.lots) c.number.ensures ∙ ap (make _) lots_is ∙ ap (claim_at i) (sym there) in
    c.in_ok-push.ensures.items
    ∙ ap (λ (x : Claim). vec_items c.loop-place.claims ++ x ∷ []) claim_is
    ∙ ap (λ (xs : List Claim). xs ++ claim_at i (get_or words i []) ∷ []) c.loop-place.invariant
    ∙ sym (lined_more claim_at words i [] lt)
