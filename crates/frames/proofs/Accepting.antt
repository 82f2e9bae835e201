-- A frame of a known tag and its length is accepted, whatever stands behind it.
use Rattle.std.proofs.Common.{◌≡◌, ℕ, Bool, false, cond, not, List, ◌++◌, length, is_some, Some, Option, ap, ◌∙◌, arith}
use Rattle.std.proofs.lemmas.List.{length-append}
use Rattle.std.proofs.lemmas.Bool.{eq-eqb}
use Rattle.std.proofs.lemmas.Bool.Decides.{nat_tests}
use Rattle.frames.specs.declared.layout.Layout.{Layout}
use Rattle.frames.specs.Frames.{frame_bytes, said_length, cut_short, is_known, frame_code}
use Rattle.frames.specs.Layouts.{length_in}

pub whole_frame :
    (ls : List Layout) (tag n : ℕ) (value rest : List ℕ) →
    length value ≡ n →
    length_in ls tag ≡ Some n →
    frame_code ls (frame_bytes tag value ++ rest) ≡ 0
whole_frame ls tag n value rest long known =
    let bs = frame_bytes tag value ++ rest in
    let behind = length-append value rest in
    let says : said_length bs ≡ n = omega arith in
    let whole : cut_short bs ≡ false = grind (arith, nat_tests) in
    let there : not (is_some (length_in ls tag)) ≡ false = ap (λ (o : Option ℕ). not (is_some o)) known in
    let right : not (is_known (length_in ls tag) (said_length bs)) ≡ false =
    ap (λ (o : Option ℕ). not (is_known o (said_length bs))) known ∙ ap not (eq-eqb (said_length bs) n says) in
    ap (λ (b : Bool). cond b 20 (cond (not (is_some (length_in ls tag))) 21 (cond (not (is_known (length_in ls tag) (said_length bs))) 22 0))) whole
    ∙ ap (λ (b : Bool). cond b 21 (cond (not (is_known (length_in ls tag) (said_length bs))) 22 0)) there
    ∙ ap (λ (b : Bool). cond b 22 0) right
