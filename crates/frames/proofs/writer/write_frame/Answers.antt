use Rattle.std.proofs.Common.{◌≡◌, ◌/◌, ◌%◌, ◌≤◌, [], ◌∷◌, ◌++◌, length, get_or, vec_items, ap, ◌∙◌, arith, rules}
use Rattle.frames.proofs.Standing.{written}
use Rattle.frames.proofs.writer.write_frame.Goals as goal

pub returns : goal.returns
returns c =
    let value = c.args.value.now in
    let said : c.in-Ok.length ≡ length value = search rules in
    let short : length value ≤ 65535 = omega arith in
    let header = c.args.tag ∷ get_or c.to_be_bytes.result 0 0 ∷ get_or c.to_be_bytes.result 1 0 ∷ [] in
    let first = c.in_ok-extend_from_slice.ensures.items ∙ ap (λ xs. xs ++ header) c.reserve.ensures.items in (
      short,
      c.in_ok-extend_from_slice-2.ensures.items
          ∙ ap (λ xs. xs ++ value) first
          ∙ written (vec_items c.args.out.now) value c.to_be_bytes.result c.args.tag short (c.to_be_bytes.ensures ∙ ap (λ k. (k / 256 % 256) ∷ (k % 256) ∷ []) said),
    )
