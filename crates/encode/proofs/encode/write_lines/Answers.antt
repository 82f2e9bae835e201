use Rattle.std.proofs.Common.{ℕ, List, [], ◌++◌, vec_items, sym, ap, ◌∙◌, arith}
use lib.ListN.{get_or-map}
use Rattle.std.proofs.lemmas.List.{append_assoc, length-map, take_all}
use Rattle.std.proofs.lemmas.Result.{err_from_is_err_and}
use Rattle.encode.specs.Files.{line_bytes, file_bytes}
use Rattle.encode.specs.Pieces.{told}
use Rattle.encode.proofs.Filing.{file_more, file_broken}
use Rattle.encode.proofs.encode.write_lines.Goals as goal

pub returns-in_err-write_line : goal.returns-in_err-write_line
returns-in_err-write_line c =
    let p = err_from_is_err_and c.from_residual.result c.from_residual.ensures.1 in
    let refs = c.args.lines.now in
    let long = length-map refs (λ r. r.now) in
    let here = sym (get_or-map (λ r. r.now) refs c.loop-i.i (record { ref_ptr = (0, 0); now = [] })) in
    rw (p.1, p.2)
    (file_broken (told refs) c.loop-i.i _ (vec_items c.args.out.now) (vec_items c.write_line.new.out) c.loop-i.invariant.0 (vec_items c.loop-i.out) _ (omega (arith, long)) here c.loop-i.invariant.1 c.in_err-write_line.ensures)

pub loop-i-preserved : goal.loop-i-preserved
loop-i-preserved c =
    let refs = c.args.lines.now in
    let i = c.loop-i.i in
    let long = length-map refs (λ r. r.now) in
    let here = sym (get_or-map (λ r. r.now) refs i (record { ref_ptr = (0, 0); now = [] })) in
    let wrote = c.in_ok-write_line.ensures in
    let bs = c.loop-i.invariant.0 in
    let more = wrote.0 in (
      bs ++ more,
      file_more (told refs) i bs more (omega (arith, long)) c.loop-i.invariant.1 (ap line_bytes (sym here) ∙ wrote.1),
      wrote.2 ∙ ap (λ (l : List ℕ). l ++ more) c.loop-i.invariant.2 ∙ append_assoc (vec_items c.args.out.now) bs more,
    )

pub returns : goal.returns
returns c =
    let lines = told c.args.lines.now in
    let long = length-map c.args.lines.now (λ r. r.now) in
    (c.loop-i.invariant.0, ap file_bytes (sym (take_all c.loop-i.i lines (omega (arith, long)))) ∙ c.loop-i.invariant.1, c.loop-i.invariant.2)
