-- One turn of the loop that writes the rows of buyers.
use Rattle.std.proofs.Common.{◌≡◌, ℕ, ◌+◌, ◌-◌, ◌<◌, Bool, List, [], ◌∷◌, ◌++◌, length, get_or, take, drop, set, sym, ap, ◌∙◌, arith}
use Rattle.std.proofs.lemmas.List.{take_more_set, drop_more, drop-drop, drop-set-lt, append_assoc}
use Rattle.allotment_theory.specs.Receipts.{part}
use Rattle.allotment.specs.declared.pay.BuyerRow.{BuyerRow}
use Rattle.allotment.specs.Rows.{rows_from}

pub step :
    (r due : ℕ) (billed : Bool) (ls : List ℕ) (rows : List BuyerRow) (i before : ℕ) (row : BuyerRow) →
    i < length rows →
    i < length ls →
    row ≡ record { lots = get_or ls i 0; payment = part r due (before + get_or ls i 0) - part r due before; billed = billed } →
    take (i + 1) (set rows i row) ++ rows_from r due billed (before + get_or ls i 0) (drop (i + 1) ls) ≡ take i rows ++ rows_from r due billed before (drop i ls)
step r due billed ls rows i before row hr hl is =
    let front = take_more_set rows i row hr in
    let back : rows_from r due billed before (drop i ls) ≡ record { lots = get_or ls i 0; payment = part r due (before + get_or ls i 0) - part r due before; billed = billed } ∷ rows_from r due billed (before + get_or ls i 0) (drop (i + 1) ls) = ap (rows_from r due billed before) (drop_more ls i 0 hl) in
    let joined = append_assoc (take i rows) (row ∷ []) (rows_from r due billed (before + get_or ls i 0) (drop (i + 1) ls)) in
    cc

-- what stands behind a row stays as it was
pub below_kept : {X : Type 0} (xs ys : List X) (i : ℕ) (x : X) → drop i xs ≡ drop i ys → drop (i + 1) (set xs i x) ≡ drop (i + 1) ys
below_kept xs ys i x e =
    drop-set-lt (i + 1) xs i x (omega arith)
    ∙ sym (drop-drop 1 i xs)
    ∙ ap (drop 1) e
    ∙ drop-drop 1 i ys
