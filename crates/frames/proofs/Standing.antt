-- Where the judgement of a frame's bytes puts the frame in its file.
use Rattle.std.proofs.Common.{◌≡◌, ℕ, ◌+◌, ◌-◌, ◌/◌, ◌%◌, ◌<◌, ◌≤◌, List, [], ◌∷◌, ◌++◌, length, get_or, take, drop, Some, Ok, Err, sym, refl, ap, ◌∙◌, subst, arith}
use Rattle.std.proofs.lemmas.List.{append_assoc, drop_more, drop-drop, get_or-drop, length-drop, length-take-le, take-append-drop, take_rest}
use Rattle.frames.specs.declared.fault.FrameFault.{FrameFault}
use Rattle.frames.specs.declared.layout.Layout.{Layout}
use Rattle.frames.specs.declared.reader.Frame.{Frame}
use Rattle.frames.specs.Frames.{frame_bytes, Judged, Stands, Faulty}
use Rattle.frames.specs.Layouts.{length_in}

-- the first three bytes of what is left, and the others
three_bytes :
    (file : List ℕ) (at : ℕ) →
    at + 3 ≤ length file →
    drop at file ≡ get_or file at 0 ∷ get_or file (at + 1) 0 ∷ get_or file (at + 2) 0 ∷ drop (at + 3) file
three_bytes file at le =
    let second : drop (at + 1) file ≡ get_or file (at + 1) 0 ∷ drop (at + 2) file = rw (drop_more file (at + 1) 0 (omega arith)) (ap (λ (k : ℕ). get_or file (at + 1) 0 ∷ drop k file) (omega arith)) in
    let third : drop (at + 2) file ≡ get_or file (at + 2) 0 ∷ drop (at + 3) file = rw (drop_more file (at + 2) 0 (omega arith)) (ap (λ (k : ℕ). get_or file (at + 2) 0 ∷ drop k file) (omega arith)) in
    drop_more file at 0 (omega arith)
    ∙ ap (λ (l : List ℕ). get_or file at 0 ∷ l) second
    ∙ ap (λ (l : List ℕ). get_or file at 0 ∷ get_or file (at + 1) 0 ∷ l) third

-- a faulty frame
pub faulty :
    (ls : List Layout) (file : List ℕ) (at : ℕ) (e : FrameFault) →
    at < length file →
    Judged ls (take (length file - at) (drop at file)) at (Err e) →
    Faulty ls file at e at
faulty ls file at e inside judged =
    let here = subst (λ (bs : List ℕ). Judged ls bs at (Err e)) (take_rest file at) judged in
    record { number = here.0; place = here.1; inside = inside; stays = refl }

-- a frame without fault
pub standing :
    (ls : List Layout) (file : List ℕ) (at n : ℕ) (f : Frame) →
    at < length file →
    Judged ls (take (length file - at) (drop at file)) at (Ok n) →
    f.tag ≡ get_or file at 0 →
    f.place ≡ at →
    f.value.now ≡ take n (drop (at + 3) file) →
    Stands ls file at f (at + 3 + n)
standing ls file at n f inside judged tag place value =
    let here = subst (λ (bs : List ℕ). Judged ls bs at (Ok n)) (take_rest file at) judged in
    let left = length-drop at file in
    let behind = length-drop (at + 3) file in
    let whole : at + 3 + n ≤ length file = omega (arith, here.1) in
    let long : length f.value.now ≡ n = ap length value ∙ length-take-le n (drop (at + 3) file) (omega arith) in
    let high : get_or file (at + 1) 0 ≡ length f.value.now / 256 = sym (get_or-drop at file 1 0) ∙ here.3 ∙ ap (λ (k : ℕ). k / 256) (sym long) in
    let low : get_or file (at + 2) 0 ≡ length f.value.now % 256 = sym (get_or-drop at file 2 0) ∙ here.4 ∙ ap (λ (k : ℕ). k % 256) (sym long) in
    let first : get_or (drop at file) 0 0 ≡ f.tag = get_or-drop at file 0 0 ∙ ap (λ (k : ℕ). get_or file k 0) (omega arith) ∙ sym tag in
    let rest : drop (at + 3) file ≡ f.value.now ++ drop (at + 3 + n) file =
    sym (take-append-drop n (drop (at + 3) file)) ∙ ap (λ (l : List ℕ). l ++ drop n (drop (at + 3) file)) (sym value) ∙ ap (λ (l : List ℕ). f.value.now ++ l) (drop-drop n (at + 3) file) in
    record {
      place = place;
      stands =
          three_bytes file at (omega arith)
          ∙ ap (λ (b : ℕ). b ∷ get_or file (at + 1) 0 ∷ get_or file (at + 2) 0 ∷ drop (at + 3) file) (sym tag)
          ∙ ap (λ (b : ℕ). f.tag ∷ b ∷ get_or file (at + 2) 0 ∷ drop (at + 3) file) high
          ∙ ap (λ (b : ℕ). f.tag ∷ (length f.value.now / 256) ∷ b ∷ drop (at + 3) file) low
          ∙ ap (λ (l : List ℕ). f.tag ∷ (length f.value.now / 256) ∷ (length f.value.now % 256) ∷ l) rest;
      known = ap (length_in ls) (sym first) ∙ here.2 ∙ ap (λ (k : ℕ). Some k) (sym long);
      goes = ap (λ (k : ℕ). at + 3 + k) (sym long);
      whole = whole;
      accepted = here.0;
    }

-- the bytes that are written for a frame
pub written :
    (before value bytes : List ℕ) (tag : ℕ) →
    length value ≤ 65535 →
    bytes ≡ (length value / 256 % 256) ∷ (length value % 256) ∷ [] →
    (before ++ tag ∷ get_or bytes 0 0 ∷ get_or bytes 1 0 ∷ []) ++ value ≡ before ++ frame_bytes tag value
written before value bytes tag short says =
    let small : length value / 256 % 256 ≡ length value / 256 = omega arith in
    append_assoc before (tag ∷ get_or bytes 0 0 ∷ get_or bytes 1 0 ∷ []) value
    ∙ ap (λ (bs : List ℕ). before ++ tag ∷ get_or bs 0 0 ∷ get_or bs 1 0 ∷ value) says
    ∙ ap (λ (b : ℕ). before ++ tag ∷ b ∷ (length value % 256) ∷ value) small
