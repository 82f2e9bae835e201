-- The bytes of lines, one line at a time.
use Rattle.std.proofs.Common.{◌≡◌, ℕ, ◌+◌, ◌<◌, List, [], ◌∷◌, ◌++◌, length, take, Some, None, Err, Option, sym, refl, ap, ◌∙◌, arith}
use Rattle.std.proofs.lemmas.List.{append_assoc, append-nil, take_more}
use Rattle.encode.specs.declared.failure.Failure.{Failure}
use Rattle.encode.specs.declared.failure.Failure.TheVariants.{Line, TooLong, Memory, Io}
use Rattle.encode.specs.Files.{line_bytes, file_bytes, LineWritten, Progress}
use Rattle.encode.specs.Numbers.{onward}
use Rattle.encode.specs.Pieces.{text_at}

-- bytes and then others, if there are both
abbrev both : Option (List ℕ) → Option (List ℕ) → Option (List ℕ)
both o p = onward o (λ a. onward p (λ b. Some (a ++ b)))

both_parts : (o p : Option (List ℕ)) (bs : List ℕ) → both o p ≡ Some bs → (a : List ℕ) × (b : List ℕ) × (o ≡ Some a) × (p ≡ Some b) × (bs ≡ a ++ b)
both_parts None p bs e = let z : ◌≡◌ {A = ℕ} 0 1 = cc in absurd (omega arith)
both_parts (Some a) None bs e = let z : ◌≡◌ {A = ℕ} 0 1 = cc in absurd (omega arith)
both_parts (Some a) (Some b) bs e = (a, b, refl, refl, cc)

file_push :
    (ls : List (List ℕ)) (l bs more : List ℕ) →
    file_bytes ls ≡ Some bs →
    line_bytes l ≡ Some more →
    file_bytes (ls ++ l ∷ []) ≡ Some (bs ++ more)
file_push [] l bs more e h =
    let none : bs ≡ [] = cc in
    ap (λ (o : Option (List ℕ)). both o (Some [])) h
    ∙ ap (λ (x : List ℕ). Some x) (append-nil more ∙ ap (λ (x : List ℕ). x ++ more) (sym none))
file_push (x ∷ xs) l bs more e h =
    let parts = both_parts (line_bytes x) (file_bytes xs) bs e in
    let a = parts.0 in
    let b = parts.1 in
    ap (λ (o : Option (List ℕ)). both o (file_bytes (xs ++ l ∷ []))) parts.2
    ∙ ap (both (Some a)) (file_push xs l b more parts.3 h)
    ∙ ap (λ (y : List ℕ). Some y) (sym (append_assoc a b more) ∙ ap (λ (y : List ℕ). y ++ more) (sym parts.4))

-- with one line more
pub file_more :
    (lines : List (List ℕ)) (i : ℕ) (bs more : List ℕ) →
    i < length lines →
    file_bytes (take i lines) ≡ Some bs →
    line_bytes (text_at lines i) ≡ Some more →
    file_bytes (take (i + 1) lines) ≡ Some (bs ++ more)
file_more lines i bs more lt e h = ap file_bytes (take_more lines i [] lt) ∙ file_push (take i lines) (text_at lines i) bs more e h

-- the first line that fails
pub file_broken :
    (lines : List (List ℕ)) (i : ℕ) (line before after bs now : List ℕ) (e : Failure) →
    i < length lines →
    line ≡ text_at lines i →
    file_bytes (take i lines) ≡ Some bs →
    LineWritten line (i + 1) now (Err e) after →
    Progress lines before (Err e) after
file_broken lines i line before after bs now (Line n) lt is whole failed = record {
  place = i;
  counted = failed.0;
  there = lt;
  before = bs;
  whole = whole;
  broken = ap line_bytes (sym is) ∙ failed.1;
}
file_broken lines i line before after bs now Memory lt is whole failed = tt
file_broken lines i line before after bs now TooLong lt is whole failed = absurd failed
file_broken lines i line before after bs now Io lt is whole failed = absurd failed
