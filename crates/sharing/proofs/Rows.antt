-- When a list's numbers are distinct, told place by place.
use Rattle.std.proofs.Common.{◌≡◌, ℕ, zero, suc, ◌<◌, Bool, true, false, not, eqb, ◌&&◌, ◌||◌, List, [], ◌∷◌, map, length, get_or, take, sym, refl, ap, ◌∙◌, ⊎_elim, suc-le-suc, le_of_suc-le-suc, add-one, arith}
use Rattle.std.proofs.lemmas.List.{get_or-map}
use Rattle.std.proofs.lemmas.List.Folds.{list_any_more}
use Rattle.std.proofs.lemmas.Bool.{and_from, and_parts, and_right, or_from, or_parts, ne_eqb, eqb-true, eqb-false, not-true, not_from_false, true≢false, cases_Bool}
use Rattle.sharing.specs.Distinct.{among, distinct}
use Rattle.sharing.specs.Rows.{at_among}

not_among : (n : ℕ) (xs : List ℕ) → ((j : ℕ) → j < length xs → n ≡ get_or xs j 0 → ⊥) → among n xs ≡ false
not_among n [] h = refl
not_among n (x ∷ xs) h =
    or_from (eqb n x) (among n xs) (ne_eqb n x (h 0 (omega arith))) (not_among n xs (λ j lt. h (suc j) (suc-le-suc lt)))

-- where no place holds the number of an earlier one, all are distinct
pub apart_distinct : (xs : List ℕ) → ((j : ℕ) → j < length xs → (i : ℕ) → i < j → get_or xs i 0 ≡ get_or xs j 0 → ⊥) → distinct xs ≡ true
apart_distinct [] h = refl
apart_distinct (x ∷ xs) h =
    and_from (not (among x xs)) (distinct xs)
    (not_from_false (among x xs) (not_among x xs (λ j lt. h (suc j) (suc-le-suc lt) 0 (omega arith))))
    (apart_distinct xs (λ j lt i le. h (suc j) (suc-le-suc lt) (suc i) (suc-le-suc le)))

-- the number of what was read at a place
pub number_at : {X : Type 0} (f : X → ℕ) (xs : List X) (i : ℕ) (x : X) → i < length xs → x ≡ get_or xs i x → get_or (map f xs) i 0 ≡ f x
number_at f xs i x lt read = get_or-map f xs i x 0 lt ∙ ap f (sym read)

-- a place that holds the number of an earlier one
pub twice : (xs : List ℕ) (i n : ℕ) → i < length xs → n ≡ get_or xs i 0 → among n (take i xs) ≡ true → false ≡ distinct xs
twice [] i n lt here told = absurd (omega arith)
twice (x ∷ xs) zero n lt here told = absurd (true≢false (sym told))
twice (x ∷ xs) (suc i) n lt here told =
    ⊎_elim
    (λ (same : eqb n x ≡ true).
    let stands = at_among xs i x (le_of_suc-le-suc lt) (sym (eqb-true n x same) ∙ here) in
    sym (ap (λ (b : Bool). not b && distinct xs) stands))
    (λ (other : eqb n x ≡ false).
    let later = twice xs i n (le_of_suc-le-suc lt) here (sym (ap (λ (b : Bool). b || among n (take i xs)) other) ∙ told) in
    sym (and_right (not (among x xs)) (distinct xs) (sym later)))
    (cases_Bool (eqb n x))

-- one more number that is none of those before it leaves them distinct
pub distinct_more :
    (xs : List ℕ) (i n : ℕ) →
    i < length xs →
    n ≡ get_or xs i 0 →
    among n (take i xs) ≡ false →
    distinct (take i xs) ≡ true →
    distinct (take (suc i) xs) ≡ true
distinct_more [] i n lt here new apart = absurd (omega arith)
distinct_more (x ∷ xs) zero n lt here new apart = refl
distinct_more (x ∷ xs) (suc i) n lt here new apart =
    let both = and_parts (not (among x (take i xs))) (distinct (take i xs)) apart in
    let neither = or_parts (eqb n x) (among n (take i xs)) new in
    let lt' = le_of_suc-le-suc lt in
    let other : eqb x (get_or xs i 0) ≡ false = ne_eqb x (get_or xs i 0) (λ same. eqb-false n x neither.0 (here ∙ sym same)) in
    let more = ap (λ (k : ℕ). among x (take k xs)) (sym (add-one i)) ∙ list_any_more (λ (y : ℕ). eqb x y) xs i 0 lt' in
    and_from (not (among x (take (suc i) xs))) (distinct (take (suc i) xs))
    (not_from_false (among x (take (suc i) xs)) (more ∙ or_from (among x (take i xs)) (eqb x (get_or xs i 0)) (not-true (among x (take i xs)) both.0) other))
    (distinct_more xs i n lt' here neither.1 both.1)
