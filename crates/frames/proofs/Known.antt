-- Looking a tag up is looking for the first layout of that tag.
use Rattle.std.proofs.Common.{◌≡◌, ℕ, Bool, true, false, cond, eqb, List, Some, Option, refl}
use Rattle.std.specs.List.{find}
use Rattle.std.specs.Option.{option_map}
use Rattle.std.proofs.lemmas.List.Recursion.{same_from_clauses}
use Rattle.frames.specs.declared.layout.Layout.{Layout}
use Rattle.frames.specs.Layouts.{length_in}

-- the length of the first layout of the tag
abbrev found : ℕ → List Layout → Option ℕ
found tag ls = option_map (λ l. l.length) (find (λ l. eqb l.tag tag) ls)

option_map-cond : {X Y : Type 0} (f : X → Y) (b : Bool) (x : X) (o : Option X) → option_map f (cond b (Some x) o) ≡ cond b (Some (f x)) (option_map f o)
option_map-cond f true x o = refl
option_map-cond f false x o = refl

pub first_found : (ls : List Layout) (tag : ℕ) → found tag ls ≡ length_in ls tag
first_found ls tag =
    same_from_clauses (found tag) (λ l. length_in l tag) (λ x o. cond (eqb x.tag tag) (Some x.length) o) refl
    (λ x xs. option_map-cond (λ l. l.length) (eqb x.tag tag) x (find (λ l. eqb l.tag tag) xs)) (λ _ _. refl) ls
