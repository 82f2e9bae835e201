-- The words that a list of texts holds.
use Rattle.std.proofs.Common.{◌≡◌, ℕ, ◌<◌, List, [], map, length, get_or, sym, ap, ◌∙◌}
use Rattle.std.proofs.lemmas.List.{get_or-map}

-- the bytes of the text that was read at a place
pub word_at : {X : Type 0} (bytes : X → List ℕ) (texts : List X) (i : ℕ) (text : X) → i < length texts → text ≡ get_or texts i text → get_or (map bytes texts) i [] ≡ bytes text
word_at bytes texts i text lt read = get_or-map bytes texts i text [] lt ∙ ap bytes (sym read)
