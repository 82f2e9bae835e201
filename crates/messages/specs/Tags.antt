-- The tags of a tender file, and the byte of each.
use Rattle.std.specs.Prelude.{◌≡◌, ◌≢◌, ℕ, Result, MatchResult}
use Rattle.messages.specs.declared.tag.Tag.{Tag}
use Rattle.messages.specs.declared.tag.Tag.TheVariants.{Terms, Buyer, Open, Entry, Change, Cancel, Close, Draw}
use Rattle.messages.specs.declared.tag.UnknownTag.{UnknownTag}

-- the byte of a tag
abbrev pub byte_of : Tag → ℕ
byte_of Terms = 1
byte_of Buyer = 2
byte_of Open = 3
byte_of Entry = 4
byte_of Change = 5
byte_of Cancel = 6
byte_of Close = 7
byte_of Draw = 8

-- The result is the tag of the byte, or the byte, which is then that of no tag.
abbrev pub Names : ℕ → Result Tag UnknownTag → Type 0
Names byte r = MatchResult r (λ tag. byte_of tag ≡ byte) (λ e. (e.0 ≡ byte) × ((tag : Tag) → byte_of tag ≢ byte))
