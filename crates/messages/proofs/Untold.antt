-- A byte that is no tag says no message, and no length is known of it.
use Rattle.std.proofs.Common.{◌≡◌, ◌≢◌, ℕ, eqb, false, List, None, Ok, Err, Result, sym, refl, arith}
use Rattle.std.proofs.lemmas.Bool.{ne_eqb}
use Rattle.frames.specs.Layouts.{length_in}
use Rattle.messages.specs.declared.tag.Tag.{Tag}
use Rattle.messages.specs.declared.tag.Tag.TheVariants.{Terms, Buyer, Open, Entry, Change, Cancel, Close, Draw}
use Rattle.messages.specs.Messages.{message_of, tender_layouts}
use Rattle.messages.specs.declared.tag.UnknownTag.{UnknownTag}
use Rattle.messages.specs.Tags.{byte_of, Names}
use Rattle.std.specs.Result.{result_ok}

other : (byte n : ℕ) → n ≢ byte → eqb byte n ≡ false
other byte n apart = ne_eqb byte n (λ e. apart (sym e))

pub no_message : (byte : ℕ) (value : List ℕ) → ((tag : Tag) → byte_of tag ≢ byte) → message_of byte value ≡ None
no_message byte value none =
    rw (other byte 1 (none Terms), other byte 2 (none Buyer), other byte 3 (none Open), other byte 4 (none Entry), other byte 5 (none Change), other byte 6 (none Cancel), other byte 7 (none Close), other byte 8 (none Draw))
    refl

pub no_length : (byte : ℕ) → ((tag : Tag) → byte_of tag ≢ byte) → length_in tender_layouts byte ≡ None
no_length byte none =
    rw (ne_eqb 1 byte (none Terms), ne_eqb 2 byte (none Buyer), ne_eqb 3 byte (none Open), ne_eqb 4 byte (none Entry), ne_eqb 5 byte (none Change), ne_eqb 6 byte (none Cancel), ne_eqb 7 byte (none Close), ne_eqb 8 byte (none Draw))
    refl

-- where no tag is named, the byte is that of none
pub untold : (byte : ℕ) (r : Result Tag UnknownTag) → Names byte r → result_ok r ≡ None → (tag : Tag) → byte_of tag ≢ byte
untold byte (Ok t) names is tag = let z : ◌≡◌ {A = ℕ} 0 1 = cc in absurd (omega arith)
untold byte (Err e) names is tag = names.1 tag
