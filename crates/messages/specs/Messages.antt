-- The messages of a tender file, as frames.
use Rattle.std.specs.Prelude.{ℕ, cond, List, [], ◌∷◌, Some, None, Option, ◌==◌}
use Rattle.book.specs.declared.call.Call.{Call}
use Rattle.book.specs.declared.call.Call.TheVariants as calls
use Rattle.frames.specs.Frames.{frame_bytes, frame_code}
use Rattle.frames.specs.declared.layout.Layout.{Layout}
use Rattle.messages.specs.declared.message.Message.{Message}
use Rattle.messages.specs.declared.message.Message.TheVariants as messages
use Rattle.values.specs.Fields.{four_bytes, Word}
use Rattle.values.specs.Values.{terms_in, buyer_in, draw_in, amount_in, entry_in, change_in, cancellation_in, terms_bytes, buyer_bytes, draw_bytes, entry_bytes, change_bytes, cancellation_bytes, TermsFit, BuyerFits, DrawFits, EntryFits, ChangeFits, CancellationFits}

-- The layouts of a tender file: 1 terms, 2 a buyer, 3 the opening, 4 an entry, 5 a change, 6 a cancellation, 7 the close, 8 the
-- draw.
abbrev pub tender_layouts : List Layout
tender_layouts =
    record { tag = 1; length = 13 } ∷
    record { tag = 2; length = 8 } ∷
    record { tag = 3; length = 4 } ∷
    record { tag = 4; length = 20 } ∷
    record { tag = 5; length = 18 } ∷
    record { tag = 6; length = 10 } ∷
    record { tag = 7; length = 4 } ∷
    record { tag = 8; length = 4 } ∷
    []

-- the tag of a call, and of a message
abbrev pub call_tag : Call → ℕ
call_tag (calls.Enter e) = 4
call_tag (calls.Change c) = 5
call_tag (calls.Cancel c) = 6

abbrev pub tag_of : Message → ℕ
tag_of (messages.Terms t) = 1
tag_of (messages.Buyer b) = 2
tag_of (messages.Draw d) = 8
tag_of (messages.Open price) = 3
tag_of (messages.Call c) = call_tag c
tag_of (messages.Close time) = 7

-- the bytes of a call's value, and of a message's
abbrev pub call_bytes : Call → List ℕ
call_bytes (calls.Enter e) = entry_bytes e
call_bytes (calls.Change c) = change_bytes c
call_bytes (calls.Cancel c) = cancellation_bytes c

abbrev pub value_bytes : Message → List ℕ
value_bytes (messages.Terms t) = terms_bytes t
value_bytes (messages.Buyer b) = buyer_bytes b
value_bytes (messages.Draw d) = draw_bytes d
value_bytes (messages.Open price) = four_bytes price
value_bytes (messages.Call c) = call_bytes c
value_bytes (messages.Close time) = four_bytes time

-- The bytes of a message: the frame of its tag and value.
abbrev pub message_bytes : Message → List ℕ
message_bytes m = frame_bytes (tag_of m) (value_bytes m)

-- The judgement of the frame that stands first in the bytes of a tender file.
abbrev pub message_code : List ℕ → ℕ
message_code bs = frame_code tender_layouts bs

-- The message that a tag and a value say, if there is one.
abbrev pub said : {X : Type 0} → (X → Message) → Option X → Option Message
said make None = None
said make (Some x) = Some (make x)

abbrev pub message_of : ℕ → List ℕ → Option Message
message_of tag value =
    cond (tag == 1) (said messages.Terms (terms_in value))
    (cond (tag == 2) (said messages.Buyer (buyer_in value))
    (cond (tag == 3) (said messages.Open (amount_in value))
    (cond (tag == 4) (said (λ e. messages.Call (calls.Enter e)) (entry_in value))
    (cond (tag == 5) (said (λ c. messages.Call (calls.Change c)) (change_in value))
    (cond (tag == 6) (said (λ c. messages.Call (calls.Cancel c)) (cancellation_in value))
    (cond (tag == 7) (said messages.Close (amount_in value)) (cond (tag == 8) (said messages.Draw (draw_in value)) None)))))))

-- every field is one that its width can say
abbrev pub CallFits : Call → Type 0
CallFits (calls.Enter e) = EntryFits e
CallFits (calls.Change c) = ChangeFits c
CallFits (calls.Cancel c) = CancellationFits c

abbrev pub Fits : Message → Type 0
Fits (messages.Terms t) = TermsFit t
Fits (messages.Buyer b) = BuyerFits b
Fits (messages.Draw d) = DrawFits d
Fits (messages.Open price) = Word price
Fits (messages.Call c) = CallFits c
Fits (messages.Close time) = Word time
