-- What the words of a line say.
use Rattle.std.specs.Prelude.{ℕ, Bool, cond, ◌||◌, List, length, Some, None, codes, Option, ◌==◌, slice_index}
use Rattle.std.specs.Str.{bytes_eq}
use Rattle.stages.specs.declared.terms.Buyer.{Buyer}
use Rattle.stages.specs.declared.terms.Terms.{Terms}
use Rattle.book.specs.declared.call.Call.TheVariants as calls
use Rattle.book.specs.declared.cancel.Cancellation.{Cancellation}
use Rattle.book.specs.declared.change.Change.{Change}
use Rattle.book.specs.declared.entry.Entry.{Entry}
use Rattle.values.specs.declared.draw.DrawNumbers.{DrawNumbers}
use Rattle.messages.specs.declared.message.Message.{Message}
use Rattle.messages.specs.declared.message.Message.TheVariants as messages
use Rattle.messages.specs.Messages.{said}
use Rattle.messages.specs.declared.tag.Tag.{Tag}
use Rattle.messages.specs.declared.tag.Tag.TheVariants as tags
use Rattle.encode.specs.Codes.{code_in}
use Rattle.encode.specs.Numbers.{onward, letter_in, number_in}
use Rattle.encode.specs.Pieces.{text_at}

-- the tag that a word names
abbrev pub named : List ℕ → Option Tag
named word =
    cond (bytes_eq word (codes "terms")) (Some tags.Terms)
    (cond (bytes_eq word (codes "buyer")) (Some tags.Buyer)
    (cond (bytes_eq word (codes "draw")) (Some tags.Draw)
    (cond (bytes_eq word (codes "open")) (Some tags.Open)
    (cond (bytes_eq word (codes "entry")) (Some tags.Entry)
    (cond (bytes_eq word (codes "change")) (Some tags.Change)
    (cond (bytes_eq word (codes "cancel")) (Some tags.Cancel) (cond (bytes_eq word (codes "close")) (Some tags.Close) None)))))))

-- a number of one, two and four bytes
abbrev pub byte_at : List (List ℕ) → ℕ → Option ℕ
byte_at ws i = number_in 255 (text_at ws i)

abbrev pub half_at : List (List ℕ) → ℕ → Option ℕ
half_at ws i = number_in 65535 (text_at ws i)

abbrev pub whole_at : List (List ℕ) → ℕ → Option ℕ
whole_at ws i = number_in 4294967295 (text_at ws i)

-- only a line of so many words says something
abbrev pub of_words : {X : Type 0} → ℕ → List (List ℕ) → Option X → Option X
of_words n ws o = cond (length ws == n) o None

-- terms KIND METHOD SHORTFALL UNIT PREVIOUS-CLOSE BANK-CLOSING
abbrev pub terms_said : List (List ℕ) → Option Terms
terms_said ws =
    of_words 7 ws (onward (letter_in (text_at ws 1)) (λ k.
    onward (byte_at ws 2) (λ m.
    onward (letter_in (text_at ws 3)) (λ s.
    onward (half_at ws 4) (λ u.
    onward (whole_at ws 5) (λ c.
    onward (whole_at ws 6) (λ b.
    Some (record { kind = k; method = m; shortfall = s; unit = u; previous_close = c; bank_closing = b }))))))))

-- buyer ACCOUNT LOTS
abbrev pub buyer_said : List (List ℕ) → Option Buyer
buyer_said ws = of_words 3 ws (onward (whole_at ws 1) (λ a. onward (whole_at ws 2) (λ l. Some (record { account = a; lots = l }))))

-- draw STRIDE SHIFT
abbrev pub draw_said : List (List ℕ) → Option DrawNumbers
draw_said ws = of_words 3 ws (onward (half_at ws 1) (λ s. onward (half_at ws 2) (λ h. Some (record { stride = s; shift = h }))))

-- open PRICE, or close TIME
abbrev pub amount_said : List (List ℕ) → Option ℕ
amount_said ws = of_words 2 ws (whole_at ws 1)

-- entry TIME MEMBER ACCOUNT PRICE LOTS
abbrev pub entry_said : List (List ℕ) → Option Entry
entry_said ws =
    of_words 6 ws (onward (whole_at ws 1) (λ t.
    onward (code_in (text_at ws 2)) (λ m.
    onward (whole_at ws 3) (λ a.
    onward (whole_at ws 4) (λ p.
    onward (whole_at ws 5) (λ l. Some (record { time = t; member = m; account = a; price = p; lots = l })))))))

-- change TIME MEMBER NUMBER PRICE LOTS
abbrev pub change_said : List (List ℕ) → Option Change
change_said ws =
    of_words 6 ws (onward (whole_at ws 1) (λ t.
    onward (code_in (text_at ws 2)) (λ m.
    onward (half_at ws 3) (λ n.
    onward (whole_at ws 4) (λ p.
    onward (whole_at ws 5) (λ l. Some (record { time = t; member = m; number = n; price = p; lots = l })))))))

-- cancel TIME MEMBER NUMBER
abbrev pub cancellation_said : List (List ℕ) → Option Cancellation
cancellation_said ws =
    of_words 4 ws (onward (whole_at ws 1) (λ t.
    onward (code_in (text_at ws 2)) (λ m. onward (half_at ws 3) (λ n. Some (record { time = t; member = m; number = n })))))

-- the message of a tag and the words of its line
abbrev pub by_tag : List (List ℕ) → Tag → Option Message
by_tag ws tags.Terms = said messages.Terms (terms_said ws)
by_tag ws tags.Buyer = said messages.Buyer (buyer_said ws)
by_tag ws tags.Draw = said messages.Draw (draw_said ws)
by_tag ws tags.Open = said messages.Open (amount_said ws)
by_tag ws tags.Entry = said (λ e. messages.Call (calls.Enter e)) (entry_said ws)
by_tag ws tags.Change = said (λ c. messages.Call (calls.Change c)) (change_said ws)
by_tag ws tags.Cancel = said (λ c. messages.Call (calls.Cancel c)) (cancellation_said ws)
by_tag ws tags.Close = said messages.Close (amount_said ws)

-- The message that the words of a line say.
abbrev pub message_said : List (List ℕ) → Option Message
message_said ws = onward (named (text_at ws 0)) (by_tag ws)

-- a line without words, or whose first word begins with #, is passed over
abbrev pub passed_over : List (List ℕ) → Bool
passed_over ws = length (text_at ws 0) == 0 || slice_index (text_at ws 0) 0 == 35
