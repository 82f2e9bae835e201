-- The values of the frames of a tender file: the bytes of each, and what bytes of the right number say.
use Rattle.std.specs.Prelude.{ℕ, cond, List, ◌∷◌, ◌++◌, length, Some, None, Option, ◌==◌, slice_index}
use Rattle.stages.specs.declared.terms.Buyer.{Buyer}
use Rattle.stages.specs.declared.terms.Terms.{Terms}
use Rattle.book.specs.declared.cancel.Cancellation.{Cancellation}
use Rattle.book.specs.declared.change.Change.{Change}
use Rattle.book.specs.declared.entry.Entry.{Entry}
use Rattle.values.specs.declared.draw.DrawNumbers.{DrawNumbers}
use Rattle.values.specs.Fields.{two_bytes, four_bytes, two_at, four_at, code_at, Narrow, Half, Word, Code}

-- bytes of a width say what they say, and others nothing
abbrev pub of_width : {X : Type 0} → ℕ → List ℕ → X → Option X
of_width width bs x = cond (length bs == width) (Some x) None

-- Terms: the letter of the kind, the method, the letter of the shortfall, the shares of a lot, the previous close, and when the
-- bank closes.
abbrev pub terms_bytes : Terms → List ℕ
terms_bytes t =
    t.kind ∷ t.method ∷ t.shortfall ∷ (two_bytes t.unit ++ (four_bytes t.previous_close ++ four_bytes t.bank_closing))

abbrev pub terms_in : List ℕ → Option Terms
terms_in bs =
    of_width 13 bs (record {
      kind = slice_index bs 0;
      method = slice_index bs 1;
      shortfall = slice_index bs 2;
      unit = two_at bs 3;
      previous_close = four_at bs 5;
      bank_closing = four_at bs 9;
    })

pub record TermsFit (t : Terms) : Type 0 where
  pub kind : Narrow t.kind
  pub method : Narrow t.method
  pub shortfall : Narrow t.shortfall
  pub unit : Half t.unit
  pub previous_close : Word t.previous_close
  pub bank_closing : Word t.bank_closing

-- A buyer: the account and the lots.
abbrev pub buyer_bytes : Buyer → List ℕ
buyer_bytes b = four_bytes b.account ++ four_bytes b.lots

abbrev pub buyer_in : List ℕ → Option Buyer
buyer_in bs = of_width 8 bs (record { account = four_at bs 0; lots = four_at bs 4 })

pub record BuyerFits (b : Buyer) : Type 0 where
  pub account : Word b.account
  pub lots : Word b.lots

-- The numbers of a draw: the stride and the shift.
abbrev pub draw_bytes : DrawNumbers → List ℕ
draw_bytes d = two_bytes d.stride ++ two_bytes d.shift

abbrev pub draw_in : List ℕ → Option DrawNumbers
draw_in bs = of_width 4 bs (record { stride = two_at bs 0; shift = two_at bs 2 })

pub record DrawFits (d : DrawNumbers) : Type 0 where
  pub stride : Half d.stride
  pub shift : Half d.shift

-- An amount: the base price at the opening, or the time of the close.
abbrev pub amount_in : List ℕ → Option ℕ
amount_in bs = of_width 4 bs (four_at bs 0)

-- An entry: the time, the member's code, the account, the price and the lots.
abbrev pub entry_bytes : Entry → List ℕ
entry_bytes e = four_bytes e.time ++ (e.member ++ (four_bytes e.account ++ (four_bytes e.price ++ four_bytes e.lots)))

abbrev pub entry_in : List ℕ → Option Entry
entry_in bs =
    of_width 20 bs (record { time = four_at bs 0; member = code_at bs 4; account = four_at bs 8; price = four_at bs 12; lots = four_at bs 16 })

pub record EntryFits (e : Entry) : Type 0 where
  pub time : Word e.time
  pub member : Code e.member
  pub account : Word e.account
  pub price : Word e.price
  pub lots : Word e.lots

-- A change: the time, the member's code, the number of the offer, its new price and its new lots.
abbrev pub change_bytes : Change → List ℕ
change_bytes c = four_bytes c.time ++ (c.member ++ (two_bytes c.number ++ (four_bytes c.price ++ four_bytes c.lots)))

abbrev pub change_in : List ℕ → Option Change
change_in bs =
    of_width 18 bs (record { time = four_at bs 0; member = code_at bs 4; number = two_at bs 8; price = four_at bs 10; lots = four_at bs 14 })

pub record ChangeFits (c : Change) : Type 0 where
  pub time : Word c.time
  pub member : Code c.member
  pub number : Half c.number
  pub price : Word c.price
  pub lots : Word c.lots

-- A cancellation: the time, the member's code and the number of the offer.
abbrev pub cancellation_bytes : Cancellation → List ℕ
cancellation_bytes c = four_bytes c.time ++ (c.member ++ two_bytes c.number)

abbrev pub cancellation_in : List ℕ → Option Cancellation
cancellation_in bs = of_width 10 bs (record { time = four_at bs 0; member = code_at bs 4; number = two_at bs 8 })

pub record CancellationFits (c : Cancellation) : Type 0 where
  pub time : Word c.time
  pub member : Code c.member
  pub number : Half c.number
