-- Bytes of the right width are those of what they say.
use Rattle.std.proofs.Common.{◌≡◌, ℕ, Bool, true, false, cond, eqb, List, [], length, Some, None, refl, arith}
use Rattle.std.proofs.lemmas.Bool.{eqb-true, eqb-false}
use Rattle.values.specs.Fields.{four_bytes, Word, Bytes, Decoded}
use Rattle.values.specs.Values.{of_width, terms_in, buyer_in, draw_in, amount_in, entry_in, change_in, cancellation_in, terms_bytes, buyer_bytes, draw_bytes, entry_bytes, change_bytes, cancellation_bytes, TermsFit, BuyerFits, DrawFits, EntryFits, ChangeFits, CancellationFits}
use Rattle.values.specs.Spelling.{one_step, half_step, word_step, code_step, none_left, half_fits, word_fits, code_fits}

by_width :
    {X : Type 0} (width : ℕ) (bytes_of : X → List ℕ) (Fits : X → Type 0) (bs : List ℕ) (x : X) (b : Bool) →
    eqb (length bs) width ≡ b →
    (length bs ≡ width → Decoded width bytes_of Fits bs (Some x)) →
    Decoded width bytes_of Fits bs (cond b (Some x) None)
by_width width bytes_of Fits bs x true e right = right (eqb-true (length bs) width e)
by_width width bytes_of Fits bs x false e right = eqb-false (length bs) width e

-- bytes of another width say nothing
width_decoded :
    {X : Type 0} (width : ℕ) (bytes_of : X → List ℕ) (Fits : X → Type 0) (bs : List ℕ) (x : X) →
    (length bs ≡ width → Decoded width bytes_of Fits bs (Some x)) →
    Decoded width bytes_of Fits bs (of_width width bs x)
width_decoded width bytes_of Fits bs x right = by_width width bytes_of Fits bs x (eqb (length bs) width) refl right

pub terms_whole : (bs : List ℕ) → Bytes bs → Decoded 13 terms_bytes TermsFit bs (terms_in bs)
terms_whole bs bytes = width_decoded 13 terms_bytes TermsFit bs _ (λ long. (
  one_step bs 0 _ (omega arith)
      (one_step bs 1 _ (omega arith)
      (one_step bs 2 _ (omega arith)
      (half_step bs 3 _ bytes (omega arith) (word_step bs 5 _ bytes (omega arith) (word_step bs 9 [] bytes (omega arith) (none_left bs 13 long)))))),
  record {
    kind = bytes 0;
    method = bytes 1;
    shortfall = bytes 2;
    unit = half_fits bs 3 bytes;
    previous_close = word_fits bs 5 bytes;
    bank_closing = word_fits bs 9 bytes;
  },
  long,
))

pub buyer_whole : (bs : List ℕ) → Bytes bs → Decoded 8 buyer_bytes BuyerFits bs (buyer_in bs)
buyer_whole bs bytes = width_decoded 8 buyer_bytes BuyerFits bs _ (λ long. (
  word_step bs 0 _ bytes (omega arith) (word_step bs 4 [] bytes (omega arith) (none_left bs 8 long)),
  record { account = word_fits bs 0 bytes; lots = word_fits bs 4 bytes },
  long,
))

pub draw_whole : (bs : List ℕ) → Bytes bs → Decoded 4 draw_bytes DrawFits bs (draw_in bs)
draw_whole bs bytes = width_decoded 4 draw_bytes DrawFits bs _ (λ long. (
  half_step bs 0 _ bytes (omega arith) (half_step bs 2 [] bytes (omega arith) (none_left bs 4 long)),
  record { stride = half_fits bs 0 bytes; shift = half_fits bs 2 bytes },
  long,
))

pub amount_whole : (bs : List ℕ) → Bytes bs → Decoded 4 four_bytes Word bs (amount_in bs)
amount_whole bs bytes = width_decoded 4 four_bytes Word bs _ (λ long. (word_step bs 0 [] bytes (omega arith) (none_left bs 4 long), word_fits bs 0 bytes, long))

pub entry_whole : (bs : List ℕ) → Bytes bs → Decoded 20 entry_bytes EntryFits bs (entry_in bs)
entry_whole bs bytes = width_decoded 20 entry_bytes EntryFits bs _ (λ long. (
  word_step bs 0 _ bytes (omega arith)
      (code_step bs 4 _ (omega arith)
      (word_step bs 8 _ bytes (omega arith) (word_step bs 12 _ bytes (omega arith) (word_step bs 16 [] bytes (omega arith) (none_left bs 20 long))))),
  record {
    time = word_fits bs 0 bytes;
    member = code_fits bs 4 bytes;
    account = word_fits bs 8 bytes;
    price = word_fits bs 12 bytes;
    lots = word_fits bs 16 bytes;
  },
  long,
))

pub change_whole : (bs : List ℕ) → Bytes bs → Decoded 18 change_bytes ChangeFits bs (change_in bs)
change_whole bs bytes = width_decoded 18 change_bytes ChangeFits bs _ (λ long. (
  word_step bs 0 _ bytes (omega arith)
      (code_step bs 4 _ (omega arith)
      (half_step bs 8 _ bytes (omega arith) (word_step bs 10 _ bytes (omega arith) (word_step bs 14 [] bytes (omega arith) (none_left bs 18 long))))),
  record {
    time = word_fits bs 0 bytes;
    member = code_fits bs 4 bytes;
    number = half_fits bs 8 bytes;
    price = word_fits bs 10 bytes;
    lots = word_fits bs 14 bytes;
  },
  long,
))

pub cancellation_whole : (bs : List ℕ) → Bytes bs → Decoded 10 cancellation_bytes CancellationFits bs (cancellation_in bs)
cancellation_whole bs bytes = width_decoded 10 cancellation_bytes CancellationFits bs _ (λ long. (
  word_step bs 0 _ bytes (omega arith) (code_step bs 4 _ (omega arith) (half_step bs 8 [] bytes (omega arith) (none_left bs 10 long))),
  record { time = word_fits bs 0 bytes; member = code_fits bs 4 bytes; number = half_fits bs 8 bytes },
  long,
))
