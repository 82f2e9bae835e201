-- What the judgement of a call tells.
use Rattle.std.proofs.Common.{◌≡◌, ℕ, ◌<◌, ◌≤◌, List, arith}
use Rattle.std.proofs.lemmas.Bool.Decides.{nat_tests}
use Rattle.stages.specs.declared.opened.Open.{Open}
use Rattle.stages.specs.declared.terms.Buyer.{Buyer}
use Rattle.book.specs.declared.change.Change.{Change}
use Rattle.book.specs.declared.entry.Entry.{Entry}
use Rattle.book.specs.Judgement.{entry_code, change_code}
use Rattle.book.specs.Model.{Model}

-- the price and lots of a call are in their ranges
pub record InRange (price lots : ℕ) : Type 0 where
  pub priced : (1 ≤ price) × (price ≤ 920000)
  pub sized : (1 ≤ lots) × (lots ≤ 1000000)

-- an entry that is not refused is in range, and the book has taken fewer than 512
pub entry_clear : (t : Open) (n : ℕ) (m : Model) (e : Entry) (bs : List Buyer) → entry_code t n m e bs ≡ 0 → InRange e.price e.lots × (m.count < 512)
entry_clear t n m e bs z =
    let most = t.bases in
    (record { priced = (grind (arith, nat_tests), grind (arith, nat_tests)); sized = (grind (arith, nat_tests), grind (arith, nat_tests)) }, grind (arith, nat_tests))

-- a change that is not refused is in range
pub change_clear : (t : Open) (n : ℕ) (m : Model) (c : Change) → change_code t n m c ≡ 0 → InRange c.price c.lots
change_clear t n m c z =
    let most = t.bases in
    record { priced = (grind (arith, nat_tests), grind (arith, nat_tests)); sized = (grind (arith, nat_tests), grind (arith, nat_tests)) }
