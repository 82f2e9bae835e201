-- What a call leaves of both sides.
use Rattle.sharing.specs.Kept.{Kept}

-- Each side stays sound and means what it meant, whatever becomes of the other: the sellers' is `sell` before and `sold` after, the
-- buyers' `buy` and `bought`.
pub record BothKept
    {S B M N : Type 0} (fair : S → Type 0) (sells : S → M) (just : B → Type 0) (buys : B → N)
    (sell sold : S) (buy bought : B) : Type 0 where
  pub sellers : Kept fair sells sell sold
  pub buyers : Kept just buys buy bought
