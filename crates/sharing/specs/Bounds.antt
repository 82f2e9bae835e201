-- How far a share may be from its exact proportion, a × lots ÷ k, told in whole numbers: times k, the share is compared with
-- a × lots.
use Rattle.std.specs.Prelude.{ℕ, ◌+◌, ◌*◌, ◌<◌, ◌≤◌, List, length, slice_index, slice_index_or}
use Rattle.sharing.specs.declared.claim.Claim.{Claim}
use Rattle.sharing.specs.declared.leftover.Leftover.{Leftover}
use Rattle.sharing.specs.declared.leftover.Leftover.TheVariants.{ByRank, ByRemainder}
use Rattle.sharing.specs.Claims.{claimed, nobody}
use Rattle.sharing.specs.Shares.{shareable}

-- No claim is a whole lot below its exact proportion, or more than one lot above it.
pub record AboutProportional (cs : List Claim) (amount : ℕ) (shares : List ℕ) : Type 0 where
  pub not_a_lot_below : (i : ℕ) → i < length cs → shareable cs amount * (slice_index_or cs i nobody).lots < claimed cs * slice_index shares i + claimed cs
  pub at_most_a_lot_above : (i : ℕ) → i < length cs → claimed cs * slice_index shares i ≤ shareable cs amount * (slice_index_or cs i nobody).lots + claimed cs

-- Each claim is less than one lot off its exact proportion.
pub record LessThanALotOff (cs : List Claim) (amount : ℕ) (shares : List ℕ) : Type 0 where
  pub below : (i : ℕ) → i < length cs → shareable cs amount * (slice_index_or cs i nobody).lots < claimed cs * slice_index shares i + claimed cs
  pub above : (i : ℕ) → i < length cs → claimed cs * slice_index shares i < shareable cs amount * (slice_index_or cs i nobody).lots + claimed cs

-- The bound that holds where leftover lots go by rank, and where they go by remainder.
abbrev pub Near : Leftover → List Claim → ℕ → List ℕ → Type 0
Near ByRank = AboutProportional
Near ByRemainder = LessThanALotOff
