-- What is asked of a list of buyers.
use Rattle.std.specs.Prelude.{ℕ, Bool, false, not, ◌&&◌, ◌||◌, List, [], ◌∷◌, length, sum_by, ◌==◌, nat_le}
use Rattle.std.specs.List.{list_all, list_any}
use Rattle.stages.specs.declared.kind.Kind.{Kind}
use Rattle.stages.specs.declared.particulars.Particulars.{Particulars}
use Rattle.stages.specs.declared.terms.Buyer.{Buyer}
use Rattle.stages.specs.Kinds.{row_of}

-- what stands past the end of a list of buyers
abbrev pub nobody : Buyer
nobody = record { account = 0; lots = 0 }

-- one of the buyers has the account
abbrev pub has_account : ℕ → List Buyer → Bool
has_account account bs = list_any (λ b. b.account == account) bs

-- two of the buyers have one account
abbrev pub account_twice : List Buyer → Bool
account_twice [] = false
account_twice (b ∷ bs) = has_account b.account bs || account_twice bs

-- as many buyers as the kind may have, at least one, and no account twice
abbrev pub buyers_fit : Kind → List Buyer → Bool
buyers_fit k bs = nat_le 1 (length bs) && (nat_le (length bs) (row_of k).buyers && not (account_twice bs))

-- each buyer's lots are from 1 to 1,000,000
abbrev pub all_within : List Buyer → Bool
all_within bs = list_all (λ b. nat_le 1 b.lots && nat_le b.lots 1000000) bs

-- the lots that the buyers ask for together: of those filed, the demand
abbrev pub demanded : List Buyer → ℕ
demanded bs = sum_by (λ b. b.lots) bs

-- each buyer's lots are from 1 to 1,000,000, and those of all are at most 1,000,000
abbrev pub lots_fit : List Buyer → Bool
lots_fit bs = all_within bs && nat_le (demanded bs) 1000000

-- each buyer asks for a lot or more
abbrev pub all_have_lots : List Buyer → Bool
all_have_lots bs = list_all (λ b. nat_le 1 b.lots) bs

-- The buyers handed over are as many as those filed, ask for as many lots together, and each for one or more.
abbrev pub as_filed : Particulars → List Buyer → Bool
as_filed p bs = length bs == p.buyers && (demanded bs == p.demand && all_have_lots bs)
