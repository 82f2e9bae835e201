-- What the words of the command line ask for: RULE AMOUNT STRIDE SHIFT LOTS...
use Rattle.std.specs.Prelude.{◌≡◌, ℕ, min, List, [], drop, Some, vec_items, slice_index_or}
use Rattle.std.specs.Str.Parse.{without_leading_plus, digits_value}
use Rattle.sharing.specs.Candidates.{lined}
use Rattle.sharing.specs.declared.claim.Claim.{Claim}
use Rattle.share.specs.declared.request.Request.{Request}
use Rattle.share.specs.Rules.{named}

-- the number that a word writes
abbrev pub numeral : List ℕ → ℕ
numeral word = digits_value 10 (without_leading_plus word)

-- the claim at a place, of the lots that a word writes
abbrev pub claim_at : ℕ → List ℕ → Claim
claim_at place word = record { number = min place 65535; lots = numeral word }

-- the claims of those words, numbered from 0 in the order given
abbrev pub claims_of : List (List ℕ) → List Claim
claims_of words = lined claim_at 0 words

-- the request is what the words say
pub record Asked (words : List (List ℕ)) (q : Request) : Type 0 where
  pub rule : named (slice_index_or words 0 []) ≡ Some q.rule
  pub amount : q.amount ≡ numeral (slice_index_or words 1 [])
  pub stride : q.stride ≡ numeral (slice_index_or words 2 [])
  pub shift : q.shift ≡ numeral (slice_index_or words 3 [])
  pub claims : vec_items q.claims ≡ claims_of (drop 4 words)
