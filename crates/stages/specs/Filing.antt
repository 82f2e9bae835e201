-- Filing: which terms and buyers are refused, and what tender the others give.
use Rattle.std.specs.Prelude.{◌≡◌, ℕ, Bool, false, cond, not, ◌&&◌, List, [], ◌∷◌, length, is_some, Some, None, Option, nat_le}
use Rattle.stages.specs.declared.choices.Choices.{Choices}
use Rattle.stages.specs.declared.kind.Kind.{Kind}
use Rattle.stages.specs.declared.method.Method.{Method}
use Rattle.stages.specs.declared.particulars.Particulars.{Particulars}
use Rattle.stages.specs.declared.shortfall.Shortfall.{Shortfall}
use Rattle.stages.specs.declared.terms.Buyer.{Buyer}
use Rattle.stages.specs.declared.terms.Terms.{Terms}
use Rattle.stages.specs.Buyers.{buyers_fit, lots_fit, demanded}
use Rattle.stages.specs.Kinds.{kind_at, method_at, shortfall_at, allows}
use Rattle.stages.specs.Register.{first_of}

-- kind, method and shortfall, where each is known and the kind allows the others
abbrev pub combined : Option Kind → Option Method → Option Shortfall → Option Choices
combined None m s = None
combined (Some k) None s = None
combined (Some k) (Some m) None = None
combined (Some k) (Some m) (Some s) = cond (allows k m s) (Some (record { kind = k; method = m; shortfall = s })) None

-- what the terms choose
abbrev pub choices_at : Terms → Option Choices
choices_at t = combined (kind_at t.kind) (method_at t.method) (shortfall_at t.shortfall)

-- 1 to 1,000 shares a lot, a previous close of 1 to 800,000 cents, and a bank closing time from 55,800 to 86,399
abbrev pub ranges_fit : Terms → Bool
ranges_fit t =
    nat_le 1 t.unit && (nat_le t.unit 1000 &&
    (nat_le 1 t.previous_close && (nat_le t.previous_close 800000 &&
    (nat_le 55800 t.bank_closing && nat_le t.bank_closing 86399))))

-- the buyers fit the kind that the terms choose
abbrev pub buyers_fit_choice : Option Choices → List Buyer → Bool
buyers_fit_choice None bs = false
buyers_fit_choice (Some c) bs = buyers_fit c.kind bs

-- The judgement of a filing. 1: a term is outside its range, or the kind does not allow the method and shortfall. 2: the
-- number of buyers is wrong, or two accounts are equal. 3: a buyer's lots or those of all are outside their range.
abbrev pub filing_code : Terms → List Buyer → ℕ
filing_code t bs =
    first_of (
    (1, not (is_some (choices_at t) && ranges_fit t)) ∷
    (2, not (buyers_fit_choice (choices_at t) bs)) ∷
    (3, not (lots_fit bs)) ∷
    []
    )

-- A tender filed on the terms for the buyers says what they say.
pub record AsFiled (t : Terms) (bs : List Buyer) (p : Particulars) : Type 0 where
  pub kind : kind_at t.kind ≡ Some p.kind
  pub method : method_at t.method ≡ Some p.method
  pub shortfall : shortfall_at t.shortfall ≡ Some p.shortfall
  pub unit : p.unit ≡ t.unit
  pub previous_close : p.previous_close ≡ t.previous_close
  pub bank_closing : p.bank_closing ≡ t.bank_closing
  pub buyers : p.buyers ≡ length bs
  pub demand : p.demand ≡ demanded bs
