-- A general tender at one price, of 1,000 shares a lot, previous close 4,000, bank closing 55,800 and base price 4,200. Its buyer
-- has account 7. Member AAAA enters six offers at 54,000 for account 20.
use Rattle.std.specs.Prelude.{◌≡◌, ℕ, ◌/◌, ◌≤◌, List, [], ◌∷◌, map, take, Some, None}
use Rattle.std.proofs.Common.{lit≤}
use Rattle.stages.specs.declared.kind.Kind.TheVariants.{General}
use Rattle.stages.specs.declared.method.Method.{Method}
use Rattle.stages.specs.declared.method.Method.TheVariants.{OnePrice, AsOffered}
use Rattle.stages.specs.declared.opened.Open.{Open}
use Rattle.stages.specs.declared.shortfall.Shortfall.{Shortfall}
use Rattle.stages.specs.declared.shortfall.Shortfall.TheVariants.{Take, Void}
use Rattle.stages.specs.declared.terms.Buyer.{Buyer}
use Rattle.sharing.specs.Draws.{stridden}
use Rattle.sharing.specs.Shares.{proportional}
use Rattle.book.specs.declared.call.Call.{Call}
use Rattle.book.specs.declared.call.Call.TheVariants.{Enter}
use Rattle.book.specs.declared.offer.Offer.{Offer}
use Rattle.book.specs.Model.{fresh}
use Rattle.book.specs.Offers.{supplied}
use Rattle.allotment_theory.specs.Fills.{fills_of, gathered, row_of, worth}
use Rattle.allotment_theory.specs.Offered.{due_of, marginal_of}
use Rattle.allotment_theory.specs.Receipts.{paid_at, payments_of}
use Rattle.tender_run.specs.Runs.{taken_of, tallied}

-- the tender for so many lots, with a method and a shortfall
abbrev pub tender : Method → Shortfall → (lots : ℕ) → (1 ≤ lots) × (lots ≤ 1000000) → Open
tender method shortfall lots fits = record {
  particulars = record {
    kind = General;
    method = method;
    shortfall = shortfall;
    unit = 1000;
    previous_close = 4000;
    bank_closing = 55800;
    buyers = 1;
    demand = lots;
    units = (lit≤ tt, lit≤ tt);
    closes = (lit≤ tt, lit≤ tt);
    banks = (lit≤ tt, lit≤ tt);
    counts = (lit≤ tt, lit≤ tt);
    demands = fits;
  };
  base = 4200;
  bases = lit≤ tt;
}

abbrev pub buyer : ℕ → List Buyer
buyer lots = record { account = 7; lots = lots } ∷ []

abbrev pub entry : ℕ → ℕ → Call
entry price lots = Enter (record { time = 54000; member = 65 ∷ 65 ∷ 65 ∷ 65 ∷ []; account = 20; price = price; lots = lots })

-- the entries, by price and lots; the last is above the base price
abbrev pub entries : List Call
entries = entry 4000 7 ∷ entry 4100 4 ∷ entry 4100 1 ∷ entry 4100 1 ∷ entry 4150 5 ∷ entry 4201 1 ∷ []

abbrev pub ten : Open
ten = tender OnePrice Take 10 (lit≤ tt, lit≤ tt)

-- the standing offers of the tender for 10 lots
abbrev pub standing : List Offer
standing = (tallied ten (buyer 10) entries).list

-- the 512 fills under the proportional rule with a stride and a shift
abbrev pub fills : ℕ → ℕ → List ℕ
fills stride shift = row_of standing (fills_of (proportional (stridden stride shift)) 10 standing)

-- the receipts of the fills under a method
abbrev pub receipts : Method → ℕ
receipts method = worth 1000 (paid_at method 4100) standing (gathered standing (fills 3 510))

-- the standing offers of the tender for 19 lots
abbrev pub standing_19 : Shortfall → List Offer
standing_19 shortfall = (tallied (tender OnePrice shortfall 19 (lit≤ tt, lit≤ tt)) (buyer 19) entries).list

pub record WorkedExample : Type 0 where
  -- Five entries are accepted and one is refused.
  pub accepted : taken_of ten 512 (buyer 10) fresh entries ≡ 5
  pub prices : map (λ o. o.price) standing ≡ 4000 ∷ 4100 ∷ 4100 ∷ 4100 ∷ 4150 ∷ []
  pub lots : map (λ o. o.lots) standing ≡ 7 ∷ 4 ∷ 1 ∷ 1 ∷ 5 ∷ []
  -- Ten lots are due at 4,100.
  pub due : due_of 10 Take (supplied standing) ≡ 10
  pub price : marginal_of 10 standing ≡ Some 4100
  -- With stride 3 and shift 510 the fills are 7, 3, 0, 0, 0, and with stride 509 and shift 0 they are 7, 2, 0, 1, 0.
  pub first_draw : take 5 (fills 3 510) ≡ 7 ∷ 3 ∷ 0 ∷ 0 ∷ 0 ∷ []
  pub second_draw : take 5 (fills 509 0) ≡ 7 ∷ 2 ∷ 0 ∷ 1 ∷ 0 ∷ []
  -- Receipts are 41,000,000 at one price, with a fee of 20,500, and 40,300,000 as offered.
  pub one_price : receipts OnePrice ≡ 41000000
  pub fee : receipts OnePrice / 2000 ≡ 20500
  pub as_offered : receipts AsOffered ≡ 40300000
  -- For 19 lots 18 are due at 4,150, and none where the tender is then void.
  pub short_due : due_of 19 Take (supplied (standing_19 Take)) ≡ 18
  pub short_price : marginal_of 18 (standing_19 Take) ≡ Some 4150
  pub void_due : due_of 19 Void (supplied (standing_19 Void)) ≡ 0
  pub void_price : marginal_of 0 (standing_19 Void) ≡ None
  -- Buyers with 4, 2 and 1 of 7 lots due pay 17,211, 8,606 and 4,303 of receipts of 30,120.
  pub payments : payments_of 30120 7 (4 ∷ 2 ∷ 1 ∷ []) ≡ 17211 ∷ 8606 ∷ 4303 ∷ []
