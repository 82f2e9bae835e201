use Rattle.std.proofs.Common.{refl}
use Rattle.allotment_example.proofs.worked_example.Goals as goal

pub returns : goal.returns
returns c = record {
  accepted = refl;
  prices = refl;
  lots = refl;
  due = refl;
  price = refl;
  first_draw = refl;
  second_draw = refl;
  one_price = refl;
  fee = refl;
  as_offered = refl;
  short_due = refl;
  short_price = refl;
  void_due = refl;
  void_price = refl;
  payments = refl;
}
