-- Charges by the time of payment.
use Rattle.std.specs.Prelude.{◌≡◌, ℕ}
use Rattle.settlement.specs.Charges.{charge_of}

pub record WorkedExample : Type 0 where
  pub in_time : ◌≡◌ {A = ℕ} (charge_of 55800) 0
  pub a_second_late : ◌≡◌ {A = ℕ} (charge_of 55801) 3000000
  pub an_hour_late : ◌≡◌ {A = ℕ} (charge_of 59400) 3000000
  pub second_hour_begun : ◌≡◌ {A = ℕ} (charge_of 59401) 4000000
  pub two_hours_late : ◌≡◌ {A = ℕ} (charge_of 63000) 4000000
  pub third_hour_begun : ◌≡◌ {A = ℕ} (charge_of 63001) 5000000
