-- What a time of payment costs, and whether it is a breach. Both are told by the time and the bank closing time alone.
use Rattle.std.specs.Prelude.{◌≡◌, ℕ, zero, suc, ◌+◌, ◌*◌, ◌<◌, ◌≤◌, Bool, cond, nat_lt}

-- a time above 86,399 counts as 86,399
abbrev pub counted : ℕ → ℕ
counted time = cond (nat_lt 86399 time) 86399 time

-- a bank closing time outside 55,800 to 86,399 counts as the nearer end
abbrev pub bank_counted : ℕ → ℕ
bank_counted bank = cond (nat_lt bank 55800) 55800 (cond (nat_lt 86399 bank) 86399 bank)

-- of the n hours that follow the first hour after 55,800, how many have begun at a second of the day: the k-th begins when
-- k hours are over
abbrev pub begun_of : ℕ → ℕ → ℕ
begun_of zero second = 0
begun_of (suc k) second = cond (nat_lt (55800 + suc k * 3600) second) 1 0 + begun_of k second

-- the further hours begun; a day has 24
abbrev pub further_hours : ℕ → ℕ
further_hours second = begun_of 24 second

-- Free by 55,800. Later, 3,000,000 cents, and 1,000,000 more for each further hour begun.
abbrev pub charge_at : ℕ → ℕ
charge_at second = cond (nat_lt 55800 second) (3000000 + 1000000 * further_hours second) 0

abbrev pub charge_of : ℕ → ℕ
charge_of time = charge_at (counted time)

-- a payment after the bank closing time is a breach
abbrev pub breach_of : (time bank : ℕ) → Bool
breach_of time bank = nat_lt (bank_counted bank) (counted time)

-- The charge c of a time, by the hour in which it falls: by 55,800 none; within an hour after it 3,000,000, within the next
-- 4,000,000, and so on.
pub record Charged (time c : ℕ) : Type 0 where
  pub free : counted time ≤ 55800 → c ≡ 0
  pub within_hour :
      (h : ℕ) → 55800 + h * 3600 < counted time → counted time ≤ 55800 + (h + 1) * 3600 →
      c ≡ 3000000 + h * 1000000
