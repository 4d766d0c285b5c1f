-- The sum of balances after a transfer.
use Rattle.std.proofs.Common.{ℕ, List, ◌^◌, ◌≡◌, ◌<◌, ◌≤◌, ◌+◌, ◌-◌, length, sum, slice_index, arith}
use Rattle.std.proofs.lemmas.List.{length-set}
use Rattle.std.proofs.lemmas.List.Sums.{sum_by-set, get_or-le-sum_by}
use Rattle.bank.specs.Transfers.{credited, debited}

pub sum_credited : (account amount : ℕ) (xs : List ℕ) → account < length xs → sum (credited account amount xs) ≡ sum xs + amount
sum_credited account amount xs within = omega (arith, sum_by-set (λ x. x) xs account (slice_index xs account + amount) 0 within)

pub sum_debited : (account amount : ℕ) (xs : List ℕ) → account < length xs → amount ≤ slice_index xs account → sum (debited account amount xs) + amount ≡ sum xs
sum_debited account amount xs within enough = omega (arith, sum_by-set (λ x. x) xs account (slice_index xs account - amount) 0 within, enough)

pub balance_within : (account : ℕ) (xs : List ℕ) → account < length xs → slice_index xs account ≤ sum xs
balance_within account xs within = get_or-le-sum_by (λ x. x) xs account 0 within

debited_within : (from to amount : ℕ) (xs : List ℕ) → to < length xs → to < length (debited from amount xs)
debited_within from to amount xs within = omega (arith, length-set xs from (slice_index xs from - amount), within)

pub sum_moved : (from to amount : ℕ) (xs : List ℕ) → from < length xs → to < length xs → amount ≤ slice_index xs from → sum (credited to amount (debited from amount xs)) ≡ sum xs
sum_moved from to amount xs from_within to_within enough =
    omega (arith, sum_credited to amount (debited from amount xs) (debited_within from to amount xs to_within), sum_debited from amount xs from_within enough)

pub credit_fits : (from to amount : ℕ) (xs : List ℕ) → from < length xs → to < length xs → amount ≤ slice_index xs from → sum xs < 2 ^ 64 → slice_index (debited from amount xs) to + amount < 2 ^ 64
credit_fits from to amount xs from_within to_within enough countable =
    omega (arith, balance_within to (debited from amount xs) (debited_within from to amount xs to_within), sum_debited from amount xs from_within enough, countable)
