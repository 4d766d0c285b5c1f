-- What a transfer does to balances.
use Rattle.std.specs.Prelude.{ℕ, List, ◌+◌, ◌-◌, set, slice_index}

-- the balance of one account, with so much added
abbrev pub credited : ℕ → ℕ → List ℕ → List ℕ
credited account amount balances = set balances account (slice_index balances account + amount)

-- the balance of one account, with so much taken away
abbrev pub debited : ℕ → ℕ → List ℕ → List ℕ
debited account amount balances = set balances account (slice_index balances account - amount)
