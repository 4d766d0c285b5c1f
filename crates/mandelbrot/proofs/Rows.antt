-- The bytes of some rows are those of the first one and of the others.
use Rattle.std.proofs.Common.{ℕ, ◌≡◌, ◌+◌, ◌-◌, ◌*◌, ◌<◌, suc, zero, arith}

pub one_row : (width left : ℕ) → 0 < left → 3 * width * left ≡ 3 * width + 3 * width * (left - 1)
one_row width zero p = elim p [ ]
one_row width (suc left) p = grind arith
