-- Tests joined and negated.
use Rattle.std.proofs.Common.{◌≡◌, Bool, true, false, ◌||◌, not, arith}

pub not-not : (b : Bool) → not (not b) ≡ b
not-not b = grind arith

pub or-without_last : (a b c : Bool) → c ≡ false → a || b || c ≡ true → a || b ≡ true
or-without_last a b c e h = grind arith
