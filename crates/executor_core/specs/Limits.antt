-- The limits of an executor.
use Rattle.std.specs.Prelude.{ℕ, ◌+◌, Bool, nat_lt, ◌&&◌}
use Rattle.executor_core.specs.declared.limits.Limits.{Limits}

-- for how many tasks the queue of a run may have room at most
abbrev pub most_local : ℕ
most_local = 65536

-- each of them is in its range
abbrev pub is_lawful : Limits → Bool
is_lawful limits = nat_lt 0 limits.local && nat_lt limits.local (most_local + 1) && nat_lt 0 limits.turn && nat_lt 0 limits.fair

-- those of an executor whose caller hands in none
abbrev pub default_limits : Limits
default_limits = record { local = 512; turn = 200; fair = 64 }
