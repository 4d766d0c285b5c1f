use Rattle.std.proofs.Common.{◌≡◌, true, vec_len}
use Rattle.std.specs.Prelude.{is_some}
use Rattle.std.specs.List.{AllWithin}
use Rattle.sharded_executor.proofs.members.Members.sleep.Given as goal

abbrev pub invariant-loop-at : goal.invariant-loop-at
invariant-loop-at g l =
    AllWithin (λ s. is_some s.inner.number ≡ true) l.self.sleepers.items 0 l.at
    × (vec_len l.self.sleepers ≡ vec_len l.fn.self.sleepers)
    × (l.self.answers ≡ l.fn.self.answers)
