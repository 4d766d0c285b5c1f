use Rattle.std.proofs.Common.{◌≡◌, ◌<◌, None, vec_len}
use Rattle.std.specs.Prelude.{IfSome}
use Rattle.std.specs.List.{AllWithin}
use Rattle.sharded_executor.specs.Notices.{OwesOnly}
use Rattle.sharded_executor.proofs.members.Members.leave.Given as goal

abbrev pub invariant-loop-at : goal.invariant-loop-at
invariant-loop-at g l =
    AllWithin (λ s. s.inner.number ≡ None) l.self.sleepers.items 0 l.at
    × (vec_len l.self.sleepers ≡ vec_len l.fn.self.sleepers)
    × (l.self.answers ≡ l.fn.self.answers)
    × IfSome l.owes (λ owes. owes < l.at)
    × OwesOnly (λ s. s.inner.notice) l.owes l.self.sleepers.items l.at
