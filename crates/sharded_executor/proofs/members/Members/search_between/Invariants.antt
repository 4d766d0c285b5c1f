use Rattle.std.proofs.Common.{◌≡◌, ◌+◌, ◌-◌, ◌++◌, vec_len}
use Rattle.std.specs.Prelude.{vec_capacity}
use Rattle.sharded_executor.specs.Order.{false_from}
use Rattle.sharded_executor.proofs.members.Members.search_between.Given as goal

abbrev pub invariant-loop-at : goal.invariant-loop-at
invariant-loop-at g l =
    (l.self.answers.items ≡ l.fn.self.answers.items ++ false_from l.from (l.at - l.from))
    × (vec_len l.self.answers + l.from ≡ vec_len l.fn.self.answers + l.at)
    × (vec_capacity l.self.answers ≡ vec_capacity l.fn.self.answers)
    × (vec_len l.self.sleepers ≡ vec_len l.fn.self.sleepers)
