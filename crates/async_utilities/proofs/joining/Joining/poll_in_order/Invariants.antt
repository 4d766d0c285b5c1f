use Rattle.std.proofs.Common.{◌≡◌, take, vec_len}
use Rattle.async_utilities.specs.Joins.{Joins}
use Rattle.async_utilities.proofs.joining.Joining.poll_in_order.Given as goal

-- what came so far, in order, and those that are left are as they were
abbrev pub invariant-loop-self : goal.invariant-loop-self
invariant-loop-self g l = record {
  joined : Joins l.fn.self.outputs.items (vec_len l.fn.self.left) l.self.outputs.items (vec_len l.self.left);
  left : l.self.left.items ≡ take (vec_len l.self.left) l.fn.self.left.items;
}

abbrev pub decreases-loop-self : goal.decreases-loop-self
decreases-loop-self g l = vec_len l.self.left
