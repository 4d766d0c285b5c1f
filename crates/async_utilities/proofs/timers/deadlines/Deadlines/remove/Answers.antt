use Rattle.std.proofs.Common.{arith, refl}
use Rattle.async_utilities.proofs.Deadlines.{fresh_after}
use Rattle.async_utilities.proofs.timers.deadlines.Deadlines.remove.Goals as goal

pub invariant_of-self : goal.invariant_of-self
invariant_of-self g c = record { fresh = fresh_after c.args.self.now.waiting c.remove.new.self c.args.deadline _ _ _ c.args.self.now.fresh (omega arith) c.remove.ensures.updates (λ _. refl) }
