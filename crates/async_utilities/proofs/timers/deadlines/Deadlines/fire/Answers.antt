use Rattle.std.proofs.Common.{arith}
use Rattle.std.proofs.lemmas.Grind.{common_steps}
use Rattle.async_utilities.proofs.timers.deadlines.Deadlines.fire.Goals as goal

pub invariant_of-self : goal.invariant_of-self
invariant_of-self g c = record { fresh = λ deadline above. grind (arith, common_steps, c.args.self.now.fresh deadline above) }
