use Rattle.std.proofs.Common.{arith}
use Rattle.std.proofs.lemmas.Grind.{common_steps}
use Rattle.async_utilities.proofs.spawning.Desk.take.Goals as goal

pub returns-in-Some-take : goal.returns-in-Some-take
returns-in-Some-take g c = grind (arith, common_steps)
