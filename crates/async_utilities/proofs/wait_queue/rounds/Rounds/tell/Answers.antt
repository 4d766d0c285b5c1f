use Rattle.std.proofs.Common.{arith}
use Rattle.std.proofs.lemmas.Grind.{common_steps}
use Rattle.async_utilities.proofs.wait_queue.rounds.Rounds.tell.Goals as goal

pub returns-in-Some-clause-tells : goal.returns-in-Some-clause-tells
returns-in-Some-clause-tells g c = grind (arith, common_steps)

pub returns-in_default-clause-tells : goal.returns-in_default-clause-tells
returns-in_default-clause-tells g c = grind (arith, common_steps)
