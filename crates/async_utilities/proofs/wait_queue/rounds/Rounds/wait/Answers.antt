use Rattle.std.proofs.Common.{arith}
use Rattle.std.proofs.lemmas.Grind.{common_steps}
use Rattle.async_utilities.proofs.wait_queue.rounds.Rounds.wait.Goals as goal

pub returns-in-Some-wait : goal.returns-in-Some-wait
returns-in-Some-wait g c = grind (arith, common_steps)
