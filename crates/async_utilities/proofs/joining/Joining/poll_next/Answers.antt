use Rattle.std.proofs.Common.{arith}
use Rattle.std.proofs.lemmas.Grind.{common_steps}
use Rattle.async_utilities.proofs.joining.Joining.poll_next.Goals as goal

pub returns-in_default-poll-clause-rest : goal.returns-in_default-poll-clause-rest
returns-in_default-poll-clause-rest g c = grind (arith, common_steps)

pub returns-clause-rest : goal.returns-clause-rest
returns-clause-rest g c = grind (arith, common_steps)
