use Rattle.std.proofs.Common.{arith}
use Rattle.std.proofs.lemmas.Grind.{common_steps}
use Rattle.async_utilities.proofs.combining.RaceFuture.poll.Goals as goal

pub returns-in-Ready-clause-turn : goal.returns-in-Ready-clause-turn
returns-in-Ready-clause-turn g c = grind (arith, common_steps)

pub returns-in_default-answer-clause-turn : goal.returns-in_default-answer-clause-turn
returns-in_default-answer-clause-turn g c = grind (arith, common_steps)
