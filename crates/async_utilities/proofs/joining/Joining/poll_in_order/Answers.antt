use Rattle.std.proofs.Common.{arith}
use Rattle.std.proofs.lemmas.Grind.{common_steps}
use Rattle.async_utilities.proofs.joining.Joining.poll_in_order.Goals as goal

pub returns-then-not-poll_next-clause-all : goal.returns-then-not-poll_next-clause-all
returns-then-not-poll_next-clause-all g c = grind (arith, common_steps)
