use Rattle.std.proofs.Common.{arith}
use Rattle.std.proofs.lemmas.Grind.{common_steps}
use Rattle.async_utilities.proofs.locks.event.state.State.begin.Goals as goal

pub returns-then-counts_told : goal.returns-then-counts_told
returns-then-counts_told g c = (grind (arith, common_steps), c.begin.ensures.round, c.begin.ensures.stays)

pub returns-else-counts_told : goal.returns-else-counts_told
returns-else-counts_told g c = (grind (arith, common_steps), c.begin.ensures.round, c.begin.ensures.stays)
