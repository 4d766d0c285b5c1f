use Rattle.std.proofs.Common.{arith}
use Rattle.std.proofs.lemmas.Grind.{common_steps}
use Rattle.async_utilities.proofs.channels.state.State.receive_many.Goals as goal

pub returns-in-One-clause-taken : goal.returns-in-One-clause-taken
returns-in-One-clause-taken g c = grind (arith, common_steps)
