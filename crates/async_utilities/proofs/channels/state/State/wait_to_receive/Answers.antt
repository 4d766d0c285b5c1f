use Rattle.std.proofs.Common.{arith}
use Rattle.std.proofs.lemmas.Grind.{common_steps}
use Rattle.async_utilities.proofs.channels.state.State.wait_to_receive.Goals as goal

pub returns : goal.returns
returns g c = grind (arith, common_steps)

pub invariant_of-self-clause-nobody_waits : goal.invariant_of-self-clause-nobody_waits
invariant_of-self-clause-nobody_waits g c = λ closed. cc
