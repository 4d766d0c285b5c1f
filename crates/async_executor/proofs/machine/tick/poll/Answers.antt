use Rattle.std.proofs.Common.{refl}
use Rattle.async_executor.proofs.machine.tick.poll.Goals as goal

pub returns : goal.returns
returns g c = rw (c.act.ensures, c.begin-searching.ensures.step, c.at.ensures) refl
