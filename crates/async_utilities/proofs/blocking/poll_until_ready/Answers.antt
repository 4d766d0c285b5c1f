use Rattle.std.proofs.Common.{rules, of_calls}
use Rattle.async_utilities.specs.Polls.Gives.{now, later}
use Rattle.async_utilities.proofs.blocking.poll_until_ready.Goals as goal

pub returns-in-Ready : goal.returns-in-Ready
returns-in-Ready g c =
    let step = rw c.in-Ready.is at c.poll.ensures in
    c.loop.invariant.3 _ (now _ _ _ _ step)

pub loop-preserved : goal.loop-preserved
loop-preserved g c =
    let step = rw c.in_default.is at c.poll.ensures in
    (tt, tt, search (rules, of_calls), λ output gives. c.loop.invariant.3 output (later _ _ _ output step gives))
