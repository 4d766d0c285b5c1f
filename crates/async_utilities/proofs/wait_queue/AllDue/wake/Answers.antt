use Rattle.std.proofs.Common.{sym, ◌∙◌}
use Rattle.async_utilities.proofs.WaitLemmas.{steps_shorter}
use Rattle.async_utilities.proofs.wait_queue.AllDue.wake.Goals as goal

pub loop-waiters-smaller : goal.loop-waiters-smaller
loop-waiters-smaller g c =
    steps_shorter c.loop-waiters.waiters c.first.new.self c.loop-waiters.waiters.waiting c.first.ensures.steps (sym c.is_empty.ensures ∙ c.loop-waiters-test.true)
