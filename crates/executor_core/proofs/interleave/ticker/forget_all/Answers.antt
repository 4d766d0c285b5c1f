use Rattle.executor_core.proofs.World.Forgotten.{forgotten_walked}
use Rattle.executor_core.proofs.interleave.ticker.forget_all.Goals as goal

pub loop-ticker-preserved : goal.loop-ticker-preserved
loop-ticker-preserved c = forgotten_walked _ _ _ c.loop-ticker.invariant c.forgotten.ensures
