use Rattle.std.proofs.Common.{ap}
use Rattle.async_executor.proofs.ticker.tick.TickInFutureWaker.poll.Goals as goal

pub returns-in-Rested-clause-ended : goal.returns-in-Rested-clause-ended
returns-in-Rested-clause-ended g c = ap (λ rest. rest.ended) c.keep-self.ensures.step
