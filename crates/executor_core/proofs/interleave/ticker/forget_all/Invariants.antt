use Rattle.std.proofs.Common.{◌≡◌, ◌++◌, map, take, drop}
use Rattle.executor_core.specs.World.Tickers.{forgotten}
use Rattle.executor_core.proofs.interleave.ticker.forget_all.Given as goal

abbrev pub invariant-loop-ticker : goal.invariant-loop-ticker
invariant-loop-ticker l = l.ticker-items ≡ map forgotten (take l.ticker-index l.fn.tickers.items) ++ drop l.ticker-index l.fn.tickers.items
