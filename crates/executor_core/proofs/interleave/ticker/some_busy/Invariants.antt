use Rattle.std.proofs.Common.{◌≡◌, ◌||◌, not, false, take}
use Rattle.std.specs.List.{list_any}
use Rattle.executor_core.specs.World.Phases.{at_rest, is_over}
use Rattle.executor_core.proofs.interleave.ticker.some_busy.Given as goal

abbrev pub invariant-loop-ticker : goal.invariant-loop-ticker
invariant-loop-ticker l = list_any (λ t. not (at_rest t.phase || is_over t.phase)) (take l.ticker-index l.tickers.items) ≡ false
