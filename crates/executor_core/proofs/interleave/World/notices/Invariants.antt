use Rattle.std.proofs.Common.{◌≡◌, ◌+◌, take}
use Rattle.std.specs.Prelude.{sum_by}
use Rattle.executor_core.specs.World.Phases.{notices_in}
use Rattle.executor_core.proofs.interleave.World.notices.Given as goal

abbrev pub invariant-loop-ticker : goal.invariant-loop-ticker
invariant-loop-ticker g l = (l.notices ≡ l.self.notices + sum_by (λ t. notices_in t.phase) (take l.ticker-index l.ticker-items)) × (l.ticker-items ≡ l.self.tickers)
