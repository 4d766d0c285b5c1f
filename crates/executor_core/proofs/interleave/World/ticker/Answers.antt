use Rattle.std.proofs.Common.{◌∙◌, ap}
use Rattle.executor_core.specs.World.Steps.{ticker}
use Rattle.executor_core.proofs.interleave.World.ticker.Goals as goal

pub returns : goal.returns
returns g c = c.ticker_at.ensures ∙ ap (ticker c.args.k) c.self.view_is
