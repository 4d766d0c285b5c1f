use Rattle.std.proofs.Common.{◌∙◌, ap}
use Rattle.executor_core.specs.World.Log.{held}
use Rattle.executor_core.proofs.World.Agreement.{out_is}
use Rattle.executor_core.proofs.interleave.World.is_out.Goals as goal

pub returns : goal.returns
returns g c = c.has_future.ensures ∙ out_is c.self.invariant.agree c.args.n ∙ ap (λ w. held c.args.n w.log) c.self.view_is
