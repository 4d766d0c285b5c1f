use Rattle.std.proofs.Common.{◌∙◌}
use Rattle.executor_core.proofs.World.Closes.{some_out_held}
use Rattle.executor_core.proofs.interleave.World.some_held.Goals as goal

pub returns : goal.returns
returns g c = c.some_out.ensures ∙ some_out_held c.self.inside c.self.invariant c.self.view_is
