use Rattle.std.proofs.Common.{◌≡◌, ap}
use Rattle.executor_core.proofs.interleave.World.log.Goals as goal

pub returns : goal.returns
returns g c = let seen : c.self.inside.log.items ≡ c.args.self.now.log = ap (λ w. w.log) c.self.view_is in cc
