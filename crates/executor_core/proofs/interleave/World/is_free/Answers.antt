use Rattle.std.proofs.Common.{◌≡◌, is_some, ap, arith}
use Rattle.executor_core.proofs.BoolLemmas.{not-not}
use Rattle.executor_core.proofs.interleave.World.is_free.Goals as goal

pub returns : goal.returns
returns g c = let seen : is_some c.self.inside.holder ≡ is_some c.args.self.now.holder = ap (λ w. is_some w.holder) c.self.view_is in rw (← seen) (grind (arith, not-not))
