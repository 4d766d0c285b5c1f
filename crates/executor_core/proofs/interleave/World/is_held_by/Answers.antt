use Rattle.std.proofs.Common.{◌∙◌, sym, ap}
use Rattle.executor_core.specs.World.Promises.{holds}
use Rattle.executor_core.proofs.interleave.World.is_held_by.Goals as goal

pub returns-in-Some : goal.returns-in-Some
returns-in-Some g c = ap (holds c.args.k) (sym c.in-Some.is) ∙ ap (λ w. holds c.args.k w.holder) c.self.view_is

pub returns-in-None : goal.returns-in-None
returns-in-None g c = ap (holds c.args.k) (sym c.in-None.is) ∙ ap (λ w. holds c.args.k w.holder) c.self.view_is
