use Rattle.std.proofs.Common.{◌∙◌, sym}
use Rattle.std.proofs.lemmas.Bool.{and_left}
use Rattle.executor_core.proofs.World.Agreement.{held_not}
use Rattle.executor_core.proofs.interleave.World.may_drop.Goals as goal

pub returns-in-None : goal.returns-in-None
returns-in-None g c = sym (and_left _ _ (held_not c.self.inside c.self.invariant c.self.view_is c.args.n (sym c.find_info.ensures ∙ c.in-None.is)))
