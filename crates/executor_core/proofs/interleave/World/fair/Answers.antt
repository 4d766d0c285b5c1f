use Rattle.executor_core.proofs.World.Room.{count_fits}
use Rattle.executor_core.proofs.World.RunSteps.{rest_is_run, fair_done}
use Rattle.executor_core.proofs.interleave.World.fair.Goals as goal

pub overflow_add-self : goal.overflow_add-self
overflow_add-self g c = count_fits c.self.invariant.room c.self.view_is c.requires.room

pub unreachable-requires : goal.unreachable-requires
unreachable-requires g c = rest_is_run c.self.inside c.self.invariant c.self.view_is c.requires.room c.args.k c.requires.enabled c.ticker_at.ensures c.in_default.is

pub invariant_of-self : goal.invariant_of-self
invariant_of-self g c = (fair_done c.self.inside c.self.invariant c.self.view_is c.requires.room c.args.k c.requires.enabled c.ticker_at.ensures c.in-Some.is c.fair.ensures.state c.fair.ensures.count).sound

pub returns : goal.returns
returns g c = (fair_done c.self.inside c.self.invariant c.self.view_is c.requires.room c.args.k c.requires.enabled c.ticker_at.ensures c.in-Some.is c.fair.ensures.state c.fair.ensures.count).does
