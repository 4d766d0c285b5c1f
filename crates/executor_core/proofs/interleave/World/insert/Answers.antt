use Rattle.std.proofs.Common.{◌∙◌, sym}
use Rattle.executor_core.proofs.World.Room.{count_fits}
use Rattle.executor_core.proofs.World.TickerSteps.{insert_closed, insert_done, insert_refused}
use Rattle.executor_core.proofs.interleave.World.insert.Goals as goal

pub overflow_add-self : goal.overflow_add-self
overflow_add-self g c = count_fits c.self.invariant.room c.self.view_is c.requires.room

pub insert-requires : goal.insert-requires
insert-requires g c = insert_closed c.self.inside c.self.invariant c.self.view_is c.requires.room c.args.k c.requires.enabled c.requires.awake

pub unreachable-requires : goal.unreachable-requires
unreachable-requires g c = insert_refused c.self.inside c.self.invariant c.self.view_is c.requires.room c.args.k c.requires.enabled c.requires.awake (sym c.in_default.is ∙ c.insert.ensures.answer)

pub invariant_of-self : goal.invariant_of-self
invariant_of-self g c = (insert_done c.self.inside c.self.invariant c.self.view_is c.requires.room c.args.k c.requires.enabled c.requires.awake c.law_holds.ensures c.insert.ensures.state c.in-Ok.ensures.answer c.ticker_at-ticker.ensures c.slept.ensures c.set_ticker.ensures).sound

pub returns : goal.returns
returns g c = (insert_done c.self.inside c.self.invariant c.self.view_is c.requires.room c.args.k c.requires.enabled c.requires.awake c.law_holds.ensures c.insert.ensures.state c.in-Ok.ensures.answer c.ticker_at-ticker.ensures c.slept.ensures c.set_ticker.ensures).does
