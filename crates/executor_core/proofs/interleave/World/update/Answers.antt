use Rattle.executor_core.proofs.World.Room.{count_fits}
use Rattle.executor_core.proofs.World.TickerSteps.{update_closed, update_known, parked_done, again_done}
use Rattle.executor_core.proofs.interleave.World.update.Goals as goal

pub overflow_add-self : goal.overflow_add-self
overflow_add-self g c = count_fits c.self.invariant.room c.self.view_is c.requires.room

pub update-requires : goal.update-requires
update-requires g c = update_closed c.self.inside c.self.invariant c.self.view_is c.requires.room c.args.k c.requires.enabled c.requires.asleep c.ticker_at-ticker.ensures

pub unreachable-requires : goal.unreachable-requires
unreachable-requires g c = update_known c.self.inside c.self.invariant c.self.view_is c.requires.room c.args.k c.requires.enabled c.requires.asleep c.ticker_at-ticker.ensures _ c.in-Unknown.ensures.answer

pub invariant_of-self : goal.invariant_of-self
invariant_of-self g c = (parked_done c.self.inside c.self.invariant c.self.view_is c.requires.room c.args.k c.requires.enabled c.requires.asleep c.ticker_at-ticker.ensures c.update.ensures.state c.set_ticker.ensures _ c.in-Asleep.ensures.answer c.rested.ensures).sound

pub returns-in-Asleep : goal.returns-in-Asleep
returns-in-Asleep g c = (parked_done c.self.inside c.self.invariant c.self.view_is c.requires.room c.args.k c.requires.enabled c.requires.asleep c.ticker_at-ticker.ensures c.update.ensures.state c.set_ticker.ensures _ c.in-Asleep.ensures.answer c.rested.ensures).does

pub invariant_of-self-in-WasNotified : goal.invariant_of-self-in-WasNotified
invariant_of-self-in-WasNotified g c = (again_done c.self.inside c.self.invariant c.self.view_is c.requires.room c.args.k c.requires.enabled c.requires.asleep c.ticker_at-ticker.ensures c.update.ensures.state c.set_ticker-in-WasNotified.ensures _ c.in-WasNotified.ensures.answer c.slept.ensures).sound

pub returns-in-WasNotified : goal.returns-in-WasNotified
returns-in-WasNotified g c = (again_done c.self.inside c.self.invariant c.self.view_is c.requires.room c.args.k c.requires.enabled c.requires.asleep c.ticker_at-ticker.ensures c.update.ensures.state c.set_ticker-in-WasNotified.ensures _ c.in-WasNotified.ensures.answer c.slept.ensures).does
