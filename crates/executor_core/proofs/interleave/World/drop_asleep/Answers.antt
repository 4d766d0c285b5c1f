use Rattle.executor_core.proofs.World.Room.{count_fits}
use Rattle.executor_core.proofs.World.TickerSteps.{drop_closed, drop_asleep_done}
use Rattle.executor_core.proofs.interleave.World.drop_asleep.Goals as goal

pub overflow_add-self : goal.overflow_add-self
overflow_add-self g c = count_fits c.self.invariant.room c.self.view_is c.requires.room

pub remove_number-notified-requires : goal.remove_number-notified-requires
remove_number-notified-requires g c = drop_closed c.self.inside c.self.invariant c.self.view_is c.requires.room c.args.k c.requires.enabled c.requires.asleep

pub invariant_of-self : goal.invariant_of-self
invariant_of-self g c = (drop_asleep_done c.self.inside c.self.invariant c.self.view_is c.requires.room c.args.k c.requires.enabled c.requires.asleep c.remove_number-notified.ensures.law c.remove_number-notified.ensures.state c.remove_number-notified.ensures.notified c.ticker_at-ticker.ensures c.dropped.ensures c.set_ticker.ensures c.reply_of_removal.ensures).sound

pub returns : goal.returns
returns g c = (drop_asleep_done c.self.inside c.self.invariant c.self.view_is c.requires.room c.args.k c.requires.enabled c.requires.asleep c.remove_number-notified.ensures.law c.remove_number-notified.ensures.state c.remove_number-notified.ensures.notified c.ticker_at-ticker.ensures c.dropped.ensures c.set_ticker.ensures c.reply_of_removal.ensures).does
