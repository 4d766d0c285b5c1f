use Rattle.executor_core.proofs.World.Room.{count_fits}
use Rattle.executor_core.proofs.World.TickerSteps.{is_new_now, drop_awake_done}
use Rattle.executor_core.proofs.interleave.World.drop_awake.Goals as goal

pub overflow_add-self : goal.overflow_add-self
overflow_add-self g c = count_fits c.self.invariant.room c.self.view_is c.requires.room

pub release_place-requires : goal.release_place-requires
release_place-requires g c = is_new_now c.self.inside c.self.view_is c.ticker_at-ticker.result c.is_new_run-is_new.ensures

pub invariant_of-self : goal.invariant_of-self
invariant_of-self g c = (drop_awake_done c.self.inside c.self.invariant c.self.view_is c.requires.room c.args.k c.requires.enabled c.requires.awake c.ticker_at-ticker.ensures (is_new_now c.self.inside c.self.view_is c.ticker_at-ticker.result c.is_new_run-is_new.ensures) c.ended.ensures c.set_ticker.ensures c.release_place.ensures c.release.ensures).sound

pub returns : goal.returns
returns g c = (drop_awake_done c.self.inside c.self.invariant c.self.view_is c.requires.room c.args.k c.requires.enabled c.requires.awake c.ticker_at-ticker.ensures (is_new_now c.self.inside c.self.view_is c.ticker_at-ticker.result c.is_new_run-is_new.ensures) c.ended.ensures c.set_ticker.ensures c.release_place.ensures c.release.ensures).does
