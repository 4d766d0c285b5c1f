use Rattle.std.proofs.Common.{◌<◌, subst, sym, arith}
use Rattle.executor_core.specs.World.Promises.{floating_notices}
use Rattle.executor_core.proofs.World.Room.{count_fits, pick_fits}
use Rattle.executor_core.proofs.World.Spends.{exchange_done}
use Rattle.executor_core.proofs.interleave.World.exchange.Goals as goal

pub overflow_add-self : goal.overflow_add-self
overflow_add-self g c = count_fits c.self.invariant.room c.self.view_is c.requires.room

pub keep_pick-requires : goal.keep_pick-requires
keep_pick-requires g c = pick_fits c.self.invariant.room

pub invariant_of-self : goal.invariant_of-self
invariant_of-self g c = (exchange_done c.self.inside c.self.invariant c.self.view_is c.requires.room c.requires.enabled c.exchange-pick.ensures.state c.exchange-pick.ensures.pick c.keep_pick.ensures.counted c.keep_pick.ensures.kept c.reply_of_pick.ensures).sound

pub returns : goal.returns
returns g c = (exchange_done c.self.inside c.self.invariant c.self.view_is c.requires.room c.requires.enabled c.exchange-pick.ensures.state c.exchange-pick.ensures.pick c.keep_pick.ensures.counted c.keep_pick.ensures.kept c.reply_of_pick.ensures).does

pub overflow_sub-self : goal.overflow_sub-self
overflow_sub-self g c = let floats = subst (λ w. 0 < floating_notices w) (sym c.self.view_is) c.requires.enabled in omega arith
