use Rattle.std.proofs.Common.{◌≡◌, true, subst, sym, arith}
use Rattle.std.proofs.lemmas.Bool.{and_parts, ltb-true}
use Rattle.std.specs.Prelude.{nat_lt}
use Rattle.executor_core.proofs.World.Room.{count_fits}
use Rattle.executor_core.proofs.World.Spends.{list_closed, notify_done}
use Rattle.executor_core.proofs.interleave.World.notify.Goals as goal

pub overflow_add-self : goal.overflow_add-self
overflow_add-self g c = count_fits c.self.invariant.room c.self.view_is c.requires.room

pub notify-requires : goal.notify-requires
notify-requires g c = list_closed c.self.inside c.self.invariant c.self.view_is c.requires.room _ c.requires.enabled

pub invariant_of-self : goal.invariant_of-self
invariant_of-self g c = (notify_done c.self.inside c.self.invariant c.self.view_is c.requires.room c.requires.enabled c.last_number-last.ensures.law c.notify.ensures.state c.last_number-last.ensures.number c.notify.ensures.answer c.has_awaiter-notified.ensures c.reply_of_sleeper.ensures).sound

pub returns : goal.returns
returns g c = (notify_done c.self.inside c.self.invariant c.self.view_is c.requires.room c.requires.enabled c.last_number-last.ensures.law c.notify.ensures.state c.last_number-last.ensures.number c.notify.ensures.answer c.has_awaiter-notified.ensures c.reply_of_sleeper.ensures).does

pub overflow_sub-self : goal.overflow_sub-self
overflow_sub-self g c = let out = ltb-true 0 _ (subst (λ w. nat_lt 0 w.picks ≡ true) (sym c.self.view_is) (and_parts _ _ c.requires.enabled).0) in omega arith
