use Rattle.std.proofs.Common.{◌∙◌, ◌+◌, cond, sym, ap}
use Rattle.std.specs.Prelude.{nat_lt}
use Rattle.executor_core.specs.World.Phases.{has_ended}
use Rattle.executor_core.proofs.World.Room.{count_fits, notice_fits}
use Rattle.executor_core.proofs.World.TickerSteps.{store_on, store_ended}
use Rattle.executor_core.proofs.interleave.World.store.Goals as goal

pub overflow_add-self : goal.overflow_add-self
overflow_add-self g c = count_fits c.self.invariant.room c.self.view_is c.requires.room

pub count_if-requires : goal.count_if-requires
count_if-requires g c = notice_fits c.self.invariant.room

pub invariant_of-self : goal.invariant_of-self
invariant_of-self g c = (store_on c.self.inside c.self.invariant c.self.view_is c.requires.room c.args.k c.requires.enabled c.is_notified-notified.ensures.answer c.store.ensures.state c.ticker_at-ticker.ensures c.stored.ensures c.set_ticker.ensures (c.count_if.ensures ∙ ap (λ n. cond (nat_lt 0 n) (c.self.inside.notices + 1) c.self.inside.notices) c.notices.ensures) (ap (λ t. has_ended t.phase) (sym c.stored-2.ensures) ∙ sym c.has_ended.ensures ∙ c.if-not-has_ended.true)).sound

pub returns-then-not-has_ended : goal.returns-then-not-has_ended
returns-then-not-has_ended g c = (store_on c.self.inside c.self.invariant c.self.view_is c.requires.room c.args.k c.requires.enabled c.is_notified-notified.ensures.answer c.store.ensures.state c.ticker_at-ticker.ensures c.stored.ensures c.set_ticker.ensures (c.count_if.ensures ∙ ap (λ n. cond (nat_lt 0 n) (c.self.inside.notices + 1) c.self.inside.notices) c.notices.ensures) (ap (λ t. has_ended t.phase) (sym c.stored-2.ensures) ∙ sym c.has_ended.ensures ∙ c.if-not-has_ended.true)).does

pub invariant_of-self-2 : goal.invariant_of-self-2
invariant_of-self-2 g c = (store_ended c.self.inside c.self.invariant c.self.view_is c.requires.room c.args.k c.requires.enabled c.is_notified-notified.ensures.answer c.store.ensures.state c.ticker_at-ticker.ensures c.stored.ensures c.set_ticker.ensures (c.count_if.ensures ∙ ap (λ n. cond (nat_lt 0 n) (c.self.inside.notices + 1) c.self.inside.notices) c.notices.ensures) (ap (λ t. has_ended t.phase) (sym c.stored-2.ensures) ∙ sym c.has_ended.ensures ∙ c.if-not-has_ended.false) c.release.ensures).sound

pub returns : goal.returns
returns g c = (store_ended c.self.inside c.self.invariant c.self.view_is c.requires.room c.args.k c.requires.enabled c.is_notified-notified.ensures.answer c.store.ensures.state c.ticker_at-ticker.ensures c.stored.ensures c.set_ticker.ensures (c.count_if.ensures ∙ ap (λ n. cond (nat_lt 0 n) (c.self.inside.notices + 1) c.self.inside.notices) c.notices.ensures) (ap (λ t. has_ended t.phase) (sym c.stored-2.ensures) ∙ sym c.has_ended.ensures ∙ c.if-not-has_ended.false) c.release.ensures).does
