use Rattle.executor_core.proofs.World.Room.{count_fits, notice_fits}
use Rattle.executor_core.proofs.World.RunSteps.{rest_is_run, unregister_done}
use Rattle.executor_core.proofs.interleave.World.unregister.Goals as goal

pub overflow_add-self : goal.overflow_add-self
overflow_add-self g c = count_fits c.self.invariant.room c.self.view_is c.requires.room

pub unreachable-requires : goal.unreachable-requires
unreachable-requires g c = rest_is_run c.self.inside c.self.invariant c.self.view_is c.requires.room c.args.k c.requires.enabled c.ticker_at-ticker.ensures c.in_default.is

pub keep_notice-requires : goal.keep_notice-requires
keep_notice-requires g c = notice_fits c.self.invariant.room

pub invariant_of-self : goal.invariant_of-self
invariant_of-self g c = (unregister_done c.self.inside c.self.invariant c.self.view_is c.requires.room c.args.k c.requires.enabled c.ticker_at-ticker.ensures c.in-Some.is c.unregister-notice.ensures.state c.unregister-notice.ensures.notice c.left.ensures c.set_ticker.ensures c.keep_notice.ensures.counted c.keep_notice.ensures.kept c.reply_of_notice.ensures).sound

pub returns : goal.returns
returns g c = (unregister_done c.self.inside c.self.invariant c.self.view_is c.requires.room c.args.k c.requires.enabled c.ticker_at-ticker.ensures c.in-Some.is c.unregister-notice.ensures.state c.unregister-notice.ensures.notice c.left.ensures c.set_ticker.ensures c.keep_notice.ensures.counted c.keep_notice.ensures.kept c.reply_of_notice.ensures).does
