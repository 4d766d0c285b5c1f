use Rattle.std.proofs.Common.{◌∙◌, sym, refl}
use Rattle.executor_core.proofs.World.Polls.{taken_within}
use Rattle.executor_core.proofs.World.Room.{count_fits, event_fits, notice_fits}
use Rattle.executor_core.proofs.World.TickerSteps.{search_none, wake_done, tick_found, run_found}
use Rattle.executor_core.proofs.interleave.World.search.Goals as goal

pub overflow_add-self : goal.overflow_add-self
overflow_add-self g c = count_fits c.self.invariant.room c.self.view_is c.requires.room

pub put_out-reply-requires : goal.put_out-reply-requires
put_out-reply-requires g c = record { spawned = taken_within c.self.invariant c.in-Some.ensures.some.taken; room = event_fits c.self.invariant.room c.self.view_is c.requires.room refl }

pub keep_notice-requires : goal.keep_notice-requires
keep_notice-requires g c = notice_fits c.self.invariant.room

pub invariant_of-self : goal.invariant_of-self
invariant_of-self g c = (search_none c.self.inside c.self.invariant c.self.view_is c.requires.room c.args.k c.args.word c.requires.enabled c.ticker_at-ticker.ensures c.in_default.ensures.none c.search_of.ensures.state c.searched.ensures c.set_ticker.ensures).sound

pub returns-in_default : goal.returns-in_default
returns-in_default g c = (search_none c.self.inside c.self.invariant c.self.view_is c.requires.room c.args.k c.args.word c.requires.enabled c.ticker_at-ticker.ensures c.in_default.ensures.none c.search_of.ensures.state c.searched.ensures c.set_ticker.ensures).does

pub invariant_of-self-then-not-is_awake : goal.invariant_of-self-then-not-is_awake
invariant_of-self-then-not-is_awake g c = (wake_done c.self.inside c.self.invariant c.self.view_is c.requires.room c.args.k c.args.word c.requires.enabled c.ticker_at-ticker.ensures c.in-Some.ensures.some.taken c.in-Some.ensures.some.number c.search_of.ensures.state c.put_out-reply.ensures.entries c.put_out-reply.ensures.log c.searched-2.ensures c.set_ticker-2.ensures c.put_out-reply.ensures.capacity c.put_out-reply.ensures.reply (sym c.is_awake.ensures ∙ c.if-not-is_awake.true)).sound

pub returns-then-not-is_awake : goal.returns-then-not-is_awake
returns-then-not-is_awake g c = (wake_done c.self.inside c.self.invariant c.self.view_is c.requires.room c.args.k c.args.word c.requires.enabled c.ticker_at-ticker.ensures c.in-Some.ensures.some.taken c.in-Some.ensures.some.number c.search_of.ensures.state c.put_out-reply.ensures.entries c.put_out-reply.ensures.log c.searched-2.ensures c.set_ticker-2.ensures c.put_out-reply.ensures.capacity c.put_out-reply.ensures.reply (sym c.is_awake.ensures ∙ c.if-not-is_awake.true)).does

pub invariant_of-self-then-is_run : goal.invariant_of-self-then-is_run
invariant_of-self-then-is_run g c = (run_found c.self.inside c.self.invariant c.self.view_is c.requires.room c.args.k c.args.word c.requires.enabled c.ticker_at-ticker.ensures c.in-Some.ensures.some.taken c.in-Some.ensures.some.number c.search_of.ensures.state c.put_out-reply.ensures.entries c.put_out-reply.ensures.log c.searched-2.ensures c.set_ticker-2.ensures c.put_out-reply.ensures.capacity c.put_out-reply.ensures.reply (sym c.is_awake.ensures ∙ c.if-not-is_awake.false) (sym c.is_run.ensures ∙ c.if-is_run.true) c.keep_notice.ensures.counted).sound

pub returns-then-is_run : goal.returns-then-is_run
returns-then-is_run g c = (run_found c.self.inside c.self.invariant c.self.view_is c.requires.room c.args.k c.args.word c.requires.enabled c.ticker_at-ticker.ensures c.in-Some.ensures.some.taken c.in-Some.ensures.some.number c.search_of.ensures.state c.put_out-reply.ensures.entries c.put_out-reply.ensures.log c.searched-2.ensures c.set_ticker-2.ensures c.put_out-reply.ensures.capacity c.put_out-reply.ensures.reply (sym c.is_awake.ensures ∙ c.if-not-is_awake.false) (sym c.is_run.ensures ∙ c.if-is_run.true) c.keep_notice.ensures.counted).does

pub invariant_of-self-2 : goal.invariant_of-self-2
invariant_of-self-2 g c = (tick_found c.self.inside c.self.invariant c.self.view_is c.requires.room c.args.k c.args.word c.requires.enabled c.ticker_at-ticker.ensures c.in-Some.ensures.some.taken c.in-Some.ensures.some.number c.search_of.ensures.state c.put_out-reply.ensures.entries c.put_out-reply.ensures.log c.searched-2.ensures c.set_ticker-2.ensures c.put_out-reply.ensures.capacity c.put_out-reply.ensures.reply (sym c.is_awake.ensures ∙ c.if-not-is_awake.false) (sym c.is_run.ensures ∙ c.if-is_run.false) c.release.ensures c.keep_notice.ensures.counted).sound

pub returns : goal.returns
returns g c = (tick_found c.self.inside c.self.invariant c.self.view_is c.requires.room c.args.k c.args.word c.requires.enabled c.ticker_at-ticker.ensures c.in-Some.ensures.some.taken c.in-Some.ensures.some.number c.search_of.ensures.state c.put_out-reply.ensures.entries c.put_out-reply.ensures.log c.searched-2.ensures c.set_ticker-2.ensures c.put_out-reply.ensures.capacity c.put_out-reply.ensures.reply (sym c.is_awake.ensures ∙ c.if-not-is_awake.false) (sym c.is_run.ensures ∙ c.if-is_run.false) c.release.ensures c.keep_notice.ensures.counted).does
