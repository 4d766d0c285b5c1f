use Rattle.std.proofs.Common.{refl}
use Rattle.executor_core.proofs.World.Agreement.{spawned_within}
use Rattle.executor_core.proofs.World.Marks.{wake_done}
use Rattle.executor_core.proofs.World.Room.{step_fits, event_fits, notice_fits}
use Rattle.executor_core.proofs.interleave.World.wake.Goals as goal

pub begin-requires : goal.begin-requires
begin-requires g c = record { room = step_fits c.self.invariant.room c.self.view_is c.requires.room; spawned = spawned_within c.self.inside c.self.invariant c.self.view_is c.args.n c.requires.enabled }

pub log_if-requires : goal.log_if-requires
log_if-requires g c = event_fits c.self.invariant.room c.self.view_is c.requires.room refl

pub keep_notice-requires : goal.keep_notice-requires
keep_notice-requires g c = notice_fits c.self.invariant.room

pub invariant_of-self : goal.invariant_of-self
invariant_of-self g c =
    (wake_done c.self.inside c.self.invariant c.self.view_is c.requires.room c.args.n c.begin.ensures.found c.begin.ensures.counted c.id-id.ensures c.is_undropped-undropped.ensures c.keep_notice.ensures.counted c.keep_notice.ensures.kept c.reply_of_notice.ensures c.log_if.ensures.capacity c.wake-notice.ensures.state c.wake-notice.ensures.notice c.log_if.ensures.items).sound

pub returns : goal.returns
returns g c =
    (wake_done c.self.inside c.self.invariant c.self.view_is c.requires.room c.args.n c.begin.ensures.found c.begin.ensures.counted c.id-id.ensures c.is_undropped-undropped.ensures c.keep_notice.ensures.counted c.keep_notice.ensures.kept c.reply_of_notice.ensures c.log_if.ensures.capacity c.wake-notice.ensures.state c.wake-notice.ensures.notice c.log_if.ensures.items).does
