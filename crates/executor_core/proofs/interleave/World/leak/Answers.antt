use Rattle.executor_core.proofs.World.Closes.{room_for_each, leak_done}
use Rattle.executor_core.proofs.World.Room.{count_fits, notice_fits}
use Rattle.executor_core.proofs.interleave.World.leak.Goals as goal

pub overflow_add-self : goal.overflow_add-self
overflow_add-self g c = count_fits c.self.invariant.room c.self.view_is c.requires.room

pub log_undropped-requires : goal.log_undropped-requires
log_undropped-requires g c = record { room = room_for_each c.self.inside c.self.invariant c.self.view_is c.requires.room c.requires.enabled }

pub keep_notice-requires : goal.keep_notice-requires
keep_notice-requires g c = notice_fits c.self.invariant.room

pub invariant_of-self : goal.invariant_of-self
invariant_of-self g c = (leak_done c.self.inside c.self.invariant c.self.view_is c.requires.room c.requires.enabled c.wake_all-notice.ensures.slots c.wake_all-notice.ensures.state c.log_undropped.ensures.log c.log_undropped.ensures.few c.forget_all.ensures c.wake_all-notice.ensures.notice c.keep_notice.ensures.counted c.keep_notice.ensures.kept c.log_undropped.ensures.capacity c.reply_of_notice.ensures).0

pub returns : goal.returns
returns g c = (leak_done c.self.inside c.self.invariant c.self.view_is c.requires.room c.requires.enabled c.wake_all-notice.ensures.slots c.wake_all-notice.ensures.state c.log_undropped.ensures.log c.log_undropped.ensures.few c.forget_all.ensures c.wake_all-notice.ensures.notice c.keep_notice.ensures.counted c.keep_notice.ensures.kept c.log_undropped.ensures.capacity c.reply_of_notice.ensures).1
