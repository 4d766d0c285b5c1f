use Rattle.std.proofs.Common.{refl}
use Rattle.executor_core.proofs.World.Entries.{handle_within}
use Rattle.executor_core.proofs.World.Handles.{drop_handle_done}
use Rattle.executor_core.proofs.World.Room.{step_fits, event_fits, notice_fits}
use Rattle.executor_core.proofs.interleave.World.drop_handle.Goals as goal

pub begin-info-requires : goal.begin-info-requires
begin-info-requires g c = record { room = step_fits c.self.invariant.room c.self.view_is c.requires.room; spawned = handle_within c.self.inside c.self.view_is c.args.n c.requires.enabled }

pub set_info-requires : goal.set_info-requires
set_info-requires g c = handle_within c.self.inside c.self.view_is c.args.n c.requires.enabled

pub log_if-requires : goal.log_if-requires
log_if-requires g c = event_fits c.self.invariant.room c.self.view_is c.requires.room refl

pub keep_notice-requires : goal.keep_notice-requires
keep_notice-requires g c = notice_fits c.self.invariant.room

pub invariant_of-self : goal.invariant_of-self
invariant_of-self g c = (drop_handle_done c.self.inside c.self.invariant c.self.view_is c.requires.room c.args.n c.begin-info.ensures.found c.requires.enabled c.begin-info.ensures.counted c.log_if.ensures.capacity c.id-id.ensures c.drop_handle-notice.ensures.answer c.set_info.ensures c.detached.ensures c.drop_handle-notice.ensures.state c.drop_handle-notice.ensures.notice c.is_undropped-undropped.ensures c.log_if.ensures.items c.keep_notice.ensures.counted c.keep_notice.ensures.kept c.reply_of_end.ensures).sound

pub returns : goal.returns
returns g c = (drop_handle_done c.self.inside c.self.invariant c.self.view_is c.requires.room c.args.n c.begin-info.ensures.found c.requires.enabled c.begin-info.ensures.counted c.log_if.ensures.capacity c.id-id.ensures c.drop_handle-notice.ensures.answer c.set_info.ensures c.detached.ensures c.drop_handle-notice.ensures.state c.drop_handle-notice.ensures.notice c.is_undropped-undropped.ensures c.log_if.ensures.items c.keep_notice.ensures.counted c.keep_notice.ensures.kept c.reply_of_end.ensures).does
