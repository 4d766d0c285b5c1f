use Rattle.std.proofs.Common.{◌<◌, ◌∙◌, length, subst, sym, ap, refl}
use Rattle.executor_core.proofs.ListLemmas.{length-slice_set}
use Rattle.executor_core.proofs.World.Agreement.{held_within}
use Rattle.executor_core.proofs.World.Polls.{unpolled_now, pend_done, pend_dropped}
use Rattle.executor_core.proofs.World.Room.{step_fits, event_fits, notice_fits}
use Rattle.executor_core.proofs.interleave.World.pend.Goals as goal

pub begin-info-requires : goal.begin-info-requires
begin-info-requires g c = record { room = step_fits c.self.invariant.room c.self.view_is c.requires.room; spawned = held_within c.self.inside c.self.invariant c.self.view_is c.args.n _ c.requires.enabled }

pub take_unpolled-future-requires : goal.take_unpolled-future-requires
take_unpolled-future-requires g c = unpolled_now c.self.inside c.self.invariant c.self.view_is c.args.n c.requires.enabled

pub push_reserved-requires : goal.push_reserved-requires
push_reserved-requires g c = event_fits c.self.invariant.room c.self.view_is c.requires.room c.self.inside.log.ok.0

pub keep_notice-requires : goal.keep_notice-requires
keep_notice-requires g c = notice_fits c.self.invariant.room

pub set_entry-requires : goal.set_entry-requires
set_entry-requires g c = subst (λ k. c.args.n < k) (sym (ap length c.take_unpolled-future.ensures ∙ length-slice_set _ _ _)) (held_within c.self.inside c.self.invariant c.self.view_is c.args.n _ c.requires.enabled)

pub invariant_of-self : goal.invariant_of-self
invariant_of-self g c = (pend_done c.self.inside c.self.invariant c.self.view_is c.requires.room c.args.n c.begin-info.ensures.found _ c.requires.enabled c.begin-info.ensures.counted c.push_reserved.ensures.capacity (ap (λ h. h.id) c.poll_pending-future.ensures ∙ c.id.ensures) _ c.end_pending.ensures.state c.in-Back.ensures.answer.0 c.in-Back.ensures.answer.1 c.take_unpolled-future.ensures c.push_reserved.ensures.items c.keep_notice.ensures.counted c.keep_notice.ensures.kept c.reply_of_return.ensures).sound

pub invariant_of-self-in-Drop : goal.invariant_of-self-in-Drop
invariant_of-self-in-Drop g c = (pend_dropped c.self.inside c.self.invariant c.self.view_is c.requires.room c.args.n c.begin-info.ensures.found _ c.requires.enabled c.begin-info.ensures.counted refl (ap (λ h. h.id) c.poll_pending-future.ensures ∙ c.id.ensures) _ c.end_pending.ensures.state c.in-Drop.ensures.answer.0 c.in-Drop.future c.take_unpolled-future.ensures c.set_entry.ensures.items c.with_to_drop-info.ensures refl).sound

pub returns-in-Back : goal.returns-in-Back
returns-in-Back g c = (pend_done c.self.inside c.self.invariant c.self.view_is c.requires.room c.args.n c.begin-info.ensures.found _ c.requires.enabled c.begin-info.ensures.counted c.push_reserved.ensures.capacity (ap (λ h. h.id) c.poll_pending-future.ensures ∙ c.id.ensures) _ c.end_pending.ensures.state c.in-Back.ensures.answer.0 c.in-Back.ensures.answer.1 c.take_unpolled-future.ensures c.push_reserved.ensures.items c.keep_notice.ensures.counted c.keep_notice.ensures.kept c.reply_of_return.ensures).does

pub returns-in-Drop : goal.returns-in-Drop
returns-in-Drop g c = (pend_dropped c.self.inside c.self.invariant c.self.view_is c.requires.room c.args.n c.begin-info.ensures.found _ c.requires.enabled c.begin-info.ensures.counted refl (ap (λ h. h.id) c.poll_pending-future.ensures ∙ c.id.ensures) _ c.end_pending.ensures.state c.in-Drop.ensures.answer.0 c.in-Drop.future c.take_unpolled-future.ensures c.set_entry.ensures.items c.with_to_drop-info.ensures refl).does

pub end_pending-requires : goal.end_pending-requires
end_pending-requires g c = ap (λ h. h.to_drop) c.poll_pending-future.ensures
