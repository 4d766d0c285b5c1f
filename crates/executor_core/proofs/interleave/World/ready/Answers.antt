use Rattle.std.proofs.Common.{◌∙◌, ap, refl}
use Rattle.executor_core.proofs.World.Agreement.{held_within}
use Rattle.executor_core.proofs.World.Polls.{unpolled_now, ready_done}
use Rattle.executor_core.proofs.World.Room.{step_fits, event_fits, second_fits}
use Rattle.executor_core.proofs.interleave.World.ready.Goals as goal

pub begin-info-requires : goal.begin-info-requires
begin-info-requires g c = record { room = step_fits c.self.invariant.room c.self.view_is c.requires.room; spawned = held_within c.self.inside c.self.invariant c.self.view_is c.args.n _ c.requires.enabled }

pub take_unpolled-future-requires : goal.take_unpolled-future-requires
take_unpolled-future-requires g c = unpolled_now c.self.inside c.self.invariant c.self.view_is c.args.n c.requires.enabled

pub log_if-requires : goal.log_if-requires
log_if-requires g c = event_fits c.self.invariant.room c.self.view_is c.requires.room refl

pub push_reserved-requires : goal.push_reserved-requires
push_reserved-requires g c = second_fits c.self.invariant.room c.self.view_is c.requires.room _ _ c.log_if.ensures.items c.log_if.ensures.capacity c.log_if.new.log.ok.0

pub invariant_of-self : goal.invariant_of-self
invariant_of-self g c = (ready_done c.self.inside c.self.invariant c.self.view_is c.requires.room c.args.n c.begin-info.ensures.found _ c.requires.enabled c.begin-info.ensures.counted (c.push_reserved.ensures.capacity ∙ c.log_if.ensures.capacity) c.id-id.ensures c.poll_ready-output.ensures c.end_ready-ended.ensures.state c.end_ready-ended.ensures.answer c.is_cancelled-cancelled.ensures c.with_awaited.ensures c.take_unpolled-future.ensures c.log_if.ensures.items c.push_reserved.ensures.items c.reply_of.ensures).sound

pub returns : goal.returns
returns g c = (ready_done c.self.inside c.self.invariant c.self.view_is c.requires.room c.args.n c.begin-info.ensures.found _ c.requires.enabled c.begin-info.ensures.counted (c.push_reserved.ensures.capacity ∙ c.log_if.ensures.capacity) c.id-id.ensures c.poll_ready-output.ensures c.end_ready-ended.ensures.state c.end_ready-ended.ensures.answer c.is_cancelled-cancelled.ensures c.with_awaited.ensures c.take_unpolled-future.ensures c.log_if.ensures.items c.push_reserved.ensures.items c.reply_of.ensures).does

pub end_ready-ended-requires : goal.end_ready-ended-requires
end_ready-ended-requires g c = ap (λ p. p.0.to_drop) c.poll_ready-output.ensures
