use Rattle.std.proofs.Common.{refl}
use Rattle.executor_core.proofs.World.Entries.{handle_within}
use Rattle.executor_core.proofs.World.Handles.{output_done, cancelled_done, pending_done}
use Rattle.executor_core.proofs.World.Room.{step_fits, event_fits}
use Rattle.executor_core.proofs.interleave.World.poll_handle.Goals as goal

pub begin-info-requires : goal.begin-info-requires
begin-info-requires g c = record { room = step_fits c.self.invariant.room c.self.view_is c.requires.room; spawned = handle_within c.self.inside c.self.view_is c.args.n c.requires.enabled }

pub push_reserved-requires : goal.push_reserved-requires
push_reserved-requires g c = event_fits c.self.invariant.room c.self.view_is c.requires.room c.self.inside.log.ok.0

pub set_info-requires : goal.set_info-requires
set_info-requires g c = handle_within c.self.inside c.self.view_is c.args.n c.requires.enabled

pub set_info-requires-in-Cancelled : goal.set_info-requires-in-Cancelled
set_info-requires-in-Cancelled g c = handle_within c.self.inside c.self.view_is c.args.n c.requires.enabled

pub set_info-requires-in-Pending : goal.set_info-requires-in-Pending
set_info-requires-in-Pending g c = handle_within c.self.inside c.self.view_is c.args.n c.requires.enabled

pub invariant_of-self : goal.invariant_of-self
invariant_of-self g c = (output_done c.self.inside c.self.invariant c.self.view_is c.requires.room c.args.n c.begin-info.ensures.found c.requires.enabled c.begin-info.ensures.counted c.push_reserved.ensures.capacity c.id.ensures c.poll_handle.ensures.state c.set_info.ensures _ c.in-Output.ensures.answer c.without_handle.ensures c.push_reserved.ensures.items refl).sound

pub invariant_of-self-in-Cancelled : goal.invariant_of-self-in-Cancelled
invariant_of-self-in-Cancelled g c = (cancelled_done c.self.inside c.self.invariant c.self.view_is c.requires.room c.args.n c.begin-info.ensures.found c.requires.enabled c.begin-info.ensures.counted refl c.id.ensures c.poll_handle.ensures.state c.set_info-in-Cancelled.ensures c.in-Cancelled.ensures.answer c.without_handle-in-Cancelled.ensures refl).sound

pub invariant_of-self-in-Pending : goal.invariant_of-self-in-Pending
invariant_of-self-in-Pending g c = (pending_done c.self.inside c.self.invariant c.self.view_is c.requires.room c.args.n c.begin-info.ensures.found c.requires.enabled c.begin-info.ensures.counted refl c.id.ensures c.poll_handle.ensures.state c.set_info-in-Pending.ensures c.in-Pending.ensures.answer c.with_awaited.ensures refl).sound

pub returns-in-Output : goal.returns-in-Output
returns-in-Output g c = (output_done c.self.inside c.self.invariant c.self.view_is c.requires.room c.args.n c.begin-info.ensures.found c.requires.enabled c.begin-info.ensures.counted c.push_reserved.ensures.capacity c.id.ensures c.poll_handle.ensures.state c.set_info.ensures _ c.in-Output.ensures.answer c.without_handle.ensures c.push_reserved.ensures.items refl).does

pub returns-in-Cancelled : goal.returns-in-Cancelled
returns-in-Cancelled g c = (cancelled_done c.self.inside c.self.invariant c.self.view_is c.requires.room c.args.n c.begin-info.ensures.found c.requires.enabled c.begin-info.ensures.counted refl c.id.ensures c.poll_handle.ensures.state c.set_info-in-Cancelled.ensures c.in-Cancelled.ensures.answer c.without_handle-in-Cancelled.ensures refl).does

pub returns-in-Pending : goal.returns-in-Pending
returns-in-Pending g c = (pending_done c.self.inside c.self.invariant c.self.view_is c.requires.room c.args.n c.begin-info.ensures.found c.requires.enabled c.begin-info.ensures.counted refl c.id.ensures c.poll_handle.ensures.state c.set_info-in-Pending.ensures c.in-Pending.ensures.answer c.with_awaited.ensures refl).does
