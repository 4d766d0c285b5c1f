use Rattle.std.proofs.Common.{refl}
use Rattle.executor_core.proofs.World.Entries.{handle_within}
use Rattle.executor_core.proofs.World.Handles.{detach_done}
use Rattle.executor_core.proofs.World.Room.{step_fits}
use Rattle.executor_core.proofs.interleave.World.detach.Goals as goal

pub begin-info-requires : goal.begin-info-requires
begin-info-requires g c = record { room = step_fits c.self.invariant.room c.self.view_is c.requires.room; spawned = handle_within c.self.inside c.self.view_is c.args.n c.requires.enabled }

pub set_info-requires : goal.set_info-requires
set_info-requires g c = handle_within c.self.inside c.self.view_is c.args.n c.requires.enabled

pub invariant_of-self : goal.invariant_of-self
invariant_of-self g c = (detach_done c.self.inside c.self.invariant c.self.view_is c.requires.room c.args.n c.begin-info.ensures.found c.requires.enabled c.begin-info.ensures.counted refl c.id.ensures c.detach-output.ensures.answer c.set_info.ensures c.detached.ensures c.detach-output.ensures.state c.reply_of_output.ensures).sound

pub returns : goal.returns
returns g c = (detach_done c.self.inside c.self.invariant c.self.view_is c.requires.room c.args.n c.begin-info.ensures.found c.requires.enabled c.begin-info.ensures.counted refl c.id.ensures c.detach-output.ensures.answer c.set_info.ensures c.detached.ensures c.detach-output.ensures.state c.reply_of_output.ensures).does
