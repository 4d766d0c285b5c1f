use Rattle.executor_core.proofs.World.Closes.{drain_none, drain_done}
use Rattle.executor_core.proofs.World.Polls.{taken_within}
use Rattle.executor_core.proofs.World.Room.{count_fits, event_fits}
use Rattle.std.proofs.Common.{refl}
use Rattle.executor_core.proofs.interleave.World.drain.Goals as goal

pub overflow_add-self : goal.overflow_add-self
overflow_add-self g c = count_fits c.self.invariant.room c.self.view_is c.requires.room

pub put_out-requires : goal.put_out-requires
put_out-requires g c = record { spawned = taken_within c.self.invariant c.in-Some.ensures.some.1.taken; room = event_fits c.self.invariant.room c.self.view_is c.requires.room refl }

pub invariant_of-self : goal.invariant_of-self
invariant_of-self g c = (drain_done c.self.inside c.self.invariant c.self.view_is c.requires.room c.requires.enabled c.in-Some.ensures.some.1 c.drain_next.ensures.state c.put_out.ensures.entries c.put_out.ensures.log c.put_out.ensures.capacity c.put_out.ensures.reply).sound

pub returns-in-Some : goal.returns-in-Some
returns-in-Some g c = (drain_done c.self.inside c.self.invariant c.self.view_is c.requires.room c.requires.enabled c.in-Some.ensures.some.1 c.drain_next.ensures.state c.put_out.ensures.entries c.put_out.ensures.log c.put_out.ensures.capacity c.put_out.ensures.reply).does

pub invariant_of-self-in-None : goal.invariant_of-self-in-None
invariant_of-self-in-None g c = (drain_none c.self.inside c.self.invariant c.self.view_is c.requires.room c.requires.enabled c.in-None.ensures.none c.drain_next.ensures.state).sound

pub returns-in-None : goal.returns-in-None
returns-in-None g c = (drain_none c.self.inside c.self.invariant c.self.view_is c.requires.room c.requires.enabled c.in-None.ensures.none c.drain_next.ensures.state).does
