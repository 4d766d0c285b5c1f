use Rattle.std.proofs.Common.{refl}
use Rattle.executor_core.proofs.World.Polls.{taken_within, any_done, any_none}
use Rattle.executor_core.proofs.World.Room.{count_fits, event_fits, notice_fits}
use Rattle.executor_core.proofs.interleave.World.try_any.Goals as goal

pub overflow_add-self : goal.overflow_add-self
overflow_add-self g c = count_fits c.self.invariant.room c.self.view_is c.requires.room

pub keep_notice-requires : goal.keep_notice-requires
keep_notice-requires g c = notice_fits c.self.invariant.room

pub put_out-requires : goal.put_out-requires
put_out-requires g c = record { spawned = taken_within c.self.invariant c.in-Some.ensures.some.taken; room = event_fits c.self.invariant.room c.self.view_is c.requires.room refl }

pub invariant_of-self : goal.invariant_of-self
invariant_of-self g c = (any_none c.self.inside c.self.invariant c.self.view_is c.requires.room c.in_default.ensures.none c.take_any.ensures.state).sound

pub returns-in_default : goal.returns-in_default
returns-in_default g c = (any_none c.self.inside c.self.invariant c.self.view_is c.requires.room c.in_default.ensures.none c.take_any.ensures.state).does

pub invariant_of-self-2 : goal.invariant_of-self-2
invariant_of-self-2 g c = (any_done c.self.inside c.self.invariant c.self.view_is c.requires.room c.requires.enabled c.in-Some.ensures.some c.take_any.ensures.state c.put_out.ensures.entries c.put_out.ensures.log c.keep_notice.ensures.counted c.put_out.ensures.capacity c.put_out.ensures.reply).sound

pub returns : goal.returns
returns g c = (any_done c.self.inside c.self.invariant c.self.view_is c.requires.room c.requires.enabled c.in-Some.ensures.some c.take_any.ensures.state c.put_out.ensures.entries c.put_out.ensures.log c.keep_notice.ensures.counted c.put_out.ensures.capacity c.put_out.ensures.reply).does
