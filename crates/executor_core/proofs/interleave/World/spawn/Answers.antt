use Rattle.std.proofs.Common.{◌∙◌, sym, refl}
use Rattle.executor_core.proofs.World.Room.{count_fits, event_fits, notice_fits, reserved_fits}
use Rattle.executor_core.proofs.World.Spawns.{last_unreached, spawn_refused, spawn_done}
use Rattle.executor_core.proofs.interleave.World.spawn.Goals as goal

pub overflow_add-self : goal.overflow_add-self
overflow_add-self g c = count_fits c.self.invariant.room c.self.view_is c.requires.room

pub keep_notice-requires : goal.keep_notice-requires
keep_notice-requires g c = notice_fits c.self.invariant.room

pub push_reserved-requires : goal.push_reserved-requires
push_reserved-requires g c = reserved_fits c.try_reserve.result c.try_reserve.ensures.ok (sym c.is_err.ensures.value ∙ c.if-is_err.false)

pub push_reserved-requires-2 : goal.push_reserved-requires-2
push_reserved-requires-2 g c = event_fits c.self.invariant.room c.self.view_is c.requires.room c.self.inside.log.ok.0

pub unreachable-requires : goal.unreachable-requires
unreachable-requires g c = last_unreached c.self.inside c.self.invariant c.self.view_is c.requires.room (rw c.in-Err-Exhausted.field-0-is at c.in-Err-Exhausted.ensures.cause).1

pub invariant_of-self-2 : goal.invariant_of-self-2
invariant_of-self-2 g c = (spawn_done c.self.inside c.self.invariant c.self.view_is c.requires.room c.requires.unclosed c.in-Ok.spawned.0.slot c.args.future c.in-Ok.ensures.id c.in-Ok.ensures.free c.in-Ok.ensures.ok c.new.ensures c.push_reserved.ensures.items c.try_reserve.ensures.items c.push_reserved-2.ensures.items c.keep_notice.ensures.counted c.push_reserved-2.ensures.capacity).0

pub returns : goal.returns
returns g c = (spawn_done c.self.inside c.self.invariant c.self.view_is c.requires.room c.requires.unclosed c.in-Ok.spawned.0.slot c.args.future c.in-Ok.ensures.id c.in-Ok.ensures.free c.in-Ok.ensures.ok c.new.ensures c.push_reserved.ensures.items c.try_reserve.ensures.items c.push_reserved-2.ensures.items c.keep_notice.ensures.counted c.push_reserved-2.ensures.capacity).1

pub invariant_of-self : goal.invariant_of-self
invariant_of-self g c = (spawn_refused c.self.inside c.self.invariant c.self.view_is c.requires.room refl c.try_reserve.ensures.items).0

pub returns-then-is_err : goal.returns-then-is_err
returns-then-is_err g c = (spawn_refused c.self.inside c.self.invariant c.self.view_is c.requires.room refl c.try_reserve.ensures.items).1

pub invariant_of-self-in-Err-OutOfMemory : goal.invariant_of-self-in-Err-OutOfMemory
invariant_of-self-in-Err-OutOfMemory g c = (spawn_refused c.self.inside c.self.invariant c.self.view_is c.requires.room c.in-Err-OutOfMemory.ensures.refused c.try_reserve.ensures.items).0

pub returns-in-Err-OutOfMemory : goal.returns-in-Err-OutOfMemory
returns-in-Err-OutOfMemory g c = (spawn_refused c.self.inside c.self.invariant c.self.view_is c.requires.room c.in-Err-OutOfMemory.ensures.refused c.try_reserve.ensures.items).1
