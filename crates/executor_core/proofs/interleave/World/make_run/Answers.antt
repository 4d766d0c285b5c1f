use Rattle.std.proofs.Common.{◌∙◌, sym, refl}
use Rattle.executor_core.specs.World.Steps.{run_row}
use Rattle.executor_core.proofs.World.Room.{count_fits, reserved_fits, on_ok, on_err}
use Rattle.executor_core.proofs.World.TickerSteps.{make_refused, runner_unreached, given_back, run_done}
use Rattle.executor_core.proofs.interleave.World.make_run.Goals as goal

pub overflow_add-self : goal.overflow_add-self
overflow_add-self g c = count_fits c.self.invariant.room c.self.view_is c.requires.room

pub unreachable-requires : goal.unreachable-requires
unreachable-requires g c = runner_unreached c.self.inside c.self.invariant c.self.view_is c.requires.room (on_ok c.reserve.result c.reserve.ensures.ok (sym c.is_err-3.ensures.value ∙ c.if-is_err-3.false)) (c.in-Err-Exhausted.ensures.cause.0 c.in-Err-Exhausted.field-0-is)

pub push_reserved-requires : goal.push_reserved-requires
push_reserved-requires g c = reserved_fits c.try_reserve-2.result c.try_reserve-2.ensures.ok (sym c.is_err-2.ensures.value ∙ c.if-is_err-2.false)

pub push_reserved-requires-2 : goal.push_reserved-requires-2
push_reserved-requires-2 g c = reserved_fits c.try_reserve.result c.try_reserve.ensures.ok (sym c.is_err.ensures.value ∙ c.if-is_err.false)

pub invariant_of-self : goal.invariant_of-self
invariant_of-self g c = (make_refused c.self.inside c.self.invariant c.self.view_is c.requires.room run_row refl c.try_reserve.ensures.items refl).0

pub returns-then-is_err : goal.returns-then-is_err
returns-then-is_err g c = (make_refused c.self.inside c.self.invariant c.self.view_is c.requires.room run_row refl c.try_reserve.ensures.items refl).1

pub invariant_of-self-then-is_err-2 : goal.invariant_of-self-then-is_err-2
invariant_of-self-then-is_err-2 g c = (make_refused c.self.inside c.self.invariant c.self.view_is c.requires.room run_row refl c.try_reserve.ensures.items c.try_reserve-2.ensures.items).0

pub returns-then-is_err-2 : goal.returns-then-is_err-2
returns-then-is_err-2 g c = (make_refused c.self.inside c.self.invariant c.self.view_is c.requires.room run_row refl c.try_reserve.ensures.items c.try_reserve-2.ensures.items).1

pub invariant_of-self-in_default : goal.invariant_of-self-in_default
invariant_of-self-in_default g c = (make_refused c.self.inside c.self.invariant c.self.view_is c.requires.room run_row refl c.try_reserve.ensures.items c.try_reserve-2.ensures.items).0

pub returns-in_default : goal.returns-in_default
returns-in_default g c = (make_refused c.self.inside c.self.invariant c.self.view_is c.requires.room run_row refl c.try_reserve.ensures.items c.try_reserve-2.ensures.items).1

pub invariant_of-self-then-is_err-3 : goal.invariant_of-self-then-is_err-3
invariant_of-self-then-is_err-3 g c = (make_refused c.self.inside c.self.invariant c.self.view_is c.requires.room run_row (on_err c.reserve.result c.reserve.ensures.refused (sym c.is_err-3.ensures.value ∙ c.if-is_err-3.true)) c.try_reserve.ensures.items c.try_reserve-2.ensures.items).0

pub returns-then-is_err-3 : goal.returns-then-is_err-3
returns-then-is_err-3 g c = (make_refused c.self.inside c.self.invariant c.self.view_is c.requires.room run_row (on_err c.reserve.result c.reserve.ensures.refused (sym c.is_err-3.ensures.value ∙ c.if-is_err-3.true)) c.try_reserve.ensures.items c.try_reserve-2.ensures.items).1

pub invariant_of-self-in-Err-OutOfMemory : goal.invariant_of-self-in-Err-OutOfMemory
invariant_of-self-in-Err-OutOfMemory g c =
    let back = given_back c.self.inside c.self.invariant c.self.view_is c.requires.room (on_ok c.reserve.result c.reserve.ensures.ok (sym c.is_err-3.ensures.value ∙ c.if-is_err-3.false)) c.in-Err-OutOfMemory.ensures.refused c.release.ensures in
    (make_refused c.self.inside c.self.invariant c.self.view_is c.requires.room run_row back c.try_reserve.ensures.items c.try_reserve-2.ensures.items).0

pub returns-in-Err-OutOfMemory : goal.returns-in-Err-OutOfMemory
returns-in-Err-OutOfMemory g c =
    let back = given_back c.self.inside c.self.invariant c.self.view_is c.requires.room (on_ok c.reserve.result c.reserve.ensures.ok (sym c.is_err-3.ensures.value ∙ c.if-is_err-3.false)) c.in-Err-OutOfMemory.ensures.refused c.release.ensures in
    (make_refused c.self.inside c.self.invariant c.self.view_is c.requires.room run_row back c.try_reserve.ensures.items c.try_reserve-2.ensures.items).1

pub invariant_of-self-2 : goal.invariant_of-self-2
invariant_of-self-2 g c = (run_done c.self.inside c.self.invariant c.self.view_is c.requires.room c.requires.unclosed (on_ok c.reserve.result c.reserve.ensures.ok (sym c.is_err-3.ensures.value ∙ c.if-is_err-3.false)) c.in-Ok-reserve_runner.ensures.ok c.in-Ok-reserve_runner.ensures.key c.in-Ok.ensures c.push_reserved-2.ensures.items c.try_reserve.ensures.items c.new-2.ensures (c.len-k.ensures ∙ c.try_reserve.new.self.ok.0) c.push_reserved.ensures.items c.try_reserve-2.ensures.items).0

pub returns : goal.returns
returns g c = (run_done c.self.inside c.self.invariant c.self.view_is c.requires.room c.requires.unclosed (on_ok c.reserve.result c.reserve.ensures.ok (sym c.is_err-3.ensures.value ∙ c.if-is_err-3.false)) c.in-Ok-reserve_runner.ensures.ok c.in-Ok-reserve_runner.ensures.key c.in-Ok.ensures c.push_reserved-2.ensures.items c.try_reserve.ensures.items c.new-2.ensures (c.len-k.ensures ∙ c.try_reserve.new.self.ok.0) c.push_reserved.ensures.items c.try_reserve-2.ensures.items).1
