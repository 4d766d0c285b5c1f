use Rattle.std.proofs.Common.{◌∙◌, sym, refl}
use Rattle.executor_core.specs.World.Steps.{tick_row}
use Rattle.executor_core.proofs.World.Room.{count_fits, reserved_fits, on_ok, on_err}
use Rattle.executor_core.proofs.World.TickerSteps.{make_refused, tick_done}
use Rattle.executor_core.proofs.interleave.World.tick.Goals as goal

pub overflow_add-self : goal.overflow_add-self
overflow_add-self g c = count_fits c.self.invariant.room c.self.view_is c.requires.room

pub push_reserved-requires : goal.push_reserved-requires
push_reserved-requires g c = reserved_fits c.try_reserve.result c.try_reserve.ensures.ok (sym c.is_err.ensures.value ∙ c.if-is_err.false)

pub invariant_of-self : goal.invariant_of-self
invariant_of-self g c = (make_refused c.self.inside c.self.invariant c.self.view_is c.requires.room tick_row refl c.try_reserve.ensures.items refl).0

pub returns-then-is_err : goal.returns-then-is_err
returns-then-is_err g c = (make_refused c.self.inside c.self.invariant c.self.view_is c.requires.room tick_row refl c.try_reserve.ensures.items refl).1

pub invariant_of-self-then-is_err-2 : goal.invariant_of-self-then-is_err-2
invariant_of-self-then-is_err-2 g c = (make_refused c.self.inside c.self.invariant c.self.view_is c.requires.room tick_row (on_err c.reserve.result c.reserve.ensures.refused (sym c.is_err-2.ensures.value ∙ c.if-is_err-2.true)) c.try_reserve.ensures.items refl).0

pub returns-then-is_err-2 : goal.returns-then-is_err-2
returns-then-is_err-2 g c = (make_refused c.self.inside c.self.invariant c.self.view_is c.requires.room tick_row (on_err c.reserve.result c.reserve.ensures.refused (sym c.is_err-2.ensures.value ∙ c.if-is_err-2.true)) c.try_reserve.ensures.items refl).1

pub invariant_of-self-2 : goal.invariant_of-self-2
invariant_of-self-2 g c = (tick_done c.self.inside c.self.invariant c.self.view_is c.requires.room c.requires.unclosed (on_ok c.reserve.result c.reserve.ensures.ok (sym c.is_err-2.ensures.value ∙ c.if-is_err-2.false)) c.push_reserved.ensures.items c.try_reserve.ensures.items c.new.ensures (c.len-k.ensures ∙ c.try_reserve.new.self.ok.0)).0

pub returns : goal.returns
returns g c = (tick_done c.self.inside c.self.invariant c.self.view_is c.requires.room c.requires.unclosed (on_ok c.reserve.result c.reserve.ensures.ok (sym c.is_err-2.ensures.value ∙ c.if-is_err-2.false)) c.push_reserved.ensures.items c.try_reserve.ensures.items c.new.ensures (c.len-k.ensures ∙ c.try_reserve.new.self.ok.0)).1
