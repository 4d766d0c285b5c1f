use Rattle.std.proofs.Common.{◌∙◌, sym}
use Rattle.executor_core.proofs.World.Room.{count_fits}
use Rattle.executor_core.proofs.World.RunSteps.{new_is_run, ring_waits, no_ring, ring_empty, registers, register_done}
use Rattle.executor_core.proofs.interleave.World.register.Goals as goal

pub overflow_add-self : goal.overflow_add-self
overflow_add-self g c = count_fits c.self.invariant.room c.self.view_is c.requires.room

pub unreachable-requires-in_default-take_ring : goal.unreachable-requires-in_default-take_ring
unreachable-requires-in_default-take_ring g c = no_ring c.self.inside c.self.invariant c.self.view_is c.requires.room c.args.k c.requires.enabled c.ticker_at.ensures c.in-Some.is (sym c.in_default-take_ring.is ∙ c.take_ring.ensures.ring)

pub register-requires : goal.register-requires
register-requires g c = ring_empty c.self.inside c.self.invariant c.self.view_is c.requires.room c.args.k c.requires.enabled c.ticker_at.ensures c.in-Some.is (sym c.in-Some-take_ring.is ∙ c.take_ring.ensures.ring)

pub unreachable-requires-in_default-register : goal.unreachable-requires-in_default-register
unreachable-requires-in_default-register g c = registers c.self.inside c.self.invariant c.self.view_is c.requires.room c.args.k c.requires.enabled c.ticker_at.ensures c.in-Some.is c.in_default-register.ensures.variant

pub invariant_of-self : goal.invariant_of-self
invariant_of-self g c = (register_done c.self.inside c.self.invariant c.self.view_is c.requires.room c.args.k c.requires.enabled c.ticker_at.ensures c.in-Some.is (ring_waits c.self.inside c.self.invariant c.self.view_is c.requires.room c.args.k c.requires.enabled c.ticker_at.ensures c.in-Some.is (sym c.in-Some-take_ring.is ∙ c.take_ring.ensures.ring)) c.in-Ok.ensures.ok c.take_ring.ensures.rest).sound

pub returns : goal.returns
returns g c = (register_done c.self.inside c.self.invariant c.self.view_is c.requires.room c.args.k c.requires.enabled c.ticker_at.ensures c.in-Some.is (ring_waits c.self.inside c.self.invariant c.self.view_is c.requires.room c.args.k c.requires.enabled c.ticker_at.ensures c.in-Some.is (sym c.in-Some-take_ring.is ∙ c.take_ring.ensures.ring)) c.in-Ok.ensures.ok c.take_ring.ensures.rest).does

pub unreachable-requires : goal.unreachable-requires
unreachable-requires g c = new_is_run c.self.inside c.self.invariant c.self.view_is c.requires.room c.args.k c.requires.enabled c.ticker_at.ensures c.in_default.is
