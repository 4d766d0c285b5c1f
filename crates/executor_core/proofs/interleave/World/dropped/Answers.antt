use Rattle.std.proofs.Common.{◌∙◌, is_some, sym, ap, refl}
use Rattle.std.proofs.lemmas.Bool.{false≢true}
use Rattle.executor_core.proofs.World.Agreement.{held_out, held_within}
use Rattle.executor_core.proofs.World.Polls.{drop_done}
use Rattle.executor_core.proofs.World.Room.{step_fits, event_fits}
use Rattle.executor_core.proofs.interleave.World.dropped.Goals as goal

pub begin-info-requires : goal.begin-info-requires
begin-info-requires g c = record { room = step_fits c.self.invariant.room c.self.view_is c.requires.room; spawned = held_within c.self.inside c.self.invariant c.self.view_is c.args.n _ c.requires.enabled }

pub set_entry-requires : goal.set_entry-requires
set_entry-requires g c = held_within c.self.inside c.self.invariant c.self.view_is c.args.n _ c.requires.enabled

pub unreachable-requires : goal.unreachable-requires
unreachable-requires g c = false≢true (ap is_some (sym c.in_default.is) ∙ c.set_entry.ensures.before ∙ held_out c.self.inside c.self.invariant c.self.view_is c.args.n _ c.requires.enabled)

pub push_reserved-requires : goal.push_reserved-requires
push_reserved-requires g c = event_fits c.self.invariant.room c.self.view_is c.requires.room c.self.inside.log.ok.0

pub invariant_of-self : goal.invariant_of-self
invariant_of-self g c = (drop_done c.self.inside c.self.invariant c.self.view_is c.requires.room c.args.n c.begin-info.ensures.found _ c.requires.enabled c.begin-info.ensures.counted c.push_reserved.ensures.capacity c.id.ensures c.drop_future-held.ensures c.end_dropped-awaiter.ensures.state c.end_dropped-awaiter.ensures.answer c.with_awaited.ensures c.set_entry.ensures.items c.push_reserved.ensures.items c.has_awaiter.ensures refl).sound

pub returns : goal.returns
returns g c = (drop_done c.self.inside c.self.invariant c.self.view_is c.requires.room c.args.n c.begin-info.ensures.found _ c.requires.enabled c.begin-info.ensures.counted c.push_reserved.ensures.capacity c.id.ensures c.drop_future-held.ensures c.end_dropped-awaiter.ensures.state c.end_dropped-awaiter.ensures.answer c.with_awaited.ensures c.set_entry.ensures.items c.push_reserved.ensures.items c.has_awaiter.ensures refl).does

pub end_dropped-awaiter-requires : goal.end_dropped-awaiter-requires
end_dropped-awaiter-requires g c = ap (λ h. h.to_drop) c.drop_future-held.ensures
