use Rattle.std.proofs.Common.{false, Some, None, refl, ap, ◌∙◌}
use Rattle.slab.specs.Slab.{Updates}
use Rattle.async_utilities.specs.WaitQueue.{is_notified, is_waiting}
use Rattle.async_utilities.specs.declared.wait_queue.Place.{Place}
use Rattle.async_utilities.specs.declared.wait_queue.Place.TheVariants.{Idle}
use Rattle.async_utilities.proofs.WaitLemmas.{beside_queue, counted_by}
use Rattle.async_utilities.proofs.wait_queue.WaitQueue.join.Goals as goal

pub invariant_of-self-in-Ok-reserve : goal.invariant_of-self-in-Ok-reserve
invariant_of-self-in-Ok-reserve g c =
    beside_queue c.self.inside.places c.insert.new.self c.self.inside.order c.reserve.new.self c.self.inside.notified c.self.inside.notified c.in-Ok.place (Some Idle) c.self.invariant
    c.in-Ok.ensures.updates c.reserve.ensures.keys c.reserve.ensures.limit (λ _. c.in-Ok-reserve.ensures.room) (ap is_waiting c.in-Ok.ensures.was_vacant) refl
    (counted_by false false c.self.inside.notified c.self.inside.notified (ap is_notified c.in-Ok.ensures.was_vacant) refl refl)

pub invariant_of-self-in-Err : goal.invariant_of-self-in-Err
invariant_of-self-in-Err g c =
    let first = c.in-Ok.ensures.updates in
    let then = c.try_remove.ensures.updates in
    let updates : Updates {T = Place g.row.W.Denot} c.self.inside.places c.try_remove.new.self c.in-Ok.place None = record { changed = then.changed; others = λ other differs. then.others other differs ∙ first.others other differs } in
    beside_queue c.self.inside.places c.try_remove.new.self c.self.inside.order c.reserve.new.self c.self.inside.notified c.self.inside.notified c.in-Ok.place None c.self.invariant
    updates c.reserve.ensures.keys c.reserve.ensures.limit (λ none. absurd (cc)) (ap is_waiting c.in-Ok.ensures.was_vacant) refl
    (counted_by false false c.self.inside.notified c.self.inside.notified (ap is_notified c.in-Ok.ensures.was_vacant) refl refl)
