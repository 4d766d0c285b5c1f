use Rattle.std.proofs.Common.{◌≡◌, ◌+◌, false, Some, None, cond, refl, sym, ap, ◌∙◌, arith, ◌-◌, add-zero}
use Rattle.slab.specs.Slab.{get}
use Rattle.async_utilities.specs.WaitQueue.{is_notified, is_waiting}
use Rattle.async_utilities.specs.declared.wait_queue.Place.{Place}
use Rattle.async_utilities.specs.declared.wait_queue.Place.TheVariants.{Idle, Waiting, Notified}
use Rattle.async_utilities.proofs.WaitLemmas.{counted_by, counts_one, gone_queue, left_moves, left_queue, went_moves}
use Rattle.async_utilities.proofs.wait_queue.WaitQueue.leave.Goals as goal

pub invariant_of-self : goal.invariant_of-self
invariant_of-self g c =
    let there : get {T = Place g.row.W.Denot} c.self.inside.places c.args.place ≡ Some (Waiting c.in-Some-Waiting.waker) = sym c.try_remove.ensures.value ∙ c.in-Some-Waiting.is ∙ ap Some c.in-Some-Waiting.field-0-is in
    gone_queue c.self.inside.places c.try_remove.new.self c.self.inside.order c.remove.new.self c.self.inside.notified c.self.inside.notified c.args.place None c.self.invariant
    c.try_remove.ensures.updates c.remove.ensures (λ none. absurd (cc)) refl
    (counted_by false false c.self.inside.notified c.self.inside.notified (ap is_notified there) refl refl)

pub returns-in-Some-Notified-clause-leaves : goal.returns-in-Some-Notified-clause-leaves
returns-in-Some-Notified-clause-leaves g c =
    let there : get {T = Place g.row.W.Denot} c.self.inside.places c.args.place ≡ Some Notified = sym c.try_remove.ensures.value ∙ c.in-Some-Notified.is ∙ ap Some c.in-Some-Notified.field-0-is in
    let some = counts_one c.self.inside.places c.self.inside.order c.self.inside.notified c.args.place c.self.invariant there in
    let less : c.self.inside.notified - 1 + 1 ≡ c.self.inside.notified = omega arith in
    rw (← c.self.view_is)
    (left_moves c.self.inside.places c.try_remove.new.self c.self.inside.order c.self.inside.notified (c.self.inside.notified - 1) c.args.place c.self.invariant c.try_remove.ensures.updates (ap is_waiting there)
    (ap (λ b. c.self.inside.notified - 1 + cond b 1 0) (ap is_notified there) ∙ less))

pub returns-in-Some-Idle-clause-leaves : goal.returns-in-Some-Idle-clause-leaves
returns-in-Some-Idle-clause-leaves g c =
    let there : get {T = Place g.row.W.Denot} c.self.inside.places c.args.place ≡ Some Idle = sym c.try_remove.ensures.value ∙ c.in-Some-Idle.is ∙ ap Some c.in-Some-Idle.field-0-is in
    rw (← c.self.view_is)
    (left_moves c.self.inside.places c.try_remove.new.self c.self.inside.order c.self.inside.notified c.self.inside.notified c.args.place c.self.invariant c.try_remove.ensures.updates (ap is_waiting there)
    (ap (λ b. c.self.inside.notified + cond b 1 0) (ap is_notified there) ∙ add-zero c.self.inside.notified))

pub returns-in-None-clause-leaves : goal.returns-in-None-clause-leaves
returns-in-None-clause-leaves g c =
    let there : get {T = Place g.row.W.Denot} c.self.inside.places c.args.place ≡ None = sym c.try_remove.ensures.value ∙ c.in-None.is in
    rw (← c.self.view_is)
    (left_moves c.self.inside.places c.try_remove.new.self c.self.inside.order c.self.inside.notified c.self.inside.notified c.args.place c.self.invariant c.try_remove.ensures.updates (ap is_waiting there)
    (ap (λ b. c.self.inside.notified + cond b 1 0) (ap is_notified there) ∙ add-zero c.self.inside.notified))

pub remove-requires : goal.remove-requires
remove-requires g c =
    let there : get {T = Place g.row.W.Denot} c.self.inside.places c.args.place ≡ Some (Waiting c.in-Some-Waiting.waker) = sym c.try_remove.ensures.value ∙ c.in-Some-Waiting.is ∙ ap Some c.in-Some-Waiting.field-0-is in
    c.self.invariant.linked c.args.place (ap is_waiting there)

pub returns-in-Some-Waiting-clause-leaves : goal.returns-in-Some-Waiting-clause-leaves
returns-in-Some-Waiting-clause-leaves g c =
    let there : get {T = Place g.row.W.Denot} c.self.inside.places c.args.place ≡ Some (Waiting c.in-Some-Waiting.waker) = sym c.try_remove.ensures.value ∙ c.in-Some-Waiting.is ∙ ap Some c.in-Some-Waiting.field-0-is in
    rw (← c.self.view_is)
    (went_moves c.self.inside.places c.try_remove.new.self c.self.inside.order c.self.inside.notified c.self.inside.notified c.args.place c.self.invariant c.try_remove.ensures.updates c.remove.new.self c.in-Some-Waiting.waker there c.remove.ensures)

pub invariant_of-self-in-Some-Notified : goal.invariant_of-self-in-Some-Notified
invariant_of-self-in-Some-Notified g c =
    let there : get {T = Place g.row.W.Denot} c.self.inside.places c.args.place ≡ Some Notified = sym c.try_remove.ensures.value ∙ c.in-Some-Notified.is ∙ ap Some c.in-Some-Notified.field-0-is in
    let some = counts_one c.self.inside.places c.self.inside.order c.self.inside.notified c.args.place c.self.invariant there in
    let less : c.self.inside.notified - 1 + 1 ≡ c.self.inside.notified = omega arith in
    left_queue c.self.inside.places c.try_remove.new.self c.self.inside.order c.self.inside.notified (c.self.inside.notified - 1) c.args.place c.self.invariant c.try_remove.ensures.updates (ap is_waiting there)
    (ap (λ b. c.self.inside.notified - 1 + cond b 1 0) (ap is_notified there) ∙ less)

pub invariant_of-self-in-Some-Idle : goal.invariant_of-self-in-Some-Idle
invariant_of-self-in-Some-Idle g c =
    let there : get {T = Place g.row.W.Denot} c.self.inside.places c.args.place ≡ Some Idle = sym c.try_remove.ensures.value ∙ c.in-Some-Idle.is ∙ ap Some c.in-Some-Idle.field-0-is in
    left_queue c.self.inside.places c.try_remove.new.self c.self.inside.order c.self.inside.notified c.self.inside.notified c.args.place c.self.invariant c.try_remove.ensures.updates (ap is_waiting there)
    (ap (λ b. c.self.inside.notified + cond b 1 0) (ap is_notified there) ∙ add-zero c.self.inside.notified)

pub invariant_of-self-in-None : goal.invariant_of-self-in-None
invariant_of-self-in-None g c =
    let there : get {T = Place g.row.W.Denot} c.self.inside.places c.args.place ≡ None = sym c.try_remove.ensures.value ∙ c.in-None.is in
    left_queue c.self.inside.places c.try_remove.new.self c.self.inside.order c.self.inside.notified c.self.inside.notified c.args.place c.self.invariant c.try_remove.ensures.updates (ap is_waiting there)
    (ap (λ b. c.self.inside.notified + cond b 1 0) (ap is_notified there) ∙ add-zero c.self.inside.notified)
