use Rattle.std.proofs.Common.{◌≡◌, ◌+◌, ◌-◌, false, Some, is_some, refl, sym, ap, ◌∙◌, arith, add-zero}
use Rattle.slab.specs.Slab.{get}
use Rattle.async_utilities.specs.WaitQueue.{is_notified, is_waiting, waker_of}
use Rattle.async_utilities.specs.declared.wait_queue.Place.{Place}
use Rattle.async_utilities.specs.declared.wait_queue.Place.TheVariants.{Idle, Waiting, Notified}
use Rattle.async_utilities.proofs.WaitLemmas.{came_moves, came_queue, counted_by, counts_one, gone_queue, set_updates, went_comes}
use Rattle.async_utilities.proofs.wait_queue.WaitQueue.come.Goals as goal

pub invariant_of-self-in-Waiting : goal.invariant_of-self-in-Waiting
invariant_of-self-in-Waiting g c =
    let there : get {T = Place g.row.W.Denot} c.self.inside.places c.args.place ≡ Some (Waiting c.in-Waiting.waker) = sym c.in-Some.ensures.value ∙ ap Some (sym c.replace.ensures.value ∙ c.in-Waiting.is) in
    let now : is_notified (Some c.replace.new.dest) ≡ false = ap (λ p. is_notified (Some p)) c.replace.ensures.after in
    gone_queue c.self.inside.places _ c.self.inside.order c.remove.new.self c.self.inside.notified c.self.inside.notified c.args.place (Some c.replace.new.dest) c.self.invariant
    (set_updates c.self.inside.places c.args.place (Waiting c.in-Waiting.waker) c.replace.new.dest there) c.remove.ensures (λ some. ap is_some there) (ap (λ p. is_waiting (Some p)) c.replace.ensures.after)
    (counted_by false false c.self.inside.notified c.self.inside.notified (ap is_notified there) now refl)

pub returns-in-Notified-clause-comes : goal.returns-in-Notified-clause-comes
returns-in-Notified-clause-comes g c =
    let there : get {T = Place g.row.W.Denot} c.self.inside.places c.args.place ≡ Some Notified = sym c.in-Some.ensures.value ∙ ap Some (sym c.replace.ensures.value ∙ c.in-Notified.is) in
    let some = counts_one c.self.inside.places c.self.inside.order c.self.inside.notified c.args.place c.self.invariant there in
    let less : c.self.inside.notified - 1 + 1 ≡ c.self.inside.notified = omega arith in
    rw (← c.self.view_is)
    (came_moves c.self.inside.places c.self.inside.order c.self.inside.notified (c.self.inside.notified - 1) c.args.place Notified c.replace.new.dest c.self.invariant there c.replace.ensures.after refl less)

pub returns-in-Idle-clause-comes : goal.returns-in-Idle-clause-comes
returns-in-Idle-clause-comes g c =
    let there : get {T = Place g.row.W.Denot} c.self.inside.places c.args.place ≡ Some Idle = sym c.in-Some.ensures.value ∙ ap Some (sym c.replace.ensures.value ∙ c.in-Idle.is) in
    rw (← c.self.view_is)
    (came_moves c.self.inside.places c.self.inside.order c.self.inside.notified c.self.inside.notified c.args.place Idle c.replace.new.dest c.self.invariant there c.replace.ensures.after refl (add-zero c.self.inside.notified))

pub remove-requires : goal.remove-requires
remove-requires g c =
    let there : get {T = Place g.row.W.Denot} c.self.inside.places c.args.place ≡ Some (Waiting c.in-Waiting.waker) = sym c.in-Some.ensures.value ∙ ap Some (sym c.replace.ensures.value ∙ c.in-Waiting.is) in
    c.self.invariant.linked c.args.place (ap is_waiting there)

pub invariant_of-self-in-Notified : goal.invariant_of-self-in-Notified
invariant_of-self-in-Notified g c =
    let there : get {T = Place g.row.W.Denot} c.self.inside.places c.args.place ≡ Some Notified = sym c.in-Some.ensures.value ∙ ap Some (sym c.replace.ensures.value ∙ c.in-Notified.is) in
    let some = counts_one c.self.inside.places c.self.inside.order c.self.inside.notified c.args.place c.self.invariant there in
    let less : c.self.inside.notified - 1 + 1 ≡ c.self.inside.notified = omega arith in
    came_queue c.self.inside.places c.self.inside.order c.self.inside.notified (c.self.inside.notified - 1) c.args.place Notified c.replace.new.dest c.self.invariant there c.replace.ensures.after refl less

pub invariant_of-self-in-Idle : goal.invariant_of-self-in-Idle
invariant_of-self-in-Idle g c =
    let there : get {T = Place g.row.W.Denot} c.self.inside.places c.args.place ≡ Some Idle = sym c.in-Some.ensures.value ∙ ap Some (sym c.replace.ensures.value ∙ c.in-Idle.is) in
    came_queue c.self.inside.places c.self.inside.order c.self.inside.notified c.self.inside.notified c.args.place Idle c.replace.new.dest c.self.invariant there c.replace.ensures.after refl (add-zero c.self.inside.notified)

pub returns-in-Waiting-clause-comes : goal.returns-in-Waiting-clause-comes
returns-in-Waiting-clause-comes g c =
    let there : get {T = Place g.row.W.Denot} c.self.inside.places c.args.place ≡ Some (Waiting c.in-Waiting.waker) = sym c.in-Some.ensures.value ∙ ap Some (sym c.replace.ensures.value ∙ c.in-Waiting.is) in
    rw (← c.self.view_is)
    (went_comes c.self.inside.places c.self.inside.order c.remove.new.self c.self.inside.notified c.args.place c.in-Waiting.waker c.replace.new.dest there c.replace.ensures.after c.remove.ensures)

pub returns-in-Waiting-clause-waker : goal.returns-in-Waiting-clause-waker
returns-in-Waiting-clause-waker g c =
    let there : get {T = Place g.row.W.Denot} c.self.inside.places c.args.place ≡ Some (Waiting c.in-Waiting.waker) = sym c.in-Some.ensures.value ∙ ap Some (sym c.replace.ensures.value ∙ c.in-Waiting.is) in
    rw (← c.self.view_is) (sym (ap waker_of there))
