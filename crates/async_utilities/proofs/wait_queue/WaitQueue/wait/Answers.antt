use Rattle.std.proofs.Common.{◌≡◌, ◌+◌, true, false, Some, is_some, refl, sym, ap, ◌∙◌, arith, ◌-◌, add-zero}
use Rattle.slab.specs.Slab.{get}
use Rattle.async_utilities.specs.WaitQueue.{is_notified, is_waiting}
use Rattle.async_utilities.specs.declared.wait_queue.Place.{Place}
use Rattle.async_utilities.specs.declared.wait_queue.Place.TheVariants.{Idle, Waiting, Notified}
use Rattle.async_utilities.proofs.WaitLemmas.{counted_by, counts_one, entered_queue, not_waiting, set_updates, waited_queue, waits_behind, waits_on}
use Rattle.async_utilities.proofs.wait_queue.WaitQueue.wait.Goals as goal

pub invariant_of-self-in-Idle : goal.invariant_of-self-in-Idle
invariant_of-self-in-Idle g c =
    let there : get {T = Place g.row.W.Denot} c.self.inside.places c.args.place ≡ Some Idle = sym c.in-Some.ensures.value ∙ ap Some (sym c.replace.ensures.value ∙ c.in-Idle.is) in
    let now : is_notified (Some c.replace.new.dest) ≡ false = ap (λ p. is_notified (Some p)) c.replace.ensures.after in
    entered_queue c.self.inside.places _ c.self.inside.order c.push.new.self c.self.inside.notified c.self.inside.notified c.args.place (Some c.replace.new.dest) c.self.invariant
    (set_updates c.self.inside.places c.args.place Idle c.replace.new.dest there) c.push.ensures (ap is_some there) (ap is_waiting there) (ap (λ p. is_waiting (Some p)) c.replace.ensures.after)
    (counted_by false false c.self.inside.notified c.self.inside.notified (ap is_notified there) now refl)

pub invariant_of-self-in-Notified : goal.invariant_of-self-in-Notified
invariant_of-self-in-Notified g c =
    let there : get {T = Place g.row.W.Denot} c.self.inside.places c.args.place ≡ Some Notified = sym c.in-Some.ensures.value ∙ ap Some (sym c.replace.ensures.value ∙ c.in-Notified.is) in
    let now : is_notified (Some c.replace.new.dest) ≡ false = ap (λ p. is_notified (Some p)) c.replace.ensures.after in
    let some = counts_one c.self.inside.places c.self.inside.order c.self.inside.notified c.args.place c.self.invariant there in
    let less : c.self.inside.notified - 1 + 1 ≡ c.self.inside.notified + 0 = omega arith in
    entered_queue c.self.inside.places _ c.self.inside.order c.push-in-Notified.new.self c.self.inside.notified (c.self.inside.notified - 1) c.args.place (Some c.replace.new.dest) c.self.invariant
    (set_updates c.self.inside.places c.args.place Notified c.replace.new.dest there) c.push-in-Notified.ensures (ap is_some there) (ap is_waiting there) (ap (λ p. is_waiting (Some p)) c.replace.ensures.after)
    (counted_by true false c.self.inside.notified (c.self.inside.notified - 1) (ap is_notified there) now less)

pub invariant_of-self-in-Waiting : goal.invariant_of-self-in-Waiting
invariant_of-self-in-Waiting g c =
    let there : get {T = Place g.row.W.Denot} c.self.inside.places c.args.place ≡ Some (Waiting c.in-Waiting.earlier) = sym c.in-Some.ensures.value ∙ ap Some (sym c.replace.ensures.value ∙ c.in-Waiting.is) in
    waited_queue c.self.inside.places c.self.inside.order c.self.inside.notified c.args.place c.in-Waiting.earlier c.args.waker c.replace.new.dest c.self.invariant there c.replace.ensures.after

pub returns-in-Waiting : goal.returns-in-Waiting
returns-in-Waiting g c =
    let there : get {T = Place g.row.W.Denot} c.self.inside.places c.args.place ≡ Some (Waiting c.in-Waiting.earlier) = sym c.in-Some.ensures.value ∙ ap Some (sym c.replace.ensures.value ∙ c.in-Waiting.is) in
    rw (← c.self.view_is)
    (waits_on c.self.inside.places c.self.inside.order c.self.inside.notified c.args.place c.in-Waiting.earlier c.args.waker c.replace.new.dest there c.replace.ensures.after)

pub returns-in-Idle : goal.returns-in-Idle
returns-in-Idle g c =
    let there : get {T = Place g.row.W.Denot} c.self.inside.places c.args.place ≡ Some Idle = sym c.in-Some.ensures.value ∙ ap Some (sym c.replace.ensures.value ∙ c.in-Idle.is) in
    rw (← c.self.view_is)
    (waits_behind c.self.inside.places c.self.inside.order c.push.new.self c.self.inside.notified c.self.inside.notified c.args.place Idle c.replace.new.dest c.args.waker there c.replace.ensures.after refl (add-zero c.self.inside.notified) c.push.ensures)

pub returns-in-Notified : goal.returns-in-Notified
returns-in-Notified g c =
    let there : get {T = Place g.row.W.Denot} c.self.inside.places c.args.place ≡ Some Notified = sym c.in-Some.ensures.value ∙ ap Some (sym c.replace.ensures.value ∙ c.in-Notified.is) in
    let some = counts_one c.self.inside.places c.self.inside.order c.self.inside.notified c.args.place c.self.invariant there in
    let less : c.self.inside.notified - 1 + 1 ≡ c.self.inside.notified = omega arith in
    rw (← c.self.view_is)
    (waits_behind c.self.inside.places c.self.inside.order c.push-in-Notified.new.self c.self.inside.notified (c.self.inside.notified - 1) c.args.place Notified c.replace.new.dest c.args.waker there c.replace.ensures.after refl less c.push-in-Notified.ensures)

pub push-requires-clause-room : goal.push-requires-clause-room
push-requires-clause-room g c =
    let there : get {T = Place g.row.W.Denot} c.self.inside.places c.args.place ≡ Some Idle = sym c.in-Some.ensures.value ∙ ap Some (sym c.replace.ensures.value ∙ c.in-Idle.is) in
    c.self.invariant.within c.args.place (ap is_some there)

pub push-requires-clause-absent : goal.push-requires-clause-absent
push-requires-clause-absent g c =
    let there : get {T = Place g.row.W.Denot} c.self.inside.places c.args.place ≡ Some Idle = sym c.in-Some.ensures.value ∙ ap Some (sym c.replace.ensures.value ∙ c.in-Idle.is) in
    not_waiting c.self.inside.places c.self.inside.order c.self.inside.notified c.args.place c.self.invariant (ap is_waiting there)

pub push-requires-in-Notified-clause-room : goal.push-requires-in-Notified-clause-room
push-requires-in-Notified-clause-room g c =
    let there : get {T = Place g.row.W.Denot} c.self.inside.places c.args.place ≡ Some Notified = sym c.in-Some.ensures.value ∙ ap Some (sym c.replace.ensures.value ∙ c.in-Notified.is) in
    c.self.invariant.within c.args.place (ap is_some there)

pub push-requires-in-Notified-clause-absent : goal.push-requires-in-Notified-clause-absent
push-requires-in-Notified-clause-absent g c =
    let there : get {T = Place g.row.W.Denot} c.self.inside.places c.args.place ≡ Some Notified = sym c.in-Some.ensures.value ∙ ap Some (sym c.replace.ensures.value ∙ c.in-Notified.is) in
    not_waiting c.self.inside.places c.self.inside.order c.self.inside.notified c.args.place c.self.invariant (ap is_waiting there)
