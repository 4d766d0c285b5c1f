use Rattle.std.proofs.Common.{◌≡◌, ◌+◌, true, false, Some, is_some, sym, ap, ◌∙◌, arith}
use Rattle.async_utilities.specs.WaitQueue.{is_notified, is_waiting}
use Rattle.async_utilities.specs.declared.wait_queue.Place.TheVariants.{Waiting}
use Rattle.async_utilities.proofs.WaitLemmas.{counted_by, counts_below, first_in, gone_queue, set_updates, waits_not, waits_there}
use Rattle.async_utilities.proofs.wait_queue.WaitQueue.first.Goals as goal

pub remove-requires : goal.remove-requires
remove-requires g c = first_in c.self.inside.order.keys c.in-Some.place (sym c.in-Some.is ∙ c.first.ensures)

pub prove-unreachable-requires : goal.prove-unreachable-requires
prove-unreachable-requires g c =
    let there = waits_there c.self.inside.places c.self.inside.order c.self.inside.notified c.in-Some.place c.self.invariant (first_in c.self.inside.order.keys c.in-Some.place (sym c.in-Some.is ∙ c.first.ensures)) in
    let below = counts_below c.self.inside.places c.self.inside.order c.self.inside.notified c.in-Some.place there.0 c.self.invariant there.1 in
    omega arith

pub index_mut-requires : goal.index_mut-requires
index_mut-requires g c =
    ap is_some (waits_there c.self.inside.places c.self.inside.order c.self.inside.notified c.in-Some.place c.self.invariant (first_in c.self.inside.order.keys c.in-Some.place (sym c.in-Some.is ∙ c.first.ensures))).1

pub unreachable-requires : goal.unreachable-requires
unreachable-requires g c =
    let there = waits_there c.self.inside.places c.self.inside.order c.self.inside.notified c.in-Some.place c.self.invariant (first_in c.self.inside.order.keys c.in-Some.place (sym c.in-Some.is ∙ c.first.ensures)) in
    waits_not there.0 c.replace.result (ap Some c.replace.ensures.value ∙ sym c.index_mut.ensures.value ∙ there.1) c.in-Idle.is

pub invariant_of-self : goal.invariant_of-self
invariant_of-self g c =
    let there = waits_there c.self.inside.places c.self.inside.order c.self.inside.notified c.in-Some.place c.self.invariant (first_in c.self.inside.order.keys c.in-Some.place (sym c.in-Some.is ∙ c.first.ensures)) in
    let now : is_notified (Some c.replace.new.dest) ≡ true = ap (λ p. is_notified (Some p)) c.replace.ensures.after in
    let more : c.self.inside.notified + 1 + 0 ≡ c.self.inside.notified + 1 = omega arith in
    gone_queue c.self.inside.places _ c.self.inside.order c.remove.new.self c.self.inside.notified (c.self.inside.notified + 1) c.in-Some.place (Some c.replace.new.dest) c.self.invariant
    (set_updates c.self.inside.places c.in-Some.place (Waiting there.0) c.replace.new.dest there.1) c.remove.ensures (λ _. ap is_some there.1) (ap (λ p. is_waiting (Some p)) c.replace.ensures.after)
    (counted_by false true c.self.inside.notified (c.self.inside.notified + 1) (ap is_notified there.1) now more)
