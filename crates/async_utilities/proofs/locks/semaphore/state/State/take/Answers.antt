use Rattle.std.proofs.Common.{◌≡◌, true, sym, ap, ◌∙◌}
use Rattle.async_utilities.specs.Semaphores.{is_due}
use Rattle.async_utilities.proofs.LockLemmas.{first_left, is_not_false}
use Rattle.async_utilities.proofs.locks.semaphore.state.State.take.Goals as goal

pub invariant_of-self : goal.invariant_of-self
invariant_of-self g c =
    let due : c.is_due.result ≡ true = search (is_not_false) in
    let notified = sym (ap (λ p. is_due c.args.self.now p c.args.wanted) c.in-Some.is) ∙ sym c.is_due.ensures ∙ due in
    record {
      short = λ wish is. c.args.self.now.short wish (first_left c.args.self.now.waiters c.leave.new.self c.in-Some.place c.leave.ensures.leaves (c.leave.ensures.stays notified) wish is);
    }
