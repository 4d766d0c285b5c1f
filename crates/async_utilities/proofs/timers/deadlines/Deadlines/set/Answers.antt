use Rattle.std.proofs.Common.{arith, ◌≡◌, ◌+◌}
use Rattle.async_utilities.proofs.Deadlines.{fresh_after}
use Rattle.async_utilities.proofs.timers.deadlines.Deadlines.set.Goals as goal

pub invariant_of-self : goal.invariant_of-self
invariant_of-self g c =
    let next : c.in-Some.next ≡ c.args.self.now.next_number + 1 = c.in-Some.ensures.1 in
    record { fresh = fresh_after c.args.self.now.waiting c.insert.new.self _ _ c.args.self.now.next_number _ c.args.self.now.fresh (omega arith) c.in-Ok.ensures.updates (λ le. absurd (omega arith)) }
