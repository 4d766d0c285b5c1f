use Rattle.std.proofs.Common.{arith, ◌∙◌}
use Rattle.async_utilities.proofs.Deadlines.{fresh_after}
use Rattle.async_utilities.proofs.timers.deadlines.Deadlines.leave.Goals as goal

pub invariant_of-self : goal.invariant_of-self
invariant_of-self g c =
    let there = c.in-Some.ensures.value in
    record {
      fresh = fresh_after c.args.self.now.waiting (c.get_mut.follows.lender c.replace.new.dest) c.args.deadline _ _ _ c.args.self.now.fresh (omega arith)
          ((c.get_mut.follows.holds c.replace.new.dest).3 (search (there)))
          (λ above. grind (arith, there ∙ c.args.self.now.fresh c.args.deadline above));
    }
