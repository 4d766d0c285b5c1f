use denote.Param.Always.{always_mut}
use Rattle.async_utilities.specs.Polls.{Gives}
use Rattle.async_utilities.proofs.blocking.poll_until_ready.Given as goal

-- what polls from here on give is what polls from the first on give
abbrev pub invariant-loop : goal.invariant-loop
invariant-loop g l =
    (goal.iterator-loop g).can_next l.iterator' ×
    (goal.iterator-loop g).is_finite l.iterator' ×
    (always_mut g.P.FnMut l.initial.poll → always_mut g.P.FnMut l.poll) ×
    ((output : _) → Gives (λ p w r q. goal.P-step g p w r q) l.poll output → Gives (λ p w r q. goal.P-step g p w r q) l.fn.poll output)
