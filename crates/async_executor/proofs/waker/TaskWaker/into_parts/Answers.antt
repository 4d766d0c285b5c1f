use Rattle.std.proofs.Common.{◌≡◌, false, is_some, Option, Some}
use Rattle.async_executor.proofs.waker.TaskWaker.into_parts.Goals as goal
use Rattle.async_executor.proofs.waker.TaskWaker.into_parts.Goals.{in-Some, in-None}

no_mark : {X : Type 0} (o : Option X) (x : X) → o ≡ Some x → is_some o ≡ false → ⊥
no_mark o x is none = cc

pub returns-clause-copy : goal.returns-clause-copy
returns-clause-copy g c = elim c.match-mark.branch [
  | in-Some w ↦ (λ none. absurd (no_mark _ _ w.in-Some.is none))
  | in-None w ↦ (λ none. w.is_woken-is)
]
