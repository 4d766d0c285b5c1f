use Rattle.std.specs.Prelude.{Bool, true, false, Option, Result, IsErr, IsNone}
use Rattle.executor_core.specs.declared.task.future.Poll.{Poll}
use Rattle.executor_core.specs.declared.task.future.Poll.TheVariants.{Ready, Pending}

-- whether a poll gave an answer
abbrev pub is_ready : {T : Type 0} → Poll T → Bool
is_ready (Ready answer) = true
is_ready Pending = false

-- the answer of a task that gives no output
abbrev pub IsReadyErr : {T E : Type 0} → Poll (Result T E) → Type 0
IsReadyErr (Ready answer) = IsErr answer
IsReadyErr Pending = ⊥

-- the same if the error is left out
abbrev pub IsReadyNone : {T : Type 0} → Poll (Option T) → Type 0
IsReadyNone (Ready answer) = IsNone answer
IsReadyNone Pending = ⊥
