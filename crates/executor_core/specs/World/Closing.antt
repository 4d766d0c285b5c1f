-- What holds of a world that was closed.
use Rattle.std.specs.Prelude.{◌≡◌, ◌↔◌, ℕ, ◌||◌, true, false, List, [], ◌∷◌, Some, count_by, slice_get}
use Rattle.executor_core.specs.Queues.{local_entries}
use Rattle.executor_core.specs.World.{Execution}
use Rattle.executor_core.specs.World.Log.{is_drop, spawned, dropped, held, owed, outputs, handle_finished}
use Rattle.executor_core.specs.World.Steps.{info, drain_row, handle_row}
use Rattle.executor_core.specs.World.Phases.{is_over}
use Rattle.executor_core.specs.declared.interleave.event.Event.{Event}
use Rattle.executor_core.specs.declared.interleave.reply.Reply.TheVariants as reply
use Rattle.executor_core.specs.declared.interleave.ticker.Ticker.{Ticker}

module _ {T : Type 0} where
  -- no task is owed a poll or a drop
  abbrev pub NoneOwed : List (Event T) → Type 0
  NoneOwed log = (n : ℕ) → owed n log ≡ false

  abbrev pub NoneHeld : List (Event T) → Type 0
  NoneHeld log = (n : ℕ) → held n log ≡ false

  -- how often the task's future was dropped
  abbrev pub drops : ℕ → List (Event T) → ℕ
  drops n log = count_by (is_drop n) log

  -- each task's future was dropped, or is to be
  abbrev pub AllMarked : List (Event T) → Type 0
  AllMarked log = (n : ℕ) → spawned n log ≡ true → handle_finished n log ≡ true

  -- the promise of closing
  pub record Closing (w : Execution T) : Type 0 where
    -- each task whose future is not dropped is owed a drop, or held
    pub undropped : (n : ℕ) → spawned n w.log ≡ true → dropped n w.log ≡ false → owed n w.log || held n w.log ≡ true
    -- a drain finds none if and only if no task is owed a drop
    pub drained : ((drain_row w.global w).0 ≡ reply.NoTask) ↔ NoneOwed w.log
    -- and then, if none is held, each future that was spawned was dropped, once
    pub dropped : (drain_row w.global w).0 ≡ reply.NoTask → NoneHeld w.log → (n : ℕ) → spawned n w.log ≡ true → drops n w.log ≡ 1
    -- a task that finished still gives its output
    pub outputs : (n : ℕ) (t : T) → (info n w).has_handle ≡ true → outputs n w.log ≡ t ∷ [] → (handle_row n w).0 ≡ reply.Output t

  -- what a close leaves so, and each step keeps
  pub record IsClosed (w : Execution T) : Type 0 where
    pub over : (k : ℕ) (t : Ticker) → slice_get w.tickers k ≡ Some t → is_over t.phase ≡ true
    pub emptied : local_entries w.locals ≡ []
    pub marked : AllMarked w.log
