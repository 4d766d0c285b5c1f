-- The order of a lone runner: the tasks that are queued, and those that its searches take.
use Rattle.std.specs.Prelude.{◌≡◌, ◌≢◌, ℕ, List, [], ◌∷◌, ◌++◌, length, map, drop, Option, Some, None}
use Rattle.std.specs.List.{flat_map, filter_map, zip}
use Rattle.executor_core.specs.Queues.{RunnerQueue, QueueLists, entries_of}
use Rattle.executor_core.specs.World.{Execution}
use Rattle.executor_core.specs.World.Promises.{queues}
use Rattle.executor_core.specs.World.Steps.{idle_ones, ticker, StepTo, FoldTo}
use Rattle.executor_core.specs.declared.interleave.request.Step.{Step}
use Rattle.executor_core.specs.declared.interleave.request.Step.TheVariants.{Spawn, Wake, TryTick, TryAny, Pend, Cancel, DropHandle, Search, Drain, Leak}
use Rattle.executor_core.specs.declared.interleave.event.Event.{Event}
use Rattle.executor_core.specs.declared.interleave.event.Event.TheVariants.{Woken}
use Rattle.executor_core.specs.declared.interleave.reply.Reply.{Reply}
use Rattle.executor_core.specs.declared.interleave.reply.Reply.TheVariants as reply

-- what a reply says of a task
module _ {T : Type 0} where
  -- the new task
  abbrev pub new_task : Reply T → List ℕ
  new_task (reply.Task n) = n ∷ []
  new_task _ = []

  -- this task, if something was queued
  abbrev pub noticed_task : ℕ → Reply T → List ℕ
  noticed_task n reply.Notice = n ∷ []
  noticed_task n _ = []

  -- the task whose future went back, if it was queued again
  abbrev pub requeued_task : Reply T → List ℕ
  requeued_task (reply.Queued n) = n ∷ []
  requeued_task _ = []

  -- the task that was taken, to be polled or to be dropped
  abbrev pub taken_task : Reply T → List ℕ
  taken_task (reply.Poll n) = n ∷ []
  taken_task (reply.Drop n) = n ∷ []
  taken_task _ = []

-- what a log says
module _ {T : Type 0} where
  -- the task that was woken by the event
  abbrev pub woken_task : Event T → Option ℕ
  woken_task (Woken n) = Some n
  woken_task _ = None

  -- the idle tasks that were woken from one world to the other, in order
  abbrev pub woken_idle : Execution T → Execution T → List ℕ
  woken_idle old new = idle_ones (filter_map woken_task (drop (length old.log) new.log)) old

module _ {P T : Type 0} where
  -- the tasks that the step put at the global end: a leak says them by the log, any other step by its reply
  abbrev pub queued_by : Step P T → Execution T → Reply T → Execution T → List ℕ
  queued_by (Spawn p) old answer new = new_task answer
  queued_by (Wake n) old answer new = noticed_task n answer
  queued_by (Cancel n) old answer new = noticed_task n answer
  queued_by (DropHandle n) old answer new = noticed_task n answer
  queued_by (Pend n) old answer new = requeued_task answer
  queued_by Leak old answer new = woken_idle old new
  queued_by _ old answer new = []

  -- the task that the step took, by its reply
  abbrev pub taken_by : Step P T → Reply T → List ℕ
  taken_by TryTick answer = taken_task answer
  taken_by TryAny answer = taken_task answer
  taken_by (Search k word) answer = taken_task answer
  taken_by Drain answer = taken_task answer
  taken_by _ answer = []

  -- the tasks that these steps took, in order
  abbrev pub taken : List (Step P T) → List (Reply T) → List ℕ
  taken steps answers = flat_map (λ p. taken_by p.0 p.1) (zip steps answers)

  -- the runner that searches in this step
  abbrev pub searcher : Step P T → Execution T → Option ℕ
  searcher (Search k word) w = (ticker k w).runner
  searcher _ w = None

-- no other runner is registered
abbrev pub IsAlone : {X : Type 0} → ℕ → List (RunnerQueue X) → Type 0
IsAlone r locals = map (λ q. q.runner) locals ≡ r ∷ []

-- a runner's line: its own queue, and then the global one
abbrev pub line : {X : Type 0} → ℕ → QueueLists X → List X
line r q = entries_of r q.locals ++ q.global

module _ {P T : Type 0} where
  -- a step that leaves this runner alone, takes a task by a search of it alone, and closes nothing
  pub record LoneStep (r : ℕ) (old : Execution T) (step : Step P T) (answer : Reply T) (new : Execution T) : Type 0 where
    pub does : StepTo old step answer new
    pub alone : IsAlone r new.locals
    pub taker : taken_by step answer ≢ [] → searcher step old ≡ Some r
    pub goes_on : new.closed ≡ old.closed

  -- these replies to these steps, with the runner alone before and after each, and taking each task that is taken
  abbrev pub LoneSteps : ℕ → Execution T → List (Step P T) → List (Reply T) → Execution T → Type 0
  LoneSteps r old steps answers new = IsAlone r old.locals × FoldTo (LoneStep r) old steps answers new

  -- the tasks that these steps queued, in order
  abbrev pub queued : (r : ℕ) (old : Execution T) (steps : List (Step P T)) (answers : List (Reply T)) (new : Execution T) → FoldTo (LoneStep r) old steps answers new → List ℕ
  queued r old (step ∷ steps) (answer ∷ answers) new run = queued_by step old answer run.0 ++ queued r run.0 steps answers new run.2
  queued r old [] [] new run = []
  queued r old [] (answer ∷ answers) new run = []
  queued r old (step ∷ steps) [] new run = []

  -- a lone runner takes tasks in the order in which they were queued: its line before, and what was queued since, are
  -- what it took, and its line after
  abbrev pub LoneOrder : Execution T → List (Step P T) → List (Reply T) → Execution T → Type 0
  LoneOrder old steps answers new = (r : ℕ) (run : LoneSteps r old steps answers new) → line r (queues old) ++ queued r old steps answers new run.1 ≡ taken steps answers ++ line r (queues new)
