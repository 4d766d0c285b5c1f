-- How the fields of `Queues` are seen, and what holds of them.
use Rattle.std.specs.Prelude.{◌≡◌, ℕ, ◌+◌, ◌≤◌, List, length, map, Some, slice_get}
use Rattle.executor_core.specs.Queues.{RunnerQueue}
use Rattle.executor_core.specs.Queues.State.{QueueState}
use Rattle.executor_core.specs.declared.queue.queues.LocalQueue.{LocalQueue}
use Rattle.executor_core.specs.declared.task.cell.TaskId.{TaskId}

abbrev pub local_of : LocalQueue → RunnerQueue TaskId
local_of l = record { runner = l.runner; entries = l.ring.ids; capacity = l.ring.capacity }

abbrev pub state_of : List TaskId → List LocalQueue → ℕ → ℕ → QueueState
state_of global locals next_runner free_places =
    record {
      lists = record { global = global; locals = map local_of locals };
      next_runner = next_runner;
      free_places = free_places;
    }

-- the runners of the queues
abbrev pub runners_of : List (RunnerQueue TaskId) → List ℕ
runners_of locals = map (λ q. q.runner) locals

-- no number stands at two places
abbrev pub AllDistinct : List ℕ → Type 0
AllDistinct numbers = (i j n : ℕ) → slice_get numbers i ≡ Some n → slice_get numbers j ≡ Some n → i ≡ j

-- a runner has one queue, and each free place has room among the queues
pub record IsQueues (q : QueueState) (capacity : ℕ) : Type 0 where
  pub distinct : AllDistinct (runners_of q.lists.locals)
  pub reserved : q.free_places + length q.lists.locals ≤ capacity
