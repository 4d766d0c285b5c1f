-- What a contract sees of the queues of the cells.
use Rattle.std.specs.Prelude.{ℕ, List, [], ◌∷◌, ◌++◌, refl}
use Rattle.std.specs.Coded.{Coded, code_by, coded×, coded_ℕ, coded_list}
use Rattle.executor_core.specs.Queues.{QueueLists, RunnerQueue, runner_queue_code}
use Rattle.executor_core.specs.Ring.Coding.{task_id_code}
use Rattle.executor_core.specs.declared.task.cell.TaskId.{TaskId}

-- the queues, the number that the next runner gets, and how many reserved places for runners are free
pub record QueueState : Type 0 where
  pub lists : QueueLists TaskId
  pub next_runner : ℕ
  pub free_places : ℕ

abbrev pub queue_state_code : Coded QueueState
queue_state_code =
    code_by
    (List TaskId × (List (RunnerQueue TaskId) × (ℕ × ℕ)))
    (coded× (coded_list task_id_code) (coded× (coded_list (runner_queue_code task_id_code)) (coded× coded_ℕ coded_ℕ)))
    (λ s. (s.lists.global, (s.lists.locals, (s.next_runner, s.free_places))))
    (λ q. record { lists = record { global = q.0; locals = q.1.0 }; next_runner = q.1.1.0; free_places = q.1.1.1 })
    (λ _. refl)

-- no task is queued, and no runner is registered
abbrev pub no_queues : QueueState
no_queues = record { lists = record { global = []; locals = [] }; next_runner = 0; free_places = 0 }

-- these queues in place of its own
abbrev pub with_lists : QueueLists TaskId → QueueState → QueueState
with_lists lists q = record q { lists = lists }

-- the id at the global end
abbrev pub pushed : TaskId → QueueLists TaskId → QueueLists TaskId
pushed id q = record q { global = q.global ++ id ∷ [] }

-- these ids at the global end
abbrev pub pushed_all : List TaskId → QueueLists TaskId → QueueLists TaskId
pushed_all ids q = record q { global = q.global ++ ids }
