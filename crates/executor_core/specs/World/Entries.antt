-- What a world keeps of each task beside its log.
use Rattle.std.specs.Prelude.{◌≡◌, Bool, true, false, List, Option, Some, None, is_some, map}
use Rattle.executor_core.specs.declared.interleave.entry.TaskInfo.{TaskInfo}
use Rattle.executor_core.specs.declared.interleave.entry.TaskEntry.{TaskEntry}
use Rattle.executor_core.specs.declared.task.polling.Taken.{Taken}
use Rattle.executor_core.specs.declared.interleave.entry.FutureOut.{FutureOut}
use Rattle.executor_core.specs.declared.interleave.entry.FutureOut.TheVariants.{Unpolled, Polled}

module _ {P : Type 0} where
  -- what is known of the tasks
  abbrev pub infos : List (TaskEntry P) → List TaskInfo
  infos entries = map (λ e. e.info) entries

  -- the future of such a task is out
  abbrev pub is_out : Option (TaskEntry P) → Bool
  is_out None = false
  is_out (Some e) = is_some e.out

  -- it is out, and was not polled since the task was taken
  abbrev pub is_unpolled_future : Option (FutureOut P) → Bool
  is_unpolled_future None = false
  is_unpolled_future (Some (Unpolled p)) = true
  is_unpolled_future (Some (Polled p)) = false

  abbrev pub is_unpolled : Option (TaskEntry P) → Bool
  is_unpolled None = false
  is_unpolled (Some e) = is_unpolled_future e.out

  -- a future that was polled since its task was taken is out to be dropped
  abbrev pub PolledAgrees : Option (FutureOut P) → Bool → Type 0
  PolledAgrees None to_drop = Unit {0}
  PolledAgrees (Some (Unpolled p)) to_drop = Unit {0}
  PolledAgrees (Some (Polled p)) to_drop = to_drop ≡ true

  -- the entry of a task that was taken
  abbrev pub out_entry : TaskEntry P → Taken P → TaskEntry P
  out_entry e task = record { info = record e.info { to_drop = task.cancelled }; out = Some (Unpolled task.future) }
