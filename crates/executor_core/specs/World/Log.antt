-- What a log says of a task. Each word reads the events, and nothing is stored.
use Rattle.std.specs.Prelude.{◌≡◌, ℕ, ◌==◌, Bool, true, false, List, [], ◌∷◌, Option, Some, None, cond, ◌&&◌, ◌||◌, not, count_by}
use Rattle.std.specs.List.{list_any, filter_map}
use Rattle.executor_core.specs.declared.interleave.event.Purpose.TheVariants.{ToPoll}
use Rattle.executor_core.specs.declared.interleave.event.Event.{Event}
use Rattle.executor_core.specs.declared.interleave.event.Event.TheVariants.{Spawned, Woken, Cancelled, Took, Returned, Finished, Dropped, Got}

-- some element of the first kind is followed by none of the second
abbrev pub unfollowed : {E : Type 0} → (E → Bool) → (E → Bool) → List E → Bool
unfollowed f g [] = false
unfollowed f g (e ∷ rest) = (f e && not (list_any g rest)) || unfollowed f g rest

-- the kinds of the events of one task
module _ {T : Type 0} where
  abbrev pub is_spawn : ℕ → Event T → Bool
  is_spawn n (Spawned m) = m == n
  is_spawn n _ = false

  abbrev pub is_wake : ℕ → Event T → Bool
  is_wake n (Woken m) = m == n
  is_wake n _ = false

  abbrev pub is_cancel : ℕ → Event T → Bool
  is_cancel n (Cancelled m) = m == n
  is_cancel n _ = false

  abbrev pub is_take : ℕ → Event T → Bool
  is_take n (Took m purpose) = m == n
  is_take n _ = false

  abbrev pub is_poll : ℕ → Event T → Bool
  is_poll n (Took m ToPoll) = m == n
  is_poll n _ = false

  abbrev pub is_drop : ℕ → Event T → Bool
  is_drop n (Dropped m) = m == n
  is_drop n _ = false

  -- the future came back, or it was dropped
  abbrev pub is_end : ℕ → Event T → Bool
  is_end n (Returned m) = m == n
  is_end n (Dropped m) = m == n
  is_end n _ = false

module _ {T : Type 0} where
  -- the output that the task's future gives by the event
  abbrev pub output_in : ℕ → Event T → Option T
  output_in n (Finished m t) = cond (m == n) (Some t) None
  output_in n _ = None

  -- the output that the task's handle gives by the event
  abbrev pub given_in : ℕ → Event T → Option T
  given_in n (Got m t) = cond (m == n) (Some t) None
  given_in n _ = None

  -- the outputs that the task's future gave, in order
  abbrev pub outputs : ℕ → List (Event T) → List T
  outputs n log = filter_map (output_in n) log

  -- the outputs that the task's handle gave, in order
  abbrev pub given : ℕ → List (Event T) → List T
  given n log = filter_map (given_in n) log

  abbrev pub spawned : ℕ → List (Event T) → Bool
  spawned n log = list_any (is_spawn n) log

  abbrev pub dropped : ℕ → List (Event T) → Bool
  dropped n log = list_any (is_drop n) log

  abbrev pub cancelled : ℕ → List (Event T) → Bool
  cancelled n log = list_any (is_cancel n) log

  -- a take is followed neither by a return nor by a drop
  abbrev pub held : ℕ → List (Event T) → Bool
  held n log = unfollowed (is_take n) (is_end n) log

  -- a wake is followed by no take
  abbrev pub woken : ℕ → List (Event T) → Bool
  woken n log = unfollowed (is_wake n) (is_take n) log

  -- it was never taken, or a wake or a cancel is followed by no take
  abbrev pub due : ℕ → List (Event T) → Bool
  due n log = not (list_any (is_take n) log) || woken n log || unfollowed (is_cancel n) (is_take n) log

  -- a poll or a drop is owed to it
  abbrev pub owed : ℕ → List (Event T) → Bool
  owed n log = spawned n log && not (dropped n log) && not (held n log) && due n log

  abbrev pub idle : ℕ → List (Event T) → Bool
  idle n log = spawned n log && not (dropped n log) && not (held n log) && not (owed n log)

  -- what its handle takes for finished: its future was dropped, or is to be
  abbrev pub handle_finished : ℕ → List (Event T) → Bool
  handle_finished n log = dropped n log || cancelled n log

  abbrev pub polls : ℕ → List (Event T) → ℕ
  polls n log = count_by (is_poll n) log

  abbrev pub wakes : ℕ → List (Event T) → ℕ
  wakes n log = count_by (is_wake n) log

  -- every future that was spawned was dropped
  abbrev pub EachDropped : List (Event T) → Type 0
  EachDropped log = (n : ℕ) → spawned n log ≡ true → dropped n log ≡ true
