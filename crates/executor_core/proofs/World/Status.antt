-- What one more event makes of a status.
use Rattle.std.specs.Prelude.{ℕ, ◌+◌, List, [], ◌∷◌, ◌++◌, Option, Some, None, cond, ◌&&◌, ◌||◌, not}
use Rattle.executor_core.specs.World.Log.{is_spawn, is_wake, is_cancel, is_take, is_poll, is_drop, is_end, output_in, given_in}
use Rattle.executor_core.specs.World.Agreement.{Status}
use Rattle.executor_core.specs.declared.interleave.event.Event.{Event}
use Rattle.executor_core.specs.declared.interleave.event.Event.TheVariants.{Spawned, Woken, Cancelled, Took, Returned, Finished, Dropped, Got}

-- the list with one more item, if there is one
abbrev pub with_some : {X : Type 0} → Option X → List X → List X
with_some None xs = xs
with_some (Some x) xs = xs ++ x ∷ []

module _ {T : Type 0} where
  abbrev pub with_event : ℕ → Event T → Status T → Status T
  with_event n e s =
      record {
        spawned = is_spawn n e || s.spawned;
        dropped = is_drop n e || s.dropped;
        cancelled = is_cancel n e || s.cancelled;
        taken = is_take n e || s.taken;
        held = is_take n e || (not (is_end n e) && s.held);
        woken = is_wake n e || (not (is_take n e) && s.woken);
        cancelled_since = is_cancel n e || (not (is_take n e) && s.cancelled_since);
        outputs = with_some (output_in n e) s.outputs;
        given = with_some (given_in n e) s.given;
        polls = cond (is_poll n e) (1 + s.polls) s.polls;
        wakes = cond (is_wake n e) (1 + s.wakes) s.wakes;
      }

  abbrev pub task_of : Event T → ℕ
  task_of (Spawned m) = m
  task_of (Woken m) = m
  task_of (Cancelled m) = m
  task_of (Took m purpose) = m
  task_of (Returned m) = m
  task_of (Finished m t) = m
  task_of (Dropped m) = m
  task_of (Got m t) = m
