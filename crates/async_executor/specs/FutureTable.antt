use Rattle.std.specs.Prelude.{◌==◌, Bool, true, false, ℕ, Option, Some, None, cond, List, [], ◌∷◌, ◌++◌, slice_set, slice_get, length, nat_lt, vec_len, vec_capacity, ◌<◌}
use Rattle.executor_core.specs.declared.task.cell.TaskId.{TaskId}
use Rattle.async_executor.specs.declared.futures.Kept.{Kept}
use Rattle.async_executor.specs.declared.futures.Kept.TheVariants.{Nothing, Future, Output}
use Rattle.async_executor.specs.declared.futures.Place.{Place}
use Rattle.async_executor.specs.declared.futures.FutureTable.{FutureTable}

module _ {F S T : Type 0} where
  -- what is kept in the place, if it is that of the task of this number
  abbrev pub kept_of : ℕ → Option (Place F S T) → Option (Kept F S T)
  kept_of number (Some place) = cond (place.number == number) (Some place.kept) None
  kept_of number None = None

  -- what is kept of the task
  abbrev pub kept_at : FutureTable F S T → TaskId → Option (Kept F S T)
  kept_at table id = kept_of id.number (slice_get table.places.items id.slot)

  -- the places with this kept at the slot of the task
  abbrev pub with_place : List (Place F S T) → TaskId → Kept F S T → List (Place F S T)
  with_place places id kept = slice_set places id.slot (record { number = id.number; kept = kept })

  -- the same, but the slot may be the next one
  abbrev pub inserted : List (Place F S T) → TaskId → Kept F S T → List (Place F S T)
  inserted places id kept =
      cond (nat_lt id.slot (length places)) (with_place places id kept) (places ++ record { number = id.number; kept = kept } ∷ [])

  -- the task has its place, and nothing is kept there
  abbrev pub is_vacant : Option (Kept F S T) → Bool
  is_vacant (Some Nothing) = true
  is_vacant (Some (Future future share)) = false
  is_vacant (Some (Output output)) = false
  is_vacant None = false

  -- the future that is kept of the task, with its share
  abbrev pub future_in : Option (Kept F S T) → Option (F × S)
  future_in (Some Nothing) = None
  future_in (Some (Future future share)) = Some (future, share)
  future_in (Some (Output output)) = None
  future_in None = None

  -- the output that is kept of the task
  abbrev pub output_in : Option (Kept F S T) → Option T
  output_in (Some Nothing) = None
  output_in (Some (Future future share)) = None
  output_in (Some (Output output)) = Some output
  output_in None = None

  -- a place more needs no memory
  abbrev pub HasRoom : FutureTable F S T → Type 0
  HasRoom table = vec_len table.places < vec_capacity table.places
