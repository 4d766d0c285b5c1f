-- What each call makes of the list of sleepers, and what it answers.
use Rattle.std.specs.Prelude.{ℕ, ◌+◌, ◌-◌, ◌==◌, Bool, true, false, List, [], ◌∷◌, ◌++◌, length, take, slice_get, Option, Some, None, Result, Ok, Err, option_map, unwrap_or, cond}
use Rattle.std.specs.FinSet as set
use Rattle.std.specs.Map.{lookup, remove_entry, set_value}
use Rattle.executor_core.specs.Sleepers.{SleeperList, is_notified, is_notified_number, has_place}
use Rattle.executor_core.specs.declared.task.values.Again.{Again}
use Rattle.executor_core.specs.declared.task.values.Change.{Change}
use Rattle.executor_core.specs.declared.task.values.Notice.{Notice}
use Rattle.executor_core.specs.declared.task.values.Wakeup.{Wakeup}
use Rattle.executor_core.specs.declared.sleepers.list.Removed.{Removed}
use Rattle.executor_core.specs.declared.sleepers.list.Update.{Update}
use Rattle.executor_core.specs.declared.sleepers.list.Update.TheVariants.{Asleep, WasNotified, Unknown}

abbrev pub again : Again
again = record { unspent = tt }

abbrev pub notice : Notice
notice = record { unspent = tt }

module _ {X : Type 0} where
  -- the last item, and what stands before it
  abbrev pub last_of : List X → Option X
  last_of xs = slice_get xs (length xs - 1)

  abbrev pub all_but_last : List X → List X
  all_but_last xs = take (length xs - 1) xs

module _ {W : Type 0} where
  -- nobody sleeps, and no place is reserved
  abbrev pub no_sleepers : SleeperList W
  no_sleepers = record { unnotified = []; used = set.empty; free = []; places = 0; is_open = false }

  -- the flag was stored
  abbrev pub closed : SleeperList W → SleeperList W
  closed s = record s { is_open = false }

  -- what a change leaves to be stored, as of the list after it
  abbrev pub change_of : {X : Type 0} → SleeperList W → X → Change X
  change_of s x = record { notified = is_notified s; carried = x }

  -- the waker of a number that stands in the list
  abbrev pub waker_of : SleeperList W → ℕ → Option W
  waker_of s id = lookup (λ k. k == id) s.unnotified

-- the places
module _ {W : Type 0} where
  abbrev pub after_reserve : SleeperList W → SleeperList W
  after_reserve s = record s { places = s.places + 1 }

  abbrev pub after_release : SleeperList W → SleeperList W
  after_release s = record s { places = cond (has_place s) (s.places - 1) s.places }

-- insert
module _ {W : Type 0} where
  -- the last free number, else one more than are in use
  abbrev pub next_number : SleeperList W → ℕ
  next_number s = unwrap_or (last_of s.free) (set.len s.used + 1)

  abbrev pub inserted : SleeperList W → W → SleeperList W
  inserted s w =
      record s {
        unnotified = s.unnotified ++ (next_number s, w) ∷ [];
        used = set.insert s.used (next_number s);
        free = all_but_last s.free;
        is_open = true;
      }

  abbrev pub after_insert : SleeperList W → W → SleeperList W
  after_insert s w = cond (has_place s) (inserted s w) s

  abbrev pub insert_answer : SleeperList W → W → Result (ℕ × Change Again) W
  insert_answer s w = cond (has_place s) (Ok (next_number s, change_of (inserted s w) again)) (Err w)

-- update
module _ {W : Type 0} where
  -- a notified number stands at the list's end again
  abbrev pub slept_again : SleeperList W → ℕ → W → SleeperList W
  slept_again s id w = record s { unnotified = s.unnotified ++ (id, w) ∷ []; is_open = true }

  -- by the waker that stands in the list, and by whether the number is notified
  abbrev pub update_at : SleeperList W → ℕ → W → Option W → Bool → SleeperList W
  update_at s id w (Some old) notified = record s { unnotified = set_value (λ k. k == id) s.unnotified w }
  update_at s id w None true = slept_again s id w
  update_at s id w None false = s

  abbrev pub after_update : SleeperList W → ℕ → W → SleeperList W
  after_update s id w = update_at s id w (waker_of s id) (is_notified_number s id)

  abbrev pub answer_at : SleeperList W → ℕ → W → Option W → Bool → Update W
  answer_at s id w (Some old) notified = Asleep old
  answer_at s id w None true = WasNotified (change_of (slept_again s id w) again)
  answer_at s id w None false = Unknown w

  abbrev pub update_answer : SleeperList W → ℕ → W → Update W
  update_answer s id w = answer_at s id w (waker_of s id) (is_notified_number s id)

-- remove
module _ {W : Type 0} where
  -- a number in use is the last free one from now on
  abbrev pub after_remove : SleeperList W → ℕ → SleeperList W
  after_remove s id =
      record s {
        unnotified = remove_entry (λ k. k == id) s.unnotified;
        used = set.remove s.used id;
        free = cond (set.contains s.used id) (s.free ++ id ∷ []) s.free;
        is_open = true;
      }

  abbrev pub removed_of : SleeperList W → ℕ → Removed W
  removed_of s id = record { notice = cond (is_notified_number s id) (Some notice) None; waker = waker_of s id }

  abbrev pub remove_answer : SleeperList W → ℕ → Change (Removed W)
  remove_answer s id = change_of (after_remove s id) (removed_of s id)

-- notify
module _ {W : Type 0} where
  -- the list has every number that is in use
  abbrev pub all_unnotified : SleeperList W → Bool
  all_unnotified s = length s.unnotified == set.len s.used

  abbrev pub after_notify : SleeperList W → SleeperList W
  after_notify s = record s { unnotified = cond (all_unnotified s) (all_but_last s.unnotified) s.unnotified }

  abbrev pub notify_answer : SleeperList W → Option (Wakeup W)
  notify_answer s = cond (all_unnotified s) (option_map (λ p. record { waker = p.1 }) (last_of s.unnotified)) None
