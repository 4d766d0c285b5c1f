-- Those who wait in rounds.
use Rattle.std.specs.Prelude.{ℕ, ◌≡◌, ◌==◌, ◌++◌, ◌∷◌, List, [], Bool, true, false, not, Option, None, Some}
use Rattle.async_utilities.specs.WaitQueue.{Moves, Steps, Waiters, due_to, first_waker, place_at, waker_of}
use Rattle.async_utilities.specs.declared.due.Due.{Due}
use Rattle.async_utilities.specs.declared.due.Due.TheVariants.{Nobody, One}
use Rattle.async_utilities.specs.declared.wait_queue.Place.TheVariants.{Waiting}
use Rattle.async_utilities.specs.declared.wait_queue.rounds.Entry.{Entry}
use Rattle.async_utilities.specs.declared.wait_queue.rounds.Rounds.{Rounds}
use Rattle.async_utilities.specs.declared.wait_queue.rounds.Told.{Told}
use Rattle.async_utilities.specs.declared.wait_queue.rounds.Told.TheVariants as tells

module _ {W : Type 0} where
  -- the waker of one that came, if it was polled
  abbrev pub waker_in_entry : Option (Entry W) → Option W
  waker_in_entry None = None
  waker_in_entry (Some entry) = entry.waker

  -- whether one came in another round than this
  abbrev pub is_earlier : Option (Entry W) → ℕ → Bool
  is_earlier None round = false
  is_earlier (Some entry) round = not (entry.round == round)

  -- whom to wake of these, the first of whom is told
  abbrev pub due_first : Waiters (Entry W) → Due W
  due_first s = due_to (waker_in_entry (first_waker s))

  -- the first one is told, if it came in an earlier round
  abbrev pub Tells : Rounds W → Told W → Rounds W → Type 0
  Tells old tells.Nobody new = (is_earlier (first_waker old.waiters) old.round ≡ false) × (new.waiters ≡ old.waiters)
  Tells old (tells.One due) new =
      (is_earlier (first_waker old.waiters) old.round ≡ true) × (due ≡ due_first old.waiters)
      × Steps old.waiters new.waiters old.waiters.waiting

  -- one waits at this place from now on that came in this round, with this waker, and so do these
  abbrev pub IsAt : Waiters (Entry W) → Waiters (Entry W) → ℕ → ℕ → Option W → List ℕ → Type 0
  IsAt old new place round waker waiting =
      Moves old new place (Some (Waiting (record { round = round; waker = waker }))) waiting

  -- one comes in the round under way, behind all others, maybe with a waker
  abbrev pub Comes : Rounds W → Option W → ℕ → Rounds W → Type 0
  Comes old waker place new =
      (place_at old.waiters place ≡ None) × (new.round ≡ old.round)
      × IsAt old.waiters new.waiters place old.round waker (old.waiters.waiting ++ place ∷ [])

  -- a waker is left for this one, whose turn and whose round stay, if it waits
  abbrev pub LeavesFor : Option (Entry W) → Rounds W → ℕ → W → Option W → Rounds W → Type 0
  LeavesFor None old place waker unused new = (new ≡ old) × (unused ≡ Some waker)
  LeavesFor (Some entry) old place waker unused new =
      (new.round ≡ old.round) × (unused ≡ entry.waker)
      × IsAt old.waiters new.waiters place entry.round (Some waker) old.waiters.waiting

  -- a waker is left at a place, and what is not kept comes out
  abbrev pub WaitsOn : Rounds W → ℕ → W → Option W → Rounds W → Type 0
  WaitsOn old place waker unused new =
      LeavesFor (waker_of (place_at old.waiters place)) old place waker unused new
