-- What sets a signal.
use Rattle.async_utilities.specs.WaitQueue.{Takes, WaitsAt}
use Rattle.std.specs.Prelude.{◌≡◌, ℕ, Option, None, Some, true, false, []}
use Rattle.async_utilities.specs.declared.wait_queue.AllDue.{AllDue}
use Rattle.async_utilities.specs.declared.signals.State.{State}

-- one takes a place, if the signal is not set
abbrev pub Joins : {W : Type 0} → State W → ℕ → State W → Type 0
Joins old place new = old.is_set ≡ false → Takes old.waiters place new.waiters

-- one waits with this waker at its place, if the signal is not set, and what is not kept comes out
abbrev pub Waits : {W : Type 0} → State W → ℕ → W → Option W → State W → Type 0
Waits old place waker unused new =
    (new.is_set ≡ old.is_set)
    × (old.is_set ≡ false → WaitsAt old.waiters place waker unused new.waiters)
    × (old.is_set ≡ true → (new.waiters ≡ old.waiters) × (unused ≡ Some waker))

-- the signal is set, and all who waited come out, unless it was set before
abbrev pub Sets : {W : Type 0} → State W → Option (AllDue W) → State W → Type 0
Sets old None new = (old.is_set ≡ true) × (new.is_set ≡ true) × (new.waiters ≡ old.waiters)
Sets old (Some all) new = (old.is_set ≡ false) × (new.is_set ≡ true) × (all.waiters ≡ old.waiters) × (new.waiters.waiting ≡ [])
