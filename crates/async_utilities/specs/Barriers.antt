-- What each call under the lock of a barrier does.
use Rattle.std.specs.Prelude.{ℕ, ◌≡◌, ◌<◌, ◌+◌, ◌-◌, ◌==◌, ◌%◌, ◌^◌, Bool, true, false, Option, None, Some, Result, Ok, Err, if◌then◌else◌, is_none, IsSome}
use Rattle.async_utilities.specs.Links.{without}
use Rattle.async_utilities.specs.Polls.{IfReady}
use Rattle.async_utilities.specs.Rounds.{Comes, WaitsOn, waker_in_entry}
use Rattle.async_utilities.specs.WaitQueue.{Moves, Stays, place_at, waker_of}
use Rattle.async_utilities.specs.declared.locks.barrier.BarrierWaitResult.{BarrierWaitResult}
use Rattle.async_utilities.specs.declared.locks.barrier.state.Arrival.{Arrival}
use Rattle.async_utilities.specs.declared.locks.barrier.state.State.{State}
use Rattle.executor_core.specs.declared.task.future.Poll.{Poll}
use Rattle.executor_core.specs.declared.task.future.Poll.TheVariants.{Ready}

module _ {W : Type 0} where
  -- the round ends, if one more is its last
  abbrev pub Completes : State W → Bool → State W → Type 0
  Completes old false new = (old.come + 1 < old.size) × (new ≡ old)
  Completes old true new =
      (old.come + 1 ≡ old.size) × (new.come ≡ 0) × (new.size ≡ old.size)
      × (new.waiters.round ≡ (old.waiters.round + 1) % 2 ^ 64) × (new.waiters.waiters ≡ old.waiters.waiters)

  -- one comes that is not the last of its round, and waits
  abbrev pub Arrives : State W → W → Result Arrival W → State W → Type 0
  Arrives old waker (Err back) new =
      (back ≡ waker) × (new.come ≡ old.come) × (new.size ≡ old.size)
      × (new.waiters.round ≡ old.waiters.round) × Stays old.waiters.waiters new.waiters.waiters
  Arrives old waker (Ok arrival) new =
      (old.come + 1 < old.size) × (new.come ≡ old.come + 1) × (new.size ≡ old.size)
      × (arrival.round ≡ old.waiters.round) × Comes old.waiters (Some waker) arrival.place new.waiters

  -- one that came waits on
  abbrev pub WaitsStill : State W → ℕ → W → Option W → State W → Type 0
  WaitsStill old place waker unused new =
      (new.come ≡ old.come) × (new.size ≡ old.size) × WaitsOn old.waiters place waker unused new.waiters

  -- one gives its place back, and has not come if its round is under way
  abbrev pub Goes : State W → Arrival → Option W → State W → Type 0
  Goes old arrival waker new =
      (new.come ≡ (if old.waiters.round == arrival.round then old.come - 1 else old.come)) × (new.size ≡ old.size)
      × (new.waiters.round ≡ old.waiters.round)
      × (waker ≡ waker_in_entry (waker_of (place_at old.waiters.waiters arrival.place)))
      × Moves old.waiters.waiters new.waiters.waiters arrival.place None (without arrival.place old.waiters.waiters.waiting)

-- one that came has its place as before
abbrev pub KeepsPlace : Option Arrival → Option Arrival → Type 0
KeepsPlace old new = IsSome old → new ≡ old

-- one that was answered is so again, and else the last that came is the leader
abbrev pub Answers : Option BarrierWaitResult → Option Arrival → Poll BarrierWaitResult → Type 0
Answers (Some answer) arrival polled = polled ≡ Ready answer
Answers None arrival polled = IfReady polled (λ answer. answer.is_leader ≡ is_none arrival)
