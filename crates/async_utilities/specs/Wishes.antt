-- Those who wait for permits, each for as many as it wants.
use Rattle.std.specs.Prelude.{ℕ, ◌≡◌, ◌≤◌, ◌<◌, ◌+◌, Option, None, Some, min}
use Rattle.async_utilities.specs.WaitQueue.{Steps, Waiters, first_waker}
use Rattle.async_utilities.specs.declared.due.Due.TheVariants.{Nobody, One}
use Rattle.async_utilities.specs.declared.locks.semaphore.given.Given.{Given}
use Rattle.async_utilities.specs.declared.locks.semaphore.wish.Wish.{Wish}

-- the permits that are there once so many are given
abbrev pub with_more : ℕ → ℕ → ℕ
with_more permits more = min (permits + more) 18446744073709551615

module _ {W : Type 0} where
  -- if somebody waits, there are fewer permits than the first one wants
  abbrev pub IsShort : ℕ → Waiters (Wish W) → Type 0
  IsShort permits s = (wish : Wish W) → first_waker s ≡ Some wish → permits < wish.permits

  abbrev pub waker_in_wish : Option (Wish W) → Option W
  waker_in_wish None = None
  waker_in_wish (Some wish) = Some wish.waker

  abbrev pub wanted_by : Option (Wish W) → ℕ
  wanted_by None = 0
  wanted_by (Some wish) = wish.permits

  -- so many permits are there and so many wait, and nobody is due
  abbrev pub GivesNobody : ℕ → Waiters (Wish W) → Given W → ℕ → Waiters (Wish W) → Type 0
  GivesNobody there old given permits new = (permits ≡ there) × (new ≡ old) × (given.due ≡ Nobody) × (given.left ≡ 0)

  -- of so many permits the first one has its share, if they are enough for it
  abbrev pub GivesTo : Option (Wish W) → ℕ → Waiters (Wish W) → Given W → ℕ → Waiters (Wish W) → Type 0
  GivesTo None there old given permits new = GivesNobody there old given permits new
  GivesTo (Some wish) there old given permits new =
      (there < wish.permits → GivesNobody there old given permits new)
      × (wish.permits ≤ there
      → (permits ≡ 0) × Steps old new old.waiting × (given.due ≡ One wish.waker) × (given.left + wish.permits ≡ there))

  abbrev pub Gives : ℕ → Waiters (Wish W) → Given W → ℕ → Waiters (Wish W) → Type 0
  Gives there old given permits new = GivesTo (first_waker old) there old given permits new

  -- beside those that are there so many more are given
  abbrev pub GivesAlso : ℕ → ℕ → Waiters (Wish W) → Given W → ℕ → Waiters (Wish W) → Type 0
  GivesAlso there more old given permits new = Gives (with_more there more) old given permits new
