-- The deadlines of a timer: a map in order of time, with the waker that was left at each.
use Rattle.std.specs.Prelude.{◌≡◌, ◌≤◌, ℕ, Bool, true, false, Option, Some, None, List, [], ◌∷◌, nat_lt, nat_le, if◌then◌else◌, All, IfSome, ◌<◌, drop, slice_get}
use Rattle.std.specs.Ordering.{nat_cmp, ordering_then}
use Rattle.std.specs.BTreeMap.{BTreeMap, Updates, get, keys}
use Rattle.std.specs.declared.cmp.Ordering.{Ordering}
use Rattle.async_utilities.specs.Times.{time_of}
use Rattle.async_utilities.specs.declared.due.Due.TheVariants.{One}
use Rattle.async_utilities.specs.declared.timers.deadlines.Deadline.{Deadline}
use Rattle.async_utilities.specs.declared.timers.deadlines.Fired.{Fired}
use Rattle.async_utilities.specs.declared.timers.deadlines.Fired.TheVariants as fires
use Rattle.async_utilities.specs.declared.timers.deadlines.News.{News}
use Rattle.async_utilities.specs.declared.timers.deadlines.News.TheVariants.{Nearer, NoNearer}
use Rattle.async_utilities.specs.declared.timers.reading.Reading.{Reading}

-- the earlier one first, and of two at one time the one with the lower number
abbrev pub by_time : Deadline → Deadline → Ordering
by_time one other = ordering_then (nat_cmp one.nanos other.nanos) (nat_cmp one.number other.number)

abbrev pub news_of : Bool → News
news_of true = Nearer
news_of false = NoNearer

module _ {W : Type 0} where
  -- no deadline has this number or a higher one
  abbrev pub IsFresh : BTreeMap Deadline W → ℕ → Type 0
  IsFresh waiting number = (deadline : Deadline) → number ≤ deadline.number → get by_time waiting deadline ≡ None

  -- whether a time is before each of these
  abbrev pub is_nearer : ℕ → List (Deadline × W) → Bool
  is_nearer nanos [] = true
  is_nearer nanos (first ∷ others) = nat_lt nanos first.0.nanos

  -- what comes of the first of these at this time
  abbrev pub fired : ℕ → List (Deadline × W) → Fired W
  fired now [] = fires.Rest None
  fired now (first ∷ others) = if nat_le first.0.nanos now then fires.One (One first.1) else fires.Rest (Some first.0.nanos)

  abbrev pub is_fired : Fired W → Bool
  is_fired (fires.One due) = true
  is_fired (fires.Rest next) = false

  -- what is left of these
  abbrev pub left_by : Fired W → List (Deadline × W) → List (Deadline × W)
  left_by (fires.One due) entries = drop 1 entries
  left_by (fires.Rest next) entries = entries

  -- this waker is at the deadline from now on, and all else is as it was
  abbrev pub IsLeft : BTreeMap Deadline W → BTreeMap Deadline W → Deadline → W → Type 0
  IsLeft old new deadline waker = Updates by_time old new deadline (Some waker)

  -- none comes before the first one
  abbrev pub IsFirst : BTreeMap Deadline W → Type 0
  IsFirst waiting =
      IfSome (slice_get waiting.entries 0) (λ first. All (λ deadline. first.0.nanos ≤ deadline.nanos) (keys waiting))

  -- each is after this time
  abbrev pub AreAfter : Reading → BTreeMap Deadline W → Type 0
  AreAfter now waiting = All (λ deadline. time_of now < deadline.nanos) (keys waiting)
