-- What each call under the lock of a spawner's jobs does.
use Rattle.std.specs.Prelude.{ℕ, ◌≡◌, ◌≤◌, ◌<◌, ◌+◌, ◌-◌, ◌==◌, ◌&&◌, ◌||◌, Option, None, Some, Result, Ok, Err, Bool, true, false, [], ◌∷◌, ◌++◌, ◌⊎◌, IfOk, OnErr, cond, if◌then◌else◌, length, nat_le, nat_lt}
use Rattle.std.specs.VecDeque.{deque_capacity}
use Rattle.async_utilities.specs.Jobs.{most}
use Rattle.async_utilities.specs.WaitQueue.{Comes, Leaves, Notifies, Stays, WaitsAt, place_at, waker_of}
use Rattle.async_utilities.specs.WaitQueue.{Takes as TakesPlace}
use Rattle.async_utilities.specs.declared.channels.sender.Unsent.{Unsent}
use Rattle.async_utilities.specs.declared.channels.sender.Unsent.TheVariants.{Full, Closed, Refused}
use Rattle.async_utilities.specs.declared.wait_queue.AllDue.{AllDue}
use Rattle.async_utilities.specs.declared.due.Due.{Due}
use Rattle.async_utilities.specs.declared.due.Left.{Left}
use Rattle.async_utilities.specs.declared.spawning.job_queue.JobQueue.{JobQueue}

-- how much room there is
abbrev pub room_of : Option ℕ → ℕ
room_of None = most
room_of (Some room) = room

-- how many may hand in jobs once a server has one: one that is counted is among them
abbrev pub counting : Bool → ℕ → ℕ
counting counted givers = if counted && nat_lt 0 givers then givers else givers + 1

module _ {J W : Type 0} where
  -- no job is left, and nobody may hand one in but the asker, if it is counted
  abbrev pub is_last : JobQueue J W → Bool → Bool
  is_last s counted = (length s.jobs.items == 0) && nat_le s.givers (cond counted 1 0)

  -- no job is taken any more: no server is left, or all is done
  abbrev pub is_closed : JobQueue J W → Bool
  is_closed s = (s.servers == 0) || is_last s false

  -- what is there beside the jobs, those who may hand in some, and who waits
  pub record SameEnds (old new : JobQueue J W) : Type 0 where
    pub room : new.room ≡ old.room
    pub servers : new.servers ≡ old.servers

  -- nothing changes
  pub record Same (old new : JobQueue J W) : Type 0 where
    pub jobs : new.jobs.items ≡ old.jobs.items
    pub givers : new.givers ≡ old.givers
    pub ends : SameEnds old new
    pub waiters : new.waiters ≡ old.waiters

  -- a job is the last one, if the queue is open and has room and memory
  abbrev pub Gives : JobQueue J W → J → Result (Due W) (Unsent J) → JobQueue J W → Type 0
  Gives old job (Err (Closed back)) new = (is_closed old ≡ true) × (back ≡ job) × Same old new
  Gives old job (Err (Full back)) new = (is_closed old ≡ false) × (old.room ≤ length old.jobs.items) × (back ≡ job) × Same old new
  Gives old job (Err (Refused back)) new =
      (is_closed old ≡ false) × (length old.jobs.items < old.room)
      × ((most ≤ length old.jobs.items + old.givers) ⊎ (deque_capacity old.jobs ≤ length old.jobs.items)) × (back ≡ job) × Same old new
  Gives old job (Ok due) new =
      (is_closed old ≡ false) × (length old.jobs.items < old.room) × (new.jobs.items ≡ old.jobs.items ++ job ∷ []) × (new.givers ≡ old.givers) × SameEnds old new
      × Notifies old.waiters (length new.jobs.items) due new.waiters

  -- the first job is taken, if there is one, and its server is counted and comes
  abbrev pub Takes : JobQueue J W → Bool → ℕ → Option (J × Option W) → JobQueue J W → Type 0
  Takes old counted place None new = (old.jobs.items ≡ []) × Same old new
  Takes old counted place (Some taken) new =
      (old.jobs.items ≡ taken.0 ∷ new.jobs.items) × (new.givers ≡ counting counted old.givers) × SameEnds old new
      × (taken.1 ≡ waker_of (place_at old.waiters place)) × Comes old.waiters place new.waiters

  -- a server waits with this waker, and is counted no longer
  abbrev pub Rests : JobQueue J W → Bool → ℕ → W → Option W → JobQueue J W → Type 0
  Rests old counted place waker unused new =
      (new.jobs.items ≡ old.jobs.items) × (new.givers + cond counted 1 0 ≡ old.givers) × SameEnds old new
      × WaitsAt old.waiters place waker unused new.waiters

  -- a place is taken for a server
  abbrev pub Joins : {E : Type 0} → JobQueue J W → Result ℕ E → JobQueue J W → Type 0
  Joins old answer new =
      (new.jobs.items ≡ old.jobs.items) × (new.givers ≡ old.givers) × SameEnds old new
      × IfOk answer (λ place. TakesPlace old.waiters place new.waiters) × OnErr answer (Stays old.waiters new.waiters)

  -- one server less is there, which gives its place back
  abbrev pub Parts : JobQueue J W → ℕ → Left W → JobQueue J W → Type 0
  Parts old place left new =
      (new.servers ≡ old.servers - 1) × (new.room ≡ old.room) × (new.jobs.items ≡ old.jobs.items) × (new.givers ≡ old.givers)
      × Leaves old.waiters (Some place) (length old.jobs.items) (left.waker, left.due) new.waiters

  -- all is done, and all who waited come out
  abbrev pub Ends : JobQueue J W → AllDue W → JobQueue J W → Type 0
  Ends old all new =
      (new.jobs.items ≡ old.jobs.items) × (new.givers ≡ 0) × SameEnds old new
      × (all.waiters ≡ old.waiters) × (new.waiters.waiting ≡ [])

  -- one that was counted is so no longer, and if it was the last one, all is done
  abbrev pub EndsOne : JobQueue J W → Option (AllDue W) → JobQueue J W → Type 0
  EndsOne old None new =
      (is_last old true ≡ false) × (new.jobs.items ≡ old.jobs.items) × (new.givers ≡ old.givers - 1) × SameEnds old new
      × (new.waiters ≡ old.waiters)
  EndsOne old (Some all) new = (is_last old true ≡ true) × Ends old all new
