-- What each call under the lock of a channel does.
use Rattle.std.specs.Prelude.{ℕ, ◌≡◌, ◌≤◌, ◌<◌, ◌+◌, ◌-◌, Option, None, Some, Result, Ok, Err, Bool, true, false, IsTrue, List, [], ◌∷◌, ◌++◌, ◌⊎◌, length, take}
use Rattle.std.specs.VecDeque.{deque_capacity}
use Rattle.async_utilities.specs.Channels.{AreGone}
use Rattle.async_utilities.specs.WaitQueue.{Enters, Leaves, Notifies, Stays, Waiters}
use Rattle.async_utilities.specs.declared.channels.state.Batch.{Batch}
use Rattle.async_utilities.specs.declared.channels.state.Closing.{Closing}
use Rattle.async_utilities.specs.declared.due.Due.TheVariants.{Nobody}
use Rattle.async_utilities.specs.declared.due.Left.{Left}
use Rattle.async_utilities.specs.declared.channels.state.State.{State}
use Rattle.async_utilities.specs.declared.channels.state.Sent.{Sent}
use Rattle.async_utilities.specs.declared.channels.state.Sent.TheVariants.{Kept, Full, Closed, Refused}
use Rattle.async_utilities.specs.declared.channels.state.Received.{Received}
use Rattle.async_utilities.specs.declared.channels.state.Received.TheVariants as receives

module _ {T S V : Type 0} where
  -- what a channel is beside its messages and those who wait
  pub record SameEnds (old new : State T S V) : Type 0 where
    pub capacity : new.capacity ≡ old.capacity
    pub closed : new.is_closed ≡ old.is_closed
    pub senders : new.senders.ends ≡ old.senders.ends
    pub receivers : new.receivers.ends ≡ old.receivers.ends

  -- nothing changes
  pub record Same (old new : State T S V) : Type 0 where
    pub messages : new.messages.items ≡ old.messages.items
    pub ends : SameEnds old new
    pub senders : new.senders.waiters ≡ old.senders.waiters
    pub receivers : new.receivers.waiters ≡ old.receivers.waiters

  -- a message is the last one, if the channel is open and has room and memory
  abbrev pub Sends : State T S V → T → Sent T V → State T S V → Type 0
  Sends old message (Closed back) new = (old.is_closed ≡ true) × (back ≡ message) × Same old new
  Sends old message (Full back) new = (old.is_closed ≡ false) × (old.capacity ≤ length old.messages.items) × (back ≡ message) × Same old new
  Sends old message (Refused back) new =
      (old.is_closed ≡ false) × (length old.messages.items < old.capacity) × (deque_capacity old.messages ≤ length old.messages.items) × (back ≡ message) × Same old new
  Sends old message (Kept due) new =
      (old.is_closed ≡ false) × (length old.messages.items < old.capacity)
      × (new.messages.items ≡ old.messages.items ++ message ∷ []) × SameEnds old new × (new.senders.waiters ≡ old.senders.waiters)
      × Notifies old.receivers.waiters (length new.messages.items) due new.receivers.waiters

  -- the first message is taken, if there is one
  abbrev pub Receives : State T S V → Received T S → State T S V → Type 0
  Receives old receives.Empty new = (old.messages.items ≡ []) × (old.is_closed ≡ false) × Same old new
  Receives old receives.Closed new = (old.messages.items ≡ []) × (old.is_closed ≡ true) × Same old new
  Receives old (receives.Message message due) new =
      (old.messages.items ≡ message ∷ new.messages.items) × SameEnds old new × (new.receivers.waiters ≡ old.receivers.waiters)
      × Notifies old.senders.waiters (old.capacity - length new.messages.items) due new.senders.waiters

  -- So many messages are taken at most, the first one first, and stand behind the others, which stay:
  -- all that are there, unless a sender is due.
  pub record ReceivesMany (old : State T S V) (list : List T) (limit : ℕ) (batch : Batch S) (list' : List T) (new : State T S V) : Type 0 where
    pub moved : list' ++ new.messages.items ≡ list ++ old.messages.items
    pub count : length list' ≡ length list + batch.count
    pub front : take (length list) list' ≡ list
    pub most : batch.count ≤ limit
    pub all : batch.due ≡ Nobody → (batch.count ≡ limit) ⊎ (new.messages.items ≡ [])
    pub ends : SameEnds old new
    pub receivers : new.receivers.waiters ≡ old.receivers.waiters

  -- a sender waits, if there is no room
  abbrev pub WaitsToSend : State T S V → Option ℕ → S → Result (ℕ × Option S) S → State T S V → Type 0
  WaitsToSend old place waker (Err back) new =
      (back ≡ waker) × (new.messages.items ≡ old.messages.items) × SameEnds old new × Stays old.senders.waiters new.senders.waiters × (new.receivers.waiters ≡ old.receivers.waiters)
  WaitsToSend old place waker (Ok kept) new =
      (old.is_closed ≡ false) × (old.capacity ≤ length old.messages.items)
      × (new.messages.items ≡ old.messages.items) × SameEnds old new × (new.receivers.waiters ≡ old.receivers.waiters)
      × Enters old.senders.waiters place waker kept new.senders.waiters

  -- a receiver waits, if there is no message
  abbrev pub WaitsToReceive : State T S V → Option ℕ → V → Result (ℕ × Option V) V → State T S V → Type 0
  WaitsToReceive old place waker (Err back) new =
      (back ≡ waker) × (new.messages.items ≡ old.messages.items) × SameEnds old new × Stays old.receivers.waiters new.receivers.waiters × (new.senders.waiters ≡ old.senders.waiters)
  WaitsToReceive old place waker (Ok kept) new =
      (old.is_closed ≡ false) × (old.messages.items ≡ [])
      × (new.messages.items ≡ old.messages.items) × SameEnds old new × (new.senders.waiters ≡ old.senders.waiters)
      × Enters old.receivers.waiters place waker kept new.receivers.waiters

  -- the channel is closed, and all who waited come out
  abbrev pub Closes : State T S V → Option (Closing S V) → State T S V → Type 0
  Closes old None new = (old.is_closed ≡ true) × Same old new
  Closes old (Some closing) new =
      (old.is_closed ≡ false) × (new.is_closed ≡ true) × (new.messages.items ≡ old.messages.items)
      × (new.capacity ≡ old.capacity) × (new.senders.ends ≡ old.senders.ends) × (new.receivers.ends ≡ old.receivers.ends)
      × (closing.senders.waiters ≡ old.senders.waiters) × (closing.receivers.waiters ≡ old.receivers.waiters)
      × AreGone new.senders.waiters new.receivers.waiters

  -- a sender waits no longer
  abbrev pub LeavesSenders : State T S V → Option ℕ → Left S → State T S V → Type 0
  LeavesSenders old place left new =
      (new.messages.items ≡ old.messages.items) × SameEnds old new × (new.receivers.waiters ≡ old.receivers.waiters)
      × Leaves old.senders.waiters place (old.capacity - length old.messages.items) (left.waker, left.due) new.senders.waiters

  -- a receiver waits no longer
  abbrev pub LeavesReceivers : State T S V → Option ℕ → Left V → State T S V → Type 0
  LeavesReceivers old place left new =
      (new.messages.items ≡ old.messages.items) × SameEnds old new × (new.senders.waiters ≡ old.senders.waiters)
      × Leaves old.receivers.waiters place (length old.messages.items) (left.waker, left.due) new.receivers.waiters
