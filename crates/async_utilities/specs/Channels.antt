-- Both sides of a channel.
use Rattle.std.specs.Prelude.{◌≡◌, []}
use Rattle.async_utilities.specs.WaitQueue.{Waiters}

-- nobody waits at either side
abbrev pub AreGone : {S V : Type 0} → Waiters S → Waiters V → Type 0
AreGone senders receivers = (senders.waiting ≡ []) × (receivers.waiting ≡ [])
