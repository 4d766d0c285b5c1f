-- Messages that were not sent.
use Rattle.async_utilities.specs.declared.channels.sender.Unsent.{Unsent}
use Rattle.async_utilities.specs.declared.channels.sender.Unsent.TheVariants.{Full, Closed, Refused}

-- the message that was not sent
abbrev pub unsent : {T : Type 0} → Unsent T → T
unsent (Full message) = message
unsent (Closed message) = message
unsent (Refused message) = message
