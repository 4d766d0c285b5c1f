use Rattle.std.proofs.Common.{rules}
use Rattle.async_utilities.proofs.channels.state.State.receive.Goals as goal

pub invariant_of-self-clause-room_is_told : goal.invariant_of-self-clause-room_is_told
invariant_of-self-clause-room_is_told g c = search rules
