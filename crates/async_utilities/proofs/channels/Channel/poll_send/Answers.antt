use Rattle.std.proofs.Common.{rules}
use Rattle.async_utilities.proofs.channels.Channel.poll_send.Goals as goal

pub returns-in_default-copy-clause-waits : goal.returns-in_default-copy-clause-waits
returns-in_default-copy-clause-waits g c = search rules
