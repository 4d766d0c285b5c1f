use Rattle.std.proofs.Common.{rules}
use Rattle.async_utilities.proofs.spawning.servers.Goals as goal

pub loop-made-init : goal.loop-made-init
loop-made-init g c = search rules
