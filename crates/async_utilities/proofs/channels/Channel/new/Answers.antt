use Rattle.std.proofs.Common.{refl}
use Rattle.async_utilities.proofs.channels.Channel.new.Goals as goal

pub returns : goal.returns
returns g c = refl
