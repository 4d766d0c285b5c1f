use Rattle.async_utilities.proofs.channels.receiver.wake_after_receive.Goals as goal

pub returns : goal.returns
returns g c = cc
