use Rattle.async_utilities.proofs.channels.sender.wake_after_send.Goals as goal

pub returns : goal.returns
returns g c = cc
