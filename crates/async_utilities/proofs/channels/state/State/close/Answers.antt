use Rattle.async_utilities.proofs.channels.state.State.close.Goals as goal

pub returns : goal.returns
returns g c = (cc, cc, cc, cc, cc, cc, cc, cc, (cc, cc))
