use Rattle.async_utilities.proofs.channels.side.Side.take_all.Goals as goal

pub returns-clause-all : goal.returns-clause-all
returns-clause-all g c = cc
