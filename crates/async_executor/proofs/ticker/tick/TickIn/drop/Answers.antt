use Rattle.async_executor.proofs.ticker.tick.TickIn.drop.Goals as goal

pub depart-requires : goal.depart-requires
depart-requires g c = cc
