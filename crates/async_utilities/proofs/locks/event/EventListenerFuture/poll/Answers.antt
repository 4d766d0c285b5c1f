use Rattle.async_utilities.proofs.locks.event.EventListenerFuture.poll.Goals as goal

pub returns-then-hear-clause-heard : goal.returns-then-hear-clause-heard
returns-then-hear-clause-heard g c = cc
