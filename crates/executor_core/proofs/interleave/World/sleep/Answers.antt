use Rattle.executor_core.proofs.World.TickerSteps.{awake_now}
use Rattle.executor_core.proofs.interleave.World.sleep.Goals as goal

pub insert-requires : goal.insert-requires
insert-requires g c = record { room = c.requires.room; enabled = c.requires.enabled; awake = awake_now c.self.inside c.self.view_is c.args.k c.ticker_at.ensures c.is_awake.ensures c.if-is_awake.true }

pub update-requires : goal.update-requires
update-requires g c = record { room = c.requires.room; enabled = c.requires.enabled; asleep = awake_now c.self.inside c.self.view_is c.args.k c.ticker_at.ensures c.is_awake.ensures c.if-is_awake.false }

pub returns-then-is_awake : goal.returns-then-is_awake
returns-then-is_awake g c = rw (awake_now c.self.inside c.self.view_is c.args.k c.ticker_at.ensures c.is_awake.ensures c.if-is_awake.true) c.insert.ensures

pub returns-else-is_awake : goal.returns-else-is_awake
returns-else-is_awake g c = rw (awake_now c.self.inside c.self.view_is c.args.k c.ticker_at.ensures c.is_awake.ensures c.if-is_awake.false) c.update.ensures
