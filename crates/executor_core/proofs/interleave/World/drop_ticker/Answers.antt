use Rattle.std.proofs.lemmas.Bool.{and_parts}
use Rattle.executor_core.proofs.World.TickerSteps.{awake_now, may_drop_asleep}
use Rattle.executor_core.proofs.interleave.World.drop_ticker.Goals as goal

pub drop_awake-requires : goal.drop_awake-requires
drop_awake-requires g c = record { room = c.requires.room; enabled = (and_parts _ _ c.requires.enabled).0; awake = awake_now c.self.inside c.self.view_is c.args.k c.ticker_at.ensures c.is_awake.ensures c.if-is_awake.true }

pub drop_asleep-requires : goal.drop_asleep-requires
drop_asleep-requires g c =
    let asleep = awake_now c.self.inside c.self.view_is c.args.k c.ticker_at.ensures c.is_awake.ensures c.if-is_awake.false in
    record { room = c.requires.room; enabled = may_drop_asleep _ _ _ asleep c.requires.enabled; asleep = asleep }
