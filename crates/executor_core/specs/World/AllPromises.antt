-- What holds of every world.
use Rattle.std.specs.Prelude.{◌≡◌, true}
use Rattle.executor_core.specs.World.{Execution}
use Rattle.executor_core.specs.World.Closing.{Closing}
use Rattle.executor_core.specs.World.Promises.{OnePlace, InOrder, FewPolls, NoNoticeLost, TickersTied, all_queues}

module _ {T : Type 0} where
  pub record KeepsPromises (w : Execution T) : Type 0 where
    pub one_place : OnePlace w.log (all_queues w)
    pub in_order : InOrder w.log
    pub few_polls : FewPolls w.log
    pub no_notice_lost : NoNoticeLost w
    pub tickers : TickersTied w.tickers w.holder w.sleepers
    pub closing : w.closed ≡ true → Closing w
