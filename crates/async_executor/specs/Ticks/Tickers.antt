-- What a world of tickers sees of a machine: which of its steps comes next, and its number. A step
-- may be that of a run, and then it is seen as the run of that runner.
use Rattle.std.specs.Prelude.{ℕ, Bool, false, Option, cond, is_some}
use Rattle.executor_core.specs.declared.interleave.ticker.Phase.TheVariants as phase
use Rattle.executor_core.specs.declared.interleave.ticker.Ticker.{Ticker}
use Rattle.async_executor.specs.Steps.Tickers.{ticker_at, found_phase, of_announcing, of_departed, of_inserting, of_leaving, of_removing, of_searching, of_storing, of_storing_left, of_storing_removed, of_updating}
use Rattle.async_executor.specs.declared.machine.tick.TickState.{TickState}
use Rattle.async_executor.specs.declared.machine.tick.TickState.TheVariants as state
use Rattle.async_executor.specs.declared.machine.tick.TickMachine.{TickMachine}
use Rattle.async_executor.specs.declared.machine.tick.TickNext.{TickNext}
use Rattle.async_executor.specs.declared.machine.tick.TickNext.TheVariants.{Act, Rest}
use Rattle.async_executor.specs.declared.machine.tick.TickRest.{TickRest}
use Rattle.async_executor.specs.declared.machine.waiting.TickAction.{TickAction}
use Rattle.async_executor.specs.declared.machine.waiting.TickAction.TheVariants.{StoreRemoved}
use Rattle.async_executor.specs.declared.machine.waiting.Waiting.{Waiting}
use Rattle.async_executor.specs.declared.machine.waiting.Waiting.TheVariants.{Searching, Inserting, Updating, Storing, Removing, StoringRemoved, Announcing, Leaving, StoringLeft, PassingOn}

-- the ticker of a step that waits for a reply; after the removal of its number, by whether that was notified
abbrev pub ticker_of_waiting : {A : Type 0} → Option ℕ → Bool → Waiting A → Ticker
ticker_of_waiting runner notified (Searching searching) = of_searching searching runner
ticker_of_waiting runner notified (Inserting inserting) = of_inserting inserting runner
ticker_of_waiting runner notified (Updating updating) = of_updating updating runner
ticker_of_waiting runner notified (Storing storing) = of_storing storing runner
ticker_of_waiting runner notified (Removing removing) = of_removing removing runner
ticker_of_waiting runner notified (StoringRemoved storing) = of_storing_removed storing notified runner
ticker_of_waiting runner notified (Announcing spending announcing) = of_announcing announcing runner
ticker_of_waiting runner notified (Leaving leaving) = of_leaving leaving runner
ticker_of_waiting runner notified (StoringLeft storing) = of_storing_left storing notified runner
ticker_of_waiting runner notified (PassingOn spending departed) = of_departed departed runner

-- the ticker of a machine
abbrev pub ticker_in : Option ℕ → Bool → TickState → Ticker
ticker_in runner notified (state.Resting number) = ticker_at runner phase.Rest number
ticker_in runner notified (state.Waiting waiting) = ticker_of_waiting runner notified waiting
ticker_in runner notified (state.Running departed) = ticker_at runner (found_phase runner) 0

abbrev pub ticker_of : Option ℕ → Bool → TickMachine → Ticker
ticker_of runner notified machine = ticker_in runner notified machine.state

-- the ticker of a tick between its polls
abbrev pub rest_ticker : Option ℕ → TickRest → Ticker
rest_ticker runner rest = ticker_at runner (cond rest.ended phase.Ended phase.Rest) rest.number

module _ {W : Type 0} where
  -- the change that is to be stored says whether the number that was removed was notified
  abbrev pub removed_notified : TickAction W → Bool
  removed_notified (StoreRemoved change) = is_some change.carried.notice
  removed_notified _ = false

  -- the ticker after a decision
  abbrev pub ticker_after : Option ℕ → TickNext W → Ticker
  ticker_after runner (Act machine action) = ticker_of runner (removed_notified action) machine
  ticker_after runner (Rest rest end) = rest_ticker runner rest
