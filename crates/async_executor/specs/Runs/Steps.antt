-- Which steps of a run a reply stands for.
use Rattle.std.specs.Prelude.{Bool, true}
use Rattle.executor_core.specs.World.Phases.{at_rest, in_leaving}
use Rattle.executor_core.specs.declared.interleave.ticker.Ticker.{Ticker}
use Rattle.async_executor.specs.Runs.{asked_in}
use Rattle.async_executor.specs.Runs.Rows.{kept_in}
use Rattle.async_executor.specs.Runs.Table.{table}
use Rattle.async_executor.specs.Ticks.Steps as ticks
use Rattle.async_executor.specs.declared.machine.run.RunMachine.{RunMachine}
use Rattle.async_executor.specs.declared.machine.run.RunReply.{RunReply}
use Rattle.async_executor.specs.declared.machine.run.RunReply.TheVariants.{Begin, Dropped, Registered, NotRegistered, OwnPending, OwnReady, Tick, Moved, Unregistered, Released}
use Rattle.async_executor.specs.declared.machine.run.RunState.{RunState}
use Rattle.async_executor.specs.declared.machine.run.RunState.TheVariants as state
use Rattle.async_executor.specs.declared.machine.waiting.TickReply.{TickReply}

module _ {W : Type 0} where
  -- what the steps make of the run is the table's; those that register it and take its fair part change nothing of it
  abbrev pub leads : RunMachine → RunReply W → Ticker → Ticker
  leads machine reply = (table (asked_in machine.state) (kept_in machine.state) reply).step

  -- the run is where these steps are enabled, but for who holds the sleepers' lock
  abbrev pub may_tick : RunState → TickReply W → Ticker → Bool
  may_tick (state.Waiting waiting) reply t = ticks.may_lead_from waiting reply t
  may_tick (state.Running under_way) reply t = at_rest t.phase
  may_tick (state.PassingOn spending left) reply t = in_leaving t.phase
  may_tick _ reply t = true

  abbrev pub may_lead : RunMachine → RunReply W → Ticker → Bool
  may_lead machine Begin t = true
  may_lead machine Dropped t = true
  may_lead machine Registered t = at_rest t.phase
  may_lead machine NotRegistered t = true
  may_lead machine OwnPending t = at_rest t.phase
  may_lead machine OwnReady t = true
  may_lead machine (Tick reply) t = may_tick machine.state reply t
  may_lead machine Moved t = at_rest t.phase
  may_lead machine (Unregistered notice) t = at_rest t.phase
  may_lead machine Released t = at_rest t.phase
