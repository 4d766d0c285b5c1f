-- The decision of a run, read off the row of its table: the machine of the runner of this key waits for what is asked, with what
-- is kept.
use Rattle.std.specs.Prelude.{ℕ, cond, Option, Some, None}
use Rattle.executor_core.specs.declared.queue.runner.RunnerKey.{RunnerKey}
use Rattle.executor_core.specs.declared.task.polling.Taken.{Taken}
use Rattle.async_executor.specs.Runs.{RunAsked, AskFirst, AskRegister, AskOwn, AskTick, AskFair, AskUnregister, AskRelease, asked_by, asked_in, runner_of}
use Rattle.async_executor.specs.Runs.Rows.{kept_in}
use Rattle.async_executor.specs.Runs.Table.{Kept, Next, Ask, End, Row, table}
use Rattle.async_executor.specs.Ticks.{Asked, AskNotify, AskRun, AskWake, is_return}
use Rattle.async_executor.specs.Ticks.Decisions.{waiting_for}
use Rattle.async_executor.specs.declared.machine.run_steps.Runner.{Runner}
use Rattle.async_executor.specs.declared.machine.run.RunMachine.{RunMachine}
use Rattle.async_executor.specs.declared.machine.run.RunNext.{RunNext}
use Rattle.async_executor.specs.declared.machine.run.RunNext.TheVariants.{Act, Rest}
use Rattle.async_executor.specs.declared.machine.run.RunReply.{RunReply}
use Rattle.async_executor.specs.declared.machine.run.RunState.{RunState}
use Rattle.async_executor.specs.declared.machine.run.RunState.TheVariants.{Resting, Registering, PollingOwn, Waiting, Sharing, Running, Unregistering, PassingOn, Releasing}
use Rattle.async_executor.specs.declared.machine.run_steps.Stage.{Stage}
use Rattle.async_executor.specs.declared.machine.run_steps.Stage.TheVariants.{New, Joined, Ended}
use Rattle.async_executor.specs.declared.machine.run_steps.Begun.{Begun}
use Rattle.async_executor.specs.declared.machine.run_steps.Begun.TheVariants.{Register, PollOwn}
use Rattle.async_executor.specs.declared.machine.waiting.Spending.{Spending}
use Rattle.async_executor.specs.declared.machine.waiting.Spending.TheVariants.{Exchanging, Notifying, Waking}

abbrev pub runner_for : RunnerKey → Kept → Runner
runner_for key k = record { key = key; count = k.count; found = k.found }

abbrev pub begun_for : Runner → Kept → Begun
begun_for runner k = cond k.registered (PollOwn (record { runner = runner; number = k.tick.number })) (Register (record { runner = runner }))

abbrev pub spending_for : Asked → Spending
spending_for AskNotify = Notifying
spending_for AskWake = Waking
spending_for _ = Exchanging

-- the notice of its queue is spent, if it removes a number later; else it goes a step of a tick, or runs a task
abbrev pub ticking_for : Runner → Asked → Kept → Option ℕ → RunState
ticking_for runner asked k (Some number) = PassingOn (spending_for asked) (record { runner = runner; number = number })
ticking_for runner AskRun k None = Running (record { runner = runner })
ticking_for runner asked k None = Waiting (waiting_for runner asked k.tick)

-- a fair part is taken before a task alone
abbrev pub sharing_for : Runner → Option (Taken (Unit {0})) → RunState
sharing_for runner (Some taken) = Sharing (record { runner = runner; taken = taken })
sharing_for runner None = Running (record { runner = runner })

abbrev pub state_for : Runner → RunAsked → Kept → RunState
state_for runner AskFirst k = Resting (begun_for runner k)
state_for runner AskRegister k = Registering (record { runner = runner })
state_for runner AskOwn k = PollingOwn (record { runner = runner; number = k.tick.number })
state_for runner (AskTick asked) k = ticking_for runner asked k k.later
state_for runner (AskFair asked) k = sharing_for runner k.tick.task
state_for runner AskUnregister k = Unregistering (record { runner = runner; number = k.tick.number })
state_for runner AskRelease k = Releasing (record { runner = runner })

abbrev pub stage_for : Kept → Stage
stage_for k = cond k.registered (Joined k.tick.number) New

module _ {W : Type 0} where
  abbrev pub decision_to : RunnerKey → Next W → Kept → RunNext W
  decision_to key (Ask action) k = Act (record { state = state_for (runner_for key k) (asked_by action) k }) action
  decision_to key (End end) k = Rest (record { runner = runner_for key k; stage = cond (is_return end) Ended (stage_for k) }) end

  -- what comes after a reply is the row's
  abbrev pub decided : RunMachine → RunReply W → RunNext W
  decided machine reply =
      let row : Row W = table (asked_in machine.state) (kept_in machine.state) reply in
      decision_to (runner_of machine).key row.next row.kept
