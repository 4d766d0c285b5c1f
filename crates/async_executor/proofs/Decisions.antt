-- A machine is known by what it asks and keeps.
use Rattle.std.proofs.Common.{◌≡◌, Bool, cond, refl, sym, ap, subst, subst₂, ◌∙◌, arith}
use Rattle.executor_core.specs.declared.queue.runner.RunnerKey.{RunnerKey}
use Rattle.async_executor.specs.Runs.{runner_at, runner_of, is_end}
use Rattle.async_executor.specs.Runs.{asked_in as run_asked_in}
use Rattle.async_executor.specs.Runs as run_asks
use Rattle.async_executor.specs.Runs.Decisions as runs
use Rattle.async_executor.specs.Runs.Rows as rows
use Rattle.async_executor.specs.Runs.Rows.{kept_at}
use Rattle.async_executor.specs.Runs.Rows.{kept_in as run_kept_in}
use Rattle.async_executor.specs.Runs.Table as run_table
use Rattle.async_executor.specs.Ticks.{asked_in, is_return, IsAsked}
use Rattle.async_executor.specs.Ticks.Decisions.{decision_to, state_for}
use Rattle.async_executor.specs.Ticks.Rows.{kept_after, kept_in, next_of}
use Rattle.async_executor.specs.Ticks.Table.{Kept, Next}
use Rattle.async_executor.specs.declared.machine.run.RunNext.{RunNext}
use Rattle.async_executor.specs.declared.machine.run.RunNext.TheVariants as next
use Rattle.async_executor.specs.declared.machine.run.RunState.{RunState}
use Rattle.async_executor.specs.declared.machine.run.RunState.TheVariants as run
use Rattle.async_executor.specs.declared.machine.run_steps.Runner.{Runner}
use Rattle.async_executor.specs.declared.machine.run_steps.Stage.{Stage}
use Rattle.async_executor.specs.declared.machine.run_steps.Stage.TheVariants as stage
use Rattle.async_executor.specs.declared.machine.run_steps.Begun.TheVariants as begun
use Rattle.async_executor.specs.declared.machine.tick.TickNext.{TickNext}
use Rattle.async_executor.specs.declared.machine.tick.TickNext.TheVariants.{Act, Rest}
use Rattle.async_executor.specs.declared.machine.tick.TickState.{TickState}
use Rattle.async_executor.specs.declared.machine.tick.TickState.TheVariants as state
use Rattle.async_executor.specs.declared.machine.waiting.TickEnd.{TickEnd}

tick_known : (s : TickState) → state_for (asked_in s) (kept_in s) ≡ s
tick_known s = grind arith

module _ {W : Type 0} where
  -- so a decision is its row's
  pub tick_decided : (next : TickNext W) (to : Next W) (k : Kept) → IsAsked next → next_of next ≡ to → kept_after next ≡ k → next ≡ decision_to to k
  tick_decided next to k asks is keeps = grind (arith, tick_known)

run_known : (s : RunState) → runs.state_for (runs.runner_for (runner_at s).key (run_kept_in s)) (run_asked_in s) (run_kept_in s) ≡ s
run_known s = grind arith

-- and a rest is known by whether it has ended, and by what it keeps
rest_known : (runner : Runner) (s : Stage) (e : Bool) → is_end s ≡ e → cond e stage.Ended (runs.stage_for (kept_at runner s)) ≡ s
rest_known runner s e is = grind arith

runner_known : (runner : Runner) (s : Stage) → runs.runner_for runner.key (kept_at runner s) ≡ runner
runner_known runner s = grind arith

module _ {W : Type 0} where
  -- the key of the runner
  abbrev pub key_after : RunNext W → RunnerKey
  key_after (next.Act machine action) = (runner_of machine).key
  key_after (next.Rest rest end) = rest.runner.key

  rest_is : {r s : Runner} {at then : Stage} (end : TickEnd) → r ≡ s → at ≡ then → ◌≡◌ {A = RunNext W} (next.Rest (record { runner = r; stage = at }) end) (next.Rest (record { runner = s; stage = then }) end)
  rest_is end same stays = rw (same, stays) refl

  pub run_decided : (to : RunNext W) (key : RunnerKey) (asks : run_table.Next W) (k : run_table.Kept) → run_asks.IsAsked to → rows.next_of to ≡ asks → rows.kept_after to ≡ k → key_after to ≡ key → to ≡ runs.decision_to key asks k
  run_decided (next.Act machine action) key to k asks is keeps same =
      subst (λ to. next.Act machine action ≡ runs.decision_to key to k) is
      (subst₂ (λ k key. next.Act machine action ≡ next.Act (record { state = runs.state_for (runs.runner_for key k) (run_asks.asked_by action) k }) action) keeps same
      (ap (λ s. next.Act (record { state = s }) action) (sym (run_known machine.state) ∙ ap (λ asked. runs.state_for (runs.runner_for (runner_of machine).key (run_kept_in machine.state)) asked (run_kept_in machine.state)) asks)))
  run_decided (next.Rest rest end) key to k ends is keeps same =
      subst (λ to. next.Rest rest end ≡ runs.decision_to key to k) is
      (subst₂ (λ k key. ◌≡◌ {A = RunNext W} (next.Rest rest end) (next.Rest (record { runner = runs.runner_for key k; stage = cond (is_return end) stage.Ended (runs.stage_for k) }) end)) keeps same
      (rest_is end (sym (runner_known rest.runner rest.stage)) (sym (rest_known rest.runner rest.stage _ ends))))
