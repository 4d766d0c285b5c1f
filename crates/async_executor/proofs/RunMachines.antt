-- What the machine of a run makes of what comes of a reply to a step.
use Rattle.std.proofs.Common.{◌≡◌, ℕ, ◌+◌, ◌<◌, Bool, false, cond, Option, Some, None, refl, sym, ap, subst, ◌∙◌, arith}
use Rattle.std.proofs.lemmas.Bool.{cases_Bool, eqb-true, eq-eqb, ne_eqb, cond-false}
use Rattle.std.specs.Prelude.{◌==◌}
use Rattle.executor_core.specs.declared.interleave.ticker.Ticker.{Ticker}
use Rattle.executor_core.specs.World.Tickers.{left}
use Rattle.async_executor.specs.Ticks.{Asked, asked_of, asked_of_spending}
use Rattle.async_executor.specs.Ticks.Table as tick
use Rattle.async_executor.specs.Ticks.Replies as replies
use Rattle.async_executor.specs.Ticks.Replies.{actor_of, actor_after, is_ran, is_seeking, runs, KeepsCourse, RunsNone, Waits}
use Rattle.async_executor.specs.Ticks.Rows.{kept_of, kept_by, next_to, IsOver, IsRowOf, IsSpent}
use Rattle.async_executor.specs.Runs.{RunAsked, AskTick, runner_of, store_asked, IsAsked}
use Rattle.async_executor.specs.Runs.Decisions.{decided, decision_to}
use Rattle.async_executor.specs.Runs.Fairs.{HasFound, FindsIn}
use Rattle.async_executor.specs.Runs.Replies.{decision, leaves}
use Rattle.async_executor.specs.Runs.Rows.{keeps, kept_in, kept_after, next_of, IsRow}
use Rattle.async_executor.specs.Runs.Table.{Kept, Row, Ask, row, go_on, leave, of_row, table}
use Rattle.async_executor.specs.Runs.Tickers.{runner_in, ticker_after}
use Rattle.async_executor.specs.Runs.Turns.{runs_in, TurnFrom}
use Rattle.async_executor.specs.declared.machine.run.RunAction.TheVariants as asks
use Rattle.async_executor.specs.declared.machine.run.RunMachine.{RunMachine}
use Rattle.async_executor.specs.declared.machine.run.RunNext.{RunNext}
use Rattle.async_executor.specs.declared.machine.run.RunNext.TheVariants as next
use Rattle.async_executor.specs.declared.machine.run.RunReply.TheVariants.{Tick}
use Rattle.async_executor.specs.declared.machine.run.RunState.TheVariants as state
use Rattle.async_executor.specs.declared.machine.run_steps.Runner.{Runner}
use Rattle.async_executor.specs.declared.machine.run_steps.Left.{Left}
use Rattle.async_executor.specs.declared.machine.waiting.Came.{Came}
use Rattle.async_executor.specs.declared.machine.waiting.Came.TheVariants.{Act, End}
use Rattle.async_executor.specs.declared.machine.waiting.Spending.{Spending}
use Rattle.async_executor.specs.declared.machine.waiting.TickAction.{TickAction}
use Rattle.async_executor.specs.declared.machine.waiting.TickAction.TheVariants as action
use Rattle.async_executor.specs.declared.machine.waiting.TickEnd.TheVariants.{Return}
use Rattle.async_executor.specs.declared.machine.waiting.TickReply.{TickReply}
use Rattle.async_executor.specs.declared.machine.waiting.Waiting.{Waiting}
use Rattle.async_executor.proofs.Decisions.{key_after}
use Rattle.async_executor.proofs.Fairs.{counts_more, counts_anew}

-- a turn in which no task is under way is kept as it is
resting_count : (turn count : ℕ) → count < turn → count ≡ cond (count + 0 == turn) 0 (count + 0)
resting_count turn count within = grind (arith, cond-false, ne_eqb)

module _ {W : Type 0} where
  -- a row, and what its step makes of this ticker
  abbrev pub IsRowAt : RunAsked → Ticker → Row W → RunNext W → Type 0
  IsRowAt asked t r next = (asked ≡ r.answers) × (next_of next ≡ r.next) × (kept_after next ≡ r.kept) × (ticker_after next ≡ r.step t)

  abbrev IsRowTo : RunAsked → TickAction W → Kept → Row W → Type 0
  IsRowTo asked action k r = (asked ≡ r.answers) × (Ask (asks.Tick action) ≡ r.next) × (k ≡ r.kept)

  -- an action that runs no task
  go_on_act : (asked : RunAsked) (k : Kept) (action : TickAction W) (kept : tick.Kept) (step : Ticker → Ticker) → runs action ≡ false → go_on asked k (tick.Ask action) kept step ≡ row asked (Ask (asks.Tick action)) (record k { tick = kept }) step
  go_on_act asked k action kept step none = grind arith

  runs_in_none : (action : TickAction W) → runs action ≡ false → runs_in (asks.Tick action) ≡ 0
  runs_in_none action none = grind arith

  finds_none : (fair n : ℕ) (machine : RunMachine) (action : TickAction W) → runs action ≡ false → HasFound fair n (runner_of machine) → FindsIn fair n (next.Act machine (asks.Tick action))
  finds_none fair n machine action none before = grind arith

  -- the row of a run goes on from that of a tick, but after a task
  tick_table : (asked : Asked) (k : Kept) (reply : TickReply W) → is_ran reply ≡ false → table (AskTick asked) k (Tick reply) ≡ of_row k (tick.table asked k.tick reply)
  tick_table asked k reply goes = grind arith

  same_row : (r : tick.Row W) (asked : Asked) (next : tick.Next W) (kept : tick.Kept) → asked ≡ r.answers → next ≡ r.next → kept ≡ r.kept → tick.row asked next kept r.step ≡ r
  same_row r asked next kept p q s = rw (p, q, s) refl

  pub run_asked : (came : Came Runner W) → Waits came → IsAsked (decision came)
  run_asked came is = grind (arith, cases_Bool)

  pub run_store : (came : Came Runner W) → store_asked (decision came) ≡ replies.store_asked came
  run_store came = grind (arith, cases_Bool)

  pub run_key : (came : Came Runner W) → key_after (decision came) ≡ (actor_after came).key
  run_key came = grind (arith, cases_Bool)

  run_seen : (came : Came Runner W) → ticker_after (decision came) ≡ replies.ticker_after (runner_in (actor_after came)) came
  run_seen came = grind (arith, cases_Bool)

  -- what comes of a reply to a step is the run's row over that of a tick
  came_row : (asked : RunAsked) (seeking : Bool) (kept : tick.Kept) (step : Ticker → Ticker) (t : Ticker) (came : Came Runner W) → Waits came → RunsNone came → KeepsCourse seeking came → replies.ticker_after (runner_in (actor_after came)) came ≡ step t → IsRowAt asked t (go_on asked (keeps (actor_after came) seeking None kept) (next_to came) (kept_by came) step) (decision came)
  came_row asked seeking kept step t came is none course seen = grind (arith, go_on_act, run_seen, cases_Bool)

  pub waiting_row : (waiting : Waiting Runner) (reply : TickReply W) (came : Came Runner W) (t : Ticker) → is_ran reply ≡ false → actor_after came ≡ actor_of waiting → Waits came → RunsNone came → KeepsCourse (is_seeking waiting) came → IsRowOf (asked_of waiting) (kept_of waiting) reply came → replies.ticker_after (runner_in (actor_of waiting)) came ≡ (tick.table (asked_of waiting) (kept_of waiting) reply).step t → IsRowAt (AskTick (asked_of waiting)) t (table (AskTick (asked_of waiting)) (kept_in (state.Waiting waiting)) (Tick reply)) (decision came)
  waiting_row waiting reply came t goes actor is none course its_row seen =
      let r = tick.table (asked_of waiting) (kept_of waiting) reply in
      let asked = AskTick (asked_of waiting) in
      subst (λ r. IsRowAt asked t r (decision came)) (sym (tick_table (asked_of waiting) (kept_in (state.Waiting waiting)) reply goes))
      (subst (λ r. IsRowAt asked t (of_row (kept_in (state.Waiting waiting)) r) (decision came)) (same_row r (asked_of waiting) (next_to came) (kept_by came) its_row.0 its_row.1 its_row.2)
      (subst (λ runner. IsRowAt asked t (go_on asked (keeps runner (is_seeking waiting) None (kept_of waiting)) (next_to came) (kept_by came) r.step) (decision came)) actor
      (came_row asked (is_seeking waiting) (kept_of waiting) r.step t came is none course (ap (λ runner. replies.ticker_after (runner_in runner) came) actor ∙ seen))))

  -- how many tasks of its turn are begun
  pub run_turn : (came : Came Runner W) → RunsNone came → (actor_after came).count.counted < (actor_after came).count.limit → TurnFrom (actor_after came).count.limit ((actor_after came).count.counted + 0) (decision came)
  run_turn came none within = grind (arith, runs_in_none, resting_count, cases_Bool)

  -- of the tasks that a run finds, each so many-th makes a fair part due, and no other
  pub run_fair : (n : ℕ) (came : Came Runner W) → RunsNone came → (actor_after came).found.counted < (actor_after came).found.limit → HasFound (actor_after came).found.limit n (actor_after came) → FindsIn (actor_after came).found.limit n (decision came)
  run_fair n came none within before = grind (arith, finds_none, cases_Bool, counts_more, eq-eqb, counts_anew, eqb-true)

module _ {W : Type 0} where
  -- while the notice of its queue is spent a run stands still
  pub spending_row : (spending then : Spending) (left : Left) (reply : TickReply W) (action : TickAction W) → is_ran reply ≡ false → IsSpent (asked_of_spending spending) reply action → IsRow (record { state = state.PassingOn spending left }) (Tick reply) (next.Act (record { state = state.PassingOn then left }) (asks.Tick action))
  spending_row spending then left reply action goes spent = grind (arith, tick_table, same_row, go_on_act)

module _ {W : Type 0} where
  -- a run that leaves the sleepers does what its row says
  pub leave_decided : (asked : RunAsked) (runner : Runner) (number : ℕ) (registered : Bool) (later : Option ℕ) (kept : tick.Kept) (step : Ticker → Ticker) → let r : Row W = leave asked (keeps runner registered later kept) number step in leaves (record { runner = runner; number = number }) ≡ decision_to runner.key r.next r.kept
  leave_decided asked runner number registered later kept step = grind (arith, cases_Bool)

  over_decided_by : (k : Kept) (left : Left) (r : tick.Row W) → k ≡ keeps left.runner false (Some left.number) tick.nothing → tick.End Return ≡ r.next → leaves left ≡ decision_to left.runner.key (of_row k r).next (of_row k r).kept
  over_decided_by k left r is over = grind (arith, leave_decided)

  pub over_decided : (spending : Spending) (left : Left) (reply : TickReply W) → is_ran reply ≡ false → IsOver (asked_of_spending spending) reply → leaves left ≡ decided (record { state = state.PassingOn spending left }) (Tick reply)
  over_decided spending left reply goes over = grind (arith, tick_table, over_decided_by)
