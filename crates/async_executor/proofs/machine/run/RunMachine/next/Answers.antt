use Rattle.std.proofs.Common.{◌≡◌, ◌+◌, ◌<◌, true, false, subst, sym, ap, ◌∙◌}
use Rattle.async_executor.specs.Runs.{runner_at, store_asked, store_after, IsAsked}
use Rattle.async_executor.specs.Runs.Decisions.{decided}
use Rattle.async_executor.specs.Runs.Fairs.{FindsFrom, FindsIn, HasFound}
use Rattle.async_executor.specs.Runs.Replies.{decision}
use Rattle.async_executor.specs.Runs.Rows.{IsRow, kept_after, next_of}
use Rattle.async_executor.specs.Runs.Steps.{leads, may_lead}
use Rattle.async_executor.specs.Runs.Tickers.{ticker_in, ticker_after, runner_in}
use Rattle.async_executor.specs.Runs.Turns.{TurnFrom, under_way_in}
use Rattle.async_executor.specs.Ticks.Replies.{actor_of}
use Rattle.async_executor.specs.declared.machine.run.RunState.TheVariants.{PassingOn, Waiting}
use Rattle.async_executor.specs.declared.machine.run.RunReply.TheVariants.{Tick}
use Rattle.async_executor.specs.declared.machine.run_steps.Runner.{Runner}
use Rattle.async_executor.proofs.Decisions.{key_after, run_decided}
use Rattle.async_executor.proofs.RunMachines.{over_decided, run_key, run_asked, run_store, waiting_row, run_turn, run_fair, spending_row}
use Rattle.async_executor.proofs.machine.run.RunMachine.next.Goals as goal

pub returns-in-Tick-clause-asked : goal.returns-in-Tick-clause-asked
returns-in-Tick-clause-asked g c = subst IsAsked (sym c.decide.ensures) (run_asked c.next.result c.next.ensures.asked)

pub returns-in-Tick-clause-store : goal.returns-in-Tick-clause-store
returns-in-Tick-clause-store g c = ap store_asked c.decide.ensures ∙ run_store c.next.result ∙ c.next.ensures.store ∙ ap store_after (sym c.in-Tick.is)

pub returns-in-Tick-clause-ticker : goal.returns-in-Tick-clause-ticker
returns-in-Tick-clause-ticker g c notified =
    let waiting = c.in-Waiting.waiting in
    let came = c.next.ensures in
    let row = waiting_row waiting c.in-Tick.reply c.next.result (ticker_in notified (Waiting waiting)) came.goes_on came.actor came.asked came.none came.course came.table (came.ticker (runner_in (actor_of waiting)) notified) in
    subst (λ s. ticker_after c.decide.result ≡ leads (record { state = s }) c.args.reply (ticker_in notified s)) (sym c.in-Waiting.is)
    (subst (λ r. ticker_after c.decide.result ≡ leads (record { state = Waiting waiting }) r (ticker_in notified (Waiting waiting))) (sym c.in-Tick.is)
    (ap ticker_after c.decide.ensures ∙ row.3))

pub returns-in-Tick-clause-enabled : goal.returns-in-Tick-clause-enabled
returns-in-Tick-clause-enabled g c notified =
    subst (λ s. may_lead (record { state = s }) c.args.reply (ticker_in notified s) ≡ true) (sym c.in-Waiting.is)
    (subst (λ r. may_lead (record { state = Waiting c.in-Waiting.waiting }) r (ticker_in notified (Waiting c.in-Waiting.waiting)) ≡ true) (sym c.in-Tick.is)
    (c.next.ensures.enabled (runner_in (actor_of c.in-Waiting.waiting)) notified))

pub returns-in-Tick-clause-table : goal.returns-in-Tick-clause-table
returns-in-Tick-clause-table g c =
    let waiting = c.in-Waiting.waiting in
    let came = c.next.ensures in
    let row = waiting_row waiting c.in-Tick.reply c.next.result (ticker_in false (Waiting waiting)) came.goes_on came.actor came.asked came.none came.course came.table (came.ticker (runner_in (actor_of waiting)) false) in
    subst (λ s. IsRow (record { state = s }) c.args.reply c.decide.result) (sym c.in-Waiting.is)
    (subst (λ r. IsRow (record { state = Waiting waiting }) r c.decide.result) (sym c.in-Tick.is)
    (row.0, ap next_of c.decide.ensures ∙ row.1, ap kept_after c.decide.ensures ∙ row.2))

pub returns-in-Tick-clause-turn : goal.returns-in-Tick-clause-turn
returns-in-Tick-clause-turn g c =
    let actor = c.next.ensures.actor in
    let within = subst (λ (r : Runner). r.count.counted < r.count.limit) (sym actor) c.counts.ensures.0 in
    subst (λ s. TurnFrom (runner_at s).count.limit ((runner_at s).count.counted + under_way_in s) c.decide.result) (sym c.in-Waiting.is)
    (subst (TurnFrom (actor_of c.in-Waiting.waiting).count.limit ((actor_of c.in-Waiting.waiting).count.counted + 0)) (sym c.decide.ensures)
    (subst (λ (r : Runner). TurnFrom r.count.limit (r.count.counted + 0) (decision c.next.result)) actor
    (run_turn c.next.result c.next.ensures.none within)))

pub returns-in-Tick-clause-fair : goal.returns-in-Tick-clause-fair
returns-in-Tick-clause-fair g c n before =
    let actor = c.next.ensures.actor in
    let within = subst (λ (r : Runner). r.found.counted < r.found.limit) (sym actor) c.counts.ensures.1 in
    subst (λ s. HasFound (runner_at s).found.limit n (runner_at s) → FindsFrom s (runner_at s).found.limit n c.decide.result) (sym c.in-Waiting.is)
    (λ before. subst (FindsIn (actor_of c.in-Waiting.waiting).found.limit n) (sym c.decide.ensures)
    (subst (λ (r : Runner). HasFound r.found.limit n r → FindsIn r.found.limit n (decision c.next.result)) actor
    (run_fair n c.next.result c.next.ensures.none within) before))
    before

pub returns-in-Some-next-clause-table : goal.returns-in-Some-next-clause-table
returns-in-Some-next-clause-table g c =
    let left = c.in-PassingOn.left in
    let spending = c.in-PassingOn.spending in
    subst (λ s. IsRow (record { state = s }) c.args.reply c.ask-in-Some-next.result) (sym c.in-PassingOn.is)
    (subst (λ r. IsRow (record { state = PassingOn spending left }) r c.ask-in-Some-next.result) (sym c.in-Tick-reply.is)
    (subst (IsRow (record { state = PassingOn spending left }) (Tick c.in-Tick-reply.reply)) (sym c.ask-in-Some-next.ensures)
    (spending_row spending c.in-Some-next.spending left c.in-Tick-reply.reply c.in-Some-next.action c.in-Some-next.ensures.goes_on c.in-Some-next.ensures.row)))

pub returns-in-Tick-clause-decided : goal.returns-in-Tick-clause-decided
returns-in-Tick-clause-decided g c =
    let waiting = c.in-Waiting.waiting in
    let came = c.next.ensures in
    let same = c.decide.ensures in
    let row = waiting_row waiting c.in-Tick.reply c.next.result (ticker_in false (Waiting waiting)) came.goes_on came.actor came.asked came.none came.course came.table (came.ticker (runner_in (actor_of waiting)) false) in
    subst (λ s. c.decide.result ≡ decided (record { state = s }) c.args.reply) (sym c.in-Waiting.is)
    (subst (λ r. c.decide.result ≡ decided (record { state = Waiting waiting }) r) (sym c.in-Tick.is)
    (run_decided c.decide.result _ _ _ (subst IsAsked (sym same) (run_asked c.next.result came.asked)) (ap next_of same ∙ row.1) (ap kept_after same ∙ row.2)
    (ap key_after same ∙ run_key c.next.result ∙ ap (λ (runner : Runner). runner.key) came.actor)))

pub returns-in-None-next-clause-decided : goal.returns-in-None-next-clause-decided
returns-in-None-next-clause-decided g c =
    let left = c.in-PassingOn.left in
    let spending = c.in-PassingOn.spending in
    subst (λ s. c.leave-in-None-next.result ≡ decided (record { state = s }) c.args.reply) (sym c.in-PassingOn.is)
    (subst (λ r. c.leave-in-None-next.result ≡ decided (record { state = PassingOn spending left }) r) (sym c.in-Tick-reply.is)
    (c.leave-in-None-next.ensures ∙ over_decided spending left c.in-Tick-reply.reply c.in-None-next.ensures.goes_on c.in-None-next.ensures.over))
