use Rattle.std.proofs.Common.{◌≡◌, true, subst, sym, ap, ◌∙◌}
use Rattle.async_executor.specs.Ticks.{IsAsked}
use Rattle.async_executor.specs.Ticks.Courses.{course_in, KeepsCourse}
use Rattle.async_executor.specs.Ticks.Decisions.{decided}
use Rattle.async_executor.specs.Ticks.Rows.{IsRow, next_of, kept_after}
use Rattle.async_executor.specs.Ticks.Steps.{leads, may_lead}
use Rattle.async_executor.specs.Ticks.Tickers.{ticker_in, ticker_after}
use Rattle.async_executor.specs.declared.machine.tick.TickState.TheVariants.{Waiting}
use Rattle.async_executor.proofs.Decisions.{tick_decided}
use Rattle.async_executor.proofs.Machines.{tick_asked, tick_course, tick_seen, tick_next, tick_kept}
use Rattle.async_executor.proofs.machine.tick.TickMachine.next.Goals as goal

pub returns-in-Waiting-clause-ticker : goal.returns-in-Waiting-clause-ticker
returns-in-Waiting-clause-ticker g c runner notified =
    subst (λ state. ticker_after runner c.decide-in-Waiting.result ≡ leads state c.args.reply (ticker_in runner notified state)) (sym c.in-Waiting.is)
    (ap (ticker_after runner) c.decide-in-Waiting.ensures ∙ tick_seen runner c.next.result ∙ c.next.ensures.ticker runner notified)

pub returns-in-Waiting-clause-enabled : goal.returns-in-Waiting-clause-enabled
returns-in-Waiting-clause-enabled g c runner notified =
    subst (λ state. may_lead state c.args.reply (ticker_in runner notified state) ≡ true) (sym c.in-Waiting.is) (c.next.ensures.enabled runner notified)

pub returns-in-Waiting-clause-table : goal.returns-in-Waiting-clause-table
returns-in-Waiting-clause-table g c =
    let row = c.next.ensures.table in
    subst (λ state. IsRow (record { state = state }) c.args.reply c.decide-in-Waiting.result) (sym c.in-Waiting.is)
    (row.0, ap next_of c.decide-in-Waiting.ensures ∙ tick_next c.next.result ∙ row.1, ap kept_after c.decide-in-Waiting.ensures ∙ tick_kept c.next.result ∙ row.2)

pub returns-in-Waiting-clause-decided : goal.returns-in-Waiting-clause-decided
returns-in-Waiting-clause-decided g c =
    let row = c.next.ensures.table in
    let same = c.decide-in-Waiting.ensures in
    subst (λ state. c.decide-in-Waiting.result ≡ decided (record { state = state }) c.args.reply) (sym c.in-Waiting.is)
    (tick_decided c.decide-in-Waiting.result _ _ (subst IsAsked (sym same) (tick_asked c.next.result c.next.ensures.asked))
    (ap next_of same ∙ tick_next c.next.result ∙ row.1) (ap kept_after same ∙ tick_kept c.next.result ∙ row.2))

pub returns-in-Waiting-clause-course : goal.returns-in-Waiting-clause-course
returns-in-Waiting-clause-course g c =
    let came = c.next.ensures in
    subst (λ state. KeepsCourse (course_in state) c.args.reply c.decide-in-Waiting.result) (sym c.in-Waiting.is)
    (subst (KeepsCourse (course_in (Waiting c.in-Waiting.waiting)) c.args.reply) (sym c.decide-in-Waiting.ensures)
    (tick_course c.in-Waiting.waiting c.args.reply c.next.result came.goes_on came.asked came.course came.ends))
