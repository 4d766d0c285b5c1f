use Rattle.std.proofs.Common.{sym, ap, ◌∙◌, Some}
use Rattle.executor_core.proofs.SleeperPairLemmas.{stands_at, stands_nowhere}
use Rattle.executor_core.proofs.sleepers.list.remove_waker.Goals as goal

pub returns-in_err-at-clause-items : goal.returns-in_err-at-clause-items
returns-in_err-at-clause-items g c = (stands_nowhere c.args.id c.deref.ensures.value c.place_of.ensures c.in_err-at.was).removed

pub returns-in_err-at-clause-answer : goal.returns-in_err-at-clause-answer
returns-in_err-at-clause-answer g c =
    c.from_residual.ensures ∙ (stands_nowhere c.args.id c.deref.ensures.value c.place_of.ensures c.in_err-at.was).found

pub returns-clause-items : goal.returns-clause-items
returns-clause-items g c =
    c.remove-waker.ensures.items ∙ (stands_at c.args.id c.in_ok-at.at c.deref.ensures.value c.place_of.ensures c.in_ok-at.was).removed

pub returns-clause-answer : goal.returns-clause-answer
returns-clause-answer g c =
    ap (λ p. Some p.1) c.remove-waker.ensures.value
    ∙ sym ((stands_at c.args.id c.in_ok-at.at c.deref.ensures.value c.place_of.ensures c.in_ok-at.was).found c.remove-waker.result)
