use Rattle.std.proofs.Common.{refl, ap, ◌∙◌}
use Rattle.executor_core.specs.declared.sleepers.list.Update.TheVariants.{Asleep}
use Rattle.executor_core.proofs.SleeperPairLemmas.{stands_at, stands_nowhere}
use Rattle.executor_core.proofs.sleepers.list.replace_waker.Goals as goal

pub returns-in-Some-clause-items : goal.returns-in-Some-clause-items
returns-in-Some-clause-items g c =
    rw (c.replace.ensures.after, c.index_mut.ensures.value)
    ((stands_at c.args.id c.in-Some.at c.deref.ensures.value c.place_of.ensures c.in-Some.is).written c.index_mut.result.now c.args.waker)

pub returns-in-Some-clause-answer : goal.returns-in-Some-clause-answer
returns-in-Some-clause-answer g c =
    rw ((stands_at c.args.id c.in-Some.at c.deref.ensures.value c.place_of.ensures c.in-Some.is).found c.index_mut.result.now)
    (ap Asleep (c.replace.ensures.value ∙ ap (λ p. p.1) c.index_mut.ensures.value))

pub returns-in-None-clause-items : goal.returns-in-None-clause-items
returns-in-None-clause-items g c =
    (stands_nowhere c.args.id c.deref.ensures.value c.place_of.ensures c.in-None.is).written c.args.waker

pub returns-in-None-clause-answer : goal.returns-in-None-clause-answer
returns-in-None-clause-answer g c =
    rw (← (stands_nowhere c.args.id c.deref.ensures.value c.place_of.ensures c.in-None.is).found) refl
