use Rattle.std.proofs.Common.{◌∙◌, ap, subst, sym}
use Rattle.executor_core.specs.Sleepers.Calls.{after_notify, notify_answer}
use Rattle.executor_core.proofs.SleeperCallLemmas.{kept_list, kept_answer, left_sound, notified_sound, notified_list, notified_answer}
use Rattle.executor_core.proofs.SleeperListLemmas.{lawful}
use Rattle.executor_core.specs.Sleepers.{SleeperLaw}
use Rattle.executor_core.proofs.sleepers.list.Sleepers.notify.Goals as goal

pub returns-then-is_some-clause-list : goal.returns-then-is_some-clause-list
returns-then-is_some-clause-list g c =
    sym c.self.view_is
    ∙ kept_list c.self.invariant c.self.inside.is_open (sym c.is_some.ensures ∙ c.if-is_some.true)
    ∙ ap after_notify c.self.view_is

pub returns-then-is_some-clause-answer : goal.returns-then-is_some-clause-answer
returns-then-is_some-clause-answer g c =
    kept_answer c.self.invariant c.self.inside.is_open (sym c.is_some.ensures ∙ c.if-is_some.true) ∙ ap notify_answer c.self.view_is

pub returns-clause-list : goal.returns-clause-list
returns-clause-list g c =
    notified_list c.self.invariant c.self.inside.is_open c.pop.new.self.items c.in_ok-id.id c.in_ok-id.waker (sym c.is_some.ensures ∙ c.if-is_some.false) c.in_ok-id.ensures.items
    ∙ ap after_notify c.self.view_is

pub returns-clause-answer : goal.returns-clause-answer
returns-clause-answer g c =
    notified_answer c.self.invariant c.self.inside.is_open c.pop.new.self.items c.in_ok-id.id c.in_ok-id.waker (sym c.is_some.ensures ∙ c.if-is_some.false) c.in_ok-id.ensures.items
    ∙ ap notify_answer c.self.view_is

pub invariant_of-self : goal.invariant_of-self
invariant_of-self g c = rw c.pop.ensures.capacity (left_sound c.self.invariant c.in_err-id.ensures.items)

pub invariant_of-self-2 : goal.invariant_of-self-2
invariant_of-self-2 g c =
    rw c.pop.ensures.capacity (notified_sound c.self.invariant c.pop.new.self.items c.in_ok-id.id c.in_ok-id.waker (sym c.is_some.ensures ∙ c.if-is_some.false) c.in_ok-id.ensures.items)

pub returns-then-is_some-clause-law : goal.returns-then-is_some-clause-law
returns-then-is_some-clause-law g c = subst SleeperLaw c.self.view_is (lawful c.self.inside.is_open c.self.invariant)

pub returns-in_err-id-clause-law : goal.returns-in_err-id-clause-law
returns-in_err-id-clause-law g c = lawful c.self.inside.is_open (invariant_of-self g c)

pub returns-clause-law : goal.returns-clause-law
returns-clause-law g c = lawful c.self.inside.is_open (invariant_of-self-2 g c)
