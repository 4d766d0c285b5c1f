use Rattle.std.proofs.Common.{◌≡◌, ◌==◌, ◌∙◌, sym, ap, subst, length, vec_len, rules}
use Rattle.executor_core.specs.Sleepers.{SleeperLaw, is_notified}
use Rattle.executor_core.proofs.SleeperListLemmas.{notified-some, notified-none, lawful}
use Rattle.executor_core.proofs.sleepers.list.Sleepers.is_notified.Goals as goal

pub returns-then-is_some-clause-answer : goal.returns-then-is_some-clause-answer
returns-then-is_some-clause-answer g c =
    c.if-is_some.true
    ∙ notified-some c.self.inside.is_open c.self.invariant (sym c.is_some.ensures ∙ c.if-is_some.true)
    ∙ ap is_notified c.self.view_is

pub returns-then-is_some-clause-law : goal.returns-then-is_some-clause-law
returns-then-is_some-clause-law g c = subst SleeperLaw c.self.view_is (lawful c.self.inside.is_open c.self.invariant)

pub returns-else-is_some-clause-answer : goal.returns-else-is_some-clause-answer
returns-else-is_some-clause-answer g c =
    let long : vec_len c.self.inside.unnotified ≡ length c.self.inside.unnotified.items = search rules in
    c.is_empty.ensures
    ∙ ap (λ n. n == 0) long
    ∙ notified-none c.self.inside.is_open c.self.invariant (sym c.is_some.ensures ∙ c.if-is_some.false)
    ∙ ap is_notified c.self.view_is

pub returns-else-is_some-clause-law : goal.returns-else-is_some-clause-law
returns-else-is_some-clause-law g c = subst SleeperLaw c.self.view_is (lawful c.self.inside.is_open c.self.invariant)
