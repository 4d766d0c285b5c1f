use Rattle.std.proofs.Common.{◌≡◌, ◌∙◌, ap, sym, None, Some}
use Rattle.std.specs.Map.{lookup}
use Rattle.std.specs.Prelude.{◌==◌}
use Rattle.executor_core.specs.Sleepers.Calls.{after_remove, removed_of}
use Rattle.executor_core.proofs.SleeperCallLemmas.{change_is, is_id, is_other, removed_sound, removed_list, removed_of_found, notified_removed_sound, notified_removed_list, removed_of_notified, unknown_removed_list, unknown_removed_sound, removed_of_unknown}
use Rattle.executor_core.proofs.sleepers.list.Sleepers.remove.Goals as goal

pub invariant_of-self : goal.invariant_of-self
invariant_of-self g c =
    rw (c.push_reserved.ensures.items, c.push_reserved.ensures.capacity) (notified_removed_sound c.self.invariant c.args.id (is_id c.self.inside.notified c.args.id (sym c.eq.ensures ∙ c.if-eq.true)))

pub returns-then-eq-clause-list : goal.returns-then-eq-clause-list
returns-then-eq-clause-list g c =
    rw c.push_reserved.ensures.items
    (
    notified_removed_list c.self.invariant c.self.inside.is_open c.args.id (is_id c.self.inside.notified c.args.id (sym c.eq.ensures ∙ c.if-eq.true))
    ∙ ap (λ s. after_remove s c.args.id) c.self.view_is
    )

pub returns-then-eq-clause-answer : goal.returns-then-eq-clause-answer
returns-then-eq-clause-answer g c =
    change_is c.change.ensures.change (returns-then-eq-clause-list g c)
    (
    removed_of_notified c.self.invariant c.self.inside.is_open c.args.id (is_id c.self.inside.notified c.args.id (sym c.eq.ensures ∙ c.if-eq.true))
    ∙ ap (λ s. removed_of s c.args.id) c.self.view_is
    )

pub invariant_of-self-in_default : goal.invariant_of-self-in_default
invariant_of-self-in_default g c =
    let none : lookup (λ k. k == c.args.id) c.self.inside.unnotified.items ≡ None = sym c.remove_waker.ensures.answer ∙ c.in_default.is in
    rw (c.remove_waker.ensures.items, c.remove_waker.ensures.capacity) (unknown_removed_sound c.self.invariant c.args.id none)

pub returns-in_default-clause-list : goal.returns-in_default-clause-list
returns-in_default-clause-list g c =
    let none : lookup (λ k. k == c.args.id) c.self.inside.unnotified.items ≡ None = sym c.remove_waker.ensures.answer ∙ c.in_default.is in
    rw c.remove_waker.ensures.items
    (
    unknown_removed_list c.self.invariant c.self.inside.is_open c.args.id (is_other c.self.inside.notified c.args.id (sym c.eq.ensures ∙ c.if-eq.false)) none
    ∙ ap (λ s. after_remove s c.args.id) c.self.view_is
    )

pub returns-in_default-clause-answer : goal.returns-in_default-clause-answer
returns-in_default-clause-answer g c =
    let none : lookup (λ k. k == c.args.id) c.self.inside.unnotified.items ≡ None = sym c.remove_waker.ensures.answer ∙ c.in_default.is in
    change_is c.change-in_default.ensures.change (returns-in_default-clause-list g c)
    (
    removed_of_unknown c.self.invariant c.self.inside.is_open c.args.id (is_other c.self.inside.notified c.args.id (sym c.eq.ensures ∙ c.if-eq.false)) none
    ∙ ap (λ s. removed_of s c.args.id) c.self.view_is
    )

pub invariant_of-self-2 : goal.invariant_of-self-2
invariant_of-self-2 g c =
    let found : lookup (λ k. k == c.args.id) c.self.inside.unnotified.items ≡ Some c.in-Some.waker = sym c.remove_waker.ensures.answer ∙ c.in-Some.is in
    rw (c.remove_waker.ensures.items, c.remove_waker.ensures.capacity, c.push_reserved-2.ensures.items, c.push_reserved-2.ensures.capacity)
    (removed_sound c.self.invariant c.args.id c.in-Some.waker found)

pub returns-clause-list : goal.returns-clause-list
returns-clause-list g c =
    let found : lookup (λ k. k == c.args.id) c.self.inside.unnotified.items ≡ Some c.in-Some.waker = sym c.remove_waker.ensures.answer ∙ c.in-Some.is in
    rw (c.remove_waker.ensures.items, c.push_reserved-2.ensures.items)
    (removed_list c.self.invariant c.self.inside.is_open c.args.id c.in-Some.waker found ∙ ap (λ s. after_remove s c.args.id) c.self.view_is)

pub returns-clause-answer : goal.returns-clause-answer
returns-clause-answer g c =
    let found : lookup (λ k. k == c.args.id) c.self.inside.unnotified.items ≡ Some c.in-Some.waker = sym c.remove_waker.ensures.answer ∙ c.in-Some.is in
    change_is c.change-2.ensures.change (returns-clause-list g c)
    (removed_of_found c.self.invariant c.self.inside.is_open c.args.id c.in-Some.waker found ∙ ap (λ s. removed_of s c.args.id) c.self.view_is)

pub returns-then-eq-clause-law : goal.returns-then-eq-clause-law
returns-then-eq-clause-law g c = c.change.ensures.law

pub returns-in_default-clause-law : goal.returns-in_default-clause-law
returns-in_default-clause-law g c = c.change-in_default.ensures.law

pub returns-clause-law : goal.returns-clause-law
returns-clause-law g c = c.change-2.ensures.law
