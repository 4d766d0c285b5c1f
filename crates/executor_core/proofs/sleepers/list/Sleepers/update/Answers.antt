use Rattle.std.proofs.Common.{◌≡◌, ◌∙◌, ap, sym, length, vec_len, rules, arith}
use Rattle.executor_core.specs.Sleepers.Calls.{again, change_of, after_update, update_answer}
use Rattle.executor_core.specs.declared.sleepers.list.Update.TheVariants.{WasNotified}
use Rattle.executor_core.proofs.SleeperCallLemmas.{is_id, is_other, slept_sound, slept_room, slept_list, slept_answer, replaced_sound, replaced_list, replaced_answer}
use Rattle.executor_core.proofs.SleeperListLemmas.{lawful}
use Rattle.executor_core.proofs.sleepers.list.Sleepers.update.Goals as goal

pub push_reserved-requires : goal.push_reserved-requires
push_reserved-requires g c =
    let long : vec_len c.self.inside.unnotified ≡ length c.self.inside.unnotified.items = search rules in
    let room = slept_room c.self.invariant c.args.id (is_id c.self.inside.notified c.args.id (sym c.eq.ensures ∙ c.if-eq.true)) in
    omega arith

pub invariant_of-self : goal.invariant_of-self
invariant_of-self g c =
    rw (c.push_reserved.ensures.items, c.push_reserved.ensures.capacity) (slept_sound c.self.invariant c.args.id c.args.waker (is_id c.self.inside.notified c.args.id (sym c.eq.ensures ∙ c.if-eq.true)))

pub returns-then-eq-clause-list : goal.returns-then-eq-clause-list
returns-then-eq-clause-list g c =
    rw c.push_reserved.ensures.items
    (
    slept_list c.self.invariant c.self.inside.is_open c.args.id c.args.waker (is_id c.self.inside.notified c.args.id (sym c.eq.ensures ∙ c.if-eq.true))
    ∙ ap (λ s. after_update s c.args.id c.args.waker) c.self.view_is
    )

pub returns-then-eq-clause-answer : goal.returns-then-eq-clause-answer
returns-then-eq-clause-answer g c =
    ap WasNotified (c.change.ensures.change ∙ ap (λ s. change_of s again) (returns-then-eq-clause-list g c))
    ∙ slept_answer c.self.invariant c.self.inside.is_open c.self.view_is c.args.id c.args.waker (is_id c.self.inside.notified c.args.id (sym c.eq.ensures ∙ c.if-eq.true))

pub invariant_of-self-2 : goal.invariant_of-self-2
invariant_of-self-2 g c = rw (c.replace_waker.ensures.items, c.replace_waker.ensures.capacity) (replaced_sound c.self.invariant c.args.id c.args.waker)

pub returns-clause-list : goal.returns-clause-list
returns-clause-list g c =
    rw c.replace_waker.ensures.items
    (
    replaced_list c.self.invariant c.self.inside.is_open c.args.id c.args.waker (is_other c.self.inside.notified c.args.id (sym c.eq.ensures ∙ c.if-eq.false))
    ∙ ap (λ s. after_update s c.args.id c.args.waker) c.self.view_is
    )

pub returns-clause-answer : goal.returns-clause-answer
returns-clause-answer g c =
    replaced_answer c.self.invariant c.self.inside.is_open c.args.id c.args.waker c.replace_waker.result (is_other c.self.inside.notified c.args.id (sym c.eq.ensures ∙ c.if-eq.false)) c.replace_waker.ensures.answer
    ∙ ap (λ s. update_answer s c.args.id c.args.waker) c.self.view_is

pub returns-clause-law : goal.returns-clause-law
returns-clause-law g c = lawful c.self.inside.is_open (invariant_of-self-2 g c)

pub returns-then-eq-clause-law : goal.returns-then-eq-clause-law
returns-then-eq-clause-law g c = c.change.ensures.law
