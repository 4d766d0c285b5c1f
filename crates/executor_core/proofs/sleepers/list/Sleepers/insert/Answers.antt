use Rattle.std.proofs.Common.{◌≡◌, ◌∙◌, ap, subst, length, vec_len, Ok, rules, arith}
use Rattle.executor_core.specs.Sleepers.Calls.{again, change_of}
use Rattle.executor_core.proofs.SleeperCallLemmas.{inserting, refusing}
use Rattle.executor_core.proofs.SleeperListLemmas.{lawful}
use Rattle.executor_core.specs.Sleepers.{SleeperLaw}
use Rattle.executor_core.proofs.sleepers.list.Sleepers.insert.Goals as goal

pub push_reserved-requires : goal.push_reserved-requires
push_reserved-requires g c =
    let long : vec_len c.self.inside.unnotified ≡ length c.self.inside.unnotified.items = search rules in
    let room = (inserting c.self.invariant c.self.view_is c.numbers-used.ensures c.if-used-self.false c.take_number-id.ensures.number c.args.waker).room in
    omega arith

pub invariant_of-self : goal.invariant_of-self
invariant_of-self g c =
    rw (c.push_reserved.ensures.items, c.push_reserved.ensures.capacity, c.take_number-id.ensures.free, c.take_number-id.ensures.capacity)
    (inserting c.self.invariant c.self.view_is c.numbers-used.ensures c.if-used-self.false c.take_number-id.ensures.number c.args.waker).keeps

pub returns-clause-list : goal.returns-clause-list
returns-clause-list g c =
    rw (c.push_reserved.ensures.items, c.take_number-id.ensures.free)
    (inserting c.self.invariant c.self.view_is c.numbers-used.ensures c.if-used-self.false c.take_number-id.ensures.number c.args.waker).list

pub returns-clause-answer : goal.returns-clause-answer
returns-clause-answer g c =
    ap (λ x. Ok (c.take_number-id.result, x)) (c.change.ensures.change ∙ ap (λ s. change_of s again) (returns-clause-list g c))
    ∙ (inserting c.self.invariant c.self.view_is c.numbers-used.ensures c.if-used-self.false c.take_number-id.ensures.number c.args.waker).answer

pub returns-then-used-self-clause-list : goal.returns-then-used-self-clause-list
returns-then-used-self-clause-list g c = (refusing c.self.invariant c.self.view_is c.numbers-used.ensures c.if-used-self.true c.args.waker).0

pub returns-then-used-self-clause-answer : goal.returns-then-used-self-clause-answer
returns-then-used-self-clause-answer g c = (refusing c.self.invariant c.self.view_is c.numbers-used.ensures c.if-used-self.true c.args.waker).1

pub returns-then-used-self-clause-law : goal.returns-then-used-self-clause-law
returns-then-used-self-clause-law g c = subst SleeperLaw c.self.view_is (lawful c.self.inside.is_open c.self.invariant)
