use Rattle.std.proofs.Common.{◌≡◌, ◌+◌, ◌∷◌, ◌++◌, [], length, arith, rules, vec_len}
use Rattle.std.proofs.lemmas.List.{length-append}
use Rattle.async_utilities.specs.Links.{Linked, keys_of}
use Rattle.async_utilities.proofs.LinkedLemmas.{few_keys, is_linked, keys_are, last_link, length-keys, not_last, pushed_linked}
use Rattle.async_utilities.proofs.wait_queue.links.Links.push.Goals as goal
use Rattle.async_utilities.proofs.wait_queue.links.Links.push.Goals.{After-insert}

pub insert-requires-clause-last_in : goal.insert-requires-clause-last_in
insert-requires-clause-last_in c = last_link c.self.inside.chain c.self.inside.chain _ c.self.invariant

pub insert-requires-clause-apart : goal.insert-requires-clause-apart
insert-requires-clause-apart c =
    not_last c.self.inside.chain c.self.inside.chain _ c.self.invariant c.args.key (rw (← c.self.view_is) at c.requires.room) (omega arith) (rw (← c.self.view_is) at c.requires.absent)

pub overflow_add-self : goal.overflow_add-self
overflow_add-self c =
    let few = few_keys c.self.inside.chain _ c.self.invariant in
    let long = length-keys c.self.inside.chain c.self.inside.len in
    search (rules, few, long)

pushed : (c : After-insert) → Linked c.insert.new.self (keys_of c.self.inside.chain c.self.inside.len ++ c.args.key ∷ [])
pushed c =
    pushed_linked c.self.inside.chain c.insert.new.self _ c.self.invariant c.args.key (rw (← c.self.view_is) at c.requires.room) c.insert.ensures.len (omega arith) (rw (← c.self.view_is) at c.requires.absent) c.insert.ensures.inserts

longer : (c : After-insert) → c.self.inside.len + 1 ≡ length (keys_of c.self.inside.chain c.self.inside.len ++ c.args.key ∷ [])
longer c =
    let long = length-keys c.self.inside.chain c.self.inside.len in
    let more = length-append (keys_of c.self.inside.chain c.self.inside.len) (c.args.key ∷ []) in
    omega arith

pub invariant_of-self : goal.invariant_of-self
invariant_of-self c =
    let at = (goal.at.invariant_of-self c).After-insert in is_linked c.insert.new.self _ _ (pushed at) (longer at)

pub returns : goal.returns
returns c =
    let at = (goal.at.returns c).After-insert in
    let keys = keys_are c.insert.new.self _ _ (pushed at) (longer at) in
    let limit : vec_len c.insert.new.self.links ≡ vec_len c.self.inside.chain.links = c.insert.ensures.len in
    rw (← c.self.view_is) (λ i. record { keys = keys i; limit = limit i })
