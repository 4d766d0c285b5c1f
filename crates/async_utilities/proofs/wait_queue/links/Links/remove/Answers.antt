use Rattle.std.proofs.Common.{◌≡◌, ◌-◌, length, arith, vec_len}
use Rattle.async_utilities.specs.Links.{Linked, keys_of, without}
use Rattle.async_utilities.proofs.LinkLemmas.{length-without}
use Rattle.async_utilities.proofs.LinkedLemmas.{before_link, behind_link, is_linked, keys_are, length-keys, skipped_linked}
use Rattle.async_utilities.proofs.wait_queue.links.Links.remove.Goals as goal
use Rattle.async_utilities.proofs.wait_queue.links.Links.remove.Goals.{After-skip}

pub skip-requires-clause-key_in : goal.skip-requires-clause-key_in
skip-requires-clause-key_in c = c.self.invariant.within c.args.key (rw (← c.self.view_is) at c.requires)

pub skip-requires-clause-previous_in : goal.skip-requires-clause-previous_in
skip-requires-clause-previous_in c = before_link c.self.inside.chain c.self.inside.chain _ c.self.invariant c.args.key (rw (← c.self.view_is) at c.requires)

pub skip-requires-clause-next_in : goal.skip-requires-clause-next_in
skip-requires-clause-next_in c = behind_link c.self.inside.chain c.self.inside.chain _ c.self.invariant c.args.key (rw (← c.self.view_is) at c.requires)

skipped : (c : After-skip) → Linked c.skip.new.self (without c.args.key (keys_of c.self.inside.chain c.self.inside.len))
skipped c =
    skipped_linked c.self.inside.chain c.skip.new.self _ c.self.invariant c.args.key c.skip.ensures.len (omega arith) (rw (← c.self.view_is) at c.requires) c.skip.ensures.skips

shorter : (c : After-skip) → c.self.inside.len - 1 ≡ length (without c.args.key (keys_of c.self.inside.chain c.self.inside.len))
shorter c =
    let long = length-keys c.self.inside.chain c.self.inside.len in
    let less = length-without c.args.key (keys_of c.self.inside.chain c.self.inside.len) (rw (← c.self.view_is) at c.requires) in
    omega arith

pub invariant_of-self : goal.invariant_of-self
invariant_of-self c =
    let at = (goal.at.invariant_of-self c).After-skip in is_linked c.skip.new.self _ _ (skipped at) (shorter at)

pub returns : goal.returns
returns c =
    let at = (goal.at.returns c).After-skip in
    let keys = keys_are c.skip.new.self _ _ (skipped at) (shorter at) in
    let limit : vec_len c.skip.new.self.links ≡ vec_len c.self.inside.chain.links = c.skip.ensures.len in
    rw (← c.self.view_is) (λ i. record { keys = keys i; limit = limit i })
