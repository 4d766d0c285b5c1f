use Rattle.std.proofs.Common.{sym}
use Rattle.async_utilities.specs.Links.{Linked, keys_of}
use Rattle.async_utilities.proofs.LinkedLemmas.{grown_linked, is_linked, keys_are, length-keys}
use Rattle.async_utilities.proofs.wait_queue.links.Links.reserve.Goals as goal
use Rattle.async_utilities.proofs.wait_queue.links.Links.reserve.Goals.{After-grow}

grown : (c : After-grow) → Linked c.grow.new.self (keys_of c.self.inside.chain c.self.inside.len)
grown c = grown_linked c.self.inside.chain c.grow.new.self _ c.self.invariant c.grow.ensures.grows c.grow.ensures.next c.grow.ensures.previous

pub invariant_of-self : goal.invariant_of-self
invariant_of-self c = is_linked c.grow.new.self _ _ (grown (goal.at.invariant_of-self c).After-grow) (sym (length-keys c.self.inside.chain c.self.inside.len))

pub returns-clause-keys : goal.returns-clause-keys
returns-clause-keys c =
    rw (← c.self.view_is) (keys_are c.grow.new.self _ _ (grown (goal.at.returns-clause-keys c).After-grow) (sym (length-keys c.self.inside.chain c.self.inside.len)))
