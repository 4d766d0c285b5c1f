use Rattle.std.proofs.Common.{None, set, sym, ap, ◌∙◌}
use Rattle.std.proofs.lemmas.List.{map-set}
use Rattle.std.specs.Prelude.{option_map}
use Rattle.executor_core.specs.Slots.{IsQueue}
use Rattle.executor_core.specs.Slots.View.{entries_of, walk}
use Rattle.executor_core.proofs.LinkLemmas.{is_linked, view_linked, beside_linked, cleared_beside}
use Rattle.executor_core.proofs.task.slots.Slots.remove.Goals as goal

pub invariant_of-self : goal.invariant_of-self
invariant_of-self g c =
    let slots = c.self.inside.slots.slots in
    let ids = walk slots c.self.inside.len c.self.inside.first in
    let sound = c.self.invariant in
    let updates = c.remove-entry.ensures.updates in
    let queue : IsQueue (set (entries_of slots) c.args.id.slot None) ids = rw (← c.self.view_is) at c.requires.unqueued in
    is_linked _ ids _ _ _ (beside_linked slots _ c.args.id.slot None c.self.inside.first c.self.inside.last ids sound.linked (record { changed = updates.changed; others = updates.others }) (cleared_beside (entries_of slots) c.args.id.slot ids queue) (λ s is. absurd (cc))) (sym sound.counted)

pub returns-clause-slots : goal.returns-clause-slots
returns-clause-slots g c =
    let slots = c.self.inside.slots.slots in
    let ids = walk slots c.self.inside.len c.self.inside.first in
    let sound = c.self.invariant in
    let updates = c.remove-entry.ensures.updates in
    let queue : IsQueue (set (entries_of slots) c.args.id.slot None) ids = rw (← c.self.view_is) at c.requires.unqueued in
    rw (← c.self.view_is)
    (view_linked _ ids _ _ _ _ (beside_linked slots _ c.args.id.slot None c.self.inside.first c.self.inside.last ids sound.linked (record { changed = updates.changed; others = updates.others }) (cleared_beside (entries_of slots) c.args.id.slot ids queue) (λ s is. absurd (cc))) (sym sound.counted)
    (ap (λ l. entries_of l) c.remove-entry.ensures.slots ∙ map-set (option_map (λ s. s.entry)) slots c.args.id.slot None))
