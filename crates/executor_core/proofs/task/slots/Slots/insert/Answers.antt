use Rattle.std.proofs.Common.{◌++◌, ◌∷◌, [], get_or, None, refl, sym, ap, ◌∙◌}
use Rattle.executor_core.specs.Slots.View.{entries_of, walk}
use Rattle.executor_core.proofs.LinkLemmas.{is_linked, walk_is, inserted_linked, new_beside, chain_queue, push_queue, entries_changes, entry_at}
use Rattle.executor_core.proofs.task.slots.Slots.insert.Goals as goal

pub invariant_of-self-2 : goal.invariant_of-self-2
invariant_of-self-2 g c =
    let slots = c.self.inside.slots.slots in
    let same = ap (λ s. s.slots) c.reserve.ensures.rest_kept in
    let key = c.insert_reserved-slot.result in
    let ids = walk slots c.self.inside.len c.self.inside.first in
    let sound = c.self.invariant in
    let updates = c.insert_reserved-slot.ensures.updates in
    is_linked _ ids _ _ _ (inserted_linked slots _ key _ c.self.inside.first c.self.inside.last ids sound.linked
    (ap (λ l. get_or l key None) (sym same) ∙ c.insert_reserved-slot.ensures.was_vacant)
    (record { changed = updates.changed; others = λ other far. updates.others other far ∙ ap (λ l. get_or l other None) same })
    refl) (sym sound.counted)

pub push-requires-clause-queue : goal.push-requires-clause-queue
push-requires-clause-queue g c =
    let slots = c.self.inside.slots.slots in
    let same = ap (λ s. s.slots) c.reserve.ensures.rest_kept in
    let key = c.insert_reserved-slot.result in
    let new = c.insert_reserved-slot.new.self.slots in
    let ids = walk slots c.self.inside.len c.self.inside.first in
    let sound = c.self.invariant in
    let updates = c.insert_reserved-slot.ensures.updates in
    let vacant = ap (λ l. get_or l key None) (sym same) ∙ c.insert_reserved-slot.ensures.was_vacant in
    let linked = inserted_linked slots new key _ c.self.inside.first c.self.inside.last ids sound.linked vacant
    (record { changed = updates.changed; others = λ other far. updates.others other far ∙ ap (λ l. get_or l other None) same })
    refl in
    rw (walk_is new ids c.self.inside.first c.self.inside.len linked.chain (sym sound.counted))
    (push_queue (entries_of new) ids _ (chain_queue linked) (_, entry_at new key _ updates.changed, refl) (new_beside slots key c.self.inside.first c.self.inside.last ids sound.linked vacant))

pub push-requires-clause-counted : goal.push-requires-clause-counted
push-requires-clause-counted g c =
    let slots = c.self.inside.slots.slots in
    let same = ap (λ s. s.slots) c.reserve.ensures.rest_kept in
    let key = c.insert_reserved-slot.result in
    let new = c.insert_reserved-slot.new.self.slots in
    let ids = walk slots c.self.inside.len c.self.inside.first in
    let sound = c.self.invariant in
    let updates = c.insert_reserved-slot.ensures.updates in
    let vacant = ap (λ l. get_or l key None) (sym same) ∙ c.insert_reserved-slot.ensures.was_vacant in
    let linked = inserted_linked slots new key _ c.self.inside.first c.self.inside.last ids sound.linked vacant
    (record { changed = updates.changed; others = λ other far. updates.others other far ∙ ap (λ l. get_or l other None) same })
    refl in
    rw (walk_is new ids c.self.inside.first c.self.inside.len linked.chain (sym sound.counted)) (rw (← c.self.view_is) at c.requires)

pub returns-clause-slots : goal.returns-clause-slots
returns-clause-slots g c =
    let slots = c.self.inside.slots.slots in
    let same = ap (λ s. s.slots) c.reserve.ensures.rest_kept in
    let key = c.insert_reserved-slot.result in
    let new = c.insert_reserved-slot.new.self.slots in
    let updates = c.insert_reserved-slot.ensures.updates in
    let changes = entries_changes slots new key _ (record { changed = updates.changed; others = λ other far. updates.others other far ∙ ap (λ l. get_or l other None) same }) in
    rw (ap (λ s. s.slots) c.push.ensures, ← c.self.view_is, ← c.new_cell-cell.ensures) changes

pub returns-clause-queue : goal.returns-clause-queue
returns-clause-queue g c =
    let slots = c.self.inside.slots.slots in
    let same = ap (λ s. s.slots) c.reserve.ensures.rest_kept in
    let key = c.insert_reserved-slot.result in
    let new = c.insert_reserved-slot.new.self.slots in
    let ids = walk slots c.self.inside.len c.self.inside.first in
    let sound = c.self.invariant in
    let updates = c.insert_reserved-slot.ensures.updates in
    let vacant = ap (λ l. get_or l key None) (sym same) ∙ c.insert_reserved-slot.ensures.was_vacant in
    let linked = inserted_linked slots new key _ c.self.inside.first c.self.inside.last ids sound.linked vacant
    (record { changed = updates.changed; others = λ other far. updates.others other far ∙ ap (λ l. get_or l other None) same })
    refl in
    ap (λ s. s.queue) c.push.ensures
    ∙ ap (λ l. l ++ record { number = c.args.number; slot = key } ∷ []) (walk_is new ids c.self.inside.first c.self.inside.len linked.chain (sym sound.counted) ∙ ap (λ s. s.queue) c.self.view_is)
