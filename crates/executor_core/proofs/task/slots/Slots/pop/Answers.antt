use Rattle.std.proofs.Common.{◌≡◌, ℕ, ◌-◌, ◌∷◌, List, length, drop, sym, ap, refl, subst, ◌∙◌, arith}
use Rattle.executor_core.specs.Slots.{with_queue}
use Rattle.executor_core.specs.Slots.View.{entries_of, walk, slots_of, IsChain}
use Rattle.executor_core.specs.declared.task.cell.TaskId.{TaskId}
use Rattle.executor_core.proofs.LinkLemmas.{first_at, is_linked, view_linked, popped_linked, entries_kept}
use Rattle.executor_core.proofs.task.slots.Slots.pop.Goals as goal

shorter : {n : ℕ} (ids rest : List TaskId) (id : TaskId) → length ids ≡ n → ids ≡ id ∷ rest → n - 1 ≡ length rest
shorter ids rest id counted is = let long = ap length is in omega arith

pub invariant_of-self : goal.invariant_of-self
invariant_of-self g c =
    let slots = c.self.inside.slots.slots in
    let first = c.self.inside.first in
    let last = c.self.inside.last in
    let ids = walk slots c.self.inside.len first in
    let sound = c.self.invariant in
    let at = first_at slots first last ids sound.linked (λ none. c.if-self-eq0.false (sym sound.counted ∙ none)) in
    rw (c.replace-self-inside.ensures.value, c.replace-self-inside.ensures.after)
    (is_linked _ at.rest _ _ _ (popped_linked slots first last _ at.rest c.index_mut-slot.result.now (subst (IsChain slots first last) at.is sound.linked) c.index_mut-slot.ensures.value) (shorter ids at.rest _ sound.counted at.is))

pub returns-clause-rest : goal.returns-clause-rest
returns-clause-rest g c =
    let slots = c.self.inside.slots.slots in
    let first = c.self.inside.first in
    let last = c.self.inside.last in
    let ids = walk slots c.self.inside.len first in
    let sound = c.self.invariant in
    let at = first_at slots first last ids sound.linked (λ none. c.if-self-eq0.false (sym sound.counted ∙ none)) in
    rw (c.replace-self-inside.ensures.value, c.replace-self-inside.ensures.after, ← c.self.view_is)
    (view_linked _ at.rest (entries_of slots) _ _ _ (popped_linked slots first last _ at.rest c.index_mut-slot.result.now (subst (IsChain slots first last) at.is sound.linked) c.index_mut-slot.ensures.value) (shorter ids at.rest _ sound.counted at.is)
    (entries_kept slots first c.index_mut-slot.result.now _ c.index_mut-slot.ensures.value refl)
    ∙ ap (λ l. with_queue (drop 1 l) (slots_of slots first c.self.inside.len)) (sym at.is))
