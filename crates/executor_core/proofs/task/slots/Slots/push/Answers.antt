use Rattle.std.proofs.Common.{◌≡◌, ℕ, ◌+◌, ◌∷◌, ◌++◌, [], List, length, sym, ap, refl, ◌∙◌}
use Rattle.executor_core.proofs.ListLemmas.{length-push}
use Rattle.executor_core.proofs.LinkLemmas.{last_at, is_linked, view_linked, alone_linked, pushed_linked, entries_kept}
use Rattle.executor_core.specs.Slots.{IsQueue}
use Rattle.executor_core.specs.Slots.View.{entries_of, walk}
use Rattle.executor_core.specs.declared.task.cell.TaskId.{TaskId}
use Rattle.executor_core.proofs.task.slots.Slots.push.Goals.{then-self-eq0, else-self-eq0}
use Rattle.executor_core.proofs.task.slots.Slots.push.Goals as goal

longer : {n : ℕ} (ids : List TaskId) (id : TaskId) → length ids ≡ n → n + 1 ≡ length (ids ++ id ∷ [])
longer ids id counted = sym (length-push ids id ∙ ap (λ k. k + 1) counted)

pub index_mut-requires : goal.index_mut-requires
index_mut-requires g c =
    let at = last_at c.self.inside.slots.slots c.self.inside.first c.self.inside.last _ c.self.invariant.linked (λ none. c.if-self-eq0.false (sym c.self.invariant.counted ∙ none)) in
    rw at.1 refl

pub invariant_of-self : goal.invariant_of-self
invariant_of-self g c =
    let slots = c.self.inside.slots.slots in
    let first = c.self.inside.first in
    let last = c.self.inside.last in
    let ids = walk slots c.self.inside.len first in
    let sound = c.self.invariant in
    let queue : IsQueue (entries_of slots) (ids ++ c.args.id ∷ []) = rw (← c.self.view_is) at c.requires.queue in
    elim c.if-self-eq0.branch [
      | then-self-eq0 w ↦ rw w.self-inside-is (is_linked _ _ _ _ _ (alone_linked slots first last ids c.args.id sound.linked (sound.counted ∙ w.if-self-eq0.true) queue) (longer ids c.args.id sound.counted))
      | else-self-eq0 w ↦
          rw w.self-inside-is (is_linked _ _ _ _ _ (pushed_linked slots first last ids w.index_mut.result.now c.args.id sound.linked (λ none. w.if-self-eq0.false (sym sound.counted ∙ none)) queue w.index_mut.ensures.value) (longer ids c.args.id sound.counted))
    ]

pub returns : goal.returns
returns g c =
    let slots = c.self.inside.slots.slots in
    let first = c.self.inside.first in
    let last = c.self.inside.last in
    let ids = walk slots c.self.inside.len first in
    let sound = c.self.invariant in
    let queue : IsQueue (entries_of slots) (ids ++ c.args.id ∷ []) = rw (← c.self.view_is) at c.requires.queue in
    elim c.if-self-eq0.branch [
      | then-self-eq0 w ↦
          rw (w.self-inside-is, ← c.self.view_is) (view_linked _ _ _ _ _ _ (alone_linked slots first last ids c.args.id sound.linked (sound.counted ∙ w.if-self-eq0.true) queue) (longer ids c.args.id sound.counted) refl)
      | else-self-eq0 w ↦
          rw (w.self-inside-is, ← c.self.view_is)
          (view_linked _ _ _ _ _ _ (pushed_linked slots first last ids w.index_mut.result.now c.args.id sound.linked (λ none. w.if-self-eq0.false (sym sound.counted ∙ none)) queue w.index_mut.ensures.value) (longer ids c.args.id sound.counted)
          (entries_kept slots last w.index_mut.result.now _ w.index_mut.ensures.value refl))
    ]
