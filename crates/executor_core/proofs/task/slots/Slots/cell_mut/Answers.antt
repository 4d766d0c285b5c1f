use Rattle.std.proofs.Common.{Some, set, refl, sym, ap, ◌∙◌}
use Rattle.executor_core.specs.Slots.{HasCell}
use Rattle.executor_core.specs.Slots.View.{entries_of}
use Rattle.executor_core.proofs.LinkLemmas.{is_linked, view_linked, changed_linked, entries-set, entry_at, named_entry}
use Rattle.executor_core.proofs.task.slots.Slots.cell_mut.Goals as goal

pub invariant_of-self-lent : goal.invariant_of-self-lent
invariant_of-self-lent g c w =
    let sound = c.self.invariant in
    is_linked _ _ _ _ _ (changed_linked c.self.inside.slots.slots c.args.id.slot c.index_mut-slot.result.now w c.self.inside.first c.self.inside.last _ sound.linked c.index_mut-slot.ensures.value) (sym sound.counted)

pub returns : goal.returns
returns g c =
    let slots = c.self.inside.slots.slots in
    let s = c.index_mut-slot.result.now in
    let there = c.index_mut-slot.ensures.value in
    let sound = c.self.invariant in
    let has : HasCell (entries_of slots) c.args.id = rw (← c.self.view_is) at c.requires in
    let named = named_entry slots c.args.id s has there in
    let number = ap (λ e. e.number) named in (
      (
        refl,
        λ w. rw (← c.self.view_is)
            (view_linked _ _ _ _ _ _ (changed_linked slots c.args.id.slot s w c.self.inside.first c.self.inside.last _ sound.linked there) (sym sound.counted)
            (entries-set slots c.args.id.slot _ ∙ ap (λ n. set (entries_of slots) c.args.id.slot (Some (record { number = n; cell = w }))) number)),
      ),
      record { writes_back = tt; value = rw (← c.self.view_is) (entry_at slots c.args.id.slot s there ∙ ap Some named) },
    )
