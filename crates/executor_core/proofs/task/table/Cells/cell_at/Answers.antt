use Rattle.std.proofs.Common.{Some, None, cond, sym, ap, ◌∙◌}
use Rattle.std.proofs.lemmas.Bool.{ne_eqb}
use Rattle.executor_core.specs.Cells.Calls.{cell_at}
use Rattle.executor_core.proofs.FindLemmas.{cell_at_entry, cell_at_read}
use Rattle.executor_core.proofs.task.table.Cells.cell_at.Goals as goal
use Rattle.executor_core.proofs.task.table.Cells.cell_at.Goals.{in_default-via-in-Some+else-entry-id, in_default-via-in_default}

pub returns-in-Some : goal.returns-in-Some
returns-in-Some g c =
    sym (cell_at_entry c.self.invariant c.args.id c.in-Some.entry.now (sym c.in-Some.ensures) c.if-entry-id.true) ∙ ap (λ s. cell_at s c.args.id) c.self.view_is

pub returns-in_default : goal.returns-in_default
returns-in_default g c =
    elim c.in_default.branch [
      | in_default-via-in-Some+else-entry-id w ↦
          ap (λ b. cond b (Some w.in-Some.entry.now.cell) None) (sym (ne_eqb _ _ w.if-entry-id.false))
          ∙ cell_at_read c.self.invariant c.self.inside.queues.state c.self.view_is c.args.id w.in-Some.ensures
      | in_default-via-in_default w ↦ cell_at_read c.self.invariant c.self.inside.queues.state c.self.view_is c.args.id w.in_default.ensures
    ]
