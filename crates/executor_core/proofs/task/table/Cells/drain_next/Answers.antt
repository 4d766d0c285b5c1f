use Rattle.std.proofs.Common.{◌≡◌, ◌∙◌, true, sym}
use Rattle.std.proofs.lemmas.Bool.{cond-true}
use Rattle.executor_core.specs.Cells.Calls.{after_take}
use Rattle.executor_core.proofs.task.table.Cells.drain_next.Goals as goal

pub returns-clause-table : goal.returns-clause-table
returns-clause-table g c =
    let closed : c.args.self.now.closed ≡ true = rw (← c.self.view_is) cc in
    c.take_global.ensures.table ∙ sym (cond-true c.args.self.now.closed (after_take c.args.self.now) c.args.self.now closed)

pub returns-clause-some : goal.returns-clause-some
returns-clause-some g c =
    let closed : c.args.self.now.closed ≡ true = rw (← c.self.view_is) cc in
    (closed, c.in_ok-taken.ensures.some)
