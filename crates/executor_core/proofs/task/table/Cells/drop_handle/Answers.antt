use Rattle.std.proofs.Common.{ap, ◌∙◌}
use Rattle.executor_core.specs.Cells.Calls.{detach_answer, cell_at}
use Rattle.executor_core.proofs.DetachLemmas.{detach_answer-after_cancel}
use Rattle.executor_core.proofs.task.table.Cells.drop_handle.Goals as goal

pub returns-clause-answer : goal.returns-clause-answer
returns-clause-answer g c =
    c.detach-output.ensures.answer ∙ ap (λ s. detach_answer (cell_at s c.args.id)) c.cancel-notice.ensures.table ∙ detach_answer-after_cancel c.args.self.now c.args.id
