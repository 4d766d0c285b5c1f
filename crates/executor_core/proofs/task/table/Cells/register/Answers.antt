use Rattle.std.proofs.Common.{◌≡◌, true, sym, subst}
use Rattle.std.specs.Prelude.{◌↔◌, ◌&&◌, nat_lt, not, IsOk}
use Rattle.executor_core.specs.Cells.Calls.{may_register}
use Rattle.executor_core.proofs.QueueLemmas.{is_registered-map}
use Rattle.executor_core.proofs.task.table.Cells.register.Goals as goal

pub returns-clause-variant : goal.returns-clause-variant
returns-clause-variant g c =
    let q = c.self.inside.queues.state in
    subst (λ t. IsOk c.register.result ↔ (may_register t c.args.key.number ≡ true)) c.self.view_is
    (subst (λ b. IsOk c.register.result ↔ ((nat_lt 0 q.free_places && not b) ≡ true)) (sym (is_registered-map (λ id. id.number) c.args.key.number q.lists.locals)) c.register.ensures.variant)
