use Rattle.std.proofs.Common.{sym, subst}
use Rattle.std.proofs.lemmas.Bool.{eqb-true, eq-eqb}
use Rattle.executor_core.specs.Cells.View.{IsSound}
use Rattle.executor_core.specs.Queues.{all_entries}
use Rattle.executor_core.specs.Cells.Calls.{AllDropped}
use Rattle.executor_core.proofs.UndroppedLemmas.{all_dropped, none_undropped}
use Rattle.executor_core.proofs.task.table.Cells.is_empty.Goals as goal

pub returns : goal.returns
returns g c = (
  λ zero. subst AllDropped c.self.view_is (all_dropped (subst (λ u. IsSound c.self.inside.next c.self.inside.queues.slots (all_entries c.self.inside.queues.state.lists) u) (eqb-true c.self.inside.undropped 0 zero) c.self.invariant) c.self.inside.queues.state c.self.inside.closed),
  λ dropped. eq-eqb c.self.inside.undropped 0 (none_undropped c.self.invariant c.self.inside.queues.state c.self.inside.closed (subst AllDropped (sym c.self.view_is) dropped)),
)
