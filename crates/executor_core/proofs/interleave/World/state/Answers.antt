use Rattle.std.proofs.Common.{subst, sym, ap}
use Rattle.executor_core.specs.World.Log.{EachDropped}
use Rattle.executor_core.specs.World.Agreement.{CellsAgree, HandlesAgree}
use Rattle.executor_core.proofs.World.Agreement.{each_dropped, all_dropped, cells_agree}
use Rattle.executor_core.proofs.World.Handles.{handles_agree}
use Rattle.executor_core.proofs.interleave.World.state.Goals as goal

pub returns-clause-global : goal.returns-clause-global
returns-clause-global g c = ap (λ w. w.global) c.self.view_is

pub returns-clause-locals : goal.returns-clause-locals
returns-clause-locals g c = ap (λ w. w.locals) c.self.view_is

pub returns-clause-flag : goal.returns-clause-flag
returns-clause-flag g c = ap (λ w. w.flag) c.self.view_is

pub returns-clause-sleepers : goal.returns-clause-sleepers
returns-clause-sleepers g c = ap (λ w. w.sleepers) c.self.view_is

pub returns-clause-empty : goal.returns-clause-empty
returns-clause-empty g c = (
  λ all. subst (λ w. EachDropped w.log) c.self.view_is (each_dropped c.self.invariant.agree all),
  λ each. all_dropped c.self.invariant.agree (subst (λ w. EachDropped w.log) (sym c.self.view_is) each),
)

pub returns-clause-handles : goal.returns-clause-handles
returns-clause-handles g c = subst (λ w. HandlesAgree c.self.inside.core.cells w.log w.tasks) c.self.view_is (handles_agree c.self.invariant.agree)

pub returns-clause-states : goal.returns-clause-states
returns-clause-states g c = subst (λ w. CellsAgree c.self.inside.core.cells w.log) c.self.view_is (cells_agree c.self.invariant.agree)
