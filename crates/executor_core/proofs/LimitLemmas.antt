-- What lawful limits give.
use Rattle.std.proofs.Common.{◌≡◌, ◌<◌, true}
use Rattle.std.proofs.lemmas.Bool.{and_parts, ltb-true}
use Rattle.executor_core.specs.Limits.{is_lawful}
use Rattle.executor_core.specs.declared.limits.Limits.{Limits}

-- the queue of a run has room for a task
pub lawful_local : (limits : Limits) → is_lawful limits ≡ true → 0 < limits.local
lawful_local limits lawful = ltb-true 0 limits.local (and_parts _ _ (and_parts _ _ (and_parts _ _ lawful).0).0).0
