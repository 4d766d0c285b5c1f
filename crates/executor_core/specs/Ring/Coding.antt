-- How an `IdRing` is coded.
use Rattle.std.specs.Prelude.{ℕ, List, refl}
use Rattle.std.specs.Coded.{Coded, code_by, coded×, coded_ℕ, coded_list}
use Rattle.executor_core.specs.Ring.{IdRing}
use Rattle.executor_core.specs.declared.task.cell.TaskId.{TaskId}

abbrev pub task_id_code : Coded TaskId
task_id_code = code_by (ℕ × ℕ) (coded× coded_ℕ coded_ℕ) (λ id. (id.number, id.slot)) (λ q. record { number = q.0; slot = q.1 }) (λ _. refl)

abbrev pub id_ring_code : Coded IdRing
id_ring_code = code_by (List TaskId × ℕ) (coded× (coded_list task_id_code) coded_ℕ) (λ r. (r.ids, r.capacity)) (λ q. record { ids = q.0; capacity = q.1 }) (λ _. refl)
