-- How a `Table` of cells is coded.
use Rattle.std.specs.Prelude.{◌≡◌, ℕ, Bool, List, Option, refl, true, false, ◌⊎◌}
use Rattle.std.specs.Coded.{Coded, code_by, coded×, coded⊎, coded_ℕ, coded_list, coded_option, coded_bool}
use Rattle.std.proofs.Common.{inl, inr}
use Rattle.std.specs.Ordering.{nat_cmp}
use Rattle.std.specs.FinMap as map
use Rattle.executor_core.specs.Cells.{Slotted, Table}
use Rattle.executor_core.specs.Queues.{RunnerQueue, runner_queue_code}
use Rattle.executor_core.specs.declared.task.cell.CellState.{CellState}
use Rattle.executor_core.specs.declared.task.cell.CellState.TheVariants.{Idle, Scheduled, Held, Finished, Gone}

module _ {P T : Type 0} where
  pub state_cases : CellState P T → P ⊎ (P ⊎ (T ⊎ Bool))
  state_cases (Idle p) = inl p
  state_cases (Scheduled p) = inr (inl p)
  state_cases (Finished t) = inr (inr (inl t))
  state_cases Held = inr (inr (inr true))
  state_cases Gone = inr (inr (inr false))

  pub case_state : P ⊎ (P ⊎ (T ⊎ Bool)) → CellState P T
  case_state (inl p) = Idle p
  case_state (inr (inl p)) = Scheduled p
  case_state (inr (inr (inl t))) = Finished t
  case_state (inr (inr (inr true))) = Held
  case_state (inr (inr (inr false))) = Gone

  pub case_state-state_cases : (s : CellState P T) → case_state (state_cases s) ≡ s
  unfolding case_state state_cases
  case_state-state_cases (Idle p) = refl
  case_state-state_cases (Scheduled p) = refl
  case_state-state_cases (Finished t) = refl
  case_state-state_cases Held = refl
  case_state-state_cases Gone = refl

  abbrev pub state_code : Coded P → Coded T → Coded (CellState P T)
  state_code p t = code_by (P ⊎ (P ⊎ (T ⊎ Bool))) (coded⊎ p (coded⊎ p (coded⊎ t coded_bool))) state_cases case_state case_state-state_cases

module _ {P T W : Type 0} (p : Coded P) (t : Coded T) (w : Coded W) where
  abbrev pub slotted_code : Coded (Slotted P T W)
  slotted_code =
      code_by
      (ℕ × (CellState P T × (Bool × (Bool × (Bool × Option W)))))
      (coded× coded_ℕ (coded× (state_code p t) (coded× coded_bool (coded× coded_bool (coded× coded_bool (coded_option w))))))
      (λ s. (s.slot, (s.cell.state, (s.cell.cancelled, (s.cell.woken, (s.cell.has_handle, s.cell.awaiter))))))
      (λ q. record { slot = q.0; cell = record { state = q.1.0; cancelled = q.1.1.0; woken = q.1.1.1.0; has_handle = q.1.1.1.1.0; awaiter = q.1.1.1.1.1 } })
      (λ _. refl)

  abbrev pub table_code : Coded (Table P T W)
  table_code =
      code_by
      (ℕ × (map.FinMap nat_cmp (Slotted P T W) × (List ℕ × (List (RunnerQueue ℕ) × (ℕ × (ℕ × Bool))))))
      (coded× coded_ℕ (coded× (map.code coded_ℕ slotted_code) (coded× (coded_list coded_ℕ) (coded× (coded_list (runner_queue_code coded_ℕ)) (coded× coded_ℕ (coded× coded_ℕ coded_bool))))))
      (λ s. (s.next, (s.cells, (s.global, (s.locals, (s.next_runner, (s.free_places, s.closed)))))))
      (λ q. record { next = q.0; cells = q.1.0; global = q.1.1.0; locals = q.1.1.1.0; next_runner = q.1.1.1.1.0; free_places = q.1.1.1.1.1.0; closed = q.1.1.1.1.1.1 })
      (λ _. refl)
