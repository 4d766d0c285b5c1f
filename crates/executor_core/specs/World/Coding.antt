-- How an `Execution` is coded.
use Rattle.std.specs.Prelude.{◌≡◌, ℕ, zero, suc, Bool, List, Option, refl, true, false, ◌⊎◌}
use Rattle.std.proofs.Common.{inl, inr}
use Rattle.std.specs.Coded.{Coded, code_by, coded×, coded⊎, coded_ℕ, coded_list, coded_option, coded_bool}
use Rattle.executor_core.specs.Queues.{RunnerQueue, runner_queue_code}
use Rattle.executor_core.specs.Sleepers.{SleeperList, sleeper_list_code}
use Rattle.executor_core.specs.World.{Execution}
use Rattle.executor_core.specs.declared.interleave.event.Purpose.{Purpose}
use Rattle.executor_core.specs.declared.interleave.event.Purpose.TheVariants.{ToPoll, ToDrop}
use Rattle.executor_core.specs.declared.interleave.entry.TaskInfo.{TaskInfo}
use Rattle.executor_core.specs.declared.interleave.ticker.ListChange.TheVariants.{Slept, Woke, Dropped as LetGo}
use Rattle.executor_core.specs.declared.interleave.ticker.Phase.{Phase}
use Rattle.executor_core.specs.declared.interleave.ticker.Phase.TheVariants.{Rest, Search, Sleep, Wake, Store, Leaving, Forgotten, Ended}
use Rattle.executor_core.specs.declared.interleave.ticker.Ticker.{Ticker}
use Rattle.executor_core.specs.declared.interleave.event.Event.{Event}
use Rattle.executor_core.specs.declared.interleave.event.Event.TheVariants.{Spawned, Woken, Cancelled, Took, Returned, Finished, Dropped, Got}

purpose_bool : Purpose → Bool
purpose_bool ToPoll = true
purpose_bool ToDrop = false

bool_purpose : Bool → Purpose
bool_purpose true = ToPoll
bool_purpose false = ToDrop

module _ {T : Type 0} where
  pub event_parts : Event T → (ℕ × ℕ) ⊎ ((ℕ × Bool) ⊎ ((ℕ × T) ⊎ (ℕ × T)))
  event_parts (Spawned n) = inl (0, n)
  event_parts (Woken n) = inl (1, n)
  event_parts (Cancelled n) = inl (2, n)
  event_parts (Returned n) = inl (3, n)
  event_parts (Dropped n) = inl (4, n)
  event_parts (Took n p) = inr (inl (n, purpose_bool p))
  event_parts (Finished n t) = inr (inr (inl (n, t)))
  event_parts (Got n t) = inr (inr (inr (n, t)))

  plain_event : ℕ → ℕ → Event T
  plain_event zero n = Spawned n
  plain_event (suc zero) n = Woken n
  plain_event (suc (suc zero)) n = Cancelled n
  plain_event (suc (suc (suc zero))) n = Returned n
  plain_event (suc (suc (suc (suc k)))) n = Dropped n

  pub parts_event : (ℕ × ℕ) ⊎ ((ℕ × Bool) ⊎ ((ℕ × T) ⊎ (ℕ × T))) → Event T
  parts_event (inl p) = plain_event p.0 p.1
  parts_event (inr (inl p)) = Took p.0 (bool_purpose p.1)
  parts_event (inr (inr (inl p))) = Finished p.0 p.1
  parts_event (inr (inr (inr p))) = Got p.0 p.1

  pub parts_event-event_parts : (e : Event T) → parts_event (event_parts e) ≡ e
  unfolding event_parts parts_event plain_event purpose_bool bool_purpose
  parts_event-event_parts (Spawned n) = refl
  parts_event-event_parts (Woken n) = refl
  parts_event-event_parts (Cancelled n) = refl
  parts_event-event_parts (Returned n) = refl
  parts_event-event_parts (Dropped n) = refl
  parts_event-event_parts (Took n ToPoll) = refl
  parts_event-event_parts (Took n ToDrop) = refl
  parts_event-event_parts (Finished n t) = refl
  parts_event-event_parts (Got n t) = refl

abbrev pub unit_code : Coded (Unit {0})
unit_code = code_by ℕ coded_ℕ (λ _. 0) (λ _. tt) (λ _. refl)

abbrev pub info_code : Coded TaskInfo
info_code =
    code_by
    (ℕ × (Bool × (Bool × Bool)))
    (coded× coded_ℕ (coded× coded_bool (coded× coded_bool coded_bool)))
    (λ i. (i.slot, (i.has_handle, (i.awaited, i.to_drop))))
    (λ q. record { slot = q.0; has_handle = q.1.0; awaited = q.1.1.0; to_drop = q.1.1.1 })
    (λ _. refl)

pub phase_parts : Phase → ℕ × Bool
phase_parts Rest = (0, false)
phase_parts Search = (1, false)
phase_parts Sleep = (2, false)
phase_parts Wake = (3, false)
phase_parts Ended = (4, false)
phase_parts (Store Slept) = (5, false)
phase_parts (Store (Woke notified)) = (6, notified)
phase_parts (Store (LetGo notified)) = (7, notified)
phase_parts Leaving = (8, false)
phase_parts Forgotten = (9, false)

numbered_phase : ℕ → Bool → Phase
numbered_phase zero b = Rest
numbered_phase (suc zero) b = Search
numbered_phase (suc (suc zero)) b = Sleep
numbered_phase (suc (suc (suc zero))) b = Wake
numbered_phase (suc (suc (suc (suc zero)))) b = Ended
numbered_phase (suc (suc (suc (suc (suc zero))))) b = Store Slept
numbered_phase (suc (suc (suc (suc (suc (suc zero)))))) b = Store (Woke b)
numbered_phase (suc (suc (suc (suc (suc (suc (suc zero))))))) b = Store (LetGo b)
numbered_phase (suc (suc (suc (suc (suc (suc (suc (suc zero)))))))) b = Leaving
numbered_phase (suc (suc (suc (suc (suc (suc (suc (suc (suc k))))))))) b = Forgotten

pub parts_phase : ℕ × Bool → Phase
parts_phase p = numbered_phase p.0 p.1

pub parts_phase-phase_parts : (p : Phase) → parts_phase (phase_parts p) ≡ p
unfolding phase_parts parts_phase numbered_phase
parts_phase-phase_parts Rest = refl
parts_phase-phase_parts Search = refl
parts_phase-phase_parts Sleep = refl
parts_phase-phase_parts Wake = refl
parts_phase-phase_parts Ended = refl
parts_phase-phase_parts (Store Slept) = refl
parts_phase-phase_parts (Store (Woke notified)) = refl
parts_phase-phase_parts (Store (LetGo notified)) = refl
parts_phase-phase_parts Leaving = refl
parts_phase-phase_parts Forgotten = refl

abbrev pub phase_code : Coded Phase
phase_code = code_by (ℕ × Bool) (coded× coded_ℕ coded_bool) phase_parts parts_phase parts_phase-phase_parts

abbrev pub ticker_code : Coded Ticker
ticker_code =
    code_by
    (Phase × (ℕ × Option ℕ))
    (coded× phase_code (coded× coded_ℕ (coded_option coded_ℕ)))
    (λ t. (t.phase, (t.number, t.runner)))
    (λ q. record { phase = q.0; number = q.1.0; runner = q.1.1 })
    (λ _. refl)

module _ {T : Type 0} (t : Coded T) where
  abbrev pub event_code : Coded (Event T)
  event_code = code_by ((ℕ × ℕ) ⊎ ((ℕ × Bool) ⊎ ((ℕ × T) ⊎ (ℕ × T)))) (coded⊎ (coded× coded_ℕ coded_ℕ) (coded⊎ (coded× coded_ℕ coded_bool) (coded⊎ (coded× coded_ℕ t) (coded× coded_ℕ t)))) event_parts parts_event parts_event-event_parts

  abbrev pub execution_code : Coded (Execution T)
  execution_code =
      code_by
      (List (Event T) × (ℕ × (ℕ × (ℕ × (List ℕ × (List (RunnerQueue ℕ) × (ℕ × (ℕ × (Bool × (SleeperList (Unit {0}) × (List TaskInfo × (List Ticker × (Option ℕ × (Bool × Bool))))))))))))))
      (coded× (coded_list event_code) (coded× coded_ℕ (coded× coded_ℕ (coded× coded_ℕ (coded× (coded_list coded_ℕ) (coded× (coded_list (runner_queue_code coded_ℕ)) (coded× coded_ℕ (coded× coded_ℕ (coded× coded_bool (coded× (sleeper_list_code unit_code) (coded× (coded_list info_code) (coded× (coded_list ticker_code) (coded× (coded_option coded_ℕ) (coded× coded_bool coded_bool))))))))))))))
      (λ s. (s.log, (s.accepted, (s.limit, (s.local, (s.global, (s.locals, (s.notices, (s.picks, (s.flag, (s.sleepers, (s.tasks, (s.tickers, (s.holder, (s.closed, s.leaked)))))))))))))))
      (λ q. record { log = q.0; accepted = q.1.0; limit = q.1.1.0; local = q.1.1.1.0; global = q.1.1.1.1.0; locals = q.1.1.1.1.1.0; notices = q.1.1.1.1.1.1.0; picks = q.1.1.1.1.1.1.1.0; flag = q.1.1.1.1.1.1.1.1.0; sleepers = q.1.1.1.1.1.1.1.1.1.0; tasks = q.1.1.1.1.1.1.1.1.1.1.0; tickers = q.1.1.1.1.1.1.1.1.1.1.1.0; holder = q.1.1.1.1.1.1.1.1.1.1.1.1.0; closed = q.1.1.1.1.1.1.1.1.1.1.1.1.1.0; leaked = q.1.1.1.1.1.1.1.1.1.1.1.1.1.1 })
      (λ _. refl)
