-- A lone runner takes tasks in the order in which they were queued.
use Rattle.std.proofs.Common.{◌≡◌, ◌≢◌, ℕ, Bool, true, false, cond, List, [], ◌∷◌, ◌++◌, length, map, drop, Option, Some, None, refl, sym, ap, ◌∙◌, subst, inl, inr, append_assoc, arith}
use Rattle.std.proofs.lemmas.Bool.{cases_eq, cases_Bool, and_parts, not-true}
use Rattle.std.proofs.lemmas.List.{append-nil}
use Rattle.std.specs.List.{filter_map}
use Rattle.executor_core.specs.Queues.{QueueLists, entries_of, search, search_any, global_front}
use Rattle.executor_core.specs.Sleepers.{is_notified_number}
use Rattle.executor_core.specs.World.{Execution}
use Rattle.executor_core.specs.World.Log.{cancelled, idle, woken, dropped, outputs}
use Rattle.executor_core.specs.World.Promises.{queues}
use Rattle.executor_core.specs.World.Phases.{is_awake, has_ended}
use Rattle.executor_core.specs.World.Tickers.{stored, runner_of}
use Rattle.executor_core.specs.World.Steps.{row, Spawns, spawn_row, wake_row, cancel_row, drop_handle_row, ready_row, detach_row, dropped_row, exchange_row, notify_row, handle_row, tick_row, run_row, poll_row, sleep_row, yield_row, remove_row, store_row, drop_row, fair_row, unregister_row, Makes, enabled, Does, StepTo, FoldTo, logged, informed, queued_where, notice_reply, end_reply, return_reply, take_reply, take_row, take_any_row, give_row, placed_where, drain_row, found_row, found_by, search_to_row, idle_ones, ticker}
use Rattle.executor_core.specs.World.Order.{new_task, noticed_task, requeued_task, taken_task, woken_task, woken_idle, queued_by, taken_by, queued, taken, searcher, IsAlone, line, LoneStep, LoneOrder}
use Rattle.executor_core.specs.declared.interleave.entry.TaskInfo.{TaskInfo}
use Rattle.executor_core.specs.declared.interleave.event.Event.{Event}
use Rattle.executor_core.specs.declared.interleave.event.Event.TheVariants.{Returned, Woken}
use Rattle.executor_core.specs.declared.interleave.request.Step.{Step}
use Rattle.executor_core.specs.declared.interleave.request.Step.TheVariants.{Spawn, Wake, TryTick, TryAny, Pend, Ready, PollHandle, Cancel, Detach, DropHandle, Dropped as DropDone, Exchange, Notify, Tick, Run, Register, Poll, Search, Sleep, Yield, Remove, Store, Fair, Unregister, Drop, Close, Drain, Leak}
use Rattle.executor_core.specs.declared.interleave.reply.Reply.{Reply}
use Rattle.executor_core.specs.declared.interleave.reply.Reply.TheVariants as reply
use Rattle.executor_core.proofs.World.OrderQueues.{FindsFront, search_front, search-other, line-fair, alone_registered, line-unregistered}

-- what the replies say of a task
module _ (T : Type 0) where
  noticed-notice : (n : ℕ) (b : Bool) → noticed_task n (notice_reply {T = T} b) ≡ cond b (n ∷ []) []
  noticed-notice n b = grind arith

  noticed-end : (n : ℕ) (b : Bool) (o : Option T) → noticed_task n (end_reply b o) ≡ cond b (n ∷ []) []
  noticed-end n b o = grind arith

  requeued-return : (n : ℕ) (b : Bool) → requeued_task (return_reply {T = T} n b) ≡ cond b (n ∷ []) []
  requeued-return n b = grind arith

  taken-take : (n : ℕ) (cancel : Bool) → taken_task (take_reply {T = T} n cancel) ≡ n ∷ []
  taken-take n cancel = grind arith

-- what a log says of the tasks that were woken
module _ (T : Type 0) where
  woken-all : (order : List ℕ) → filter_map (woken_task {T = T}) (map (λ n. Woken n) order) ≡ order
  woken-all [] = refl
  woken-all (n ∷ order) = ap (λ l. n ∷ l) (woken-all order)

module _ {T : Type 0} where
  since : (before more : List (Event T)) → drop (length before) (before ++ more) ≡ more
  since [] more = refl
  since (e ∷ before) more = since before more

  woken_now : (old new : Execution T) (order : List ℕ) → new.log ≡ old.log ++ map (λ n. Woken n) order → woken_idle old new ≡ idle_ones order old
  woken_now old new order is = ap (λ l. idle_ones (filter_map woken_task l) old) (ap (drop (length old.log)) is ∙ since old.log (map (λ n. Woken n) order)) ∙ ap (λ l. idle_ones l old) (woken-all T order)

-- a step that is refused queues nothing, and takes nothing
module _ {P T : Type 0} where
  refused_queued : (step : Step P T) (old new : Execution T) (answer : Reply T) → new ≡ old → new_task answer ≡ [] → ((n : ℕ) → noticed_task n answer ≡ []) → requeued_task answer ≡ [] → queued_by step old answer new ≡ []
  refused_queued (Spawn p) old new answer same spawns notices requeues = spawns
  refused_queued (Wake n) old new answer same spawns notices requeues = notices n
  refused_queued (Cancel n) old new answer same spawns notices requeues = notices n
  refused_queued (DropHandle n) old new answer same spawns notices requeues = notices n
  refused_queued (Pend n) old new answer same spawns notices requeues = requeues
  refused_queued Leak old new answer same spawns notices requeues = woken_now old new [] (ap (λ (w : Execution T). w.log) same ∙ sym (append-nil old.log))
  refused_queued _ old new answer same spawns notices requeues = refl

  refused_taken : (step : Step P T) (answer : Reply T) → taken_task answer ≡ [] → taken_by step answer ≡ []
  refused_taken step answer takes = grind arith

-- the queues of worlds that differ in something else
module _ {T : Type 0} where
  queues-cond : (b : Bool) (c d : Reply T × Execution T) (q : QueueLists ℕ) → queues c.1 ≡ q → queues d.1 ≡ q → queues (cond b c d).1 ≡ q
  queues-cond b c d q first second = grind arith

  queues-placed : (b : Bool) (w : Execution T) → queues (placed_where b w) ≡ queues w
  queues-placed b w = grind arith

  queues-found : (awake : Bool) (k : ℕ) (w : Execution T) → queues (found_row awake k w) ≡ queues w
  queues-found awake k w = grind (arith, queues-placed)

  queues-give : (n : ℕ) (given : List T) (w : Execution T) → queues (give_row n given w).1 ≡ queues w
  queues-give n given w = grind arith

-- what a step makes of the line of a runner that is alone before and after it
module _ {T : Type 0} (r : ℕ) (old new : Execution T) (answer : Reply T) (before : IsAlone r old.locals) (after : IsAlone r new.locals) where
  -- these were queued, and these were taken
  abbrev Moves : List ℕ → List ℕ → Type 0
  Moves queued taken = line r (queues old) ++ queued ≡ taken ++ line r (queues new)

  abbrev Leads : Reply T × Execution T → Type 0
  Leads p = row p answer new

  lines-row : (p : Reply T × Execution T) → Leads p → line r (queues new) ≡ line r (queues p.1)
  lines-row p does = ap (λ w. line r (queues w)) does.1

  -- nothing was queued or taken
  same_line : line r (queues new) ≡ line r (queues old) → Moves [] []
  same_line same = append-nil (line r (queues old)) ∙ sym same

  quiet : (p : Reply T × Execution T) → Leads p → queues p.1 ≡ queues old → Moves [] []
  quiet p does same = same_line (lines-row p does ∙ ap (line r) same)

  -- these stand at the global end then
  abbrev queued_last : List ℕ → QueueLists ℕ
  queued_last queued = record { global = old.global ++ queued; locals = old.locals }

  queueing : (queued : List ℕ) → queues new ≡ queued_last queued → Moves queued []
  queueing queued is = append_assoc (entries_of r old.locals) old.global queued ∙ sym (ap (line r) is)

  -- this one stands there, if this holds
  abbrev queued_if : Bool → ℕ → QueueLists ℕ
  queued_if b n = record { global = cond b (old.global ++ n ∷ []) old.global; locals = old.locals }

  queued_if-last : (b : Bool) (n : ℕ) → queued_if b n ≡ queued_last (cond b (n ∷ []) [])
  queued_if-last b n = grind (arith, append-nil)

  queueing_if : (b : Bool) (n : ℕ) (queued : Reply T → List ℕ) (p : Reply T × Execution T) → Leads p → queues p.1 ≡ queued_if b n → queued p.0 ≡ cond b (n ∷ []) [] → Moves (queued answer) []
  queueing_if b n queued p does is says = subst (λ l. Moves l []) (sym (ap queued does.0 ∙ says)) (queueing (cond b (n ∷ []) []) (ap queues does.1 ∙ is ∙ queued_if-last b n))

  pending : (cancel woke : Bool) (n : ℕ) (i : TaskInfo) → Leads (cond cancel (reply.Drop n, informed n i old) (return_reply n woke, queued_where woke n (logged (Returned n) old))) → Moves (requeued_task answer) []
  pending true woke n i does = queueing_if false n requeued_task (reply.Drop n, informed n i old) does refl refl
  pending false woke n i does = queueing_if woke n requeued_task (return_reply n woke, queued_where woke n (logged (Returned n) old)) does refl (requeued-return T n woke)

  -- another one takes nothing, if this runner takes what is taken
  takes_none : (n : ℕ) (cancel : Bool) → answer ≡ take_reply n cancel → (taken_task answer ≢ [] → ⊥) → ⊥
  takes_none n cancel is never = never (λ none. let one : n ∷ [] ≡ [] = sym (ap taken_task is ∙ taken-take T n cancel) ∙ none in cc)

  no_take : (p : Reply T × Execution T) → Leads p → taken_task p.0 ≡ [] → line r (queues p.1) ≡ line r (queues old) → Moves [] (taken_task answer)
  no_take p does none same = subst (Moves []) (sym (ap taken_task does.0 ∙ none)) (same_line (lines-row p does ∙ same))

  ticking : (global : List ℕ) → Leads (take_row global old) → (taken_task answer ≢ [] → ⊥) → Moves [] (taken_task answer)
  ticking global does never = grind (arith, no_take, takes_none)

  ticking_any : (found : Option ℕ × QueueLists ℕ) → Leads (take_any_row found old) → (taken_task answer ≢ [] → ⊥) → Moves [] (taken_task answer)
  ticking_any found does never = grind (arith, no_take, takes_none)

  draining : (global : List ℕ) → Leads (drain_row global old) → (taken_task answer ≢ [] → ⊥) → Moves [] (taken_task answer)
  draining global does never = grind (arith, no_take, takes_none)

  searching_global : (k : ℕ) (global : List ℕ) → Leads (search_to_row k (global_front global (queues old)) old) → (taken_task answer ≢ [] → ⊥) → Moves [] (taken_task answer)
  searching_global k global does never = grind (arith, no_take, takes_none)

  searching_to : (k : ℕ) (found : Option ℕ × QueueLists ℕ) → FindsFront (line r (queues old)) r found → Leads (search_to_row k found old) → Moves [] (taken_task answer)
  searching_to k found front does = grind (arith, no_take, lines-row, queues-found, taken-take, append-nil)

  searching : (runner : Option ℕ) (k word : ℕ) → Leads (search_to_row k (found_by runner word (queues old)) old) → (taken_task answer ≢ [] → runner ≡ Some r) → Moves [] (taken_task answer)
  searching None k word does taker = searching_global k old.global does (λ some. let h = taker some in cc)
  searching (Some s) k word does taker = elim (cases_eq s r) [
    | inl same ↦ searching_to k (search s word (queues old)) (subst (λ j. FindsFront (line r (queues old)) r (search j word (queues old))) (sym same) (search_front r word (queues old) before)) does
    | inr far ↦ searching_global k old.global (subst (λ found. Leads (search_to_row k found old)) (search-other r s word far (queues old) before) does) (λ some. far (let h = taker some in cc))
  ]

  making : (change : Execution T → Execution T) → queues (change old) ≡ queues old → Makes change old answer new → Moves [] []
  making change same made = grind (arith, same_line, quiet)

  spawning : Spawns old answer new → Moves (new_task answer) []
  spawning (inl refused) = subst (λ l. Moves l []) (sym (ap new_task refused.0)) (same_line (ap (λ w. line r (queues w)) refused.1))
  spawning (inr made) = queueing_if true (length old.tasks) new_task (reply.Task (length old.tasks), spawn_row made.0 old) (made.2, made.3) refl refl

  -- an enabled step
  done : {P : Type 0} (step : Step P T) → enabled step old ≡ true → new.closed ≡ old.closed → Does step old answer new → (taken_by step answer ≢ [] → searcher step old ≡ Some r) → Moves (queued_by step old answer new) (taken_by step answer)
  done (Spawn p) on goes_on does taker = spawning does
  done (Wake n) on goes_on does taker = queueing_if (idle n old.log) n (noticed_task n) (wake_row n old) does refl (noticed-notice T n (idle n old.log))
  done (Cancel n) on goes_on does taker = queueing_if (idle n old.log) n (noticed_task n) (cancel_row n old) does refl (noticed-notice T n (idle n old.log))
  done (DropHandle n) on goes_on does taker = queueing_if (idle n old.log) n (noticed_task n) (drop_handle_row n old) does refl (noticed-end T n (idle n old.log) _)
  done (Pend n) on goes_on does taker = pending (cancelled n old.log) (woken n old.log) n _ does
  done TryTick on goes_on does taker = ticking old.global does (λ some. let h = taker some in cc)
  done TryAny on goes_on does taker = ticking_any (search_any (queues old)) does (λ some. let h = taker some in cc)
  done (Search k word) on goes_on does taker = searching (ticker k old).runner k word does taker
  done (Fair k) on goes_on does taker = same_line (lines-row (fair_row k old) does ∙ line-fair r (runner_of (ticker k old)) (queues old) before)
  done (Register k) on goes_on does taker = absurd (alone_registered r (runner_of (ticker k old)) old.local (queues old) before (subst (λ w. IsAlone r w.locals) does.1 after))
  done (Unregister k) on goes_on does taker = same_line (lines-row (unregister_row k old) does ∙ line-unregistered r (runner_of (ticker k old)) (queues old) before (subst (λ w. IsAlone r w.locals) does.1 after))
  done (PollHandle n) on goes_on does taker = quiet (handle_row n old) does (queues-cond (dropped n old.log) _ _ (queues old) (queues-give n (outputs n old.log) old) refl)
  done (Ready n t) on goes_on does taker = quiet (ready_row n t old) does refl
  done (Detach n) on goes_on does taker = quiet (detach_row n old) does refl
  done (DropDone n) on goes_on does taker = quiet (dropped_row n old) does refl
  done Exchange on goes_on does taker = quiet (exchange_row old) does refl
  done Notify on goes_on does taker = quiet (notify_row old) does refl
  done Tick on goes_on does taker = making tick_row refl does
  done Run on goes_on does taker = making run_row refl does
  done (Poll k) on goes_on does taker = quiet (poll_row k old) does refl
  done (Sleep k) on goes_on does taker = quiet (sleep_row k old) does (queues-cond (is_awake (ticker k old)) _ _ (queues old) refl (queues-cond (is_notified_number old.sleepers (ticker k old).number) _ _ (queues old) refl refl))
  done (Yield k) on goes_on does taker = quiet (yield_row k old) does refl
  done (Remove k) on goes_on does taker = quiet (remove_row k old) does refl
  done (Store k) on goes_on does taker = quiet (store_row k old) does (queues-placed (has_ended (stored (ticker k old)).phase) _)
  done Drain on goes_on does taker = draining old.global does (λ some. let h = taker some in cc)
  done Leak on goes_on does taker = let order = does.0 in subst (λ l. Moves l []) (sym (woken_now old new order (ap (λ (w : Execution T). w.log) does.2.1))) (queueing (idle_ones order old) (ap queues does.2.1))
  done Close on goes_on does taker = grind (arith, not-true, and_parts)
  done (Drop k) on goes_on does taker = quiet (drop_row k old) does (queues-cond (is_awake (ticker k old)) _ _ (queues old) refl refl)

  refused : {P : Type 0} (step : Step P T) (a : Reply T) → (answer ≡ a) × (new ≡ old) → queued_by step old a new ≡ [] → taken_by step a ≡ [] → Moves (queued_by step old answer new) (taken_by step answer)
  refused step a is none_queued none_taken = subst (λ l. Moves l (taken_by step answer)) (sym (ap (λ a. queued_by step old a new) is.0 ∙ none_queued)) (subst (Moves []) (sym (ap (taken_by step) is.0 ∙ none_taken)) (same_line (ap (λ w. line r (queues w)) is.1)))

  -- a step that is refused, or done
  one_step : {P : Type 0} (step : Step P T) → StepTo old step answer new → new.closed ≡ old.closed → (taken_by step answer ≢ [] → searcher step old ≡ Some r) → Moves (queued_by step old answer new) (taken_by step answer)
  one_step step to goes_on taker = elim (cases_eq old.accepted old.limit) [
    | inl full ↦ refused step reply.LogFull (to.full full) (refused_queued step old new reply.LogFull (to.full full).1 refl (λ n. refl) refl) (refused_taken step reply.LogFull refl)
    | inr far ↦ elim (cases_Bool (enabled step old)) [
      | inl on ↦ done step on goes_on (to.done far on) taker
      | inr off ↦ refused step reply.NotNow (to.not_now far off) (refused_queued step old new reply.NotNow (to.not_now far off).1 refl (λ n. refl) refl) (refused_taken step reply.NotNow refl)
    ]
  ]

joined : (a b c q t qs ts : List ℕ) → a ++ q ≡ t ++ b → b ++ qs ≡ ts ++ c → a ++ (q ++ qs) ≡ (t ++ ts) ++ c
joined a b c q t qs ts first rest = sym (append_assoc a q qs) ∙ ap (λ l. l ++ qs) first ∙ append_assoc t b qs ∙ ap (λ l. t ++ l) rest ∙ sym (append_assoc t ts c)

module _ {P T : Type 0} where
  pub lone_order : (old : Execution T) (steps : List (Step P T)) (answers : List (Reply T)) (new : Execution T) → LoneOrder old steps answers new
  lone_order old steps answers new r run = by_turns old steps answers run.0 run.1
    where
      by_turns : (old : Execution T) (steps : List (Step P T)) (answers : List (Reply T)) → IsAlone r old.locals → (run : FoldTo (LoneStep r) old steps answers new) → line r (queues old) ++ queued r old steps answers new run ≡ taken steps answers ++ line r (queues new)
      by_turns old [] [] alone run = append-nil (line r (queues old)) ∙ ap (λ w. line r (queues w)) (sym run)
      by_turns old (step ∷ steps) (answer ∷ answers) alone run =
          let mid = run.0 in
          let first = run.1 in
          joined (line r (queues old)) (line r (queues mid)) (line r (queues new)) (queued_by step old answer mid) (taken_by step answer) (queued r mid steps answers new run.2) (taken steps answers) (one_step r old mid answer alone first.alone step first.does first.goes_on first.taker) (by_turns mid steps answers first.alone run.2)
      by_turns old [] (answer ∷ answers) alone run = absurd run
      by_turns old (step ∷ steps) [] alone run = absurd run
