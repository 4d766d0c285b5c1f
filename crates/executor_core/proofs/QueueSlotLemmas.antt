-- The slots of what is queued: each id has its cell there, and no two ids have one slot.
use Rattle.std.proofs.Common.{◌≡◌, ◌≢◌, ℕ, ◌+◌, ◌≤◌, ◌==◌, Bool, List, [], ◌∷◌, length, Option, cond, refl, sym, ap, ◌∙◌, arith}
use Rattle.std.proofs.lemmas.Bool.{eq-eqb}
use Rattle.std.proofs.lemmas.List.{length-append}
use Rattle.std.proofs.lemmas.List.Elements.{All-nil, All-cons, All-head, All-tail, All-weaker}
use Rattle.std.proofs.lemmas.List.Sums.{sum_by-cons}
use Rattle.std.specs.List.{All}
use Rattle.std.specs.FinMap as fin_map
use Rattle.executor_core.specs.Cells.Law.{scheduled_in}
use Rattle.executor_core.specs.Cells.View.{cells_of, numbers_of, Placed, IsSound}
use Rattle.executor_core.specs.Numbers.{times}
use Rattle.executor_core.specs.Queues.{QueueLists, all_entries, local_entries}
use Rattle.executor_core.specs.Slots.{Beside, SlotsApart, HasCell, IsQueue}
use Rattle.executor_core.proofs.LinkLemmas.{suffix_queue}
use Rattle.executor_core.proofs.RemoveLemmas.{no_times}
use Rattle.executor_core.proofs.SlotLemmas.{get_sees}
use Rattle.executor_core.specs.declared.task.cell.Cell.{Cell}
use Rattle.executor_core.specs.declared.task.cell.Numbered.{Numbered}
use Rattle.executor_core.specs.declared.task.cell.TaskId.{TaskId}

at_most_one : (b : Bool) → cond {A = ℕ} b 1 0 ≤ 1
at_most_one b = grind arith

module _ {P T W : Type 0} where
  -- an id that is placed has its cell in its slot
  pub placed_has : (slots : List (Option (Numbered (Cell P T W)))) (id : TaskId) → Placed (cells_of slots) id → HasCell slots id
  placed_has slots id placed = grind (arith, get_sees slots id.number placed.0 placed.1)

  -- ids that have one slot have one number
  one_number : (slots : List (Option (Numbered (Cell P T W)))) (a b : TaskId) → HasCell slots a → HasCell slots b → a.slot ≡ b.slot → a.number ≡ b.number
  one_number slots a b first second same = grind arith

  beside_has : (slots : List (Option (Numbered (Cell P T W)))) (id : TaskId) → HasCell slots id → (rest : List TaskId) → All (HasCell slots) rest → times id.number (numbers_of rest) ≡ 0 → Beside id.slot rest
  beside_has slots id has [] all none = All-nil (λ (other : TaskId). other.slot ≢ id.slot)
  beside_has slots id has (other ∷ rest) all none =
      let parts = no_times (other.number == id.number) (times id.number (numbers_of rest)) (sym (sum_by-cons (λ k. cond (k == id.number) 1 0) other.number (numbers_of rest)) ∙ none) in
      All-cons (λ (x : TaskId). x.slot ≢ id.slot) other rest
      (λ same. absurd (cc (eq-eqb other.number id.number (one_number slots other id (All-head (HasCell slots) other rest all) has same), parts.0)))
      (beside_has slots id has rest (All-tail (HasCell slots) other rest all) parts.1)

  apart_has : (slots : List (Option (Numbered (Cell P T W)))) (ids : List TaskId) → All (HasCell slots) ids → ((q : ℕ) → times q (numbers_of ids) ≤ 1) → SlotsApart ids
  apart_has slots [] all once = tt
  apart_has slots (id ∷ rest) all once =
      let split : (q : ℕ) → times q (numbers_of (id ∷ rest)) ≡ cond (id.number == q) 1 0 + times q (numbers_of rest) = λ q. sum_by-cons (λ k. cond (k == q) 1 0) id.number (numbers_of rest) in
      let here : cond {A = ℕ} (id.number == id.number) 1 0 ≡ 1 = ap (λ b. cond b 1 0) (eq-eqb id.number id.number refl) in
      let own = split id.number in
      let most = once id.number in (
        beside_has slots id (All-head (HasCell slots) id rest all) rest (All-tail (HasCell slots) id rest all) (omega (arith, here, own, most)),
        apart_has slots rest (All-tail (HasCell slots) id rest all) (λ q. let parts = split q in let whole = once q in omega (arith, parts, whole)),
      )

  -- all queued ids could be linked through the slots
  pub sound_queue : {next undropped : ℕ} {slots : List (Option (Numbered (Cell P T W)))} {ids : List TaskId} → IsSound next slots ids undropped → IsQueue slots ids
  sound_queue {slots = slots} {ids = ids} sound =
      let placed = All-weaker (Placed (cells_of slots)) (HasCell slots) (placed_has slots) ids sound.placed in
      record {
        placed = placed;
        apart = apart_has slots ids placed (λ q. let law = sound.law q in let most = at_most_one (scheduled_in (fin_map.get (cells_of slots) q)) in omega (arith, law, most));
      }

  -- and so can those of the global queue, of which there are no more than futures
  pub global_queue : {next undropped : ℕ} {slots : List (Option (Numbered (Cell P T W)))} (q : QueueLists TaskId) → IsSound next slots (all_entries q) undropped → IsQueue slots q.global
  global_queue {slots = slots} q sound = suffix_queue slots (local_entries q.locals) q.global (sound_queue sound)

  pub global_short : {next undropped : ℕ} {slots : List (Option (Numbered (Cell P T W)))} (q : QueueLists TaskId) → IsSound next slots (all_entries q) undropped → length q.global ≤ undropped
  global_short q sound = grind (arith, length-append)
