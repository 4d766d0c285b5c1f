-- What keeps `IsSound`, and what is then seen.
use Rattle.std.proofs.Common.{◌≡◌, ◌≢◌, ℕ, Bool, ◌+◌, ◌<◌, ◌≤◌, ◌==◌, ◌||◌, List, [], ◌∷◌, ◌++◌, length, set, get_or, Option, Some, None, cond, refl, sym, ap, subst, ◌∙◌, inl, inr, arith}
use Rattle.std.proofs.lemmas.Bool.{cases_eq, eq-eqb, ne_eqb}
use Rattle.std.proofs.lemmas.List.Sums.{sum_by-set, sum_by-append}
use Rattle.std.proofs.lemmas.List.Elements.{All-weaker}
use Rattle.std.specs.List.{All}
use Rattle.std.specs.Ordering.{nat_cmp}
use Rattle.std.specs.FinMap as map
use Rattle.executor_core.specs.Cells.{Slotted, Table}
use Rattle.executor_core.specs.Queues.State.{QueueState, with_lists}
use Rattle.executor_core.specs.Cells.View.{seen, cells_of, Distinct, is_queueable, numbers_of, table_of, Placed, IsSound, Settled}
use Rattle.executor_core.specs.Cell.{is_idle, is_held, is_scheduled}
use Rattle.executor_core.specs.Cells.Law.{scheduled_in, ScheduledOnce}
use Rattle.executor_core.specs.Numbers.{times}
use Rattle.executor_core.specs.Cells.Calls.{with_cell}
use Rattle.executor_core.proofs.SlotLemmas.{within, set_changes, insert_same, insert_other, sees_get, fits_itself, put_distinct, cells_of-put}
use Rattle.executor_core.specs.declared.task.cell.Cell.{Cell}
use Rattle.executor_core.specs.declared.task.cell.Numbered.{Numbered}
use Rattle.executor_core.specs.declared.task.cell.TaskId.{TaskId}

pub times-push_same : (n : ℕ) (numbers : List ℕ) → times n (numbers ++ n ∷ []) ≡ times n numbers + 1
times-push_same n numbers = sum_by-append (λ k. cond (k == n) 1 0) numbers (n ∷ []) ∙ rw (eq-eqb n n refl) refl

pub times-push_other : (q n : ℕ) (numbers : List ℕ) → q ≢ n → times q (numbers ++ n ∷ []) ≡ times q numbers
times-push_other q n numbers far = grind (arith, ne_eqb, sum_by-append)

module _ {P T W : Type 0} where
  -- a law that is kept when one cell changes and the number is queued if it becomes scheduled
  pub law_put : (m : map.FinMap nat_cmp (Slotted P T W)) (numbers later : List ℕ) (n : ℕ) (s : Slotted P T W)
      → ScheduledOnce m numbers
      → times n later ≡ cond (is_scheduled s.cell.state) 1 0
      → ((q : ℕ) → q ≢ n → times q later ≡ times q numbers)
      → ScheduledOnce (map.insert m n s) later
  law_put m numbers later n s law here others q =
      elim (cases_eq q n) [
        | inl same ↦ ap (λ k. times k later) same ∙ here ∙ ap (λ x. cond (scheduled_in x) 1 0) (sym (insert_same m n s q same))
        | inr far ↦ others q far ∙ law q ∙ ap (λ x. cond (scheduled_in x) 1 0) (sym (insert_other m n s q far))
      ]

recount : (u v a b s t w y g : ℕ) → u ≡ a + s → t + g ≡ s + y → g ≡ w → v + (a + w) ≡ u + (b + y) → v ≡ b + t
recount u v a b s t w y g p q r h = omega arith

module _ {P T W : Type 0} where
  pub cells_of-set : (slots : List (Option (Numbered (Cell P T W)))) (key : ℕ) (e : Numbered (Cell P T W)) (c : Cell P T W) → Distinct slots → get_or slots key None ≡ Some e
      → cells_of (set slots key (Some (record { number = e.number; cell = c }))) ≡ map.insert (cells_of slots) e.number (seen key c)
  cells_of-set slots key e c distinct there =
      let f : Numbered (Cell P T W) = record { number = e.number; cell = c } in
      cells_of-put slots _ key f distinct (fits_itself slots distinct key e there) (set_changes slots key e f there)

  placed_put : (m : map.FinMap nat_cmp (Slotted P T W)) (n key : ℕ) (c d : Cell P T W) → map.get m n ≡ Some (seen key d) → (id : TaskId) → Placed m id → Placed (map.insert m n (seen key c)) id
  placed_put m n key c d was id placed =
      elim (cases_eq id.number n) [
        | inl same ↦
            let is : Some (placed.0) ≡ Some (seen key d) = sym placed.1 ∙ ap (map.get m) same ∙ was in
            let slotted : placed.0 ≡ seen key d = cc in
            (seen key c, insert_same m n (seen key c) id.number same, sym (ap (λ x. x.slot) slotted) ∙ placed.2)
        | inr far ↦ (placed.0, insert_other m n (seen key c) id.number far ∙ placed.1, placed.2)
      ]

  pub put_sound : {next undropped : ℕ} {slots : List (Option (Numbered (Cell P T W)))} {ids : List TaskId}
      → IsSound next slots ids undropped
      → (key : ℕ) (e : Numbered (Cell P T W)) (c : Cell P T W) → get_or slots key None ≡ Some e
      → (later : List TaskId) (left : ℕ) → left ≤ undropped → Settled c
      → All (Placed (cells_of slots)) later
      → times e.number (numbers_of later) ≡ cond (is_scheduled c.state) 1 0
      → ((q : ℕ) → q ≢ e.number → times q (numbers_of later) ≡ times q (numbers_of ids))
      → left + (length ids + cond (is_idle e.cell.state || is_held e.cell.state) 1 0) ≡ undropped + (length later + cond (is_idle c.state || is_held c.state) 1 0)
      → IsSound next (set slots key (Some (record { number = e.number; cell = c }))) later left
  put_sound {next} {undropped} {slots} {ids} sound key e c there later left fewer settled placed here others balance =
      let f : Numbered (Cell P T W) = record { number = e.number; cell = c } in
      let new = set slots key (Some f) in
      let numbered = sound.numbered in
      let fits = fits_itself slots sound.distinct key e there in
      let changes = set_changes slots key e f there in
      let cells = cells_of-set slots key e c sound.distinct there in
      let inside = within slots key e there in
      let sums = sum_by-set (λ x. cond (is_queueable x) 1 0) slots key (Some f) None inside in
      let was : cond (is_queueable (get_or slots key None)) 1 0 ≡ cond (is_queueable (Some e)) 1 0 = ap (λ x. cond (is_queueable x) 1 0) there in
      record {
        below = λ i d found. elim (cases_eq i key) [
          | inl here_i ↦
              let is : d ≡ f = cc (ap (λ k. get_or new k None) here_i, found, changes.changed) in
              subst (λ n. n < next) (sym (ap (λ x. x.number) is)) (sound.below key e there)
          | inr far ↦ sound.below i d (sym (changes.others i far) ∙ found)
        ];
        distinct = put_distinct slots new key f sound.distinct fits changes;
        placed = subst (λ m. All (Placed m) later) (sym cells)
            (All-weaker (Placed (cells_of slots)) (Placed (map.insert (cells_of slots) e.number (seen key c))) (λ id. placed_put (cells_of slots) e.number key c e.cell (sees_get slots sound.distinct key e there) id) later placed);
        law = subst (λ m. ScheduledOnce m (numbers_of later)) (sym cells) (law_put (cells_of slots) (numbers_of ids) (numbers_of later) e.number (seen key c) sound.law here others);
        counted = recount _ _ _ _ _ _ _ _ _ sound.counted sums was balance;
        numbered = omega arith;
        settled = λ i d found. elim (cases_eq i key) [
          | inl here_i ↦
              let is : d ≡ f = cc (ap (λ k. get_or new k None) here_i, found, changes.changed) in
              subst (λ x. Settled x.cell) (sym is) settled
          | inr far ↦ sound.settled i d (sym (changes.others i far) ∙ found)
        ];
      }

  pub same_table : (t : Table P T W) (m n : map.FinMap nat_cmp (Slotted P T W)) (xs ys : List ℕ) → m ≡ n → xs ≡ ys
      → ◌≡◌ {A = Table P T W} (record t { cells = m; global = xs }) (record t { cells = n; global = ys })
  same_table t m n xs ys p q = λ i. record t { cells = p i; global = q i }

  -- what is seen after a write of one cell
  pub table_set : {closed : Bool} (next : ℕ) (slots : List (Option (Numbered (Cell P T W)))) (later : QueueState) (id : TaskId) (e : Numbered (Cell P T W)) (c : Cell P T W) (xs : List ℕ)
      → Distinct slots → get_or slots id.slot None ≡ Some e → e.number ≡ id.number → numbers_of later.lists.global ≡ xs
      → table_of next (set slots id.slot (Some (record { number = e.number; cell = c }))) later closed ≡ record (with_cell (table_of next slots later closed) id c) { global = xs }
  table_set {closed} next slots later id e c xs distinct there number lists = grind (arith, same_table, cells_of-set)

pub numbers_of-push : (ids : List TaskId) (id : TaskId) → numbers_of (ids ++ id ∷ []) ≡ numbers_of ids ++ id.number ∷ []
numbers_of-push [] id = refl
numbers_of-push (x ∷ xs) id = ap (λ l. x.number ∷ l) (numbers_of-push xs id)

-- these ids in place of those of the global queue
abbrev pub with_global : List TaskId → QueueState → QueueState
with_global ids q = with_lists (record q.lists { global = ids }) q
