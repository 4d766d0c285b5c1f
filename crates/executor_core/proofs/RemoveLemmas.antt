-- What the removal of a cell keeps and gives.
use Rattle.std.proofs.Common.{◌≡◌, ◌≢◌, ℕ, ◌+◌, ◌==◌, ◌||◌, Bool, true, false, List, [], ◌∷◌, length, get_or, Option, Some, None, cond, refl, sym, ap, subst, ◌∙◌, inl, inr, arith}
use Rattle.std.proofs.lemmas.Bool.{eq-eqb}
use Rattle.std.specs.FinMap as map
use Rattle.executor_core.specs.Cells.{Slotted}
use Rattle.executor_core.specs.Cell.{is_idle, is_held, is_scheduled}
use Rattle.executor_core.specs.Numbers.{times}
use Rattle.executor_core.specs.Cells.Law.{ScheduledOnce}
use Rattle.executor_core.specs.Cells.View.{seen, cells_of, Distinct, numbers_of, table_of, Placed, IsSound, is_queueable}
use Rattle.executor_core.specs.Cells.Calls.{without_cell}
use Rattle.executor_core.specs.Queues.State.{QueueState}
use Rattle.executor_core.proofs.TableLemmas.{same_table}
use Rattle.executor_core.proofs.SlotLemmas.{sees_get, get_sees}
use Rattle.executor_core.specs.declared.task.cell.Cell.{Cell}
use Rattle.executor_core.specs.declared.task.cell.Numbered.{Numbered}
use Rattle.executor_core.specs.declared.task.cell.TaskId.{TaskId}
use Rattle.std.specs.Ordering.{nat_cmp}
use Rattle.std.proofs.Common.{count_by, ◌-◌}
use Rattle.std.specs.Cmp.{nat_cmp_total}
use Rattle.std.proofs.lemmas.Bool.{cases_eq}
use Rattle.std.proofs.lemmas.List.Elements.{All-nil, All-cons, All-head, All-tail}
use Rattle.std.proofs.lemmas.List.Sums.{sum_by-cons}
use Rattle.std.specs.List.{All}
use Rattle.executor_core.specs.Slots.{Changes}
use Rattle.executor_core.proofs.SlotLemmas.{same_option, remove_same, remove_other}
use Rattle.executor_core.proofs.CountLemmas.{recounted, at_least}
use Rattle.executor_core.proofs.WriteLemmas.{law_at}

pub no_times : (b : Bool) (n : ℕ) → cond b 1 0 + n ≡ 0 → (b ≡ false) × (n ≡ 0)
no_times b n h = grind arith

less : (l u a s t w y : ℕ) → l + w ≡ u → u ≡ a + s → t + w ≡ s + 0 → l ≡ a + t
less l u a s t w y p q r = omega arith

module _ {P T W : Type 0} where
  removed_distinct : (old new : List (Option (Numbered (Cell P T W)))) (key : ℕ) → Distinct old → Changes old new key None → Distinct new
  removed_distinct old new key distinct changes i j c d at_i at_j same = grind (arith, cases_eq)

  pub cells_of-removed : (old new : List (Option (Numbered (Cell P T W)))) (key : ℕ) (e : Numbered (Cell P T W)) → Distinct old → get_or old key None ≡ Some e → Changes old new key None
      → cells_of new ≡ map.remove (cells_of old) e.number
  cells_of-removed old new key e distinct there changes =
      let distinct_new : Distinct new = removed_distinct old new key distinct changes in
      map.same_map nat_cmp_total map.nat_cmp-IsAntisymmetric _ _ (λ q. same_option _ _ (λ t found. forth q t found) (λ t found. back distinct_new q t found))
    where
      forth : (q : ℕ) (t : Slotted P T W) → map.get (cells_of new) q ≡ Some t → map.get (map.remove (cells_of old) e.number) q ≡ Some t
      forth q t found =
          let s = get_sees new q t found in
          let at_is : 0 + s.at ≡ s.at = omega arith in
          let other : s.at ≢ key = λ here. absurd (cc (ap (λ x. get_or new x None) here, s.there, changes.changed)) in
          let was = sym (changes.others s.at other) ∙ s.there in
          let far : q ≢ e.number = λ same. other (distinct s.at key s.cell e was there (s.number ∙ same)) in
          remove_other (cells_of old) e.number q far
          ∙ ap (map.get (cells_of old)) (sym s.number)
          ∙ sees_get old distinct s.at s.cell was
          ∙ ap Some (sym (s.is ∙ ap (λ k. seen k s.cell.cell) at_is))

      back : Distinct new → (q : ℕ) (t : Slotted P T W) → map.get (map.remove (cells_of old) e.number) q ≡ Some t → map.get (cells_of new) q ≡ Some t
      back distinct_new q t found =
          elim (cases_eq q e.number) [
            | inl same ↦ absurd (cc (remove_same (cells_of old) e.number q same, found))
            | inr far ↦
                let s = get_sees old q t (sym (remove_other (cells_of old) e.number q far) ∙ found) in
                let at_is : 0 + s.at ≡ s.at = omega arith in
                let other : s.at ≢ key = λ here.
                let both : Some s.cell ≡ Some e = sym s.there ∙ ap (λ k. get_or old k None) here ∙ there in
                let one : s.cell ≡ e = cc in
                far (sym s.number ∙ ap (λ x. x.number) one) in
                ap (map.get (cells_of new)) (sym s.number)
                ∙ sees_get new distinct_new s.at s.cell (changes.others s.at other ∙ s.there)
                ∙ ap Some (sym (s.is ∙ ap (λ k. seen k s.cell.cell) at_is))
          ]

  law_removed : (m : map.FinMap nat_cmp (Slotted P T W)) (numbers : List ℕ) (n : ℕ) → ScheduledOnce m numbers → times n numbers ≡ 0 → ScheduledOnce (map.remove m n) numbers
  law_removed m numbers n law none q = grind (arith, cases_eq, remove_same, remove_other)

  placed_removed : (m : map.FinMap nat_cmp (Slotted P T W)) (n : ℕ) (ids : List TaskId) → times n (numbers_of ids) ≡ 0 → All (Placed m) ids → All (Placed (map.remove m n)) ids
  placed_removed m n [] none all = All-nil (Placed (map.remove m n))
  placed_removed m n (id ∷ rest) none all =
      let parts = no_times (id.number == n) (times n (numbers_of rest)) (sym (sum_by-cons (λ k. cond (k == n) 1 0) id.number (numbers_of rest)) ∙ none) in
      let far : id.number ≢ n = λ same. absurd (cc (eq-eqb id.number n same, parts.0)) in
      let placed : Placed m id = All-head (Placed m) id rest all in
      All-cons (Placed (map.remove m n)) id rest (placed.0, remove_other m n id.number far ∙ placed.1, placed.2) (placed_removed m n rest parts.1 (All-tail (Placed m) id rest all))

  pub remove_sound : {next undropped : ℕ} {slots : List (Option (Numbered (Cell P T W)))} {ids : List TaskId}
      → IsSound next slots ids undropped
      → (key : ℕ) (e : Numbered (Cell P T W)) → get_or slots key None ≡ Some e → is_scheduled e.cell.state ≡ false
      → (new : List (Option (Numbered (Cell P T W)))) → Changes slots new key None
      → (left : ℕ) → left + cond (is_idle e.cell.state || is_held e.cell.state) 1 0 ≡ undropped
      → IsSound next new ids left
  remove_sound {next} {undropped} {slots} {ids} sound key e there quiet new changes left balance =
      let m = cells_of slots in
      let cells = cells_of-removed slots new key e sound.distinct there changes in
      let none : times e.number (numbers_of ids) ≡ 0 = law_at sound key e there ∙ ap (λ b. cond b 1 0) quiet in
      let numbered = sound.numbered in
      let sums : count_by is_queueable new + cond (is_queueable (Some e)) 1 0 ≡ count_by is_queueable slots + 0 =
      ap (λ o. count_by is_queueable new + cond (is_queueable o) 1 0) (sym there) ∙ recounted (λ o. cond (is_queueable o) 1 0) refl slots new key changes.others ∙ ap (λ o. count_by is_queueable slots + cond (is_queueable o) 1 0) changes.changed in
      record {
        below = λ i d found. sound.below i d (kept i d found);
        distinct = removed_distinct slots new key sound.distinct changes;
        placed = subst (λ n. All (Placed n) ids) (sym cells) (placed_removed m e.number ids none sound.placed);
        law = subst (λ n. ScheduledOnce n (numbers_of ids)) (sym cells) (law_removed m (numbers_of ids) e.number sound.law none);
        settled = λ i d found. sound.settled i d (kept i d found);
        counted = less left undropped (length ids) (count_by is_queueable slots) (count_by is_queueable new) _ 0 balance sound.counted sums;
        numbered = omega arith;
      }
    where
      kept : (k : ℕ) (d : Numbered (Cell P T W)) → get_or new k None ≡ Some d → get_or slots k None ≡ Some d
      kept k d found = elim (cases_eq k key) [
        | inl here ↦ absurd (cc (ap (λ x. get_or new x None) here, found, changes.changed))
        | inr far ↦ sym (changes.others k far) ∙ found
      ]

  pub remove_table : {closed : Bool} {next undropped : ℕ} {slots : List (Option (Numbered (Cell P T W)))} {ids : List TaskId}
      → IsSound next slots ids undropped
      → (q : QueueState) (id : TaskId) (e : Numbered (Cell P T W)) → get_or slots id.slot None ≡ Some e → e.number ≡ id.number
      → (new : List (Option (Numbered (Cell P T W)))) → Changes slots new id.slot None
      → table_of next new q closed ≡ without_cell (table_of next slots q closed) id
  remove_table {closed} {next} {slots = slots} sound q id e there number new changes = grind (arith, same_table, cells_of-removed)

  -- a cell whose future is out is counted
  pub counted_one : {next undropped : ℕ} {slots : List (Option (Numbered (Cell P T W)))} {ids : List TaskId}
      → IsSound next slots ids undropped
      → (key : ℕ) (e : Numbered (Cell P T W)) → get_or slots key None ≡ Some e → (is_idle e.cell.state || is_held e.cell.state) ≡ true → (undropped - 1) + 1 ≡ undropped
  counted_one {slots = slots} sound key e there may = grind (arith, at_least)
