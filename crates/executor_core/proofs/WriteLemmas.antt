-- What a write of one cell keeps and gives.
use Rattle.std.proofs.Common.{◌≡◌, ◌≢◌, ℕ, suc, ◌+◌, ◌==◌, ◌||◌, Bool, true, false, List, [], ◌∷◌, ◌++◌, length, set, get_or, Option, Some, None, cond, refl, sym, ap, subst, ◌∙◌, arith, length-append, zero-add}
use Rattle.std.proofs.lemmas.List.Elements.{All-push, All-head, All-tail}
use Rattle.std.proofs.lemmas.Bool.{eq-eqb, ne_eqb}
use Rattle.std.proofs.lemmas.List.Sums.{sum_by-cons}
use Rattle.std.specs.List.{All}
use Rattle.std.specs.FinMap as map
use Rattle.executor_core.specs.Cells.View.{seen, cells_of, numbers_of, Placed, IsSound, Settled}
use Rattle.executor_core.specs.Cell.{is_idle, is_held, is_scheduled}
use Rattle.executor_core.specs.Cells.Law.{scheduled_in}
use Rattle.executor_core.specs.Numbers.{times}
use Rattle.executor_core.proofs.SlotLemmas.{sees_get, get_sees}
use Rattle.executor_core.proofs.TableLemmas.{put_sound, times-push_same, times-push_other, numbers_of-push}
use Rattle.executor_core.specs.declared.task.cell.Cell.{Cell}
use Rattle.executor_core.specs.declared.task.cell.Numbered.{Numbered}
use Rattle.executor_core.specs.declared.task.cell.TaskId.{TaskId}

one_more : (n : ℕ) → 1 + n ≡ n + 1
one_more n = omega arith

pub times-front_same : (q n : ℕ) (numbers : List ℕ) → n ≡ q → times q (n ∷ numbers) ≡ times q numbers + 1
times-front_same q n numbers same = sum_by-cons (λ k. cond (k == q) 1 0) n numbers ∙ ap (λ b. cond b 1 0 + times q numbers) (eq-eqb n q same) ∙ one_more (times q numbers)

pub times-front_other : (q n : ℕ) (numbers : List ℕ) → q ≢ n → times q (n ∷ numbers) ≡ times q numbers
times-front_other q n numbers far = grind (arith, ne_eqb, sum_by-cons, zero-add)

module _ {P T W : Type 0} where
  -- how often a cell's number is queued
  pub law_at : {next undropped : ℕ} {slots : List (Option (Numbered (Cell P T W)))} {ids : List TaskId}
      → IsSound next slots ids undropped
      → (key : ℕ) (e : Numbered (Cell P T W)) → get_or slots key None ≡ Some e
      → times e.number (numbers_of ids) ≡ cond (is_scheduled e.cell.state) 1 0
  law_at {slots = slots} sound key e there = sound.law e.number ∙ ap (λ o. cond (scheduled_in o) 1 0) (sees_get slots sound.distinct key e there)

  -- a write that changes no queue
  pub kept_sound : {next undropped : ℕ} {slots : List (Option (Numbered (Cell P T W)))} {ids : List TaskId}
      → IsSound next slots ids undropped
      → (id : TaskId) (e : Numbered (Cell P T W)) (c : Cell P T W) → get_or slots id.slot None ≡ Some e
      → is_scheduled c.state ≡ is_scheduled e.cell.state → (is_idle c.state || is_held c.state) ≡ (is_idle e.cell.state || is_held e.cell.state) → Settled c
      → IsSound next (set slots id.slot (Some (record { number = e.number; cell = c }))) ids undropped
  kept_sound {undropped = undropped} {slots = slots} {ids = ids} sound id e c there same may settled =
      put_sound sound id.slot e c there ids undropped (omega arith) settled sound.placed
      (law_at sound id.slot e there ∙ ap (λ b. cond b 1 0) (sym same))
      (λ q far. refl)
      (ap (λ b. undropped + (length ids + cond b 1 0)) (sym may))

  -- a write that makes a cell scheduled, and its number is queued
  pub queued_sound : {next undropped : ℕ} {slots : List (Option (Numbered (Cell P T W)))} {ids later : List TaskId}
      → IsSound next slots ids undropped
      → (id : TaskId) (e : Numbered (Cell P T W)) (c : Cell P T W) → get_or slots id.slot None ≡ Some e → e.number ≡ id.number
      → is_scheduled e.cell.state ≡ false → is_scheduled c.state ≡ true → (is_idle e.cell.state || is_held e.cell.state) ≡ true → (is_idle c.state || is_held c.state) ≡ false
      → Settled c → later ≡ ids ++ id ∷ []
      → IsSound next (set slots id.slot (Some (record { number = e.number; cell = c }))) later undropped
  queued_sound {undropped = undropped} {slots = slots} {ids = ids} {later = later} sound id e c there number f0 f1 f2 f3 settled longer =
      let lists : numbers_of later ≡ numbers_of ids ++ e.number ∷ [] = ap numbers_of longer ∙ numbers_of-push ids id ∙ ap (λ n. numbers_of ids ++ n ∷ []) (sym number) in
      let was : times e.number (numbers_of ids) ≡ 0 = law_at sound id.slot e there ∙ ap (λ b. cond b 1 0) f0 in
      let more : times e.number (numbers_of ids ++ e.number ∷ []) ≡ times e.number (numbers_of ids) + 1 = times-push_same e.number (numbers_of ids) in
      let once : times e.number (numbers_of ids ++ e.number ∷ []) ≡ 1 = omega (arith, was, more) in
      put_sound sound id.slot e c there later undropped (omega arith) settled
      (subst (All (Placed (cells_of slots))) (sym longer) (All-push (Placed (cells_of slots)) ids id sound.placed (seen id.slot e.cell, ap (λ n. map.get (cells_of slots) n) (sym number) ∙ sees_get slots sound.distinct id.slot e there, refl)))
      (ap (times e.number) lists ∙ once ∙ ap (λ b. cond b 1 0) (sym f1))
      (λ q far. ap (times q) lists ∙ times-push_other q e.number (numbers_of ids) far)
      (balance _ _ _ (ap length longer ∙ length-append ids (id ∷ [])) f2 f3)
    where
      balance : (u l k : ℕ) {a b : Bool} → l ≡ k + 1 → a ≡ true → b ≡ false → u + (k + cond a 1 0) ≡ u + (l + cond b 1 0)
      balance u l k e f g = rw (f, g) (omega arith)

  -- a write that takes the first number off the queue
  pub unqueued_sound : {next undropped : ℕ} {slots : List (Option (Numbered (Cell P T W)))} {ids later : List TaskId}
      → IsSound next slots ids undropped
      → (id : TaskId) (e : Numbered (Cell P T W)) (c : Cell P T W) → get_or slots id.slot None ≡ Some e → e.number ≡ id.number
      → is_scheduled e.cell.state ≡ true → is_scheduled c.state ≡ false → (is_idle e.cell.state || is_held e.cell.state) ≡ false → (is_idle c.state || is_held c.state) ≡ true
      → Settled c → ids ≡ id ∷ later
      → IsSound next (set slots id.slot (Some (record { number = e.number; cell = c }))) later undropped
  unqueued_sound {undropped = undropped} {slots = slots} {ids = ids} {later = later} sound id e c there number f0 f1 f2 f3 settled shorter =
      let was : times e.number (numbers_of ids) ≡ 1 = law_at sound id.slot e there ∙ ap (λ b. cond b 1 0) f0 in
      let front : times e.number (numbers_of ids) ≡ times e.number (numbers_of later) + 1 = ap (λ l. times e.number (numbers_of l)) shorter ∙ times-front_same e.number id.number (numbers_of later) (sym number) in
      let none : times e.number (numbers_of later) ≡ 0 = omega (arith, was, front) in
      put_sound sound id.slot e c there later undropped (omega arith) settled
      (All-tail (Placed (cells_of slots)) id later (subst (All (Placed (cells_of slots))) shorter sound.placed))
      (none ∙ ap (λ b. cond b 1 0) (sym f1))
      (λ q far. sym (ap (λ l. times q (numbers_of l)) shorter ∙ times-front_other q id.number (numbers_of later) (λ same. far (same ∙ sym number))))
      (balance _ _ _ (ap length shorter) f2 f3)
    where
      balance : (u l k : ℕ) {a b : Bool} → l ≡ suc k → a ≡ false → b ≡ true → u + (l + cond a 1 0) ≡ u + (k + cond b 1 0)
      balance u l k e f g = rw (f, g) (omega arith)

  -- the front of the queue has a scheduled cell in its slot
  pub front_cell : {next undropped : ℕ} {slots : List (Option (Numbered (Cell P T W)))} {ids later : List TaskId}
      → IsSound next slots ids undropped
      → (id : TaskId) → ids ≡ id ∷ later → (e : Numbered (Cell P T W)) × (get_or slots id.slot None ≡ Some e) × (e.number ≡ id.number) × (is_scheduled e.cell.state ≡ true)
  front_cell {slots = slots} {ids = ids} {later = later} sound id front =
      let placed : Placed (cells_of slots) id = All-head (Placed (cells_of slots)) id later (subst (All (Placed (cells_of slots))) front sound.placed) in
      let sees = get_sees slots id.number placed.0 placed.1 in
      let zero_at : 0 + sees.at ≡ sees.at = omega arith in
      let place : sees.at ≡ id.slot = sym (ap (λ x. x.slot) sees.is ∙ zero_at) ∙ placed.2 in
      let once : times id.number (numbers_of ids) ≡ times id.number (numbers_of later) + 1 = ap (λ l. times id.number (numbers_of l)) front ∙ times-front_same id.number id.number (numbers_of later) refl in
      let law : times id.number (numbers_of ids) ≡ cond (is_scheduled sees.cell.cell.state) 1 0 = ap (λ n. times n (numbers_of ids)) (sym sees.number) ∙ law_at sound sees.at sees.cell sees.there in
      (sees.cell, ap (λ k. get_or slots k None) (sym place) ∙ sees.there, sees.number, positive _ _ (sym law ∙ once))
    where
      positive : (b : Bool) (n : ℕ) → cond b 1 0 ≡ n + 1 → b ≡ true
      positive true n e = refl
      positive false n e = absurd (omega arith)
