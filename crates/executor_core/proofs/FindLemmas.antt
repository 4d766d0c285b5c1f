-- What is found at an id: the cell of its slot, if the slot has its number.
use Rattle.std.proofs.Common.{◌≡◌, ◌≢◌, ℕ, ◌+◌, ◌==◌, Bool, true, false, List, get_or, Option, Some, None, cond, refl, sym, ap, ◌∙◌, inl, inr, arith}
use Rattle.std.proofs.lemmas.Bool.{cases_Bool, eqb-true, eq-eqb, ne_eqb}
use Rattle.std.specs.FinMap as map
use Rattle.executor_core.specs.Cells.{Slotted, Table}
use Rattle.executor_core.specs.Cells.View.{cells_of, table_of, IsSound}
use Rattle.executor_core.specs.Cells.Calls.{cell_at, in_slot}
use Rattle.executor_core.specs.Queues.State.{QueueState}
use Rattle.executor_core.proofs.SlotLemmas.{sees_get, get_sees}
use Rattle.executor_core.specs.declared.task.cell.Cell.{Cell}
use Rattle.executor_core.specs.declared.task.cell.Numbered.{Numbered}
use Rattle.executor_core.specs.declared.task.cell.TaskId.{TaskId}

-- the slot has the number
abbrev is_numbered : {C : Type 0} → ℕ → Option (Numbered C) → Bool
is_numbered n None = false
is_numbered n (Some e) = e.number == n

numbered_is : {C : Type 0} (n : ℕ) (o : Option (Numbered C)) (e : Numbered C) → o ≡ Some e → e.number ≡ n → is_numbered n o ≡ true
numbered_is n o e is same = ap (is_numbered n) is ∙ eq-eqb e.number n same

module _ {P T W : Type 0} where
  -- the cell that a slot has for a number
  abbrev pub cell_in : ℕ → Option (Numbered (Cell P T W)) → Option (Cell P T W)
  cell_in n None = None
  cell_in n (Some e) = cond (e.number == n) (Some e.cell) None

  -- the cell of the id's number, if it is in the id's slot
  abbrev pub cell_of : List (Option (Numbered (Cell P T W))) → TaskId → Option (Cell P T W)
  cell_of slots id = in_slot id.slot (map.get (cells_of slots) id.number)

  in_slot_none : (slot : ℕ) (o : Option (Slotted P T W)) → ((s : Slotted P T W) → o ≡ Some s → s.slot ≢ slot) → in_slot slot o ≡ None
  in_slot_none slot o h = grind (arith, ne_eqb)

  -- a slot's cell is the id's, if the number is the id's
  pub cell_at_entry : {next undropped : ℕ} {slots : List (Option (Numbered (Cell P T W)))} {ids : List TaskId}
      → IsSound next slots ids undropped
      → (id : TaskId) (e : Numbered (Cell P T W)) → get_or slots id.slot None ≡ Some e → e.number ≡ id.number → cell_of slots id ≡ Some e.cell
  cell_at_entry {slots = slots} sound id e there number = grind (arith, sees_get, eq-eqb)

  cell_at_none : (slots : List (Option (Numbered (Cell P T W)))) (id : TaskId)
      → is_numbered id.number (get_or slots id.slot None) ≡ false → cell_of slots id ≡ None
  cell_at_none slots id h =
      in_slot_none id.slot _ (λ s found slot.
      let sees = get_sees slots id.number s found in
      let zero_at : 0 + sees.at ≡ sees.at = omega arith in
      let place : sees.at ≡ id.slot = sym (ap (λ x. x.slot) sees.is ∙ zero_at) ∙ slot in
      let yes = numbered_is id.number (get_or slots id.slot None) sees.cell (ap (λ k. get_or slots k None) (sym place) ∙ sees.there) sees.number in
      absurd (cc (yes, h)))

  -- the id's cell is what its slot has for its number
  pub cell_at_is : {next undropped : ℕ} {slots : List (Option (Numbered (Cell P T W)))} {ids : List TaskId}
      → IsSound next slots ids undropped → (id : TaskId) → cell_of slots id ≡ cell_in id.number (get_or slots id.slot None)
  cell_at_is {slots = slots} sound id = by_slot (get_or slots id.slot None) refl
    where
      by_slot : (o : Option (Numbered (Cell P T W))) → get_or slots id.slot None ≡ o → cell_of slots id ≡ cell_in id.number o
      by_slot None e = cell_at_none slots id (ap (is_numbered id.number) e)
      by_slot (Some e) is = elim (cases_Bool (e.number == id.number)) [
        | inl same ↦ cell_at_entry sound id e is (eqb-true e.number id.number same) ∙ ap (λ b. cond b (Some e.cell) None) (sym same)
        | inr far ↦ cell_at_none slots id (ap (is_numbered id.number) is ∙ far) ∙ ap (λ b. cond b (Some e.cell) None) (sym far)
      ]

  -- what was read in the id's slot tells its cell
  pub cell_at_read : {closed : Bool} {next undropped : ℕ} {slots : List (Option (Numbered (Cell P T W)))} {ids : List TaskId} {table : Table P T W}
      → IsSound next slots ids undropped → (q : QueueState) → table_of next slots q closed ≡ table
      → (id : TaskId) {read : Option (Numbered (Cell P T W))} → read ≡ get_or slots id.slot None → cell_in id.number read ≡ cell_at table id
  cell_at_read sound q seen_is id is = ap (cell_in id.number) is ∙ sym (cell_at_is sound id) ∙ ap (λ s. cell_at s id) seen_is

  -- what a test finds at the id, it finds in the slot
  pub test_at : {closed : Bool} {next undropped : ℕ} {slots : List (Option (Numbered (Cell P T W)))} {ids : List TaskId} {table : Table P T W}
      → IsSound next slots ids undropped → (q : QueueState) → table_of next slots q closed ≡ table
      → (F : Option (Cell P T W) → Bool) (id : TaskId) {b : Bool} → b ≡ F (cell_at table id) → F (cell_in id.number (get_or slots id.slot None)) ≡ b
  test_at sound q seen_is F id is = sym (is ∙ ap (λ s. F (cell_at s id)) (sym seen_is) ∙ ap F (cell_at_is sound id))

  -- what the id's slot has if a test of the id's cell passes
  pub record PassesAt (F : Option (Cell P T W) → Bool) (slots : List (Option (Numbered (Cell P T W)))) (id : TaskId) : Type 0 where
    pub entry : Numbered (Cell P T W)
    pub there : get_or slots id.slot None ≡ Some entry
    pub number : entry.number ≡ id.number
    pub passes : F (Some entry.cell) ≡ true

  pub passes_at : {closed : Bool} {next undropped : ℕ} {slots : List (Option (Numbered (Cell P T W)))} {ids : List TaskId} {table : Table P T W}
      → IsSound next slots ids undropped → (q : QueueState) → table_of next slots q closed ≡ table
      → (F : Option (Cell P T W) → Bool) → F None ≡ false → (id : TaskId) {b : Bool} → b ≡ F (cell_at table id) → b ≡ true → PassesAt F slots id
  passes_at {slots = slots} sound q seen_is F none id {b} is passed = by_slot (get_or slots id.slot None) refl (test_at sound q seen_is F id is ∙ passed)
    where
      by_slot : (o : Option (Numbered (Cell P T W))) → get_or slots id.slot None ≡ o → F (cell_in id.number o) ≡ true → PassesAt F slots id
      by_slot None there h = absurd (cc)
      by_slot (Some e) there h = elim (cases_Bool (e.number == id.number)) [
        | inl same ↦ record { entry = e; there = there; number = eqb-true e.number id.number same; passes = ap (λ b. F (cond b (Some e.cell) None)) (sym same) ∙ h }
        | inr far ↦ absurd (cc)
      ]

  -- what a test finds in the cell that a slot has for a number
  pub facts_at : (F : Option (Cell P T W) → Bool) → F None ≡ false → (n : ℕ) (o : Option (Numbered (Cell P T W))) (e : Numbered (Cell P T W)) → o ≡ Some e
      → F (cell_in n o) ≡ true → (e.number ≡ n) × (F (Some e.cell) ≡ true)
  facts_at holds none n o e is h = grind (arith, cases_Bool, eqb-true)
