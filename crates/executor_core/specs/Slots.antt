-- The slots of the table, and the queue that is linked through them.
pub mod Lends
pub mod View
use Rattle.std.specs.Prelude.{◌≡◌, ◌≢◌, ℕ, List, [], ◌∷◌, Option, Some, None, refl, slice_index_or, slice_set}
use Rattle.std.specs.List.{All}
use Rattle.std.specs.Coded.{Coded, code_by, coded×, coded_list, coded_option}
use Rattle.executor_core.specs.Cells.{Slotted}
use Rattle.executor_core.specs.Cells.Coding.{slotted_code}
use Rattle.executor_core.specs.Ring.Coding.{task_id_code}
use Rattle.executor_core.specs.declared.task.cell.Cell.{Cell}
use Rattle.executor_core.specs.declared.task.cell.Numbered.{Numbered}
use Rattle.executor_core.specs.declared.task.cell.TaskId.{TaskId}

-- what each slot has, and the ids that are queued, from the front on
pub record LinkedSlots (P T W : Type 0) : Type 0 where
  pub slots : List (Option (Numbered (Cell P T W)))
  pub queue : List TaskId

module _ {P T W : Type 0} (p : Coded P) (t : Coded T) (w : Coded W) where
  abbrev pub numbered_code : Coded (Numbered (Cell P T W))
  numbered_code =
      code_by (Slotted P T W) (slotted_code p t w) (λ e. record { slot = e.number; cell = e.cell }) (λ s. record { number = s.slot; cell = s.cell }) (λ _. refl)

  abbrev pub linked_slots_code : Coded (LinkedSlots P T W)
  linked_slots_code =
      code_by
      (List (Option (Numbered (Cell P T W))) × List TaskId)
      (coded× (coded_list (coded_option numbered_code)) (coded_list task_id_code))
      (λ s. (s.slots, s.queue))
      (λ q. record { slots = q.0; queue = q.1 })
      (λ _. refl)

-- one slot has this, and the others are as they were
pub record Changes {X : Type 0} (old new : List (Option X)) (key : ℕ) (slot : Option X) : Type 0 where
  pub changed : slice_index_or new key None ≡ slot
  pub others : (other : ℕ) → other ≢ key → slice_index_or new other None ≡ slice_index_or old other None

-- none of these ids has this slot
abbrev pub Beside : ℕ → List TaskId → Type 0
Beside slot ids = All (λ (id : TaskId). id.slot ≢ slot) ids

-- no two ids have one slot
abbrev pub SlotsApart : List TaskId → Type 0
SlotsApart [] = Unit {0}
SlotsApart (id ∷ rest) = Beside id.slot rest × SlotsApart rest

-- a cell under the id's number
abbrev pub numbered : {C : Type 0} → TaskId → C → Numbered C
numbered id c = record { number = id.number; cell = c }

module _ {P T W : Type 0} where
  -- the id's slot has the id's number
  abbrev pub HasCell : List (Option (Numbered (Cell P T W))) → TaskId → Type 0
  HasCell slots id = (e : Numbered (Cell P T W)) × (slice_index_or slots id.slot None ≡ Some e) × (e.number ≡ id.number)

  -- a queue of these ids may be linked through the slots
  pub record IsQueue (slots : List (Option (Numbered (Cell P T W)))) (ids : List TaskId) : Type 0 where
    pub placed : All (HasCell slots) ids
    pub apart : SlotsApart ids

  -- the id's slot has this cell
  abbrev pub put_cell : List (Option (Numbered (Cell P T W))) → TaskId → Cell P T W → List (Option (Numbered (Cell P T W)))
  put_cell slots id c = slice_set slots id.slot (Some (numbered id c))

  abbrev pub with_cell_at : LinkedSlots P T W → TaskId → Cell P T W → LinkedSlots P T W
  with_cell_at s id c = record s { slots = put_cell s.slots id c }

  -- these ids are queued
  abbrev pub with_queue : List TaskId → LinkedSlots P T W → LinkedSlots P T W
  with_queue ids s = record s { queue = ids }
