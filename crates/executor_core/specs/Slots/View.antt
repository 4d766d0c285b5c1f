-- How the fields of `Slots` are seen, and what holds of them.
use Rattle.std.specs.Prelude.{◌≡◌, ℕ, zero, suc, List, [], ◌∷◌, length, map, Option, Some, None, option_map, slice_index_or}
use Rattle.executor_core.specs.Slots.{LinkedSlots, Beside, SlotsApart}
use Rattle.executor_core.specs.declared.task.slots.Slot.{Slot}
use Rattle.executor_core.specs.declared.task.cell.Cell.{Cell}
use Rattle.executor_core.specs.declared.task.cell.Numbered.{Numbered}
use Rattle.executor_core.specs.declared.task.cell.TaskId.{TaskId}

-- the link of a slot that none follows
abbrev pub no_slot : ℕ
no_slot = 18446744073709551615

-- the last of these ids has this slot
abbrev pub EndsAt : ℕ → List TaskId → Type 0
EndsAt last [] = Unit {0}
EndsAt last (id ∷ []) = id.slot ≡ last
EndsAt last (id ∷ other ∷ rest) = EndsAt last (other ∷ rest)

module _ {P T W : Type 0} where
  abbrev pub entries_of : List (Option (Slot P T W)) → List (Option (Numbered (Cell P T W)))
  entries_of slots = map (option_map (λ (s : Slot P T W). s.entry)) slots

  -- the id in this slot, and then what follows its link
  abbrev pub met : ℕ → (ℕ → List TaskId) → Option (Slot P T W) → List TaskId
  met at later None = []
  met at later (Some s) = record { number = s.entry.number; slot = at } ∷ later s.next

  -- the ids that so many steps along the links meet, from this slot on
  abbrev pub walk : List (Option (Slot P T W)) → ℕ → ℕ → List TaskId
  walk slots zero at = []
  walk slots (suc n) at = met at (walk slots n) (slice_index_or slots at None)

  abbrev pub slots_of : List (Option (Slot P T W)) → ℕ → ℕ → LinkedSlots P T W
  slots_of slots first len = record { slots = entries_of slots; queue = walk slots len first }

  -- the links lead from this slot over the slots of these ids, and end there
  abbrev pub Chain : List (Option (Slot P T W)) → List TaskId → ℕ → Type 0
  Chain slots [] at = at ≡ no_slot
  Chain slots (id ∷ rest) at = (id.slot ≡ at) × (s : Slot P T W) × (slice_index_or slots at None ≡ Some s) × (s.entry.number ≡ id.number) × Chain slots rest s.next

  -- the links lead over the slots of these ids, each once, and every other link is cleared
  pub record IsChain (slots : List (Option (Slot P T W))) (first last : ℕ) (ids : List TaskId) : Type 0 where
    pub chain : Chain slots ids first
    pub apart : SlotsApart ids
    pub ends : EndsAt last ids
    pub cleared : (at : ℕ) (s : Slot P T W) → slice_index_or slots at None ≡ Some s → Beside at ids → s.next ≡ no_slot

  -- the walk from the first slot meets as many ids as are counted, and ends at the last
  pub record IsLinked (slots : List (Option (Slot P T W))) (first last len : ℕ) : Type 0 where
    pub linked : IsChain slots first last (walk slots len first)
    pub counted : length (walk slots len first) ≡ len
