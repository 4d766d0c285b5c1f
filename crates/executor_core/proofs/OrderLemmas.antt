-- The order of the queued ids does not matter.
use Rattle.std.proofs.Common.{ℕ, ◌==◌, List, Option, cond, ◌∙◌, arith}
use Rattle.std.specs.List.Sorted.{IsPermutation}
use Rattle.std.proofs.lemmas.List.Sorted.{All-permutation, IsPermutation-map, sum_by-IsPermutation, length_permutation}
use Rattle.executor_core.specs.Cells.View.{cells_of, numbers_of, Placed, IsSound}
use Rattle.executor_core.specs.declared.task.cell.Cell.{Cell}
use Rattle.executor_core.specs.declared.task.cell.Numbered.{Numbered}
use Rattle.executor_core.specs.declared.task.cell.TaskId.{TaskId}

module _ {P T W : Type 0} where
  -- the ids in another order
  pub sound_permuted : {next undropped : ℕ} {slots : List (Option (Numbered (Cell P T W)))} {ids later : List TaskId}
      → IsSound next slots ids undropped → IsPermutation ids later → IsSound next slots later undropped
  sound_permuted {slots = slots} {ids = ids} {later = later} sound permuted =
      let counted = sound.counted in
      let same = length_permutation ids later permuted in
      record {
        below = sound.below;
        distinct = sound.distinct;
        placed = All-permutation (Placed (cells_of slots)) ids later permuted sound.placed;
        law = λ n. sum_by-IsPermutation (λ k. cond (k == n) 1 0) (numbers_of ids) (numbers_of later) (IsPermutation-map (λ id. id.number) ids later permuted) ∙ sound.law n;
        settled = sound.settled;
        counted = omega arith;
        numbered = sound.numbered;
      }
