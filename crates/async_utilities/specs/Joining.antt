-- What many futures came to: all of them, in order, or the first.
use Rattle.std.specs.Prelude.{◌≡◌, ℕ, ◌+◌, ◌<◌, List, [], length, drop, reverse, vec_len}
use Rattle.async_utilities.specs.Joins.{Awaits, Joins}
use Rattle.async_utilities.specs.declared.joining.First.{First}
use Rattle.async_utilities.specs.declared.joining.Joining.{Joining}

module _ {G T : Type 0} where
  -- these futures are to be awaited, and there is no output yet
  abbrev pub Begins : List G → Joining G T → Type 0
  Begins futures joining = (joining.left.items ≡ reverse futures) × (joining.outputs.items ≡ [])

  abbrev pub JoinsMore : Joining G T → Joining G T → Type 0
  JoinsMore old new = Joins old.outputs.items (vec_len old.left) new.outputs.items (vec_len new.left)

  -- these are all outputs
  abbrev pub JoinsAll : Joining G T → List T → Type 0
  JoinsAll joining outputs = Joins joining.outputs.items (vec_len joining.left) outputs 0

  abbrev pub AwaitsMore : Joining G T → Joining G T → Type 0
  AwaitsMore old new = Awaits old.left.items new.left.items

  -- the one at its place went, and those after it are as they were
  abbrev pub IsFirstOf : List G → First G T → Type 0
  IsFirstOf futures first =
      (first.place < length futures) × (length first.others.items + 1 ≡ length futures)
      × (drop first.place first.others.items ≡ drop (first.place + 1) futures)
