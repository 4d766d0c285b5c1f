-- The two halves of a future of both outputs.
use Rattle.std.specs.Prelude.{◌≡◌, ◌||◌, Bool, true, false}
use Rattle.async_utilities.specs.declared.combining.Half.{Half}
use Rattle.async_utilities.specs.declared.combining.Half.TheVariants.{Open, Kept}

module _ {G T : Type 0} where
  -- whether a half is still to be polled
  abbrev pub is_open : Half G T → Bool
  is_open (Open future) = true
  is_open (Kept output) = false

  -- an output that was there stays
  abbrev pub Keeps : Half G T → Half G T → Type 0
  Keeps old new = (output : T) → old ≡ Kept output → new ≡ Kept output

  -- an output that was there is the one that is given
  abbrev pub Gave : Half G T → T → Type 0
  Gave (Open future) output = Unit {0}
  Gave (Kept kept) output = output ≡ kept

module _ {A X B Y : Type 0} where
  abbrev pub is_either_open : Half A X × Half B Y → Bool
  is_either_open halves = is_open halves.0 || is_open halves.1

  abbrev pub KeepBoth : Half A X × Half B Y → Half A X × Half B Y → Type 0
  KeepBoth old new = Keeps old.0 new.0 × Keeps old.1 new.1

  abbrev pub GaveBoth : Half A X × Half B Y → X × Y → Type 0
  GaveBoth halves outputs = Gave halves.0 outputs.0 × Gave halves.1 outputs.1
