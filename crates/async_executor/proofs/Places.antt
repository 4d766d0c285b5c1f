-- What the places of a table of futures have at a slot.
use Rattle.std.proofs.Common.{◌≡◌, ℕ, ◌<◌, ◌≤◌, Bool, true, false, List, length, set, get_or, Option, Some, None, IsTrue, is_some, arith}
use Rattle.std.proofs.lemmas.Bool.{cases_Bool, eqb-true, eq-eqb, ne_eqb}
use Rattle.std.proofs.lemmas.Option.{slice_get_read, slice_get_past, slice_get_within, get_or_from_slice_get}
use Rattle.std.specs.Prelude.{slice_get}
use Rattle.async_executor.specs.FutureTable.{kept_of, future_in, output_in}
use Rattle.async_executor.specs.declared.futures.Kept.{Kept}
use Rattle.async_executor.specs.declared.futures.Kept.TheVariants.{Future, Output}
use Rattle.async_executor.specs.declared.futures.Place.{Place}

module _ {F S T : Type 0} where
  pub kept_here : (xs places : List (Place F S T)) (k slot n number : ℕ) (place : Place F S T) → xs ≡ places → k ≡ slot → n ≡ number
      → k < length xs → place ≡ get_or xs k place → place.number ≡ n → Some place.kept ≡ kept_of number (slice_get places slot)
  kept_here xs places k slot n number place all at named inside is own = grind (arith, slice_get_read, eq-eqb)

  pub kept_of_another : (xs places : List (Place F S T)) (k slot n number : ℕ) (place : Place F S T) → xs ≡ places → k ≡ slot → n ≡ number
      → k < length xs → place ≡ get_or xs k place → (place.number ≡ n → ⊥) → None ≡ kept_of number (slice_get places slot)
  kept_of_another xs places k slot n number place all at named inside is other = grind (arith, slice_get_read, ne_eqb)

  pub kept_past : (xs places : List (Place F S T)) (k slot number : ℕ) → xs ≡ places → k ≡ slot → length xs ≤ k → None ≡ kept_of number (slice_get places slot)
  kept_past xs places k slot number all at past = grind (arith, slice_get_past)

  -- what is kept of a task has its slot within the places
  pub kept_within : (xs places : List (Place F S T)) (slot number len : ℕ) → xs ≡ places → length xs ≡ len → IsTrue (is_some (kept_of number (slice_get places slot))) → slot < len
  kept_within xs places slot number len all long = grind (arith, slice_get_within)

  -- what passes a test is what the place at its slot keeps
  pub kept_by : (test : Option (Kept F S T) → Bool) → test None ≡ false → (xs : List (Place F S T)) (k slot number : ℕ) (place : Place F S T) → k ≡ slot
      → place ≡ get_or xs k place → true ≡ test (kept_of number (slice_get xs slot)) → (place.number ≡ number) × (kept_of number (slice_get xs slot) ≡ Some place.kept)
  kept_by test none xs k slot number place at is = grind (arith, get_or_from_slice_get, cases_Bool, eqb-true)

  pub set_kept : (xs : List (Place F S T)) (k slot n number : ℕ) (kept given : Kept F S T) → k ≡ slot → n ≡ number → kept ≡ given
      → set xs k (record { number = n; kept = kept }) ≡ set xs slot (record { number = number; kept = given })
  set_kept xs k slot n number kept given at own is = cc

  pub no_future : (o : Option (Kept F S T)) → false ≡ is_some (future_in o) → None ≡ future_in o
  no_future o h = grind arith

  pub no_output : (o : Option (Kept F S T)) → false ≡ is_some (output_in o) → None ≡ output_in o
  no_output o h = grind arith

  pub is_future : (kept : Kept F S T) → true ≡ is_some (future_in (Some kept)) → ((f : F) (s : S) → kept ≡ Future f s → ⊥) → ⊥
  is_future kept h none = grind arith

  pub is_output : (kept : Kept F S T) → true ≡ is_some (output_in (Some kept)) → ((t : T) → kept ≡ Output t → ⊥) → ⊥
  is_output kept h none = grind arith
