-- The first of those who wait, when one place changes.
use Rattle.std.proofs.Common.{◌≡◌, ◌≢◌, ℕ, List, [], ◌∷◌, Bool, false, true, not, Some, None, sym, ap, ◌∙◌, inl, inr, arith}
use Rattle.std.proofs.lemmas.Bool.{cases_eq}
use Rattle.std.proofs.lemmas.Option.{none-some}
use Rattle.async_utilities.specs.Links.{without}
use Rattle.async_utilities.specs.WaitQueue.{Moves, Waiters, first_waker, place_at, waker_first, waker_of}

pub is_not_false : (b : Bool) → not b ≡ false → b ≡ true
is_not_false b is = grind arith

module _ {W : Type 0} (old new : Waiters W) (place : ℕ) (others : (other : ℕ) → other ≢ place → place_at new other ≡ place_at old other) where
  -- one that is free now is not the first one
  left_by : place_at new place ≡ None → (waiting : List ℕ) (w : W) → waker_first new waiting ≡ Some w → waker_first old waiting ≡ Some w
  left_by gone [] w is = absurd (none-some w is)
  left_by gone (first ∷ rest) w is = elim (cases_eq first place) [
    | inl same ↦ absurd (none-some w (sym (ap waker_of (ap (place_at new) same ∙ gone)) ∙ is))
    | inr differs ↦ ap waker_of (sym (others first differs)) ∙ is
  ]

module _ {W : Type 0} (old new : Waiters W) (place : ℕ) where
  pub first_left : Moves old new place None (without place old.waiting) → new.waiting ≡ old.waiting → (w : W) → first_waker new ≡ Some w → first_waker old ≡ Some w
  first_left moves same w is = left_by old new place moves.others moves.changed old.waiting w (sym (ap (waker_first new) same) ∙ is)
