-- A run of steps goes on by one.
use Rattle.std.proofs.Common.{◌≡◌, List, [], ◌∷◌, ◌++◌, refl, ap, subst}
use Rattle.executor_core.specs.World.Steps.{FoldTo}

module _ {W S R : Type 0} (does : W → S → R → W → Type 0) where
  pub fold_on : (old : W) (steps : List S) (answers : List R) (mid : W) (step : S) (answer : R) (new : W) → FoldTo does old steps answers mid → does mid step answer new → FoldTo does old (steps ++ step ∷ []) (answers ++ answer ∷ []) new
  fold_on old [] [] mid step answer new run to = (new, subst (λ w. does w step answer new) run to, refl)
  fold_on old (s ∷ ss) (a ∷ rest) mid step answer new run to = (run.0, run.1, fold_on run.0 ss rest mid step answer new run.2 to)
  fold_on old [] (a ∷ rest) mid step answer new run to = absurd run
  fold_on old (s ∷ ss) [] mid step answer new run to = absurd run

module _ {X : Type 0} where
  pub snoc_rest : (xs : List X) (x : X) (rest : List X) → (xs ++ x ∷ []) ++ rest ≡ xs ++ x ∷ rest
  snoc_rest [] x rest = refl
  snoc_rest (y ∷ ys) x rest = ap (λ l. y ∷ l) (snoc_rest ys x rest)
