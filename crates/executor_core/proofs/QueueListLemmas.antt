-- Lists from which entries move to another one, from the front to the end.
use Rattle.std.proofs.Common.{◌≡◌, ℕ, zero, suc, ◌+◌, List, [], ◌∷◌, ◌++◌, take, drop, Some, refl, sym, ap, ◌∙◌, add-one, append_assoc}
use Rattle.std.specs.Prelude.{slice_get}
use Rattle.executor_core.specs.Ring.{IdRing}
use Rattle.executor_core.specs.declared.task.cell.TaskId.{TaskId}

module _ {X : Type 0} where
  take_front : (xs : List X) (i : ℕ) (x : X) → slice_get (drop i xs) 0 ≡ Some x → take (suc i) xs ≡ take i xs ++ x ∷ []
  take_front [] zero x is = absurd (cc)
  take_front [] (suc i) x is = absurd (cc)
  take_front (y ∷ ys) zero x is = let same : y ≡ x = cc in ap (λ z. z ∷ []) same
  take_front (y ∷ ys) (suc i) x is = ap (λ l. y ∷ l) (take_front ys i x is)

  drop_front : (xs : List X) (i : ℕ) → drop 1 (drop i xs) ≡ drop (suc i) xs
  drop_front [] zero = refl
  drop_front [] (suc i) = refl
  drop_front (y ∷ ys) zero = refl
  drop_front (y ∷ ys) (suc i) = drop_front ys i

  pub drop_next : (xs : List X) (i : ℕ) → drop 1 (drop i xs) ≡ drop (i + 1) xs
  drop_next xs i = rw add-one (drop_front xs i)

  pub take_next : (xs ys : List X) (i : ℕ) (x : X) → slice_get (drop i xs) 0 ≡ Some x → (ys ++ take i xs) ++ x ∷ [] ≡ ys ++ take (i + 1) xs
  take_next xs ys i x is = append_assoc ys (take i xs) (x ∷ []) ∙ ap (λ l. ys ++ l) (rw add-one (sym (take_front xs i x is)))

-- one entry more has moved: what the source is then, and the target
pub source_moved : (first before after : IdRing) (i : ℕ) → before ≡ record first { ids = drop i first.ids } → after ≡ record before { ids = drop 1 before.ids } → after ≡ record first { ids = drop (i + 1) first.ids }
source_moved first before after i was popped =
    popped ∙ ap (λ (r : IdRing). let x : IdRing = record r { ids = drop 1 r.ids } in x) was ∙ ap (λ (l : List TaskId). let x : IdRing = record first { ids = l } in x) (drop_next first.ids i)

pub target_moved : (source left : List TaskId) (first before after : IdRing) (i : ℕ) (id : TaskId) → left ≡ drop i source → slice_get left 0 ≡ Some id → before ≡ record first { ids = first.ids ++ take i source } → after ≡ record before { ids = before.ids ++ id ∷ [] } → after ≡ record first { ids = first.ids ++ take (i + 1) source }
target_moved source left first before after i id rest front was pushed =
    pushed ∙ ap (λ (r : IdRing). let x : IdRing = record r { ids = r.ids ++ id ∷ [] } in x) was ∙ ap (λ (l : List TaskId). let x : IdRing = record first { ids = l } in x) (take_next source first.ids i id (sym (ap (λ l. slice_get l 0) rest) ∙ front))
