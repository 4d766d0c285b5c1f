-- Handles that are added one at a time.
use Rattle.std.proofs.Common.{◌≡◌, ℕ, ◌+◌, Bool, false, List, [], ◌∷◌, ◌++◌, refl, sym, ◌∙◌, ap}
use Rattle.std.proofs.Common.{append_assoc, append-nil}
use Rattle.std.proofs.lemmas.List.{length_push}
use Rattle.std.proofs.lemmas.List.Elements.{All-nil, All-push}
use Rattle.async_executor.specs.SpawnMany.{AddsHandles}

module _ {T : Type 0} (answered : T → Bool) where
  pub adds_none : (before : List T) → AddsHandles answered before 0 before
  adds_none before = ([], sym (append-nil before), refl, All-nil (λ task. answered task ≡ false))

  -- one handle is added to a list that is the same as that to which n were
  pub adds_one : (before middle same after : List T) (n more : ℕ) (task : T) → more ≡ n + 1 → AddsHandles answered before n middle → same ≡ middle → after ≡ same ++ task ∷ [] → answered task ≡ false → AddsHandles answered before more after
  adds_one before middle same after n more task is_more adds is_same pushed unanswered = (
    adds.0 ++ task ∷ [],
    pushed ∙ ap (λ xs. xs ++ task ∷ []) (is_same ∙ adds.1) ∙ append_assoc before adds.0 (task ∷ []),
    length_push adds.0 task ∙ ap (λ k. k + 1) adds.2 ∙ sym is_more,
    All-push (λ task. answered task ≡ false) adds.0 task adds.3 unanswered,
  )
