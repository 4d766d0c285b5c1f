-- What a world keeps of each task, and what is known of it, by number.
use Rattle.std.proofs.Common.{◌≡◌, ℕ, zero, suc, ◌<◌, true, List, [], ◌∷◌, ◌++◌, length, Option, Some, None, refl, sym, ap, ◌∙◌, arith}
use Rattle.std.proofs.lemmas.List.{map-append}
use Rattle.std.specs.Prelude.{slice_get, slice_set}
use Rattle.executor_core.specs.World.Entries.{infos}
use Rattle.executor_core.specs.World.{Execution}
use Rattle.executor_core.specs.World.Steps.{info, info_or}
use Rattle.executor_core.specs.World.View.{execution_of}
use Rattle.executor_core.specs.declared.interleave.World.TheInside.{Inside}
use Rattle.executor_core.specs.declared.interleave.entry.TaskInfo.{TaskInfo}
use Rattle.executor_core.specs.declared.interleave.entry.TaskEntry.{TaskEntry}
use Rattle.executor_core.specs.declared.interleave.entry.FutureOut.{FutureOut}

module _ {P : Type 0} where
  pub infos-push : (entries : List (TaskEntry P)) (e : TaskEntry P) → infos (entries ++ e ∷ []) ≡ infos entries ++ e.info ∷ []
  infos-push entries e = map-append (λ e. e.info) entries (e ∷ [])

  pub infos-set : (entries : List (TaskEntry P)) (n : ℕ) (e : TaskEntry P) → infos (slice_set entries n e) ≡ slice_set (infos entries) n e.info
  infos-set [] n e = refl
  infos-set (x ∷ xs) zero e = refl
  infos-set (x ∷ xs) (suc n) e = ap (λ l. x.info ∷ l) (infos-set xs n e)

  pub length-infos : (entries : List (TaskEntry P)) → length (infos entries) ≡ length entries
  length-infos [] = refl
  length-infos (x ∷ xs) = ap suc (length-infos xs)

  -- what is known of a task stands in its entry
  pub entry_of : (entries : List (TaskEntry P)) (n : ℕ) (i : TaskInfo) → slice_get (infos entries) n ≡ Some i → (out : Option (FutureOut P)) × (slice_get entries n ≡ Some (record { info = i; out = out }))
  entry_of [] n i is = absurd (cc)
  entry_of (x ∷ xs) zero i is = let same : x.info ≡ i = cc in (x.out, ap (λ (k : TaskInfo). Some (record x { info = k })) same)
  entry_of (x ∷ xs) (suc n) i is = entry_of xs n i is

  pub info_at : (entries : List (TaskEntry P)) (n : ℕ) (e : TaskEntry P) → slice_get entries n ≡ Some e → slice_get (infos entries) n ≡ Some e.info
  info_at [] n e is = absurd (cc)
  info_at (x ∷ xs) zero e is = let same : x ≡ e = cc in ap (λ (k : TaskEntry P). Some k.info) same
  info_at (x ∷ xs) (suc n) e is = info_at xs n e is

  with_handle_within : (entries : List (TaskEntry P)) (n : ℕ) → (info_or (slice_get (infos entries) n)).has_handle ≡ true → n < length entries
  with_handle_within [] n there = absurd (cc)
  with_handle_within (x ∷ xs) zero there = omega arith
  with_handle_within (x ∷ xs) (suc n) there = let inner = with_handle_within xs n there in omega arith

  pub no_info : (entries : List (TaskEntry P)) (n : ℕ) → slice_get entries n ≡ None → slice_get (infos entries) n ≡ None
  no_info [] n is = refl
  no_info (x ∷ xs) zero is = absurd (cc)
  no_info (x ∷ xs) (suc n) is = no_info xs n is

module _ {P T : Type 0} (a : Inside P T) {w : Execution T} (view : execution_of a ≡ w) (n : ℕ) where
  -- a task with a handle is one of the tasks
  pub handle_within : (info n w).has_handle ≡ true → n < length a.entries.items
  handle_within there = with_handle_within a.entries.items n (ap (λ w. (info n w).has_handle) view ∙ there)

  -- what is known of it says that the handle is there
  pub handle_there : {i : TaskInfo} → slice_get (infos a.entries.items) n ≡ Some i → (info n w).has_handle ≡ true → i.has_handle ≡ true
  handle_there found there = sym (ap (λ o. (info_or o).has_handle) found) ∙ ap (λ w. (info n w).has_handle) view ∙ there
