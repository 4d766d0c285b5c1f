-- What a run still has to search for, of what it was notified of in its shards.
use Rattle.std.specs.Prelude.{◌≡◌, ℕ, suc, Option, Some, None, List}
use Rattle.std.specs.List.{AllWithin}

-- of the sleepers before this one, none has a notice but this one, if there is one
abbrev pub OwesOnly : {S : Type 0} → {N : Type 0} → (notice : S → Option N) → Option ℕ → List S → ℕ → Type 0
OwesOnly notice None sleepers to = AllWithin (λ s. notice s ≡ None) sleepers 0 to
OwesOnly notice (Some at) sleepers to =
    AllWithin (λ s. notice s ≡ None) sleepers 0 at × AllWithin (λ s. notice s ≡ None) sleepers (suc at) to
