-- Keys that are linked in an order.
use Rattle.std.specs.Prelude.{◌≡◌, ◌≢◌, ◌⊎◌, ◌<◌, ◌==◌, ℕ, zero, suc, List, [], ◌∷◌, if◌then◌else◌, slice_index_or, vec_len, refl}
use Rattle.std.specs.Coded.{Coded, code_by, coded×, coded_ℕ, coded_list}
use Rattle.async_utilities.specs.declared.wait_queue.links.Chain.{Chain}
use Rattle.async_utilities.specs.declared.wait_queue.links.Link.{Link}

-- the keys, first to last, and below which number a key has room
pub record Order : Type 0 where
  pub keys : List ℕ
  pub limit : ℕ

abbrev pub order_code : Coded Order
order_code = code_by (List ℕ × ℕ) (coded× (coded_list coded_ℕ) coded_ℕ) (λ s. (s.keys, s.limit)) (λ p. record { keys = p.0; limit = p.1 }) (λ _. refl)

-- the key is one of these
abbrev pub IsIn : ℕ → List ℕ → Type 0
IsIn key [] = ⊥
IsIn key (first ∷ rest) = (first ≡ key) ⊎ IsIn key rest

-- no key is there twice
abbrev pub IsApart : List ℕ → Type 0
IsApart [] = Unit {0}
IsApart (first ∷ rest) = (¬ IsIn first rest) × IsApart rest

-- these keys but for this one
abbrev pub without : ℕ → List ℕ → List ℕ
without key [] = []
without key (first ∷ rest) = if first == key then rest else first ∷ without key rest

-- stands before the first key and behind the last one
abbrev pub end : ℕ
end = 18446744073709551615

abbrev pub no_link : Link
no_link = record { previous = 0; next = 0 }

-- the key behind this one
abbrev pub next_of : Chain → ℕ → ℕ
next_of chain at = if at == end then chain.first else (slice_index_or chain.links.items at no_link).next

-- the key before this one
abbrev pub previous_of : Chain → ℕ → ℕ
previous_of chain at = if at == end then chain.last else (slice_index_or chain.links.items at no_link).previous

-- it is a key with room, or the end
abbrev pub IsLink : Chain → ℕ → Type 0
IsLink chain at = (at ≡ end) ⊎ (at < vec_len chain.links)

-- each link leads where it did
abbrev pub KeepsLinks : (Chain → ℕ → ℕ) → Chain → Chain → Type 0
KeepsLinks leads old new = (at : ℕ) → IsLink old at → leads new at ≡ leads old at

-- what leads from each place to another leads from this one to that, and from the others as before
pub record Joins (old new : ℕ → ℕ) (from to : ℕ) : Type 0 where
  pub here : new from ≡ to
  pub others : (at : ℕ) → at ≢ from → new at ≡ old at

-- the neighbours of the key are joined
pub record Skips (old new : Chain) (key : ℕ) : Type 0 where
  pub next : Joins (next_of old) (next_of new) (previous_of old key) (next_of old key)
  pub previous : Joins (previous_of old) (previous_of new) (next_of old key) (previous_of old key)

-- the key stands between two places, and all else is as before
pub record Stands (next previous next' previous' : ℕ → ℕ) (before key behind : ℕ) : Type 0 where
  pub into : next' before ≡ key
  pub out : next' key ≡ behind
  pub back_into : previous' behind ≡ key
  pub back_out : previous' key ≡ before
  pub nexts : (at : ℕ) → at ≢ before → at ≢ key → next' at ≡ next at
  pub previouses : (at : ℕ) → at ≢ behind → at ≢ key → previous' at ≡ previous at

-- the key stands behind the last one
abbrev pub Inserts : Chain → Chain → ℕ → Type 0
Inserts old new key = Stands (next_of old) (previous_of old) (next_of new) (previous_of new) (previous_of old end) key end

-- so many keys, read off the links behind a place
abbrev pub walk : (ℕ → ℕ) → ℕ → ℕ → List ℕ
walk next zero from = []
walk next (suc count) from = next from ∷ walk next count (next from)

-- the links lead from one place over these keys to the other place, and back
abbrev pub IsChain : (ℕ → ℕ) → (ℕ → ℕ) → ℕ → List ℕ → ℕ → Type 0
IsChain next previous from [] to = (next from ≡ to) × (previous to ≡ from)
IsChain next previous from (key ∷ keys) to = (next from ≡ key) × (previous key ≡ from) × IsChain next previous key keys to

-- these keys are linked, each once, and each has room
pub record Linked (chain : Chain) (keys : List ℕ) : Type 0 where
  pub chained : IsChain (next_of chain) (previous_of chain) end keys end
  pub apart : IsApart keys
  pub within : (key : ℕ) → IsIn key keys → key < vec_len chain.links

-- as many keys as are counted
abbrev pub keys_of : Chain → ℕ → List ℕ
keys_of chain len = walk (next_of chain) len end

abbrev pub order_of : Chain → ℕ → Order
order_of chain len = record { keys = keys_of chain len; limit = vec_len chain.links }

abbrev pub IsLinked : Chain → ℕ → Type 0
IsLinked chain len = Linked chain (keys_of chain len)
