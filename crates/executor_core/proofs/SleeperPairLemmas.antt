-- Pairs of numbers and wakers: where a number stands, and what is read and written there.
use Rattle.std.proofs.Common.{◌≡◌, ◌≢◌, ℕ, suc, ◌+◌, ◌<◌, Bool, true, false, cond, List, [], ◌∷◌, ◌++◌, length, take, drop, get_or, set, Option, Some, None, refl, sym, ap, ◌∙◌, arith}
use Rattle.std.specs.Prelude.{◌==◌, is_some, position}
use Rattle.std.specs.List.{list_any, position_from}
use Rattle.std.specs.Map.{keys_of, lookup, remove_entry, set_value}
use Rattle.std.proofs.lemmas.Bool.{eqb-true}
use Rattle.std.proofs.lemmas.Iterator.Adapters.{position_from-zero}
use Rattle.std.proofs.lemmas.List.{map-append}
use Rattle.executor_core.specs.Numbers.{times}
use Rattle.executor_core.proofs.SleeperNumberLemmas.{times-cons, one-other}

module _ {W : Type 0} where
  -- the number stands at this place, and at none before it
  pub record StandsAt (pairs : List (ℕ × W)) (id at : ℕ) : Type 0 where
    pub within : at < length pairs
    pub removed : take at pairs ++ drop (suc at) pairs ≡ remove_entry (λ k. k == id) pairs
    pub found : (d : ℕ × W) → lookup (λ k. k == id) pairs ≡ Some (get_or pairs at d).1
    pub written : (d : ℕ × W) (w : W) → set pairs at ((get_or pairs at d).0, w) ≡ set_value (λ k. k == id) pairs w

  -- the number stands nowhere
  pub record StandsNowhere (pairs : List (ℕ × W)) (id : ℕ) : Type 0 where
    pub removed : pairs ≡ remove_entry (λ k. k == id) pairs
    pub found : None ≡ lookup (λ k. k == id) pairs
    pub written : (w : W) → pairs ≡ set_value (λ k. k == id) pairs w

  first : (id : ℕ) (p : ℕ × W) (ps : List (ℕ × W)) → (p.0 == id) ≡ true → StandsAt (p ∷ ps) id 0
  first id p ps here = grind arith

  later : (id : ℕ) (p : ℕ × W) (ps : List (ℕ × W)) (at : ℕ) → (p.0 == id) ≡ false → StandsAt ps id at → StandsAt (p ∷ ps) id (suc at)
  later id p ps at other stands = grind arith

  stands_from : (id i : ℕ) (pairs : List (ℕ × W)) (k : ℕ) → position_from (λ p. p.0 == id) i pairs ≡ Some k → (j : ℕ) × (k ≡ i + j) × StandsAt pairs id j
  stands_from id i [] k is = absurd (cc)
  stands_from id i (p ∷ ps) k is = at (stands_from id (i + 1) ps k) (p.0 == id) refl is
    where
      at : (position_from (λ p. p.0 == id) (i + 1) ps ≡ Some k → (j : ℕ) × (k ≡ i + 1 + j) × StandsAt ps id j) → (b : Bool) → (p.0 == id) ≡ b → cond b (Some i) (position_from (λ p. p.0 == id) (i + 1) ps) ≡ Some k → (j : ℕ) × (k ≡ i + j) × StandsAt (p ∷ ps) id j
      at next true here is = let same : i ≡ k = cc in (0, omega arith, first id p ps here)
      at next false other is = let rest = next is in (suc rest.0, (let far = rest.1 in omega arith), later id p ps rest.0 other rest.2)

  pub stands_at : {pairs items : List (ℕ × W)} (id : ℕ) {r : Option ℕ} (k : ℕ) → items ≡ pairs → r ≡ position (λ p. p.0 == id) items → r ≡ Some k → StandsAt pairs id k
  stands_at {pairs} {items} id {r} k same is some = grind (arith, position_from-zero, stands_from)

  nowhere_from : (id i : ℕ) (pairs : List (ℕ × W)) → position_from (λ p. p.0 == id) i pairs ≡ None → StandsNowhere pairs id
  nowhere_from id i [] is = record { removed = refl; found = refl; written = λ w. refl }
  nowhere_from id i (p ∷ ps) is = grind (arith, nowhere_from id (i + 1) ps)

  pub stands_nowhere : {pairs items : List (ℕ × W)} (id : ℕ) {r : Option ℕ} → items ≡ pairs → r ≡ position (λ p. p.0 == id) items → r ≡ None → StandsNowhere pairs id
  stands_nowhere {pairs} {items} id {r} same is none = grind (arith, position_from-zero, nowhere_from)

  pub length-keys : (pairs : List (ℕ × W)) → length (keys_of pairs) ≡ length pairs
  length-keys [] = refl
  length-keys (p ∷ ps) = ap suc (length-keys ps)

  pub keys-push : (pairs : List (ℕ × W)) (k : ℕ) (w : W) → keys_of (pairs ++ (k, w) ∷ []) ≡ keys_of pairs ++ k ∷ []
  keys-push pairs k w = map-append (λ p. p.0) pairs ((k, w) ∷ [])

  pub keys-set_value : (id : ℕ) (pairs : List (ℕ × W)) (w : W) → keys_of (set_value (λ k. k == id) pairs w) ≡ keys_of pairs
  keys-set_value id [] w = refl
  keys-set_value id (p ∷ ps) w = grind (arith, keys-set_value id ps w)

  -- a number stands in the list if and only if a waker is found
  pub any-lookup : (id : ℕ) (pairs : List (ℕ × W)) → list_any (λ k. k == id) (keys_of pairs) ≡ is_some (lookup (λ k. k == id) pairs)
  any-lookup id [] = refl
  any-lookup id (p ∷ ps) = grind (arith, any-lookup id ps)

  pub remove-absent : (id : ℕ) (pairs : List (ℕ × W)) → lookup (λ k. k == id) pairs ≡ None → remove_entry (λ k. k == id) pairs ≡ pairs
  remove-absent id [] none = refl
  remove-absent id (p ∷ ps) none = grind (arith, remove-absent id ps)

  pub set_value-absent : (id : ℕ) (pairs : List (ℕ × W)) (w : W) → lookup (λ k. k == id) pairs ≡ None → set_value (λ k. k == id) pairs w ≡ pairs
  set_value-absent id [] w none = refl
  set_value-absent id (p ∷ ps) w none = grind (arith, set_value-absent id ps w)

  -- how often a number stands in the list without a pair
  pub times-remove_other : (id n : ℕ) (pairs : List (ℕ × W)) → n ≢ id → times n (keys_of (remove_entry (λ k. k == id) pairs)) ≡ times n (keys_of pairs)
  times-remove_other id n [] far = refl
  times-remove_other id n (p ∷ ps) far = at (times-remove_other id n ps far) (p.0 == id) refl
    where
      at : times n (keys_of (remove_entry (λ k. k == id) ps)) ≡ times n (keys_of ps) → (b : Bool) → (p.0 == id) ≡ b → times n (keys_of (cond b ps (p ∷ remove_entry (λ k. k == id) ps))) ≡ times n (keys_of (p ∷ ps))
      at rest true here =
          let same : p.0 ≡ id = eqb-true p.0 id here in
          let none : ◌≡◌ {A = ℕ} (cond (p.0 == n) 1 0) 0 = one-other p.0 n (λ is. far (sym is ∙ same)) in
          let all = times-cons n p.0 (keys_of ps) in
          omega arith
      at rest false other =
          let all = times-cons n p.0 (keys_of ps) in
          let less = times-cons n p.0 (keys_of (remove_entry (λ k. k == id) ps)) in
          omega arith

  pub times-remove_same : (id : ℕ) (pairs : List (ℕ × W)) (w : W) → lookup (λ k. k == id) pairs ≡ Some w → times id (keys_of pairs) ≡ times id (keys_of (remove_entry (λ k. k == id) pairs)) + 1
  times-remove_same id [] w found = absurd (cc)
  times-remove_same id (p ∷ ps) w found = at (times-remove_same id ps w) (p.0 == id) refl found
    where
      at : (lookup (λ k. k == id) ps ≡ Some w → times id (keys_of ps) ≡ times id (keys_of (remove_entry (λ k. k == id) ps)) + 1) → (b : Bool) → (p.0 == id) ≡ b → cond b (Some p.1) (lookup (λ k. k == id) ps) ≡ Some w → times id (keys_of (p ∷ ps)) ≡ times id (keys_of (cond b ps (p ∷ remove_entry (λ k. k == id) ps))) + 1
      at rest true here found =
          let one : ◌≡◌ {A = ℕ} (cond (p.0 == id) 1 0) 1 = ap (λ b. cond b 1 0) here in
          let all = times-cons id p.0 (keys_of ps) in
          omega arith
      at rest false other found =
          let none : ◌≡◌ {A = ℕ} (cond (p.0 == id) 1 0) 0 = ap (λ b. cond b 1 0) other in
          let before = rest found in
          let all = times-cons id p.0 (keys_of ps) in
          let less = times-cons id p.0 (keys_of (remove_entry (λ k. k == id) ps)) in
          omega arith

  pub length-remove : (id : ℕ) (pairs : List (ℕ × W)) (w : W) → lookup (λ k. k == id) pairs ≡ Some w → length pairs ≡ length (remove_entry (λ k. k == id) pairs) + 1
  length-remove id [] w found = absurd (cc)
  length-remove id (p ∷ ps) w found = grind (arith, length-remove id ps w)
