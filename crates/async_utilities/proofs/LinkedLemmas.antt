-- What a change of the links makes of the order that they hold.
use Rattle.std.proofs.Common.{◌≡◌, ◌≢◌, ◌^◌, ℕ, ◌<◌, ◌≤◌, List, [], ◌∷◌, ◌++◌, length, true, false, vec_len, sym, ap, ◌∙◌, subst, inl, inr, arith, eqb, ne_eqb}
use Rattle.std.proofs.lemmas.Bool.{cases_eq}
use Rattle.std.proofs.lemmas.Map.Steps.{length-le_from_distinct_below}
use Rattle.std.specs.List.{AllByRecursion, IsDistinct, list_any}
use Rattle.async_utilities.specs.Links.{IsIn, IsApart, IsLink, IsLinked, Inserts, Linked, Skips, end, keys_of, next_of, previous_of, without}
use Rattle.async_utilities.specs.declared.wait_queue.links.Chain.{Chain}
use Rattle.async_utilities.proofs.LinkLemmas.{apart_push, apart_without, chain_kept, end_on, in_push, in_without, length-walk, next_on, prev_on, push_chain, skip_chain, walk_chain}

-- the end is no key
pub end_off : (chain : Chain) (keys : List ℕ) → vec_len chain.links < 2 ^ 63 → Linked chain keys → ¬ IsIn end keys
end_off chain keys short linked found = let below = linked.within end found in omega arith

on_link : (chain : Chain) (keys : List ℕ) → Linked chain keys → (at : ℕ) → IsIn at (end ∷ keys) → IsLink chain at
on_link chain keys linked at found = elim found [ inl here ↦ inl (sym here) | inr there ↦ inr (linked.within at there) ]

-- what the walk finds
pub keys_are : (chain : Chain) (keys : List ℕ) (len : ℕ) → Linked chain keys → len ≡ length keys → keys_of chain len ≡ keys
keys_are chain keys len linked counted = ap (keys_of chain) counted ∙ walk_chain (next_of chain) (previous_of chain) end keys end linked.chained

pub is_linked : (chain : Chain) (keys : List ℕ) (len : ℕ) → Linked chain keys → len ≡ length keys → IsLinked chain len
is_linked chain keys len linked counted = subst (Linked chain) (sym (keys_are chain keys len linked counted)) linked

pub length-keys : (chain : Chain) (len : ℕ) → length (keys_of chain len) ≡ len
length-keys chain len = length-walk (next_of chain) len end

module _ (old new : Chain) (keys : List ℕ) (linked : Linked old keys) where
  -- more room
  pub grown_linked : vec_len old.links ≤ vec_len new.links → ((at : ℕ) → IsLink old at → next_of new at ≡ next_of old at) → ((at : ℕ) → IsLink old at → previous_of new at ≡ previous_of old at) → Linked new keys
  grown_linked grows nexts prevs = grind (arith, chain_kept, on_link)

  -- the last one
  pub last_link : IsLink old (previous_of old end)
  last_link = on_link old keys linked _ (end_on (next_of old) (previous_of old) end keys end linked.chained)

  pub not_last : (key : ℕ) → key < vec_len old.links → vec_len old.links < 2 ^ 63 → ¬ IsIn key keys → key ≢ previous_of old end
  not_last key below short absent same = grind (arith, end_on)

  pub pushed_linked : (key : ℕ) → key < vec_len old.links → vec_len new.links ≡ vec_len old.links → vec_len old.links < 2 ^ 63 → ¬ IsIn key keys → Inserts old new key → Linked new (keys ++ key ∷ [])
  pushed_linked key below same short absent inserts =
      let off = end_off old keys short linked in
      record {
        chained = push_chain (next_of old) (previous_of old) (next_of new) (previous_of new) end keys end key linked.chained linked.apart off off absent (λ is. omega arith) inserts;
        apart = apart_push key keys linked.apart absent;
        within = λ other found.
            elim (in_push key other keys found) [
              | inl was ↦ let below = linked.within other was in omega arith
              | inr is ↦ omega arith
            ];
      }

  pub before_link : (key : ℕ) → IsIn key keys → IsLink old (previous_of old key)
  before_link key found = on_link old keys linked _ (prev_on (next_of old) (previous_of old) end keys end key linked.chained found)

  pub behind_link : (key : ℕ) → IsIn key keys → IsLink old (next_of old key)
  behind_link key found = on_link old keys linked _ (next_on (next_of old) (previous_of old) end keys end key linked.chained found)

  pub skipped_linked : (key : ℕ) → vec_len new.links ≡ vec_len old.links → vec_len old.links < 2 ^ 63 → IsIn key keys → Skips old new key → Linked new (without key keys)
  skipped_linked key same short found skips =
      let off = end_off old keys short linked in
      record {
        chained = skip_chain (next_of old) (previous_of old) (next_of new) (previous_of new) end keys end key linked.chained linked.apart off off found skips.next skips.previous;
        apart = apart_without key keys linked.apart;
        within = λ other there. let below = linked.within other (in_without key other keys there) in omega arith;
      }

-- ---- no more keys than have room

differs_from_rest : (key : ℕ) (keys : List ℕ) → ¬ IsIn key keys → AllByRecursion (λ other. eqb key other ≡ false) keys
differs_from_rest key [] absent = tt
differs_from_rest key (first ∷ rest) absent = (ne_eqb key first (λ same. absent (inl (sym same))), differs_from_rest key rest (λ there. absent (inr there)))

distinct : (keys : List ℕ) → IsApart keys → IsDistinct eqb keys
unfolding IsDistinct
distinct [] apart = tt
distinct (first ∷ rest) apart = (differs_from_rest first rest apart.0, distinct rest apart.1)

found_in : (key : ℕ) (keys : List ℕ) → list_any (eqb key) keys ≡ true → IsIn key keys
found_in key [] found = absurd (cc)
found_in key (first ∷ rest) found =
    elim (cases_eq key first) [
      | inl same ↦ inl (sym same)
      | inr differs ↦ inr (found_in key rest (rw (ne_eqb key first differs) at found))
    ]

pub few_keys : (chain : Chain) (keys : List ℕ) → Linked chain keys → length keys ≤ vec_len chain.links
few_keys chain keys linked = length-le_from_distinct_below keys (vec_len chain.links) (distinct keys linked.apart) (λ key found. linked.within key (found_in key keys found))
