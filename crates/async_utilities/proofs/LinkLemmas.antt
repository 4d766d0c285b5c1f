-- How the links of an order change when a key enters or leaves it.
use Rattle.std.proofs.Common.{◌≡◌, ◌≢◌, ◌⊎◌, ℕ, zero, suc, ◌+◌, List, [], ◌∷◌, ◌++◌, length, refl, sym, ap, ◌∙◌, subst, inl, inr, arith, eq-eqb, ne_eqb}
use Rattle.std.proofs.lemmas.Bool.{cases_eq, cond-true, cond-false}
use Rattle.async_utilities.specs.Links.{IsIn, IsApart, without, Joins, Stands, walk, IsChain}

-- ---- lists of keys

without_here : (key first : ℕ) (rest : List ℕ) → first ≡ key → without key (first ∷ rest) ≡ rest
without_here key first rest same = cond-true _ _ _ (eq-eqb first key same)

pub without_past : (key first : ℕ) (rest : List ℕ) → first ≢ key → without key (first ∷ rest) ≡ first ∷ without key rest
without_past key first rest other = cond-false _ _ _ (ne_eqb first key other)

-- a key that is left was there
pub in_without : (key other : ℕ) (keys : List ℕ) → IsIn other (without key keys) → IsIn other keys
in_without key other [] found = absurd found
in_without key other (first ∷ rest) found =
    elim (cases_eq first key) [
      | inl same ↦ inr (subst (IsIn other) (without_here key first rest same) found)
      | inr differs ↦
          elim (subst (IsIn other) (without_past key first rest differs) found) [
            | inl here ↦ inl here
            | inr there ↦ inr (in_without key other rest there)
          ]
    ]

-- the key that left is there no longer
pub not_in_without : (key : ℕ) (keys : List ℕ) → IsApart keys → ¬ IsIn key (without key keys)
not_in_without key [] apart found = found
not_in_without key (first ∷ rest) apart found =
    elim (cases_eq first key) [
      | inl same ↦ apart.0 (subst (λ k. IsIn k rest) (sym same) (subst (IsIn key) (without_here key first rest same) found))
      | inr differs ↦
          elim (subst (IsIn key) (without_past key first rest differs) found) [
            | inl here ↦ differs here
            | inr there ↦ not_in_without key rest apart.1 there
          ]
    ]

-- every other key stays
pub stays_without : (key other : ℕ) (keys : List ℕ) → IsIn other keys → other ≢ key → IsIn other (without key keys)
stays_without key other [] found differs = absurd found
stays_without key other (first ∷ rest) found differs =
    elim (cases_eq first key) [
      | inl same ↦
          subst (IsIn other) (sym (without_here key first rest same))
          (elim found [ inl here ↦ absurd (differs (sym here ∙ same)) | inr there ↦ there ])
      | inr apart ↦
          subst (IsIn other) (sym (without_past key first rest apart))
          (elim found [ inl here ↦ inl here | inr there ↦ inr (stays_without key other rest there differs) ])
    ]

pub apart_without : (key : ℕ) (keys : List ℕ) → IsApart keys → IsApart (without key keys)
apart_without key [] apart = tt
apart_without key (first ∷ rest) apart =
    elim (cases_eq first key) [
      | inl same ↦ subst IsApart (sym (without_here key first rest same)) apart.1
      | inr differs ↦
          subst IsApart (sym (without_past key first rest differs))
          (λ found. apart.0 (in_without key first rest found), apart_without key rest apart.1)
    ]

pub without_absent : (key : ℕ) (keys : List ℕ) → ¬ IsIn key keys → without key keys ≡ keys
without_absent key [] absent = refl
without_absent key (first ∷ rest) absent =
    without_past key first rest (λ same. absent (inl same)) ∙ ap (λ ks. first ∷ ks) (without_absent key rest (λ there. absent (inr there)))

pub length-without : (key : ℕ) (keys : List ℕ) → IsIn key keys → length (without key keys) + 1 ≡ length keys
length-without key [] found = absurd found
length-without key (first ∷ rest) found =
    elim (cases_eq first key) [
      | inl same ↦ let gone = ap length (without_here key first rest same) in omega arith
      | inr differs ↦
          elim found [
            | inl here ↦ absurd (differs here)
            | inr there ↦
                let gone = ap length (without_past key first rest differs) in
                let shorter = length-without key rest there in
                omega arith
          ]
    ]

pub in_push : (key other : ℕ) (keys : List ℕ) → IsIn other (keys ++ key ∷ []) → IsIn other keys ⊎ (key ≡ other)
in_push key other [] found = elim found [ inl here ↦ inr here | inr nowhere ↦ absurd nowhere ]
in_push key other (first ∷ rest) found =
    elim found [
      | inl here ↦ inl (inl here)
      | inr there ↦ elim (in_push key other rest there) [ inl old ↦ inl (inr old) | inr new ↦ inr new ]
    ]

pub stays_push : (key other : ℕ) (keys : List ℕ) → IsIn other keys → IsIn other (keys ++ key ∷ [])
stays_push key other [] found = absurd found
stays_push key other (first ∷ rest) found = elim found [ inl here ↦ inl here | inr there ↦ inr (stays_push key other rest there) ]

pub last_in : (key : ℕ) (keys : List ℕ) → IsIn key (keys ++ key ∷ [])
last_in key [] = inl refl
last_in key (first ∷ rest) = inr (last_in key rest)

pub apart_push : (key : ℕ) (keys : List ℕ) → IsApart keys → ¬ IsIn key keys → IsApart (keys ++ key ∷ [])
apart_push key [] apart absent = (λ nowhere. nowhere, tt)
apart_push key (first ∷ rest) apart absent = (
  λ found. elim (in_push key first rest found) [ inl old ↦ apart.0 old | inr new ↦ absent (inl (sym new)) ],
  apart_push key rest apart.1 (λ there. absent (inr there)),
)

-- ---- chains

pub length-walk : (next : ℕ → ℕ) (count from : ℕ) → length (walk next count from) ≡ count
length-walk next zero from = refl
length-walk next (suc count) from = ap suc (length-walk next count (next from))

module _ (next prev : ℕ → ℕ) where
  pub walk_chain : (from : ℕ) (keys : List ℕ) (to : ℕ) → IsChain next prev from keys to → walk next (length keys) from ≡ keys
  walk_chain from [] to chain = refl
  walk_chain from (first ∷ rest) to chain = rw chain.0 (ap (λ ks. first ∷ ks) (walk_chain first rest to chain.2))

  -- what stands before the end is one of the keys, or the start
  pub end_on : (from : ℕ) (keys : List ℕ) (to : ℕ) → IsChain next prev from keys to → IsIn (prev to) (from ∷ keys)
  end_on from [] to chain = inl (sym chain.1)
  end_on from (first ∷ rest) to chain = inr (end_on first rest to chain.2)

  start_on : (from : ℕ) (keys : List ℕ) (to : ℕ) → IsChain next prev from keys to → IsIn (next from) (to ∷ keys)
  start_on from [] to chain = inl (sym chain.0)
  start_on from (first ∷ rest) to chain = inr (inl (sym chain.0))

  more : (to first : ℕ) (rest : List ℕ) (at : ℕ) → IsIn at (to ∷ rest) → IsIn at (to ∷ first ∷ rest)
  more to first rest at found = elim found [ inl here ↦ inl here | inr there ↦ inr (inr there) ]

  pub prev_on : (from : ℕ) (keys : List ℕ) (to key : ℕ) → IsChain next prev from keys to → IsIn key keys → IsIn (prev key) (from ∷ keys)
  prev_on from [] to key chain found = absurd found
  prev_on from (first ∷ rest) to key chain found =
      elim found [
        | inl here ↦ inl (sym (ap prev (sym here) ∙ chain.1))
        | inr there ↦ inr (prev_on first rest to key chain.2 there)
      ]

  pub next_on : (from : ℕ) (keys : List ℕ) (to key : ℕ) → IsChain next prev from keys to → IsIn key keys → IsIn (next key) (to ∷ keys)
  next_on from [] to key chain found = absurd found
  next_on from (first ∷ rest) to key chain found =
      more to first rest _
      (elim found [
        | inl here ↦ subst (λ k. IsIn (next k) (to ∷ rest)) here (start_on first rest to chain.2)
        | inr there ↦ next_on first rest to key chain.2 there
      ])

-- one that is on a list is none that is not
far : (at other : ℕ) (keys : List ℕ) → IsIn at keys → ¬ IsIn other keys → at ≢ other
far at other keys on off same = off (subst (λ k. IsIn k keys) same on)

off_cons : (other first : ℕ) (rest : List ℕ) → first ≢ other → ¬ IsIn other rest → ¬ IsIn other (first ∷ rest)
off_cons other first rest differs off found = elim found [ inl here ↦ differs here | inr there ↦ off there ]

module _ (next prev next' prev' : ℕ → ℕ) where
  -- a chain stays if its links stay
  pub chain_kept : (from : ℕ) (keys : List ℕ) (to : ℕ) → IsChain next prev from keys to → ((at : ℕ) → IsIn at (from ∷ keys) → next' at ≡ next at) → ((at : ℕ) → IsIn at (to ∷ keys) → prev' at ≡ prev at) → IsChain next' prev' from keys to
  chain_kept from [] to chain nexts prevs = (nexts from (inl refl) ∙ chain.0, prevs to (inl refl) ∙ chain.1)
  chain_kept from (first ∷ rest) to chain nexts prevs = (
    nexts from (inl refl) ∙ chain.0,
    prevs first (inr (inl refl)) ∙ chain.1,
    chain_kept first rest to chain.2 (λ at on. nexts at (inr on)) (λ at on. prevs at (more next prev to first rest at on)),
  )

  -- the first key leaves
  skip_first : (from first : ℕ) (rest : List ℕ) (to : ℕ) → IsChain next prev from (first ∷ rest) to → IsApart (first ∷ rest) → ¬ IsIn from (first ∷ rest) → ¬ IsIn to (first ∷ rest) → Joins next next' from (next first) → Joins prev prev' (next first) from → IsChain next' prev' from rest to
  skip_first from first [] to chain apart from_off to_off nexts prevs = (nexts.here ∙ chain.2.0, ap prev' (sym chain.2.0) ∙ prevs.here)
  skip_first from first (second ∷ rest) to chain apart from_off to_off nexts prevs = (
    nexts.here ∙ chain.2.0,
    ap prev' (sym chain.2.0) ∙ prevs.here,
    chain_kept second rest to chain.2.2
        (λ at on. nexts.others at (far at from (second ∷ rest) on (λ found. from_off (inr found))))
        (λ at on. prevs.others at
        (λ same. far at second (to ∷ rest) on (off_cons second to rest (λ is. to_off (inr (inl (sym is)))) apart.1.0) (same ∙ chain.2.0))),
  )

  -- a key leaves, wherever it stands
  pub skip_chain : (from : ℕ) (keys : List ℕ) (to key : ℕ) → IsChain next prev from keys to → IsApart keys → ¬ IsIn from keys → ¬ IsIn to keys → IsIn key keys → Joins next next' (prev key) (next key) → Joins prev prev' (next key) (prev key) → IsChain next' prev' from (without key keys) to
  skip_chain from [] to key chain apart from_off to_off found nexts prevs = absurd found
  skip_chain from (first ∷ rest) to key chain apart from_off to_off found nexts prevs =
      elim (cases_eq first key) [
        | inl same ↦
            subst (λ ks. IsChain next' prev' from ks to) (sym (without_here key first rest same))
            (skip_first from first rest to chain apart from_off to_off
            (rw (← same, chain.1) at nexts) (rw (← same, chain.1) at prevs))
        | inr differs ↦
            let there : IsIn key rest = elim found [ inl here ↦ absurd (differs here) | inr later ↦ later ] in
            let before = prev_on next prev first rest to key chain.2 there in
            let behind = next_on next prev first rest to key chain.2 there in
            subst (λ ks. IsChain next' prev' from ks to) (sym (without_past key first rest differs)) (
              nexts.others from (λ same. from_off (subst (λ k. IsIn k (first ∷ rest)) (sym same) before)) ∙ chain.0,
              prevs.others first (λ same. off_cons first to rest (λ is. to_off (inl (sym is))) apart.0 (subst (λ k. IsIn k (to ∷ rest)) (sym same) behind)) ∙ chain.1,
              skip_chain first rest to key chain.2 apart.1 apart.0 (λ later. to_off (inr later)) there nexts prevs,
            )
      ]

  -- a key enters behind the last one
  pub push_chain : (from : ℕ) (keys : List ℕ) (to key : ℕ) → IsChain next prev from keys to → IsApart keys → ¬ IsIn from keys → ¬ IsIn to keys → ¬ IsIn key keys → from ≢ key → Stands next prev next' prev' (prev to) key to → IsChain next' prev' from (keys ++ key ∷ []) to
  push_chain from [] to key chain apart from_off to_off absent other stands =
      (ap next' (sym chain.1) ∙ stands.into, stands.back_out ∙ chain.1, (stands.out, stands.back_into))
  push_chain from (first ∷ rest) to key chain apart from_off to_off absent other stands = (
    stands.nexts from (λ same. from_off (subst (λ k. IsIn k (first ∷ rest)) (sym same) (end_on next prev first rest to chain.2))) other ∙ chain.0,
    stands.previouses first (λ same. to_off (inl same)) (λ same. absent (inl same)) ∙ chain.1,
    push_chain first rest to key chain.2 apart.1 apart.0 (λ later. to_off (inr later)) (λ later. absent (inr later)) (λ same. absent (inl same)) stands,
  )
