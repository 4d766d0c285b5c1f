-- What the calls of a runner make of its line, if no other runner is registered.
use Rattle.std.proofs.Common.{◌≡◌, ◌≢◌, ℕ, zero, suc, ◌+◌, ◌%◌, Bool, not, cond, List, [], ◌∷◌, ◌++◌, take, drop, Option, Some, None, refl, sym, ap, ◌∙◌, subst, inl, inr, append_assoc, arith}
use Rattle.std.proofs.lemmas.Bool.{cases_eq, eq-eqb, ne_eqb}
use Rattle.std.proofs.lemmas.List.{take-append-drop}
use Rattle.std.specs.Prelude.{◌==◌, nat_lt}
use Rattle.std.specs.List.{find, filter}
use Rattle.executor_core.specs.Queues.{RunnerQueue, QueueLists, position_of, local_entries_at, global_stolen, victim, can_steal, search_global, search_at, search, fair, fair_at, registered, unregistered}
use Rattle.executor_core.specs.World.Order.{IsAlone, line}

-- the first position is no other than itself
no_others : (m : ℕ) → filter (λ s. not (s == 0)) (drop m (0 ∷ []) ++ take m (0 ∷ [])) ≡ []
no_others zero = refl
no_others (suc zero) = refl
no_others (suc (suc m)) = refl

-- the position of one item alone, by whether it passes
abbrev first_if : Bool → Option ℕ
first_if passes = cond (nat_lt (cond (not passes) (1 + 0) 0) 1) (Some (cond (not passes) (1 + 0) 0)) None

module _ {X : Type 0} where
  -- the queues, if this runner alone is registered
  abbrev own_queue : ℕ → List X → ℕ → List (RunnerQueue X)
  own_queue r entries capacity = record { runner = r; entries = entries; capacity = capacity } ∷ []

  abbrev lone : ℕ → List X → ℕ → List X → QueueLists X
  lone r entries capacity global = record { global = global; locals = own_queue r entries capacity }

  alone_own : (r : ℕ) (locals : List (RunnerQueue X)) → IsAlone r locals → (entries : List X) × (capacity : ℕ) × (locals ≡ own_queue r entries capacity)
  alone_own r [] alone = absurd (cc)
  alone_own r (q ∷ []) alone =
      let same : q.runner ≡ r = cc in
      (q.entries, q.capacity, ap (λ k. own_queue k q.entries q.capacity) same)
  alone_own r (p ∷ (q ∷ rest)) alone = grind arith

  on_alone : (r : ℕ) (P : QueueLists X → Type 0) → ((entries : List X) (capacity : ℕ) (global : List X) → P (lone r entries capacity global)) → (q : QueueLists X) → IsAlone r q.locals → P q
  on_alone r P holds q alone =
      let own = alone_own r q.locals alone in
      subst (λ locals. P (record { global = q.global; locals = locals })) (sym own.2) (holds own.0 own.1 q.global)

  position-own : (k r : ℕ) (entries : List X) (capacity : ℕ) → k ≡ r → position_of k (own_queue r entries capacity) ≡ Some 0
  position-own k r entries capacity same = ap first_if (eq-eqb r k (sym same))

  position-other : (k r : ℕ) (entries : List X) (capacity : ℕ) → k ≢ r → position_of k (own_queue r entries capacity) ≡ None
  position-other k r entries capacity far = ap first_if (ne_eqb r k (λ same. far (sym same)))

  line-lone : (r : ℕ) (entries : List X) (capacity : ℕ) (global : List X) → line r (lone r entries capacity global) ≡ entries ++ global
  line-lone r entries capacity global = ap (λ o. local_entries_at o (own_queue r entries capacity) ++ global) (position-own r r entries capacity refl)

  -- what goes from the global front to the end of its own queue keeps its place in the line
  line-global_stolen : (r : ℕ) (entries : List X) (capacity : ℕ) (global : List X) → line r (global_stolen 0 (lone r entries capacity global)) ≡ entries ++ global
  line-global_stolen r entries capacity global = grind (arith, line-lone, append_assoc, take-append-drop)

  victim-lone : (word r : ℕ) (entries : List X) (capacity : ℕ) → victim 0 word (own_queue r entries capacity) ≡ None
  victim-lone word r entries capacity = ap (find (can_steal 0 (own_queue r entries capacity))) (no_others (word % 1))

  -- the front of this line is found, or nothing, and the rest is the line after it
  abbrev pub FindsFront : List X → ℕ → Option X × QueueLists X → Type 0
  FindsFront before r (None, after) = before ≡ line r after
  FindsFront before r (Some x, after) = before ≡ x ∷ line r after

  finds_front : (r word : ℕ) (entries : List X) (capacity : ℕ) (global : List X) → FindsFront (entries ++ global) r (search_at (Some 0) word (lone r entries capacity global))
  finds_front r word entries capacity global = grind (arith, line-lone, line-global_stolen, victim-lone)

  pub search_front : (r word : ℕ) (q : QueueLists X) → IsAlone r q.locals → FindsFront (line r q) r (search r word q)
  search_front r word = on_alone r (λ q. FindsFront (line r q) r (search r word q)) found
    where
      found : (entries : List X) (capacity : ℕ) (global : List X) → (let q = lone r entries capacity global in FindsFront (line r q) r (search r word q))
      found entries capacity global =
          let q = lone r entries capacity global in
          subst (λ l. FindsFront l r (search r word q)) (sym (line-lone r entries capacity global)) (subst (λ o. FindsFront (entries ++ global) r (search_at o word q)) (sym (position-own r r entries capacity refl)) (finds_front r word entries capacity global))

  -- another runner is not registered, and searches as a tick does
  pub search-other : (r k word : ℕ) → k ≢ r → (q : QueueLists X) → IsAlone r q.locals → search k word q ≡ search_global q
  search-other r k word far = on_alone r (λ q. search k word q ≡ search_global q) (λ entries capacity global. ap (λ o. search_at o word (lone r entries capacity global)) (position-other k r entries capacity far))

  pub line-fair : (r k : ℕ) (q : QueueLists X) → IsAlone r q.locals → line r (fair k q) ≡ line r q
  line-fair r k = on_alone r (λ q. line r (fair k q) ≡ line r q) same
    where
      same : (entries : List X) (capacity : ℕ) (global : List X) → (let q = lone r entries capacity global in line r (fair k q) ≡ line r q)
      same entries capacity global =
          let q = lone r entries capacity global in
          elim (cases_eq k r) [
            | inl is ↦ ap (λ o. line r (fair_at o q)) (position-own k r entries capacity is) ∙ line-global_stolen r entries capacity global ∙ sym (line-lone r entries capacity global)
            | inr far ↦ ap (λ o. line r (fair_at o q)) (position-other k r entries capacity far)
          ]

  -- this runner is alone after no registration, and after no unregistration of its own
  pub alone_registered : (r k capacity : ℕ) (q : QueueLists X) → IsAlone r q.locals → IsAlone r (registered k capacity q).locals → ⊥
  alone_registered r k capacity = on_alone r (λ q. IsAlone r (registered k capacity q).locals → ⊥) (λ entries own global two. cc)

  pub line-unregistered : (r k : ℕ) (q : QueueLists X) → IsAlone r q.locals → IsAlone r (unregistered k q).locals → line r (unregistered k q) ≡ line r q
  line-unregistered r k = grind (arith, on_alone, cases_eq, position-own, position-other)
