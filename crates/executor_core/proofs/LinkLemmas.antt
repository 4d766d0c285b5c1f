-- The queue that is linked through the slots: what a change of one slot keeps, and what a push and a pop make of it.
use Rattle.std.proofs.Common.{◌≡◌, ◌≢◌, ℕ, zero, suc, ◌+◌, ◌<◌, List, [], ◌∷◌, ◌++◌, length, drop, set, get_or, Option, Some, None, refl, sym, ap, subst, ◌∙◌, inl, inr, arith}
use Rattle.std.proofs.Math.ListN.{get_or-map}
use Rattle.std.proofs.lemmas.Bool.{cases_eq}
use Rattle.std.proofs.lemmas.List.{map-set}
use Rattle.std.proofs.lemmas.List.Elements.{All-nil, All-cons, All-head, All-tail, All-push, All-weaker}
use Rattle.std.specs.List.{All}
use Rattle.std.specs.Prelude.{option_map, slice_get}
use Rattle.executor_core.specs.Slots.{Changes, Beside, SlotsApart, HasCell, IsQueue, numbered}
use Rattle.executor_core.specs.Slots.View.{no_slot, entries_of, met, walk, slots_of, Chain, EndsAt, IsChain, IsLinked}
use Rattle.executor_core.proofs.SlotLemmas.{set_changes, cleared_changes}
use Rattle.executor_core.specs.declared.task.cell.Cell.{Cell}
use Rattle.executor_core.specs.declared.task.cell.Numbered.{Numbered}
use Rattle.executor_core.specs.declared.task.slots.Slot.{Slot}
use Rattle.executor_core.specs.declared.task.cell.TaskId.{TaskId}

module _ {X : Type 0} where
  All-prefix : (P : X → Type 0) (xs ys : List X) → All P (xs ++ ys) → All P xs
  All-prefix P [] ys all = All-nil P
  All-prefix P (x ∷ xs) ys all = All-cons P x xs (All-head P x (xs ++ ys) all) (All-prefix P xs ys (All-tail P x (xs ++ ys) all))

  All-suffix : (P : X → Type 0) (xs ys : List X) → All P (xs ++ ys) → All P ys
  All-suffix P [] ys all = all
  All-suffix P (x ∷ xs) ys all = All-suffix P xs ys (All-tail P x (xs ++ ys) all)

  same_set : (xs : List (Option X)) (key : ℕ) (x : X) → get_or xs key None ≡ Some x → set xs key (Some x) ≡ xs
  same_set [] key x there = absurd (cc)
  same_set (y ∷ xs) zero x there = ap (λ o. o ∷ xs) (sym there)
  same_set (y ∷ xs) (suc key) x there = ap (λ l. y ∷ l) (same_set xs key x there)

-- slots that are apart
apart_prefix : (xs ys : List TaskId) → SlotsApart (xs ++ ys) → SlotsApart xs
apart_prefix [] ys apart = tt
apart_prefix (x ∷ xs) ys apart = (All-prefix (λ (id : TaskId). id.slot ≢ x.slot) xs ys apart.0, apart_prefix xs ys apart.1)

apart_suffix : (xs ys : List TaskId) → SlotsApart (xs ++ ys) → SlotsApart ys
apart_suffix [] ys apart = apart
apart_suffix (x ∷ xs) ys apart = apart_suffix xs ys apart.1

apart_last : (xs : List TaskId) (id : TaskId) → SlotsApart (xs ++ id ∷ []) → Beside id.slot xs
apart_last [] id apart = All-nil (λ (other : TaskId). other.slot ≢ id.slot)
apart_last (x ∷ xs) id apart =
    All-cons (λ (other : TaskId). other.slot ≢ id.slot) x xs
    (λ same. All-head (λ (other : TaskId). other.slot ≢ x.slot) id [] (All-suffix (λ (other : TaskId). other.slot ≢ x.slot) xs (id ∷ []) apart.0) (sym same))
    (apart_last xs id apart.1)

apart_push : (xs : List TaskId) (id : TaskId) → SlotsApart xs → Beside id.slot xs → SlotsApart (xs ++ id ∷ [])
apart_push [] id apart beside = (All-nil (λ (other : TaskId). other.slot ≢ id.slot), tt)
apart_push (x ∷ xs) id apart beside =
    let far = All-head (λ (other : TaskId). other.slot ≢ id.slot) x xs beside in
    (pushed xs apart.0 (λ same. far (sym same)), apart_push xs id apart.1 (All-tail (λ (other : TaskId). other.slot ≢ id.slot) x xs beside))
  where
    pushed : (ys : List TaskId) → Beside x.slot ys → id.slot ≢ x.slot → Beside x.slot (ys ++ id ∷ [])
    pushed [] others far = All-cons (λ (other : TaskId). other.slot ≢ x.slot) id [] far others
    pushed (y ∷ ys) others far =
        All-cons (λ (other : TaskId). other.slot ≢ x.slot) y (ys ++ id ∷ []) (All-head (λ (other : TaskId). other.slot ≢ x.slot) y ys others) (pushed ys (All-tail (λ (other : TaskId). other.slot ≢ x.slot) y ys others) far)

-- what holds of each slot holds of the last one
at_last : (Q : ℕ → Type 0) (ids : List TaskId) (last : ℕ) → length ids ≢ 0 → All (λ (id : TaskId). Q id.slot) ids → EndsAt last ids → Q last
at_last Q [] last some all ends = absurd (some refl)
at_last Q (x ∷ []) last some all ends = subst Q ends (All-head (λ (id : TaskId). Q id.slot) x [] all)
at_last Q (x ∷ y ∷ rest) last some all ends = at_last Q (y ∷ rest) last (omega arith) (All-tail (λ (id : TaskId). Q id.slot) x (y ∷ rest) all) ends

ends_push : (xs : List TaskId) (id : TaskId) → EndsAt id.slot (xs ++ id ∷ [])
ends_push [] id = refl
ends_push (x ∷ []) id = refl
ends_push (x ∷ y ∷ rest) id = ends_push (y ∷ rest) id

module _ {P T W : Type 0} where
  pub prefix_queue : (slots : List (Option (Numbered (Cell P T W)))) (xs ys : List TaskId) → IsQueue slots (xs ++ ys) → IsQueue slots xs
  prefix_queue slots xs ys queue = record { placed = All-prefix (HasCell slots) xs ys queue.placed; apart = apart_prefix xs ys queue.apart }

  pub suffix_queue : (slots : List (Option (Numbered (Cell P T W)))) (xs ys : List TaskId) → IsQueue slots (xs ++ ys) → IsQueue slots ys
  suffix_queue slots xs ys queue = record { placed = All-suffix (HasCell slots) xs ys queue.placed; apart = apart_suffix xs ys queue.apart }

  -- the entry of a slot
  pub entry_at : (slots : List (Option (Slot P T W))) (at : ℕ) (s : Slot P T W) → get_or slots at None ≡ Some s → get_or (entries_of slots) at None ≡ Some s.entry
  entry_at slots at s there = get_or-map (option_map (λ (s : Slot P T W). s.entry)) slots at None ∙ ap (option_map (λ (s : Slot P T W). s.entry)) there

  -- the slot of an entry
  pub record SlotAt (slots : List (Option (Slot P T W))) (at : ℕ) (e : Numbered (Cell P T W)) : Type 0 where
    pub slot : Slot P T W
    pub there : get_or slots at None ≡ Some slot
    pub entry : slot.entry ≡ e

  pub slot_at : (slots : List (Option (Slot P T W))) (at : ℕ) (e : Numbered (Cell P T W)) → get_or (entries_of slots) at None ≡ Some e → SlotAt slots at e
  slot_at slots at e there = by (get_or slots at None) refl (sym (get_or-map (option_map (λ (s : Slot P T W). s.entry)) slots at None) ∙ there)
    where
      by : (o : Option (Slot P T W)) → get_or slots at None ≡ o → option_map (λ (s : Slot P T W). s.entry) o ≡ Some e → SlotAt slots at e
      by None is none = absurd (cc)
      by (Some s) is same = let entry : s.entry ≡ e = cc in record { slot = s; there = is; entry = entry }

  -- the entries after a write of one slot
  pub entries-set : (slots : List (Option (Slot P T W))) (key : ℕ) (s : Slot P T W) → entries_of (set slots key (Some s)) ≡ set (entries_of slots) key (Some s.entry)
  entries-set slots key s = map-set (option_map (λ (s : Slot P T W). s.entry)) slots key (Some s)

  -- a write of a link alone
  pub entries_kept : (slots : List (Option (Slot P T W))) (key : ℕ) (s t : Slot P T W) → get_or slots key None ≡ Some s → t.entry ≡ s.entry → entries_of (set slots key (Some t)) ≡ entries_of slots
  entries_kept slots key s t there same = grind (arith, entries-set, same_set, entry_at)

  -- what a walk meets
  walked : (slots : List (Option (Slot P T W))) (ids : List TaskId) (at : ℕ) → Chain slots ids at → walk slots (length ids) at ≡ ids
  walked slots [] at chain = refl
  walked slots (id ∷ rest) at chain =
      let s = chain.1 in
      let here : TaskId = record { number = s.entry.number; slot = at } in
      let same : here ≡ id = λ i. record { number = chain.3 i; slot = sym chain.0 i } in
      ap (met at (walk slots (length rest))) chain.2 ∙ (λ i. same i ∷ walked slots rest s.next chain.4 i)

  pub walk_is : (slots : List (Option (Slot P T W))) (ids : List TaskId) (first len : ℕ) → Chain slots ids first → len ≡ length ids → walk slots len first ≡ ids
  walk_is slots ids first len chain same = ap (λ n. walk slots n first) same ∙ walked slots ids first chain

  pub is_linked : (slots : List (Option (Slot P T W))) (ids : List TaskId) (first last len : ℕ) → IsChain slots first last ids → len ≡ length ids → IsLinked slots first last len
  is_linked slots ids first last len linked same = grind (arith, walk_is)

  pub view_linked : (slots : List (Option (Slot P T W))) (ids : List TaskId) (entries : List (Option (Numbered (Cell P T W)))) (first last len : ℕ) → IsChain slots first last ids → len ≡ length ids → entries_of slots ≡ entries
      → slots_of slots first len ≡ record { slots = entries; queue = ids }
  view_linked slots ids entries first last len linked same seen = λ i. record { slots = seen i; queue = walk_is slots ids first len linked.chain same i }

  -- the ids of a chain have cells
  chain_placed : (slots : List (Option (Slot P T W))) (ids : List TaskId) (at : ℕ) → Chain slots ids at → All (HasCell (entries_of slots)) ids
  chain_placed slots [] at chain = All-nil (HasCell (entries_of slots))
  chain_placed slots (id ∷ rest) at chain =
      let s = chain.1 in
      All-cons (HasCell (entries_of slots)) id rest
      (s.entry, entry_at slots id.slot s (ap (λ k. get_or slots k None) chain.0 ∙ chain.2), chain.3)
      (chain_placed slots rest s.next chain.4)

  pub chain_queue : {slots : List (Option (Slot P T W))} {first last : ℕ} {ids : List TaskId} → IsChain slots first last ids → IsQueue (entries_of slots) ids
  chain_queue {slots} {first} {ids = ids} linked = record { placed = chain_placed slots ids first linked.chain; apart = linked.apart }

  -- a chain does not meet an empty slot
  unmet : (slots : List (Option (Slot P T W))) (key : ℕ) → get_or slots key None ≡ None → (ids : List TaskId) (at : ℕ) → Chain slots ids at → Beside key ids
  unmet slots key none [] at chain = All-nil (λ (id : TaskId). id.slot ≢ key)
  unmet slots key none (id ∷ rest) at chain = grind (arith, unmet slots key none rest chain.1.next chain.4)

  -- one slot changes, which the chain does not meet
  chain_beside : (old new : List (Option (Slot P T W))) (key : ℕ) (slot : Option (Slot P T W)) → Changes old new key slot → (ids : List TaskId) (at : ℕ) → Beside key ids → Chain old ids at → Chain new ids at
  chain_beside old new key slot changes [] at beside chain = chain
  chain_beside old new key slot changes (id ∷ rest) at beside chain =
      let far : at ≢ key = λ same. All-head (λ (other : TaskId). other.slot ≢ key) id rest beside (chain.0 ∙ same) in
      (chain.0, chain.1, changes.others at far ∙ chain.2, chain.3, chain_beside old new key slot changes rest chain.1.next (All-tail (λ (other : TaskId). other.slot ≢ key) id rest beside) chain.4)

  -- one slot changes, and keeps its number and its link
  chain_kept : (old new : List (Option (Slot P T W))) (key : ℕ) (s t : Slot P T W) → get_or old key None ≡ Some s → Changes old new key (Some t) → t.entry.number ≡ s.entry.number → t.next ≡ s.next → (ids : List TaskId) (at : ℕ) → Chain old ids at → Chain new ids at
  chain_kept old new key s t there changes number link [] at chain = chain
  chain_kept old new key s t there changes number link (id ∷ rest) at chain = grind (arith, chain_kept old new key s t there changes number link rest chain.1.next chain.4, cases_eq)

  -- the link of the last slot changes, and leads to one more
  chain_push : (old new : List (Option (Slot P T W))) (last : ℕ) (s t : Slot P T W) (id : TaskId) → get_or old last None ≡ Some s → Changes old new last (Some t) → t.entry.number ≡ s.entry.number → Chain new (id ∷ []) t.next
      → (ids : List TaskId) (at : ℕ) → length ids ≢ 0 → EndsAt last ids → SlotsApart ids → Chain old ids at → Chain new (ids ++ id ∷ []) at
  chain_push old new last s t id there changes number alone [] at some ends apart chain = absurd (some refl)
  chain_push old new last s t id there changes number alone (x ∷ []) at some ends apart chain = grind arith
  chain_push old new last s t id there changes number alone (x ∷ y ∷ rest) at some ends apart chain =
      let far : at ≢ last = λ same. at_last (λ k. k ≢ x.slot) (y ∷ rest) last (omega arith) apart.0 ends (sym same ∙ sym chain.0) in
      (chain.0, chain.1, changes.others at far ∙ chain.2, chain.3, chain_push old new last s t id there changes number alone (y ∷ rest) chain.1.next (omega arith) ends apart.1 chain.4)

  -- what the links are after a change of a slot that is not queued
  pub beside_linked : (old new : List (Option (Slot P T W))) (key : ℕ) (slot : Option (Slot P T W)) (first last : ℕ) (ids : List TaskId) → IsChain old first last ids → Changes old new key slot → Beside key ids
      → ((s : Slot P T W) → slot ≡ Some s → s.next ≡ no_slot) → IsChain new first last ids
  beside_linked old new key slot first last ids linked changes beside clear = grind (arith, chain_beside, cases_eq)

  -- what a change of one slot makes of the entries
  pub entries_changes : (old new : List (Option (Slot P T W))) (key : ℕ) (s : Slot P T W) → Changes old new key (Some s) → Changes (entries_of old) (entries_of new) key (Some s.entry)
  entries_changes old new key s changes =
      let entry = option_map (λ (s : Slot P T W). s.entry) in
      record {
        changed = entry_at new key s changes.changed;
        others = λ other far. get_or-map entry new other None ∙ ap entry (changes.others other far) ∙ sym (get_or-map entry old other None);
      }

  -- one more id of a queue, which has a cell of its own
  pub push_queue : (slots : List (Option (Numbered (Cell P T W)))) (ids : List TaskId) (id : TaskId) → IsQueue slots ids → HasCell slots id → Beside id.slot ids → IsQueue slots (ids ++ id ∷ [])
  push_queue slots ids id queue has beside = record { placed = All-push (HasCell slots) ids id queue.placed has; apart = apart_push ids id queue.apart beside }

  -- no id has a slot that is cleared, if each of them has a cell then
  pub cleared_beside : (slots : List (Option (Numbered (Cell P T W)))) (key : ℕ) (ids : List TaskId) → IsQueue (set slots key None) ids → Beside key ids
  cleared_beside slots key ids queue =
      All-weaker (HasCell (set slots key None)) (λ (id : TaskId). id.slot ≢ key)
      (λ id has same. let none = (cleared_changes slots key).changed in absurd (cc (ap (λ k. get_or (set slots key None) k None) same, has.1, none)))
      ids queue.placed

  -- the number of a slot is the id's
  pub named_entry : (slots : List (Option (Slot P T W))) (id : TaskId) (s : Slot P T W) → HasCell (entries_of slots) id → get_or slots id.slot None ≡ Some s → s.entry ≡ numbered id s.entry.cell
  named_entry slots id s has there = grind (arith, entry_at)

  -- a slot that was empty gets a cell
  pub inserted_linked : (old new : List (Option (Slot P T W))) (key : ℕ) (s : Slot P T W) (first last : ℕ) (ids : List TaskId) → IsChain old first last ids → get_or old key None ≡ None → Changes old new key (Some s) → s.next ≡ no_slot → IsChain new first last ids
  inserted_linked old new key s first last ids linked none changes clear = grind (arith, beside_linked, unmet)

  pub new_beside : (old : List (Option (Slot P T W))) (key first last : ℕ) (ids : List TaskId) → IsChain old first last ids → get_or old key None ≡ None → Beside key ids
  new_beside old key first last ids linked none = unmet old key none ids first linked.chain

  -- the cell of a slot changes
  pub changed_linked : (old : List (Option (Slot P T W))) (key : ℕ) (s : Slot P T W) (c : Cell P T W) (first last : ℕ) (ids : List TaskId) → IsChain old first last ids → get_or old key None ≡ Some s
      → IsChain (set old key (Some (record { entry = record { number = s.entry.number; cell = c }; next = s.next }))) first last ids
  changed_linked old key s c first last ids linked there =
      let t : Slot P T W = record { entry = record { number = s.entry.number; cell = c }; next = s.next } in
      let new = set old key (Some t) in
      let changes = set_changes old key s t there in
      record {
        chain = chain_kept old new key s t there changes refl refl ids first linked.chain;
        apart = linked.apart;
        ends = linked.ends;
        cleared = λ at u is far. elim (cases_eq at key) [
          | inl here ↦
              let same : u ≡ t = cc (ap (λ k. get_or new k None) here, is, changes.changed) in
              ap (λ (x : Slot P T W). x.next) same ∙ linked.cleared key s there (subst (λ k. Beside k ids) here far)
          | inr other ↦ linked.cleared at u (sym (changes.others at other) ∙ is) far
        ];
      }

  -- the first id of an empty queue
  pub alone_linked : (slots : List (Option (Slot P T W))) (first last : ℕ) (ids : List TaskId) (id : TaskId) → IsChain slots first last ids → length ids ≡ 0 → IsQueue (entries_of slots) (ids ++ id ∷ []) → IsChain slots id.slot id.slot (ids ++ id ∷ [])
  alone_linked slots first last [] id linked none queue =
      let has = All-head (HasCell (entries_of slots)) id [] queue.placed in
      let at = slot_at slots id.slot has.0 has.1 in
      record {
        chain = (refl, at.slot, at.there, ap (λ (e : Numbered (Cell P T W)). e.number) at.entry ∙ has.2, linked.cleared id.slot at.slot at.there (All-nil (λ (other : TaskId). other.slot ≢ id.slot)));
        apart = queue.apart;
        ends = refl;
        cleared = λ k s there far. linked.cleared k s there (All-nil (λ (other : TaskId). other.slot ≢ k));
      }
  alone_linked slots first last (x ∷ rest) id linked none queue = absurd (omega arith)

  -- the last slot of a queue has a cell
  pub last_at : (slots : List (Option (Slot P T W))) (first last : ℕ) (ids : List TaskId) → IsChain slots first last ids → length ids ≢ 0 → (s : Slot P T W) × (get_or slots last None ≡ Some s)
  last_at slots first last ids linked some =
      at_last (λ k. (s : Slot P T W) × (get_or slots k None ≡ Some s)) ids last some
      (All-weaker (HasCell (entries_of slots)) (λ (id : TaskId). (s : Slot P T W) × (get_or slots id.slot None ≡ Some s)) (λ id has. let at = slot_at slots id.slot has.0 has.1 in (at.slot, at.there)) ids (chain_placed slots ids first linked.chain))
      linked.ends

  -- one more id behind the last
  pub pushed_linked : (old : List (Option (Slot P T W))) (first last : ℕ) (ids : List TaskId) (s : Slot P T W) (id : TaskId) → IsChain old first last ids → length ids ≢ 0 → IsQueue (entries_of old) (ids ++ id ∷ []) → get_or old last None ≡ Some s
      → IsChain (set old last (Some (record { entry = s.entry; next = id.slot }))) first id.slot (ids ++ id ∷ [])
  pushed_linked old first last ids s id linked some queue there =
      let t : Slot P T W = record { entry = s.entry; next = id.slot } in
      let new = set old last (Some t) in
      let changes = set_changes old last s t there in
      let has = All-head (HasCell (entries_of old)) id [] (All-suffix (HasCell (entries_of old)) ids (id ∷ []) queue.placed) in
      let at = slot_at old id.slot has.0 has.1 in
      let beside = apart_last ids id queue.apart in
      let far : id.slot ≢ last = λ same. at_last (λ k. k ≢ id.slot) ids last some beside linked.ends (sym same) in
      let number = ap (λ (e : Numbered (Cell P T W)). e.number) at.entry ∙ has.2 in
      record {
        chain = chain_push old new last s t id there changes refl (refl, at.slot, changes.others id.slot far ∙ at.there, number, linked.cleared id.slot at.slot at.there beside) ids first some linked.ends linked.apart linked.chain;
        apart = queue.apart;
        ends = ends_push ids id;
        cleared = λ k u is beside_all.
            let before = All-prefix (λ (other : TaskId). other.slot ≢ k) ids (id ∷ []) beside_all in
            let other : k ≢ last = λ same. at_last (λ j. j ≢ k) ids last some before linked.ends (sym same) in
            linked.cleared k u (sym (changes.others k other) ∙ is) before;
      }

  -- the first slot of a queue
  pub record FirstAt (slots : List (Option (Slot P T W))) (first : ℕ) (ids : List TaskId) : Type 0 where
    pub slot : Slot P T W
    pub there : get_or slots first None ≡ Some slot
    pub rest : List TaskId
    pub is : ids ≡ record { number = slot.entry.number; slot = first } ∷ rest

  pub first_at : (slots : List (Option (Slot P T W))) (first last : ℕ) (ids : List TaskId) → IsChain slots first last ids → length ids ≢ 0 → FirstAt slots first ids
  first_at slots first last [] linked some = absurd (some refl)
  first_at slots first last (id ∷ rest) linked some =
      let chain = linked.chain in
      let here : TaskId = record { number = chain.1.entry.number; slot = first } in
      let same : id ≡ here = λ i. record { number = sym chain.3 i; slot = chain.0 i } in
      record { slot = chain.1; there = chain.2; rest = rest; is = ap (λ x. x ∷ rest) same }

  -- the first id goes
  pub popped_linked : (old : List (Option (Slot P T W))) (first last : ℕ) (id : TaskId) (rest : List TaskId) (s : Slot P T W) → IsChain old first last (id ∷ rest) → get_or old first None ≡ Some s
      → IsChain (set old first (Some (record { entry = s.entry; next = no_slot }))) s.next last rest
  popped_linked old first last id rest s linked there =
      let t : Slot P T W = record { entry = s.entry; next = no_slot } in
      let new = set old first (Some t) in
      let changes = set_changes old first s t there in
      let chain = linked.chain in
      let same : chain.1 ≡ s = cc (chain.2, there) in
      record {
        chain = subst (Chain new rest) (ap (λ (x : Slot P T W). x.next) same)
            (chain_beside old new first (Some t) changes rest chain.1.next (subst (λ k. Beside k rest) chain.0 linked.apart.0) chain.4);
        apart = linked.apart.1;
        ends = ends_rest rest linked.ends;
        cleared = λ k u is beside. elim (cases_eq k first) [
          | inl here ↦ let one : u ≡ t = cc (ap (λ j. get_or new j None) here, is, changes.changed) in ap (λ (x : Slot P T W). x.next) one
          | inr other ↦ linked.cleared k u (sym (changes.others k other) ∙ is) (All-cons (λ (x : TaskId). x.slot ≢ k) id rest (λ at. other (sym at ∙ chain.0)) beside)
        ];
      }
    where
      ends_rest : (ids : List TaskId) → EndsAt last (id ∷ ids) → EndsAt last ids
      ends_rest [] ends = tt
      ends_rest (x ∷ ids) ends = ends

  -- one step of the walk along the links
  pub record StepAt (slots : List (Option (Slot P T W))) (ids : List TaskId) (k at : ℕ) : Type 0 where
    pub slot : Slot P T W
    pub there : get_or slots at None ≡ Some slot
    pub later : Chain slots (drop (k + 1) ids) slot.next
    pub is : slice_get ids k ≡ Some (record { number = slot.entry.number; slot = at })

  pub step_at : (slots : List (Option (Slot P T W))) (ids : List TaskId) (k at : ℕ) → Chain slots (drop k ids) at → k < length ids → StepAt slots ids k at
  step_at slots [] k at chain within = absurd (omega arith)
  step_at slots (id ∷ rest) zero at chain within = grind arith
  step_at slots (id ∷ rest) (suc k) at chain within = grind (arith, step_at slots rest k at chain (omega arith))
