-- The slots of a slab as a map from numbers to cells.
use Rattle.std.proofs.Common.{◌≡◌, ◌≢◌, ℕ, zero, suc, ◌+◌, ◌<◌, true, false, List, [], ◌∷◌, length, set, get_or, Option, Some, None, is_some, cond, refl, sym, ap, ◌∙◌, inl, inr, add-zero, arith}
use Rattle.std.proofs.lemmas.Bool.{cases_eq, eq-eqb, ne_eqb}
use Rattle.std.proofs.lemmas.List.{get_or-set_same, get_or-set_other, get_or_past}
use Rattle.std.specs.Ordering.{nat_cmp, eq_by_cmp}
use Rattle.std.specs.Cmp.{nat_cmp_total, unsigned_tied}
use Rattle.std.specs.FinMap as map
use Rattle.std.specs.FinMap.{find}
use Rattle.executor_core.specs.Cells.{Slotted}
use Rattle.executor_core.specs.Cells.View.{seen, by_number, cells_of, Distinct}
use Rattle.executor_core.specs.Slots.{Changes}
use Rattle.executor_core.specs.declared.task.cell.Cell.{Cell}
use Rattle.executor_core.specs.declared.task.cell.Numbered.{Numbered}

module _ {X : Type 0} where
  pub same_option : (a b : Option X) → ((x : X) → a ≡ Some x → b ≡ Some x) → ((x : X) → b ≡ Some x → a ≡ Some x) → a ≡ b
  same_option a b f g = grind arith

  pub some_of : (a : Option X) → is_some a ≡ true → (x : X) × (a ≡ Some x)
  some_of a e = grind arith

pub tied : (q n : ℕ) → q ≡ n → eq_by_cmp nat_cmp q n ≡ true
tied q n e = unsigned_tied q n ∙ eq-eqb q n e

pub apart : (q n : ℕ) → q ≢ n → eq_by_cmp nat_cmp q n ≡ false
apart q n d = unsigned_tied q n ∙ ne_eqb q n d

module _ {X : Type 0} where
  pub insert_same : (m : map.FinMap nat_cmp X) (n : ℕ) (v : X) (q : ℕ) → q ≡ n → map.get (map.insert m n v) q ≡ Some v
  insert_same m n v q e = map.get-insert nat_cmp_total m n v q ∙ ap (λ b. cond b (Some v) (map.get m q)) (tied q n e)

  pub insert_other : (m : map.FinMap nat_cmp X) (n : ℕ) (v : X) (q : ℕ) → q ≢ n → map.get (map.insert m n v) q ≡ map.get m q
  insert_other m n v q d = map.get-insert nat_cmp_total m n v q ∙ ap (λ b. cond b (Some v) (map.get m q)) (apart q n d)

  pub remove_same : (m : map.FinMap nat_cmp X) (n q : ℕ) → q ≡ n → map.get (map.remove m n) q ≡ None
  remove_same m n q e = map.get-remove nat_cmp_total m n q ∙ ap (λ b. cond b None (map.get m q)) (tied q n e)

  pub remove_other : (m : map.FinMap nat_cmp X) (n q : ℕ) → q ≢ n → map.get (map.remove m n) q ≡ map.get m q
  remove_other m n q d = map.get-remove nat_cmp_total m n q ∙ ap (λ b. cond b None (map.get m q)) (apart q n d)

-- a write of one slot
module _ {X : Type 0} where
  pub within : (slots : List (Option X)) (key : ℕ) (e : X) → get_or slots key None ≡ Some e → key < length slots
  within slots key e there = grind (arith, get_or_past)

  pub set_changes : (slots : List (Option X)) (key : ℕ) (e f : X) → get_or slots key None ≡ Some e → Changes slots (set slots key (Some f)) key (Some f)
  set_changes slots key e f there = grind (arith, within, get_or-set_same, get_or-set_other)

  cleared_at : (slots : List (Option X)) (key : ℕ) → get_or (set slots key None) key None ≡ None
  cleared_at [] key = refl
  cleared_at (x ∷ slots) zero = refl
  cleared_at (x ∷ slots) (suc key) = cleared_at slots key

  pub cleared_changes : (slots : List (Option X)) (key : ℕ) → Changes slots (set slots key None) key None
  cleared_changes slots key = record { changed = cleared_at slots key; others = λ other far. get_or-set_other slots key other None None far }

module _ {P T W : Type 0} where
  -- the cell of this number is in one of the slots, the first of which is `first`
  pub record Sees (first : ℕ) (slots : List (Option (Numbered (Cell P T W)))) (q : ℕ) (t : Slotted P T W) : Type 0 where
    pub at : ℕ
    pub cell : Numbered (Cell P T W)
    pub there : get_or slots at None ≡ Some cell
    pub number : cell.number ≡ q
    pub is : t ≡ seen (first + at) cell.cell

  pub find_sees : (first q : ℕ) (slots : List (Option (Numbered (Cell P T W)))) (t : Slotted P T W) → find nat_cmp q (by_number first slots) ≡ Some t → Sees first slots q t
  find_sees first q [] t e = absurd (cc)
  find_sees first q (None ∷ rest) t e =
      let later = find_sees (first + 1) q rest t e in
      let shift : first + 1 + later.at ≡ first + suc later.at = omega arith in
      record { at = suc later.at; cell = later.cell; there = later.there; number = later.number; is = later.is ∙ ap (λ k. seen k later.cell.cell) shift }
  find_sees first q (Some c ∷ rest) t e =
      elim (cases_eq q c.number) [
        | inl same ↦
            let here : seen first c.cell ≡ t = cc (ap (λ b. cond b (Some (seen first c.cell)) (find nat_cmp q (by_number (first + 1) rest))) (tied q c.number same), e) in
            record { at = 0; cell = c; there = refl; number = sym same; is = sym here ∙ ap (λ k. seen k c.cell) (sym (add-zero first)) }
        | inr other ↦
            let later = find_sees (first + 1) q rest t (sym (ap (λ b. cond b (Some (seen first c.cell)) (find nat_cmp q (by_number (first + 1) rest))) (apart q c.number other)) ∙ e) in
            let shift : first + 1 + later.at ≡ first + suc later.at = omega arith in
            record { at = suc later.at; cell = later.cell; there = later.there; number = later.number; is = later.is ∙ ap (λ k. seen k later.cell.cell) shift }
      ]

  finds : (first : ℕ) (slots : List (Option (Numbered (Cell P T W)))) (at : ℕ) (c : Numbered (Cell P T W)) → get_or slots at None ≡ Some c → is_some (find nat_cmp c.number (by_number first slots)) ≡ true
  finds first [] at c e = absurd (cc)
  finds first (None ∷ rest) zero c e = absurd (cc)
  finds first (None ∷ rest) (suc at) c e = finds (first + 1) rest at c e
  finds first (Some d ∷ rest) zero c e = grind (arith, tied)
  finds first (Some d ∷ rest) (suc at) c e = grind (arith, finds (first + 1) rest at c e)

  pub get-cells_of : (slots : List (Option (Numbered (Cell P T W)))) (q : ℕ) → map.get (cells_of slots) q ≡ find nat_cmp q (by_number 0 slots)
  unfolding cells_of
  get-cells_of slots q = map.get-from_entries nat_cmp_total (by_number 0 slots) q

  pub get_sees : (slots : List (Option (Numbered (Cell P T W)))) (q : ℕ) (t : Slotted P T W) → map.get (cells_of slots) q ≡ Some t → Sees 0 slots q t
  get_sees slots q t e = find_sees 0 q slots t (sym (get-cells_of slots q) ∙ e)

  pub sees_get : (slots : List (Option (Numbered (Cell P T W)))) → Distinct slots → (at : ℕ) (c : Numbered (Cell P T W)) → get_or slots at None ≡ Some c → map.get (cells_of slots) c.number ≡ Some (seen at c.cell)
  sees_get slots distinct at c e =
      let found = some_of _ (finds 0 slots at c e) in
      let sees = find_sees 0 c.number slots found.0 found.1 in
      let same : sees.at ≡ at = distinct sees.at at sees.cell c sees.there e sees.number in
      let cell : sees.cell ≡ c = cc (ap (λ k. get_or slots k None) same, sees.there, e) in
      let place : 0 + sees.at ≡ at = omega arith in
      get-cells_of slots c.number ∙ found.1 ∙ ap Some (sees.is ∙ ap (λ k. seen k sees.cell.cell) place ∙ ap (λ x. seen at x.cell) cell)

  -- the number stands in no slot but this, and the slot has no other number
  pub record Fits (slots : List (Option (Numbered (Cell P T W)))) (key n : ℕ) : Type 0 where
    pub free : (at : ℕ) (d : Numbered (Cell P T W)) → get_or slots at None ≡ Some d → d.number ≡ n → at ≡ key
    pub own : (d : Numbered (Cell P T W)) → get_or slots key None ≡ Some d → d.number ≡ n

  pub fits_itself : (slots : List (Option (Numbered (Cell P T W)))) → Distinct slots → (key : ℕ) (c : Numbered (Cell P T W)) → get_or slots key None ≡ Some c → Fits slots key c.number
  fits_itself slots distinct key c e = grind arith

  pub put_distinct : (old new : List (Option (Numbered (Cell P T W)))) (key : ℕ) (c : Numbered (Cell P T W)) → Distinct old → Fits old key c.number → Changes old new key (Some c) → Distinct new
  put_distinct old new key c distinct fits changes i j d e at_i at_j same = grind (arith, cases_eq)

  pub cells_of-put : (old new : List (Option (Numbered (Cell P T W)))) (key : ℕ) (c : Numbered (Cell P T W)) → Distinct old → Fits old key c.number → Changes old new key (Some c) → cells_of new ≡ map.insert (cells_of old) c.number (seen key c.cell)
  cells_of-put old new key c distinct fits changes =
      let distinct_new : Distinct new = put_distinct old new key c distinct fits changes in
      map.same_map nat_cmp_total map.nat_cmp-IsAntisymmetric _ _ (λ q. same_option _ _
      (λ t e. forth q t e)
      (λ t e. back distinct_new q t e))
    where
      forth : (q : ℕ) (t : Slotted P T W) → map.get (cells_of new) q ≡ Some t → map.get (map.insert (cells_of old) c.number (seen key c.cell)) q ≡ Some t
      forth q t e =
          let s = get_sees new q t e in
          let at_is : 0 + s.at ≡ s.at = omega arith in
          elim (cases_eq s.at key) [
            | inl here ↦
                let cell : s.cell ≡ c = cc (ap (λ k. get_or new k None) here, s.there, changes.changed) in
                insert_same (cells_of old) c.number (seen key c.cell) q (sym s.number ∙ ap (λ x. x.number) cell)
                ∙ ap Some (sym (s.is ∙ ap (λ k. seen k s.cell.cell) (at_is ∙ here) ∙ ap (λ x. seen key x.cell) cell))
            | inr other ↦
                let was = sym (changes.others s.at other) ∙ s.there in
                let far : q ≢ c.number = λ same. other (fits.free s.at s.cell was (s.number ∙ same)) in
                insert_other (cells_of old) c.number (seen key c.cell) q far
                ∙ ap (map.get (cells_of old)) (sym s.number)
                ∙ sees_get old distinct s.at s.cell was
                ∙ ap Some (sym (s.is ∙ ap (λ k. seen k s.cell.cell) at_is))
          ]

      back : Distinct new → (q : ℕ) (t : Slotted P T W) → map.get (map.insert (cells_of old) c.number (seen key c.cell)) q ≡ Some t → map.get (cells_of new) q ≡ Some t
      back distinct_new q t e =
          elim (cases_eq q c.number) [
            | inl same ↦
                ap (map.get (cells_of new)) same ∙ sees_get new distinct_new key c changes.changed
                ∙ sym (insert_same (cells_of old) c.number (seen key c.cell) q same) ∙ e
            | inr far ↦
                let s = get_sees old q t (sym (insert_other (cells_of old) c.number (seen key c.cell) q far) ∙ e) in
                let at_is : 0 + s.at ≡ s.at = omega arith in
                let other : s.at ≢ key = λ here. far (sym s.number ∙ fits.own s.cell (ap (λ k. get_or old k None) (sym here) ∙ s.there)) in
                ap (map.get (cells_of new)) (sym s.number)
                ∙ sees_get new distinct_new s.at s.cell (changes.others s.at other ∙ s.there)
                ∙ ap Some (sym (s.is ∙ ap (λ k. seen k s.cell.cell) at_is))
          ]
