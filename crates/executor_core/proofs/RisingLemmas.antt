-- The order by rising slot.
use Rattle.std.proofs.Common.{◌≡◌, ◌≢◌, ℕ, zero, suc, ◌+◌, ◌<◌, ◌≤◌, ◌==◌, ◌&&◌, Bool, true, false, not, List, [], ◌∷◌, length, Option, Some, None, cond, refl, sym, ap, subst, ◌∙◌, inl, inr, arith}
use Rattle.std.specs.Prelude.{nat_lt, T as Holds, count_by, slice_get, map as list_map}
use Rattle.std.specs.List.{filter, filter_map, cons_option}
use Rattle.std.specs.Ordering.{nat_cmp, is_lt}
use Rattle.std.specs.Cmp.{nat_cmp_total}
use Rattle.std.proofs.lemmas.Cmp.{tied_itself}
use Rattle.std.specs.FinMap as map
use Rattle.std.specs.FinMap.Entries.{find, put, is_sorted, below_all}
use Rattle.std.proofs.lemmas.Bool.{cases_eq, cases_Bool, eq-eqb, ne_eqb, ltb-true, ltb-false, lt-ltb, le-ltb}
use Rattle.std.proofs.lemmas.List.Sums.{sum_by-cons}
use Rattle.executor_core.specs.Numbers.{times}
use Rattle.executor_core.specs.Cells.{Slotted, Table}
use Rattle.executor_core.specs.Cells.Calls.{insert_by_slot, by_slot, rising, SlotsDiffer, SlotsRise}
use Rattle.executor_core.specs.Cell.{is_idle, is_undropped}
use Rattle.executor_core.specs.Cells.View.{seen, by_number, cells_of, Distinct, idle_ids, numbers_of, undropped_number, IsSound}
use Rattle.executor_core.proofs.SlotLemmas.{tied, apart}
use Rattle.executor_core.proofs.UndroppedLemmas.{AllFresh, no_entries, all_fresh, undropped_slot, undropped_slots}
use Rattle.executor_core.specs.declared.task.cell.Cell.{Cell}
use Rattle.executor_core.specs.declared.task.cell.Numbered.{Numbered}
use Rattle.executor_core.specs.declared.task.cell.TaskId.{TaskId}

first : (a b : Bool) → Holds (a && b) → Holds a
first a b p = grind arith

second : (a b : Bool) → Holds (a && b) → Holds b
second a b p = grind arith

not_below : (k n : ℕ) → Holds (is_lt (nat_cmp k n)) → k ≢ n
not_below k n below same = subst (λ o. Holds (is_lt o)) (ap (nat_cmp k) (sym same) ∙ tied_itself nat_cmp_total k) below

module _ {P T W : Type 0} where
  -- whether the cell of a number passes the test
  abbrev pub passing : (Cell P T W → Bool) → Option (Slotted P T W) → Bool
  passing test None = false
  passing test (Some s) = test s.cell

module _ {P T W : Type 0} (test : Cell P T W → Bool) (n : ℕ) where
  -- how often the number stands among the entries that pass the test
  abbrev hits : List (ℕ × Slotted P T W) → ℕ
  hits es = times n (list_map (λ e. e.0) (filter (λ e. test e.1.cell) es))

  abbrev hit : ℕ × Slotted P T W → ℕ
  hit e = cond (test e.1.cell) (cond (e.0 == n) 1 0) 0

  hits-cons : (e : ℕ × Slotted P T W) (es : List (ℕ × Slotted P T W)) → hits (e ∷ es) ≡ hit e + hits es
  hits-cons e es = by (test e.1.cell)
    where
      by : (b : Bool) → times n (list_map (λ x. x.0) (cond b (e ∷ filter (λ x. test x.1.cell) es) (filter (λ x. test x.1.cell) es))) ≡ cond b (cond (e.0 == n) 1 0) 0 + hits es
      by true = sum_by-cons (λ k. cond (k == n) 1 0) e.0 (list_map (λ x. x.0) (filter (λ x. test x.1.cell) es))
      by false = omega arith

  hits-insert : (e : ℕ × Slotted P T W) (es : List (ℕ × Slotted P T W)) → hits (insert_by_slot e es) ≡ hit e + hits es
  hits-insert e [] = hits-cons e []
  hits-insert e (f ∷ rest) = by (nat_lt e.1.slot f.1.slot) (hits-insert e rest)
    where
      by : (b : Bool) → hits (insert_by_slot e rest) ≡ hit e + hits rest → hits (cond b (e ∷ f ∷ rest) (f ∷ insert_by_slot e rest)) ≡ hit e + hits (f ∷ rest)
      by true inner = hits-cons e (f ∷ rest)
      by false inner = let one = hits-cons f (insert_by_slot e rest) in let two = hits-cons f rest in omega arith

  hits-by_slot : (es : List (ℕ × Slotted P T W)) → hits (by_slot es) ≡ hits es
  hits-by_slot [] = refl
  hits-by_slot (e ∷ rest) = let one = hits-insert e (by_slot rest) in let two = hits-cons e rest in let inner = hits-by_slot rest in omega arith

  hits-above : (es : List (ℕ × Slotted P T W)) → Holds (below_all nat_cmp n es) → hits es ≡ 0
  hits-above [] below = refl
  hits-above (e ∷ rest) below =
      let other : (e.0 == n) ≡ false = ne_eqb e.0 n (λ same. not_below n e.0 (first _ _ below) (sym same)) in
      let inner : hits rest ≡ 0 = hits-above rest (second _ _ below) in
      let one = hits-cons e rest in
      let none : hit e ≡ 0 = ap (λ b. cond (test e.1.cell) (cond b 1 0) 0) other ∙ zeros (test e.1.cell) in
      omega arith
    where
      zeros : (b : Bool) → cond {A = ℕ} b 0 0 ≡ 0
      zeros true = refl
      zeros false = refl

  hits-found : (es : List (ℕ × Slotted P T W)) → Holds (is_sorted nat_cmp es) → hits es ≡ cond (passing test (find nat_cmp n es)) 1 0
  hits-found [] sorted = refl
  hits-found (e ∷ rest) sorted =
      elim (cases_eq n e.0) [
        | inl same ↦
            let none = hits-above rest (subst (λ k. Holds (below_all nat_cmp k rest)) (sym same) (first _ _ sorted)) in
            let found : find nat_cmp n (e ∷ rest) ≡ Some e.1 = ap (λ b. cond b (Some e.1) (find nat_cmp n rest)) (tied n e.0 same) in
            let here : hit e ≡ cond (test e.1.cell) 1 0 = ap (λ b. cond (test e.1.cell) (cond b 1 0) 0) (eq-eqb e.0 n (sym same)) in
            let one = hits-cons e rest in
            let total : hits (e ∷ rest) ≡ cond (test e.1.cell) 1 0 = omega arith in
            total ∙ ap (λ o. cond (passing test o) 1 0) (sym found)
        | inr far ↦
            let found : find nat_cmp n (e ∷ rest) ≡ find nat_cmp n rest = ap (λ b. cond b (Some e.1) (find nat_cmp n rest)) (apart n e.0 far) in
            let other : (e.0 == n) ≡ false = ne_eqb e.0 n (λ same. far (sym same)) in
            let none : hit e ≡ 0 = ap (λ b. cond (test e.1.cell) (cond b 1 0) 0) other ∙ zeros (test e.1.cell) in
            let one = hits-cons e rest in
            let total : hits (e ∷ rest) ≡ hits rest = omega arith in
            total ∙ hits-found rest (second _ _ sorted) ∙ ap (λ o. cond (passing test o) 1 0) (sym found)
      ]
    where
      zeros : (b : Bool) → cond {A = ℕ} b 0 0 ≡ 0
      zeros true = refl
      zeros false = refl

module _ {P T W : Type 0} where
  -- each number whose cell passes stands once in the order, and no other
  pub times-rising : (test : Cell P T W → Bool) (cells : map.FinMap nat_cmp (Slotted P T W)) (n : ℕ) → times n (rising test cells) ≡ cond (passing test (map.get cells n)) 1 0
  times-rising test cells n =
      hits-by_slot test n (map.entries cells)
      ∙ hits-found test n (map.entries cells) (map.entries_sorted cells)
      ∙ ap (λ o. cond (passing test o) 1 0) (sym (map.get-entries cells n))

-- the order of the entries does not matter if their slots differ
two_ways : {A : Type 0} (p q : Bool) (x y : A) → q ≡ not p → cond p x y ≡ cond q y x
two_ways p q x y h = grind arith

turned : (i j : ℕ) → i ≢ j → nat_lt j i ≡ not (nat_lt i j)
turned i j far = grind (arith, ltb-true, le-ltb, ltb-false, lt-ltb)

module _ {P T W : Type 0} where
  insert_first : (a f : ℕ × Slotted P T W) (rest : List (ℕ × Slotted P T W)) → nat_lt a.1.slot f.1.slot ≡ true → insert_by_slot a (f ∷ rest) ≡ a ∷ f ∷ rest
  insert_first a f rest is = ap (λ b. cond b (a ∷ f ∷ rest) (f ∷ insert_by_slot a rest)) is

  insert_later : (a f : ℕ × Slotted P T W) (rest : List (ℕ × Slotted P T W)) → nat_lt a.1.slot f.1.slot ≡ false → insert_by_slot a (f ∷ rest) ≡ f ∷ insert_by_slot a rest
  insert_later a f rest is = ap (λ b. cond b (a ∷ f ∷ rest) (f ∷ insert_by_slot a rest)) is

  commutes : (a b : ℕ × Slotted P T W) (l : List (ℕ × Slotted P T W)) → a.1.slot ≢ b.1.slot → insert_by_slot a (insert_by_slot b l) ≡ insert_by_slot b (insert_by_slot a l)
  commutes a b [] far = two_ways (nat_lt a.1.slot b.1.slot) (nat_lt b.1.slot a.1.slot) (a ∷ b ∷ []) (b ∷ a ∷ []) (turned a.1.slot b.1.slot far)
  commutes a b (f ∷ rest) far = by (nat_lt a.1.slot f.1.slot) (nat_lt b.1.slot f.1.slot) refl refl (commutes a b rest far)
    where
      by : (p q : Bool) → nat_lt a.1.slot f.1.slot ≡ p → nat_lt b.1.slot f.1.slot ≡ q → insert_by_slot a (insert_by_slot b rest) ≡ insert_by_slot b (insert_by_slot a rest)
          → insert_by_slot a (cond q (b ∷ f ∷ rest) (f ∷ insert_by_slot b rest)) ≡ insert_by_slot b (cond p (a ∷ f ∷ rest) (f ∷ insert_by_slot a rest))
      by true true p q inner =
          ap (λ l. cond (nat_lt a.1.slot b.1.slot) (a ∷ b ∷ f ∷ rest) (b ∷ l)) (insert_first a f rest p)
          ∙ two_ways (nat_lt a.1.slot b.1.slot) (nat_lt b.1.slot a.1.slot) (a ∷ b ∷ f ∷ rest) (b ∷ a ∷ f ∷ rest) (turned a.1.slot b.1.slot far)
          ∙ sym (ap (λ l. cond (nat_lt b.1.slot a.1.slot) (b ∷ a ∷ f ∷ rest) (a ∷ l)) (insert_first b f rest q))
      by true false p q inner =
          let low : a.1.slot < f.1.slot = ltb-true a.1.slot f.1.slot p in
          let high : f.1.slot ≤ b.1.slot = ltb-false b.1.slot f.1.slot q in
          insert_first a f (insert_by_slot b rest) p
          ∙ sym (insert_later b a (f ∷ rest) (le-ltb b.1.slot a.1.slot (omega arith)) ∙ ap (λ l. a ∷ l) (insert_later b f rest q))
      by false true p q inner =
          let low : b.1.slot < f.1.slot = ltb-true b.1.slot f.1.slot q in
          let high : f.1.slot ≤ a.1.slot = ltb-false a.1.slot f.1.slot p in
          insert_later a b (f ∷ rest) (le-ltb a.1.slot b.1.slot (omega arith)) ∙ ap (λ l. b ∷ l) (insert_later a f rest p)
          ∙ sym (insert_first b f (insert_by_slot a rest) q)
      by false false p q inner = insert_later a f (insert_by_slot b rest) p ∙ ap (λ l. f ∷ l) inner ∙ sym (insert_later b f (insert_by_slot a rest) q)

  -- no entry has this slot
  abbrev Apart : ℕ → List (ℕ × Slotted P T W) → Type 0
  Apart k [] = Unit {0}
  Apart k (e ∷ rest) = (k ≢ e.1.slot) × Apart k rest

  Apart-put : (j k : ℕ) (v : Slotted P T W) (es : List (ℕ × Slotted P T W)) → j ≢ v.slot → Apart j es → Apart j (put nat_cmp k v es)
  Apart-put j k v [] far others = (far, tt)
  Apart-put j k v (e ∷ rest) far others = grind (arith, Apart-put j k v rest far others.1)

  by_slot-put : (k : ℕ) (v : Slotted P T W) (es : List (ℕ × Slotted P T W)) → find nat_cmp k es ≡ None → Apart v.slot es → by_slot (put nat_cmp k v es) ≡ insert_by_slot (k, v) (by_slot es)
  by_slot-put k v [] none far = refl
  by_slot-put k v (e ∷ rest) none far = grind (arith, by_slot-put k v rest, commutes)

  apart_from : (j first : ℕ) (slots : List (Option (Numbered (Cell P T W)))) → j < first → Apart j (map.entries (map.from_entries {R = nat_cmp} (by_number first slots)))
  apart_from j first [] below = subst (Apart j) (sym (no_entries (map.entries (map.empty {X = Slotted P T W} {R = nat_cmp})) (sym (map.len-entries (map.empty {X = Slotted P T W} {R = nat_cmp})) ∙ map.len-empty nat_cmp (Slotted P T W)))) tt
  apart_from j first (None ∷ rest) below = apart_from j (first + 1) rest (omega arith)
  apart_from j first (Some e ∷ rest) below =
      subst (Apart j) (sym (map.entries-insert nat_cmp_total (map.from_entries {R = nat_cmp} (by_number (first + 1) rest)) e.number (seen first e.cell)))
      (Apart-put j e.number (seen first e.cell) (map.entries (map.from_entries {R = nat_cmp} (by_number (first + 1) rest))) (λ same. absurd (omega arith)) (apart_from j (first + 1) rest (omega arith)))

  insert_lowest : (e : ℕ × Slotted P T W) (first : ℕ) (slots : List (Option (Numbered (Cell P T W)))) → e.1.slot < first → insert_by_slot e (by_number first slots) ≡ e ∷ by_number first slots
  insert_lowest e first [] below = refl
  insert_lowest e first (None ∷ rest) below = insert_lowest e (first + 1) rest (omega arith)
  insert_lowest e first (Some c ∷ rest) below = insert_first e (c.number, seen first c.cell) (by_number (first + 1) rest) (lt-ltb e.1.slot first below)

  by_slot-from : (first : ℕ) (slots : List (Option (Numbered (Cell P T W)))) → AllFresh (by_number first slots) → by_slot (map.entries (map.from_entries {R = nat_cmp} (by_number first slots))) ≡ by_number first slots
  by_slot-from first [] fresh = ap by_slot (no_entries (map.entries (map.empty {X = Slotted P T W} {R = nat_cmp})) (sym (map.len-entries (map.empty {X = Slotted P T W} {R = nat_cmp})) ∙ map.len-empty nat_cmp (Slotted P T W)))
  by_slot-from first (None ∷ rest) fresh = by_slot-from (first + 1) rest fresh
  by_slot-from first (Some e ∷ rest) fresh =
      let m = map.from_entries {R = nat_cmp} (by_number (first + 1) rest) in
      let v = seen first e.cell in
      let new : find nat_cmp e.number (map.entries m) ≡ None = sym (map.get-entries m e.number) ∙ map.get-from_entries nat_cmp_total (by_number (first + 1) rest) e.number ∙ fresh.0 in
      ap by_slot (map.entries-insert nat_cmp_total m e.number v)
      ∙ by_slot-put e.number v (map.entries m) new (apart_from first (first + 1) rest (omega arith))
      ∙ ap (insert_by_slot (e.number, v)) (by_slot-from (first + 1) rest fresh.1)
      ∙ insert_lowest (e.number, v) (first + 1) rest (omega arith)

  -- the order by rising slot is that of the slots
  pub rising_is : (test : Cell P T W → Bool) (slots : List (Option (Numbered (Cell P T W)))) → Distinct slots → rising test (cells_of slots) ≡ list_map (λ e. e.0) (filter (λ e. test e.1.cell) (by_number 0 slots))
  unfolding cells_of
  rising_is test slots distinct = ap (λ es. list_map (λ e. e.0) (filter (λ e. test e.1.cell) es)) (by_slot-from 0 slots (all_fresh 0 slots distinct))

  numbers_rising : (first : ℕ) (slots : List (Option (Numbered (Cell P T W)))) → numbers_of (idle_ids first slots) ≡ list_map (λ e. e.0) (filter (λ e. is_idle e.1.cell.state) (by_number first slots))
  numbers_rising first [] = refl
  numbers_rising first (None ∷ rest) = numbers_rising (first + 1) rest
  numbers_rising first (Some e ∷ rest) = grind (arith, numbers_rising (first + 1) rest)

  -- a walk over the slots finds the idle tasks in that order
  pub idle_rising : (slots : List (Option (Numbered (Cell P T W)))) → Distinct slots → numbers_of (idle_ids 0 slots) ≡ rising (λ c. is_idle c.state) (cells_of slots)
  idle_rising slots distinct = numbers_rising 0 slots ∙ sym (rising_is (λ c. is_idle c.state) slots distinct)

-- the undropped tasks in that order, slot by slot
module _ {P T W : Type 0} where
  abbrev pub undropped_numbers : List (Option (Numbered (Cell P T W))) → List ℕ
  undropped_numbers slots = filter_map undropped_number slots

  undropped_by_number : (first : ℕ) (slots : List (Option (Numbered (Cell P T W)))) → undropped_numbers slots ≡ list_map (λ e. e.0) (filter (λ e. is_undropped e.1.cell.state) (by_number first slots))
  undropped_by_number first [] = refl
  undropped_by_number first (None ∷ rest) = undropped_by_number (first + 1) rest
  undropped_by_number first (Some e ∷ rest) = grind (arith, undropped_by_number (first + 1) rest)

  pub undropped_rising : (slots : List (Option (Numbered (Cell P T W)))) → Distinct slots → undropped_numbers slots ≡ rising (λ c. is_undropped c.state) (cells_of slots)
  undropped_rising slots distinct = undropped_by_number 0 slots ∙ sym (rising_is (λ c. is_undropped c.state) slots distinct)

  pub length-undropped : (slots : List (Option (Numbered (Cell P T W)))) → length (undropped_numbers slots) ≡ count_by undropped_slot slots
  length-undropped [] = refl
  length-undropped (None ∷ rest) = let inner = length-undropped rest in let one = sum_by-cons (λ s. cond (undropped_slot s) 1 0) None rest in omega arith
  length-undropped (Some e ∷ rest) = let inner = length-undropped rest in let one = sum_by-cons (λ s. cond (undropped_slot s) 1 0) (Some e) rest in let here = by (is_undropped e.cell.state) in omega arith
    where
      by : (b : Bool) → length (cons_option (cond b (Some e.number) None) (undropped_numbers rest)) ≡ cond b 1 0 + length (undropped_numbers rest)
      by true = omega arith
      by false = omega arith

-- no more are undropped than were made
pub few_undropped : {P T W : Type 0} {next undropped : ℕ} {slots : List (Option (Numbered (Cell P T W)))} {ids : List TaskId} → IsSound next slots ids undropped → length (undropped_numbers slots) ≤ next
few_undropped {slots = slots} sound = let long = length-undropped slots in let counted = undropped_slots sound in let most = sound.numbered in omega arith

-- the slots of that order rise
module _ {P T W : Type 0} (cells : map.FinMap nat_cmp (Slotted P T W)) where
  -- each entry is one of the map
  abbrev Inside : List (ℕ × Slotted P T W) → Type 0
  Inside [] = Unit {0}
  Inside (e ∷ rest) = (map.get cells e.0 ≡ Some e.1) × Inside rest

  -- no slot of the entries is below this one, and each is below those behind it
  abbrev Above : ℕ → List (ℕ × Slotted P T W) → Type 0
  Above k [] = Unit {0}
  Above k (e ∷ rest) = (k ≤ e.1.slot) × Above k rest

  abbrev Ascends : List (ℕ × Slotted P T W) → Type 0
  Ascends [] = Unit {0}
  Ascends (e ∷ rest) = Above e.1.slot rest × Ascends rest

  Above-lower : (j k : ℕ) (es : List (ℕ × Slotted P T W)) → j ≤ k → Above k es → Above j es
  Above-lower j k [] low above = tt
  Above-lower j k (e ∷ rest) low above = (let here = above.0 in omega arith, Above-lower j k rest low above.1)

  -- what holds of each entry holds of each once one is put in its place
  Inside-insert : (e : ℕ × Slotted P T W) (es : List (ℕ × Slotted P T W)) → map.get cells e.0 ≡ Some e.1 → Inside es → Inside (insert_by_slot e es)
  Inside-insert e [] here inside = (here, tt)
  Inside-insert e (f ∷ rest) here inside = grind (arith, Inside-insert e rest here inside.1)

  Above-insert : (k : ℕ) (e : ℕ × Slotted P T W) (es : List (ℕ × Slotted P T W)) → k ≤ e.1.slot → Above k es → Above k (insert_by_slot e es)
  Above-insert k e [] here above = (here, tt)
  Above-insert k e (f ∷ rest) here above = grind (arith, Above-insert k e rest here above.1)

  Ascends-insert : (e : ℕ × Slotted P T W) (es : List (ℕ × Slotted P T W)) → Ascends es → Ascends (insert_by_slot e es)
  Ascends-insert e [] ascends = (tt, tt)
  Ascends-insert e (f ∷ rest) ascends = by (nat_lt e.1.slot f.1.slot) refl (Ascends-insert e rest ascends.1)
    where
      by : (b : Bool) → nat_lt e.1.slot f.1.slot ≡ b → Ascends (insert_by_slot e rest) → Ascends (cond b (e ∷ f ∷ rest) (f ∷ insert_by_slot e rest))
      by true is inner =
          let low : e.1.slot < f.1.slot = ltb-true e.1.slot f.1.slot is in
          let under : e.1.slot ≤ f.1.slot = omega arith in
          ((under, Above-lower e.1.slot f.1.slot rest under ascends.0), ascends)
      by false is inner = (Above-insert f.1.slot e rest (ltb-false e.1.slot f.1.slot is) ascends.0, inner)

  Inside-by_slot : (es : List (ℕ × Slotted P T W)) → Inside es → Inside (by_slot es)
  Inside-by_slot [] inside = tt
  Inside-by_slot (e ∷ rest) inside = Inside-insert e (by_slot rest) inside.0 (Inside-by_slot rest inside.1)

  Ascends-by_slot : (es : List (ℕ × Slotted P T W)) → Ascends (by_slot es)
  Ascends-by_slot [] = tt
  Ascends-by_slot (e ∷ rest) = Ascends-insert e (by_slot rest) (Ascends-by_slot rest)

  Inside-filter : (test : ℕ × Slotted P T W → Bool) (es : List (ℕ × Slotted P T W)) → Inside es → Inside (filter test es)
  Inside-filter test [] inside = tt
  Inside-filter test (e ∷ rest) inside =
      elim (test e) as (λ b. Inside (cond b (e ∷ filter test rest) (filter test rest))) [ true ↦ (inside.0, Inside-filter test rest inside.1) | false ↦ Inside-filter test rest inside.1 ]

  Above-filter : (k : ℕ) (test : ℕ × Slotted P T W → Bool) (es : List (ℕ × Slotted P T W)) → Above k es → Above k (filter test es)
  Above-filter k test [] above = tt
  Above-filter k test (e ∷ rest) above =
      elim (test e) as (λ b. Above k (cond b (e ∷ filter test rest) (filter test rest))) [ true ↦ (above.0, Above-filter k test rest above.1) | false ↦ Above-filter k test rest above.1 ]

  Ascends-filter : (test : ℕ × Slotted P T W → Bool) (es : List (ℕ × Slotted P T W)) → Ascends es → Ascends (filter test es)
  Ascends-filter test [] ascends = tt
  Ascends-filter test (e ∷ rest) ascends =
      elim (test e) as (λ b. Ascends (cond b (e ∷ filter test rest) (filter test rest))) [ true ↦ (Above-filter e.1.slot test rest ascends.0, Ascends-filter test rest ascends.1) | false ↦ Ascends-filter test rest ascends.1 ]

  -- the entries of a sorted list are those that it finds
  entries_inside : (es : List (ℕ × Slotted P T W)) → Holds (is_sorted nat_cmp es) → ((q : ℕ) (s : Slotted P T W) → find nat_cmp q es ≡ Some s → map.get cells q ≡ Some s) → Inside es
  entries_inside [] sorted finds = tt
  entries_inside (e ∷ rest) sorted finds = (
    finds e.0 e.1 (ap (λ b. cond b (Some e.1) (find nat_cmp e.0 rest)) (tied e.0 e.0 refl)),
    entries_inside rest (second _ _ sorted) (λ q s found. finds q s (later q s found)),
  )
    where
      later : (q : ℕ) (s : Slotted P T W) → find nat_cmp q rest ≡ Some s → find nat_cmp q (e ∷ rest) ≡ Some s
      later q s found =
          elim (cases_eq q e.0) [
            | inl same ↦ absurd (cc (found, none_above q rest (subst (λ k. Holds (below_all nat_cmp k rest)) (sym same) (first _ _ sorted))))
            | inr far ↦ ap (λ b. cond b (Some e.1) (find nat_cmp q rest)) (apart q e.0 far) ∙ found
          ]
        where
          none_above : (k : ℕ) (es : List (ℕ × Slotted P T W)) → Holds (below_all nat_cmp k es) → find nat_cmp k es ≡ None
          none_above k [] below = refl
          none_above k (f ∷ fs) below = ap (λ b. cond b (Some f.1) (find nat_cmp k fs)) (apart k f.0 (not_below k f.0 (first _ _ below))) ∙ none_above k fs (second _ _ below)

  -- the slot at a place is that of the number there
  slot_at : (es : List (ℕ × Slotted P T W)) → Inside es → (i n : ℕ) (s : Slotted P T W) → slice_get (list_map (λ e. e.0) es) i ≡ Some n → map.get cells n ≡ Some s → slice_get (list_map (λ e. e.1.slot) es) i ≡ Some s.slot
  slot_at [] inside i n s at found = absurd (cc)
  slot_at (e ∷ rest) inside zero n s at found = grind arith
  slot_at (e ∷ rest) inside (suc i) n s at found = slot_at rest inside.1 i n s at found

  above_at : (k : ℕ) (es : List (ℕ × Slotted P T W)) → Above k es → (j b : ℕ) → slice_get (list_map (λ e. e.1.slot) es) j ≡ Some b → k ≤ b
  above_at k [] above j b at = absurd (cc)
  above_at k (e ∷ rest) above zero b at = let is : e.1.slot ≡ b = cc in let here = above.0 in omega arith
  above_at k (e ∷ rest) above (suc j) b at = above_at k rest above.1 j b at

  ascends_at : (es : List (ℕ × Slotted P T W)) → Ascends es → (i j a b : ℕ) → i < j → slice_get (list_map (λ e. e.1.slot) es) i ≡ Some a → slice_get (list_map (λ e. e.1.slot) es) j ≡ Some b → a ≤ b
  ascends_at [] ascends i j a b before at_i at_j = absurd (cc)
  ascends_at (e ∷ rest) ascends i zero a b before at_i at_j = absurd (omega arith)
  ascends_at (e ∷ rest) ascends zero (suc j) a b before at_i at_j = let is : e.1.slot ≡ a = cc in let far = above_at e.1.slot rest ascends.0 j b at_j in omega arith
  ascends_at (e ∷ rest) ascends (suc i) (suc j) a b before at_i at_j = ascends_at rest ascends.1 i j a b (omega arith) at_i at_j

-- a number that stands at two places
pub once : (n i : ℕ) (xs : List ℕ) → slice_get xs i ≡ Some n → 1 ≤ times n xs
once n i [] at = absurd (cc)
once n zero (x ∷ xs) at = let same : x ≡ n = cc in let one = sum_by-cons (λ k. cond (k == n) 1 0) x xs in let here : cond {A = ℕ} (x == n) 1 0 ≡ 1 = ap (λ b. cond {A = ℕ} b 1 0) (eq-eqb x n same) in omega arith
once n (suc i) (x ∷ xs) at = let one = sum_by-cons (λ k. cond (k == n) 1 0) x xs in let later = once n i xs at in omega arith

twice : (n i j : ℕ) (xs : List ℕ) → i < j → slice_get xs i ≡ Some n → slice_get xs j ≡ Some n → 2 ≤ times n xs
twice n i j [] before at_i at_j = absurd (cc)
twice n i zero (x ∷ xs) before at_i at_j = absurd (omega arith)
twice n zero (suc j) (x ∷ xs) before at_i at_j =
    let same : x ≡ n = cc in
    let one = sum_by-cons (λ k. cond (k == n) 1 0) x xs in
    let here : cond {A = ℕ} (x == n) 1 0 ≡ 1 = ap (λ b. cond {A = ℕ} b 1 0) (eq-eqb x n same) in
    let later = once n j xs at_j in
    omega arith
twice n (suc i) (suc j) (x ∷ xs) before at_i at_j =
    let one = sum_by-cons (λ k. cond (k == n) 1 0) x xs in
    let later = twice n i j xs (omega arith) at_i at_j in
    omega arith

module _ {P T W : Type 0} where
  -- if no two cells have one slot, the slots of the order rise
  pub rising-rises : (test : Cell P T W → Bool) (table : Table P T W) → SlotsDiffer table → SlotsRise table.cells (rising test table.cells)
  rising-rises test table differ i j n k s t before at_i at_j found_n found_k =
      let cells = table.cells in
      let passing_ones = filter (λ e. test e.1.cell) (by_slot (map.entries cells)) in
      let inside = Inside-filter cells (λ e. test e.1.cell) (by_slot (map.entries cells)) (Inside-by_slot cells (map.entries cells) (entries_inside cells (map.entries cells) (map.entries_sorted cells) (λ q x found. map.get-entries cells q ∙ found))) in
      let ascends = Ascends-filter cells (λ e. test e.1.cell) (by_slot (map.entries cells)) (Ascends-by_slot cells (map.entries cells)) in
      let low = ascends_at cells passing_ones ascends i j s.slot t.slot before (slot_at cells passing_ones inside i n s at_i found_n) (slot_at cells passing_ones inside j k t at_j found_k) in
      let apart : s.slot ≢ t.slot = λ same.
      let number = differ n k s t found_n found_k same in
      let two = twice n i j (rising test cells) before at_i (at_j ∙ ap Some (sym number)) in
      let most = at_most (passing test (map.get cells n)) in
      let one = times-rising test cells n in
      absurd (omega arith) in
      omega (arith, apart)
    where
      at_most : (b : Bool) → cond b 1 0 ≤ 1
      at_most true = omega arith
      at_most false = omega arith

  -- of those that pass a test, those that pass one which says more
  pub rising_among : (test more : Cell P T W → Bool) → ((c : Cell P T W) → more c ≡ true → test c ≡ true) → (cells : map.FinMap nat_cmp (Slotted P T W)) (f : ℕ → Bool) → ((n : ℕ) (s : Slotted P T W) → map.get cells n ≡ Some s → f n ≡ more s.cell)
      → filter f (rising test cells) ≡ rising more cells
  rising_among test more says cells f same =
      among (by_slot (map.entries cells)) (Inside-by_slot cells (map.entries cells) (entries_inside cells (map.entries cells) (map.entries_sorted cells) (λ q x found. map.get-entries cells q ∙ found)))
    where
      among : (es : List (ℕ × Slotted P T W)) → Inside cells es → filter f (list_map (λ e. e.0) (filter (λ e. test e.1.cell) es)) ≡ list_map (λ e. e.0) (filter (λ e. more e.1.cell) es)
      among [] inside = refl
      among (e ∷ rest) inside = elim (cases_Bool (more e.1.cell)) [
        | inl passes ↦ rw (passes, says e.1.cell passes, same e.0 e.1 inside.0 ∙ passes) (ap (λ l. e.0 ∷ l) (among rest inside.1))
        | inr fails ↦ rw fails (by (test e.1.cell) (same e.0 e.1 inside.0 ∙ fails) (among rest inside.1))
      ]
        where
          by : (b : Bool) → f e.0 ≡ false → filter f (list_map (λ x. x.0) (filter (λ x. test x.1.cell) rest)) ≡ list_map (λ x. x.0) (filter (λ x. more x.1.cell) rest)
              → filter f (list_map (λ x. x.0) (cond b (e ∷ filter (λ x. test x.1.cell) rest) (filter (λ x. test x.1.cell) rest))) ≡ list_map (λ x. x.0) (filter (λ x. more x.1.cell) rest)
          by true fails inner = rw fails inner
          by false fails inner = inner
