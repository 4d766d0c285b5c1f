-- What each call on `Sleepers` makes of the fields.
use Rattle.std.proofs.Common.{◌≡◌, ◌≢◌, ℕ, ◌+◌, ◌-◌, ◌<◌, ◌≤◌, Bool, true, false, cond, ◌&&◌, ◌⊎◌, inl, inr, List, [], ◌∷◌, ◌++◌, length, take, Option, Some, None, Ok, Err, refl, sym, ap, ◌∙◌, subst, arith, length-append, append-nil}
use Rattle.std.specs.Prelude.{nat_le, ◌==◌, is_some, unwrap_or, option_to_list, option_map, MatchOption, slice_get}
use Rattle.std.specs.Option.{option_eq}
use Rattle.std.specs.List.{list_any}
use Rattle.std.specs.Ordering.{nat_cmp}
use Rattle.std.specs.FinSet as set
use Rattle.std.specs.Map.{keys_of, lookup, remove_entry, set_value}
use Rattle.std.proofs.Math.Seq.{take-append_seam}
use Rattle.std.proofs.lemmas.Bool.{eqb-true, eqb-false, eq-eqb, ne_eqb, lt-ltb, le-ltb, ltb-false, not_from_true, false_from_ne_true, and_right, true≢false, cond-true, cond-false, cases_eq}
use Rattle.std.proofs.lemmas.Bool.Decides.{nat_tests}
use Rattle.executor_core.specs.Numbers.{times}
use Rattle.executor_core.specs.Sleepers.{SleeperList, is_notified_number}
use Rattle.executor_core.specs.Sleepers.View.{IsNumbering, in_use, list_of, IsSoundList}
use Rattle.executor_core.specs.Sleepers.Calls.{last_of, all_but_last, again, notice, waker_of, change_of, after_insert, insert_answer, slept_again, update_at, after_update, answer_at, update_answer, after_remove, removed_of, all_unnotified, after_notify, notify_answer}
use Rattle.executor_core.specs.declared.sleepers.list.Update.{Update}
use Rattle.executor_core.specs.declared.sleepers.list.Update.TheVariants.{Asleep, WasNotified, Unknown}
use Rattle.executor_core.specs.declared.task.values.Change.{Change}
use Rattle.executor_core.specs.declared.task.values.Wakeup.{Wakeup}
use Rattle.executor_core.proofs.ListLemmas.{get-push_last, length-push}
use Rattle.executor_core.proofs.SleeperNumberLemmas.{times-append, times-cons, any-times, contains-times, push-from_list, remove-from_list, regrouped, one-same, one-other}
use Rattle.executor_core.proofs.SleeperPairLemmas.{length-keys, keys-push, keys-set_value, any-lookup, remove-absent, set_value-absent, times-remove_other, times-remove_same, length-remove}
use Rattle.executor_core.proofs.SleeperListLemmas.{in_use_once, used-len, used-len_none, used-len_some, is_the_notified, notified_is}

-- the last item of a list
module _ {X : Type 0} where
  pub last-push : (xs : List X) (x : X) → last_of (xs ++ x ∷ []) ≡ Some x
  last-push xs x =
      let long = length-push xs x in
      let at : length (xs ++ x ∷ []) - 1 ≡ length xs = omega arith in
      ap (slice_get (xs ++ x ∷ [])) at ∙ get-push_last xs x

  pub front-push : (xs : List X) (x : X) → all_but_last (xs ++ x ∷ []) ≡ xs
  front-push xs x =
      let long = length-push xs x in
      let at : length (xs ++ x ∷ []) - 1 ≡ length xs = omega arith in
      ap (λ n. take n (xs ++ x ∷ [])) at ∙ take-append_seam xs (x ∷ [])

  -- a list is empty, or has a last item
  pub empty_or_push : (xs : List X) → (xs ≡ []) ⊎ ((ys : List X) × (y : X) × (xs ≡ ys ++ y ∷ []))
  empty_or_push [] = inl refl
  empty_or_push (x ∷ xs) = elim (empty_or_push xs) [ inl none ↦ inr ([], x, ap (λ l. x ∷ l) none) | inr some ↦ inr (x ∷ some.0, some.1, ap (λ l. x ∷ l) some.2) ]

-- by what is there
by_option : {A : Type 0} (P : Type 0) (o : Option A) → (o ≡ None → P) → ((a : A) → o ≡ Some a → P) → P
by_option P o none some = grind arith

-- a change, by equal lists and equal things carried
pub change_is : {W X : Type 0} {change : Change X} {s t : SleeperList W} {x y : X} → change ≡ change_of s x → s ≡ t → x ≡ y → change ≡ change_of t y
change_is is lists carried = is ∙ (λ i. change_of (lists i) (carried i))

-- the test of a notified number
pub is_id : (notified : Option ℕ) (id : ℕ) → option_eq (λ a b. a == b) notified (Some id) ≡ true → notified ≡ Some id
is_id notified id is = grind (arith, eqb-true)

pub is_other : (notified : Option ℕ) (id : ℕ) → option_eq (λ a b. a == b) notified (Some id) ≡ false → notified ≢ Some id
is_other notified id is same = grind (arith, eqb-false)

-- one number more than a numbering has
next_count : (l n t : ℕ) → t ≡ cond (nat_le 1 n && nat_le n l) 1 0 → t + cond (l + 1 == n) 1 0 ≡ cond (nat_le 1 n && nat_le n (l + 1)) 1 0
next_count l n t is = grind (arith, nat_tests)

grown : (xs : List ℕ) → IsNumbering xs → IsNumbering (xs ++ (length xs + 1) ∷ [])
grown xs numbering n = grind (arith, times-append n xs ((length xs + 1) ∷ []), times-cons n (length xs + 1) [], next_count (length xs) n (times n xs) (numbering n), sym (length-push xs (length xs + 1)))

-- a number goes from the free ones to those in use, or is the next one
module _ (xs : List ℕ) (k : ℕ) where
  abbrev Takes : List ℕ → Type 0
  Takes free =
      IsNumbering (xs ++ free) → k ≡ unwrap_or (last_of free) (length xs + 1)
      → IsNumbering ((xs ++ k ∷ []) ++ all_but_last free) × ((room : ℕ) → length xs + 1 ≤ room → length (xs ++ free) ≤ room → length ((xs ++ k ∷ []) ++ all_but_last free) ≤ room)

  takes_next : Takes []
  takes_next numbering is = grind (arith, grown, append-nil, length-push)

  takes_last : (ys : List ℕ) (y : ℕ) → Takes (ys ++ y ∷ [])
  takes_last ys y numbering is =
      let same : k ≡ y = is ∙ ap (λ o. unwrap_or o (length xs + 1)) (last-push ys y) in
      let front : all_but_last (ys ++ y ∷ []) ≡ ys = front-push ys y in
      let all = length-append xs (ys ++ y ∷ []) in
      let now = length-append (xs ++ k ∷ []) ys in
      let long = length-push xs k in
      let tail = length-push ys y in
      let total : length ((xs ++ k ∷ []) ++ ys) ≡ length (xs ++ (ys ++ y ∷ [])) = omega arith in (
        subst (λ l. IsNumbering ((xs ++ k ∷ []) ++ l)) (sym front) (regrouped (xs ++ (ys ++ y ∷ [])) ((xs ++ k ∷ []) ++ ys) numbering (λ n. counts n same) total),
        λ room _ fits. rw front (omega arith),
      )
    where
      counts : (n : ℕ) → k ≡ y → times n ((xs ++ k ∷ []) ++ ys) ≡ times n (xs ++ (ys ++ y ∷ []))
      counts n same =
          let a = times-append n (xs ++ k ∷ []) ys in
          let b = times-append n xs (k ∷ []) in
          let c = times-append n xs (ys ++ y ∷ []) in
          let d = times-append n ys (y ∷ []) in
          let e : times n (k ∷ []) ≡ times n (y ∷ []) = ap (λ j. times n (j ∷ [])) same in
          omega arith

  taken : (free : List ℕ) → Takes free
  taken free = elim (empty_or_push free) [ inl none ↦ subst Takes (sym none) takes_next | inr some ↦ subst Takes (sym some.2) (takes_last some.0 some.1) ]

-- a number goes from the end of those in use to their front
times-turned : (n id : ℕ) (xs free : List ℕ) → times n ((xs ++ id ∷ []) ++ free) ≡ times n (id ∷ xs ++ free)
times-turned n id xs free = grind (arith, times-append n (xs ++ id ∷ []) free, times-append n xs (id ∷ []), times-cons n id [], times-cons n id (xs ++ free), times-append n xs free)

length-turned : (id : ℕ) (xs free : List ℕ) → length ((xs ++ id ∷ []) ++ free) ≡ length (id ∷ xs ++ free)
length-turned id xs free = grind (arith, length-append, length-push)

-- another number than the notified one
times-other : (notified : Option ℕ) (id : ℕ) → notified ≢ Some id → times id (option_to_list notified) ≡ 0
times-other notified id far = grind (arith, times-cons, one-other)

module _ {W : Type 0} where
  pub in_use-push : (notified : Option ℕ) (pairs : List (ℕ × W)) (k : ℕ) (w : W) → in_use notified (pairs ++ (k, w) ∷ []) ≡ in_use notified pairs ++ k ∷ []
  in_use-push notified pairs k w = grind (arith, keys-push)

  times-in_use : (n : ℕ) (notified : Option ℕ) (pairs : List (ℕ × W)) → times n (in_use notified pairs) ≡ times n (option_to_list notified) + times n (keys_of pairs)
  times-in_use n notified pairs = times-append n (option_to_list notified) (keys_of pairs)

  length-in_use : (notified : Option ℕ) (pairs : List (ℕ × W)) → length (in_use notified pairs) ≡ length (option_to_list notified) + length pairs
  length-in_use notified pairs = let all = length-append (option_to_list notified) (keys_of pairs) in let keys = length-keys pairs in omega arith

  -- the number is in use, if its waker is found
  times-found : (notified : Option ℕ) (pairs : List (ℕ × W)) (id : ℕ) (w : W) → lookup (λ k. k == id) pairs ≡ Some w → 0 < times id (in_use notified pairs)
  times-found notified pairs id w found = grind (arith, times-in_use id notified pairs, times-remove_same id pairs w found)

  -- it is not, if no waker is found and another number is notified
  times-absent : (notified : Option ℕ) (pairs : List (ℕ × W)) (id : ℕ) → notified ≢ Some id → lookup (λ k. k == id) pairs ≡ None → times id (in_use notified pairs) ≡ 0
  times-absent notified pairs id far none =
      let all = times-in_use id notified pairs in
      let other = times-other notified id far in
      let away : times id (keys_of pairs) ≤ 0 = ltb-false 0 _ (sym (any-times id (keys_of pairs)) ∙ any-lookup id pairs ∙ ap is_some none) in
      omega arith

  -- no waker is found of a number that is not in the list
  lookup-away : (pairs : List (ℕ × W)) (id : ℕ) → list_any (λ k. k == id) (keys_of pairs) ≡ false → lookup (λ k. k == id) pairs ≡ None
  lookup-away pairs id away = grind (arith, any-lookup)

module _ {W : Type 0} {notified : Option ℕ} {pairs : List (ℕ × W)} {free : List ℕ} {places pair_room free_room : ℕ}
    (sound : IsSoundList notified pairs free places pair_room free_room) where
  -- how many numbers are in use, by the list that contracts see
  pub count_is : {v : SleeperList W} {is_open : Bool} → list_of notified pairs free places is_open ≡ v → {n : ℕ} → n ≡ set.len v.used → n ≡ length (in_use notified pairs)
  count_is seen is = is ∙ ap (λ s. set.len s.used) (sym seen) ∙ used-len sound

  -- release
  pub release_sound : length (in_use notified pairs) < places → IsSoundList notified pairs free (places - 1) pair_room free_room
  release_sound more = grind arith

  -- insert
  insert_sound : length (in_use notified pairs) < places → (k : ℕ) (w : W) → k ≡ unwrap_or (last_of free) (length (in_use notified pairs) + 1)
      → IsSoundList notified (pairs ++ (k, w) ∷ []) (all_but_last free) places pair_room free_room
  insert_sound more k w is = grind (arith, in_use-push notified pairs k w, taken (in_use notified pairs) k free sound.numbering is, length-push (in_use notified pairs) k, sound.places_fit)

  insert_list : (is_open : Bool) → length (in_use notified pairs) < places → (k : ℕ) (w : W) → k ≡ unwrap_or (last_of free) (length (in_use notified pairs) + 1)
      → (list_of notified (pairs ++ (k, w) ∷ []) (all_but_last free) places true ≡ after_insert (list_of notified pairs free places is_open) w)
      × (Ok (k, change_of (after_insert (list_of notified pairs free places is_open) w) again) ≡ insert_answer (list_of notified pairs free places is_open) w)
  insert_list is_open more k w is = grind (arith, list_of notified pairs free places is_open, used-len sound, lt-ltb, in_use-push, push-from_list, cond-true)

  -- what an insertion of this number keeps and makes
  pub record Inserts (v : SleeperList W) (k : ℕ) (w : W) : Type 0 where
    pub room : length pairs < pair_room
    pub keeps : IsSoundList notified (pairs ++ (k, w) ∷ []) (all_but_last free) places pair_room free_room
    pub list : list_of notified (pairs ++ (k, w) ∷ []) (all_but_last free) places true ≡ after_insert v w
    pub answer : Ok (k, change_of (after_insert v w) again) ≡ insert_answer v w

  pub inserting : {v : SleeperList W} {is_open : Bool} → list_of notified pairs free places is_open ≡ v → {n : ℕ} → n ≡ set.len v.used → n < places → {k : ℕ} → k ≡ unwrap_or (last_of free) (n + 1) → (w : W) → Inserts v k w
  inserting {v = v} {is_open = is_open} seen count more {k = k} is w =
      let used = count_is seen count in
      let within : length (in_use notified pairs) < places = omega arith in
      let next : k ≡ unwrap_or (last_of free) (length (in_use notified pairs) + 1) = is ∙ ap (λ l. unwrap_or (last_of free) (l + 1)) used in
      let all = length-in_use notified pairs in
      let fits = sound.pairs_fit in
      let lists = insert_list is_open within k w next in
      record {
        room = omega arith;
        keeps = insert_sound within k w next;
        list = lists.0 ∙ ap (λ s. after_insert s w) seen;
        answer = subst (λ u. Ok (k, change_of (after_insert u w) again) ≡ insert_answer u w) seen lists.1;
      }

  -- no reserved place is free
  pub refusing : {v : SleeperList W} {is_open : Bool} → list_of notified pairs free places is_open ≡ v → {n : ℕ} → n ≡ set.len v.used → places ≤ n → (w : W) → (v ≡ after_insert v w) × (Err w ≡ insert_answer v w)
  refusing {v = v} seen count full w = grind (arith, le-ltb, cond-false)

  -- update
  pub slept_sound : (id : ℕ) (w : W) → notified ≡ Some id → IsSoundList None (pairs ++ (id, w) ∷ []) free places pair_room free_room
  slept_sound id w is = grind (arith, keys-push, length-push, length-turned, regrouped, times-turned)

  -- there is room for its pair
  pub slept_room : (id : ℕ) → notified ≡ Some id → length pairs < pair_room
  slept_room id is = grind (arith, length-in_use)

  pub slept_list : (is_open : Bool) (id : ℕ) (w : W) → notified ≡ Some id
      → list_of None (pairs ++ (id, w) ∷ []) free places true ≡ after_update (list_of notified pairs free places is_open) id w
  slept_list is_open id w is =
      let s : SleeperList W = list_of notified pairs free places is_open in
      let here = notified_is is_open sound id is in
      let away : list_any (λ k. k == id) (keys_of pairs) ≡ false = here.1 in
      let none : waker_of s id ≡ None = lookup-away pairs id away in
      let used : set.from_list {R = nat_cmp} (in_use None (pairs ++ (id, w) ∷ [])) ≡ s.used =
      ap set.from_list (keys-push pairs id w) ∙ push-from_list (keys_of pairs) id ∙ ap (λ o. set.from_list {R = nat_cmp} (in_use o pairs)) (sym is) in
      ap (λ u. record { unnotified = pairs ++ (id, w) ∷ []; used = u; free = free; places = places; is_open = true }) used
      ∙ sym (ap (λ o. update_at s id w o (is_notified_number s id)) none ∙ ap (update_at s id w None) here.2)

  pub slept_answer : {v : SleeperList W} (is_open : Bool) → list_of notified pairs free places is_open ≡ v → (id : ℕ) (w : W) → notified ≡ Some id
      → WasNotified (change_of (after_update v id w) again) ≡ update_answer v id w
  slept_answer is_open seen id w is =
      let s : SleeperList W = list_of notified pairs free places is_open in
      let here = notified_is is_open sound id is in
      let away : list_any (λ k. k == id) (keys_of pairs) ≡ false = here.1 in
      let none : waker_of s id ≡ None = lookup-away pairs id away in
      let listed : after_update s id w ≡ slept_again s id w = ap (λ o. update_at s id w o (is_notified_number s id)) none ∙ ap (update_at s id w None) here.2 in
      subst (λ u. WasNotified (change_of (after_update u id w) again) ≡ update_answer u id w) seen
      (
      ap (λ u. WasNotified (change_of u again)) listed
      ∙ sym (ap (λ o. answer_at s id w o (is_notified_number s id)) none ∙ ap (answer_at s id w None) here.2)
      )

  pub replaced_sound : (id : ℕ) (w : W) → IsSoundList notified (set_value (λ k. k == id) pairs w) free places pair_room free_room
  replaced_sound id w = grind (arith, keys-set_value)

  not_notified : (is_open : Bool) (id : ℕ) → notified ≢ Some id → is_notified_number (list_of notified pairs free places is_open) id ≡ false
  not_notified is_open id far = false_from_ne_true _ (λ is. far (is_the_notified notified pairs id is))

  pub replaced_list : (is_open : Bool) (id : ℕ) (w : W) → notified ≢ Some id
      → list_of notified (set_value (λ k. k == id) pairs w) free places is_open ≡ after_update (list_of notified pairs free places is_open) id w
  replaced_list is_open id w far =
      let s : SleeperList W = list_of notified pairs free places is_open in
      by_option _ (lookup (λ k. k == id) pairs)
      (λ none.
      ap (λ l. list_of notified l free places is_open) (set_value-absent id pairs w none)
      ∙ sym (ap (λ o. update_at s id w o (is_notified_number s id)) none ∙ ap (update_at s id w None) (not_notified is_open id far)))
      (λ old found.
      ap (λ l. record { unnotified = set_value (λ k. k == id) pairs w; used = set.from_list {R = nat_cmp} (option_to_list notified ++ l); free = free; places = places; is_open = is_open }) (keys-set_value id pairs w)
      ∙ sym (ap (λ o. update_at s id w o (is_notified_number s id)) found))

  pub replaced_answer : (is_open : Bool) (id : ℕ) (w : W) (answer : Update W) → notified ≢ Some id
      → MatchOption (lookup (λ k. k == id) pairs) (answer ≡ Unknown w) (λ old. answer ≡ Asleep old)
      → answer ≡ update_answer (list_of notified pairs free places is_open) id w
  replaced_answer is_open id w answer far matches =
      let s : SleeperList W = list_of notified pairs free places is_open in
      by_option _ (lookup (λ k. k == id) pairs)
      (λ none.
      subst (λ o. MatchOption o (answer ≡ Unknown w) (λ old. answer ≡ Asleep old)) none matches
      ∙ sym (ap (λ o. answer_at s id w o (is_notified_number s id)) none ∙ ap (answer_at s id w None) (not_notified is_open id far)))
      (λ old found.
      subst (λ o. MatchOption o (answer ≡ Unknown w) (λ old. answer ≡ Asleep old)) found matches
      ∙ sym (ap (λ o. answer_at s id w o (is_notified_number s id)) found))

  -- remove
  pub removed_sound : (id : ℕ) (w : W) → lookup (λ k. k == id) pairs ≡ Some w
      → IsSoundList notified (remove_entry (λ k. k == id) pairs) (free ++ id ∷ []) places pair_room free_room
  removed_sound id w found =
      let left = remove_entry (λ k. k == id) pairs in
      let one = length-remove id pairs w found in
      let before = length-in_use notified pairs in
      let now = length-in_use notified left in
      let a = length-append (in_use notified pairs) free in
      let b = length-append (in_use notified left) (free ++ id ∷ []) in
      let c = length-push free id in
      let total : length (in_use notified left ++ (free ++ id ∷ [])) ≡ length (in_use notified pairs ++ free) = omega arith in
      let fits = sound.numbers_fit in
      let within = sound.placed in
      record {
        numbering = regrouped (in_use notified pairs ++ free) (in_use notified left ++ (free ++ id ∷ [])) sound.numbering (λ n. counts n (cases_eq n id)) total;
        placed = omega arith;
        pairs_fit = sound.pairs_fit;
        places_fit = sound.places_fit;
        numbers_fit = omega arith;
      }
    where
      counts : (n : ℕ) → (n ≡ id) ⊎ (n ≡ id → ⊥) → times n (in_use notified (remove_entry (λ k. k == id) pairs) ++ (free ++ id ∷ [])) ≡ times n (in_use notified pairs ++ free)
      counts n at =
          let a = times-append n (in_use notified pairs) free in
          let b = times-append n (in_use notified (remove_entry (λ k. k == id) pairs)) (free ++ id ∷ []) in
          let c = times-append n free (id ∷ []) in
          let d = times-cons n id [] in
          let e = times-in_use n notified pairs in
          let f = times-in_use n notified (remove_entry (λ k. k == id) pairs) in
          elim at [
            | inl same ↦
                let one : ◌≡◌ {A = ℕ} (cond (id == n) 1 0) 1 = ap (λ j. cond (id == j) 1 0) same ∙ one-same id in
                let less : times n (keys_of pairs) ≡ times n (keys_of (remove_entry (λ k. k == id) pairs)) + 1 = rw same (times-remove_same id pairs w found) in
                omega arith
            | inr far ↦
                let none = one-other id n (λ is. far (sym is)) in
                let kept = times-remove_other id n pairs far in
                omega arith
          ]

  pub removed_list : (is_open : Bool) (id : ℕ) (w : W) → lookup (λ k. k == id) pairs ≡ Some w
      → list_of notified (remove_entry (λ k. k == id) pairs) (free ++ id ∷ []) places true ≡ after_remove (list_of notified pairs free places is_open) id
  removed_list is_open id w found =
      let left = remove_entry (λ k. k == id) pairs in
      let s : SleeperList W = list_of notified pairs free places is_open in
      let a = times-in_use id notified pairs in
      let b = times-in_use id notified left in
      let most = in_use_once sound id in
      let one = times-remove_same id pairs w found in
      let none : times id (in_use notified left) ≡ 0 = omega arith in
      let some = times-found notified pairs id w found in
      let here : set.contains s.used id ≡ true = contains-times (in_use notified pairs) id ∙ lt-ltb 0 (times id (in_use notified pairs)) some in
      let used : set.from_list {R = nat_cmp} (in_use notified left) ≡ set.remove s.used id =
      remove-from_list (in_use notified pairs) (in_use notified left) id
      (λ n far. let e = times-in_use n notified pairs in let f = times-in_use n notified left in let kept = times-remove_other id n pairs far in omega arith)
      none in
      let freed : free ++ id ∷ [] ≡ cond (set.contains s.used id) (free ++ id ∷ []) free = sym (cond-true (set.contains s.used id) _ free here) in
      λ i. record { unnotified = left; used = used i; free = freed i; places = places; is_open = true }

  -- a number in the list is not the notified one
  pub removed_of_found : (is_open : Bool) (id : ℕ) (w : W) → lookup (λ k. k == id) pairs ≡ Some w
      → record { notice = None; waker = Some w } ≡ removed_of (list_of notified pairs free places is_open) id
  removed_of_found is_open id w found = grind (arith, any-lookup, and_right, not_from_true)

  pub notified_removed_sound : (id : ℕ) → notified ≡ Some id → IsSoundList None pairs (free ++ id ∷ []) places pair_room free_room
  notified_removed_sound id is =
      let before : in_use notified pairs ≡ id ∷ keys_of pairs = ap (λ o. in_use o pairs) is in
      let old = ap length before in
      let all = ap (λ l. length (l ++ free)) before in
      let a = length-append (keys_of pairs) free in
      let b = length-append (keys_of pairs) (free ++ id ∷ []) in
      let c = length-push free id in
      let within = sound.placed in
      let fits = sound.numbers_fit in
      record {
        numbering = regrouped (in_use notified pairs ++ free) (keys_of pairs ++ (free ++ id ∷ [])) sound.numbering (λ n. counts n before) (omega arith);
        placed = omega arith;
        pairs_fit = sound.pairs_fit;
        places_fit = sound.places_fit;
        numbers_fit = omega arith;
      }
    where
      counts : (n : ℕ) → in_use notified pairs ≡ id ∷ keys_of pairs → times n (keys_of pairs ++ (free ++ id ∷ [])) ≡ times n (in_use notified pairs ++ free)
      counts n before =
          let a = times-append n (keys_of pairs) (free ++ id ∷ []) in
          let b = times-append n free (id ∷ []) in
          let c = times-cons n id [] in
          let d = times-cons n id (keys_of pairs ++ free) in
          let e = times-append n (keys_of pairs) free in
          let f = ap (λ l. times n (l ++ free)) before in
          omega arith

  pub notified_removed_list : (is_open : Bool) (id : ℕ) → notified ≡ Some id
      → list_of None pairs (free ++ id ∷ []) places true ≡ after_remove (list_of notified pairs free places is_open) id
  notified_removed_list is_open id is =
      let s : SleeperList W = list_of notified pairs free places is_open in
      let here = notified_is is_open sound id is in
      let away : list_any (λ k. k == id) (keys_of pairs) ≡ false = here.1 in
      let kept : pairs ≡ remove_entry (λ k. k == id) pairs = sym (remove-absent id pairs (lookup-away pairs id away)) in
      let none : times id (keys_of pairs) ≤ 0 = ltb-false 0 _ (sym (any-times id (keys_of pairs)) ∙ away) in
      let used : set.from_list {R = nat_cmp} (keys_of pairs) ≡ set.remove s.used id =
      remove-from_list (in_use notified pairs) (keys_of pairs) id
      (λ n far.
      let e : times n (in_use notified pairs) ≡ times n (id ∷ keys_of pairs) = ap (λ o. times n (in_use o pairs)) is in
      let f = times-cons n id (keys_of pairs) in
      let g = one-other id n (λ same. far (sym same)) in
      omega arith)
      (omega arith) in
      ap (λ u. record { unnotified = pairs; used = u; free = free ++ id ∷ []; places = places; is_open = true }) used
      ∙ ap (λ l. record { unnotified = l; used = set.remove s.used id; free = free ++ id ∷ []; places = places; is_open = true }) kept
      ∙ ap (λ l. record { unnotified = remove_entry (λ k. k == id) pairs; used = set.remove s.used id; free = l; places = places; is_open = true }) (sym (cond-true (set.contains s.used id) _ free here.0))

  pub removed_of_notified : (is_open : Bool) (id : ℕ) → notified ≡ Some id
      → record { notice = Some notice; waker = None } ≡ removed_of (list_of notified pairs free places is_open) id
  removed_of_notified is_open id is = grind (arith, list_of notified pairs free places is_open, notified_is is_open sound id is, lookup-away)

  pub unknown_removed_list : (is_open : Bool) (id : ℕ) → notified ≢ Some id → lookup (λ k. k == id) pairs ≡ None
      → list_of notified (remove_entry (λ k. k == id) pairs) free places true ≡ after_remove (list_of notified pairs free places is_open) id
  unknown_removed_list is_open id far none = grind (arith, remove-absent, times-absent, contains-times, le-ltb, remove-from_list, cond-false)

  pub unknown_removed_sound : (id : ℕ) → lookup (λ k. k == id) pairs ≡ None → IsSoundList notified (remove_entry (λ k. k == id) pairs) free places pair_room free_room
  unknown_removed_sound id none = rw (remove-absent id pairs none) sound

  pub removed_of_unknown : (is_open : Bool) (id : ℕ) → notified ≢ Some id → lookup (λ k. k == id) pairs ≡ None
      → record { notice = None; waker = None } ≡ removed_of (list_of notified pairs free places is_open) id
  removed_of_unknown is_open id far none =
      let s : SleeperList W = list_of notified pairs free places is_open in
      ap (λ o. record { notice = None; waker = o }) (sym none)
      ∙ ap (λ b. record { notice = cond b (Some notice) None; waker = waker_of s id }) (sym (not_notified is_open id far))

  -- notify
  some_notified : (is_open : Bool) → is_some notified ≡ true → all_unnotified (list_of notified pairs free places is_open) ≡ false
  some_notified is_open some =
      by_option _ notified
      (λ none. absurd (true≢false (sym some ∙ ap is_some none)))
      (λ m is. let count = used-len_some sound m is in ne_eqb (length pairs) (set.len (set.from_list {R = nat_cmp} (in_use notified pairs))) (λ same. absurd (omega arith)))

  none_notified : (is_open : Bool) → is_some notified ≡ false → all_unnotified (list_of notified pairs free places is_open) ≡ true
  none_notified is_open none =
      by_option _ notified
      (λ is. let count = used-len_none sound is in eq-eqb (length pairs) (set.len (set.from_list {R = nat_cmp} (in_use notified pairs))) (omega arith))
      (λ m is. absurd (true≢false (sym (ap is_some is) ∙ none)))

  nobody : is_some notified ≡ false → notified ≡ None
  nobody none = by_option _ notified (λ same. same) (λ m same. absurd (true≢false (sym (ap is_some same) ∙ none)))

  pub left_sound : {left : List (ℕ × W)} → pairs ≡ left ++ [] → IsSoundList notified left free places pair_room free_room
  left_sound {left = left} is = subst (λ l. IsSoundList notified l free places pair_room free_room) (is ∙ append-nil left) sound

  pub notified_sound : (left : List (ℕ × W)) (id : ℕ) (w : W) → is_some notified ≡ false → pairs ≡ left ++ (id, w) ∷ [] → IsSoundList (Some id) left free places pair_room free_room
  notified_sound left id w none is = grind (arith, nobody, keys-push, length-push, length-turned, regrouped, times-turned)

  pub kept_list : (is_open : Bool) → is_some notified ≡ true
      → list_of notified pairs free places is_open ≡ after_notify (list_of notified pairs free places is_open)
  kept_list is_open some =
      let s : SleeperList W = list_of notified pairs free places is_open in
      ap (λ b. record { unnotified = cond b (all_but_last pairs) pairs; used = s.used; free = free; places = places; is_open = is_open }) (sym (some_notified is_open some))

  pub kept_answer : (is_open : Bool) → is_some notified ≡ true → None ≡ notify_answer (list_of notified pairs free places is_open)
  kept_answer is_open some =
      let s : SleeperList W = list_of notified pairs free places is_open in
      sym (cond-false (all_unnotified s) _ None (some_notified is_open some))

  pub notified_list : (is_open : Bool) (left : List (ℕ × W)) (id : ℕ) (w : W) → is_some notified ≡ false → pairs ≡ left ++ (id, w) ∷ []
      → list_of (Some id) left free places is_open ≡ after_notify (list_of notified pairs free places is_open)
  notified_list is_open left id w none is =
      let s : SleeperList W = list_of notified pairs free places is_open in
      let front : left ≡ all_but_last pairs = sym (ap all_but_last is ∙ front-push left (id, w)) in
      let used : set.from_list {R = nat_cmp} (in_use (Some id) left) ≡ s.used =
      sym (ap (λ o. set.from_list {R = nat_cmp} (in_use o pairs)) (nobody none) ∙ ap (λ l. set.from_list {R = nat_cmp} (keys_of l)) is ∙ ap set.from_list (keys-push left id w) ∙ push-from_list (keys_of left) id) in
      ap (λ u. record { unnotified = left; used = u; free = free; places = places; is_open = is_open }) used
      ∙ ap (λ l. record { unnotified = l; used = s.used; free = free; places = places; is_open = is_open }) front
      ∙ ap (λ b. record { unnotified = cond b (all_but_last pairs) pairs; used = s.used; free = free; places = places; is_open = is_open }) (sym (none_notified is_open none))

  pub notified_answer : (is_open : Bool) (left : List (ℕ × W)) (id : ℕ) (w : W) → is_some notified ≡ false → pairs ≡ left ++ (id, w) ∷ []
      → Some (record { waker = w }) ≡ notify_answer (list_of notified pairs free places is_open)
  notified_answer is_open left id w none is =
      let s : SleeperList W = list_of notified pairs free places is_open in
      let last : Some (id, w) ≡ last_of pairs = sym (ap last_of is ∙ last-push left (id, w)) in
      let woken : Option (ℕ × W) → Option (Wakeup W) = option_map (λ p. record { waker = p.1 }) in
      ap woken last ∙ sym (cond-true (all_unnotified s) (woken (last_of pairs)) None (none_notified is_open none))
