-- What the fields of `Sleepers` say of the numbers in use.
use Rattle.std.proofs.Common.{◌≡◌, ℕ, ◌+◌, ◌<◌, ◌≤◌, Bool, true, false, cond, not, ◌&&◌, ◌||◌, List, [], ◌∷◌, ◌++◌, length, Option, Some, None, refl, sym, ap, ◌∙◌, arith, length-append}
use Rattle.std.specs.Prelude.{nat_lt, nat_le, ◌==◌, is_some, unwrap_or, option_to_list, filter, slice_index}
use Rattle.std.specs.List.{list_any}
use Rattle.std.specs.Ordering.{nat_cmp, eq_by_cmp}
use Rattle.std.specs.FinSet as set
use Rattle.std.specs.FinSet.{contains-items}
use Rattle.std.specs.Map.{keys_of}
use Rattle.std.proofs.lemmas.Bool.{eqb-true, eq-eqb, lt-ltb, ltb-true, le-ltb, ltb-false, and_parts, and_from, not-true, not_from_false, or_right}
use Rattle.std.proofs.lemmas.Bool.Decides.{nat_tests}
use Rattle.executor_core.specs.Numbers.{times}
use Rattle.executor_core.specs.Sleepers.{SleeperLaw, is_notified, is_notified_number, notified_number}
use Rattle.executor_core.specs.Sleepers.View.{in_use, list_of, IsSoundList}
use Rattle.executor_core.proofs.SleeperNumberLemmas.{times-append, times-cons, any-times, contains-times, len-from_list, once}
use Rattle.executor_core.proofs.SleeperPairLemmas.{length-keys}

-- a count that is at most 1
counted : (t : ℕ) → t ≤ 1 → ◌≡◌ {A = ℕ} (cond (nat_lt 0 t) 1 0) t
counted t most = grind (arith, nat_tests)

module _ {W : Type 0} where
  pub length-in_use_none : (pairs : List (ℕ × W)) → length (in_use None pairs) ≡ length pairs
  length-in_use_none pairs = length-keys pairs

  pub length-in_use_some : (m : ℕ) (pairs : List (ℕ × W)) → length (in_use (Some m) pairs) ≡ length pairs + 1
  length-in_use_some m pairs = let all = length-keys pairs in omega arith

  pub in_use_once : {notified : Option ℕ} {pairs : List (ℕ × W)} {free : List ℕ} {places pair_room free_room : ℕ}
      → IsSoundList notified pairs free places pair_room free_room → (n : ℕ) → times n (in_use notified pairs) ≤ 1
  in_use_once {notified = notified} {pairs = pairs} {free = free} sound n = grind (arith, times-append n (in_use notified pairs) free, once (in_use notified pairs ++ free) sound.numbering n)

  pub used-len : {notified : Option ℕ} {pairs : List (ℕ × W)} {free : List ℕ} {places pair_room free_room : ℕ}
      → IsSoundList notified pairs free places pair_room free_room → set.len (set.from_list {R = nat_cmp} (in_use notified pairs)) ≡ length (in_use notified pairs)
  used-len {notified = notified} {pairs = pairs} sound = len-from_list (in_use notified pairs) (in_use_once sound)

  pub used-len_none : {notified : Option ℕ} {pairs : List (ℕ × W)} {free : List ℕ} {places pair_room free_room : ℕ}
      → IsSoundList notified pairs free places pair_room free_room → notified ≡ None → set.len (set.from_list {R = nat_cmp} (in_use notified pairs)) ≡ length pairs
  used-len_none {pairs = pairs} sound none = used-len sound ∙ ap (λ o. length (in_use o pairs)) none ∙ length-in_use_none pairs

  pub used-len_some : {notified : Option ℕ} {pairs : List (ℕ × W)} {free : List ℕ} {places pair_room free_room : ℕ}
      → IsSoundList notified pairs free places pair_room free_room → (m : ℕ) → notified ≡ Some m → set.len (set.from_list {R = nat_cmp} (in_use notified pairs)) ≡ length pairs + 1
  used-len_some {pairs = pairs} sound m some = used-len sound ∙ ap (λ o. length (in_use o pairs)) some ∙ length-in_use_some m pairs

  pub notified-some : {notified : Option ℕ} {pairs : List (ℕ × W)} {free : List ℕ} {places pair_room free_room : ℕ} (b : Bool)
      → IsSoundList notified pairs free places pair_room free_room → is_some notified ≡ true → true ≡ is_notified (list_of notified pairs free places b)
  notified-some {notified = None} b sound some = absurd (cc)
  notified-some {notified = Some m} {pairs = pairs} b sound some =
      let count = used-len_some sound m refl in
      sym (or_right _ _ (lt-ltb (length pairs) (set.len (set.from_list {R = nat_cmp} (in_use (Some m) pairs))) (omega arith)))

  pub notified-none : {notified : Option ℕ} {pairs : List (ℕ × W)} {free : List ℕ} {places pair_room free_room : ℕ} (b : Bool)
      → IsSoundList notified pairs free places pair_room free_room → is_some notified ≡ false → (length pairs == 0) ≡ is_notified (list_of notified pairs free places b)
  notified-none {notified = Some m} b sound none = absurd (cc)
  notified-none {notified = None} {pairs = pairs} b sound none =
      let count = used-len_none sound refl in
      let used = set.len (set.from_list {R = nat_cmp} (in_use None pairs)) in
      let none : nat_lt (length pairs) used ≡ false = le-ltb (length pairs) used (omega arith) in
      sym (ap (λ t. (used == 0) || t) none ∙ or-false (used == 0) ∙ ap (λ n. n == 0) count)
    where
      or-false : (t : Bool) → (t || false) ≡ t
      or-false true = refl
      or-false false = refl

  -- in use and not in the list: it is the notified one
  pub is_the_notified : (notified : Option ℕ) (pairs : List (ℕ × W)) (n : ℕ) → (set.contains (set.from_list {R = nat_cmp} (in_use notified pairs)) n && not (list_any (λ k. k == n) (keys_of pairs))) ≡ true → notified ≡ Some n
  is_the_notified notified pairs n is = grind (arith, and_parts, ltb-true, contains-times, ltb-false, any-times, not-true, times-cons, eqb-true)

  -- the notified one is in use, and not in the list
  pub notified_is : {notified : Option ℕ} {pairs : List (ℕ × W)} {free : List ℕ} {places pair_room free_room : ℕ} (b : Bool)
      → IsSoundList notified pairs free places pair_room free_room → (n : ℕ) → notified ≡ Some n
      → (set.contains (set.from_list {R = nat_cmp} (in_use notified pairs)) n ≡ true) × (list_any (λ k. k == n) (keys_of pairs) ≡ false) × (is_notified_number (list_of notified pairs free places b) n ≡ true)
  notified_is {notified = notified} {pairs = pairs} b sound n is = grind (arith, ap (λ o. times n (in_use o pairs)) is, times-cons n n (keys_of pairs), in_use_once sound n, eq-eqb, contains-times, lt-ltb, any-times, le-ltb, and_from, not_from_false)

  pub lawful : {notified : Option ℕ} {pairs : List (ℕ × W)} {free : List ℕ} {places pair_room free_room : ℕ} (b : Bool)
      → IsSoundList notified pairs free places pair_room free_room → SleeperLaw (list_of notified pairs free places b)
  lawful {notified = notified} {pairs = pairs} {free = free} {places = places} b sound = record {
    distinct = λ n. let all = times-append n (option_to_list notified) (keys_of pairs) in let most = in_use_once sound n in omega arith;
    in_use = λ n here.
        let all = times-append n (option_to_list notified) (keys_of pairs) in
        let some : 0 < times n (keys_of pairs) = ltb-true 0 _ (sym (any-times n (keys_of pairs)) ∙ here) in
        contains-times (in_use notified pairs) n ∙ lt-ltb 0 (times n (in_use notified pairs)) (omega arith);
    one_notified = λ m n is also. let first : Some m ≡ Some n = sym (is_the_notified notified pairs m is) ∙ is_the_notified notified pairs n also in (cc);
    numbered = λ n.
        let all = times-append n (in_use notified pairs) free in
        let long = length-append (in_use notified pairs) free in
        let one = counted (times n (in_use notified pairs)) (in_use_once sound n) in
        let used = used-len sound in
        let total : length (in_use notified pairs ++ free) ≡ set.len (set.from_list {R = nat_cmp} (in_use notified pairs)) + length free = omega arith in
        ap (λ t. cond t 1 0 + times n free) (contains-times (in_use notified pairs) n)
        ∙ ap (λ k. k + times n free) one
        ∙ sym all
        ∙ sound.numbering n
        ∙ ap (λ l. cond (nat_le 1 n && nat_le n l) 1 0) total;
    within =
        let used = used-len sound in
        let long = length-append (option_to_list notified) (keys_of pairs) in
        let keys = length-keys pairs in
        omega arith;
    placed = let used = used-len sound in let within = sound.placed in omega arith;
  }

-- the first that passes, if one alone does
first_passing : (p : ℕ → Bool) (m : ℕ) → ((n : ℕ) → p n ≡ true → n ≡ m) → p m ≡ true → (xs : List ℕ) → list_any (eq_by_cmp nat_cmp m) xs ≡ true → slice_index (filter p xs) 0 ≡ m
first_passing p m only passes [] there = absurd (cc)
first_passing p m only passes (x ∷ xs) there = grind (arith, first_passing p m only passes xs, nat_tests)

none_passing : (p : ℕ → Bool) → ((n : ℕ) → p n ≡ false) → (xs : List ℕ) → slice_index (filter p xs) 0 ≡ 0
none_passing p never [] = refl
none_passing p never (x ∷ xs) = rw (never x) (none_passing p never xs)

module _ {W : Type 0} where
  pub number_notified : {notified : Option ℕ} {pairs : List (ℕ × W)} {free : List ℕ} {places pair_room free_room : ℕ} (b : Bool)
      → IsSoundList notified pairs free places pair_room free_room → unwrap_or notified 0 ≡ notified_number (list_of notified pairs free places b)
  number_notified {notified = None} {pairs = pairs} {free = free} {places = places} b sound =
      sym (none_passing (is_notified_number (list_of None pairs free places b)) (λ n. never n (is_notified_number (list_of None pairs free places b) n) refl) (set.items (set.from_list {R = nat_cmp} (in_use None pairs))))
    where
      never : (n : ℕ) (t : Bool) → is_notified_number (list_of None pairs free places b) n ≡ t → t ≡ false
      never n true is = let some : None ≡ Some n = is_the_notified None pairs n is in absurd (cc)
      never n false is = refl
  number_notified {notified = Some m} {pairs = pairs} {free = free} {places = places} b sound =
      let here = notified_is b sound m refl in
      sym (first_passing (is_notified_number (list_of (Some m) pairs free places b)) m
      (λ n is. let same : Some m ≡ Some n = is_the_notified (Some m) pairs n is in sym (cc))
      here.2
      (set.items (set.from_list {R = nat_cmp} (in_use (Some m) pairs)))
      (sym (contains-items (set.from_list {R = nat_cmp} (in_use (Some m) pairs)) m) ∙ here.0))
