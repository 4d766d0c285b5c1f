-- The numbers in use of a list of sleepers, as its calls change them.
use Rattle.std.proofs.Common.{◌≡◌, ℕ, ◌+◌, ◌-◌, ◌<◌, Bool, true, false, not, cond, ◌&&◌, ◌||◌, inl, inr, [], ◌∷◌, ◌++◌, length, refl, sym, ap, ◌∙◌, arith}
use Rattle.std.proofs.lemmas.Bool.{cases_eq, eq-eqb, lt-ltb, ltb-true, and_right}
use Rattle.std.proofs.lemmas.Bool.Decides.{nat_tests}
use Rattle.std.specs.Prelude.{nat_le, ◌==◌, unwrap_or}
use Rattle.std.specs.Ordering.{nat_cmp}
use Rattle.std.specs.Cmp.{nat_cmp_total}
use Rattle.std.specs.FinSet as set
use Rattle.executor_core.specs.Numbers.{times}
use Rattle.executor_core.specs.Sleepers.{SleeperList, SleeperLaw, is_notified_number}
use Rattle.executor_core.specs.Sleepers.Calls.{last_of, next_number, after_update, update_answer, after_remove}
use Rattle.executor_core.specs.World.Promises.{some_notified}
use Rattle.executor_core.specs.declared.task.values.Again.{Again}
use Rattle.executor_core.specs.declared.task.values.Change.{Change}
use Rattle.executor_core.specs.declared.sleepers.list.Update.TheVariants.{Asleep, WasNotified, Unknown}
use Rattle.executor_core.proofs.SlotLemmas.{tied, apart, some_of}
use Rattle.executor_core.proofs.SleeperCallLemmas.{last-push, empty_or_push}
use Rattle.executor_core.proofs.SleeperNumberLemmas.{times-append, times-cons, one-same, one-other}
use Rattle.executor_core.proofs.SleeperPairLemmas.{length-keys, keys-set_value, any-lookup, length-remove}

past : (b : Bool) (t m l : ℕ) → cond b 1 0 + t ≡ cond (nat_le 1 m && nat_le m l) 1 0 → m ≡ l + 1 → b ≡ false
past b t m l h is = grind (arith, nat_tests)

freed : (b : Bool) (t m l : ℕ) → cond b 1 0 + t ≡ cond (nat_le 1 m && nat_le m l) 1 0 → 0 < t → (0 < m) × (b ≡ false)
freed b t m l h more = (grind (arith, nat_tests), grind (arith, nat_tests))

module _ {W : Type 0} {s : SleeperList W} (law : SleeperLaw s) where
  -- the number that an insertion gives is not in use
  pub next_fresh : (0 < next_number s) × (set.contains s.used (next_number s) ≡ false)
  next_fresh = elim (empty_or_push s.free) [
    | inl none ↦
        let is : next_number s ≡ set.len s.used + 1 = ap (λ l. unwrap_or (last_of l) (set.len s.used + 1)) none in
        let long : length s.free ≡ 0 = ap length none in
        let next : next_number s ≡ (set.len s.used + length s.free) + 1 = omega arith in
        (omega arith, past (set.contains s.used (next_number s)) (times (next_number s) s.free) (next_number s) (set.len s.used + length s.free) (law.numbered (next_number s)) next)
    | inr some ↦
        let is : next_number s ≡ some.1 = ap (λ l. unwrap_or (last_of l) (set.len s.used + 1)) some.2 ∙ ap (λ o. unwrap_or o (set.len s.used + 1)) (last-push some.0 some.1) in
        let all = times-append some.1 some.0 (some.1 ∷ []) in
        let last = times-cons some.1 some.1 [] in
        let one = one-same some.1 in
        let there : times some.1 s.free ≡ times some.1 (some.0 ++ some.1 ∷ []) = ap (times some.1) some.2 in
        let more : 0 < times some.1 s.free = omega arith in
        rw is (freed (set.contains s.used some.1) (times some.1 s.free) some.1 (set.len s.used + length s.free) (law.numbered some.1) more)
  ]

module _ (used : set.FinSet nat_cmp) (n : ℕ) where
  pub insert_counts : set.contains used n ≡ false → (i : ℕ) → cond (set.contains (set.insert used n) i) 1 0 ≡ cond (set.contains used i) 1 0 + cond (n == i) 1 0
  insert_counts fresh i = elim (cases_eq i n) [
    | inl same ↦ rw (set.contains-insert nat_cmp_total used n i, tied i n same, same, fresh, eq-eqb n n refl) refl
    | inr far ↦ let other = one-other n i (λ is. far (sym is)) in ap (λ b. cond b 1 0) (set.contains-insert nat_cmp_total used n i ∙ ap (λ b. b || set.contains used i) (apart i n far)) ∙ omega arith
  ]

  pub insert_len : set.contains used n ≡ false → set.len (set.insert used n) ≡ set.len used + 1
  insert_len fresh = set.len-insert nat_cmp_total used n ∙ rw fresh refl

  pub remove_counts : set.contains used n ≡ true → (i : ℕ) → cond (set.contains (set.remove used n) i) 1 0 + cond (n == i) 1 0 ≡ cond (set.contains used i) 1 0
  remove_counts there i = elim (cases_eq i n) [
    | inl same ↦ rw (set.contains-remove nat_cmp_total used n i, tied i n same, same, there, eq-eqb n n refl) refl
    | inr far ↦ let other = one-other n i (λ is. far (sym is)) in let rest : ◌≡◌ {A = ℕ} (cond (set.contains (set.remove used n) i) 1 0) (cond (set.contains used i) 1 0) = ap (λ b. cond b 1 0) (set.contains-remove nat_cmp_total used n i ∙ ap (λ b. not b && set.contains used i) (apart i n far)) in omega arith
  ]

  pub remove_len : set.contains used n ≡ true → set.len (set.remove used n) ≡ set.len used - 1
  remove_len there = set.len-remove nat_cmp_total used n ∙ rw there refl

module _ {W : Type 0} (s : SleeperList W) (id : ℕ) (w : W) where
  -- an update leaves the numbers in use and the places
  pub update_used : (after_update s id w).used ≡ s.used
  update_used = grind arith

  pub update_places : (after_update s id w).places ≡ s.places
  update_places = grind arith

  -- the number stands in the list
  pub record SleepsOn : Type 0 where
    pub unnotified : is_notified_number s id ≡ false
    pub opened : (after_update s id w).is_open ≡ s.is_open
    pub long : length (after_update s id w).unnotified ≡ length s.unnotified

  pub sleeps_on : (old : W) → Asleep old ≡ update_answer s id w → SleepsOn
  sleeps_on old is = grind (arith, any-lookup, keys-set_value, length-keys, and_right)

  -- the number is notified
  pub record SleepsAgain : Type 0 where
    pub notified : is_notified_number s id ≡ true
    pub opened : (after_update s id w).is_open ≡ true

  pub sleeps_again : (change : Change Again) → WasNotified change ≡ update_answer s id w → SleepsAgain
  sleeps_again change is = grind arith

  -- a number in use is known
  pub never_unknown : set.contains s.used id ≡ true → (x : W) → Unknown x ≡ update_answer s id w → ⊥
  never_unknown there x is = grind (arith, any-lookup)

module _ {W : Type 0} {s : SleeperList W} (law : SleeperLaw s) (id : ℕ) (there : set.contains s.used id ≡ true) (unnotified : is_notified_number s id ≡ false) where
  -- an unnotified number is removed: another one is notified as before
  pub still_notified : some_notified s ≡ true → some_notified (after_remove s id) ≡ true
  still_notified some = grind (arith, some_of, any-lookup, length-remove, remove_len, ltb-true, lt-ltb)
