-- The tickers and the list of sleepers stay tied.
use Rattle.std.proofs.Common.{◌≡◌, ◌≢◌, ℕ, zero, suc, ◌+◌, ◌-◌, ◌<◌, Bool, true, false, not, cond, inl, inr, List, [], ◌∷◌, ◌++◌, Option, Some, None, refl, sym, ap, ◌∙◌, arith}
use Rattle.std.proofs.lemmas.Bool.{cases_Bool, cases_eq, eq-eqb, eqb-true, ne_eqb, lt-ltb, true≢false, false≢true}
use Rattle.std.proofs.lemmas.List.Sums.{sum_by_push}
use Rattle.std.proofs.lemmas.List.{map-append}
use Rattle.std.specs.Prelude.{◌==◌, slice_get, slice_set}
use Rattle.std.specs.FinSet as set
use Rattle.std.specs.Ordering.{nat_cmp}
use Rattle.executor_core.specs.Numbers.{times}
use Rattle.executor_core.specs.Sleepers.{SleeperList, SleeperLaw, has_place}
use Rattle.executor_core.specs.Sleepers.Calls.{no_sleepers, after_notify, after_reserve, after_release, next_number}
use Rattle.executor_core.specs.World.Promises.{numbers_of, holds, NumbersTied, HolderStores}
use Rattle.executor_core.specs.World.Phases.{is_awake, in_wake, in_store, has_ended, gave_up, ticker_or, new_ticker}
use Rattle.executor_core.proofs.ListLemmas.{get-set_same, get-set_other, get-push_last, get-push_other, get_past, sum_by-set, sum_by-at, count_most, count_fewer}
use Rattle.executor_core.proofs.SleeperNumberLemmas.{one-other}
use Rattle.executor_core.proofs.SleeperUseLemmas.{next_fresh, insert_counts, insert_len, remove_counts, remove_len}
use Rattle.executor_core.specs.declared.interleave.ticker.Phase.{Phase}
use Rattle.executor_core.specs.declared.interleave.ticker.Phase.TheVariants.{Ended}
use Rattle.executor_core.specs.declared.interleave.ticker.Ticker.{Ticker}

-- a ticker whose phase passes a test that an ended one fails was made
pub known : (test : Phase → Bool) → test Ended ≡ false → (o : Option Ticker) → test (ticker_or o).phase ≡ true → o ≡ Some (ticker_or o)
known test fails found is = grind arith

ended_gave_up : (p : Phase) → has_ended p ≡ true → gave_up p ≡ true
ended_gave_up p is = grind arith

numbers-set : (tickers : List Ticker) (k : ℕ) (u : Ticker) → numbers_of (slice_set tickers k u) ≡ slice_set (numbers_of tickers) k u.number
numbers-set [] k u = refl
numbers-set (t ∷ ts) zero u = refl
numbers-set (t ∷ ts) (suc k) u = ap (λ l. t.number ∷ l) (numbers-set ts k u)

number_at : (tickers : List Ticker) (k : ℕ) (t : Ticker) → slice_get tickers k ≡ Some t → slice_get (numbers_of tickers) k ≡ Some t.number
number_at [] k t is = absurd (cc)
number_at (x ∷ xs) zero t is = let same : x ≡ t = cc in ap (λ (t : Ticker). Some t.number) same
number_at (x ∷ xs) (suc k) t is = number_at xs k t is

-- who holds the lock
abbrev store_at : ℕ → List Ticker → Bool
store_at q l = in_store (ticker_or (slice_get l q)).phase

module _ (tickers : List Ticker) (k : ℕ) (t u : Ticker) (found : slice_get tickers k ≡ Some t) where
  written : (q : ℕ) → q ≡ k → store_at q (slice_set tickers k u) ≡ in_store u.phase
  written q same = ap (λ j. store_at j (slice_set tickers k u)) same ∙ ap (λ o. in_store (ticker_or o).phase) (get-set_same tickers k u t found)

  kept : (q : ℕ) → q ≢ k → store_at q (slice_set tickers k u) ≡ store_at q tickers
  kept q far = ap (λ o. in_store (ticker_or o).phase) (get-set_other tickers k q u far)

  -- a ticker that does not hold it
  pub stores_same : (holder : Option ℕ) → HolderStores holder tickers → in_store t.phase ≡ false → in_store u.phase ≡ false → HolderStores holder (slice_set tickers k u)
  stores_same holder stores before after q = elim (cases_eq q k) [
    | inl same ↦ written q same ∙ after ∙ sym before ∙ sym (ap (λ o. in_store (ticker_or o).phase) found) ∙ stores k ∙ ap (λ j. holds j holder) (sym same)
    | inr far ↦ kept q far ∙ stores q
  ]

  -- a ticker that takes it
  pub stores_taken : (holder : Option ℕ) → HolderStores holder tickers → holder ≡ None → in_store u.phase ≡ true → HolderStores (Some k) (slice_set tickers k u)
  stores_taken holder stores free after q = elim (cases_eq q k) [
    | inl same ↦ written q same ∙ after ∙ sym (eq-eqb k q (sym same))
    | inr far ↦ kept q far ∙ stores q ∙ ap (holds q) free ∙ sym (ne_eqb k q (λ is. far (sym is)))
  ]

  -- a ticker that gives it up
  pub stores_given : (holder : Option ℕ) → HolderStores holder tickers → holder ≡ Some k → in_store u.phase ≡ false → HolderStores None (slice_set tickers k u)
  stores_given holder stores held after q = elim (cases_eq q k) [
    | inl same ↦ written q same ∙ after
    | inr far ↦ kept q far ∙ stores q ∙ ap (holds q) held ∙ ne_eqb k q (λ is. far (sym is))
  ]

-- the numbers and the places
abbrev one : Bool → ℕ
one b = cond b 1 0

module _ {W : Type 0} {tickers : List Ticker} {s : SleeperList W} (tied : NumbersTied tickers s) where
  -- a ticker that has a number has a place
  sleeps_placed : (j : ℕ) (x : Ticker) → slice_get tickers j ≡ Some x → not (is_awake x) ≡ true → not (has_ended x.phase) ≡ true
  sleeps_placed j x is asleep = elim (cases_Bool (has_ended x.phase)) [
    | inl gone ↦ absurd (false≢true (sym (ap not (eq-eqb x.number 0 (tied.awake j x is (ended_gave_up x.phase gone)))) ∙ asleep))
    | inr going ↦ ap not going
  ]

  -- a place more is free, and given back
  pub reserve_release : after_release (after_reserve s) ≡ s
  reserve_release = grind (arith, count_most, sleeps_placed, lt-ltb)

module _ {W : Type 0} {tickers : List Ticker} {s : SleeperList W} (tied : NumbersTied tickers s) (k : ℕ) (t : Ticker) (found : slice_get tickers k ≡ Some t) where
  -- what has to hold of the change at one ticker
  record TiedChange (u : Ticker) (later : SleeperList W) : Type 0 where
    pub numbers : (i : ℕ) → 0 < i → one (set.contains later.used i) + one (t.number == i) ≡ one (set.contains s.used i) + one (u.number == i)
    pub sleeping : set.len later.used + one (not (is_awake t)) ≡ set.len s.used + one (not (is_awake u))
    pub places : later.places + one (not (has_ended t.phase)) ≡ s.places + one (not (has_ended u.phase))
    pub awake : gave_up u.phase ≡ true → u.number ≡ 0
    pub asleep : in_wake u.phase ≡ true → is_awake u ≡ false

  tied_again : (u : Ticker) (later : SleeperList W) → TiedChange u later → NumbersTied (slice_set tickers k u) later
  tied_again u later change =
      record {
        numbers = λ i more.
            let before = tied.numbers i more in
            let counts = change.numbers i more in
            let set = sum_by-set (λ n. one (n == i)) (numbers_of tickers) k t.number u.number (number_at tickers k t found) in
            let now : times i (numbers_of (slice_set tickers k u)) ≡ times i (slice_set (numbers_of tickers) k u.number) = ap (times i) (numbers-set tickers k u) in
            omega arith;
        sleeping =
            let before = tied.sleeping in
            let counts = change.sleeping in
            let set = sum_by-set (λ (t : Ticker). one (not (is_awake t))) tickers k t u found in
            omega arith;
        places =
            let before = tied.places in
            let counts = change.places in
            let set = sum_by-set (λ (t : Ticker). one (not (has_ended t.phase))) tickers k t u found in
            omega arith;
        awake = λ q v is gone. elim (cases_eq q k) [
          | inl same ↦ let it : u ≡ v = cc (sym (get-set_same tickers k u t found), sym (ap (λ j. slice_get (slice_set tickers k u) j) same), is) in sym (ap (λ (t : Ticker). t.number) it) ∙ change.awake (ap (λ (t : Ticker). gave_up t.phase) it ∙ gone)
          | inr far ↦ tied.awake q v (sym (get-set_other tickers k q u far) ∙ is) gone
        ];
        asleep = λ q v is woken. elim (cases_eq q k) [
          | inl same ↦ let it : u ≡ v = cc (sym (get-set_same tickers k u t found), sym (ap (λ j. slice_get (slice_set tickers k u) j) same), is) in sym (ap is_awake it) ∙ change.asleep (ap (λ (t : Ticker). in_wake t.phase) it ∙ woken)
          | inr far ↦ tied.asleep q v (sym (get-set_other tickers k q u far) ∙ is) woken
        ];
      }

  -- a ticker that has not ended has a place, which is free if it is awake
  pub has_free : is_awake t ≡ true → has_ended t.phase ≡ false → set.len s.used < s.places
  has_free up going = grind (arith, count_fewer, sleeps_placed)

  pub place_free : is_awake t ≡ true → has_ended t.phase ≡ false → has_place s ≡ true
  place_free up going = lt-ltb _ _ (has_free up going)

  -- the number of a ticker that has one is in use
  pub number_used : is_awake t ≡ false → set.contains s.used t.number ≡ true
  number_used asleep = grind (arith, cases_Bool, cases_eq, eq-eqb, sum_by-at, number_at)

  -- its phase alone changes, and it has not ended
  pub tied_phase : (u : Ticker) → u.number ≡ t.number → has_ended t.phase ≡ false → gave_up u.phase ≡ false → (in_wake u.phase ≡ true → is_awake u ≡ false) → (later : SleeperList W) → later.used ≡ s.used → later.places ≡ s.places → NumbersTied (slice_set tickers k u) later
  tied_phase u number going stays up later used places = grind (arith, cases_Bool, ended_gave_up, tied_again)

  -- it is awake and has ended, and its place is given back
  pub tied_ended : (u : Ticker) → is_awake t ≡ true → u.number ≡ 0 → has_ended t.phase ≡ false → has_ended u.phase ≡ true → in_wake u.phase ≡ false → (later : SleeperList W) → later.used ≡ s.used → later.places ≡ s.places - 1 → NumbersTied (slice_set tickers k u) later
  tied_ended u up none going gone still later used places = grind (arith, eqb-true, has_free, tied_again)

  -- it went to sleep under a new number
  pub tied_inserted : SleeperLaw s → (u : Ticker) → is_awake t ≡ true → has_ended t.phase ≡ false → u.number ≡ next_number s → gave_up u.phase ≡ false → in_wake u.phase ≡ false → (later : SleeperList W) → later.used ≡ set.insert s.used (next_number s) → later.places ≡ s.places → NumbersTied (slice_set tickers k u) later
  tied_inserted law u up going number stays still later used places =
      let nothing : t.number ≡ 0 = eqb-true t.number 0 up in
      let fresh = next_fresh law in
      let stays_on : has_ended u.phase ≡ false = elim (cases_Bool (has_ended u.phase)) [ inl gone ↦ absurd (true≢false (sym (ended_gave_up u.phase gone) ∙ stays)) | inr on ↦ on ] in
      let nonzero : (next_number s == 0) ≡ false = ne_eqb (next_number s) 0 (λ zero. let more = fresh.0 in absurd (omega arith)) in
      let longer = insert_len s.used (next_number s) fresh.1 in
      tied_again u later (record {
        numbers = λ i more. let other = one-other 0 i (λ is. absurd (omega arith)) in let counts = insert_counts s.used (next_number s) fresh.1 i in rw (used, nothing, number) (omega arith);
        sleeping = rw (used, nothing, number, nonzero) (omega arith);
        places = rw (places, going, stays_on) refl;
        awake = λ gone. absurd (true≢false (sym gone ∙ stays));
        asleep = λ woken. absurd (true≢false (sym woken ∙ still));
      })

  -- its number was removed
  pub tied_removed : (u : Ticker) → is_awake t ≡ false → u.number ≡ 0 → has_ended t.phase ≡ false → has_ended u.phase ≡ false → in_wake u.phase ≡ false → (later : SleeperList W) → later.used ≡ set.remove s.used t.number → later.places ≡ s.places → NumbersTied (slice_set tickers k u) later
  tied_removed u asleep none going stays still later used places =
      let there = number_used asleep in
      let shorter = remove_len s.used t.number there in
      let count = tied.sleeping in
      let stands = sum_by-at (λ (t : Ticker). one (not (is_awake t))) tickers k t found in
      let itself : ◌≡◌ {A = ℕ} (one (not (is_awake t))) 1 = ap (λ b. one (not b)) asleep in
      tied_again u later (record {
        numbers = λ i more. let other = one-other 0 i (λ is. absurd (omega arith)) in let counts = remove_counts s.used t.number there i in rw (used, none) (omega arith);
        sleeping = rw (used, none, asleep) (omega arith);
        places = rw (places, going, stays) refl;
        awake = λ _. none;
        asleep = λ woken. absurd (true≢false (sym woken ∙ still));
      })

-- a new ticker
module _ {W : Type 0} {tickers : List Ticker} {s : SleeperList W} (runner : Option ℕ) where
  pub tied_added : NumbersTied tickers s → NumbersTied (tickers ++ new_ticker runner ∷ []) (record s { places = s.places + 1 })
  tied_added tied = grind (arith, sum_by_push, one-other, map-append, cases_eq, get-push_last, get-push_other)

pub stores_added : (runner holder : Option ℕ) (tickers : List Ticker) → HolderStores holder tickers → HolderStores holder (tickers ++ new_ticker runner ∷ [])
stores_added runner holder tickers stores q = grind (arith, cases_eq, get-push_last, get_past, get-push_other)

-- a notification leaves the numbers in use and the places
pub tied_notified : {W : Type 0} {tickers : List Ticker} {s : SleeperList W} → NumbersTied tickers s → NumbersTied tickers (after_notify s)
tied_notified tied = record { numbers = tied.numbers; sleeping = tied.sleeping; places = tied.places; awake = tied.awake; asleep = tied.asleep }

-- before the first step
pub tied_opening : {W : Type 0} → NumbersTied {W = W} [] no_sleepers
tied_opening {W} =
    record {
      numbers = λ i more. sym (ap one (set.contains-empty nat_cmp i));
      sleeping = set.len-empty nat_cmp;
      places = refl;
      awake = λ k t is gone. absurd (cc);
      asleep = λ k t is woken. absurd (cc);
    }
