-- No notice is lost.
use Rattle.std.proofs.Common.{◌≡◌, ℕ, ◌+◌, ◌-◌, ◌<◌, ◌≤◌, Bool, true, false, ◌||◌, not, ◌⊎◌, inl, inr, cond, List, [], length, map, ◌∷◌, ◌++◌, Option, Some, None, is_some, refl, sym, ap, subst, ◌∙◌, length-take, arith}
use Rattle.std.proofs.lemmas.Bool.{cases_Bool, cases_lt, cases_eq, lt-ltb, ltb-true, eq-eqb, eqb-true, eqb-false, or_left, or_right, or_cases, true≢false}
use Rattle.std.proofs.lemmas.List.Folds.{list_any-append}
use Rattle.std.proofs.lemmas.List.Sums.{sum_by_push}
use Rattle.std.specs.List.{list_any}
use Rattle.std.specs.Prelude.{nat_lt, slice_get, slice_set}
use Rattle.std.specs.FinSet as set
use Rattle.executor_core.specs.Sleepers.{SleeperList, SleeperLaw, is_notified}
use Rattle.executor_core.specs.Sleepers.Calls.{no_sleepers, all_unnotified, after_notify}
use Rattle.executor_core.specs.World.{Execution}
use Rattle.executor_core.specs.World.Promises.{some_notified, kept_notices, notices_out, some_search, is_obliged, holder_spends, holds, HolderStores, only_runs, all_queues, CoversQueued, FlagLaw, Covered, RunsCovered, NoNoticeLost}
use Rattle.executor_core.specs.World.Phases.{is_run, in_store, notices_in, has_to_search, has_to_spend, ticker_or, new_ticker}
use Rattle.executor_core.specs.World.Tickers.{forgotten}
use Rattle.executor_core.proofs.World.Forgotten.{forgotten_same, sum_by-forgotten, any-forgotten}
use Rattle.executor_core.proofs.ListLemmas.{sum_by-set, sum_by-at, any-at, any-set_true, any-set_same, any-push, get-set_same, get-set_other, get-push_last, get-push_other, get_past}
use Rattle.executor_core.specs.declared.interleave.ticker.Ticker.{Ticker}

positive : (n : ℕ) → 0 < n → nat_lt 0 n ≡ true
positive n h = lt-ltb 0 n h

-- a notice is out
noticed_obliges : {T : Type 0} (w : Execution T) → 0 < notices_out w → (b : Bool) → b || is_obliged w ≡ true
noticed_obliges w out b = or_right b _ (or_left _ (some_search w) (or_left _ (nat_lt 0 w.picks) (positive (notices_out w) out)))

-- a pick is out
picked_obliges : {T : Type 0} (w : Execution T) → 0 < w.picks → (b : Bool) → b || is_obliged w ≡ true
picked_obliges w out b = or_right b _ (or_left _ (some_search w) (or_right (nat_lt 0 (notices_out w)) _ (positive w.picks out)))

-- a ticker has still to search
searching_obliges : {T : Type 0} (w : Execution T) → some_search w ≡ true → (b : Bool) → b || is_obliged w ≡ true
searching_obliges w some b = or_right b _ (or_right (nat_lt 0 (notices_out w) || nat_lt 0 w.picks) _ some)

-- if somebody is obliged, a notice or a pick is out, or a ticker has still to search
abbrev Obliges : {T : Type 0} → Execution T → Type 0
Obliges w = (0 < notices_out w) ⊎ ((0 < w.picks) ⊎ (some_search w ≡ true))

obliged_by : {T : Type 0} (w : Execution T) → is_obliged w ≡ true → Obliges w
obliged_by w is = grind (arith, or_cases, ltb-true)

obliges : {T : Type 0} (w : Execution T) → Obliges w → (b : Bool) → b || is_obliged w ≡ true
obliges w (inl out) b = noticed_obliges w out b
obliges w (inr (inl out)) b = picked_obliges w out b
obliges w (inr (inr seeks)) b = searching_obliges w seeks b

-- the one who holds the sleepers' lock has something to spend, and so somebody is obliged
holder_obliges : {T : Type 0} (w : Execution T) → holder_spends w.holder w.tickers ≡ true → Obliges w
holder_obliges w spends = grind (arith, or_cases, sum_by-at, ltb-true, any-at)

-- one is notified, if somebody is there to be
pub some_in_use : {W : Type 0} (s : SleeperList W) → is_notified s ≡ true → 0 < set.len s.used → some_notified s ≡ true
some_in_use s notified asleep = grind (arith, or_cases, eqb-true)

-- the flag is true
abbrev Turned : {T : Type 0} → Execution T → Type 0
Turned w = is_notified w.sleepers || nat_lt 0 w.picks || holder_spends w.holder w.tickers ≡ true

-- queues that were empty stay so
pub record StayEmpty {T : Type 0} (w v : Execution T) : Type 0 where
  pub global : w.global ≡ [] → v.global ≡ []
  pub all : all_queues w ≡ [] → all_queues v ≡ []

pub same_queues : {T : Type 0} {w v : Execution T} → v.global ≡ w.global → v.locals ≡ w.locals → StayEmpty w v
same_queues global locals = record { global = λ none. global ∙ none; all = λ none. rw (global, locals) none }

-- what no lost notice says of the queues
abbrev pub Covers : {T : Type 0} → Execution T → Type 0
Covers w = Covered w × RunsCovered w

pub no_notice_lost : {T : Type 0} {w : Execution T} → FlagLaw w → Covers w → NoNoticeLost w
no_notice_lost flag covers = record { flag_law = flag; covered = covers.0; runs_covered = covers.1 }

-- it holds of any queue
any_covered : {T : Type 0} (w : Execution T) → ((queued : List ℕ) → CoversQueued queued w) → Covers w
any_covered w covers = (covers w.global, λ runs. covers (all_queues w))

module _ {T : Type 0} {w v : Execution T} (law : NoNoticeLost w) where
  -- flag, sleepers, picks and tickers are as before: a notice is out, or the queue and the notices are as before too
  pub notices_again : v.flag ≡ w.flag → v.sleepers ≡ w.sleepers → v.picks ≡ w.picks → v.tickers ≡ w.tickers → v.holder ≡ w.holder → (0 < v.notices) ⊎ (StayEmpty w v × (v.notices ≡ w.notices)) → NoNoticeLost v
  notices_again flag sleepers picks tickers holder or = grind (arith, noticed_obliges)

  -- a notice was spent: if the flag was false, a pick is out
  pub notices_exchanged : v.sleepers ≡ w.sleepers → v.tickers ≡ w.tickers → v.holder ≡ w.holder → v.picks ≡ cond (not w.flag) (w.picks + 1) w.picks → NoNoticeLost v
  notices_exchanged sleepers tickers holder picks = elim (cases_Bool w.flag) [
    | inl on ↦
        let same : v.picks ≡ w.picks = picks ∙ ap (λ b. cond (not b) (w.picks + 1) w.picks) on in
        let turned : Turned v = rw (sleepers, same, tickers, holder) (law.flag_law on) in
        let covers : Covers v = any_covered v (λ _ queued asleep. elim (or_cases (is_notified v.sleepers || nat_lt 0 v.picks) (holder_spends v.holder v.tickers) turned) [
          | inl other ↦ elim (or_cases (is_notified v.sleepers) (nat_lt 0 v.picks) other) [
            | inl notified ↦ or_left _ (is_obliged v) (some_in_use v.sleepers notified asleep)
            | inr out ↦ picked_obliges v (ltb-true 0 v.picks out) (some_notified v.sleepers)
          ]
          | inr spends ↦ obliges v (holder_obliges v spends) (some_notified v.sleepers)
        ]) in
        record { flag_law = λ _. turned; covered = covers.0; runs_covered = covers.1 }
    | inr off ↦
        let more : v.picks ≡ w.picks + 1 = picks ∙ ap (λ b. cond (not b) (w.picks + 1) w.picks) off in
        record {
          flag_law = λ _. or_left _ (holder_spends v.holder v.tickers) (or_right (is_notified v.sleepers) _ (positive v.picks (omega arith)));
          covered = λ _ _. picked_obliges v (omega arith) (some_notified v.sleepers);
          runs_covered = λ _ _ _. picked_obliges v (omega arith) (some_notified v.sleepers);
        }
  ]

  -- a pick was spent: the one who went to sleep last is notified, or another is already
  pub notices_notified : SleeperLaw w.sleepers → v.sleepers ≡ after_notify w.sleepers → NoNoticeLost v
  notices_notified lawful sleepers =
      record {
        flag_law = λ _. or_left _ (holder_spends v.holder v.tickers) (or_left _ (nat_lt 0 v.picks) (ap is_notified sleepers ∙ notified_after));
        covered = covers.0;
        runs_covered = covers.1;
      }
    where
      some_after : 0 < set.len w.sleepers.used → some_notified (after_notify w.sleepers) ≡ true
      some_after asleep = elim (cases_Bool (all_unnotified w.sleepers)) [
        | inl all ↦
            let same = eqb-true _ _ all in
            let fewer = length-take (length w.sleepers.unnotified - 1) w.sleepers.unnotified in
            lt-ltb _ _ (rw (all, fewer) (omega arith))
        | inr some ↦
            let other = eqb-false _ _ some in
            let most = lawful.within in
            lt-ltb _ _ (rw some (omega arith))
      ]

      notified_after : is_notified (after_notify w.sleepers) ≡ true
      notified_after = elim (cases_lt 0 (set.len w.sleepers.used)) [
        | inl asleep ↦ or_right _ _ (some_after asleep)
        | inr none ↦ or_left _ _ (eq-eqb (set.len w.sleepers.used) 0 (omega arith))
      ]

      covers : Covers v
      covers = any_covered v (λ _ queued asleep. or_left _ (is_obliged v) (ap some_notified sleepers ∙ some_after (subst (λ s. 0 < set.len s.used) sleepers asleep)))

-- what a step of a ticker at this number makes of the law, piece by piece
module _ {T : Type 0} (w v : Execution T) (law : NoNoticeLost w) (k : ℕ) (t u : Ticker) (found : slice_get w.tickers k ≡ Some t) (change : v.tickers ≡ slice_set w.tickers k u) where
  here : slice_get v.tickers k ≡ Some u
  here = ap (λ l. slice_get l k) change ∙ get-set_same w.tickers k u t found

  pub kept_is : kept_notices v + notices_in t.phase ≡ kept_notices w + notices_in u.phase
  kept_is = rw change (sum_by-set (λ (t : Ticker). notices_in t.phase) w.tickers k t u found)

  -- who has to search obliges somebody
  searching : has_to_search u.phase ≡ true → (b : Bool) → b || is_obliged v ≡ true
  searching seeks = searching_obliges v (rw change (any-set_true (λ (t : Ticker). has_to_search t.phase) w.tickers k t u found seeks))

  pub covered_searching : has_to_search u.phase ≡ true → Covers v
  covered_searching seeks = any_covered v (λ _ queued asleep. searching seeks (some_notified v.sleepers))

  -- a notice is out
  pub covered_noticed : 0 < notices_out v → Covers v
  covered_noticed out = any_covered v (λ _ queued asleep. noticed_obliges v out (some_notified v.sleepers))

  -- nothing is queued
  pub covered_empty : v.global ≡ [] → all_queues v ≡ [] → Covers v
  covered_empty none nothing = (λ queued asleep. absurd (queued none), λ runs queued asleep. absurd (queued nothing))

  -- nothing is queued for a tick
  pub covered_tick : v.global ≡ [] → is_run u ≡ false → Covers v
  covered_tick none tick = grind (arith, any-set_true)

  -- the ticker had nothing to search, and all else is as before, or more
  pub covered_quiet : StayEmpty w v → u.runner ≡ t.runner → v.picks ≡ w.picks → notices_out w ≤ notices_out v → has_to_search t.phase ≡ false → set.len v.sleepers.used ≤ set.len w.sleepers.used → (some_notified w.sleepers ≡ true → some_notified v.sleepers ≡ true) → Covers v
  covered_quiet stay runner picks more quiet fewer keeps = (
    again w.global v.global stay.global law.covered,
    λ runs. again (all_queues w) (all_queues v) stay.all (law.runs_covered (sym (ap not same_runs) ∙ subst (λ l. only_runs l ≡ true) change runs)),
  )
    where
      same_runs : list_any (λ (t : Ticker). not (is_run t)) (slice_set w.tickers k u) ≡ list_any (λ (t : Ticker). not (is_run t)) w.tickers
      same_runs = any-set_same (λ (t : Ticker). not (is_run t)) w.tickers k t u found (ap (λ o. not (is_some o)) runner)

      again : (before after : List ℕ) → (before ≡ [] → after ≡ []) → CoversQueued before w → CoversQueued after v
      again before after empty covers queued asleep =
          elim (or_cases (some_notified w.sleepers) (is_obliged w) (covers (λ none. queued (empty none)) (omega arith))) [
            | inl notified ↦ or_left _ (is_obliged v) (keeps notified)
            | inr obliged ↦ elim (obliged_by w obliged) [
              | inl notice ↦ noticed_obliges v (omega arith) (some_notified v.sleepers)
              | inr other ↦ elim other [
                | inl pick ↦ picked_obliges v (omega arith) (some_notified v.sleepers)
                | inr seeks ↦ elim (cases_Bool (has_to_search u.phase)) [
                  | inl now ↦ searching now (some_notified v.sleepers)
                  | inr never ↦ searching_obliges v (rw change (any-set_same (λ (t : Ticker). has_to_search t.phase) w.tickers k t u found (never ∙ sym quiet) ∙ seeks)) (some_notified v.sleepers)
                ]
              ]
            ]
          ]

  -- the ticker holds the lock, and has something to spend
  pub flag_held : v.holder ≡ Some k → has_to_spend u.phase ≡ true → FlagLaw v
  flag_held holder spends on = or_right (is_notified v.sleepers || nat_lt 0 v.picks) _ (rw (holder, here) spends)

  -- the flag is what the list says
  pub flag_stored : v.flag ≡ is_notified v.sleepers → FlagLaw v
  flag_stored says on = or_left _ (holder_spends v.holder v.tickers) (or_left _ (nat_lt 0 v.picks) (sym says ∙ on))

  -- the ticker does not hold the lock, and all else is as before
  pub flag_quiet : HolderStores w.holder w.tickers → in_store t.phase ≡ false → v.flag ≡ w.flag → is_notified v.sleepers ≡ is_notified w.sleepers → v.picks ≡ w.picks → v.holder ≡ w.holder → FlagLaw v
  flag_quiet stores apart flag notified picks holder on = rw (notified, picks, holder, change) (rw (by_holder w.holder refl) (law.flag_law (sym flag ∙ on)))
    where
      not_held : holds k w.holder ≡ false
      not_held = sym (stores k) ∙ ap (λ o. in_store (ticker_or o).phase) found ∙ apart

      by_holder : (h : Option ℕ) → w.holder ≡ h → holder_spends h (slice_set w.tickers k u) ≡ holder_spends h w.tickers
      by_holder None is = refl
      by_holder (Some q) is = elim (cases_eq q k) [
        | inl same ↦ absurd (true≢false (sym (eq-eqb q k same) ∙ sym (ap (holds k) is) ∙ not_held))
        | inr far ↦ ap (λ o. has_to_spend (ticker_or o).phase) (get-set_other w.tickers k q u far)
      ]

-- a ticker at rest was made
pub notices_added : {T : Type 0} (w v : Execution T) (runner : Option ℕ) → NoNoticeLost w → v.tickers ≡ w.tickers ++ new_ticker runner ∷ [] → v.flag ≡ w.flag → v.picks ≡ w.picks → v.notices ≡ w.notices → v.global ≡ w.global → v.locals ≡ w.locals → v.holder ≡ w.holder → v.sleepers.used ≡ w.sleepers.used → v.sleepers.unnotified ≡ w.sleepers.unnotified → NoNoticeLost v
notices_added {T} w v runner law tickers flag picks notices global locals holder used unnotified =
    let kept : kept_notices v ≡ kept_notices w = rw tickers (sum_by_push (λ (t : Ticker). notices_in t.phase) w.tickers (new_ticker runner) ∙ omega arith) in
    let seeks : some_search v ≡ some_search w = ap (list_any (λ (t : Ticker). has_to_search t.phase)) tickers ∙ any-push (λ (t : Ticker). has_to_search t.phase) w.tickers (new_ticker runner) refl in
    record {
      flag_law = λ on. rw (used, unnotified, picks, holder, tickers) (rw (by_holder w.holder) (law.flag_law (sym flag ∙ on)));
      covered = again kept seeks w.global v.global (λ none. global ∙ none) law.covered;
      runs_covered = λ runs. again kept seeks (all_queues w) (all_queues v) (λ none. rw (global, locals) none) (law.runs_covered (fewer (subst (λ l. only_runs l ≡ true) tickers runs)));
    }
  where
    again : kept_notices v ≡ kept_notices w → some_search v ≡ some_search w → (before after : List ℕ) → (before ≡ [] → after ≡ []) → CoversQueued before w → CoversQueued after v
    again kept seeks before after empty covers queued asleep = rw (used, unnotified, notices, kept, picks, seeks) (covers (λ none. queued (empty none)) (subst (λ u. 0 < set.len u) used asleep))

    fewer : only_runs (w.tickers ++ new_ticker runner ∷ []) ≡ true → only_runs w.tickers ≡ true
    fewer runs = elim (cases_Bool (list_any (λ (t : Ticker). not (is_run t)) w.tickers)) [
      | inl tick ↦ absurd (true≢false (sym runs ∙ ap not (list_any-append (λ (t : Ticker). not (is_run t)) w.tickers (new_ticker runner ∷ []) ∙ or_left _ _ tick)))
      | inr none ↦ ap not none
    ]

    by_holder : (h : Option ℕ) → holder_spends h (w.tickers ++ new_ticker runner ∷ []) ≡ holder_spends h w.tickers
    by_holder None = refl
    by_holder (Some q) = elim (cases_eq q (length w.tickers)) [
      | inl same ↦
          ap (λ j. has_to_spend (ticker_or (slice_get (w.tickers ++ new_ticker runner ∷ []) j)).phase) same ∙ ap (λ o. has_to_spend (ticker_or o).phase) (get-push_last w.tickers (new_ticker runner))
          ∙ sym (ap (λ j. has_to_spend (ticker_or (slice_get w.tickers j)).phase) same ∙ ap (λ o. has_to_spend (ticker_or o).phase) (get_past w.tickers))
      | inr far ↦ ap (λ o. has_to_spend (ticker_or o).phase) (get-push_other w.tickers (new_ticker runner) q far)
    ]

-- each ticker at rest was forgotten, while nobody held the lock
pub notices_forgotten : {T : Type 0} (w : Execution T) → NoNoticeLost w → w.holder ≡ None → NoNoticeLost (record w { tickers = map forgotten w.tickers })
notices_forgotten {T} w law free =
    let kept : kept_notices (record w { tickers = map forgotten w.tickers }) ≡ kept_notices w = sum_by-forgotten (λ p. notices_in p) refl w.tickers in
    let seeks : some_search (record w { tickers = map forgotten w.tickers }) ≡ some_search w = any-forgotten (λ t. has_to_search t.phase) (λ t. forgotten_same has_to_search refl t.phase) w.tickers in
    let runs : only_runs (map forgotten w.tickers) ≡ only_runs w.tickers = ap not (any-forgotten (λ t. not (is_run t)) (λ t. refl) w.tickers) in
    let spends : holder_spends w.holder (map forgotten w.tickers) ≡ holder_spends w.holder w.tickers = ap (λ h. holder_spends h (map forgotten w.tickers)) free ∙ sym (ap (λ h. holder_spends h w.tickers) free) in
    record {
      flag_law = λ on. rw spends (law.flag_law on);
      covered = λ queued asleep. rw (kept, seeks) (law.covered queued asleep);
      runs_covered = λ all queued asleep. rw (kept, seeks) (law.runs_covered (sym runs ∙ all) queued asleep);
    }

-- nobody sleeps before the first step
pub notices_opening : {T : Type 0} (w : Execution T) → w.sleepers ≡ no_sleepers → NoNoticeLost w
notices_opening w nobody = grind (arith, or_left, eq-eqb)
