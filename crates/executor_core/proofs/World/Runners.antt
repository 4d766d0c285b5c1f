-- The runs stay tied to their runners.
use Rattle.std.proofs.Common.{◌≡◌, ◌≢◌, ℕ, zero, suc, ◌+◌, ◌-◌, ◌<◌, Bool, true, false, not, ◌&&◌, ◌||◌, cond, inl, inr, List, [], ◌∷◌, ◌++◌, length, map, Option, Some, None, is_some, refl, sym, ap, subst, ◌∙◌, arith}
use Rattle.std.proofs.lemmas.Bool.{cases_Bool, cases_eq, cases_lt, le-ltb, eq-eqb, eqb-true, ne_eqb, lt-ltb, or_left, or_right, true≢false, false≢true}
use Rattle.std.proofs.lemmas.List.Sums.{sum_by-cons, sum_by_push}
use Rattle.std.specs.List.{list_any, position, position_or_len, remove}
use Rattle.std.specs.Prelude.{nat_lt, ◌==◌, set, slice_get, slice_set, count_by}
use Rattle.executor_core.specs.Cells.{Table}
use Rattle.executor_core.specs.Cells.Calls.{empty_table, with_queues, after_reserve_runner, after_register, after_unregister}
use Rattle.executor_core.specs.Cells.Law.{queues_of}
use Rattle.executor_core.specs.Queues.{RunnerQueue, is_runner, is_registered, entries_at, with_entries, unregistered_at}
use Rattle.executor_core.specs.Ring.{IdRing}
use Rattle.executor_core.specs.World.Runners.{new_ring, RunTied, QueueTied, RunnersTied}
use Rattle.executor_core.specs.World.Phases.{waits, is_run, needs_queue, new_ticker}
use Rattle.executor_core.specs.World.Tickers.{runner_of, is_new_run}
use Rattle.executor_core.proofs.ListLemmas.{set-here, length-slice_set, get-set_same, get-set_other, get-push_last, get-push_other, length-push, any-push, sum_by-set, sum_by-at}
use Rattle.executor_core.specs.declared.interleave.ticker.Ticker.{Ticker}

abbrev one : Bool → ℕ
one b = cond b 1 0

some_where : {X : Type 0} (b : Bool) (x : X) → is_some (cond b (Some x) None) ≡ b
some_where b x = grind arith

one_more : (n : ℕ) → 1 + n ≡ suc n
one_more n = omega arith

lt_suc : (a b : ℕ) → nat_lt (1 + a) (suc b) ≡ nat_lt a b
lt_suc a b = grind (arith, cases_lt, lt-ltb, le-ltb)

-- tests of the items of a list
module _ {X : Type 0} where
  count_same : (f g : X → Bool) (xs : List X) → ((j : ℕ) (y : X) → slice_get xs j ≡ Some y → f y ≡ g y) → count_by f xs ≡ count_by g xs
  count_same f g [] same = refl
  count_same f g (z ∷ zs) same =
      let rest = count_same f g zs (λ j y at. same (suc j) y at) in
      let here : ◌≡◌ {A = ℕ} (one (f z)) (one (g z)) = ap one (same 0 z refl) in
      let a = sum_by-cons (λ x. cond (f x) 1 0) z zs in
      let b = sum_by-cons (λ x. cond (g x) 1 0) z zs in
      omega arith

  -- two tests that differ at one item alone
  counts_but : (f g : X → Bool) (xs : List X) (k : ℕ) (x : X) → slice_get xs k ≡ Some x → ((j : ℕ) (y : X) → j ≢ k → slice_get xs j ≡ Some y → f y ≡ g y) → count_by f xs + one (g x) ≡ count_by g xs + one (f x)
  counts_but f g [] k x is others = absurd (cc)
  counts_but f g (z ∷ zs) zero x is others =
      let same : z ≡ x = cc in
      let rest = count_same f g zs (λ j y at. others (suc j) y (λ never. absurd (cc)) at) in
      let p : ◌≡◌ {A = ℕ} (one (f z)) (one (f x)) = ap (λ z. one (f z)) same in
      let q : ◌≡◌ {A = ℕ} (one (g z)) (one (g x)) = ap (λ z. one (g z)) same in
      let a = sum_by-cons (λ x. cond (f x) 1 0) z zs in
      let b = sum_by-cons (λ x. cond (g x) 1 0) z zs in
      omega arith
  counts_but f g (z ∷ zs) (suc k) x is others =
      let inner = counts_but f g zs k x is (λ j y far at. others (suc j) y (λ same. far (cc)) at) in
      let here : ◌≡◌ {A = ℕ} (one (f z)) (one (g z)) = ap one (others 0 z (λ never. absurd (cc)) refl) in
      let a = sum_by-cons (λ x. cond (f x) 1 0) z zs in
      let b = sum_by-cons (λ x. cond (g x) 1 0) z zs in
      omega arith

  -- a removed item failed the test
  any-remove : (f : X → Bool) (xs : List X) (i : ℕ) (x : X) → slice_get xs i ≡ Some x → f x ≡ false → list_any f (remove xs i) ≡ list_any f xs
  any-remove f [] i x is fails = absurd (cc)
  any-remove f (z ∷ zs) zero x is fails = let same : z ≡ x = cc in sym (ap (λ b. b || list_any f zs) (ap f same ∙ fails))
  any-remove f (z ∷ zs) (suc i) x is fails = ap (λ b. f z || b) (any-remove f zs i x is fails)

  pub get-remove : (xs : List X) (i j : ℕ) (x : X) → slice_get (remove xs i) j ≡ Some x → (k : ℕ) × (slice_get xs k ≡ Some x)
  get-remove [] zero j x is = absurd (cc)
  get-remove [] (suc i) j x is = absurd (cc)
  get-remove (z ∷ zs) zero j x is = (suc j, is)
  get-remove (z ∷ zs) (suc i) zero x is = (0, is)
  get-remove (z ∷ zs) (suc i) (suc j) x is = let inner = get-remove zs i j x is in (suc inner.0, inner.1)

  -- the first item that passes
  position_within : (f : X → Bool) (xs : List X) → nat_lt (position_or_len f xs) (length xs) ≡ list_any f xs
  position_within f [] = refl
  position_within f (z ∷ zs) = grind (arith, position_within f zs, cases_Bool, lt-ltb, lt_suc)

  pub position_any : (f : X → Bool) (xs : List X) → is_some (position f xs) ≡ list_any f xs
  position_any f xs = some_where (nat_lt (position_or_len f xs) (length xs)) (position_or_len f xs) ∙ position_within f xs

  first_at : (f : X → Bool) (xs : List X) → list_any f xs ≡ true → (x : X) × (slice_get xs (position_or_len f xs) ≡ Some x) × (f x ≡ true)
  first_at f [] some = absurd (cc)
  first_at f (z ∷ zs) some = elim (cases_Bool (f z)) [
    | inl passes ↦ (z, ap (λ b. slice_get (z ∷ zs) (cond (not b) (1 + position_or_len f zs) 0)) passes, passes)
    | inr fails ↦ let inner = first_at f zs (ap (λ b. b || list_any f zs) (sym fails) ∙ some) in (inner.0, ap (λ b. slice_get (z ∷ zs) (cond (not b) (1 + position_or_len f zs) 0)) fails ∙ ap (slice_get (z ∷ zs)) (one_more (position_or_len f zs)) ∙ inner.1, inner.2)
  ]

  pub position_at : (f : X → Bool) (xs : List X) → is_some (position f xs) ≡ true → (i : ℕ) × (x : X) × (position f xs ≡ Some i) × (slice_get xs i ≡ Some x) × (f x ≡ true)
  position_at f xs some = grind (arith, position_any, first_at, position_within)

-- the queues of the runners, without what stands in them
abbrev shape : RunnerQueue ℕ → ℕ × ℕ
shape q = (q.runner, q.capacity)

abbrev pub shapes : List (RunnerQueue ℕ) → List (ℕ × ℕ)
shapes locals = map shape locals

any-shapes : (k : ℕ) (locals : List (RunnerQueue ℕ)) → list_any (is_runner k) locals ≡ list_any (λ p. p.0 == k) (shapes locals)
any-shapes k [] = refl
any-shapes k (q ∷ qs) = ap (λ b. (q.runner == k) || b) (any-shapes k qs)

pub registered_shapes : (k : ℕ) (locals later : List (RunnerQueue ℕ)) → shapes later ≡ shapes locals → is_registered k later ≡ is_registered k locals
registered_shapes k locals later same =
    position_any (is_runner k) later ∙ any-shapes k later ∙ ap (list_any (λ p. p.0 == k)) same ∙ sym (any-shapes k locals) ∙ sym (position_any (is_runner k) locals)

pub shape_at : (locals later : List (RunnerQueue ℕ)) → shapes later ≡ shapes locals → (i : ℕ) (q : RunnerQueue ℕ) → slice_get later i ≡ Some q → (p : RunnerQueue ℕ) × (slice_get locals i ≡ Some p) × (shape q ≡ shape p)
shape_at [] [] same i q is = absurd (cc)
shape_at [] (y ∷ ys) same i q is = absurd (cc)
shape_at (x ∷ xs) [] same i q is = absurd (cc)
shape_at (x ∷ xs) (y ∷ ys) same zero q is = let it : y ≡ q = cc in (x, refl, sym (ap shape it) ∙ cc)
shape_at (x ∷ xs) (y ∷ ys) same (suc i) q is = shape_at xs ys (cc) i q is

shapes-set : (locals : List (RunnerQueue ℕ)) (r : ℕ) (entries : List ℕ) (q : RunnerQueue ℕ) → slice_get locals r ≡ Some q → shapes (set locals r (record q { entries = entries })) ≡ shapes locals
shapes-set [] r entries q is = absurd (cc)
shapes-set (x ∷ xs) zero entries q is = let it : x ≡ q = cc in ap (λ q. shape q ∷ shapes xs) (sym it)
shapes-set (x ∷ xs) (suc r) entries q is = ap (λ l. shape x ∷ l) (shapes-set xs r entries q is)

pub shapes_with : (locals : List (RunnerQueue ℕ)) (r : ℕ) (entries : List ℕ) → shapes (with_entries r entries locals) ≡ shapes locals
shapes_with locals r entries = grind (arith, shapes-set)

-- what a call on a task leaves as it is: the queues of the runners, their places, and whether the table was closed
module _ {P T W : Type 0} where
  abbrev pub fixed_part : Table P T W → List (RunnerQueue ℕ) × (ℕ × (ℕ × Bool))
  fixed_part table = (table.locals, (table.next_runner, (table.free_places, table.closed)))

-- if that is as it was, so is each part of it
module _ {later table : List (RunnerQueue ℕ) × (ℕ × (ℕ × Bool))} (same : later ≡ table) where
  pub same_locals : later.0 ≡ table.0
  same_locals = ap (λ p. p.0) same

  pub same_closed : later.1.1.1 ≡ table.1.1.1
  same_closed = ap (λ p. p.1.1.1) same

-- a runner was registered, or unregistered: the others are as before
pub registered_push : (k : ℕ) (locals : List (RunnerQueue ℕ)) (q : RunnerQueue ℕ) → q.runner ≢ k → is_registered k (locals ++ q ∷ []) ≡ is_registered k locals
registered_push k locals q other = position_any (is_runner k) (locals ++ q ∷ []) ∙ any-push (is_runner k) locals q (ne_eqb q.runner k other) ∙ sym (position_any (is_runner k) locals)

pub registered_now : (k : ℕ) (locals : List (RunnerQueue ℕ)) (q : RunnerQueue ℕ) → q.runner ≡ k → is_registered k (locals ++ q ∷ []) ≡ true
registered_now k locals q same = position_any (is_runner k) (locals ++ q ∷ []) ∙ pushed locals
  where
    pushed : (xs : List (RunnerQueue ℕ)) → list_any (is_runner k) (xs ++ q ∷ []) ≡ true
    pushed [] = or_left _ false (eq-eqb q.runner k same)
    pushed (x ∷ xs) = or_right (is_runner k x) _ (pushed xs)

pub registered_remove : (k : ℕ) (locals : List (RunnerQueue ℕ)) (i : ℕ) (q : RunnerQueue ℕ) → slice_get locals i ≡ Some q → q.runner ≢ k → is_registered k (remove locals i) ≡ is_registered k locals
registered_remove k locals i q is other = position_any (is_runner k) (remove locals i) ∙ any-remove (is_runner k) locals i q is (ne_eqb q.runner k other) ∙ sym (position_any (is_runner k) locals)

-- what a run is by its runner
pub run_is : (t : Ticker) (r : ℕ) → t.runner ≡ Some r → (locals : List (RunnerQueue ℕ)) → is_new_run locals t ≡ waits t.phase && not (is_registered r locals)
run_is t r is locals = rw is refl

pub not_run : (t : Ticker) → t.runner ≡ None → (locals : List (RunnerQueue ℕ)) → is_new_run locals t ≡ false
not_run t is locals = rw is refl

runner_same : (t : Ticker) (r s : ℕ) → t.runner ≡ Some r → t.runner ≡ Some s → r ≡ s
runner_same t r s is also = cc (sym is, also)

-- which tickers are no new runs: one that is not at rest, a tick, and one whose runner is registered
pub restless_not_new : (locals : List (RunnerQueue ℕ)) (t : Ticker) → waits t.phase ≡ false → is_new_run locals t ≡ false
restless_not_new locals t goes = grind arith

pub queued_not_new : (locals : List (RunnerQueue ℕ)) (t : Ticker) → ((r : ℕ) → t.runner ≡ Some r → is_registered r locals ≡ true) → is_new_run locals t ≡ false
queued_not_new locals t queued = grind (arith, not_run, run_is)

-- what a step of the ticker at k makes of the tie
module _ {P T W : Type 0} {local : ℕ} {tickers : List Ticker} {table : Table P T W} {rings : List (Option IdRing)} (tied : RunnersTied local tickers table rings) where
  -- a place is free for a new run
  pub new_places : (k : ℕ) (t : Ticker) → slice_get tickers k ≡ Some t → is_new_run table.locals t ≡ true → 0 < table.free_places
  new_places k t found new = grind (arith, sum_by-at)

  module _ (k : ℕ) (t u : Ticker) (found : slice_get tickers k ≡ Some t) (same : u.runner ≡ t.runner) where
    -- each ticker then has the runner of one before
    before_set : (j : ℕ) (x : Ticker) → slice_get (slice_set tickers k u) j ≡ Some x → (y : Ticker) × (slice_get tickers j ≡ Some y) × (x.runner ≡ y.runner)
    before_set j x is = grind (arith, cases_eq, get-set_same, get-set_other)

    -- what has to hold of the change
    pub record RunnersChange (later : Table P T W) (anew : List (Option IdRing)) : Type 0 where
      pub next : later.next_runner ≡ table.next_runner
      pub long : length anew ≡ length rings
      pub others : (r : ℕ) → t.runner ≢ Some r → (is_registered r later.locals ≡ is_registered r table.locals) × (slice_get anew r ≡ slice_get rings r)
      pub mine : (r : ℕ) → t.runner ≡ Some r → RunTied local u r later anew
      pub queues : (i : ℕ) (q : RunnerQueue ℕ) → slice_get later.locals i ≡ Some q → QueueTied local q table
      pub places : later.free_places + one (is_new_run table.locals t) ≡ table.free_places + one (is_new_run later.locals u)

    new_other : {later : Table P T W} {anew : List (Option IdRing)} → RunnersChange later anew → (j : ℕ) (x : Ticker) → j ≢ k → slice_get tickers j ≡ Some x → is_new_run later.locals x ≡ is_new_run table.locals x
    new_other {later} change j x far at = by_runner x.runner refl
      where
        by_runner : (o : Option ℕ) → x.runner ≡ o → is_new_run later.locals x ≡ is_new_run table.locals x
        by_runner None is = not_run x is later.locals ∙ sym (not_run x is table.locals)
        by_runner (Some r) is =
            let other = (change.others r (λ mine. far (tied.once j k x t r at found is mine))).0 in
            run_is x r is later.locals ∙ ap (λ b. waits x.phase && not b) other ∙ sym (run_is x r is table.locals)

    pub runners_again : {later : Table P T W} {anew : List (Option IdRing)} → RunnersChange later anew → RunnersTied local (slice_set tickers k u) later anew
    runners_again {later} {anew} change =
        record {
          roomy = tied.roomy;
          runners =
              let set = sum_by-set (λ (t : Ticker). one (is_run t)) tickers k t u found in
              let as_before : ◌≡◌ {A = ℕ} (one (is_run u)) (one (is_run t)) = ap (λ (o : Option ℕ). one (is_some o)) same in
              let before = tied.runners in
              let next = change.next in
              omega arith;
          kept = change.long ∙ tied.kept ∙ sym change.next;
          runs = λ j x r at is. elim (cases_eq j k) [
            | inl here ↦
                let it : u ≡ x = cc (sym (get-set_same tickers k u t found), sym (ap (λ j. slice_get (slice_set tickers k u) j) here), at) in
                subst (λ (x : Ticker). RunTied local x r later anew) it (change.mine r (sym same ∙ ap (λ (t : Ticker). t.runner) it ∙ is))
            | inr far ↦
                let at : slice_get tickers j ≡ Some x = sym (get-set_other tickers k j u far) ∙ at in
                let before = tied.runs j x r at is in
                let other = change.others r (λ mine. far (tied.once j k x t r at found is mine)) in
                let new = new_other change j x far at in
                record {
                  made = subst (λ n. r < n) (sym change.next) before.made;
                  registered = λ needs. other.0 ∙ before.registered needs;
                  awake = λ fresh. before.awake (sym new ∙ fresh);
                  ring = λ fresh. other.1 ∙ before.ring (sym new ∙ fresh);
                }
          ];
          once = λ i j x y r at_i at_j is_x is_y.
              let b = before_set i x at_i in
              let c = before_set j y at_j in
              tied.once i j b.0 c.0 r b.1 c.1 (sym b.2 ∙ is_x) (sym c.2 ∙ is_y);
          queues = λ i q at. let before = change.queues i q at in record { made = subst (λ n. q.runner < n) (sym change.next) before.made; places = before.places };
          places =
              let set = sum_by-set (λ (t : Ticker). one (is_new_run later.locals t)) tickers k t u found in
              let but = counts_but (is_new_run later.locals) (is_new_run table.locals) tickers k t found (new_other change) in
              let before = tied.places in
              let places = change.places in
              omega arith;
        }

    -- it is a tick, or its runner is registered, and it goes on
    pub runners_queued : ((r : ℕ) → t.runner ≡ Some r → is_registered r table.locals ≡ true) → RunnersTied local (slice_set tickers k u) table rings
    runners_queued queued =
        runners_again (record {
          next = refl;
          long = refl;
          others = λ r other. (refl, refl);
          mine = λ r is.
              record {
                made = (tied.runs k t r found is).made;
                registered = λ needs. queued r is;
                awake = λ fresh. absurd (true≢false (sym fresh ∙ never u same));
                ring = λ fresh. absurd (true≢false (sym fresh ∙ never u same));
              };
          queues = tied.queues;
          places = rw (never t refl, never u same) refl;
        })
      where
        never : (x : Ticker) → x.runner ≡ t.runner → is_new_run table.locals x ≡ false
        never x alike = queued_not_new table.locals x (λ r is. queued r (sym alike ∙ is))

    -- it goes, and was not new
    pub runners_gone : is_new_run table.locals t ≡ false → waits u.phase ≡ false → needs_queue u.phase ≡ false → RunnersTied local (slice_set tickers k u) table rings
    runners_gone old goes leaves =
        let never = restless_not_new table.locals u goes in
        runners_again (record {
          next = refl;
          long = refl;
          others = λ r other. (refl, refl);
          mine = λ r is.
              record {
                made = (tied.runs k t r found is).made;
                registered = λ needs. absurd (true≢false (sym needs ∙ leaves));
                awake = λ fresh. absurd (true≢false (sym fresh ∙ never));
                ring = λ fresh. absurd (true≢false (sym fresh ∙ never));
              };
          queues = tied.queues;
          places = rw (old, never) refl;
        })

    -- it goes, and was new: its runner's place is given back
    pub runners_dropped : is_new_run table.locals t ≡ true → waits u.phase ≡ false → needs_queue u.phase ≡ false → {later : Table P T W} → later ≡ record table { free_places = table.free_places - 1 } → RunnersTied local (slice_set tickers k u) later rings
    runners_dropped new goes leaves {later} is_later =
        let never = restless_not_new table.locals u goes in
        let more = new_places k t found new in
        rw is_later (runners_again {later = record table { free_places = table.free_places - 1 }} (record {
          next = refl;
          long = refl;
          others = λ r other. (refl, refl);
          mine = λ r is.
              record {
                made = (tied.runs k t r found is).made;
                registered = λ needs. absurd (true≢false (sym needs ∙ leaves));
                awake = λ fresh. absurd (true≢false (sym fresh ∙ never));
                ring = λ fresh. absurd (true≢false (sym fresh ∙ never));
              };
          queues = λ i q at. let before = tied.queues i q at in record { made = before.made; places = before.places };
          places = rw (new, never) (omega arith);
        }))

  -- a new run registers its runner, with its ring
  pub runners_registered : (k : ℕ) (t : Ticker) (r : ℕ) → slice_get tickers k ≡ Some t → t.runner ≡ Some r → is_new_run table.locals t ≡ true → RunnersTied local tickers (after_register table r local) (slice_set rings r None)
  runners_registered k t r found is new =
      let q : RunnerQueue ℕ = record { runner = r; entries = []; capacity = local } in
      let later : Table P T W = after_register table r local in
      let more = new_places k t found new in
      let now : is_registered r later.locals ≡ true = registered_now r table.locals q refl in
      let old : is_new_run later.locals t ≡ false = queued_not_new later.locals t (λ s same. ap (λ s. is_registered s later.locals) (runner_same t s r same is) ∙ now) in
      subst (λ l. RunnersTied local l later (slice_set rings r None)) (set-here tickers k t found) (runners_again k t t found refl {later = later} {anew = slice_set rings r None} (record {
        next = refl;
        long = length-slice_set rings r None;
        others = λ s other. (registered_push s table.locals q (λ same. other (is ∙ ap Some same)), get-set_other rings r s None (λ same. other (is ∙ ap Some (sym same))));
        mine = λ s same.
            record {
              made = (tied.runs k t s found same).made;
              registered = λ needs. ap (λ s. is_registered s later.locals) (runner_same t s r same is) ∙ now;
              awake = λ fresh. absurd (true≢false (sym fresh ∙ old));
              ring = λ fresh. absurd (true≢false (sym fresh ∙ old));
            };
        queues = λ i x at. elim (cases_eq i (length table.locals)) [
          | inl last ↦
              let it : q ≡ x = cc (sym (get-push_last table.locals q), sym (ap (λ j. slice_get later.locals j) last), at) in
              subst (λ (x : RunnerQueue ℕ). QueueTied local x table) it (record { made = (tied.runs k t r found is).made; places = refl })
          | inr far ↦ tied.queues i x (sym (get-push_other table.locals q i far) ∙ at)
        ];
        places = rw (new, old) (omega arith);
      }))

  -- a run at rest unregisters its runner, and goes
  pub runners_unregistered : (k : ℕ) (t u : Ticker) (r : ℕ) → slice_get tickers k ≡ Some t → u.runner ≡ t.runner → t.runner ≡ Some r → waits u.phase ≡ false → needs_queue u.phase ≡ false → is_registered r table.locals ≡ true → RunnersTied local (slice_set tickers k u) (after_unregister table r) rings
  runners_unregistered k t u r found same is goes leaves there =
      let at = position_at (is_runner r) table.locals there in
      let runner = eqb-true at.1.runner r at.4 in
      let later : Table P T W = record table { global = table.global ++ entries_at at.0 table.locals; locals = remove table.locals at.0 } in
      let gone : after_unregister table r ≡ later = ap (λ o. let x : Table P T W = with_queues (unregistered_at o (queues_of table)) table in x) at.2 in
      let old : is_new_run table.locals t ≡ false = queued_not_new table.locals t (λ s also. ap (λ s. is_registered s table.locals) (runner_same t s r also is) ∙ there) in
      let never : is_new_run later.locals u ≡ false = restless_not_new later.locals u goes in
      rw gone (runners_again k t u found same {later = later} {anew = rings} (record {
        next = refl;
        long = refl;
        others = λ s other. (registered_remove s table.locals at.0 at.1 at.3 (λ alike. other (is ∙ ap Some (sym runner ∙ alike))), refl);
        mine = λ s also.
            record {
              made = (tied.runs k t s found also).made;
              registered = λ needs. absurd (true≢false (sym needs ∙ leaves));
              awake = λ fresh. absurd (true≢false (sym fresh ∙ never));
              ring = λ fresh. absurd (true≢false (sym fresh ∙ never));
            };
        queues = λ i x got. let was = get-remove table.locals at.0 i x got in tied.queues was.0 x was.1;
        places = rw (old, never) refl;
      }))

  -- the queues were made anew, with the same runners and places
  pub runners_shaped : {later : Table P T W} → shapes later.locals ≡ shapes table.locals → later.next_runner ≡ table.next_runner → later.free_places ≡ table.free_places → RunnersTied local tickers later rings
  runners_shaped {later} shape next free =
      record {
        roomy = tied.roomy;
        runners = next ∙ tied.runners;
        kept = tied.kept ∙ sym next;
        runs = λ k t r at is.
            let before = tied.runs k t r at is in
            let new = same_new t in
            record {
              made = subst (λ n. r < n) (sym next) before.made;
              registered = λ needs. registered_shapes r table.locals later.locals shape ∙ before.registered needs;
              awake = λ fresh. before.awake (sym new ∙ fresh);
              ring = λ fresh. before.ring (sym new ∙ fresh);
            };
        once = tied.once;
        queues = λ i q at.
            let p = shape_at table.locals later.locals shape i q at in
            let before = tied.queues i p.0 p.1 in
            record { made = subst (λ n. q.runner < n) (sym next) (subst (λ (s : ℕ × ℕ). s.0 < table.next_runner) (sym p.2) before.made); places = ap (λ (s : ℕ × ℕ). s.1) p.2 ∙ before.places };
        places = free ∙ tied.places ∙ count_same (is_new_run table.locals) (is_new_run later.locals) tickers (λ j x at. sym (same_new x));
      }
    where
      same_new : (t : Ticker) → is_new_run later.locals t ≡ is_new_run table.locals t
      same_new t = ap (λ b. is_run t && waits t.phase && not b) (registered_shapes (runner_of t) table.locals later.locals shape)

  -- a runner that is still to be made is not registered
  pub next_fresh : is_registered table.next_runner table.locals ≡ false
  next_fresh = grind (arith, cases_Bool, position_at, eqb-true)

  -- a ticker was made
  pub record RunnersPush (u : Ticker) (later : Table P T W) (anew : List (Option IdRing)) : Type 0 where
    pub locals : later.locals ≡ table.locals
    pub next : later.next_runner ≡ table.next_runner + one (is_run u)
    pub long : length anew ≡ later.next_runner
    pub kept : (r : ℕ) → r < table.next_runner → slice_get anew r ≡ slice_get rings r
    pub runner : (r : ℕ) → u.runner ≡ Some r → (r ≡ table.next_runner) × RunTied local u r later anew
    pub places : later.free_places ≡ table.free_places + one (is_new_run table.locals u)

  pub runners_pushed : (u : Ticker) {later : Table P T W} {anew : List (Option IdRing)} → RunnersPush u later anew → RunnersTied local (tickers ++ u ∷ []) later anew
  runners_pushed u {later} {anew} push =
      record {
        roomy = tied.roomy;
        runners = let counts = sum_by_push (λ (t : Ticker). one (is_run t)) tickers u in let before = tied.runners in let next = push.next in omega arith;
        kept = push.long;
        runs = λ j x r at is. elim (cases_eq j (length tickers)) [
          | inl last ↦ subst (λ (x : Ticker). RunTied local x r later anew) (it_is j x last at) (push.runner r (ap (λ (t : Ticker). t.runner) (it_is j x last at) ∙ is)).1
          | inr far ↦
              let before = tied.runs j x r (sym (get-push_other tickers u j far) ∙ at) is in
              let next = push.next in
              let made = before.made in
              record {
                made = omega arith;
                registered = λ needs. ap (is_registered r) push.locals ∙ before.registered needs;
                awake = λ fresh. before.awake (ap (λ l. is_new_run l x) (sym push.locals) ∙ fresh);
                ring = λ fresh. push.kept r made ∙ before.ring (ap (λ l. is_new_run l x) (sym push.locals) ∙ fresh);
              }
        ];
        once = λ i j x y r at_i at_j is_x is_y. elim (cases_eq i (length tickers)) [
          | inl i_last ↦ elim (cases_eq j (length tickers)) [
            | inl j_last ↦ i_last ∙ sym j_last
            | inr j_far ↦
                let new = (push.runner r (ap (λ (t : Ticker). t.runner) (it_is i x i_last at_i) ∙ is_x)).0 in
                let old = (tied.runs j y r (sym (get-push_other tickers u j j_far) ∙ at_j) is_y).made in
                absurd (omega arith)
          ]
          | inr i_far ↦
              let old_i = sym (get-push_other tickers u i i_far) ∙ at_i in
              elim (cases_eq j (length tickers)) [
                | inl j_last ↦
                    let new = (push.runner r (ap (λ (t : Ticker). t.runner) (it_is j y j_last at_j) ∙ is_y)).0 in
                    let old = (tied.runs i x r old_i is_x).made in
                    absurd (omega arith)
                | inr j_far ↦ tied.once i j x y r old_i (sym (get-push_other tickers u j j_far) ∙ at_j) is_x is_y
              ]
        ];
        queues = λ i q at. let before = tied.queues i q (ap (λ l. slice_get l i) (sym push.locals) ∙ at) in let next = push.next in let made = before.made in record { made = omega arith; places = before.places };
        places =
            let counts = sum_by_push (λ (t : Ticker). one (is_new_run later.locals t)) tickers u in
            let before = tied.places in
            let places = push.places in
            let same : count_by (is_new_run later.locals) tickers ≡ count_by (is_new_run table.locals) tickers = ap (λ l. count_by (is_new_run l) tickers) push.locals in
            let new : ◌≡◌ {A = ℕ} (one (is_new_run later.locals u)) (one (is_new_run table.locals u)) = ap (λ l. one (is_new_run l u)) push.locals in
            omega arith;
      }
    where
      it_is : (j : ℕ) (x : Ticker) → j ≡ length tickers → slice_get (tickers ++ u ∷ []) j ≡ Some x → u ≡ x
      it_is j x last at = cc (sym (get-push_last tickers u), sym (ap (λ j. slice_get (tickers ++ u ∷ []) j) last), at)

  pub runners_ticked : RunnersTied local (tickers ++ new_ticker None ∷ []) table rings
  runners_ticked = runners_pushed (new_ticker None) (record { locals = refl; next = omega arith; long = tied.kept; kept = λ r below. refl; runner = λ r is. absurd (cc); places = omega arith })

  -- the new run's runner is the next one
  pub runners_run : RunnersTied local (tickers ++ new_ticker (Some table.next_runner) ∷ []) (after_reserve_runner table) (rings ++ Some (new_ring local) ∷ [])
  runners_run =
      let fresh : is_new_run table.locals (new_ticker (Some table.next_runner)) ≡ true = ap not next_fresh in
      runners_pushed (new_ticker (Some table.next_runner)) (record {
        locals = refl;
        next = refl;
        long = let more = length-push rings (Some (new_ring local)) in let kept = tied.kept in omega arith;
        kept = λ r below. get-push_other rings (Some (new_ring local)) r (λ last. let kept = tied.kept in absurd (omega arith));
        runner = λ r is.
            let same : r ≡ table.next_runner = cc in (
              same,
              record {
                made = omega arith;
                registered = λ needs. absurd (false≢true needs);
                awake = λ _. refl;
                ring = λ _. ap (slice_get (rings ++ Some (new_ring local) ∷ [])) (same ∙ sym tied.kept) ∙ get-push_last rings (Some (new_ring local));
              },
            );
        places = rw fresh refl;
      })

  -- a new run is awake
  pub new_awake : (k : ℕ) (t : Ticker) → slice_get tickers k ≡ Some t → is_new_run table.locals t ≡ true → t.number ≡ 0
  new_awake k t found new = by_runner t.runner refl
    where
      by_runner : (o : Option ℕ) → t.runner ≡ o → t.number ≡ 0
      by_runner None is = absurd (true≢false (sym new ∙ not_run t is table.locals))
      by_runner (Some r) is = (tied.runs k t r found is).awake new

  pub runners_same : {later : Table P T W} → fixed_part later ≡ fixed_part table → RunnersTied local tickers later rings
  runners_same same = runners_shaped (ap (λ p. shapes p.0) same) (ap (λ p. p.1.0) same) (ap (λ p. p.1.1.0) same)

-- before the first step
pub runners_opening : {P T W : Type 0} (local : ℕ) → 0 < local → RunnersTied {P = P} {T = T} {W = W} local [] (empty_table 0) []
runners_opening local roomy = grind arith
