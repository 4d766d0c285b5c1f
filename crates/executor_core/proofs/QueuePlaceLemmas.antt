-- The runners of the queues: at which position one stands, and that each stands at one.
use Rattle.std.proofs.Common.{◌≡◌, ◌≢◌, ℕ, zero, suc, ◌+◌, ◌⊎◌, inl, inr, cond, List, [], ◌∷◌, ◌++◌, length, Option, Some, None, refl, sym, ap, ◌∙◌, arith}
use Rattle.std.proofs.lemmas.Bool.{eqb-true, eq-eqb, ne_eqb, cases_eq}
use Rattle.std.proofs.lemmas.Option.{slice_get-map, slice_get-get_or}
use Rattle.std.proofs.lemmas.List.Quantifiers.{position-Some}
use Rattle.std.proofs.lemmas.Iterator.Adapters.{position_from-zero}
use Rattle.std.specs.Prelude.{◌==◌, option_map, slice_get}
use Rattle.std.specs.List.{position, position_from, remove}
use Rattle.executor_core.specs.Queues.{RunnerQueue, position_of}
use Rattle.executor_core.specs.Queues.View.{AllDistinct, runners_of}
use Rattle.executor_core.specs.declared.task.cell.TaskId.{TaskId}
use Rattle.executor_core.proofs.ListLemmas.{get-push_last, get-push_other}
use Rattle.executor_core.proofs.QueueLemmas.{position-map}

-- a number in a list of numbers
is_there : (numbers : List ℕ) (n i : ℕ) → position (λ m. m == n) numbers ≡ Some i → slice_get numbers i ≡ Some n
is_there numbers n i is =
    let parts = position-Some (λ m. m == n) numbers i 0 is in
    slice_get-get_or numbers i 0 parts.0 ∙ ap Some (eqb-true _ n parts.1)

is_absent : (numbers : List ℕ) (n start i : ℕ) → position_from (λ m. m == n) start numbers ≡ None → slice_get numbers i ≢ Some n
is_absent [] n start i none is = absurd (cc)
is_absent (m ∷ rest) n start zero none is = grind (arith, eq-eqb)
is_absent (m ∷ rest) n start (suc i) none is =
    elim (cases_eq m n) [
      | inl same ↦
          let here : cond (m == n) (Some start) (position_from (λ l. l == n) (start + 1) rest) ≡ Some start = ap (λ b. cond b (Some start) (position_from (λ l. l == n) (start + 1) rest)) (eq-eqb m n same) in
          absurd (cc)
      | inr far ↦ is_absent rest n (start + 1) i (sym (ap (λ b. cond b (Some start) (position_from (λ l. l == n) (start + 1) rest)) (ne_eqb m n far)) ∙ none) is
    ]

absent : (numbers : List ℕ) (n i : ℕ) → position (λ m. m == n) numbers ≡ None → slice_get numbers i ≢ Some n
absent numbers n i none = is_absent numbers n 0 i (sym (position_from-zero (λ m. m == n) numbers) ∙ none)

first_position : (numbers : List ℕ) (n i : ℕ) (o : Option ℕ) → AllDistinct numbers → slice_get numbers i ≡ Some n → position (λ m. m == n) numbers ≡ o → o ≡ Some i
first_position numbers n i None distinct is none = absurd (absent numbers n i none is)
first_position numbers n i (Some j) distinct is found = ap Some (distinct j i n (is_there numbers n j found) is)

-- where it stands after one goes
shifted : ℕ → ℕ → ℕ
shifted zero i = suc i
shifted (suc r) zero = zero
shifted (suc r) (suc i) = suc (shifted r i)

shifted-same : (r i j : ℕ) → shifted r i ≡ shifted r j → i ≡ j
unfolding shifted
shifted-same zero i j same = omega arith
shifted-same (suc r) zero zero same = refl
shifted-same (suc r) zero (suc j) same = absurd (omega arith)
shifted-same (suc r) (suc i) zero same = absurd (omega arith)
shifted-same (suc r) (suc i) (suc j) same = ap suc (shifted-same r i j (omega arith))

get-remove : {X : Type 0} (xs : List X) (r i : ℕ) → slice_get (remove xs r) i ≡ slice_get xs (shifted r i)
unfolding shifted
get-remove [] zero i = refl
get-remove [] (suc r) i = refl
get-remove (x ∷ xs) zero i = refl
get-remove (x ∷ xs) (suc r) zero = refl
get-remove (x ∷ xs) (suc r) (suc i) = get-remove xs r i

pub distinct-remove : (numbers : List ℕ) (r : ℕ) → AllDistinct numbers → AllDistinct (remove numbers r)
distinct-remove numbers r distinct i j n a b = shifted-same r i j (distinct (shifted r i) (shifted r j) n (sym (get-remove numbers r i) ∙ a) (sym (get-remove numbers r j) ∙ b))

pushed_at : (numbers : List ℕ) (n i m : ℕ) → slice_get (numbers ++ n ∷ []) i ≡ Some m → ((i ≡ length numbers) × (m ≡ n)) ⊎ (slice_get numbers i ≡ Some m)
pushed_at numbers n i m is = grind (arith, cases_eq, get-push_last, get-push_other)

pub distinct-push : (numbers : List ℕ) (n : ℕ) → AllDistinct numbers → position (λ m. m == n) numbers ≡ None → AllDistinct (numbers ++ n ∷ [])
distinct-push numbers n distinct none i j m a b = grind (arith, pushed_at, absent)

-- the same of runners
runner_position : (k : ℕ) (locals : List (RunnerQueue TaskId)) → position (λ m. m == k) (runners_of locals) ≡ position_of k locals
runner_position k locals = position-map (λ (q : RunnerQueue TaskId). q.runner) (λ m. m == k) locals

pub none_registered : (k : ℕ) (locals : List (RunnerQueue TaskId)) → position_of k locals ≡ None → position (λ m. m == k) (runners_of locals) ≡ None
none_registered k locals none = runner_position k locals ∙ none

pub position_of_place : (k i : ℕ) (locals : List (RunnerQueue TaskId)) (q : RunnerQueue TaskId) → AllDistinct (runners_of locals) → slice_get locals i ≡ Some q → q.runner ≡ k → position_of k locals ≡ Some i
position_of_place k i locals q distinct is same =
    sym (runner_position k locals) ∙ first_position (runners_of locals) k i (position (λ m. m == k) (runners_of locals)) distinct (slice_get-map (λ (l : RunnerQueue TaskId). l.runner) locals i ∙ ap (option_map (λ (l : RunnerQueue TaskId). l.runner)) is ∙ ap Some same) refl
