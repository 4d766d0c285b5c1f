-- What forgetting the tickers at rest leaves as it is.
use Rattle.std.proofs.Common.{◌≡◌, ℕ, zero, suc, ◌+◌, ◌||◌, Bool, true, false, not, cond, List, [], ◌∷◌, ◌++◌, length, map, take, drop, get_or, Option, Some, refl, sym, ap, ◌∙◌, arith}
use Rattle.std.proofs.lemmas.List.Sums.{sum_by-cons}
use Rattle.std.specs.List.{list_any}
use Rattle.std.specs.Prelude.{sum_by, count_by, slice_get, slice_set}
use Rattle.executor_core.specs.Sleepers.{SleeperList}
use Rattle.executor_core.specs.World.Promises.{numbers_of, NumbersTied, HolderStores}
use Rattle.executor_core.specs.World.Phases.{at_rest, is_over, in_store, ticker_or}
use Rattle.executor_core.specs.World.Tickers.{forgotten}
use Rattle.executor_core.specs.declared.interleave.ticker.Phase.{Phase}
use Rattle.executor_core.specs.declared.interleave.ticker.Phase.TheVariants.{Rest, Forgotten}
use Rattle.executor_core.specs.declared.interleave.ticker.Ticker.{Ticker}

-- what says the same of rest and of a forgotten ticker says the same before and after
pub forgotten_same : {X : Type 0} (f : Phase → X) → f Forgotten ≡ f Rest → (p : Phase) → f (cond (at_rest p) Forgotten p) ≡ f p
forgotten_same f same phase = grind arith

-- one that stands still is over then
pub forgotten_over : (p : Phase) → not (at_rest p || is_over p) ≡ false → is_over (cond (at_rest p) Forgotten p) ≡ true
forgotten_over p still = grind arith

pub length-forgotten : (tickers : List Ticker) → length (map forgotten tickers) ≡ length tickers
length-forgotten [] = refl
length-forgotten (t ∷ ts) = ap suc (length-forgotten ts)

pub sum_by-forgotten : (f : Phase → ℕ) → f Forgotten ≡ f Rest → (tickers : List Ticker) → sum_by (λ t. f t.phase) (map forgotten tickers) ≡ sum_by (λ t. f t.phase) tickers
sum_by-forgotten f same [] = refl
sum_by-forgotten f same (t ∷ ts) =
    let inner = sum_by-forgotten f same ts in
    let here = forgotten_same f same t.phase in
    let one = sum_by-cons (λ (t : Ticker). f t.phase) t ts in
    let two = sum_by-cons (λ (t : Ticker). f t.phase) (forgotten t) (map forgotten ts) in
    omega arith

pub count_by-forgotten : (f : Ticker → Bool) → ((t : Ticker) → f (forgotten t) ≡ f t) → (tickers : List Ticker) → count_by f (map forgotten tickers) ≡ count_by f tickers
count_by-forgotten f same [] = refl
count_by-forgotten f same (t ∷ ts) =
    let inner = count_by-forgotten f same ts in
    let here : ◌≡◌ {A = ℕ} (cond (f (forgotten t)) 1 0) (cond (f t) 1 0) = ap (λ b. cond {A = ℕ} b 1 0) (same t) in
    let one = sum_by-cons (λ (t : Ticker). cond (f t) 1 0) t ts in
    let two = sum_by-cons (λ (t : Ticker). cond (f t) 1 0) (forgotten t) (map forgotten ts) in
    omega arith

pub any-forgotten : (f : Ticker → Bool) → ((t : Ticker) → f (forgotten t) ≡ f t) → (tickers : List Ticker) → list_any f (map forgotten tickers) ≡ list_any f tickers
any-forgotten f same [] = refl
any-forgotten f same (t ∷ ts) = λ i. same t i || any-forgotten f same ts i

-- one more is forgotten
pub forgotten_walked : (tickers : List Ticker) (i : ℕ) (d : Ticker) {now : List Ticker} → now ≡ map forgotten (take i tickers) ++ drop i tickers → {t : Ticker} → t ≡ forgotten (get_or now i d) → slice_set now i t ≡ map forgotten (take (i + 1) tickers) ++ drop (i + 1) tickers
forgotten_walked tickers i d {now} is {t} t_is =
    let next : suc i ≡ i + 1 = omega arith in
    (λ j. slice_set (is j) i (t_is j)) ∙ ap (λ (x : Ticker). slice_set (map forgotten (take i tickers) ++ drop i tickers) i (forgotten x)) (ap (λ l. get_or l i d) is ∙ at tickers i) ∙ walked tickers i ∙ ap (λ k. map forgotten (take k tickers) ++ drop k tickers) next
  where
    at : (tickers : List Ticker) (i : ℕ) → get_or (map forgotten (take i tickers) ++ drop i tickers) i d ≡ get_or tickers i d
    at [] zero = refl
    at [] (suc i) = refl
    at (t ∷ ts) zero = refl
    at (t ∷ ts) (suc i) = at ts i

    walked : (tickers : List Ticker) (i : ℕ) → slice_set (map forgotten (take i tickers) ++ drop i tickers) i (forgotten (get_or tickers i d)) ≡ map forgotten (take (suc i) tickers) ++ drop (suc i) tickers
    walked [] zero = refl
    walked [] (suc i) = refl
    walked (t ∷ ts) zero = refl
    walked (t ∷ ts) (suc i) = ap (λ l. forgotten t ∷ l) (walked ts i)

-- each ticker then was one before
pub was_ticker : (tickers : List Ticker) (k : ℕ) (t : Ticker) → slice_get (map forgotten tickers) k ≡ Some t → (u : Ticker) × (slice_get tickers k ≡ Some u) × (t ≡ forgotten u)
was_ticker [] k t is = absurd (cc)
was_ticker (x ∷ xs) zero t is = let it : forgotten x ≡ t = cc in (x, refl, sym it)
was_ticker (x ∷ xs) (suc k) t is = was_ticker xs k t is

numbers-forgotten : (tickers : List Ticker) → numbers_of (map forgotten tickers) ≡ numbers_of tickers
numbers-forgotten [] = refl
numbers-forgotten (t ∷ ts) = ap (λ l. t.number ∷ l) (numbers-forgotten ts)

pub tied_forgotten : {W : Type 0} {tickers : List Ticker} {s : SleeperList W} → NumbersTied tickers s → NumbersTied (map forgotten tickers) s
tied_forgotten {tickers = tickers} {s = s} tied = grind (arith, numbers-forgotten, count_by-forgotten, forgotten_same, was_ticker)

pub stores_forgotten : (holder : Option ℕ) (tickers : List Ticker) → HolderStores holder tickers → HolderStores holder (map forgotten tickers)
stores_forgotten holder tickers stores k = same tickers k ∙ stores k
  where
    same : (tickers : List Ticker) (k : ℕ) → in_store (ticker_or (slice_get (map forgotten tickers) k)).phase ≡ in_store (ticker_or (slice_get tickers k)).phase
    same [] k = refl
    same (t ∷ ts) zero = forgotten_same in_store refl t.phase
    same (t ∷ ts) (suc k) = same ts k
