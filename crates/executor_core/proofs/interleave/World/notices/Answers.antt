use Rattle.std.proofs.Common.{◌≡◌, ℕ, ◌+◌, ◌<◌, ◌≤◌, List, length, take, get_or, ap, ◌∙◌, arith}
use Rattle.std.proofs.lemmas.List.{take_all}
use Rattle.std.proofs.lemmas.List.Sums.{sum_by_more, sum_by-take-le}
use Rattle.std.specs.Prelude.{sum_by}
use Rattle.executor_core.specs.World.Phases.{notices_in}
use Rattle.executor_core.specs.declared.interleave.ticker.Ticker.{Ticker}
use Rattle.executor_core.proofs.World.Room.{notices_fit}
use Rattle.executor_core.proofs.interleave.World.notices.Goals as goal

abbrev kept : List Ticker → ℕ
kept tickers = sum_by (λ t. notices_in t.phase) tickers

module _ (tickers own : List Ticker) (floating i n : ℕ) (so_far : (n ≡ floating + kept (take i tickers)) × (tickers ≡ own)) where
  one_more : {r : ℕ} (d : Ticker) → i < length tickers → r ≡ notices_in (get_or tickers i d).phase → n + r ≡ floating + kept (take (i + 1) tickers)
  one_more {r} d within is = let more = sum_by_more (λ (t : Ticker). notices_in t.phase) tickers i d within in let h = so_far.0 in omega arith

  in_all : {r : ℕ} (d : Ticker) → i < length tickers → r ≡ notices_in (get_or tickers i d).phase → n + r ≤ floating + kept own
  in_all d within is = let h = one_more d within is in let part = sum_by-take-le (λ (t : Ticker). notices_in t.phase) tickers (i + 1) in let same = ap kept so_far.1 in omega arith

  all : length tickers ≤ i → n ≡ floating + kept own
  all past = so_far.0 ∙ ap (λ l. floating + kept l) (take_all i tickers past ∙ so_far.1)

pub loop-ticker-init : goal.loop-ticker-init
loop-ticker-init g c = let floating = ap (λ w. w.notices) c.self.view_is in (omega arith, c.deref-ticker-items.ensures.value ∙ ap (λ w. w.tickers) c.self.view_is)

pub overflow_add-notices : goal.overflow_add-notices
overflow_add-notices g c = notices_fit c.self.invariant.room c.self.view_is _ (in_all _ _ _ _ _ c.loop-ticker.invariant _ c.loop-ticker-test.true c.notices-notices.ensures)

pub loop-ticker-preserved : goal.loop-ticker-preserved
loop-ticker-preserved g c = (one_more _ _ _ _ _ c.loop-ticker.invariant _ c.loop-ticker-test.true c.notices-notices.ensures, c.loop-ticker.invariant.1)

pub returns : goal.returns
returns g c = all _ _ _ _ _ c.loop-ticker.invariant c.loop-ticker-test.false
