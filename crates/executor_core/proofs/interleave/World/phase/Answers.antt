use Rattle.std.proofs.Common.{◌∙◌, sym, ap, option_map}
use Rattle.executor_core.specs.declared.interleave.ticker.Ticker.{Ticker}
use Rattle.executor_core.proofs.ListLemmas.{read_some, read_none}
use Rattle.executor_core.proofs.interleave.World.phase.Goals as goal

pub returns-in-Some : goal.returns-in-Some
returns-in-Some g c = ap (option_map (λ (t : Ticker). t.phase)) (sym (read_some c.args.k _ (c.deref.ensures.value ∙ ap (λ w. w.tickers) c.self.view_is) c.in-Some.ensures.lookup.3.0 c.in-Some.ensures.lookup.1))

pub returns-in-None : goal.returns-in-None
returns-in-None g c = ap (option_map (λ (t : Ticker). t.phase)) (sym (read_none c.args.k (c.deref.ensures.value ∙ ap (λ w. w.tickers) c.self.view_is) c.in-None.ensures.lookup.3))
