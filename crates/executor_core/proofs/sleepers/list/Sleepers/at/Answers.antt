use Rattle.std.proofs.Common.{◌∙◌, sym, ap}
use Rattle.std.specs.Prelude.{slice_get, option_map}
use Rattle.std.specs.Map.{keys_of}
use Rattle.std.proofs.lemmas.Option.{slice_get-map}
use Rattle.executor_core.proofs.ListLemmas.{read_some, read_none}
use Rattle.executor_core.proofs.sleepers.list.Sleepers.at.Goals as goal

pub returns-in-Some : goal.returns-in-Some
returns-in-Some g c =
    sym (slice_get-map (λ p. p.0) c.self.inside.unnotified.items c.args.i ∙ ap (option_map (λ p. p.0)) (read_some c.args.i c.in-Some.pair.now c.deref.ensures.value c.in-Some.ensures.lookup.3.0 c.in-Some.ensures.lookup.1))
    ∙ ap (λ s. slice_get (keys_of s.unnotified) c.args.i) c.self.view_is

pub returns-in-None : goal.returns-in-None
returns-in-None g c =
    sym (slice_get-map (λ p. p.0) c.self.inside.unnotified.items c.args.i ∙ ap (option_map (λ p. p.0)) (read_none c.args.i c.deref.ensures.value c.in-None.ensures.lookup.3))
    ∙ ap (λ s. slice_get (keys_of s.unnotified) c.args.i) c.self.view_is
