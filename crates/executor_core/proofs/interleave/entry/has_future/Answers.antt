use Rattle.std.proofs.Common.{◌∙◌, sym, ap}
use Rattle.executor_core.specs.World.Entries.{is_out}
use Rattle.executor_core.proofs.ListLemmas.{read_some, read_none}
use Rattle.executor_core.proofs.interleave.entry.has_future.Goals as goal

pub returns-in-Some : goal.returns-in-Some
returns-in-Some g c = c.is_some.ensures ∙ ap is_out (sym (read_some c.args.n c.in-Some.entry.now c.deref.ensures.value c.in-Some.ensures.lookup.3.0 c.in-Some.ensures.lookup.1))

pub returns-in-None : goal.returns-in-None
returns-in-None g c = ap is_out (sym (read_none c.args.n c.deref.ensures.value c.in-None.ensures.lookup.3))
