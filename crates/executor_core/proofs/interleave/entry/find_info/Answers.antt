use Rattle.std.proofs.Common.{sym}
use Rattle.executor_core.proofs.ListLemmas.{read_some, read_none}
use Rattle.executor_core.proofs.World.Entries.{info_at, no_info}
use Rattle.executor_core.proofs.interleave.entry.find_info.Goals as goal

pub returns-in-Some : goal.returns-in-Some
returns-in-Some g c = sym (info_at _ c.args.n _ (read_some c.args.n c.in-Some.entry.now c.deref.ensures.value c.in-Some.ensures.lookup.3.0 c.in-Some.ensures.lookup.1))

pub returns-in-None : goal.returns-in-None
returns-in-None g c = sym (no_info _ c.args.n (read_none c.args.n c.deref.ensures.value c.in-None.ensures.lookup.3))
