use Rattle.std.proofs.Common.{◌∙◌, sym}
use Rattle.executor_core.proofs.World.Agreement.{kept_is, kept_not}
use Rattle.executor_core.proofs.World.Entries.{entry_of}
use Rattle.executor_core.proofs.interleave.World.keeps.Goals as goal

pub returns-in-Some : goal.returns-in-Some
returns-in-Some g c =
    let at = entry_of c.self.inside.entries.items c.args.n c.in-Some.info (sym c.find_info.ensures ∙ c.in-Some.is) in
    rw (c.keeps.ensures, c.id.ensures, ← c.self.view_is) (kept_is c.self.invariant.agree c.args.n (record { info = c.in-Some.info; out = at.0 }) at.1)

pub returns-in-None : goal.returns-in-None
returns-in-None g c = sym (kept_not c.self.inside c.self.invariant c.self.view_is c.args.n (sym c.find_info.ensures ∙ c.in-None.is))
