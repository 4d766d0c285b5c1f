use Rattle.std.proofs.Common.{◌≡◌, ◌∙◌, refl}
use Rattle.std.proofs.lemmas.Option.{get_or_from_slice_get}
use Rattle.executor_core.proofs.interleave.steps.polls.put_out.Goals as goal

pub returns-clause-entries : goal.returns-clause-entries
returns-clause-entries g c =
    λ e is.
    let same : c.index.result.now ≡ e = c.index.ensures ∙ get_or_from_slice_get c.args.entries.now.items c.args.taken.id.number e c.index.result.now is in
    rw (c.set_entry.ensures.items, c.with_to_drop-info.ensures, same) refl
