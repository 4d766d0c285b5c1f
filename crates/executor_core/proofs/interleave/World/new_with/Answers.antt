use Rattle.std.proofs.Common.{◌∙◌, refl, sym, ap, map}
use Rattle.executor_core.proofs.LimitLemmas.{lawful_local}
use Rattle.executor_core.proofs.World.Spawns.{opening_sound}
use Rattle.executor_core.proofs.interleave.World.new_with.Goals as goal

pub invariant_of-result : goal.invariant_of-result
invariant_of-result g c =
    opening_sound (ap (λ core. core.cells) c.in_ok-core.ensures) (ap (λ core. core.sleepers) c.in_ok-core.ensures) c.new-3.ensures.items refl (ap (λ core. core.cells.closed) c.in_ok-core.ensures) c.in_ok-log.ensures.items (ap (λ l. map (λ e. e.info) l) c.new-2.ensures.items) refl c.requires refl c.in_ok-log.ensures.exact c.new-2.ensures.items c.new-4.ensures.items
    (lawful_local c.args.limits (sym c.is_lawful.ensures ∙ c.if-not-is_lawful.false))

pub returns : goal.returns
returns g c =
    record {
      ok = rw (c.in_ok-core.ensures, c.in_ok-log.ensures.items, c.new-2.ensures.items, c.new-3.ensures.items) refl;
      cause = tt;
      bad = λ bad. sym bad ∙ sym c.is_lawful.ensures ∙ c.if-not-is_lawful.false;
    }
