use Rattle.std.proofs.Common.{◌≡◌, ◌+◌, Some, drop, refl, sym, ap, subst, ◌∙◌, arith}
use Rattle.std.specs.Prelude.{option_map, slice_get}
use Rattle.executor_core.specs.Slots.View.{walk, Chain}
use Rattle.executor_core.proofs.LinkLemmas.{step_at}
use Rattle.executor_core.proofs.task.slots.Slots.number_at.Goals as goal

pub index-requires : goal.index-requires
index-requires g c =
    let slots = c.self.inside.slots.slots in
    let ids = walk slots c.self.inside.len c.self.inside.first in
    let counted = c.self.invariant.counted in
    let at = step_at slots ids c.loop.counter c.loop.slot c.loop.invariant (omega arith) in
    rw at.there refl

pub loop-preserved : goal.loop-preserved
loop-preserved g c =
    let slots = c.self.inside.slots.slots in
    let ids = walk slots c.self.inside.len c.self.inside.first in
    let counted = c.self.invariant.counted in
    let at = step_at slots ids c.loop.counter c.loop.slot c.loop.invariant (omega arith) in
    let both : Some at.slot ≡ Some c.index.result.now = sym at.there ∙ c.index.ensures in
    let same : at.slot ≡ c.index.result.now = cc in
    subst (λ s. Chain slots (drop (c.loop.counter + 1) ids) s.next) same at.later

pub index-requires-2 : goal.index-requires-2
index-requires-2 g c =
    let slots = c.self.inside.slots.slots in
    let ids = walk slots c.self.inside.len c.self.inside.first in
    let counted = c.self.invariant.counted in
    let at = step_at slots ids c.loop.counter c.loop.slot c.loop.invariant (omega arith) in
    rw at.there refl

pub returns : goal.returns
returns g c =
    let slots = c.self.inside.slots.slots in
    let ids = walk slots c.self.inside.len c.self.inside.first in
    let counted = c.self.invariant.counted in
    let at = step_at slots ids c.loop.counter c.loop.slot c.loop.invariant (omega arith) in
    let end : c.loop.counter ≡ c.args.place = omega arith in
    let both : Some at.slot ≡ Some c.index-2.result.now = sym at.there ∙ c.index-2.ensures in
    let same : at.slot ≡ c.index-2.result.now = cc in
    ap (λ s. Some s.entry.number) (sym same) ∙ ap (option_map (λ id. id.number)) (sym at.is) ∙ ap (λ k. option_map (λ id. id.number) (slice_get ids k)) end ∙ ap (λ s. option_map (λ id. id.number) (slice_get s.queue c.args.place)) c.self.view_is
