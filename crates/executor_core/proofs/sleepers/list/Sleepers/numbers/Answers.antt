use Rattle.std.proofs.Common.{◌≡◌, ◌+◌, ◌∙◌, sym, ap, length, vec_len, rules}
use Rattle.std.specs.FinSet as set
use Rattle.executor_core.proofs.SleeperListLemmas.{used-len_none, used-len_some}
use Rattle.executor_core.proofs.sleepers.list.Sleepers.numbers.Goals as goal

pub returns-in-Some : goal.returns-in-Some
returns-in-Some g c =
    let long : vec_len c.self.inside.unnotified ≡ length c.self.inside.unnotified.items = search rules in
    ap (λ n. n + 1) (c.len.ensures ∙ long)
    ∙ sym (used-len_some c.self.invariant c.in-Some.field-0 c.in-Some.is)
    ∙ ap (λ s. set.len s.used) c.self.view_is

pub returns-in-None : goal.returns-in-None
returns-in-None g c =
    let long : vec_len c.self.inside.unnotified ≡ length c.self.inside.unnotified.items = search rules in
    c.len-in-None.ensures ∙ long ∙ sym (used-len_none c.self.invariant c.in-None.is) ∙ ap (λ s. set.len s.used) c.self.view_is
