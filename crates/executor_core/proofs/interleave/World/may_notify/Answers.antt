use Rattle.std.proofs.Common.{◌&&◌, not, ◌∙◌, sym, ap, is_some, nat_lt}
use Rattle.std.proofs.lemmas.Bool.{lt-ltb}
use Rattle.executor_core.proofs.interleave.World.may_notify.Goals as goal

pub returns-then-self-gt0 : goal.returns-then-self-gt0
returns-then-self-gt0 g c = c.is_free.ensures ∙ ap (λ b. b && not (is_some c.args.self.now.holder)) (sym (lt-ltb _ _ c.if-self-gt0.true) ∙ ap (λ w. nat_lt 0 w.picks) c.self.view_is)
