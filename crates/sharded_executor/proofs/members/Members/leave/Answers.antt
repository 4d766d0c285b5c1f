use Rattle.std.proofs.Common.{refl, arith}
use Rattle.sharded_executor.proofs.members.Members.leave.Goals as goal

pub loop-at-init : goal.loop-at-init
loop-at-init g c = (
  λ k d low high. absurd (omega (arith, high)),
  refl,
  refl,
  tt,
  λ k d low high. absurd (omega (arith, high)),
)
