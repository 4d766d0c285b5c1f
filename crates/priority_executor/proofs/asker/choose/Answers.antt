use Rattle.std.proofs.Common.{arith}
use Rattle.std.proofs.lemmas.Grind.{common_steps}
use Rattle.priority_executor.proofs.asker.choose.Goals as goal

pub returns-then-ask-clause-answers : goal.returns-then-ask-clause-answers
returns-then-ask-clause-answers g c = grind (arith, common_steps)

pub loop-level-preserved : goal.loop-level-preserved
loop-level-preserved g c = (grind (arith, common_steps), omega arith, grind (arith, common_steps))
