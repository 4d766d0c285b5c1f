use Rattle.std.proofs.Common.{refl, arith}
use Rattle.executor_core.proofs.task.polling.run_taken.Goals as goal

pub returns-in-Pending-clause-polls : goal.returns-in-Pending-clause-polls
returns-in-Pending-clause-polls g c = rw c.if-cancelled.false cc

pub returns-in-Pending-clause-disposals : goal.returns-in-Pending-clause-disposals
returns-in-Pending-clause-disposals g c = rw c.if-cancelled.false (omega arith)

pub returns-in-Pending-clause-ran : goal.returns-in-Pending-clause-ran
returns-in-Pending-clause-ran g c = (c.if-cancelled.false, refl)

pub returns-in-Pending-clause-disposed : goal.returns-in-Pending-clause-disposed
returns-in-Pending-clause-disposed g c = λ is. absurd (cc)

pub returns-in-Ready-clause-polls : goal.returns-in-Ready-clause-polls
returns-in-Ready-clause-polls g c = rw c.if-cancelled.false cc

pub returns-in-Ready-clause-disposals : goal.returns-in-Ready-clause-disposals
returns-in-Ready-clause-disposals g c = rw c.if-cancelled.false (omega arith)

pub returns-in-Ready-clause-ran : goal.returns-in-Ready-clause-ran
returns-in-Ready-clause-ran g c = (c.if-cancelled.false, refl)

pub returns-in-Ready-clause-disposed : goal.returns-in-Ready-clause-disposed
returns-in-Ready-clause-disposed g c = λ is. absurd (cc)
