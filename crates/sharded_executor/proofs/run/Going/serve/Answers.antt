use Rattle.std.proofs.Common.{rules}
use Rattle.sharded_executor.proofs.run.Going.serve.Goals as goal

pub returns-in-None : goal.returns-in-None
returns-in-None g c = λ yes. ((c.another-first.result, search rules), search rules)
