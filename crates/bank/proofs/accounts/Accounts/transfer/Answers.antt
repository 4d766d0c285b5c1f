use Rattle.std.proofs.Common.{arith}
use Rattle.std.proofs.lemmas.Grind.{common_steps}
use Rattle.bank.proofs.Sums.{credit_fits}
use Rattle.bank.proofs.accounts.Accounts.transfer.Goals as goal

pub overflow_add-self : goal.overflow_add-self
overflow_add-self c = grind (arith, common_steps, credit_fits c.args.from c.args.to c.args.amount c.args.self.now.balances)
