use Rattle.std.proofs.Common.{◌≡◌, ◌∷◌, false, vec_len, rules}
use Rattle.std.specs.Prelude.{◌-◌}
use Rattle.sharded_executor.specs.Order.{false_from}
use Rattle.sharded_executor.proofs.OrderLemmas.{asked_before}
use Rattle.sharded_executor.proofs.members.Members.search.Goals as goal

pub returns-in-None-clause-asked : goal.returns-in-None-clause-asked
returns-in-None-clause-asked g c =
    let n = vec_len c.args.self.now.sleepers in
    let last = c.search_between-in-None in
    let begun : c.search_between.new.self.answers.items ≡ (0, false) ∷ false_from c.args.first (n - c.args.first) = search rules in
    asked_before c.args.first n last.result c.search_between.new.self.answers.items last.new.self.answers.items begun last.ensures.none last.ensures.some last.ensures.inside
