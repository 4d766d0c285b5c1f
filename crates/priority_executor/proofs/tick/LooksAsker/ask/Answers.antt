use Rattle.std.proofs.Common.{◌≡◌, ◌∙◌, ◌++◌, ◌∷◌, [], ap, rules}
use Rattle.priority_executor.proofs.tick.LooksAsker.ask.Goals as goal

pub returns-clause-listed : goal.returns-clause-listed
returns-clause-listed g c =
    let same : c.match-get_mut.self.answers ≡ c.args.self.now.answers = search rules in
    c.push.ensures ∙ ap (λ answers. answers ++ (c.args.level, c.match-get_mut.has_task) ∷ []) same
