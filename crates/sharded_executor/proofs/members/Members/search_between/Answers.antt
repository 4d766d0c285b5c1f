use Rattle.std.proofs.Common.{◌≡◌, ◌+◌, ◌++◌, ◌∷◌, [], append_assoc, ap, ◌∙◌, arith}
use Rattle.std.specs.Prelude.{ℕ, ◌-◌, Bool, List, false, length}
use Rattle.std.proofs.lemmas.List.{length-append}
use Rattle.sharded_executor.specs.Order.{false_from}
use Rattle.sharded_executor.proofs.OrderLemmas.{false_more}
use Rattle.sharded_executor.proofs.members.Members.search_between.Goals as goal

pub loop-at-preserved : goal.loop-at-preserved
loop-at-preserved g c =
    let inv = c.loop-at.invariant in
    let low = c.loop-at.auto.at in
    let before = c.args.self.now.answers.items in
    let asked = false_from c.args.from (c.loop-at.at - c.args.from) in
    let one : List (ℕ × Bool) = (c.loop-at.at, false) ∷ [] in
    let listed : c.ask.new.self.answers.items ≡ c.loop-at.self.answers.items ++ one = c.ask.ensures.listed ∙ ap (λ b. c.loop-at.self.answers.items ++ (c.loop-at.at, b) ∷ []) c.if-ask.false in
    let all : c.ask.new.self.answers.items ≡ before ++ (asked ++ one) = listed ∙ ap (λ xs. xs ++ one) inv.0 ∙ append_assoc before asked one in
    let longer : length c.ask.new.self.answers.items ≡ length c.loop-at.self.answers.items + 1 = ap length listed ∙ length-append c.loop-at.self.answers.items one in (
      all ∙ ap (λ xs. before ++ xs) (false_more c.args.from c.loop-at.at (omega (arith, low))),
      omega (arith, inv.1, longer),
      c.ask.ensures.room ∙ inv.2,
      c.ask.ensures.count ∙ inv.3,
    )
