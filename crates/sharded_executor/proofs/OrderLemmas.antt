-- What a search has asked when it ends.
use Rattle.std.proofs.Common.{◌≡◌, ℕ, suc, ◌+◌, ◌-◌, ◌<◌, ◌≤◌, Bool, true, false, cond, List, [], ◌∷◌, ◌++◌, Option, Some, None, sym, ap, ◌∙◌, arith}
use Rattle.std.specs.Prelude.{◌==◌, nat_lt, IfNone, IfSome}
use Rattle.std.proofs.lemmas.Bool.{ne_eqb, lt-ltb}
use Rattle.sharded_executor.specs.Order.{false_from, true_after, others_true, asked_around}

-- one shard more answered false
pub false_more : (from at : ℕ) → from ≤ at → false_from from (at - from) ++ (at, false) ∷ [] ≡ false_from from ((at + 1) - from)
false_more from at le =
    let next : suc (at - from) ≡ (at + 1) - from = omega arith in
    let here : at ≡ from + (at - from) = omega arith in
    ap (λ k. false_from from (at - from) ++ (k, false) ∷ []) here ∙ ap (false_from from) next

-- it is before that one
pub found_before : (first n at : ℕ) → 0 < at → at < first → (0, false) ∷ (false_from first (n - first) ++ true_after 1 at) ≡ asked_around first n (Some at)
found_before first n at low lt =
    let far : at == 0 ≡ false = ne_eqb at 0 (omega arith) in
    let before : nat_lt at first ≡ true = lt-ltb at first lt in
    sym (ap (λ b. cond b ((0, true) ∷ []) ((0, false) ∷ others_true first n at)) far ∙ ap (λ b. (0, false) ∷ cond b (false_from first (n - first) ++ true_after 1 at) (true_after first at)) before)

-- what was asked from the own shard on, and then of the shards before that one
pub asked_before : (first n : ℕ) → (found : Option ℕ) → (before after : List (ℕ × Bool)) → before ≡ (0, false) ∷ false_from first (n - first) → IfNone found (after ≡ before ++ false_from 1 (first - 1)) → IfSome found (λ at. after ≡ before ++ true_after 1 at) → IfSome found (λ at. (1 ≤ at) × (at < first)) → after ≡ asked_around first n found
asked_before first n None before after begun none some inside = none ∙ ap (λ asked. asked ++ false_from 1 (first - 1)) begun
asked_before first n (Some at) before after begun none some inside = some ∙ ap (λ asked. asked ++ true_after 1 at) begun ∙ found_before first n at inside.0 inside.1
