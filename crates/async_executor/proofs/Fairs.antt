-- With which of the tasks that it finds a run takes a fair part.
use Rattle.std.proofs.Common.{◌≡◌, ◌+◌, ◌<◌, true, false, refl, sym, ap, ◌∙◌, arith}
use Rattle.std.proofs.lemmas.Bool.{ltb-true, lt-ltb, eq-eqb, ne_eqb, false≢true}
use Rattle.std.proofs.Math.Nat.{suc-mod, mod-eq_of_lt, mod_self}
use Rattle.std.specs.Prelude.{suc, ◌%◌}
use Rattle.async_executor.specs.Runs.Counts.{Counted, goes_on, more, anew, CountsEach}

-- a count is what is left of how many were counted in all
pub counts_more : (c : Counted) → goes_on c ≡ true → CountsEach c (more c) false
counts_more c on n before = grind (arith, ltb-true, suc-mod, mod-eq_of_lt, ne_eqb)

pub counts_anew : (c : Counted) → c.counted < c.limit → goes_on c ≡ false → CountsEach c (anew c) true
counts_anew c within full n before =
    let bound : (c.counted + 1 < c.limit → ⊥) = (λ on. false≢true (sym full ∙ lt-ltb _ _ on)) in
    let last : suc c.counted ≡ c.limit = omega arith in
    let left : suc n % c.limit ≡ 0 = suc-mod n c.limit ∙ ap (λ k. suc k % c.limit) (sym before.1) ∙ ap (λ k. k % c.limit) last ∙ mod_self c.limit in
    ((refl, sym left), sym (eq-eqb _ _ left))
