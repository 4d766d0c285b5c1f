-- Lists of numbers: how often each stands there, and the set of them.
use Rattle.std.proofs.Common.{◌≡◌, ◌≢◌, ℕ, ◌+◌, ◌≤◌, Bool, true, false, cond, ◌&&◌, ◌||◌, ◌⊎◌, inl, inr, List, [], ◌∷◌, ◌++◌, length, refl, sym, ap, ◌∙◌, arith}
use Rattle.std.specs.Prelude.{nat_lt, nat_le, ◌==◌}
use Rattle.std.specs.List.{list_any}
use Rattle.std.specs.Ordering.{nat_cmp, eq_by_cmp}
use Rattle.std.specs.FinSet as set
use Rattle.std.specs.FinSet.{contains-from_list_nat, contains-remove, from_list_push, same_set, len-empty, len-insert, nat_cmp-IsAntisymmetric}
use Rattle.std.proofs.lemmas.Bool.{eq-eqb, ne_eqb, lt-ltb, le-ltb, cases_eq}
use Rattle.std.proofs.lemmas.Bool.Decides.{nat_tests}
use Rattle.std.proofs.lemmas.Cmp.{nat_cmp_total}
use Rattle.std.proofs.lemmas.List.Sums.{sum_by-append, sum_by-cons}
use Rattle.executor_core.specs.Numbers.{times}
use Rattle.executor_core.specs.Sleepers.View.{IsNumbering}

pub times-append : (n : ℕ) (xs ys : List ℕ) → times n (xs ++ ys) ≡ times n xs + times n ys
times-append n xs ys = sum_by-append (λ k. cond (k == n) 1 0) xs ys

pub times-cons : (n k : ℕ) (ks : List ℕ) → times n (k ∷ ks) ≡ cond (k == n) 1 0 + times n ks
times-cons n k ks = sum_by-cons (λ k. cond (k == n) 1 0) k ks

-- 1 if they are the same
pub one-same : (n : ℕ) → ◌≡◌ {A = ℕ} (cond (n == n) 1 0) 1
one-same n = rw (eq-eqb n n refl) refl

pub one-other : (k n : ℕ) → k ≢ n → ◌≡◌ {A = ℕ} (cond (k == n) 1 0) 0
one-other k n far = rw (ne_eqb k n far) refl

-- a number is in the list if and only if it stands there
pub any-times : (q : ℕ) (xs : List ℕ) → list_any (λ y. y == q) xs ≡ nat_lt 0 (times q xs)
any-times q [] = refl
any-times q (x ∷ xs) = cases (x == q) refl (times-cons q x xs) (any-times q xs)
  where
    cases : (b : Bool) → (x == q) ≡ b → times q (x ∷ xs) ≡ cond (x == q) 1 0 + times q xs → list_any (λ y. y == q) xs ≡ nat_lt 0 (times q xs) → (x == q || list_any (λ y. y == q) xs) ≡ nat_lt 0 (times q (x ∷ xs))
    cases true is all rest =
        let one : ◌≡◌ {A = ℕ} (cond (x == q) 1 0) 1 = ap (λ b. cond b 1 0) is in
        ap (λ b. b || list_any (λ y. y == q) xs) is ∙ sym (lt-ltb 0 (times q (x ∷ xs)) (omega arith))
    cases false is all rest =
        let none : ◌≡◌ {A = ℕ} (cond (x == q) 1 0) 0 = ap (λ b. cond b 1 0) is in
        let count : times q xs ≡ times q (x ∷ xs) = omega arith in
        ap (λ b. b || list_any (λ y. y == q) xs) is ∙ rest ∙ ap (nat_lt 0) count

pub contains-times : (xs : List ℕ) (q : ℕ) → set.contains (set.from_list {R = nat_cmp} xs) q ≡ nat_lt 0 (times q xs)
contains-times xs q = contains-from_list_nat xs q ∙ any-times q xs

-- in a list that has each number once at most
pub len-from_list : (xs : List ℕ) → ((n : ℕ) → times n xs ≤ 1) → set.len (set.from_list {R = nat_cmp} xs) ≡ length xs
len-from_list [] once = len-empty nat_cmp
len-from_list (k ∷ ks) once =
    let all = times-cons k k ks in
    let one = one-same k in
    let most = once k in
    let none : times k ks ≡ 0 = omega arith in
    let absent : set.contains (set.from_list {R = nat_cmp} ks) k ≡ false = contains-times ks k ∙ le-ltb 0 (times k ks) (omega arith) in
    let rest : set.len (set.from_list {R = nat_cmp} ks) ≡ length ks = len-from_list ks (λ n. let more = times-cons n k ks in let few = once n in omega arith) in
    let before = set.len (set.from_list {R = nat_cmp} ks) in
    let grown : set.len (set.from_list {R = nat_cmp} (k ∷ ks)) ≡ before + 1 = len-insert nat_cmp_total (set.from_list {R = nat_cmp} ks) k ∙ ap (λ b. cond b before (before + 1)) absent in
    omega arith

-- two lists of the same numbers
pub push-from_list : (xs : List ℕ) (k : ℕ) → set.from_list {R = nat_cmp} (xs ++ k ∷ []) ≡ set.insert (set.from_list xs) k
push-from_list xs k = from_list_push nat_cmp_total nat_cmp-IsAntisymmetric xs k

not_tied : (q k : ℕ) → q ≢ k → eq_by_cmp nat_cmp q k ≡ false
not_tied q k far = grind (arith, nat_tests)

tied : (q : ℕ) → eq_by_cmp nat_cmp q q ≡ true
tied q = grind (arith, nat_tests)

-- a list that lacks one number, and has the others as before
pub remove-from_list : (xs ys : List ℕ) (k : ℕ) → ((n : ℕ) → n ≢ k → times n ys ≡ times n xs) → times k ys ≡ 0 → set.from_list {R = nat_cmp} ys ≡ set.remove (set.from_list xs) k
remove-from_list xs ys k others none =
    same_set nat_cmp_total nat_cmp-IsAntisymmetric _ _ (λ q. at q (cases_eq q k))
  where
    at : (q : ℕ) → (q ≡ k) ⊎ (q ≡ k → ⊥) → set.contains (set.from_list {R = nat_cmp} ys) q ≡ set.contains (set.remove (set.from_list {R = nat_cmp} xs) k) q
    at q (inl same) =
        contains-times ys q ∙ le-ltb 0 (times q ys) (rw same (omega arith))
        ∙ sym (contains-remove nat_cmp_total (set.from_list xs) k q ∙ rw same (rw (tied k) refl))
    at q (inr far) =
        contains-times ys q ∙ ap (nat_lt 0) (others q far) ∙ sym (contains-times xs q)
        ∙ sym (contains-remove nat_cmp_total (set.from_list xs) k q ∙ rw (not_tied q k far) refl)

-- 1 to the total of a numbering, each once
pub once : (xs : List ℕ) → IsNumbering xs → (n : ℕ) → times n xs ≤ 1
once xs numbering n = at (nat_le 1 n && nat_le n (length xs)) (numbering n)
  where
    at : (b : Bool) → times n xs ≡ cond b 1 0 → times n xs ≤ 1
    at true is = omega arith
    at false is = omega arith

-- the same numbers in another order
pub regrouped : (xs ys : List ℕ) → IsNumbering xs → ((n : ℕ) → times n ys ≡ times n xs) → length ys ≡ length xs → IsNumbering ys
regrouped xs ys numbering same long n = same n ∙ numbering n ∙ ap (λ l. cond (nat_le 1 n && nat_le n l) 1 0) (sym long)
