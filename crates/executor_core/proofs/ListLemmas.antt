-- Lists by index: a read after a write or a push.
use Rattle.std.proofs.Common.{◌≡◌, ◌≢◌, ℕ, zero, suc, ◌+◌, ◌<◌, ◌≤◌, ◌||◌, Bool, true, false, cond, List, [], ◌∷◌, ◌++◌, length, Some, None, refl, sym, ap, ◌∙◌, arith}
use Rattle.std.proofs.lemmas.Bool.{or_left, or_right}
use Rattle.std.proofs.lemmas.Option.{slice_get_read, slice_get_past}
use Rattle.std.proofs.lemmas.List.Sums.{sum_by-cons}
use Rattle.std.specs.List.{list_any}
use Rattle.std.specs.Prelude.{slice_get, slice_set, sum_by, count_by, get_or}

module _ {X : Type 0} where
  pub get-set_same : (xs : List X) (i : ℕ) (v w : X) → slice_get xs i ≡ Some w → slice_get (slice_set xs i v) i ≡ Some v
  get-set_same [] i v w h = absurd (cc)
  get-set_same (x ∷ xs) zero v w h = refl
  get-set_same (x ∷ xs) (suc i) v w h = get-set_same xs i v w h

  pub get-set_other : (xs : List X) (i q : ℕ) (v : X) → q ≢ i → slice_get (slice_set xs i v) q ≡ slice_get xs q
  get-set_other [] i q v far = refl
  get-set_other (x ∷ xs) zero zero v far = absurd (far refl)
  get-set_other (x ∷ xs) zero (suc q) v far = refl
  get-set_other (x ∷ xs) (suc i) zero v far = refl
  get-set_other (x ∷ xs) (suc i) (suc q) v far = get-set_other xs i q v (λ same. far (ap suc same))

  pub get-push_last : (xs : List X) (v : X) → slice_get (xs ++ v ∷ []) (length xs) ≡ Some v
  get-push_last [] v = refl
  get-push_last (x ∷ xs) v = get-push_last xs v

  pub get-push_other : (xs : List X) (v : X) (q : ℕ) → q ≢ length xs → slice_get (xs ++ v ∷ []) q ≡ slice_get xs q
  get-push_other [] v zero far = absurd (far refl)
  get-push_other [] v (suc q) far = refl
  get-push_other (x ∷ xs) v zero far = refl
  get-push_other (x ∷ xs) v (suc q) far = get-push_other xs v q (λ same. far (ap suc same))

  pub get_past : (xs : List X) → slice_get xs (length xs) ≡ None
  get_past [] = refl
  get_past (x ∷ xs) = get_past xs

  pub within_get : (xs : List X) (i : ℕ) (x : X) → slice_get xs i ≡ Some x → i < length xs
  within_get [] i x is = absurd (cc)
  within_get (y ∷ ys) zero x is = omega arith
  within_get (y ∷ ys) (suc i) x is = let inner = within_get ys i x is in omega arith

  pub get_within : (xs : List X) (i : ℕ) → i < length xs → (x : X) × (slice_get xs i ≡ Some x)
  get_within [] i h = absurd (omega arith)
  get_within (y ∷ ys) zero h = (y, refl)
  get_within (y ∷ ys) (suc i) h = get_within ys i (omega arith)

  -- a read of these items, which are seen as those
  pub read_some : {xs ys : List X} (i : ℕ) (x : X) → xs ≡ ys → i < length xs → x ≡ get_or xs i x → slice_get ys i ≡ Some x
  read_some {xs} i x same within is = ap (λ l. slice_get l i) (sym same) ∙ slice_get_read xs (length xs) i x refl within is

  pub read_none : {xs ys : List X} (i : ℕ) → xs ≡ ys → length xs ≤ i → slice_get ys i ≡ None
  read_none {xs} i same past = ap (λ l. slice_get l i) (sym same) ∙ slice_get_past xs i past

  pub length-slice_set : (xs : List X) (n : ℕ) (v : X) → length (slice_set xs n v) ≡ length xs
  length-slice_set [] n v = refl
  length-slice_set (x ∷ xs) zero v = refl
  length-slice_set (x ∷ xs) (suc n) v = ap suc (length-slice_set xs n v)

  pub length-push : (xs : List X) (x : X) → length (xs ++ x ∷ []) ≡ length xs + 1
  length-push [] x = refl
  length-push (y ∷ ys) x = let inner = length-push ys x in omega arith

  set-set : (xs : List X) (n : ℕ) (a b : X) → slice_set (slice_set xs n a) n b ≡ slice_set xs n b
  set-set [] n a b = refl
  set-set (x ∷ xs) zero a b = refl
  set-set (x ∷ xs) (suc n) a b = ap (λ l. x ∷ l) (set-set xs n a b)

  -- a second write at the same place
  pub set_again : (xs ys zs : List X) (n : ℕ) (a b : X) → ys ≡ slice_set xs n a → zs ≡ slice_set ys n b → zs ≡ slice_set xs n b
  set_again xs ys zs n a b first second = second ∙ ap (λ l. slice_set l n b) first ∙ set-set xs n a b

  -- a write of what stands there
  pub set-here : (xs : List X) (n : ℕ) (x : X) → slice_get xs n ≡ Some x → slice_set xs n x ≡ xs
  set-here [] n x is = refl
  set-here (y ∷ ys) zero x is = let same : y ≡ x = cc in ap (λ z. z ∷ ys) (sym same)
  set-here (y ∷ ys) (suc n) x is = ap (λ l. y ∷ l) (set-here ys n x is)

count_step : (a b : Bool) (c d : ℕ) → (a ≡ true → b ≡ true) → c ≤ d → cond a 1 0 + c ≤ cond b 1 0 + d
count_step a b c d gives most = grind arith

-- what a write makes of a sum, and of a test of each item
module _ {X : Type 0} where
  pub sum_by-set : (f : X → ℕ) (xs : List X) (k : ℕ) (x y : X) → slice_get xs k ≡ Some x → sum_by f (slice_set xs k y) + f x ≡ sum_by f xs + f y
  sum_by-set f [] k x y is = absurd (cc)
  sum_by-set f (z ∷ zs) zero x y is = grind (arith, sum_by-cons)
  sum_by-set f (z ∷ zs) (suc k) x y is = grind (arith, sum_by-set f zs k x y is, sum_by-cons)

  pub sum_by-at : (f : X → ℕ) (xs : List X) (k : ℕ) (x : X) → slice_get xs k ≡ Some x → f x ≤ sum_by f xs
  sum_by-at f [] k x is = absurd (cc)
  sum_by-at f (z ∷ zs) zero x is = grind (arith, sum_by-cons)
  sum_by-at f (z ∷ zs) (suc k) x is = let inner = sum_by-at f zs k x is in let all = sum_by-cons f z zs in omega arith

  pub any-at : (f : X → Bool) (xs : List X) (k : ℕ) (x : X) → slice_get xs k ≡ Some x → f x ≡ true → list_any f xs ≡ true
  any-at f [] k x is passes = absurd (cc)
  any-at f (z ∷ zs) zero x is passes = let same : z ≡ x = cc in or_left (f z) _ (ap f same ∙ passes)
  any-at f (z ∷ zs) (suc k) x is passes = or_right (f z) _ (any-at f zs k x is passes)

  pub any-set_true : (f : X → Bool) (xs : List X) (k : ℕ) (x y : X) → slice_get xs k ≡ Some x → f y ≡ true → list_any f (slice_set xs k y) ≡ true
  any-set_true f [] k x y is passes = absurd (cc)
  any-set_true f (z ∷ zs) zero x y is passes = or_left (f y) _ passes
  any-set_true f (z ∷ zs) (suc k) x y is passes = or_right (f z) _ (any-set_true f zs k x y is passes)

  pub any-set_same : (f : X → Bool) (xs : List X) (k : ℕ) (x y : X) → slice_get xs k ≡ Some x → f y ≡ f x → list_any f (slice_set xs k y) ≡ list_any f xs
  any-set_same f [] k x y is same = refl
  any-set_same f (z ∷ zs) zero x y is same = let item : z ≡ x = cc in ap (λ b. b || list_any f zs) (same ∙ sym (ap f item))
  any-set_same f (z ∷ zs) (suc k) x y is same = ap (λ b. f z || b) (any-set_same f zs k x y is same)

  pub any-push : (f : X → Bool) (xs : List X) (y : X) → f y ≡ false → list_any f (xs ++ y ∷ []) ≡ list_any f xs
  any-push f [] y fails = ap (λ b. b || false) fails
  any-push f (z ∷ zs) y fails = ap (λ b. f z || b) (any-push f zs y fails)

  -- no more items pass the first test, if each that does passes the second
  pub count_most : (f g : X → Bool) (xs : List X) → ((j : ℕ) (x : X) → slice_get xs j ≡ Some x → f x ≡ true → g x ≡ true) → count_by f xs ≤ count_by g xs
  count_most f g [] gives = omega arith
  count_most f g (z ∷ zs) gives =
      let rest = count_most f g zs (λ j x is. gives (suc j) x is) in
      let step = count_step (f z) (g z) _ _ (gives 0 z refl) rest in
      let a = sum_by-cons (λ x. cond (f x) 1 0) z zs in
      let b = sum_by-cons (λ x. cond (g x) 1 0) z zs in
      omega arith

  -- and fewer, if one passes the second alone
  pub count_fewer : (f g : X → Bool) (xs : List X) → ((j : ℕ) (x : X) → slice_get xs j ≡ Some x → f x ≡ true → g x ≡ true) → (k : ℕ) (x : X) → slice_get xs k ≡ Some x → f x ≡ false → g x ≡ true → count_by f xs < count_by g xs
  count_fewer f g [] gives k x is fails passes = absurd (cc)
  count_fewer f g (z ∷ zs) gives zero x is fails passes =
      let same : z ≡ x = cc in
      let rest = count_most f g zs (λ j x is. gives (suc j) x is) in
      let none : ◌≡◌ {A = ℕ} (cond (f z) 1 0) 0 = ap (λ b. cond b 1 0) (ap f same ∙ fails) in
      let one : ◌≡◌ {A = ℕ} (cond (g z) 1 0) 1 = ap (λ b. cond b 1 0) (ap g same ∙ passes) in
      let a = sum_by-cons (λ x. cond (f x) 1 0) z zs in
      let b = sum_by-cons (λ x. cond (g x) 1 0) z zs in
      omega arith
  count_fewer f g (z ∷ zs) gives (suc k) x is fails passes =
      let rest = count_fewer f g zs (λ j x is. gives (suc j) x is) k x is fails passes in
      let step = count_step (f z) (g z) (count_by f zs + 1) (count_by g zs) (gives 0 z refl) (omega arith) in
      let a = sum_by-cons (λ x. cond (f x) 1 0) z zs in
      let b = sum_by-cons (λ x. cond (g x) 1 0) z zs in
      omega arith
