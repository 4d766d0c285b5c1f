-- What is counted of each element of a list, one element at a time.
use Rattle.std.proofs.Common.{◌≡◌, ℕ, ◌+◌, ◌<◌, ◌≤◌, List, [], ◌∷◌, ◌++◌, length, map, take, get_or, Option, Some, None, refl, sym, ap, ◌∙◌, arith}
use Rattle.std.specs.Prelude.{slice_get, option_map}
use Rattle.std.proofs.lemmas.List.{map_more, length-append, length-map, length-take-le}
use Rattle.std.proofs.lemmas.Option.{slice_get_within, slice_get_cases, get_or_from_slice_get}

module _ {X Y : Type 0} (f : X → Y) where
  pub map_one_more : (xs : List X) (i : ℕ) (y : Y) → Some y ≡ option_map f (slice_get xs i) → map f (take (i + 1) xs) ≡ map f (take i xs) ++ y ∷ []
  map_one_more xs i y is = go (slice_get xs i) refl is
    where
      go : (o : Option X) → slice_get xs i ≡ o → Some y ≡ option_map f o → map f (take (i + 1) xs) ≡ map f (take i xs) ++ y ∷ []
      go None e h = absurd (cc (h))
      go (Some x) e h =
          let found : get_or xs i x ≡ x = get_or_from_slice_get xs i x x e in
          let given : f (get_or xs i x) ≡ y = ap f found ∙ cc (h) in
          map_more f xs i x (slice_get_within xs i x e) ∙ ap (λ z. map f (take i xs) ++ z ∷ []) given

  pub is_some_within : (xs : List X) (i : ℕ) → None ≡ option_map f (slice_get xs i) → i < length xs → ⊥
  is_some_within xs i none inside = grind (arith, slice_get_cases)

  -- what follows the first i of a list up to the first j has j - i elements
  pub length_between : (xs : List X) (ys : List Y) (i j : ℕ) → map f (take i xs) ++ ys ≡ map f (take j xs) → i ≤ j → j ≤ length xs → i + length ys ≡ j
  length_between xs ys i j together ordered within =
      let first : length (map f (take i xs)) ≡ i = length-map (take i xs) f ∙ length-take-le i xs (omega (arith, ordered, within)) in
      let whole : length (map f (take j xs)) ≡ j = length-map (take j xs) f ∙ length-take-le j xs within in
      omega (arith, first, whole, sym (length-append (map f (take i xs)) ys) ∙ ap length together)
