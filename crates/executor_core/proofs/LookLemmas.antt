-- Whether a search of any queue finds a task.
use Rattle.std.proofs.Common.{◌≡◌, ℕ, true, false, [], Option, None, refl, ◌∙◌, ap, arith}
use Rattle.std.specs.Prelude.{is_some, option_map}
use Rattle.executor_core.specs.Queues.{QueueLists, first_occupied, front_at, any_front, search_any}
use Rattle.executor_core.proofs.QueueLemmas.{some_occupied, local_front-none}

module _ {X : Type 0} where
  some_front : (o : Option X × QueueLists X) → (o.0 ≡ None → ⊥) → is_some o.0 ≡ true
  some_front o some = grind arith

  -- the global queue is empty: a runner's queue decides
  pub front_found : (o : Option ℕ) (q : QueueLists X) → first_occupied q.locals ≡ o → is_some (front_at o q).0 ≡ is_some o
  front_found o q found = grind (arith, some_front, some_occupied, local_front-none)

  pub any_by_locals : (q : QueueLists X) → q.global ≡ [] → is_some (search_any q).0 ≡ is_some (first_occupied q.locals)
  any_by_locals q empty = ap (λ es. is_some (any_front es q).0) empty ∙ front_found (first_occupied q.locals) q refl

pub some-map : {X Y : Type 0} (f : X → Y) (o : Option X) → is_some (option_map f o) ≡ is_some o
some-map f o = grind arith

pub none_of : {X : Type 0} (o : Option X) → is_some o ≡ false → o ≡ None
none_of o is = grind arith
