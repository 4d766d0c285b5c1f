-- What polls answer.
use Rattle.std.specs.Prelude.{◌≡◌, Option, Some, None, IfErr, IfSome, Result}
use Rattle.executor_core.specs.declared.task.future.Poll.{Poll}
use Rattle.executor_core.specs.declared.task.future.Poll.TheVariants.{Ready, Pending}

-- an output in an option is an answer, and without one there is none
abbrev pub answer_of : {T : Type 0} → Option T → Poll T
answer_of (Some output) = Ready output
answer_of None = Pending

-- a fact of the output, if there is one
abbrev pub IfReady : {T : Type 0} → Poll T → (T → Type 0) → Type 0
IfReady (Ready output) P = P output
IfReady Pending P = Unit {0}

-- a fact of what a future has before and after a poll, unless it is over
abbrev pub IfGoesOn : {S : Type 0} → Option S → Option S → (S → S → Type 0) → Type 0
IfGoesOn old new P = IfSome old (λ before. IfSome new (λ after. P before after))

-- an answer that is an error gives back what was there
abbrev pub GivesBack : {A T : Type 0} → Poll (Result A T) → Option T → Type 0
GivesBack polled was = IfReady polled (λ answer. IfErr answer (λ failed. was ≡ Some failed))

-- the output is made of another one
abbrev pub IsMade : {C A B : Type 0} → (C → A → B) → C → Poll B → Type 0
IsMade {C} {A} {B} makes change polled = IfReady polled (λ made. (output : A) × (made ≡ makes change output))

-- polls by wakers of the type W gave this output: each but the last was pending
pub data Gives {S W T : Type 0} (step : S → W → Poll T → S → Type 0) : S → T → Type 0 where
  now : (s : S) (w : W) (output : T) (t : S) → step s w (Ready output) t → Gives step s output
  later : (s : S) (w : W) (t : S) (output : T) → step s w Pending t → Gives step t output → Gives step s output
