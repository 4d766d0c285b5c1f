-- The wakers that are left at places.
use Rattle.std.specs.Prelude.{Option, Some, None}

-- the waker at a place, if there is one
abbrev pub waker_in : {W : Type 0} → Option (Option W) → Option W
waker_in None = None
waker_in (Some waker) = waker
