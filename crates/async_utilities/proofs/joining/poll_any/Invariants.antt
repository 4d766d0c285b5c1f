use Rattle.std.proofs.Common.{◌≡◌, drop, vec_len}
use Rattle.async_utilities.proofs.joining.poll_any.Given as goal

-- those that were not polled yet are as they were
abbrev pub invariant-loop-place : goal.invariant-loop-place
invariant-loop-place g l = record {
  all : vec_len l.futures ≡ vec_len l.initial.futures;
  others : drop l.place l.futures.items ≡ drop l.place l.initial.futures.items;
}
