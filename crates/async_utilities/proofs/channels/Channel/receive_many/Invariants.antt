use Rattle.std.proofs.Common.{◌≡◌, ◌≤◌, ◌+◌, take, vec_len}
use Rattle.std.specs.Prelude.{vec_capacity}
use Rattle.async_utilities.proofs.channels.Channel.receive_many.Given as goal

-- so many messages were taken, and stand behind the others
abbrev pub invariant-loop : goal.invariant-loop
invariant-loop g l = record {
  most : l.taken ≤ l.fn.most;
  count : vec_len l.messages ≡ vec_len l.fn.messages + l.taken;
  front : take (vec_len l.fn.messages) l.messages.items ≡ l.fn.messages.items;
  room : vec_capacity l.messages ≡ vec_capacity l.fn.messages;
}
