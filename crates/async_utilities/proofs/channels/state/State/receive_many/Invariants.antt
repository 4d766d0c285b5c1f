use Rattle.std.proofs.Common.{◌≡◌, ◌+◌, ◌++◌, take, vec_len}
use Rattle.std.specs.Prelude.{vec_capacity}
use Rattle.async_utilities.specs.ChannelSteps.{SameEnds}
use Rattle.async_utilities.proofs.channels.state.State.receive_many.Given as goal

-- so many messages stand behind the others, and nothing else changed
abbrev pub invariant-loop-count : goal.invariant-loop-count
invariant-loop-count g l = record {
  moved : l.list.items ++ l.self.messages.items ≡ l.fn.list.items ++ l.fn.self.messages.items;
  count : vec_len l.list ≡ vec_len l.fn.list + l.count;
  front : take (vec_len l.fn.list) l.list.items ≡ l.fn.list.items;
  room : vec_capacity l.list ≡ vec_capacity l.fn.list;
  ends : SameEnds l.fn.self l.self;
  receivers : l.self.receivers.waiters ≡ l.fn.self.receivers.waiters;
}
