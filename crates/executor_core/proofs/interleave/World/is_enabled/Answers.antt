use Rattle.std.proofs.Common.{◌∙◌, ap, inl, inr, not, is_some, nat_lt}
use Rattle.executor_core.proofs.World.Agreement.{spawned_known}
use Rattle.executor_core.proofs.interleave.World.is_enabled.Goals as goal

pub returns-in-Spawn : goal.returns-in-Spawn
returns-in-Spawn g c =
    let same = ap not c.is_closed-in-Spawn.ensures in
    elim c.in-Spawn.is [
      | inl spawn ↦ rw spawn.1 same
      | inr others ↦ elim others [
        | inl try ↦ rw try same
        | inr others ↦ elim others [ inl any ↦ rw any same | inr others ↦ elim others [ inl tick ↦ rw tick same | inr run ↦ rw run same ] ]
      ]
    ]

pub returns-in-Wake : goal.returns-in-Wake
returns-in-Wake g c = rw c.in-Wake.is (c.is_some.ensures ∙ ap is_some c.find_info.ensures ∙ spawned_known c.self.inside c.self.invariant c.self.view_is _)

pub returns-in-Ready : goal.returns-in-Ready
returns-in-Ready g c = rw c.in-Ready.is c.may_end-in-Ready.ensures

pub returns-in-Pend : goal.returns-in-Pend
returns-in-Pend g c = rw c.in-Pend.is c.may_end.ensures

pub returns-in-PollHandle : goal.returns-in-PollHandle
returns-in-PollHandle g c = rw c.in-PollHandle.is c.has_handle.ensures

pub returns-in-Cancel : goal.returns-in-Cancel
returns-in-Cancel g c = rw c.in-Cancel.is c.has_handle-in-Cancel.ensures

pub returns-in-Detach : goal.returns-in-Detach
returns-in-Detach g c = rw c.in-Detach.is c.has_handle-in-Detach.ensures

pub returns-in-DropHandle : goal.returns-in-DropHandle
returns-in-DropHandle g c = rw c.in-DropHandle.is c.has_handle-in-DropHandle.ensures

pub returns-in-Dropped : goal.returns-in-Dropped
returns-in-Dropped g c = rw c.in-Dropped.is c.may_drop.ensures

pub returns-in-Exchange : goal.returns-in-Exchange
returns-in-Exchange g c = rw c.in-Exchange.is (ap (λ w. nat_lt 0 w.notices) c.self.view_is)

pub returns-in-Notify : goal.returns-in-Notify
returns-in-Notify g c = rw c.in-Notify.is c.may_notify.ensures

pub returns-in-Register : goal.returns-in-Register
returns-in-Register g c = rw c.in-Register.is c.may_register.ensures

pub returns-in-Poll : goal.returns-in-Poll
returns-in-Poll g c = rw c.in-Poll.is c.may_poll.ensures

pub returns-in-Store : goal.returns-in-Store
returns-in-Store g c = rw c.in-Store.is c.is_held_by.ensures

pub returns-in-Fair : goal.returns-in-Fair
returns-in-Fair g c = rw c.in-Fair.is c.rests_registered.ensures

pub returns-in-Unregister : goal.returns-in-Unregister
returns-in-Unregister g c = rw c.in-Unregister.is c.rests_registered-in-Unregister.ensures

pub returns-in-Drop : goal.returns-in-Drop
returns-in-Drop g c = rw c.in-Drop.is c.may_drop_ticker.ensures

pub returns-in-Close : goal.returns-in-Close
returns-in-Close g c = rw c.in-Close.is c.may_close.ensures

pub returns-in-Leak : goal.returns-in-Leak
returns-in-Leak g c = rw c.in-Leak.is c.may_close-in-Leak.ensures
