use Rattle.std.proofs.lemmas.Bool.{ltb-true, not-true}
use Rattle.executor_core.proofs.World.Steps.{step_enabled, step_does}
use Rattle.executor_core.proofs.interleave.World.make_step.Goals as goal

pub spawn-requires : goal.spawn-requires
spawn-requires g c = record { room = c.requires.room; unclosed = not-true _ (step_enabled _ _ c.in-Spawn.is c.requires.enabled) }

pub returns-in-Spawn : goal.returns-in-Spawn
returns-in-Spawn g c = step_does _ _ _ c.in-Spawn.is _ _ c.spawn.ensures

pub wake-requires : goal.wake-requires
wake-requires g c = record { room = c.requires.room; enabled = step_enabled _ _ c.in-Wake.is c.requires.enabled }

pub returns-in-Wake : goal.returns-in-Wake
returns-in-Wake g c = step_does _ _ _ c.in-Wake.is _ _ c.wake.ensures

pub try_tick-requires : goal.try_tick-requires
try_tick-requires g c = record { room = c.requires.room }

pub returns-in-TryTick : goal.returns-in-TryTick
returns-in-TryTick g c = step_does _ _ _ c.in-TryTick.is _ _ c.try_tick.ensures

pub try_any-requires : goal.try_any-requires
try_any-requires g c = record { room = c.requires.room; enabled = step_enabled _ _ c.in-TryAny.is c.requires.enabled }

pub returns-in-TryAny : goal.returns-in-TryAny
returns-in-TryAny g c = step_does _ _ _ c.in-TryAny.is _ _ c.try_any.ensures

pub pend-requires : goal.pend-requires
pend-requires g c = record { room = c.requires.room; enabled = step_enabled _ _ c.in-Pend.is c.requires.enabled }

pub returns-in-Pend : goal.returns-in-Pend
returns-in-Pend g c = step_does _ _ _ c.in-Pend.is _ _ c.pend.ensures

pub ready-requires : goal.ready-requires
ready-requires g c = record { room = c.requires.room; enabled = step_enabled _ _ c.in-Ready.is c.requires.enabled }

pub returns-in-Ready : goal.returns-in-Ready
returns-in-Ready g c = step_does _ _ _ c.in-Ready.is _ _ c.ready.ensures

pub poll_handle-requires : goal.poll_handle-requires
poll_handle-requires g c = record { room = c.requires.room; enabled = step_enabled _ _ c.in-PollHandle.is c.requires.enabled }

pub returns-in-PollHandle : goal.returns-in-PollHandle
returns-in-PollHandle g c = step_does _ _ _ c.in-PollHandle.is _ _ c.poll_handle.ensures

pub cancel-requires : goal.cancel-requires
cancel-requires g c = record { room = c.requires.room; enabled = step_enabled _ _ c.in-Cancel.is c.requires.enabled }

pub returns-in-Cancel : goal.returns-in-Cancel
returns-in-Cancel g c = step_does _ _ _ c.in-Cancel.is _ _ c.cancel.ensures

pub detach-requires : goal.detach-requires
detach-requires g c = record { room = c.requires.room; enabled = step_enabled _ _ c.in-Detach.is c.requires.enabled }

pub returns-in-Detach : goal.returns-in-Detach
returns-in-Detach g c = step_does _ _ _ c.in-Detach.is _ _ c.detach.ensures

pub drop_handle-requires : goal.drop_handle-requires
drop_handle-requires g c = record { room = c.requires.room; enabled = step_enabled _ _ c.in-DropHandle.is c.requires.enabled }

pub returns-in-DropHandle : goal.returns-in-DropHandle
returns-in-DropHandle g c = step_does _ _ _ c.in-DropHandle.is _ _ c.drop_handle.ensures

pub dropped-requires : goal.dropped-requires
dropped-requires g c = record { room = c.requires.room; enabled = step_enabled _ _ c.in-Dropped.is c.requires.enabled }

pub returns-in-Dropped : goal.returns-in-Dropped
returns-in-Dropped g c = step_does _ _ _ c.in-Dropped.is _ _ c.dropped.ensures

pub exchange-requires : goal.exchange-requires
exchange-requires g c = record { room = c.requires.room; enabled = ltb-true _ _ (step_enabled _ _ c.in-Exchange.is c.requires.enabled) }

pub returns-in-Exchange : goal.returns-in-Exchange
returns-in-Exchange g c = step_does _ _ _ c.in-Exchange.is _ _ c.exchange.ensures

pub notify-requires : goal.notify-requires
notify-requires g c = record { room = c.requires.room; enabled = step_enabled _ _ c.in-Notify.is c.requires.enabled }

pub returns-in-Notify : goal.returns-in-Notify
returns-in-Notify g c = step_does _ _ _ c.in-Notify.is _ _ c.notify.ensures

pub tick-requires : goal.tick-requires
tick-requires g c = record { room = c.requires.room; unclosed = not-true _ (step_enabled _ _ c.in-Tick.is c.requires.enabled) }

pub returns-in-Tick : goal.returns-in-Tick
returns-in-Tick g c = step_does _ _ _ c.in-Tick.is _ _ c.tick.ensures

pub poll-requires : goal.poll-requires
poll-requires g c = record { room = c.requires.room; enabled = step_enabled _ _ c.in-Poll.is c.requires.enabled }

pub returns-in-Poll : goal.returns-in-Poll
returns-in-Poll g c = step_does _ _ _ c.in-Poll.is _ _ c.poll.ensures

pub search-requires : goal.search-requires
search-requires g c = record { room = c.requires.room; enabled = step_enabled _ _ c.in-Search.is c.requires.enabled }

pub returns-in-Search : goal.returns-in-Search
returns-in-Search g c = step_does _ _ _ c.in-Search.is _ _ c.search.ensures

pub sleep-requires : goal.sleep-requires
sleep-requires g c = record { room = c.requires.room; enabled = step_enabled _ _ c.in-Sleep.is c.requires.enabled }

pub returns-in-Sleep : goal.returns-in-Sleep
returns-in-Sleep g c = step_does _ _ _ c.in-Sleep.is _ _ c.sleep.ensures

pub yield_now-requires : goal.yield_now-requires
yield_now-requires g c = record { room = c.requires.room; enabled = step_enabled _ _ c.in-Yield.is c.requires.enabled }

pub returns-in-Yield : goal.returns-in-Yield
returns-in-Yield g c = step_does _ _ _ c.in-Yield.is _ _ c.yield_now.ensures

pub remove-requires : goal.remove-requires
remove-requires g c = record { room = c.requires.room; enabled = step_enabled _ _ c.in-Remove.is c.requires.enabled }

pub returns-in-Remove : goal.returns-in-Remove
returns-in-Remove g c = step_does _ _ _ c.in-Remove.is _ _ c.remove.ensures

pub store-requires : goal.store-requires
store-requires g c = record { room = c.requires.room; enabled = step_enabled _ _ c.in-Store.is c.requires.enabled }

pub returns-in-Store : goal.returns-in-Store
returns-in-Store g c = step_does _ _ _ c.in-Store.is _ _ c.store.ensures

pub drop_ticker-requires : goal.drop_ticker-requires
drop_ticker-requires g c = record { room = c.requires.room; enabled = step_enabled _ _ c.in-Drop.is c.requires.enabled }

pub returns-in-Drop : goal.returns-in-Drop
returns-in-Drop g c = step_does _ _ _ c.in-Drop.is _ _ c.drop_ticker.ensures

pub make_run-requires : goal.make_run-requires
make_run-requires g c = record { room = c.requires.room; unclosed = not-true _ (step_enabled _ _ c.in-Run.is c.requires.enabled) }

pub returns-in-Run : goal.returns-in-Run
returns-in-Run g c = step_does _ _ _ c.in-Run.is _ _ c.make_run.ensures

pub register-requires : goal.register-requires
register-requires g c = record { room = c.requires.room; enabled = step_enabled _ _ c.in-Register.is c.requires.enabled }

pub returns-in-Register : goal.returns-in-Register
returns-in-Register g c = step_does _ _ _ c.in-Register.is _ _ c.register.ensures

pub fair-requires : goal.fair-requires
fair-requires g c = record { room = c.requires.room; enabled = step_enabled _ _ c.in-Fair.is c.requires.enabled }

pub returns-in-Fair : goal.returns-in-Fair
returns-in-Fair g c = step_does _ _ _ c.in-Fair.is _ _ c.fair.ensures

pub unregister-requires : goal.unregister-requires
unregister-requires g c = record { room = c.requires.room; enabled = step_enabled _ _ c.in-Unregister.is c.requires.enabled }

pub returns-in-Unregister : goal.returns-in-Unregister
returns-in-Unregister g c = step_does _ _ _ c.in-Unregister.is _ _ c.unregister.ensures

pub close-requires : goal.close-requires
close-requires g c = record { room = c.requires.room; enabled = step_enabled _ _ c.in-Close.is c.requires.enabled }

pub returns-in-Close : goal.returns-in-Close
returns-in-Close g c = step_does _ _ _ c.in-Close.is _ _ c.close.ensures

pub drain-requires : goal.drain-requires
drain-requires g c = record { room = c.requires.room; enabled = step_enabled _ _ c.in-Drain.is c.requires.enabled }

pub returns-in-Drain : goal.returns-in-Drain
returns-in-Drain g c = step_does _ _ _ c.in-Drain.is _ _ c.drain.ensures

pub leak-requires : goal.leak-requires
leak-requires g c = record { room = c.requires.room; enabled = step_enabled _ _ c.in-Leak.is c.requires.enabled }

pub returns-in-Leak : goal.returns-in-Leak
returns-in-Leak g c = step_does _ _ _ c.in-Leak.is _ _ c.leak.ensures
