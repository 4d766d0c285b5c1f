use Rattle.async_executor.proofs.sleeping.leave.Goals as goal

pub invariant_of-deref_mut : goal.invariant_of-deref_mut
invariant_of-deref_mut g c = record { closed = cc }
