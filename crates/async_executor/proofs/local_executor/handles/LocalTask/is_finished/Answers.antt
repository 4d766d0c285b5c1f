use Rattle.async_executor.proofs.local_executor.handles.LocalTask.is_finished.Goals as goal

pub returns : goal.returns
returns g c = c.is_finished.ensures
