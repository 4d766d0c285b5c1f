use Rattle.async_executor.proofs.machine.run_steps.RandomGenerator.next.Goals as goal

pub returns : goal.returns
returns c = c.next_word.ensures
