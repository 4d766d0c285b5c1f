pub mod Deadlines
pub mod LinkLemmas
pub mod LinkedLemmas
pub mod LockLemmas
pub mod WaitLemmas
