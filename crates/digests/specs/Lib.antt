pub mod Digests
pub mod Failures
pub mod Lines
pub mod Statuses
pub mod Words
