mod Counts
mod Decisions
mod Fairs
mod Handles
mod Machines
mod Places
mod RunMachines
