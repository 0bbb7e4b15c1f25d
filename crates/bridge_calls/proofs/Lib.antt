pub mod BesideWorkers
pub mod DemoRuns
pub mod Faults
pub mod Sessions
