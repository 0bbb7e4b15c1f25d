pub mod SampleLists
pub mod Growing
pub mod FrameLists
pub mod CodeLists
pub mod Runs
pub mod FrameSteps
