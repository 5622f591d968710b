pub mod Runs
pub mod RunExamples
