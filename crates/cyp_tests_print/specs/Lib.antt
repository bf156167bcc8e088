pub mod PrintedExamples
