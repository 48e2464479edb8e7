pub mod OneText
mod Examples
mod MacroExamples
