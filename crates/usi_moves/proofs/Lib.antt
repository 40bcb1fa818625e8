pub mod Appending
pub mod Left
pub mod Telling
pub mod SolutionLaws
mod AnswerLaws
