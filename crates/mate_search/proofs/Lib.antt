pub mod MateLaws
pub mod LineLaws
mod ValueLaws
mod StageLaws
mod OrderLaws
mod BoundLaws
mod MainLine
mod ShortestLaws
