pub mod AloneLaws
pub mod ChainLaws
pub mod EmptyLaws
pub mod MarkLaws
pub mod NameLaws
pub mod NamedLaws
pub mod StepLaws
pub mod StepNames
