pub mod Arguments
pub mod Constructors
pub mod Fitting
pub mod NormalTerms
pub mod Quantified
pub mod Resolution
