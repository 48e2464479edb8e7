pub mod Fitting
pub mod Lacking
pub mod Making
pub mod Values
pub mod Zeros
