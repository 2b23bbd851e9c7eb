pub mod Answers
pub mod Laws
pub mod Going
pub mod Whole
pub mod Parts
pub mod Cuts
pub mod Ends
pub mod Listed
