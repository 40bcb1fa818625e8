pub mod Listings
pub mod Asked
pub mod Solutions
pub mod MateAnswers
pub mod Told
