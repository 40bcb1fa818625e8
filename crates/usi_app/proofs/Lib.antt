pub mod Exchanges
pub mod Answering
