pub mod Ends
pub mod Exchanges
pub mod Laws
pub mod Pages
pub mod Served
pub mod Speakers
