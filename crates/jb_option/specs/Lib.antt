pub mod Table
pub mod Events
pub mod Laws
