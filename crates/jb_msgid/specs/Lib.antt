pub mod Address
pub mod Answer
pub mod Serial
pub mod Text
pub mod Unquoting
