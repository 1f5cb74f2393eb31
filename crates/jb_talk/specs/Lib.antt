pub mod Keys
pub mod Turns
pub mod Conversations
pub mod Talking
pub mod Asking
pub mod Laws
