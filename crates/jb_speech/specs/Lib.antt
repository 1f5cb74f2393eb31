pub mod Posture
pub mod Laws
pub mod Conversations
