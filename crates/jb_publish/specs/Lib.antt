pub mod Books
pub mod Fronts
pub mod Marks
pub mod Editions
pub mod Shows
pub mod Pairs
pub mod Publications
pub mod Accounts
