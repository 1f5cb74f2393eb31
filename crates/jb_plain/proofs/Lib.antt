pub mod FitLaws
pub mod Lists
pub mod SeenLaws
pub mod SmallLaws
pub mod SubjectLaws
pub mod Walks
