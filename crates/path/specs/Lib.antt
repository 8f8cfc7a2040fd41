pub mod Letters
pub mod Paths
pub mod Window
pub mod Conflict
pub mod Instants
pub mod inner
