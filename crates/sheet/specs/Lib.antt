pub mod WholeSheet
pub mod Example
pub mod inner
