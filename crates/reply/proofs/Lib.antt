pub mod Writing
pub mod NumbersExact
pub mod RefusalsNumbered
