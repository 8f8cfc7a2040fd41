pub mod Formula
pub mod Figure3
pub mod Figure5
pub mod Regions
pub mod JudgedRegion
pub mod inner
