pub mod Sign
pub mod Catalogue
pub mod ReactionTable
pub mod Advised
pub mod Table1
pub mod inner
