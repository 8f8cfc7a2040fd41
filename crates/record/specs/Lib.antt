pub mod Numbers
pub mod Kinds
pub mod Records
pub mod SheetCheck
pub mod RecordsLeft
