pub mod TestedInOrder
