pub mod Subtrees
