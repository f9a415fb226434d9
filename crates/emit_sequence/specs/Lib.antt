pub mod NodesWritten
pub mod Starts
