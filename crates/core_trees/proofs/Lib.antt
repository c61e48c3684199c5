pub mod CoreBlocks
