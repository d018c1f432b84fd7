pub mod BlockParts
pub mod BlocksRead
pub mod OneBlockReading
