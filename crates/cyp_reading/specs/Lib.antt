pub mod Cards
pub mod ChunkKinds
pub mod InScope
pub mod Items
pub mod Mended
pub mod Readable
pub mod ReadableTexts
