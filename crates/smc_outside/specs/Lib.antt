pub mod Causes
pub mod Told
pub mod Pieces
pub mod InMemory
pub mod Shelves
pub mod Folder
