pub mod Arrows
pub mod Boxes
pub mod Drawings
pub mod Pages
pub mod Escapes
