-- What is said of a line. `Page`: what stands on a page; `Fields`: how many figures a line has; `Marks`: where a byte stands.
pub mod Page
pub mod Fields
pub mod Marks
