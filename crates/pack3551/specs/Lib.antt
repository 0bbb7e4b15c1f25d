pub mod Sizes
pub mod Shown
pub mod ShownBack
pub mod Bundled
pub mod BundledBack
pub mod Packs
