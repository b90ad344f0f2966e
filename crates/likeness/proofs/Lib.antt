pub mod Value
pub mod Rising
pub mod Alike
pub mod Near
