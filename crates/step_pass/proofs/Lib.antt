pub mod Gathering
mod Mapped
mod Whole
