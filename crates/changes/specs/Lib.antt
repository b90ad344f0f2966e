pub mod Changes
pub mod Tables
