pub mod Sheet
pub mod Places
pub mod Faults
pub mod Calls
pub mod Law
pub mod Meaning
