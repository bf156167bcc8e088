pub mod FormedLaws
pub mod LimitFaults
pub mod Reading
