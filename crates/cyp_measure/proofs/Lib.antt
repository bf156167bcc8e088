mod Examples
mod ExamplesFalling
pub mod Falls
pub mod Groups
