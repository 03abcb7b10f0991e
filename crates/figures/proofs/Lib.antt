pub mod Table
pub mod Examples
