pub mod Texts
pub mod Rows
pub mod Steps
pub mod UnderWay
pub mod Laws
pub mod Copies
pub mod Examples
pub mod Sends
