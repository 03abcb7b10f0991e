pub mod Round
pub mod Slots
pub mod Ring
pub mod InRow
pub mod Items
pub mod Tasks
pub mod Views
pub mod Placing
