pub mod Close
pub mod Row
