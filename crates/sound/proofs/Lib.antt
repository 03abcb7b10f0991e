pub mod Shapes
pub mod Gives
pub mod Right
pub mod Held
pub mod Tests
pub mod Given
