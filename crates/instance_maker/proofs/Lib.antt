pub mod InOrder
pub mod Spelled
pub mod Duties
pub mod Trips
pub mod Wishes
pub mod Kept
pub mod OneMade
