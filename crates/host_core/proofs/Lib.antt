mod Payment
pub mod Places
pub mod ItemPlaces
pub mod Endpoints
pub mod Given
pub mod Known
pub mod CycleEnds
pub mod Holding
