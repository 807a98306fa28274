pub mod CarriedOut
pub mod Gaining
pub mod HoldsWanted
pub mod Refusals
pub mod StopWaiting
