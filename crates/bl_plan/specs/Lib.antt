pub mod Names
pub mod SourcePlaces
pub mod Meetings
pub mod Plans
pub mod Straight
pub mod Steps
pub mod Ways
pub mod Agreements
