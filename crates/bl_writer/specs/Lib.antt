pub mod Payloads
pub mod Calls
pub mod Lengths
pub mod Rendering
pub mod Outputs
pub mod Faults
pub mod Totals
pub mod Rendered
