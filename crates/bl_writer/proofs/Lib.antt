mod NodeFacts
pub mod ElementPieces
pub mod PayloadLaws
mod HeldFacts
pub mod Renderings
pub mod Pushing
pub mod Stagings
pub mod OutputForm
pub mod BlockLengths
pub mod Measures
pub mod CarriedOutput
mod DraftForm
mod DraftLimits
mod Drafted
