mod Splitting
mod StepLemmas
mod WayLemmas
pub mod Chosen
mod TellingLemmas
mod UnlistedLemmas
mod Appending
mod RunLemmas
mod OpenCalls
mod OpenTables
mod SetLemmas
mod HealthLemmas
pub mod Pieces
mod InTheWayLemmas
