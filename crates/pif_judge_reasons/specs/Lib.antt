pub mod Fronts
pub mod Found
pub mod LegalIf
pub mod InTheWay
