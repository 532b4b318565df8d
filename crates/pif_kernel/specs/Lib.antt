pub use Rattle.pif_model.specs.PiKernel
pub mod Answers
pub mod Found
pub mod Systems
