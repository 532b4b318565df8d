pub mod Standing
pub mod StateFields
