pub mod WordMap
