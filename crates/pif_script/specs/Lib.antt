pub mod Scanners
