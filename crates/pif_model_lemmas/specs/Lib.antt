pub mod RobustWalks
