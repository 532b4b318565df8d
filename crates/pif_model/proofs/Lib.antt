pub mod Asked
pub mod Worked
pub mod WorkedHistoryOfAnEnd
pub mod WorkedRobust
pub mod WorkedConditions
pub mod WorkedDeadlines
pub mod WorkedHistoryOfABroadcast
