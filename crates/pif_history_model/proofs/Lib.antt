pub mod Running
pub mod Entries
pub mod Completeness
pub mod Soundness
pub mod Each
pub mod Moving
pub mod Keeping
pub mod Telling
pub mod RefusedLines
pub mod Fitting
pub mod Forgetting
mod Aside
mod Even
mod Unqueued
mod Queues
mod Lagging
mod LaggingMoves
mod LaggingEntries
mod Noting
mod Needed
pub mod Taking
pub mod LineLemmas
pub mod Lent
pub mod Labelled
mod Extras
pub mod Listing
pub mod Selections
pub mod Numbers
pub mod ShownLines
mod NoRules
pub mod Widening
pub mod Gated
pub mod Always
pub mod Judging
pub mod Covered
pub mod Answered
pub mod Leading
pub mod KnownMoving
pub mod Entering
pub mod Answering
pub mod Knowing
pub mod Refuting
mod Fronts
mod KeepingByRules
mod RefusedByRules
pub mod Covering
pub mod Testing
pub mod Failing
pub mod Turns
pub mod AtOnce
pub mod Ahead
pub mod Settling
pub mod Opening
pub mod WokenTold
pub mod Unblocking
pub mod WokenMoving
pub mod WokenEntering
pub mod Returning
pub mod Reaching
pub mod Beside
pub mod Begins
pub mod Answers
pub mod Coming
pub mod Carrying
pub mod LazySettling
pub mod Lazily
