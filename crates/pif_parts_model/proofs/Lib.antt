mod Ledgers
mod Sound
mod Moving
mod Agreeing
mod Adding
mod Reading
mod Accounting
mod Entering
mod Stepping
mod Resting
pub mod Cutting
pub mod Judging
mod Later
mod LaterMoves
mod LaterEntries
mod LaterRuns
mod LaterRests
pub mod FewUses
mod Worked
