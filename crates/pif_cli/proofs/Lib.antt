pub mod AgainLemmas
pub mod ApartLemmas
pub mod Driving
pub mod FilesLemmas
pub mod NotesLemmas
pub mod PartsLemmas
pub mod WordsLemmas
