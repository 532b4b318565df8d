mod StepLemmas
mod Pieces
