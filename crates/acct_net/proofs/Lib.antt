mod DropLemmas
mod PlaceLemmas
mod SearchLemmas
mod TurnLemmas
