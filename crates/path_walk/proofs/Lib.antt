mod Reading
mod Pieces
mod Steps
mod OneWalk
