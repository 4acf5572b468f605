pub mod Guess
