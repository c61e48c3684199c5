mod Commutes
mod Example
