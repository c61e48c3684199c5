mod Members
mod Telling
mod Complete
