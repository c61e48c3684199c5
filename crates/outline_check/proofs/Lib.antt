mod Lists
mod Kept
mod Headers
mod Ruled
