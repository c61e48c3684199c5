mod InParts
mod Sides
mod Tried
