mod Bounding
mod Relocating
mod Writing
mod Listing
