mod Asking
mod Found
mod Hands
mod OpenOnly
mod Pieces
mod StandardFacts
mod Turning
mod Whole
