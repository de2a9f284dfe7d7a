mod KeptLaws
mod Keeping
mod FreshPasses
mod Refers
mod Seeing
mod SlotLaws
mod Through
mod Waits
