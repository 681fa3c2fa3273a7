mod AreBytes
mod Codes
pub mod Replied
mod Data
pub mod Heard
pub mod OnePacket
mod Meant
mod Refusable
mod Reported
mod Read
mod Made
mod Panels
mod Laid
mod Some
mod SomeMemory
mod SomePin
mod SomeBare
mod SomeKey
mod Found
mod Refusals
pub mod Theorems
pub mod Library
