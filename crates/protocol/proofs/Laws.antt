-- Laws of functions changed at one place, of the cases of a reply, and of messages counted.
pub mod Maps
pub mod Cases
pub mod Messages
