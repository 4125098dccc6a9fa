pub mod Codecs
pub mod Form
