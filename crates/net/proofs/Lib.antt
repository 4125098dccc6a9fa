pub mod Records
pub mod Codecs
pub mod Forms
