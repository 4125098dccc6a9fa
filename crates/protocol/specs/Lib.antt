-- The book of rules. Read it beside document 01, in this order.
pub mod Net
pub mod Fresh
pub mod Cases
pub mod Entries
pub mod Rules
pub mod Steps
pub mod Refusals
pub mod Runs
pub mod Names
pub mod Calls
pub mod Shaped
pub mod Sound
pub mod Apart
pub mod Demands
pub mod ExampleNets
pub mod ExampleRows
pub mod Examples
