-- laws
pub mod CallLaws
pub mod Places
pub mod Insides
pub mod Unchanged
pub mod Ordered
pub mod Named
pub mod Read
pub mod Examples
-- parts: calls of both of two lists, of events that stand further on, and of parts
pub mod Both
pub mod Further
pub mod Parts
-- loops: what loops over texts, labels and events leave, turn by turn
pub mod Steps
pub mod Pushed
