-- characters
pub mod CharacterReferences
pub mod References
