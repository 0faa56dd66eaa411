-- places of events: at places of the document, also at noted ones; each call does what its contract says
pub mod AtPlaces
-- configuration: what was pushed; what a state changes and sees; what each call does
pub mod Text
pub mod Configuration
pub mod Sight
pub mod Calls
-- reading: the one reading, also turn by turn; what resolvers make of its end; laws of readings
pub mod Reading
pub mod Turns
pub mod Resolving
-- machines
pub mod Rules
pub mod Plain
-- configuration
pub mod Registering
-- machines
pub mod Lawful
pub mod Reserves
-- promises
pub mod Engine
-- cursor
pub mod Ranges
-- promises
pub mod Fault
-- waiting
pub mod Work
-- tokenizer
pub mod View
-- cursor
pub mod Cursor
-- tokenizer
pub mod Made
-- promises
pub mod LawStatements
pub mod Alike
pub mod Stays
-- machines
pub mod Promises
-- promises
pub mod Renames
-- configuration
pub mod Lent
-- cursor
pub mod Cuts
pub mod Gaps
-- waiting
pub mod Unwound
pub mod Over
-- places of events
pub mod Noted
