mod Prelude
-- cuts
pub mod Anew
pub mod CutSteps
pub mod RestBytes
pub mod RestLines
-- one section
pub mod SectionBytes
pub mod SectionEvents
pub mod SectionFronts
pub mod SectionLabels
pub mod SectionLines
pub mod SectionPlaces
pub mod SectionPositions
pub mod SectionSizes
-- the list of sections
pub mod FrontSums
pub mod ListSums
-- seams
pub mod Apart
pub mod Joined
pub mod NearCuts
pub mod SettledBytes
pub mod Unique
-- trims
pub mod Trims
-- targets
pub mod AnyOf
pub mod ExitSteps
pub mod FirstSaid
pub mod SaidFirst
pub mod SaidSides
pub mod Stays
-- putting in
pub mod AskedAgain
pub mod AskedCalls
pub mod AskedInBrackets
pub mod AskedNothing
pub mod AskingCode
pub mod LabelBytes
pub mod MayStand
pub mod NewLabels
pub mod NothingNamed
pub mod PutBack
pub mod PutChanged
pub mod PutKept
pub mod PutOthers
pub mod PutSections
pub mod Rereads
pub mod ToldOthers
pub mod Touched
pub mod SameTargets
pub mod Visits
-- moved events
pub mod PartsMove
-- undefined
pub mod KeptLabels
-- positions
pub mod CharPlaces
pub mod CharSizes
pub mod CharsBack
pub mod ComeBack
pub mod CountedEndings
pub mod CutLines
pub mod LinesBack
pub mod PartStarts
pub mod StartsUpTo
pub mod TextChars
-- packed events
pub mod FitSections
pub mod PackedParts
-- laws
pub mod Below
