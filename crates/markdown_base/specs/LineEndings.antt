-- Line endings, from CommonMark's "Characters and lines".
use Rattle.std.specs.Prelude.{ℕ, List, [], ◌∷◌}
use Rattle.markdown_base.specs.declared.util.line_ending.LineEnding.{LineEnding}
use Rattle.markdown_base.specs.declared.util.line_ending.LineEnding.TheVariants.{CarriageReturnLineFeed, CarriageReturn, LineFeed}

-- the bytes of a line ending: 13 is carriage return, 10 is line feed
abbrev pub ending_text : LineEnding → List ℕ
ending_text CarriageReturnLineFeed = 13 ∷ 10 ∷ []
ending_text CarriageReturn = 13 ∷ []
ending_text LineFeed = 10 ∷ []
