-- Examples of strikethrough, computed from the definitions: on each side of each sentence.
use Rattle.std.proofs.Common.{◌≡◌, ◌+◌, ℕ, List, [], ◌∷◌, Bool, Some, true, false, map, refl}
use Rattle.std.specs.Prelude.{◌%◌, ◌&&◌}
use Rattle.markdown_base.specs.declared.event.Kind.TheVariants.{Enter, Exit}
use Rattle.markdown_base.specs.declared.event.Name.TheVariants.{Data, GfmStrikethrough, GfmStrikethroughSequence, GfmStrikethroughText}
use Rattle.markdown_base.specs.declared.event.Point.{Point}
use Rattle.markdown_base.specs.declared.util.char.Kind.{Kind}
use Rattle.markdown_base.specs.declared.util.char.Kind.TheVariants.{Other, Punctuation, Whitespace}
use Rattle.mdinline_emphasis.specs.declared.pairs.Marker.{Marker}
use Rattle.mdinline_emphasis.specs.declared.pairs.Marker.TheVariants.{Asterisk, Tilde, Underscore}
use Rattle.mdinline_emphasis.specs.declared.pairs.Style.{Style}
use Rattle.mdinline_emphasis.specs.declared.pairs.Style.TheVariants.{Emphasis as OfEmphasis, Struck, StruckTwice}
use Rattle.mdinline_emphasis.specs.Emphasis.{Run, emphasised, paired, unlinked_event}
use Rattle.mdinline_emphasis.specs.Runs.{can_close, can_open, marker_from, may_mark}

abbrev at : ℕ → Point
at i = record { line = 1; column = i + 1; index = i; vs = 0 }

-- a run of so many markers at a place, by the classes of the characters beside it
abbrev run_by : (one_tilde : Bool) → Marker → (place many : ℕ) → (before after : Kind) → Run
run_by one_tilde marker place many before after = record {
  index = place;
  start = at place;
  marker = marker;
  rest = many % 3;
  opens = may_mark one_tilde marker many && can_open marker before after;
  closes = may_mark one_tilde marker many && can_close marker before after;
  closed = [];
  left = many;
  opened = [];
}

-- one tilde counts
abbrev run : Marker → (place many : ℕ) → (before after : Kind) → Run
run = run_by true

-- one does not
abbrev strict : Marker → (place many : ℕ) → (before after : Kind) → Run
strict = run_by false

-- what the runs of a text close, have left, and open
abbrev made : List Run → List (List Style × ℕ × List Style)
made rs = map (λ (r : Run). (r.closed, r.left, r.opened)) (paired rs)

-- a run that pairs with none
abbrev alone : ℕ → List Style × ℕ × List Style
alone left = ([], left, [])

-- `~`, and no other byte, is a tilde
a-tilde : marker_from (Some 126) ≡ Tilde
a-tilde = refl

no-tilde : marker_from (Some 95) ≡ Underscore
no-tilde = refl

-- "a matching pair of one or two tildes": `~a~` and `~~a~~`
one : made (run Tilde 0 1 Whitespace Other ∷ run Tilde 2 1 Other Whitespace ∷ []) ≡ ([], 0, Struck ∷ []) ∷ (Struck ∷ [], 0, []) ∷ []
one = refl

two : made (run Tilde 0 2 Whitespace Other ∷ run Tilde 3 2 Other Whitespace ∷ []) ≡ ([], 0, StruckTwice ∷ []) ∷ (StruckTwice ∷ [], 0, []) ∷ []
two = refl

-- they match only if they are as many: `~~a~`, `~a~~`
less : made (run Tilde 0 2 Whitespace Other ∷ run Tilde 3 1 Other Whitespace ∷ []) ≡ alone 2 ∷ alone 1 ∷ []
less = refl

more : made (run Tilde 0 1 Whitespace Other ∷ run Tilde 2 2 Other Whitespace ∷ []) ≡ alone 1 ∷ alone 2 ∷ []
more = refl

-- so a run looks on for one of its length: `~~a ~b~~`
on : made (run Tilde 0 2 Whitespace Other ∷ run Tilde 4 1 Whitespace Other ∷ run Tilde 6 2 Other Whitespace ∷ []) ≡ ([], 0, StruckTwice ∷ []) ∷ alone 1 ∷ (StruckTwice ∷ [], 0, []) ∷ []
on = refl

-- "Three or more tildes do not create a strikethrough": `~~~a~~~`, `~~~~a~~~~`
three : made (run Tilde 0 3 Whitespace Other ∷ run Tilde 4 3 Other Whitespace ∷ []) ≡ alone 3 ∷ alone 3 ∷ []
three = refl

four : made (run Tilde 0 4 Whitespace Other ∷ run Tilde 5 4 Other Whitespace ∷ []) ≡ alone 4 ∷ alone 4 ∷ []
four = refl

-- if one does not count, two do, and three do not: `~a~ ~~b~~`, `~~~a~~~`
not-one : made (strict Tilde 0 1 Whitespace Other ∷ strict Tilde 2 1 Other Whitespace ∷ strict Tilde 4 2 Whitespace Other ∷ strict Tilde 7 2 Other Whitespace ∷ [])
    ≡ alone 1 ∷ alone 1 ∷ ([], 0, StruckTwice ∷ []) ∷ (StruckTwice ∷ [], 0, []) ∷ []
not-one = refl

nor-three : made (strict Tilde 0 3 Whitespace Other ∷ strict Tilde 4 3 Other Whitespace ∷ []) ≡ alone 3 ∷ alone 3 ∷ []
nor-three = refl

-- of another marker one counts all the same: `*a*`
other : made (strict Asterisk 0 1 Whitespace Other ∷ strict Asterisk 2 1 Other Whitespace ∷ []) ≡ ([], 0, OfEmphasis ∷ []) ∷ (OfEmphasis ∷ [], 0, []) ∷ []
other = refl

-- runs in a word can close and open: `a~b~c~d`
word : made (run Tilde 1 1 Other Other ∷ run Tilde 3 1 Other Other ∷ run Tilde 5 1 Other Other ∷ []) ≡ ([], 0, Struck ∷ []) ∷ (Struck ∷ [], 0, []) ∷ alone 1 ∷ []
word = refl

-- a run opens only if it is left-flanking, and closes only if it is right-flanking: `~ a~`, `~a ~`
white-behind : made (run Tilde 0 1 Whitespace Whitespace ∷ run Tilde 3 1 Other Whitespace ∷ []) ≡ alone 1 ∷ alone 1 ∷ []
white-behind = refl

white-before : made (run Tilde 0 1 Whitespace Other ∷ run Tilde 3 1 Whitespace Whitespace ∷ []) ≡ alone 1 ∷ alone 1 ∷ []
white-before = refl

-- tildes and asterisks pair apart: `*~a*~`, `*~a~*`
crossed : made (run Asterisk 0 1 Whitespace Punctuation ∷ run Tilde 1 1 Punctuation Other ∷ run Asterisk 3 1 Other Punctuation ∷ run Tilde 4 1 Punctuation Whitespace ∷ [])
    ≡ ([], 0, OfEmphasis ∷ []) ∷ alone 1 ∷ (OfEmphasis ∷ [], 0, []) ∷ alone 1 ∷ []
crossed = refl

nested : made (run Asterisk 0 1 Whitespace Punctuation ∷ run Tilde 1 1 Punctuation Other ∷ run Tilde 3 1 Other Punctuation ∷ run Asterisk 4 1 Punctuation Whitespace ∷ [])
    ≡ ([], 0, OfEmphasis ∷ []) ∷ ([], 0, Struck ∷ []) ∷ (Struck ∷ [], 0, []) ∷ (OfEmphasis ∷ [], 0, []) ∷ []
nested = refl

-- the events of `~~a~~`, without those of its text
events : emphasised (λ k. []) (run Tilde 0 2 Whitespace Other ∷ run Tilde 3 2 Other Whitespace ∷ []) []
    ≡ unlinked_event Enter GfmStrikethrough (at 0)
    ∷ unlinked_event Enter GfmStrikethroughSequence (at 0)
    ∷ unlinked_event Exit GfmStrikethroughSequence (at 2)
    ∷ unlinked_event Enter GfmStrikethroughText (at 2)
    ∷ unlinked_event Exit GfmStrikethroughText (at 3)
    ∷ unlinked_event Enter GfmStrikethroughSequence (at 3)
    ∷ unlinked_event Exit GfmStrikethroughSequence (at 5)
    ∷ unlinked_event Exit GfmStrikethrough (at 5)
    ∷ []
events = refl

-- and of `~~~`, which is text
text : emphasised (λ k. []) (run Tilde 0 3 Whitespace Other ∷ []) [] ≡ unlinked_event Enter Data (at 0) ∷ unlinked_event Exit Data (at 3) ∷ []
text = refl
