-- What is promised of strings.
use Rattle.std.specs.Prelude.{◌≡◌, ◌<◌, ◌&&◌, ℕ, Bool, true, false, List, [], ◌∷◌, ◌++◌}
use Rattle.std.specs.List.{AllByRecursion}
use Rattle.markdown_base.specs.declared.configuration.Constructs.{Constructs}
use Rattle.markdown_base.specs.declared.event.Event.{Event}
use Rattle.markdown_base.specs.declared.event.Name.TheVariants.{Data}
use Rattle.markdown_base.specs.Events.{IsBalanced, IsInOrder, IsVoidTight}
use Rattle.markdown_base.specs.Virtual.{Seat, virtual}
use Rattle.markdown_tokenizer.specs.AtPlaces.{AreAtPlaces}
use Rattle.markdown_tokenizer.specs.Engine.{IsWellFormed}
use Rattle.markdown_tokenizer.specs.Plain.{HaveNoLinks}
use Rattle.markdown_tokenizer.specs.Text.{Given}
use Rattle.mdconstructs_machines.specs.Innermost.{AccountFor}
use Rattle.mdinline_constructs.specs.StringItems.{is_string_special, string_seat_events}
use Rattle.mdinline_link_strings.specs.Strings.{in_string_after, is_data, with_strings, with_strings_from}
use Rattle.mdinline_text_machine.specs.Parts.{leaf}

-- Where strings are read, a balanced list stays balanced, a list without links has none, and void spans stay empty
abbrev pub StringsKeepLists : Type 0
StringsKeepLists = (on : Constructs) (t : ℕ) (bytes : List ℕ) (es : List Event)
    → (IsBalanced es → IsBalanced (with_strings on t bytes es)) × (HaveNoLinks es → HaveNoLinks (with_strings on t bytes es)) × (IsVoidTight es → IsVoidTight (with_strings on t bytes es))

-- Where strings are read, events stand at places of the document, if they did
abbrev pub StringsStandAtPlaces : Type 0
StringsStandAtPlaces = (on : Constructs) (t : ℕ) (bytes : List ℕ) (es : List Event) → 0 < t → AreAtPlaces t bytes es → AreAtPlaces t bytes (with_strings on t bytes es)

-- Where strings are read, events at places of the document stay in the order of these
abbrev pub StringsKeepOrder : Type 0
StringsKeepOrder = (on : Constructs) (t : ℕ) (bytes : List ℕ) (es : List Event) → 0 < t → AreAtPlaces t bytes es → IsInOrder bytes es → IsInOrder bytes (with_strings on t bytes es)

-- Where strings are read, events stay well formed
abbrev pub StringsStayWellFormed : Type 0
StringsStayWellFormed = (on : Constructs) (g : Given) (es : List Event) → 0 < g.tab → IsWellFormed g es → IsWellFormed g (with_strings on g.tab g.bytes es)

-- Where strings are read, each virtual byte of the document stays in exactly one innermost span, if it was
abbrev pub StringsKeepInnermostSpans : Type 0
StringsKeepInnermostSpans = (on : Constructs) (t : ℕ) (bytes : List ℕ) (es : List Event) → 0 < t → AccountFor es bytes (virtual t bytes) → AccountFor (with_strings on t bytes es) bytes (virtual t bytes)

-- these are some of the virtual bytes of a document, one behind another
abbrev pub AreOf : (t : ℕ) → List ℕ → List Seat → Type 0
AreOf t bytes seats = (before behind : List Seat) × (virtual t bytes ≡ before ++ (seats ++ behind))

-- Data that stands in a string for virtual bytes of a document comes to be what these are as a string
abbrev pub DataIsReadAsString : Type 0
DataIsReadAsString = (on : Constructs) (t : ℕ) (bytes : List ℕ) (s : Seat) (ss : List Seat) → 0 < t → AreOf t bytes (s ∷ ss)
    → with_strings_from on t bytes true (leaf bytes Data (s ∷ ss)) ≡ string_seat_events on bytes (s ∷ ss)

-- none of them is a line feed, a backslash or `&`
abbrev pub ArePlain : List Seat → Type 0
ArePlain seats = AllByRecursion (λ s. is_string_special s.byte ≡ false) seats

-- two events are data that stands for such virtual bytes of a document
abbrev pub IsPlainData : (t : ℕ) → List ℕ → (e f : Event) → Type 0
IsPlainData t bytes e f = (s : Seat) × (ss : List Seat) × (e ∷ f ∷ [] ≡ leaf bytes Data (s ∷ ss)) × AreOf t bytes (s ∷ ss) × ArePlain (s ∷ ss)

-- so it is with all data in strings
abbrev pub HavePlainStrings : (t : ℕ) → List ℕ → (inside : Bool) → List Event → Type 0
HavePlainStrings t bytes inside [] = Unit {0}
HavePlainStrings t bytes inside (e ∷ []) = Unit {0}
HavePlainStrings t bytes inside (e ∷ f ∷ es) =
    ((inside && is_data e f) ≡ true → IsPlainData t bytes e f × HavePlainStrings t bytes inside es)
    × ((inside && is_data e f) ≡ false → HavePlainStrings t bytes (in_string_after inside e) (f ∷ es))

-- Where no backslash and no `&` is in a string, nothing changes
abbrev pub PlainStringsStay : Type 0
PlainStringsStay = (on : Constructs) (t : ℕ) (bytes : List ℕ) (es : List Event) → 0 < t → HavePlainStrings t bytes false es → with_strings on t bytes es ≡ es
