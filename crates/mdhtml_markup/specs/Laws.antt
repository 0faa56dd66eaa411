-- Laws of text, of addresses and of pieces.
use Rattle.std.specs.List.{flat_map, list_all, list_any}
use Rattle.std.specs.Prelude.{◌≡◌, ◌↔◌, ◌++◌, ℕ, ◌*◌, ◌≤◌, Bool, true, false, List, [], length}
use Rattle.mdhtml_markup.specs.Addresses.{address, quoted_byte, written_address}
use Rattle.mdhtml_markup.specs.declared.addresses.Place.{Place}
use Rattle.mdhtml_markup.specs.Escapes.{escaped}
use Rattle.mdhtml_markup.specs.declared.elements.Element.{Element}
use Rattle.mdhtml_markup.specs.Examples.{passed, refused_addresses, refused_attributes, refused_tags, refused_texts}
use Rattle.mdhtml_markup.specs.Flow.{IsFlow}
use Rattle.mdhtml_markup.specs.Pieces.{Piece, html_from, is_fresh}
use Rattle.mdhtml_markup.specs.SafeChecks.{is_safe_behind, is_safe_html}
use Rattle.mdhtml_markup.specs.SafeHtml.{IsSafeHtml, is_allowed, is_safe_address, is_text}
use Rattle.mdhtml_markup.specs.SafePieces.{AreSafe}
use Rattle.mdhtml_markup.specs.ShownText.{said_from, text_of}

-- what is written of a text is text, whatever the text is
abbrev pub EscapesAreText : Type 0
EscapesAreText = (t : List ℕ) → is_text (escaped t) ≡ true

-- and at most six times as long
abbrev pub EscapesAreShort : Type 0
EscapesAreShort = (t : List ℕ) → length (escaped t) ≤ 6 * length t

-- an address in quotes is the address with two of its bytes as entities
abbrev pub AddressesAreQuoted : Type 0
AddressesAreQuoted = (url : List ℕ) → written_address url ≡ flat_map quoted_byte (address url)

-- what is written of an address is at most nine times as long
abbrev pub AddressesAreShort : Type 0
AddressesAreShort = (url : List ℕ) → length (written_address url) ≤ 9 * length url

-- what is written of an address that is allowed is one that has no scheme, or one that is known, whatever the address is
abbrev pub AllowedAddressesAreSafe : Type 0
AllowedAddressesAreSafe = (at : Place) (url : List ℕ) → is_allowed at url ≡ true → is_safe_address at (written_address url) ≡ true

-- the bytes of safe pieces are safe HTML
abbrev pub SafePiecesAreSafeHtml : Type 0
SafePiecesAreSafeHtml = (fresh : Bool) (tags : List Element) (ps : List Piece) → AreSafe tags ps → IsSafeHtml tags (html_from fresh ps)

-- the text between the tags of safe pieces, with its entities undone, is what they say: nothing is left out, and nothing is read otherwise
abbrev pub TextIsKept : Type 0
TextIsKept = (fresh : Bool) (tags : List Element) (ps : List Piece) → AreSafe tags ps → text_of (html_from fresh ps) ≡ said_from fresh ps

-- the bytes of pieces are those of the first ones, and then those of the others, which begin a line if the first ones end one
abbrev pub PiecesAreWrittenInOrder : Type 0
PiecesAreWrittenInOrder =
    (fresh : Bool) (ps qs : List Piece) → html_from fresh (ps ++ qs) ≡ html_from fresh ps ++ html_from (is_fresh fresh (html_from fresh ps)) qs

-- the test that can be run passes what is safe HTML, and nothing else
abbrev pub SafeHtmlIsTested : Type 0
SafeHtmlIsTested = (tags : List Element) (h : List ℕ) → (is_safe_behind tags h ≡ true) ↔ IsSafeHtml tags h

-- HTML whose tree is read as it is written is safe
abbrev pub FlowIsSafe : Type 0
FlowIsSafe = (h : List ℕ) → IsFlow h → IsSafeHtml [] h

-- the test refuses and passes these
abbrev pub ExamplesAreTested : Type 0
ExamplesAreTested = (list_any is_safe_html (refused_tags ++ (refused_attributes ++ (refused_addresses ++ refused_texts))) ≡ false) × (list_all is_safe_html passed ≡ true)
