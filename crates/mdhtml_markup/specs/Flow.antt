-- HTML whose tree a browser reads as it is written: each tag stands where its element may stand by the content models of HTML (WHATWG's living standard,
-- "Content models"), so that no tag ends another, none is moved, and none is left out.
use Rattle.std.specs.Prelude.{◌≡◌, ℕ, ◌==◌, Bool, true, false, List, [], ◌∷◌, ◌++◌}
use Rattle.mdhtml_markup.specs.declared.elements.AttributeName.{AttributeName}
use Rattle.mdhtml_markup.specs.declared.elements.AttributeName.TheVariants as name
use Rattle.mdhtml_markup.specs.declared.elements.Element.{Element}
use Rattle.mdhtml_markup.specs.declared.elements.Element.TheVariants.{Anchor, BlockQuote, Break, Checkbox, Code, DataCell, Deleted, Emphasis, HeaderCell, Image, ListItem, OrderedList, Preformatted, Section, Strong, Superscript, Table, TableBody, TableHead, TableRow, UnorderedList}
use Rattle.mdhtml_markup.specs.SafeHtml.{attributes_of, close_tag, is_text_byte, is_value, is_void, open_tag, quoted, void_tag}

-- Where one stands: among blocks (and the text of tight items), among text (in a link or not), among the items of a list, the parts of a
-- table, its rows and the cells of one, in a `pre` before and behind its code, and in code
pub data Model : Type 0 where
  Blocks : Model
  Phrases : (in_link : Bool) → Model
  Items : Model
  Parts Rows Cells : Model
  BeforeCode BehindCode : Model
  Words : Model

-- The elements of text, in a link or not: in a link there are no links and no controls
abbrev pub is_phrase : (in_link : Bool) → Element → Bool
is_phrase in_link Break = true
is_phrase in_link Code = true
is_phrase in_link Deleted = true
is_phrase in_link Emphasis = true
is_phrase in_link Image = true
is_phrase in_link Strong = true
is_phrase in_link Superscript = true
is_phrase true Anchor = false
is_phrase false Anchor = true
is_phrase true Checkbox = false
is_phrase false Checkbox = true
is_phrase in_link e = false

-- an element may stand here
abbrev pub may_stand : Model → Element → Bool
may_stand Blocks ListItem = false
may_stand Blocks DataCell = false
may_stand Blocks HeaderCell = false
may_stand Blocks TableBody = false
may_stand Blocks TableHead = false
may_stand Blocks TableRow = false
may_stand Blocks e = true
may_stand (Phrases in_link) e = is_phrase in_link e
may_stand Items ListItem = true
may_stand Items e = false
may_stand Parts TableBody = true
may_stand Parts TableHead = true
may_stand Parts e = false
may_stand Rows TableRow = true
may_stand Rows e = false
may_stand Cells DataCell = true
may_stand Cells HeaderCell = true
may_stand Cells e = false
may_stand BeforeCode Code = true
may_stand BeforeCode e = false
may_stand BehindCode e = false
may_stand Words e = false

-- text inside an element that stands in a link is in that link too
abbrev pub phrases_in : Model → Model
phrases_in (Phrases in_link) = Phrases in_link
phrases_in m = Phrases false

-- what an element that stands here holds
abbrev pub inside : Model → Element → Model
inside m Anchor = Phrases true
inside m BlockQuote = Blocks
inside m Code = Words
inside m ListItem = Blocks
inside m OrderedList = Items
inside m Preformatted = BeforeCode
inside m Section = Blocks
inside m Table = Parts
inside m TableBody = Rows
inside m TableHead = Rows
inside m TableRow = Cells
inside m UnorderedList = Items
inside m Deleted = phrases_in m
inside m Emphasis = phrases_in m
inside m Strong = phrases_in m
inside m Superscript = phrases_in m
inside m e = Phrases false

-- where one stands behind an element that stood here: a `pre` holds its code and nothing else
abbrev pub after : Model → Model
after BeforeCode = BehindCode
after m = m

-- an element's content may end here, and text may stand here: of items and in tables, line feeds alone
abbrev pub may_end : Model → Bool
may_end BeforeCode = false
may_end m = true

abbrev pub may_say : Model → ℕ → Bool
may_say Items b = b == 10
may_say Parts b = b == 10
may_say Rows b = b == 10
may_say Cells b = b == 10
may_say BeforeCode b = false
may_say BehindCode b = false
may_say m b = true

-- the attributes that an element need not have
abbrev pub may_be_missing : AttributeName → Bool
may_be_missing name.Align = true
may_be_missing name.Checked = true
may_be_missing name.Class = true
may_be_missing name.FootnoteBack = true
may_be_missing name.FootnoteCall = true
may_be_missing name.FootnoteClass = true
may_be_missing name.Id = true
may_be_missing name.Label = true
may_be_missing name.Start = true
may_be_missing name.Title = true
may_be_missing a = false

-- an element's attributes: all of these names, in this order, but for those that may be missing
pub data AreGiven : List AttributeName → List ℕ → Type 0 where
  none : AreGiven [] []
  missing : (a : AttributeName) (names : List AttributeName) {l : List ℕ} → may_be_missing a ≡ true → AreGiven names l → AreGiven (a ∷ names) l
  given : (a : AttributeName) (names : List AttributeName) (value more : List ℕ) {l : List ℕ} → l ≡ quoted a value ++ more → is_value a value ≡ true
      → AreGiven names more → AreGiven (a ∷ names) l

-- content of a model
pub data IsContent : Model → List ℕ → Type 0 where
  end : (m : Model) → may_end m ≡ true → IsContent m []
  text : (m : Model) (b : ℕ) (h : List ℕ) {l : List ℕ} → l ≡ b ∷ h → may_say m b ≡ true → is_text_byte b h ≡ true → IsContent m h → IsContent m l
  element : (m : Model) (e : Element) (attributes content h : List ℕ) {l : List ℕ} → l ≡ open_tag e attributes ++ (content ++ (close_tag e ++ h))
      → is_void e ≡ false → may_stand m e ≡ true → AreGiven (attributes_of e) attributes → IsContent (inside m e) content → IsContent (after m) h → IsContent m l
  void : (m : Model) (e : Element) (attributes h : List ℕ) {l : List ℕ} → l ≡ void_tag e attributes ++ h
      → is_void e ≡ true → may_stand m e ≡ true → AreGiven (attributes_of e) attributes → IsContent (after m) h → IsContent m l

-- the whole
abbrev pub IsFlow : List ℕ → Type 0
IsFlow h = IsContent Blocks h
