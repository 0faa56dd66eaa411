-- The machine of words: each word is data, and each run of blanks white space; a word after a number sign is a tag. A document with a third
-- blank in a row, or with a sign without a word, is refused. An edit drops the blanks before the first word.
use Rattle.std.specs.Prelude.{◌≡◌, ◌⊎◌, ℕ, ◌+◌, ◌-◌, ◌^◌, ◌==◌, ◌∷◌, [], List, Bool, true, false, cond, min, Option, Some, None, codes}
use Rattle.markdown_base.specs.declared.event.Event.{Event}
use Rattle.markdown_base.specs.declared.event.Kind.TheVariants.{Enter, Exit}
use Rattle.markdown_base.specs.declared.event.Name.TheVariants.{Data, HeadingAtxSequence, SpaceOrTab}
use Rattle.markdown_base.specs.declared.message.Message.{Message}
use Rattle.markdown_base.specs.declared.state.State.{State}
use Rattle.markdown_base.specs.declared.state.State.TheVariants.{Next, Retry, Ok, Error}
use Rattle.markdown_base.specs.declared.state.TheConstants.Name.{TextStart, SpaceOrTabInside, DataStart, DataAtBreak, DataInside}
use Rattle.markdown_tokenizer.specs.Text.{Given}
use Rattle.markdown_tokenizer.specs.Configuration.{Configuration, Local, Choice}
use Rattle.markdown_edits.specs.Edits.{Edit, edit_at, added_after}
use Rattle.markdown_tokenizer.specs.Plain.{HaveNoLinks}
use Rattle.markdown_tokenizer.specs.Sight.{Sight}
use Rattle.markdown_tokenizer.specs.Rules.{Rules}
use Rattle.markdown_tokenizer.specs.Engine.{EndsWellFormed}
use Rattle.mdconstructs_tables.specs.Rows.{enter, exit, consume, write, Rows, row, when, here, at_a_byte, StateRows, calls, state, Table}
use Rattle.mdconstructs_tables.specs.Knowledge.{knowing_rules}
use Rattle.mdconstructs_tables.specs.Tables.{counts}

-- The classes of bytes: a blank, or another
pub data WordByte : Type 0 where
  blank : WordByte
  other : WordByte

abbrev pub word_byte : ℕ → WordByte
word_byte byte = cond (byte == 32) blank other

-- a number sign, `#`, waits
abbrev pub is_sign : Option ℕ → Bool
is_sign None = false
is_sign (Some byte) = byte == 35

abbrev pub at_sign : Given → Sight → Configuration Unit Unit → Bool
at_sign g s k = is_sign s.current

-- the message of a document that is refused for a reason
abbrev pub refusal_of : List ℕ → Message
refusal_of reason = record { place = None; reason = reason; rule_id = codes "words"; source = codes "limecove" }

-- an edit that removes the first span waits
abbrev pub first_dropped : Configuration Unit Unit → Local Unit Unit
first_dropped k = record k.local { map = added_after k.local.map (edit_at 0 2 []) }

-- how many blanks there are in a row
abbrev pub one_blank : Configuration Unit Unit → Local Unit Unit
one_blank k = record k.local { tokenize_state = record k.local.tokenize_state { size_b = 1 } }

abbrev pub one_blank_more : Configuration Unit Unit → Local Unit Unit
one_blank_more k = record k.local { tokenize_state = record k.local.tokenize_state { size_b = min (k.local.tokenize_state.size_b + 1) (2 ^ 64 - 1) } }

abbrev pub are_two : Given → Sight → Configuration Unit Unit → Bool
are_two g s k = k.local.tokenize_state.size_b == 2

-- before the text
abbrev pub text_start_rows : (previous current : Option WordByte) → Rows Unit Unit
text_start_rows _ None = row [] Ok
text_start_rows _ (Some blank) = row (write first_dropped ∷ enter SpaceOrTab ∷ write one_blank ∷ consume ∷ []) (Next SpaceOrTabInside)
text_start_rows _ (Some other) = row [] (Retry DataStart)

abbrev pub text_start : StateRows WordByte Unit Unit
text_start = state TextStart text_start_rows [] (calls 2 1)

-- in blanks
abbrev pub blanks_rows : (previous current : Option WordByte) → Rows Unit Unit
blanks_rows _ None = row (exit SpaceOrTab ∷ []) Ok
blanks_rows _ (Some blank) = when are_two (row [] (Error (refusal_of (codes "a third blank in a row")))) (row (write one_blank_more ∷ consume ∷ []) (Next SpaceOrTabInside))
blanks_rows _ (Some other) = row (exit SpaceOrTab ∷ []) (Retry DataStart)

abbrev pub blanks : StateRows WordByte Unit Unit
blanks = state SpaceOrTabInside blanks_rows (SpaceOrTab ∷ []) (calls 2 1)

-- before a word, and so never at the end
abbrev pub word_start_rows : (previous current : Option WordByte) → Rows Unit Unit
word_start_rows _ _ =
    when at_sign (row (enter HeadingAtxSequence ∷ consume ∷ exit HeadingAtxSequence ∷ enter Data ∷ []) (Next DataAtBreak)) (row (enter Data ∷ consume ∷ []) (Next DataInside))

abbrev pub word_start : StateRows WordByte Unit Unit
word_start = record (state DataStart word_start_rows [] (calls 2 1)) { called = at_a_byte }

-- after a sign: the word of a tag begins
abbrev pub tag_rows : (previous current : Option WordByte) → Rows Unit Unit
tag_rows _ None = row [] (Error (refusal_of (codes "a tag without a word")))
tag_rows _ (Some blank) = row [] (Error (refusal_of (codes "a tag without a word")))
tag_rows _ (Some other) = row (consume ∷ []) (Next DataInside)

abbrev pub tag : StateRows WordByte Unit Unit
tag = record (state DataAtBreak tag_rows (Data ∷ []) (calls 2 1)) { begun = here }

-- in a word
abbrev pub word_rows : (previous current : Option WordByte) → Rows Unit Unit
word_rows _ None = row (exit Data ∷ []) Ok
word_rows _ (Some blank) = row (exit Data ∷ enter SpaceOrTab ∷ write one_blank ∷ consume ∷ []) (Next SpaceOrTabInside)
word_rows _ (Some other) = row (consume ∷ []) (Next DataInside)

abbrev pub word : StateRows WordByte Unit Unit
word = state DataInside word_rows (Data ∷ []) (calls 2 1)

abbrev pub words : Table WordByte Unit Unit
words = record { class = word_byte; first = counts; states = text_start ∷ blanks ∷ word_start ∷ tag ∷ word ∷ []; starts = TextStart ∷ [] }

-- the text was not begun
abbrev pub is_start : State → Bool
is_start (Next name) = name.number == TextStart.number
is_start (Retry name) = name.number == TextStart.number
is_start _ = false

-- blanks may be open: while they are read, and when the document was refused
abbrev pub blanks_may_be_open : State → Bool
blanks_may_be_open (Next name) = name.number == SpaceOrTabInside.number
blanks_may_be_open (Retry name) = name.number == SpaceOrTabInside.number
blanks_may_be_open (Error message) = true
blanks_may_be_open _ = false

-- the events begin with blanks: their enter and their exit, or only the enter if they may be open
abbrev pub BeginWithBlanks : (may_be_open : Bool) → List Event → Type 0
BeginWithBlanks may_be_open [] = ⊥
BeginWithBlanks may_be_open (e ∷ []) = (may_be_open ≡ true) × (e.kind ≡ Enter) × (e.name ≡ SpaceOrTab)
BeginWithBlanks may_be_open (e ∷ f ∷ events) = (e.kind ≡ Enter) × (e.name ≡ SpaceOrTab) × (f.kind ≡ Exit) × (f.name ≡ SpaceOrTab)

-- there is no edit, or the one that drops the blanks with which the events begin
abbrev pub DropNoMoreThanBlanks : (may_be_open : Bool) → List Event → List Edit → Type 0
DropNoMoreThanBlanks may_be_open events map = (map ≡ []) ⊎ ((map ≡ edit_at 0 2 [] ∷ []) × BeginWithBlanks may_be_open events)

-- What the machine knows of events and edits
pub record KnowsEdits (events : List Event) (local : Local Unit Unit) (state : State) : Type 0 where
  pub no_resolver : local.resolvers ≡ []
  pub no_links : HaveNoLinks events
  pub at_start : is_start state ≡ true → (events ≡ []) × (local.map ≡ [])
  pub edits : DropNoMoreThanBlanks (blanks_may_be_open state) events local.map

-- what the machine knows that its table does not say; it makes no choice
abbrev pub knows_edits : List Event → Local Unit Unit → List Choice → State → Type 0
knows_edits events local [] state = KnowsEdits events local state
knows_edits events local (choice ∷ choices) state = ⊥

abbrev pub words_rules : Given → Rules Unit Unit
words_rules = knowing_rules words knows_edits EndsWellFormed
