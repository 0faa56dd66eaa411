-- Rows that read resources.
use Rattle.std.specs.Prelude.{ℕ, ◌-◌, ◌==◌, ◌&&◌, ◌||◌, nat_le, Bool, true, false, List, [], ◌∷◌, ◌++◌, Option, Some, None}
use Rattle.markdown_base.specs.declared.event.Name.{Name as EventName}
use Rattle.markdown_base.specs.declared.event.Name.TheVariants.{Data, LineEnding, SpaceOrTab, Resource, ResourceDestination, ResourceDestinationLiteral, ResourceDestinationLiteralMarker, ResourceDestinationRaw, ResourceDestinationString, ResourceMarker, ResourceTitle, ResourceTitleMarker, ResourceTitleString}
use Rattle.markdown_base.specs.declared.state.Name.{Name}
use Rattle.markdown_base.specs.declared.state.State.TheVariants.{Next, Retry, Ok, Nok}
use Rattle.markdown_base.specs.declared.state.TheConstants.Name.{TextBeforeData, LabelEndResourceStart, LabelEndResourceBefore, LabelEndResourceOpen, LabelEndResourceDestinationAfter, LabelEndResourceEnd, DestinationEnclosedBefore, DestinationEnclosed, DestinationEnclosedEscape, DestinationRaw, DestinationRawEscape, TitleStart, TitleBegin, TitleAfterEol, TitleInside, TitleEscape}
use Rattle.markdown_tokenizer.specs.Text.{Given}
use Rattle.markdown_tokenizer.specs.Configuration.{Configuration, Local}
use Rattle.markdown_tokenizer.specs.Sight.{Sight}
use Rattle.mdinline_labels.specs.Tails.{ends_raw, is_raw_end, is_white}
use Rattle.mdconstructs_tables.specs.Numbers.{Price, by_left}
use Rattle.mdconstructs_tables.specs.Rows.{Act, enter, exit, consume, write, Rows, row, when, StateRows, state}
use Rattle.mdinline_text_machine.specs.Bytes.{passes}
use Rattle.mdinline_text_machine.specs.Construct.{Found, Construct, if_option, tried}
use Rattle.mdinline_text_machine.specs.TextBytes.{TextByte, punctuation}
use Rattle.mdinline_text_machine.specs.TextCosts.{text_cost}
use Rattle.mdinline_text_machine.specs.TextSizes.{size_b_is, size_b_grows}
use Rattle.mdinline_link_tails.specs.Resource.{resource_grammar}
use Rattle.mdinline_link_tails.specs.declared.names.TheConstants.{ResourceGapWhite, ResourceGapLine, ResourceGapLineWhite, ResourceDestinationEnd, ResourceTitleWhite, ResourceTitleEnd}

-- the class of parentheses and quotation marks
abbrev pub is_punctuation_class : TextByte → Bool
is_punctuation_class punctuation = true
is_punctuation_class _ = false

-- white space, or a line ending
abbrev pub is_gap_byte : ℕ → Bool
is_gap_byte b = is_white b || (b == 10)

-- what a destination with marks may not have
abbrev pub is_not_enclosed : ℕ → Bool
is_not_enclosed b = (b == 60) || (b == 10)

module _ {R D : Type 0} where
  -- a byte waits, and passes the test
  abbrev pub shows : (test : ℕ → Bool) → Given → Sight → Configuration R D → Bool
  shows test g s k = passes test s.current

  -- this byte waits
  abbrev pub waits : ℕ → Given → Sight → Configuration R D → Bool
  waits byte g s k = passes (λ b. b == byte) s.current

  -- What white space stands before is kept: 0 is a destination, 1 a title, and 2 the end
  abbrev pub stands_before_is : ℕ → Configuration R D → Local R D
  stands_before_is n k = record k.local { tokenize_state = record k.local.tokenize_state { marker_b = n } }

  abbrev pub is_before : ℕ → Given → Sight → Configuration R D → Bool
  is_before n g s k = k.local.tokenize_state.marker_b == n

  -- the mark that closes a title is kept
  abbrev pub title_closes_with : ℕ → Configuration R D → Local R D
  title_closes_with byte k = record k.local { tokenize_state = record k.local.tokenize_state { marker = byte } }

  -- it waits
  abbrev pub title_closes : Given → Sight → Configuration R D → Bool
  title_closes g s k = passes (λ b. b == k.local.tokenize_state.marker) s.current

  -- a parenthesis waits in a title in parentheses
  abbrev pub title_nests : Given → Sight → Configuration R D → Bool
  title_nests g s k = passes (λ b. (b == 40) && (k.local.tokenize_state.marker == 41)) s.current

  -- one parenthesis less is open
  abbrev pub size_b_falls : Configuration R D → Local R D
  size_b_falls k = size_b_is (k.local.tokenize_state.size_b - 1) k

  -- no parenthesis is open in a destination
  abbrev pub all_are_closed : Given → Sight → Configuration R D → Bool
  all_are_closed g s k = k.local.tokenize_state.size_b == 0

  -- a destination without marks ends at the byte that waits
  abbrev pub raw_ends : Given → Sight → Configuration R D → Bool
  raw_ends g s k = passes (is_raw_end k.local.tokenize_state.size_b false) s.current

  -- a parenthesis waits, and no more may be open
  abbrev pub is_too_deep : Given → Sight → Configuration R D → Bool
  is_too_deep g s k = passes (λ b. (b == 40) && nat_le 32 k.local.tokenize_state.size_b) s.current

  -- no resource is there
  abbrev pub no_resource : Rows R D
  no_resource = row [] Nok

  -- the rows of a state: at the end of the text no resource is there
  abbrev pub at_bytes_only : Rows R D → (previous current : Option TextByte) → Rows R D
  at_bytes_only others _ None = no_resource
  at_bytes_only others _ (Some _) = others

  -- a byte is read
  abbrev pub reads_on : List (Act R D) → Name → Rows R D
  reads_on begun name = row (begun ++ consume ∷ []) (Next name)

  -- a byte of a string is read: a backslash hides the next one
  abbrev pub reads_string : List (Act R D) → (escape inside : Name) → Rows R D
  reads_string begun escape inside = when (waits 92) (reads_on begun escape) (reads_on begun inside)

  -- a line ending is read
  abbrev pub ends_line : List (Act R D) → Name → Rows R D
  ends_line ended name = row (ended ++ enter LineEnding ∷ consume ∷ exit LineEnding ∷ []) (Next name)

  -- white space ends: a destination follows, or a title, or the end
  abbrev pub gap_ends : List (Act R D) → Rows R D
  gap_ends ended = when (is_before 0) (row ended (Retry LabelEndResourceOpen)) (when (is_before 1) (row ended (Retry TitleStart)) (row ended (Retry LabelEndResourceEnd)))

  -- Resource: it begins with `(`
  abbrev pub resource_start_rows : Rows R D
  resource_start_rows =
      when (waits 40) (row (write (stands_before_is 0) ∷ enter Resource ∷ enter ResourceMarker ∷ consume ∷ exit ResourceMarker ∷ []) (Next LabelEndResourceBefore)) no_resource

  -- White space may begin
  abbrev pub resource_before_rows : Rows R D
  resource_before_rows =
      when (shows is_white) (reads_on (enter SpaceOrTab ∷ []) ResourceGapWhite) (when (waits 10) (ends_line [] ResourceGapLine) (gap_ends []))

  -- In white space before a line ending
  abbrev pub gap_white_rows : Rows R D
  gap_white_rows =
      when (shows is_white) (reads_on [] ResourceGapWhite) (when (waits 10) (ends_line (exit SpaceOrTab ∷ []) ResourceGapLine) (gap_ends (exit SpaceOrTab ∷ [])))

  -- Behind the line ending of white space
  abbrev pub gap_line_rows : Rows R D
  gap_line_rows =
      when (shows is_white) (reads_on (enter SpaceOrTab ∷ []) ResourceGapLineWhite) (gap_ends [])

  -- In white space behind it
  abbrev pub gap_line_white_rows : Rows R D
  gap_line_white_rows =
      when (shows is_white) (reads_on [] ResourceGapLineWhite) (gap_ends (exit SpaceOrTab ∷ []))

  -- a destination without marks begins
  abbrev pub begins_raw : List (Act R D)
  begins_raw = enter ResourceDestination ∷ enter ResourceDestinationRaw ∷ enter ResourceDestinationString ∷ enter Data ∷ []

  -- A destination may begin
  abbrev pub resource_open_rows : Rows R D
  resource_open_rows =
      when (waits 41) (row [] (Retry LabelEndResourceEnd))
      (when (waits 60) (row (enter ResourceDestination ∷ enter ResourceDestinationLiteral ∷ enter ResourceDestinationLiteralMarker ∷ consume ∷ exit ResourceDestinationLiteralMarker ∷ []) (Next DestinationEnclosedBefore))
      (when (shows ends_raw) no_resource
      (when (waits 40) (reads_on (write (size_b_is 1) ∷ begins_raw) DestinationRaw) (reads_string (write (size_b_is 0) ∷ begins_raw) DestinationRawEscape DestinationRaw))))

  -- Behind the `<` of a destination
  abbrev pub enclosed_before_rows : Rows R D
  enclosed_before_rows =
      when (waits 62) (row [] (Retry ResourceDestinationEnd))
      (when (shows is_not_enclosed) no_resource
      (reads_string (enter ResourceDestinationString ∷ enter Data ∷ []) DestinationEnclosedEscape DestinationEnclosed))

  -- In a destination with marks
  abbrev pub enclosed_rows : Rows R D
  enclosed_rows =
      when (waits 62) (row (exit Data ∷ exit ResourceDestinationString ∷ []) (Retry ResourceDestinationEnd))
      (when (shows is_not_enclosed) no_resource (reads_string [] DestinationEnclosedEscape DestinationEnclosed))

  -- Behind a backslash in it
  abbrev pub enclosed_escape_rows : Rows R D
  enclosed_escape_rows =
      when (waits 10) no_resource (reads_on [] DestinationEnclosed)

  -- At its `>`
  abbrev pub destination_end_rows : Rows R D
  destination_end_rows =
      row (enter ResourceDestinationLiteralMarker ∷ consume ∷ exit ResourceDestinationLiteralMarker ∷ exit ResourceDestinationLiteral ∷ exit ResourceDestination ∷ []) (Next LabelEndResourceDestinationAfter)

  -- a destination without marks ends, if all its parentheses are closed
  abbrev pub ends_raw_destination : Rows R D
  ends_raw_destination =
      when all_are_closed (row (exit Data ∷ exit ResourceDestinationString ∷ exit ResourceDestinationRaw ∷ exit ResourceDestination ∷ []) (Retry LabelEndResourceDestinationAfter)) no_resource

  -- In a destination without marks
  abbrev pub raw_rows : Rows R D
  raw_rows =
      when raw_ends ends_raw_destination
      (when is_too_deep no_resource
      (when (waits 40) (reads_on (write size_b_grows ∷ []) DestinationRaw)
      (when (waits 41) (reads_on (write size_b_falls ∷ []) DestinationRaw) (reads_string [] DestinationRawEscape DestinationRaw))))

  -- Behind a backslash in it
  abbrev pub raw_escape_rows : Rows R D
  raw_escape_rows =
      when (shows ends_raw) ends_raw_destination (reads_on [] DestinationRaw)

  -- Behind a destination: a title may stand behind white space alone
  abbrev pub destination_after_rows : Rows R D
  destination_after_rows =
      when (shows is_gap_byte) (row (write (stands_before_is 1) ∷ []) (Retry LabelEndResourceBefore)) (row [] (Retry LabelEndResourceEnd))

  -- a title begins that this mark closes
  abbrev pub begins_title : ℕ → Rows R D
  begins_title byte = row (write (title_closes_with byte) ∷ enter ResourceTitle ∷ enter ResourceTitleMarker ∷ consume ∷ exit ResourceTitleMarker ∷ []) (Next TitleBegin)

  -- A title may begin
  abbrev pub title_start_rows : Rows R D
  title_start_rows =
      when (waits 34) (begins_title 34) (when (waits 39) (begins_title 39) (when (waits 40) (begins_title 41) (row [] (Retry LabelEndResourceEnd))))

  -- Behind the first mark of a title
  abbrev pub title_begin_rows : Rows R D
  title_begin_rows =
      when title_closes (row [] (Retry ResourceTitleEnd))
      (when title_nests no_resource
      (when (waits 10) (ends_line (enter ResourceTitleString ∷ []) TitleAfterEol) (reads_string (enter ResourceTitleString ∷ enter Data ∷ []) TitleEscape TitleInside)))

  -- In a line of a title
  abbrev pub title_inside_rows : Rows R D
  title_inside_rows =
      when title_closes (row (exit Data ∷ exit ResourceTitleString ∷ []) (Retry ResourceTitleEnd))
      (when title_nests no_resource (when (waits 10) (ends_line (exit Data ∷ []) TitleAfterEol) (reads_string [] TitleEscape TitleInside)))

  -- Behind a backslash in it
  abbrev pub title_escape_rows : Rows R D
  title_escape_rows =
      when (waits 10) (ends_line (exit Data ∷ []) TitleAfterEol) (reads_on [] TitleInside)

  -- a further line of a title: white space begins it, or data
  abbrev pub reads_line : (white begun : List (Act R D)) → Rows R D
  reads_line white begun = when (shows is_white) (reads_on white ResourceTitleWhite) (reads_string begun TitleEscape TitleInside)

  -- Behind a line ending in a title: a blank line may not follow
  abbrev pub title_line_rows : Rows R D
  title_line_rows =
      when title_closes (row (exit ResourceTitleString ∷ []) (Retry ResourceTitleEnd)) (when title_nests no_resource (when (waits 10) no_resource (reads_line (enter SpaceOrTab ∷ []) (enter Data ∷ []))))

  -- In white space behind it
  abbrev pub title_white_rows : Rows R D
  title_white_rows =
      when title_closes (row (exit SpaceOrTab ∷ exit ResourceTitleString ∷ []) (Retry ResourceTitleEnd))
      (when title_nests no_resource (when (waits 10) no_resource (reads_line [] (exit SpaceOrTab ∷ enter Data ∷ []))))

  -- At the last mark of a title
  abbrev pub title_end_rows : Rows R D
  title_end_rows =
      row (write (stands_before_is 2) ∷ enter ResourceTitleMarker ∷ consume ∷ exit ResourceTitleMarker ∷ exit ResourceTitle ∷ []) (Next LabelEndResourceBefore)

  -- At the end of a resource
  abbrev pub resource_end_rows : Rows R D
  resource_end_rows =
      when (waits 41) (row (enter ResourceMarker ∷ consume ∷ exit ResourceMarker ∷ exit Resource ∷ []) Ok) no_resource

  -- a state of a resource, with the spans that are open, and the number of calls that it takes more than four for each byte
  abbrev pub resource_state : Name → Rows R D → List EventName → (more : ℕ) → StateRows TextByte R D
  resource_state name rows spans more = tried (state name (at_bytes_only rows) spans (text_cost (by_left 0 4 more)))

  abbrev pub resource_start : StateRows TextByte R D
  resource_start = resource_state LabelEndResourceStart resource_start_rows [] 1

  abbrev pub resource_before : StateRows TextByte R D
  resource_before = resource_state LabelEndResourceBefore resource_before_rows (Resource ∷ []) 3

  abbrev pub gap_white : StateRows TextByte R D
  gap_white = resource_state ResourceGapWhite gap_white_rows (Resource ∷ SpaceOrTab ∷ []) 3

  abbrev pub gap_line : StateRows TextByte R D
  gap_line = resource_state ResourceGapLine gap_line_rows (Resource ∷ []) 3

  abbrev pub gap_line_white : StateRows TextByte R D
  gap_line_white = resource_state ResourceGapLineWhite gap_line_white_rows (Resource ∷ SpaceOrTab ∷ []) 3

  abbrev pub resource_open : StateRows TextByte R D
  resource_open = resource_state LabelEndResourceOpen resource_open_rows (Resource ∷ []) 2

  abbrev pub enclosed_before : StateRows TextByte R D
  enclosed_before = resource_state DestinationEnclosedBefore enclosed_before_rows (Resource ∷ ResourceDestination ∷ ResourceDestinationLiteral ∷ []) 2

  abbrev pub enclosed : StateRows TextByte R D
  enclosed = resource_state DestinationEnclosed enclosed_rows (Resource ∷ ResourceDestination ∷ ResourceDestinationLiteral ∷ ResourceDestinationString ∷ Data ∷ []) 2

  abbrev pub enclosed_escape : StateRows TextByte R D
  enclosed_escape = resource_state DestinationEnclosedEscape enclosed_escape_rows (Resource ∷ ResourceDestination ∷ ResourceDestinationLiteral ∷ ResourceDestinationString ∷ Data ∷ []) 2

  abbrev pub destination_end : StateRows TextByte R D
  destination_end = resource_state ResourceDestinationEnd destination_end_rows (Resource ∷ ResourceDestination ∷ ResourceDestinationLiteral ∷ []) 1

  abbrev pub raw : StateRows TextByte R D
  raw = resource_state DestinationRaw raw_rows (Resource ∷ ResourceDestination ∷ ResourceDestinationRaw ∷ ResourceDestinationString ∷ Data ∷ []) 5

  abbrev pub raw_escape : StateRows TextByte R D
  raw_escape = resource_state DestinationRawEscape raw_escape_rows (Resource ∷ ResourceDestination ∷ ResourceDestinationRaw ∷ ResourceDestinationString ∷ Data ∷ []) 5

  abbrev pub destination_after : StateRows TextByte R D
  destination_after = resource_state LabelEndResourceDestinationAfter destination_after_rows (Resource ∷ []) 4

  abbrev pub title_start : StateRows TextByte R D
  title_start = resource_state TitleStart title_start_rows (Resource ∷ []) 2

  abbrev pub title_begin : StateRows TextByte R D
  title_begin = resource_state TitleBegin title_begin_rows (Resource ∷ ResourceTitle ∷ []) 2

  abbrev pub title_inside : StateRows TextByte R D
  title_inside = resource_state TitleInside title_inside_rows (Resource ∷ ResourceTitle ∷ ResourceTitleString ∷ Data ∷ []) 2

  abbrev pub title_escape : StateRows TextByte R D
  title_escape = resource_state TitleEscape title_escape_rows (Resource ∷ ResourceTitle ∷ ResourceTitleString ∷ Data ∷ []) 2

  abbrev pub title_line : StateRows TextByte R D
  title_line = resource_state TitleAfterEol title_line_rows (Resource ∷ ResourceTitle ∷ ResourceTitleString ∷ []) 2

  abbrev pub title_white : StateRows TextByte R D
  title_white = resource_state ResourceTitleWhite title_white_rows (Resource ∷ ResourceTitle ∷ ResourceTitleString ∷ SpaceOrTab ∷ []) 2

  abbrev pub title_end : StateRows TextByte R D
  title_end = resource_state ResourceTitleEnd title_end_rows (Resource ∷ ResourceTitle ∷ []) 1

  abbrev pub resource_end : StateRows TextByte R D
  resource_end = resource_state LabelEndResourceEnd resource_end_rows (Resource ∷ []) 1

-- What its states cost: no more than four calls for each byte that is left, and a few more
abbrev pub resource_prices : List (Price TextByte)
resource_prices =
    by_left 0 4 1 ∷ by_left 0 4 3 ∷ by_left 0 4 3 ∷ by_left 0 4 3 ∷ by_left 0 4 3 ∷ by_left 0 4 2 ∷ by_left 0 4 2 ∷ by_left 0 4 2 ∷ by_left 0 4 2 ∷ by_left 0 4 1 ∷ by_left 0 4 5
    ∷ by_left 0 4 5 ∷ by_left 0 4 4 ∷ by_left 0 4 2 ∷ by_left 0 4 2 ∷ by_left 0 4 2 ∷ by_left 0 4 2 ∷ by_left 0 4 2 ∷ by_left 0 4 2 ∷ by_left 0 4 1 ∷ by_left 0 4 1 ∷ []

-- How resources are read
abbrev pub resources : {R D : Type 0} → Construct Found TextByte R D
resources = record {
  grammar = resource_grammar;
  begins = is_punctuation_class;
  allowed = if_option resource_grammar;
  start = LabelEndResourceStart;
  otherwise = TextBeforeData;
  states =
      resource_start ∷ resource_before ∷ gap_white ∷ gap_line ∷ gap_line_white ∷ resource_open ∷ enclosed_before ∷ enclosed ∷ enclosed_escape ∷ destination_end ∷ raw
      ∷ raw_escape ∷ destination_after ∷ title_start ∷ title_begin ∷ title_inside ∷ title_escape ∷ title_line ∷ title_white ∷ title_end ∷ resource_end ∷ [];
  begun = λ name w. false;
  follows = λ name. false;
}
