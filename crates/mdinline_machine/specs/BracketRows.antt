-- Brackets and ends of labels: the part of a table that reads them. The brackets that wait are kept in what states share (`label_starts`), the last
-- one last. A label is seen through the events that were read.
use Rattle.std.specs.Prelude.{ℕ, ◌+◌, ◌-◌, drop, length, take, ◌&&◌, ◌||◌, not, reverse, Bool, true, false, cond, List, [], ◌∷◌, ◌++◌, Option, Some, None}
use Rattle.markdown_base.specs.declared.event.Event.{Event}
use Rattle.markdown_base.specs.declared.event.Name.TheVariants.{LabelEnd, LabelImage, LabelImageMarker, LabelLink, LabelMarker, Reference, ReferenceMarker}
use Rattle.markdown_base.specs.declared.state.Name.{Name}
use Rattle.markdown_base.specs.declared.state.State.TheVariants.{Next, Retry, Ok, Nok}
use Rattle.markdown_base.specs.declared.state.TheConstants.Name.{LabelEndAfter, LabelEndNok, LabelEndOk, LabelEndReferenceCollapsed, LabelEndReferenceCollapsedOpen, LabelEndReferenceFull, LabelEndReferenceNotFull, LabelEndResourceStart, LabelEndStart, LabelStartImageOpen, LabelStartImageStart, LabelStartLinkStart, TextBefore, TextBeforeData}
use Rattle.markdown_tokenizer.specs.declared.tokenizer.state.LabelKind.{LabelKind}
use Rattle.markdown_tokenizer.specs.declared.tokenizer.state.LabelKind.TheVariants.{Image, Link}
use Rattle.markdown_tokenizer.specs.declared.tokenizer.state.LabelStart.{LabelStart}
use Rattle.markdown_tokenizer.specs.declared.waiting.AttemptKind.TheVariants.{Attempt}
use Rattle.markdown_tokenizer.specs.Alike.{bytes_up_to}
use Rattle.markdown_tokenizer.specs.Configuration.{Configuration, Local}
use Rattle.markdown_tokenizer.specs.Sight.{Sight}
use Rattle.markdown_tokenizer.specs.Text.{Given}
use Rattle.mdconstructs_tables.specs.Numbers.{Price, by_left}
use Rattle.mdconstructs_tables.specs.Rows.{enter, exit, consume, choose, write, Rows, row, when, at_bytes, StateRows, state}
use Rattle.mdinline_text_machine.specs.Bytes.{passes}
use Rattle.mdinline_text_machine.specs.Construct.{tried}
use Rattle.mdinline_text_machine.specs.TextBytes.{TextByte}
use Rattle.mdinline_text_machine.specs.TextCosts.{text_cost}
use Rattle.mdinline_link_tails.specs.ResourceRows.{resources, resource_prices}
use Rattle.mdinline_full_references.specs.FullReferenceRows.{label_behind, label_is_there, label_end, label_escape, label_inside, label_line, label_start, label_white, reference_prices, reference_start}
use Rattle.mdinline_machine.specs.Brackets.{begins_bracket, begins_end, begins_image, begins_link, is_close_bracket, is_defined_label, is_open_bracket, is_own_label}
use Rattle.mdinline_machine.specs.declared.names.TheConstants.{LabelEndNotResource, LabelEndReferenceStart}
use Rattle.mdinline_machine.specs.RunRows.{is_punctuation_class, run_begins}

-- ---- the brackets that wait

-- a bracket of an image
abbrev pub is_image : LabelKind → Bool
is_image Image = true
is_image _ = false

-- how many events a bracket has
abbrev pub bracket_events : LabelKind → ℕ
bracket_events kind = cond (is_image kind) 6 4

-- A bracket that was just read, so that there are so many events: the indices of its enter and of its exit are kept
abbrev pub started : LabelKind → (count : ℕ) → LabelStart
started kind count = record { kind = kind; start = (count - bracket_events kind, count - 1); inactive = false }

-- a link is behind a bracket that is taken away, or is made of it
abbrev pub holds_link : (made : Bool) → LabelStart → Bool
holds_link made last = last.inactive || (made && not (is_image last.kind))

-- then one is behind the bracket before it, too
abbrev pub passed_on : (holds : Bool) → List LabelStart → List LabelStart
passed_on holds [] = []
passed_on holds (s ∷ ss) = record s { inactive = s.inactive || holds } ∷ ss

-- of brackets, the last one first, that one is taken away
abbrev pub without_first : (made : Bool) → List LabelStart → List LabelStart
without_first made [] = []
without_first made (s ∷ ss) = passed_on (holds_link made s) ss

-- of those that are kept, the last one is
abbrev pub without_last : (made : Bool) → List LabelStart → List LabelStart
without_last made starts = reverse (without_first made (reverse starts))

-- one waits
abbrev pub one_waits : List LabelStart → Bool
one_waits [] = false
one_waits (s ∷ ss) = true

-- of brackets, the last one first, that one may make something: it is of an image, or no link is behind it
abbrev pub may_make : List LabelStart → Bool
may_make [] = false
may_make (s ∷ ss) = is_image s.kind || not s.inactive

-- the own label of the last of brackets, the last one first, is defined: what these events say that were read behind it, in a document of these bytes
abbrev pub has_own_label : (defined : List ℕ → Bool) → List ℕ → List Event → List LabelStart → Bool
has_own_label defined bytes events [] = false
has_own_label defined bytes events (s ∷ ss) = is_own_label defined bytes (drop (s.start.1 + 1) events)

-- The bytes of a document before the byte that waits. None of them is behind the place after that byte, so a test that takes these looks no further
abbrev pub read_before : Given → Sight → List ℕ
read_before g s = take (bytes_up_to s.next) (take s.enter_place.index g.bytes)

module _ {R D : Type 0} where
  -- the brackets that are kept
  abbrev pub kept_starts : Configuration R D → List LabelStart
  kept_starts k = k.local.tokenize_state.label_starts

  -- others are
  abbrev pub starts_are : List LabelStart → Configuration R D → Local R D
  starts_are starts k = record k.local { tokenize_state = record k.local.tokenize_state { label_starts = starts } }

  -- a bracket waits
  abbrev pub waits_more : LabelKind → Configuration R D → Local R D
  waits_more kind k = starts_are (kept_starts k ++ started kind (length k.events) ∷ []) k

  -- the last one waits no more
  abbrev pub waits_less : (made : Bool) → Configuration R D → Local R D
  waits_less made k = starts_are (without_last made (kept_starts k)) k

  -- ---- the tests
  -- a bracket of a link waits to be read
  abbrev pub link_begins : Given → Sight → Configuration R D → Bool
  link_begins g s k = passes (begins_link g.options.constructs) s.current

  -- one of an image may
  abbrev pub image_begins : Given → Sight → Configuration R D → Bool
  image_begins g s k = passes (begins_image g.options.constructs) s.current

  -- `[` does
  abbrev pub bracket_is_next : Given → Sight → Configuration R D → Bool
  bracket_is_next g s k = passes is_open_bracket s.current

  -- `]` does
  abbrev pub close_is_next : Given → Sight → Configuration R D → Bool
  close_is_next g s k = passes is_close_bracket s.current

  -- an end may
  abbrev pub end_begins : Given → Sight → Configuration R D → Bool
  end_begins g s k = passes (begins_end g.options.constructs) s.current

  -- it may, and a bracket waits for it
  abbrev pub end_is_awaited : Given → Sight → Configuration R D → Bool
  end_is_awaited g s k = end_begins g s k && one_waits (reverse (kept_starts k))

  -- it may, and the bracket may make something
  abbrev pub end_may_make : Given → Sight → Configuration R D → Bool
  end_may_make g s k = end_begins g s k && may_make (reverse (kept_starts k))

  -- the label of a full reference was read up to its `]`, and is defined
  abbrev pub label_is_wanted : (defined : List ℕ → Bool) → Given → Sight → Configuration R D → Bool
  label_is_wanted defined g s k = is_defined_label defined (read_before g s) (label_behind k.events)

  -- the own label of the last bracket was read up to its `]`, and is defined
  abbrev pub own_label_is_defined : (defined : List ℕ → Bool) → Given → Sight → Configuration R D → Bool
  own_label_is_defined defined g s k = has_own_label defined (read_before g s) k.events (reverse (kept_starts k))

  -- a run begins, or a bracket or an end may: data ends there
  abbrev pub mark_begins : Given → Sight → Configuration R D → Bool
  mark_begins g s k = run_begins g s k || passes (begins_bracket g.options.constructs) s.current

  -- ---- the states
  -- Where brackets and ends may begin: one is read; one of an image is tried; behind an end that may make something, a resource is; another end takes a
  -- bracket away; and the rest is data
  abbrev pub bracket_rows : Rows R D
  bracket_rows =
      when link_begins (row [] (Retry LabelStartLinkStart))
      (when image_begins (row (choose Attempt (Next TextBefore) (Next TextBeforeData) ∷ []) (Retry LabelStartImageStart))
      (when end_may_make (row (choose Attempt (Next LabelEndOk) (Next LabelEndNotResource) ∷ []) (Retry LabelEndStart))
      (when end_is_awaited (row [] (Retry LabelEndNok)) (row [] (Retry TextBeforeData)))))

  -- At `[`
  abbrev pub link_start_rows : (previous current : Option TextByte) → Rows R D
  link_start_rows _ _ =
      row (enter LabelLink ∷ enter LabelMarker ∷ consume ∷ exit LabelMarker ∷ exit LabelLink ∷ write (waits_more Link) ∷ []) (Next TextBefore)

  -- its state: no span is open
  abbrev pub link_start : StateRows TextByte R D
  link_start = record (state LabelStartLinkStart link_start_rows [] (text_cost (by_left 4 12 0))) { called = at_bytes is_punctuation_class }

  -- At `!`
  abbrev pub image_start_rows : (previous current : Option TextByte) → Rows R D
  image_start_rows _ _ = row (enter LabelImage ∷ enter LabelImageMarker ∷ consume ∷ exit LabelImageMarker ∷ []) (Next LabelStartImageOpen)

  -- its state: it is tried
  abbrev pub image_start : StateRows TextByte R D
  image_start = tried (record (state LabelStartImageStart image_start_rows [] (text_cost (by_left 0 0 2))) { called = at_bytes is_punctuation_class })

  -- Behind `!`: the bracket waits once all of it was read
  abbrev pub image_open_rows : (previous current : Option TextByte) → Rows R D
  image_open_rows _ None = row [] Nok
  image_open_rows _ (Some _) =
      when bracket_is_next (row (enter LabelMarker ∷ consume ∷ exit LabelMarker ∷ exit LabelImage ∷ write (waits_more Image) ∷ []) Ok) (row [] Nok)

  -- its state: the bracket is open
  abbrev pub image_open : StateRows TextByte R D
  image_open = tried (state LabelStartImageOpen image_open_rows (LabelImage ∷ []) (text_cost (by_left 0 0 1)))

  -- `]` that may make something is read, and a state follows
  abbrev pub reads_end : Name → Rows R D
  reads_end name = row (enter LabelEnd ∷ enter LabelMarker ∷ consume ∷ exit LabelMarker ∷ exit LabelEnd ∷ []) (Next name)

  -- At `]` that may make something: a resource may follow
  abbrev pub end_start_rows : (previous current : Option TextByte) → Rows R D
  end_start_rows _ _ = reads_end LabelEndResourceStart

  -- its state: it is tried
  abbrev pub end_start : StateRows TextByte R D
  end_start = tried (record (state LabelEndStart end_start_rows [] (text_cost (by_left 0 4 0))) { called = at_bytes is_punctuation_class })

  -- At `]` with no resource behind it: a full reference is tried
  abbrev pub not_resource_rows : (previous current : Option TextByte) → Rows R D
  not_resource_rows _ _ = row (choose Attempt (Next LabelEndOk) (Next LabelEndReferenceNotFull) ∷ []) (Retry LabelEndReferenceStart)

  -- its state: no span is open
  abbrev pub not_resource : StateRows TextByte R D
  not_resource = record (state LabelEndNotResource not_resource_rows [] (text_cost (by_left 4 14 2))) { called = at_bytes is_punctuation_class }

  -- At that `]`
  abbrev pub reference_end_rows : (previous current : Option TextByte) → Rows R D
  reference_end_rows _ _ = reads_end LabelEndReferenceFull

  -- its state: it is tried
  abbrev pub reference_end : StateRows TextByte R D
  reference_end = tried (record (state LabelEndReferenceStart reference_end_rows [] (text_cost (by_left 0 2 0))) { called = at_bytes is_punctuation_class })

  -- At `]` with no full reference behind it: if no label is there at all, and the bracket's own label is defined, something is made by that; else nothing
  -- is
  abbrev pub not_full_rows : (defined : List ℕ → Bool) → (previous current : Option TextByte) → Rows R D
  not_full_rows defined _ _ =
      when label_is_there (row [] (Retry LabelEndNok)) (when (own_label_is_defined defined) (reads_end LabelEndAfter) (row [] (Retry LabelEndNok)))

  -- its state: no span is open
  abbrev pub not_full : (defined : List ℕ → Bool) → StateRows TextByte R D
  not_full defined = record (state LabelEndReferenceNotFull (not_full_rows defined) [] (text_cost (by_left 4 12 1))) { called = at_bytes is_punctuation_class }

  -- Behind a `]` that makes something by the bracket's own label: `[]` may follow
  abbrev pub end_after_rows : (previous current : Option TextByte) → Rows R D
  end_after_rows _ None = row [] (Retry LabelEndOk)
  end_after_rows _ (Some _) =
      when bracket_is_next (row (choose Attempt (Next LabelEndOk) (Next LabelEndOk) ∷ []) (Retry LabelEndReferenceCollapsed)) (row [] (Retry LabelEndOk))

  -- its state: no span is open
  abbrev pub end_after : StateRows TextByte R D
  end_after = state LabelEndAfter end_after_rows [] (text_cost (by_left 4 20 12))

  -- At the `[` of `[]`
  abbrev pub collapsed_start_rows : (previous current : Option TextByte) → Rows R D
  collapsed_start_rows _ None = row [] Nok
  collapsed_start_rows _ (Some _) = row (enter Reference ∷ enter ReferenceMarker ∷ consume ∷ exit ReferenceMarker ∷ []) (Next LabelEndReferenceCollapsedOpen)

  -- its state: it is tried
  abbrev pub collapsed_start : StateRows TextByte R D
  collapsed_start = tried (state LabelEndReferenceCollapsed collapsed_start_rows [] (text_cost (by_left 0 0 2)))

  -- Behind it
  abbrev pub collapsed_open_rows : (previous current : Option TextByte) → Rows R D
  collapsed_open_rows _ None = row [] Nok
  collapsed_open_rows _ (Some _) = when close_is_next (row (enter ReferenceMarker ∷ consume ∷ exit ReferenceMarker ∷ exit Reference ∷ []) Ok) (row [] Nok)

  -- its state: the reference is open
  abbrev pub collapsed_open : StateRows TextByte R D
  collapsed_open = tried (state LabelEndReferenceCollapsedOpen collapsed_open_rows (Reference ∷ []) (text_cost (by_left 0 0 1)))

  -- Behind a tail: the bracket is taken away
  abbrev pub end_ok_rows : (previous current : Option TextByte) → Rows R D
  end_ok_rows _ _ = row (write (waits_less true) ∷ []) (Retry TextBefore)

  -- its state: no span is open
  abbrev pub end_ok : StateRows TextByte R D
  end_ok = state LabelEndOk end_ok_rows [] (text_cost (by_left 4 20 8))

  -- At `]` that makes nothing: it is a mark alone, and the bracket is taken away
  abbrev pub end_nok_rows : (previous current : Option TextByte) → Rows R D
  end_nok_rows _ _ = row (enter LabelMarker ∷ consume ∷ exit LabelMarker ∷ write (waits_less false) ∷ []) (Next TextBefore)

  -- its state: no span is open
  abbrev pub end_nok : StateRows TextByte R D
  end_nok = record (state LabelEndNok end_nok_rows [] (text_cost (by_left 4 12 0))) { called = at_bytes is_punctuation_class }

  -- the states that read labels of full references
  abbrev pub reference_states : (defined : List ℕ → Bool) → List (StateRows TextByte R D)
  reference_states defined = reference_start ∷ label_start ∷ label_inside ∷ label_escape ∷ label_line ∷ label_white ∷ label_end (label_is_wanted defined) ∷ []

  -- the states that read brackets and what is behind them
  abbrev pub bracket_states : (defined : List ℕ → Bool) → List (StateRows TextByte R D)
  bracket_states defined =
      link_start ∷ image_start ∷ image_open ∷ end_start ∷ not_resource ∷ reference_end ∷ not_full defined ∷ end_after ∷ collapsed_start ∷ collapsed_open ∷ end_ok ∷ end_nok ∷ (resources.states ++ reference_states defined)

-- What they cost: behind a bracket, or an end, another item may begin
abbrev pub bracket_prices : List (Price TextByte)
bracket_prices =
    by_left 4 12 0 ∷ by_left 0 0 2 ∷ by_left 0 0 1 ∷ by_left 0 4 0 ∷ by_left 4 14 2 ∷ by_left 0 2 0 ∷ by_left 4 12 1 ∷ by_left 4 20 12 ∷ by_left 0 0 2 ∷ by_left 0 0 1 ∷ by_left 4 20 8 ∷ by_left 4 12 0
    ∷ (resource_prices ++ reference_prices)
