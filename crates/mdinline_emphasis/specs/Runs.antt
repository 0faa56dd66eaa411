-- The delimiter runs of a text (CommonMark, "Emphasis and strong emphasis"; GFM, "Strikethrough"): its attention sequences that are in no other span, each with the
-- characters beside it.
use Rattle.std.specs.Prelude.{ℕ, suc, ◌+◌, ◌-◌, ◌%◌, ◌==◌, ◌&&◌, ◌||◌, not, Bool, true, false, cond, nat_le, nat_lt, List, [], ◌∷◌, length, take, drop, slice_get, Option, Some, None}
use Rattle.markdown_base.specs.declared.event.Event.{Event}
use Rattle.markdown_base.specs.declared.event.Kind.{Kind as EventKind}
use Rattle.markdown_base.specs.declared.event.Kind.TheVariants.{Enter, Exit}
use Rattle.markdown_base.specs.declared.event.Name.TheVariants.{AttentionSequence}
use Rattle.markdown_base.specs.declared.util.char.Kind.{Kind}
use Rattle.markdown_base.specs.declared.util.char.Kind.TheVariants.{Whitespace, Punctuation, Other}
use Rattle.markdown_base.specs.Events.{is_enter, same_name}
use Rattle.mdinline_emphasis.specs.Classes.{class_before, class_after}
use Rattle.mdinline_emphasis.specs.declared.pairs.Marker.{Marker}
use Rattle.mdinline_emphasis.specs.declared.pairs.Marker.TheVariants.{Asterisk, Underscore, Tilde}
use Rattle.mdinline_emphasis.specs.Emphasis.{Run, all_markers, emphasised, is_tilde, marker_byte}

abbrev pub is_punctuation : Kind → Bool
is_punctuation Punctuation = true
is_punctuation _ = false

abbrev pub is_other : Kind → Bool
is_other Other = true
is_other _ = false

-- A run is left-flanking (CommonMark 0.31, 6.2): white space does not follow; and if punctuation does, white space or punctuation comes before
abbrev pub is_left_flanking : (before after : Kind) → Bool
is_left_flanking before after = is_other after || is_punctuation after && not (is_other before)

-- It is right-flanking if it is left-flanking from its other end
abbrev pub is_right_flanking : (before after : Kind) → Bool
is_right_flanking before after = is_left_flanking after before

-- a marker is an underscore
abbrev pub is_underscore : Marker → Bool
is_underscore Underscore = true
is_underscore _ = false

-- A run of asterisks can open emphasis (rule 1 of 6.2) and strong emphasis (rule 5) if it is left-flanking, and so one of tildes; a run of underscores (rules 2 and
-- 6) if it is left-flanking, and not right-flanking or behind punctuation
abbrev pub can_open : (marker : Marker) → (before after : Kind) → Bool
can_open marker before after = is_left_flanking before after && (not (is_underscore marker) || (not (is_right_flanking before after) || is_punctuation before))

-- A run of asterisks can close emphasis (rule 3 of 6.2) and strong emphasis (rule 7) if it is right-flanking, and so one of tildes; a run of underscores (rules 4
-- and 8) if it is right-flanking, and not left-flanking or before punctuation
abbrev pub can_close : (marker : Marker) → (before after : Kind) → Bool
can_close marker before after = is_right_flanking before after && (not (is_underscore marker) || (not (is_left_flanking before after) || is_punctuation after))

-- A run of so many markers may be in a pair: "Three or more tildes do not create a strikethrough", a pair is of "one or two tildes" (GFM 0.29, 6.5), and the
-- option `gfm_strikethrough_single_tilde` says whether one counts
abbrev pub may_mark : (one_tilde : Bool) → Marker → (length : ℕ) → Bool
may_mark one_tilde marker length = not (is_tilde marker) || (nat_le length 2 && (one_tilde || nat_le 2 length))

-- The class of the character at an end of a run: that of the document there, if the text goes on there; else white space. The text goes on if the
-- event beside the run stands at the same index
abbrev pub class_beside : (beside : Option ℕ) → (index : ℕ) → Kind → Kind
class_beside None index class = Whitespace
class_beside (Some other) index class = cond (other == index) class Whitespace

-- at which index an event stands, if there is one
abbrev pub index_of_event : Option Event → Option ℕ
index_of_event None = None
index_of_event (Some e) = Some e.point.index

-- a byte is one of these markers
abbrev pub is_marker_of : List Marker → ℕ → Bool
is_marker_of [] byte = false
is_marker_of (m ∷ ms) byte = (byte == marker_byte m) || is_marker_of ms byte

-- it is a marker
abbrev pub is_marker : ℕ → Bool
is_marker byte = is_marker_of all_markers byte

-- the marker that a byte is: `*`, `~`, or else `_`
abbrev pub marker_from : Option ℕ → Marker
marker_from None = Underscore
marker_from (Some byte) = cond (byte == 42) Asterisk (cond (byte == 126) Tilde Underscore)

-- the run of an attention sequence: the index of its enter in the list, its enter and its exit, and where the events beside it stand
abbrev pub run_at : (one_tilde : Bool) → List ℕ → ℕ → (e f : Event) → (before behind : Option ℕ) → Run
run_at one_tilde bytes index e f before behind =
    let before_it = class_beside before e.point.index (class_before bytes e.point.index) in
    let after_it = class_beside behind f.point.index (class_after bytes f.point.index) in
    let marker = marker_from (slice_get bytes e.point.index) in
    let length = f.point.index - e.point.index in
    record {
      index = index;
      start = e.point;
      marker = marker;
      rest = length % 3;
      opens = may_mark one_tilde marker length && can_open marker before_it after_it;
      closes = may_mark one_tilde marker length && can_close marker before_it after_it;
      closed = [];
      left = length;
      opened = [];
    }

-- these two events are an attention sequence
abbrev pub is_sequence : Event → Event → Bool
is_sequence e f = (is_enter e.kind && same_name e.name AttentionSequence) && (not (is_enter f.kind) && same_name f.name AttentionSequence)

-- how many spans are open after an event
abbrev pub depth_after : EventKind → ℕ → ℕ
depth_after Enter depth = suc depth
depth_after Exit depth = depth - 1

-- the runs from an index of the list on, by how many spans are open there, and where the event before stands
abbrev pub runs_from : (one_tilde : Bool) → List ℕ → (index depth : ℕ) → (before : Option ℕ) → List Event → List Run
runs_from one_tilde bytes i depth before [] = []
runs_from one_tilde bytes i depth before (e ∷ []) = []
runs_from one_tilde bytes i depth before (e ∷ f ∷ es) =
    cond (depth == 0 && is_sequence e f)
    (run_at one_tilde bytes i e f before (index_of_event (slice_get es 0)) ∷ runs_from one_tilde bytes (i + 2) depth (Some f.point.index) es)
    (runs_from one_tilde bytes (i + 1) (depth_after e.kind depth) (Some e.point.index) (f ∷ es))

abbrev pub runs_in : (one_tilde : Bool) → List ℕ → List Event → List Run
runs_in one_tilde bytes events = runs_from one_tilde bytes 0 0 None events

-- where the last run before an index ends; `from` if there is none
abbrev pub end_before : (from : ℕ) → List Run → ℕ → ℕ
end_before from [] index = from
end_before from (r ∷ rs) index = cond (nat_lt r.index index) (end_before (r.index + 2) rs index) from

-- the events between a run and the one before it, by its index; and those behind the last run
abbrev pub text_before : List Event → List Run → ℕ → List Event
text_before events rs index = let from = end_before 0 rs index in take (index - from) (drop from events)

abbrev pub text_behind : List Event → List Run → List Event
text_behind events rs = drop (end_before 0 rs (length events)) events

-- the events of a text with emphasis in place of its runs
abbrev pub with_emphasis : (one_tilde : Bool) → List ℕ → List Event → List Event
with_emphasis one_tilde bytes events = let rs = runs_in one_tilde bytes events in emphasised (text_before events rs) rs (text_behind events rs)
