-- Emphasis and strikethrough: which delimiter runs of a text open and close them, and the events of them.
--
-- The runs are paired by CommonMark's procedure "process emphasis" (0.31, appendix "A parsing strategy"), from the front. A run that can close
-- looks back in the delimiter stack for the first opener that matches. What is above that one leaves the stack. Opener and closer give one marker
-- each, or two if both have two; an opener without markers leaves the stack. So it goes on until the run has no markers, or finds no opener.
-- Then it comes onto the stack itself, if it can open. The procedure keeps runs on its stack that can only close; none of them is an opener.
use Rattle.std.specs.Prelude.{ℕ, zero, suc, ◌+◌, ◌-◌, ◌==◌, ◌&&◌, ◌||◌, not, nat_le, nat_lt, Bool, true, false, cond, List, [], ◌∷◌, ◌++◌, map, reverse, None}
use Rattle.std.specs.List.{filter, flat_map}
use Rattle.markdown_base.specs.declared.event.Event.{Event}
use Rattle.markdown_base.specs.declared.event.Kind.{Kind}
use Rattle.markdown_base.specs.declared.event.Kind.TheVariants.{Enter, Exit}
use Rattle.markdown_base.specs.declared.event.Name.{Name}
use Rattle.markdown_base.specs.declared.event.Name.TheVariants.{Data, Emphasis, EmphasisSequence, EmphasisText, GfmStrikethrough, GfmStrikethroughSequence, GfmStrikethroughText, Strong, StrongSequence, StrongText}
use Rattle.markdown_base.specs.declared.event.Point.{Point}
use Rattle.mdinline_emphasis.specs.declared.pairs.Marker.{Marker}
use Rattle.mdinline_emphasis.specs.declared.pairs.Marker.TheVariants.{Asterisk, Underscore, Tilde}
use Rattle.mdinline_emphasis.specs.declared.pairs.Style.{Style}
use Rattle.mdinline_emphasis.specs.declared.pairs.Style.TheVariants.{Emphasis as OfEmphasis, Strong as OfStrong, Struck, StruckTwice}

-- all markers, and the byte of each
abbrev pub all_markers : List Marker
all_markers = Asterisk ∷ Underscore ∷ Tilde ∷ []

abbrev pub marker_byte : Marker → ℕ
marker_byte Asterisk = 42
marker_byte Underscore = 95
marker_byte Tilde = 126

-- a marker is a tilde, which makes strikethrough (GFM 0.29, 6.5); the others make emphasis
abbrev pub is_tilde : Marker → Bool
is_tilde Tilde = true
is_tilde _ = false

-- A delimiter run: the index of its enter, its place, its marker, its length modulo 3, and whether it can open and close
-- pairs. It closes pairs, the inner ones first, and opens pairs, the outer ones first. Each pair has a style: emphasis, with one marker at
-- each end, or strong emphasis, with two, or strikethrough, with one or two. The other markers are left.
pub record Run : Type 0 where
  pub index : ℕ
  pub start : Point
  pub marker : Marker
  pub rest : ℕ
  pub opens : Bool
  pub closes : Bool
  pub closed : List Style
  pub left : ℕ
  pub opened : List Style

-- The rule of three (rules 9 and 10 of 6.2): if one of two runs can both open and close, the sum of their lengths is no multiple of 3, unless
-- both lengths are
abbrev pub rule_of_three : (a b : ℕ) → Bool
rule_of_three a b = not (((a == 1) && (b == 2)) || ((a == 2) && (b == 1)))

-- two markers are the same
abbrev pub same : Marker → Marker → Bool
same a b = marker_byte a == marker_byte b

-- both lengths are one, or both are two
abbrev pub are_both : (a b : ℕ) → Bool
are_both a b = ((a == 1) && (b == 1)) || ((a == 2) && (b == 2))

-- The lengths of two runs of a marker fit, by what is left of them modulo 3. Tildes: "any text wrapped in a matching pair of one or two tildes" (GFM
-- 0.29, 6.5), so both have one or both have two. Of the others the rule of three is asked, if one of the two runs can both open and close
abbrev pub lengths_fit : Marker → (one_does_both : Bool) → (a b : ℕ) → Bool
lengths_fit marker one_does_both a b = cond (is_tilde marker) (are_both a b) (not one_does_both || rule_of_three a b)

-- an opener matches a run that closes: it has the same marker, and their lengths fit
abbrev pub may_pair : (opener closer : Run) → Bool
may_pair o r = same o.marker r.marker && lengths_fit r.marker (o.closes || r.opens) o.rest r.rest

-- both runs have two markers
abbrev pub have_two : (opener closer : Run) → Bool
have_two o r = nat_le 2 o.left && nat_le 2 r.left

-- the style of a pair of a marker: strikethrough for tildes, else strong emphasis, if both runs have two markers, or emphasis
abbrev pub style_by : Marker → (both_have_two : Bool) → Style
style_by marker two = cond (is_tilde marker) (cond two StruckTwice Struck) (cond two OfStrong OfEmphasis)

-- the style of a pair of two runs
abbrev pub style_of : (opener closer : Run) → Style
style_of o r = style_by r.marker (have_two o r)

-- how many markers a pair has at each end
abbrev pub markers_of : Style → ℕ
markers_of OfEmphasis = 1
markers_of OfStrong = 2
markers_of Struck = 1
markers_of StruckTwice = 2

-- a run can open, or close, a pair more: it has markers left
abbrev pub opens_yet : Run → Bool
opens_yet r = r.opens && nat_lt 0 r.left

abbrev pub closes_yet : Run → Bool
closes_yet r = r.closes && nat_lt 0 r.left

-- A pair: the numbers of the runs that open and close it, the first run of the text being 0, and its style
pub record Pair : Type 0 where
  pub opener : ℕ
  pub closer : ℕ
  pub style : Style

-- A delimiter of the stack: the number of a run, and the run with the markers that it has left
pub record Delimiter : Type 0 where
  pub number : ℕ
  pub run : Run

-- a delimiter that gave the markers of a pair
abbrev pub gave : Style → Delimiter → Delimiter
gave s d = record d { run = record d.run { left = d.run.left - markers_of s } }

-- a delimiter comes onto the stack, or stays there, if it can open a pair more
abbrev pub on_stack : Delimiter → List Delimiter → List Delimiter
on_stack d stack = cond (opens_yet d.run) (d ∷ stack) stack

-- looking back in the stack: its part from the first opener down that matches
abbrev pub look_back : Run → List Delimiter → List Delimiter
look_back closer [] = []
look_back closer (d ∷ stack) = cond (may_pair d.run closer) (d ∷ stack) (look_back closer stack)

-- The stack after a run, and the pairs that it closes, the inner ones first. The number is at least how many markers it has left
abbrev pub close_pairs : ℕ → Delimiter → List Delimiter → List Delimiter × List Pair
close_pairs zero d stack = (on_stack d stack, [])
close_pairs (suc n) d stack =
    cond (closes_yet d.run)
    (elim (look_back d.run stack) [
      | [] ↦ (on_stack d stack, [])
      | o ∷ below ↦
          let s = style_of o.run d.run in
          let more = close_pairs n (gave s d) (on_stack (gave s o) below) in
          (more.0, record { opener = o.number; closer = d.number; style = s } ∷ more.1)
    ])
    (on_stack d stack, [])

-- the pairs of the runs from a number on, with the stack before them
abbrev pub pairs_from : ℕ → List Delimiter → List Run → List Pair
pairs_from n stack [] = []
pairs_from n stack (r ∷ rs) = let closed = close_pairs r.left (record { number = n; run = r }) stack in closed.1 ++ pairs_from (n + 1) closed.0 rs

-- the pairs of the runs of a text
abbrev pub pairs : List Run → List Pair
pairs rs = pairs_from 0 [] rs

-- how many markers some pairs have at one end
abbrev pub markers_of_all : List Style → ℕ
markers_of_all [] = 0
markers_of_all (s ∷ ss) = markers_of s + markers_of_all ss

-- the styles of the pairs that a test takes
abbrev pub styles : (Pair → Bool) → List Pair → List Style
styles takes ps = map (λ p. p.style) (filter takes ps)

-- a run with pairs that it closes, and opens, the inner ones first
abbrev pub in_lists : Run → (closed opened : List Style) → Run
in_lists r closed opened = record r {
  closed = r.closed ++ closed;
  left = r.left - (markers_of_all closed + markers_of_all opened);
  opened = reverse opened ++ r.opened;
}

-- the run with this number, with its pairs
abbrev pub in_pairs : List Pair → ℕ → Run → Run
in_pairs ps n r = in_lists r (styles (λ p. p.closer == n) ps) (styles (λ p. p.opener == n) ps)

abbrev pub all_in_pairs : List Pair → ℕ → List Run → List Run
all_in_pairs ps n [] = []
all_in_pairs ps n (r ∷ rs) = in_pairs ps n r ∷ all_in_pairs ps (n + 1) rs

-- the runs of a text with their pairs
abbrev pub paired : List Run → List Run
paired rs = all_in_pairs (pairs rs) 0 rs

-- a place some bytes later in the same line
abbrev pub later : ℕ → Point → Point
later n p = record p { column = p.column + n; index = p.index + n }

abbrev pub unlinked_event : Kind → Name → Point → Event
unlinked_event kind name p = record { kind = kind; name = name; point = p; link = None }

-- the names of a pair by its style: of the whole span, of the markers at an end, and of the text between them
abbrev pub outer_name : Style → Name
outer_name OfEmphasis = Emphasis
outer_name OfStrong = Strong
outer_name Struck = GfmStrikethrough
outer_name StruckTwice = GfmStrikethrough

abbrev pub sequence_name : Style → Name
sequence_name OfEmphasis = EmphasisSequence
sequence_name OfStrong = StrongSequence
sequence_name Struck = GfmStrikethroughSequence
sequence_name StruckTwice = GfmStrikethroughSequence

abbrev pub inner_name : Style → Name
inner_name OfEmphasis = EmphasisText
inner_name OfStrong = StrongText
inner_name Struck = GfmStrikethroughText
inner_name StruckTwice = GfmStrikethroughText

abbrev pub closings : Point → List Style → List Event
closings p [] = []
closings p (s ∷ ss) = unlinked_event Exit (inner_name s) p ∷ unlinked_event Enter (sequence_name s) p ∷ unlinked_event Exit (sequence_name s) (later (markers_of s) p) ∷ unlinked_event Exit (outer_name s) (later (markers_of s) p) ∷ closings (later (markers_of s) p) ss

abbrev pub openings : Point → List Style → List Event
openings p [] = []
openings p (s ∷ ss) = unlinked_event Enter (outer_name s) p ∷ unlinked_event Enter (sequence_name s) p ∷ unlinked_event Exit (sequence_name s) (later (markers_of s) p) ∷ unlinked_event Enter (inner_name s) (later (markers_of s) p) ∷ openings (later (markers_of s) p) ss

abbrev pub data_of : Point → ℕ → List Event
data_of p zero = []
data_of p (suc n) = unlinked_event Enter Data p ∷ unlinked_event Exit Data (later (suc n) p) ∷ []

-- what is left of a run, and what it opens
abbrev pub tail_events : Run → List Event
tail_events r = let p = later (markers_of_all r.closed) r.start in data_of p r.left ++ openings (later r.left p) r.opened

-- `texts` are the events between a run and the run before it, by its index
module _ (texts : ℕ → List Event) where
  -- the events before a run, and what it closes
  abbrev pub head_events : Run → List Event
  head_events r = texts r.index ++ closings r.start r.closed

  -- the events before a run, and what comes in its place
  abbrev pub run_events : Run → List Event
  run_events r = head_events r ++ tail_events r

  abbrev pub events_of_runs : List Run → List Event
  events_of_runs rs = flat_map run_events rs

  -- the events of a text: its runs with what is between them, and what comes behind the last one
  abbrev pub emphasised : List Run → List Event → List Event
  emphasised rs rest = events_of_runs (paired rs) ++ rest
