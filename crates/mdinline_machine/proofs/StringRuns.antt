-- No event of a string is one of a delimiter run or a bracket, and none has a link: so links, images and emphasis change nothing.
use Rattle.std.proofs.lemmas.Bool.{or_parts}
use Rattle.mdinline_constructs.proofs.StringItems.{each-item, string-built}
use Rattle.mdinline_machine.proofs.Prelude.{◌||◌, Bool, runs_in, ◌≡◌, ℕ, ◌+◌, ◌&&◌, ◌==◌, not, ◌++◌, List, [], ◌∷◌, false, true, cond, drop, length, Option, Some, refl, ap, ◌∙◌, take, AllByRecursion, between, slice_get, and-false, Constructs, Event, Exit, AttentionSequence, CharacterEscape, CharacterEscapeMarker, CharacterEscapeValue, CharacterReference, CharacterReferenceMarker, CharacterReferenceMarkerHexadecimal, CharacterReferenceMarkerNumeric, CharacterReferenceMarkerSemi, CharacterReferenceValue, Data, LineEnding, is_enter, same_name, Seat, end_after, every-append, HaveNoLinks, Given, Text, edited-same, edited, paired, edits_of, depth_after, index_of_event, is_sequence, run_at, runs_from, has_byte_at, is_line_feed, Found, escape, escape_at, event, leaf, line_ending, part, span, OfOption, there-holds, when-there, links-kept, linking_edits, Kind, decimal, hexadecimal, mark_events, marks, named, reference, reference_at, reference-holds, string_data, string_events, string_grammars, string_item_at, string_part}
use Rattle.markdown_base.specs.declared.event.Name.{Name}
use Rattle.markdown_edits.specs.Edits.{edit_at}
use Rattle.mdinline_links.specs.LinkEdits.{has_brackets, is_of_bracket}
use Rattle.mdinline_links.specs.Linked.{with_links}

-- a name of a delimiter run or a bracket
abbrev pub is_stirred : Name → Bool
is_stirred name = same_name name AttentionSequence || is_of_bracket name

-- an event that is none of those, and lists of them
abbrev pub IsCalm : Event → Type 0
IsCalm e = is_stirred e.name ≡ false

abbrev pub AreCalm : List Event → Type 0
AreCalm es = AllByRecursion IsCalm es

no-sequence : (e f : Event) → IsCalm e → is_sequence e f ≡ false
no-sequence e f calm =
    ap (λ t. (is_enter e.kind && t) && (not (is_enter f.kind) && same_name f.name AttentionSequence)) (or_parts (same_name e.name AttentionSequence) (is_of_bracket e.name) calm).0
    ∙ ap (λ t. t && (not (is_enter f.kind) && same_name f.name AttentionSequence)) (and-false (is_enter e.kind))

-- among them no run is
runs-none : (one : Bool) (bytes : List ℕ) (i depth : ℕ) (before : Option ℕ) (es : List Event) → AreCalm es → runs_from one bytes i depth before es ≡ []
runs-none one bytes i depth before [] calm = refl
runs-none one bytes i depth before (e ∷ []) calm = refl
runs-none one bytes i depth before (e ∷ f ∷ es) calm =
    ap (λ t. cond t (run_at one bytes i e f before (index_of_event (slice_get es 0)) ∷ runs_from one bytes (i + 2) depth (Some f.point.index) es) (runs_from one bytes (i + 1) (depth_after e.kind depth) (Some e.point.index) (f ∷ es))) (ap (λ t. (depth == 0) && t) (no-sequence e f calm.0) ∙ and-false (depth == 0))
    ∙ runs-none one bytes (i + 1) (depth_after e.kind depth) (Some e.point.index) (f ∷ es) calm.1

-- nor a bracket
brackets-none : (es : List Event) → AreCalm es → has_brackets es ≡ false
brackets-none [] calm = refl
brackets-none (e ∷ es) calm = ap (λ t. t || has_brackets es) (or_parts (same_name e.name AttentionSequence) (is_of_bracket e.name) calm.0).1 ∙ brackets-none es calm.1

-- so links, images and emphasis change nothing
pub calm-same : (g : Given) (es : List Event) → AreCalm es → HaveNoLinks es → edited (linking_edits g es) es ≡ es
calm-same g es calm unlinked =
    ap (λ t. edited (cond t (edit_at 0 (length es) (with_links g.options.gfm_strikethrough_single_tilde g.bytes es) ∷ []) (edits_of (paired (runs_in g.options.gfm_strikethrough_single_tilde g.bytes es)))) es) (brackets-none es calm)
    ∙ ap (λ rs. edited (edits_of (paired rs)) es) (runs-none g.options.gfm_strikethrough_single_tilde g.bytes 0 0 _ es calm) ∙ edited-same es unlinked

module _ (bytes : List ℕ) where
  calm-leaf : (name : Name) → is_stirred name ≡ false → (seats : List Seat) → AreCalm (leaf bytes name seats)
  calm-leaf name other [] = tt
  calm-leaf name other (s ∷ ss) = (other, (other, tt))

  pub calm-span : (name : Name) → is_stirred name ≡ false → (seats : List Seat) (es : List Event) → AreCalm es → AreCalm (span bytes name seats es)
  calm-span name other [] es calm = calm
  calm-span name other (s ∷ ss) es calm = (other, every-append IsCalm es (event bytes Exit name (end_after s.end ss) ∷ []) calm (other, tt))

  -- what is found is calm, over any virtual bytes
  abbrev pub IsCalmFound : Found → Type 0
  IsCalmFound found = (seats : List Seat) → AreCalm (found.events bytes seats)

  calm-escape : (text : List ℕ) → OfOption IsCalmFound (escape_at text)
  calm-escape text =
      when-there IsCalmFound _ (Some escape)
      (λ seats. calm-span CharacterEscape refl seats (leaf bytes CharacterEscapeMarker (take 1 seats) ++ leaf bytes CharacterEscapeValue (drop 1 seats))
      (every-append IsCalm (leaf bytes CharacterEscapeMarker (take 1 seats)) (leaf bytes CharacterEscapeValue (drop 1 seats)) (calm-leaf CharacterEscapeMarker refl (take 1 seats)) (calm-leaf CharacterEscapeValue refl (drop 1 seats))))

  calm-marks : (kind : Kind) (seats : List Seat) → AreCalm (mark_events bytes kind seats)
  calm-marks named seats = calm-leaf CharacterReferenceMarker refl (take 1 seats)
  calm-marks decimal seats =
      every-append IsCalm (leaf bytes CharacterReferenceMarker (take 1 seats)) (leaf bytes CharacterReferenceMarkerNumeric (between 1 2 seats)) (calm-leaf CharacterReferenceMarker refl (take 1 seats))
      (calm-leaf CharacterReferenceMarkerNumeric refl (between 1 2 seats))
  calm-marks hexadecimal seats =
      every-append IsCalm (leaf bytes CharacterReferenceMarker (take 1 seats)) _ (calm-leaf CharacterReferenceMarker refl (take 1 seats))
      (every-append IsCalm (leaf bytes CharacterReferenceMarkerNumeric (between 1 2 seats)) (leaf bytes CharacterReferenceMarkerHexadecimal (between 2 3 seats)) (calm-leaf CharacterReferenceMarkerNumeric refl (between 1 2 seats))
      (calm-leaf CharacterReferenceMarkerHexadecimal refl (between 2 3 seats)))

  calm-kind : (kind : Kind) (n : ℕ) → IsCalmFound (reference kind n)
  calm-kind kind n seats =
      let value = leaf bytes CharacterReferenceValue (between (marks kind) (marks kind + n) seats) in
      let last = leaf bytes CharacterReferenceMarkerSemi (drop (marks kind + n) seats) in
      calm-span CharacterReference refl seats (mark_events bytes kind seats ++ (value ++ last))
      (every-append IsCalm (mark_events bytes kind seats) (value ++ last) (calm-marks kind seats)
      (every-append IsCalm value last (calm-leaf CharacterReferenceValue refl (between (marks kind) (marks kind + n) seats)) (calm-leaf CharacterReferenceMarkerSemi refl (drop (marks kind + n) seats))))

  calm-reference : (text : List ℕ) → OfOption IsCalmFound (reference_at text)
  calm-reference = reference-holds IsCalmFound calm-kind

  calm-item : (on : Constructs) (text : List ℕ) → IsCalmFound (string_item_at on text)
  calm-item on text =
      there-holds IsCalmFound string_grammars on text (string_part text) (calm-escape text, (calm-reference text, tt)) (elim (has_byte_at text 0 is_line_feed) as (λ t. IsCalmFound (cond t (part line_ending) (string_data text))) [
        | true ↦ λ seats. calm-leaf LineEnding refl seats
        | false ↦ λ seats. calm-leaf Data refl seats
      ])

pub string-calm : (g : Given) (text : Text) → AreCalm (string_events g text)
string-calm g text = each-item g.bytes AreCalm tt (every-append IsCalm) g.options.constructs (calm-item g.bytes g.options.constructs) (length text.seats) text.seats

pub string-alone : (g : Given) (text : Text) → HaveNoLinks (string_events g text)
string-alone g text = string-built g.bytes HaveNoLinks (links-kept g.bytes) g.options.constructs text.seats
