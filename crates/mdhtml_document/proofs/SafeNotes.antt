-- The section of footnotes is safe, and so is HTML with it.
use Rattle.std.proofs.Common.{ℕ, suc, List, [], ◌∷◌, ◌++◌, sym, refl, subst, append_assoc}
use Rattle.std.specs.Option.{option_map_or}
use Rattle.std.specs.Prelude.{zero, ◌==◌, ◌&&◌, not, Bool, true, false, cond, codes, reverse}
use Rattle.markdown_base.specs.declared.configuration.CompileOptions.{CompileOptions}
use Rattle.markdown_base.specs.declared.event.Event.{Event}
use Rattle.mdhtml_document.specs.declared.shapes.Mode.{Mode}
use Rattle.mdhtml_document.specs.declared.shapes.Mode.TheVariants as mode
use Rattle.mdhtml_document.specs.Html.{Known, has_block, is_paragraph, note_blocks, note_pieces, notes_from, pieces, section, section_by}
use Rattle.mdhtml_document.specs.HtmlLaws.{AreSafeOptions, HtmlWithNotesIsSafe, HtmlWithNotesKeepsText}
use Rattle.mdhtml_document.specs.Names.{block_of}
use Rattle.mdhtml_document.specs.Notes.{back_link, back_links, back_links_from, calls_in, classed, labels_of, last_call, note_of, notes_in, notes_of}
use Rattle.mdhtml_document.specs.Spans.{Nothing, Span, Spans, spans_of}
use Rattle.mdhtml_document.proofs.NoteIds.{note-id}
use Rattle.mdhtml_document.proofs.Safe.{Keep, ends, pieces-keep}
use Rattle.mdhtml_markup.proofs.FlowSafe.{blocks-text}
use Rattle.mdhtml_markup.proofs.SafeLemmas.{pieces-safe}
use Rattle.mdhtml_markup.proofs.ShownText.{text-kept}
use Rattle.mdhtml_markup.specs.declared.elements.Element.{Element}
use Rattle.mdhtml_markup.specs.declared.elements.Element.TheVariants.{Anchor, ListItem, OrderedList, Paragraph, Section, Superscript}
use Rattle.mdhtml_markup.specs.Pieces.{Close, Feed, Fresh, Open, Piece, Text}
use Rattle.mdhtml_markup.specs.SafePieces.{AreSafe}

-- pieces behind one another
keep-both : (m : Mode) (ps qs : List Piece) → Keep m ps → Keep m qs → Keep m (ps ++ qs)
keep-both m ps qs p q = record { keep = λ tags k s h. subst (AreSafe tags) (sym (append_assoc ps qs k)) (p.keep tags (qs ++ k) s (q.keep tags k s h)) }

-- ---- links back

repeat-by : (one : Bool) (repeat : List ℕ) (tags : List Element) (k : List Piece) → AreSafe tags k
    → AreSafe (Anchor ∷ tags) ((cond one [] (Open Superscript (classed (codes "footnote-ref")) ∷ Text repeat ∷ Close Superscript ∷ []) ++ Close Anchor ∷ []) ++ k)
repeat-by true repeat tags k h = (refl, h)
repeat-by false repeat tags k h = (record { kind = refl; stands = refl; allowed = (refl, tt) }, (refl, (refl, (refl, h))))

link-keeps : (number repeat : ℕ) → Keep mode.Text (back_link number repeat)
link-keeps number repeat =
    record { keep = λ tags k s h. (record { kind = refl; stands = s; allowed = (refl, (refl, (tt, (tt, tt)))) }, (refl, repeat-by (repeat == 1) _ tags k h)) }

space-by : (first : Bool) → Keep mode.Text (cond first [] (Text (codes " ") ∷ []))
space-by true = record { keep = λ tags k s h. h }
space-by false = record { keep = λ tags k s h. (s, h) }

links-keep : (number first many : ℕ) → Keep mode.Text (back_links_from number first many)
links-keep number first zero = record { keep = λ tags k s h. h }
links-keep number first (suc many) =
    keep-both mode.Text _ _ (space-by (first == 1)) (keep-both mode.Text (back_link number first) _ (link-keeps number first) (links-keep number (suc first) many))

module _ (options : CompileOptions) (bytes : List ℕ) (known : Known) (tab : ℕ) (safe : AreSafeOptions options) where
  -- ---- notes

  last-keeps : (backs : List Piece) (s : Spans) → Keep mode.Text backs
      → Keep mode.Flow (Fresh ∷ Open Paragraph [] ∷ (pieces options bytes known tab mode.Paragraph [] s ++ Text (codes " ") ∷ (backs ++ Close Paragraph ∷ Feed ∷ [])))
  last-keeps backs s b =
      let inner = pieces options bytes known tab mode.Paragraph [] s in
      record {
        keep = λ tags k stands h.
            let tail : AreSafe (Paragraph ∷ tags) ((backs ++ Close Paragraph ∷ Feed ∷ []) ++ k) =
            subst (AreSafe (Paragraph ∷ tags)) (sym (append_assoc backs (Close Paragraph ∷ Feed ∷ []) k)) (b.keep (Paragraph ∷ tags) (Close Paragraph ∷ Feed ∷ k) refl (refl, h)) in (
              record { kind = refl; stands = stands; allowed = tt },
              subst (AreSafe (Paragraph ∷ tags)) (sym (append_assoc inner (Text (codes " ") ∷ (backs ++ Close Paragraph ∷ Feed ∷ [])) k))
                  ((pieces-keep options bytes known tab safe mode.Paragraph [] s).keep (Paragraph ∷ tags) (Text (codes " ") ∷ ((backs ++ Close Paragraph ∷ Feed ∷ []) ++ k)) refl (refl, tail)),
            );
      }

  either : (c : Bool) (x y : List Piece) → Keep mode.Flow x → Keep mode.Flow y → Keep mode.Flow (cond c x y)
  either true x y h k = h
  either false x y h k = k

  blocks-keep : (backs : List Piece) (s : Spans) → Keep mode.Text backs → Keep mode.Flow (note_blocks options bytes known tab backs s)
  blocks-keep backs Nothing b =
      record { keep = λ tags k stands h. subst (AreSafe tags) (sym (append_assoc backs (Feed ∷ []) k)) (b.keep tags (Feed ∷ k) (blocks-text tags stands) h) }
  blocks-keep backs (Span e f s behind) b =
      either (is_paragraph (block_of e.name) && not (has_block behind)) _ _ (last-keeps backs s b)
      (keep-both mode.Flow (pieces options bytes known tab mode.Flow [] (Span e f s Nothing)) (note_blocks options bytes known tab backs behind)
      (pieces-keep options bytes known tab safe mode.Flow [] (Span e f s Nothing)) (blocks-keep backs behind b))

  note-keeps : (definitions : List (List ℕ × Spans)) (called : List (List ℕ)) (number : ℕ) (label : List ℕ)
      → Keep mode.LooseItems (note_pieces options bytes known tab definitions called number label)
  note-keeps definitions called number l =
      let many = option_map_or (λ c. c.repeat) (last_call l called) 0 in
      let blocks = note_blocks options bytes known tab (back_links number many) (note_of l definitions) in
      record {
        keep = λ tags k stands h. (
          record { kind = refl; stands = stands; allowed = (note-id number, tt) },
          subst (AreSafe (ListItem ∷ tags)) (sym (append_assoc blocks (Close ListItem ∷ Feed ∷ []) k))
              ((blocks-keep (back_links number many) (note_of l definitions) (links-keep number 1 many)).keep (ListItem ∷ tags) (Close ListItem ∷ Feed ∷ k) refl (refl, h)),
        );
      }

  notes-keep : (definitions : List (List ℕ × Spans)) (called : List (List ℕ)) (number : ℕ) (labels : List (List ℕ))
      → Keep mode.LooseItems (notes_from options bytes known tab definitions called number labels)
  notes-keep definitions called number [] = record { keep = λ tags k stands h. h }
  notes-keep definitions called number (l ∷ ls) =
      keep-both mode.LooseItems (note_pieces options bytes known tab definitions called number l) (notes_from options bytes known tab definitions called (suc number) ls)
      (note-keeps definitions called number l) (notes-keep definitions called (suc number) ls)

  pub section-keeps : (definitions : List (List ℕ × Spans)) (called : List (List ℕ)) → Keep mode.Flow (section_by options bytes known tab definitions called)
  section-keeps definitions [] = record { keep = λ tags k stands h. h }
  section-keeps definitions (l ∷ ls) =
      let notes = notes_from options bytes known tab definitions (l ∷ ls) 1 (notes_of (l ∷ ls)) in
      record {
        keep = λ tags k stands h. (
          record { kind = refl; stands = stands; allowed = (refl, (tt, tt)) },
          (
            record { kind = refl; stands = refl; allowed = tt },
            subst (AreSafe (OrderedList ∷ Section ∷ tags)) (sym (append_assoc notes (Close OrderedList ∷ Feed ∷ Close Section ∷ Feed ∷ []) k))
                ((notes-keep definitions (l ∷ ls) 1 (notes_of (l ∷ ls))).keep (OrderedList ∷ Section ∷ tags) (Close OrderedList ∷ Feed ∷ Close Section ∷ Feed ∷ k) refl (refl, (refl, h))),
          ),
        );
      }

  all-keep : (events : List Event) → Keep mode.Flow (pieces options bytes known tab mode.Flow [] (spans_of events) ++ section options bytes known tab events)
  all-keep events =
      keep-both mode.Flow (pieces options bytes known tab mode.Flow [] (spans_of events)) (section options bytes known tab events)
      (pieces-keep options bytes known tab safe mode.Flow [] (spans_of events)) (section-keeps (notes_in bytes (spans_of events)) (labels_of (reverse (calls_in bytes events))))

pub notes-safe : HtmlWithNotesIsSafe
notes-safe options bytes known tab events safe =
    let ps = pieces options bytes known tab mode.Flow [] (spans_of events) ++ section options bytes known tab events in
    pieces-safe true [] ps (ends ps (all-keep options bytes known tab safe events))

pub notes-text : HtmlWithNotesKeepsText
notes-text options bytes known tab events safe =
    let ps = pieces options bytes known tab mode.Flow [] (spans_of events) ++ section options bytes known tab events in
    text-kept true [] ps (ends ps (all-keep options bytes known tab safe events))
