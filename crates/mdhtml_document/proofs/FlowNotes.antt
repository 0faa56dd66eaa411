-- The section of footnotes is read as it is written, where no link is in a link.
use Rattle.std.proofs.Common.{◌≡◌, ℕ, suc, List, [], ◌∷◌, ◌++◌, sym, refl, subst, append_assoc, ap, ◌∙◌}
use Rattle.std.proofs.lemmas.Bool.{and_from, and_parts, false≢true, not-true, or_parts}
use Rattle.std.specs.List.{flat_map}
use Rattle.std.specs.Option.{option_map_or}
use Rattle.std.specs.Prelude.{⊤, zero, ◌==◌, ◌&&◌, ◌||◌, not, Bool, true, false, cond, codes, reverse, bytes_eq}
use Rattle.markdown_base.specs.declared.configuration.CompileOptions.{CompileOptions}
use Rattle.markdown_base.specs.declared.event.Event.{Event}
use Rattle.mdhtml_document.specs.declared.names.Inline.{Inline}
use Rattle.mdhtml_document.specs.declared.names.Inline.TheVariants as inline
use Rattle.mdhtml_document.specs.declared.shapes.Mode.TheVariants as mode
use Rattle.mdhtml_document.specs.Html.{Known, has_block, is_paragraph, note_blocks, note_pieces, notes_from, pieces, section, section_by}
use Rattle.mdhtml_document.specs.HtmlLaws.{AreSafeOptions, HtmlWithNotesIsFlow, are_apart, has_links, has_links_by, is_linked}
use Rattle.mdhtml_document.specs.Names.{block_of, inline_of}
use Rattle.mdhtml_document.specs.Notes.{back_link, back_links, back_links_from, call_id, calls_in, classed, is_container, is_note, label_in, labels_of, last_call, note_id, note_of, notes_in, notes_of, own, repeated}
use Rattle.mdhtml_document.specs.Spans.{Nothing, Span, Spans, events_of, spans_of}
use Rattle.mdhtml_document.proofs.Flow.{Flows, IsOf, element-of, ended, feed-of, first-given, fresh-of, pieces-flow, text-of, whole-of}
use Rattle.mdhtml_document.proofs.NoteIds.{note-id}
use Rattle.mdhtml_markup.specs.declared.elements.Element.TheVariants.{Anchor, ListItem, OrderedList, Paragraph, Section, Superscript}
use Rattle.mdhtml_markup.specs.Flow as flow
use Rattle.mdhtml_markup.specs.Flow.{AreGiven, Blocks, Items, Model, Phrases}
use Rattle.mdhtml_markup.specs.Pieces.{Classed, Close, Feed, FootnoteBack, Footnotes, Fresh, Href, Id, Label, Open, Piece, Text, attribute}
use Rattle.mdhtml_markup.specs.SafeHtml.{attributes_of}

-- ---- no link is in a link in notes

less-links : (i : Inline) → has_links_by i true ≡ false → has_links_by i false ≡ false
less-links inline.Ending h = refl
less-links inline.Break h = refl
less-links inline.Emphasis h = refl
less-links inline.Strong h = refl
less-links inline.Struck h = refl
less-links inline.Code h = refl
less-links inline.Html h = refl
less-links inline.Autolink h = h
less-links inline.Www h = h
less-links inline.Email h = h
less-links inline.Address h = h
less-links inline.Link h = h
less-links inline.Image h = refl
less-links inline.Check h = refl
less-links inline.Call h = h
less-links inline.Tail h = refl
less-links inline.Other h = refl

none-linked : (i : Inline) → is_linked i false ≡ false
none-linked inline.Ending = refl
none-linked inline.Break = refl
none-linked inline.Emphasis = refl
none-linked inline.Strong = refl
none-linked inline.Struck = refl
none-linked inline.Code = refl
none-linked inline.Html = refl
none-linked inline.Autolink = refl
none-linked inline.Www = refl
none-linked inline.Email = refl
none-linked inline.Address = refl
none-linked inline.Link = refl
none-linked inline.Image = refl
none-linked inline.Check = refl
none-linked inline.Call = refl
none-linked inline.Tail = refl
none-linked inline.Other = refl

-- there are no more links, if there are none where there were none
links-by : (i : Inline) (a b : Bool) → (a ≡ false → b ≡ false) → has_links_by i a ≡ false → has_links_by i b ≡ false
links-by i false b less h = ap (has_links_by i) (less refl) ∙ h
links-by i true true less h = h
links-by i true false less h = less-links i h

linked-by : (i : Inline) (a b : Bool) → (a ≡ false → b ≡ false) → is_linked i a ≡ false → is_linked i b ≡ false
linked-by i false b less h = ap (is_linked i) (less refl) ∙ h
linked-by i true true less h = h
linked-by i true false less h = none-linked i

or-from : (a b : Bool) → a ≡ false → b ≡ false → (a || b) ≡ false
or-from a b h k = ap (λ x. x || b) h ∙ k

-- spans in a span, with definitions in it or without
abbrev kept_in : Bool → Spans → Spans
kept_in c s = cond c (own s) s

kept-links : (c : Bool) (s : Spans) → (has_links s ≡ false → has_links (own s) ≡ false) → has_links s ≡ false → has_links (kept_in c s) ≡ false
kept-links true s less h = less h
kept-links false s less h = h

own-by : (note : Bool) (e f : Event) (t b : Spans) → has_links_by (inline_of e.name) (has_links t) ≡ false → has_links b ≡ false → has_links (cond note b (Span e f t b)) ≡ false
own-by true e f t b h k = k
own-by false e f t b h k = or-from (has_links_by (inline_of e.name) (has_links t)) (has_links b) h k

own-links : (s : Spans) → has_links s ≡ false → has_links (own s) ≡ false
own-links Nothing h = refl
own-links (Span e f s behind) h =
    let i = inline_of e.name in
    let parts = or_parts (has_links_by i (has_links s)) (has_links behind) h in
    let t = kept_in (is_container e.name) s in
    own-by (is_note e.name) e f t (own behind) (links-by i (has_links s) (has_links t) (kept-links (is_container e.name) s (own-links s)) parts.0) (own-links behind parts.1)

kept-apart : (c : Bool) (s : Spans) → are_apart s ≡ true → are_apart (own s) ≡ true → are_apart (kept_in c s) ≡ true
kept-apart true s h k = k
kept-apart false s h k = h

apart-by : (note : Bool) (e f : Event) (t b : Spans) → is_linked (inline_of e.name) (has_links t) ≡ false → are_apart t ≡ true → are_apart b ≡ true → are_apart (cond note b (Span e f t b)) ≡ true
apart-by true e f t b l h k = k
apart-by false e f t b l h k =
    and_from (not (is_linked (inline_of e.name) (has_links t))) (are_apart t && are_apart b) (ap not l) (and_from (are_apart t) (are_apart b) h k)

own-apart : (s : Spans) → are_apart s ≡ true → are_apart (own s) ≡ true
own-apart Nothing h = refl
own-apart (Span e f s behind) h =
    let i = inline_of e.name in
    let first = and_parts (not (is_linked i (has_links s))) (are_apart s && are_apart behind) h in
    let both = and_parts (are_apart s) (are_apart behind) first.1 in
    let t = kept_in (is_container e.name) s in
    apart-by (is_note e.name) e f t (own behind)
    (linked-by i (has_links s) (has_links t) (kept-links (is_container e.name) s (own-links s)) (not-true (is_linked i (has_links s)) first.0))
    (kept-apart (is_container e.name) s both.0 (own-apart s both.0)) (own-apart behind both.1)

-- each definition
abbrev AreApart : List (List ℕ × Spans) → Type 0
AreApart [] = ⊤
AreApart (n ∷ ns) = (are_apart n.1 ≡ true) × AreApart ns

both-apart : (ns ms : List (List ℕ × Spans)) → AreApart ns → AreApart ms → AreApart (ns ++ ms)
both-apart [] ms h k = k
both-apart (n ∷ ns) ms h k = (h.0, both-apart ns ms h.1 k)

notes-by : (note container : Bool) (label : List ℕ) (t : Spans) (inner rest : List (List ℕ × Spans)) → are_apart t ≡ true → AreApart inner → AreApart rest
    → AreApart (cond note (inner ++ (label, t) ∷ rest) (cond container inner [] ++ rest))
notes-by true c label t inner rest a h k = both-apart inner ((label, t) ∷ rest) h (a, k)
notes-by false true label t inner rest a h k = both-apart inner rest h k
notes-by false false label t inner rest a h k = k

notes-apart : (bytes : List ℕ) (s : Spans) → are_apart s ≡ true → AreApart (notes_in bytes s)
notes-apart bytes Nothing h = tt
notes-apart bytes (Span e f s behind) h =
    let i = inline_of e.name in
    let both = and_parts (are_apart s) (are_apart behind) (and_parts (not (is_linked i (has_links s))) (are_apart s && are_apart behind) h).1 in
    notes-by (is_note e.name) (is_container e.name) (label_in bytes (events_of s)) (own s) (notes_in bytes s) (notes_in bytes behind) (own-apart s both.0)
    (notes-apart bytes s both.0) (notes-apart bytes behind both.1)

one-by : (c : Bool) (a b : Spans) → are_apart a ≡ true → are_apart b ≡ true → are_apart (cond c a b) ≡ true
one-by true a b h k = h
one-by false a b h k = k

note-apart : (label : List ℕ) (ns : List (List ℕ × Spans)) → AreApart ns → are_apart (note_of label ns) ≡ true
note-apart label [] h = refl
note-apart label (n ∷ ns) h = one-by (bytes_eq label n.0) n.1 (note_of label ns) h.0 (note-apart label ns h.1)

-- ---- content

flows-both : (m : Model) (ps qs : List Piece) → Flows m ps → Flows m qs → Flows m (ps ++ qs)
flows-both m ps qs p q = record { front = λ k rest. subst (IsOf m) (sym (append_assoc ps qs k)) (p.front (qs ++ k) (q.front k rest)) }

-- links back stand in blocks and in text that is in no link
record IsPlace (m : Model) : Type 0 where
  link : flow.may_stand m Anchor ≡ true
  speaks : (b : ℕ) → flow.may_say m b ≡ true
  after : flow.after m ≡ m

blocks-place : IsPlace Blocks
blocks-place = record { link = refl; speaks = λ b. refl; after = refl }

text-place : IsPlace (Phrases false)
text-place = record { link = refl; speaks = λ b. refl; after = refl }

link-given : (number repeat : ℕ)
    → AreGiven (attributes_of Anchor) (flat_map attribute (Href (codes "#" ++ call_id number repeat) ∷ Classed (codes "footnote-backref") ∷ FootnoteBack ∷ Label (codes "Back to content") ∷ []))
link-given number repeat =
    first-given (Href (codes "#" ++ call_id number repeat)) _ _ refl
    (flow.AreGiven.missing _ _ refl
    (flow.AreGiven.missing _ _ refl
    (first-given (Classed (codes "footnote-backref")) _ _ refl
    (flow.AreGiven.missing _ _ refl (first-given FootnoteBack _ _ tt (first-given (Label (codes "Back to content")) [] [] tt flow.AreGiven.none))))))

repeat-by : (one : Bool) (t : List ℕ) → IsOf (Phrases true) (cond one [] (Open Superscript (classed (codes "footnote-ref")) ∷ Text t ∷ Close Superscript ∷ []))
repeat-by true t = ended (Phrases true) refl
repeat-by false t =
    element-of (Phrases true) Superscript (classed (codes "footnote-ref")) (Text t ∷ []) [] refl refl (first-given (Classed (codes "footnote-ref")) [] [] refl flow.AreGiven.none)
    (text-of (Phrases true) t [] (λ b. refl) (ended (Phrases true) refl)) (ended (Phrases true) refl)

link-flows : (m : Model) (number repeat : ℕ) → IsPlace m → Flows m (back_link number repeat)
link-flows m number repeat place =
    let attributes = Href (codes "#" ++ call_id number repeat) ∷ Classed (codes "footnote-backref") ∷ FootnoteBack ∷ Label (codes "Back to content") ∷ [] in
    let arrow = 226 ∷ 134 ∷ 169 ∷ [] in
    record {
      front = λ k rest.
          subst (λ (x : List Piece). IsOf m (Open Anchor attributes ∷ Text arrow ∷ x)) (sym (append_assoc (repeated repeat) (Close Anchor ∷ []) k))
          (element-of m Anchor attributes (Text arrow ∷ repeated repeat) k refl place.link (link-given number repeat)
          (text-of (Phrases true) arrow (repeated repeat) (λ b. refl) (repeat-by (repeat == 1) _)) (subst (λ x. IsOf x k) (sym place.after) rest));
    }

space-by : (m : Model) (first : Bool) → IsPlace m → Flows m (cond first [] (Text (codes " ") ∷ []))
space-by m true place = record { front = λ k rest. rest }
space-by m false place = record { front = λ k rest. text-of m (codes " ") k place.speaks rest }

links-flow : (m : Model) (number first many : ℕ) → IsPlace m → Flows m (back_links_from number first many)
links-flow m number first zero place = record { front = λ k rest. rest }
links-flow m number first (suc many) place =
    flows-both m _ _ (space-by m (first == 1) place) (flows-both m (back_link number first) _ (link-flows m number first place) (links-flow m number (suc first) many place))

module _ (options : CompileOptions) (bytes : List ℕ) (known : Known) (tab : ℕ) (safe : AreSafeOptions options) where
  last-flows : (number many : ℕ) (s : Spans) → are_apart s ≡ true
      → Flows Blocks (Fresh ∷ Open Paragraph [] ∷ (pieces options bytes known tab mode.Paragraph [] s ++ Text (codes " ") ∷ (back_links number many ++ Close Paragraph ∷ Feed ∷ [])))
  last-flows number many s a =
      let inner = pieces options bytes known tab mode.Paragraph [] s in
      let backs = back_links number many in
      let all = inner ++ Text (codes " ") ∷ backs in
      let ending : IsOf (Phrases false) backs = whole-of (Phrases false) backs refl (links-flow (Phrases false) number 1 many text-place) in
      let content : IsOf (Phrases false) all =
      (pieces-flow options bytes known tab safe mode.Paragraph (Phrases false) [] s tt (λ e. absurd (false≢true e)) a).front (Text (codes " ") ∷ backs)
      (text-of (Phrases false) (codes " ") backs (λ b. refl) ending)
      in
      record {
        front = λ k rest.
            let same : all ++ Close Paragraph ∷ Feed ∷ k ≡ (inner ++ Text (codes " ") ∷ (backs ++ Close Paragraph ∷ Feed ∷ [])) ++ k =
            append_assoc inner (Text (codes " ") ∷ backs) (Close Paragraph ∷ Feed ∷ k)
            ∙ ap (λ (x : List Piece). inner ++ Text (codes " ") ∷ x) (sym (append_assoc backs (Close Paragraph ∷ Feed ∷ []) k))
            ∙ sym (append_assoc inner (Text (codes " ") ∷ (backs ++ Close Paragraph ∷ Feed ∷ [])) k)
            in
            fresh-of Blocks (Open Paragraph [] ∷ ((inner ++ Text (codes " ") ∷ (backs ++ Close Paragraph ∷ Feed ∷ [])) ++ k)) refl
            (subst (λ (x : List Piece). IsOf Blocks (Open Paragraph [] ∷ x)) same (element-of Blocks Paragraph [] all (Feed ∷ k) refl refl flow.AreGiven.none content (feed-of Blocks k refl rest)));
      }

  either : (c : Bool) (x y : List Piece) → Flows Blocks x → Flows Blocks y → Flows Blocks (cond c x y)
  either true x y h k = h
  either false x y h k = k

  blocks-flow : (number many : ℕ) (s : Spans) → are_apart s ≡ true → Flows Blocks (note_blocks options bytes known tab (back_links number many) s)
  blocks-flow number many Nothing a =
      let backs = back_links number many in
      record {
        front = λ k rest.
            fresh-of Blocks ((backs ++ Feed ∷ []) ++ k) refl
            (subst (IsOf Blocks) (sym (append_assoc backs (Feed ∷ []) k)) ((links-flow Blocks number 1 many blocks-place).front (Feed ∷ k) (feed-of Blocks k refl rest)));
      }
  blocks-flow number many (Span e f s behind) a =
      let i = inline_of e.name in
      let first = and_parts (not (is_linked i (has_links s))) (are_apart s && are_apart behind) a in
      let both = and_parts (are_apart s) (are_apart behind) first.1 in
      let one : are_apart (Span e f s Nothing) ≡ true =
      and_from (not (is_linked i (has_links s))) (are_apart s && true) first.0 (and_from (are_apart s) true both.0 refl)
      in
      either (is_paragraph (block_of e.name) && not (has_block behind)) _ _ (last-flows number many s both.0)
      (flows-both Blocks (pieces options bytes known tab mode.Flow [] (Span e f s Nothing)) (note_blocks options bytes known tab (back_links number many) behind)
      (pieces-flow options bytes known tab safe mode.Flow Blocks [] (Span e f s Nothing) refl (λ e. absurd (false≢true e)) one) (blocks-flow number many behind both.1))

  note-flows : (definitions : List (List ℕ × Spans)) (called : List (List ℕ)) (number : ℕ) (label : List ℕ) → AreApart definitions
      → Flows Items (note_pieces options bytes known tab definitions called number label)
  note-flows definitions called number l a =
      let many = option_map_or (λ c. c.repeat) (last_call l called) 0 in
      let blocks = note_blocks options bytes known tab (back_links number many) (note_of l definitions) in
      let content : IsOf Blocks (Feed ∷ blocks) =
      feed-of Blocks blocks refl (whole-of Blocks blocks refl (blocks-flow number many (note_of l definitions) (note-apart l definitions a))) in
      record {
        front = λ k rest.
            subst (λ (x : List Piece). IsOf Items (Open ListItem (Id (note_id number) ∷ []) ∷ Feed ∷ x)) (sym (append_assoc blocks (Close ListItem ∷ Feed ∷ []) k))
            (element-of Items ListItem (Id (note_id number) ∷ []) (Feed ∷ blocks) (Feed ∷ k) refl refl (first-given (Id (note_id number)) [] [] (note-id number) flow.AreGiven.none) content
            (feed-of Items k refl rest));
      }

  notes-flow : (definitions : List (List ℕ × Spans)) (called : List (List ℕ)) (number : ℕ) (labels : List (List ℕ)) → AreApart definitions
      → Flows Items (notes_from options bytes known tab definitions called number labels)
  notes-flow definitions called number [] a = record { front = λ k rest. rest }
  notes-flow definitions called number (l ∷ ls) a =
      flows-both Items (note_pieces options bytes known tab definitions called number l) (notes_from options bytes known tab definitions called (suc number) ls)
      (note-flows definitions called number l a) (notes-flow definitions called (suc number) ls a)

  section-flows : (definitions : List (List ℕ × Spans)) (called : List (List ℕ)) → AreApart definitions → Flows Blocks (section_by options bytes known tab definitions called)
  section-flows definitions [] a = record { front = λ k rest. rest }
  section-flows definitions (l ∷ ls) a =
      let notes = notes_from options bytes known tab definitions (l ∷ ls) 1 (notes_of (l ∷ ls)) in
      let attributes = Classed (codes "footnotes") ∷ Footnotes ∷ [] in
      let items : IsOf Items (Feed ∷ notes) = feed-of Items notes refl (whole-of Items notes refl (notes-flow definitions (l ∷ ls) 1 (notes_of (l ∷ ls)) a)) in
      let list : IsOf Blocks (Feed ∷ Open OrderedList [] ∷ (Feed ∷ notes ++ Close OrderedList ∷ Feed ∷ [])) =
      feed-of Blocks (Open OrderedList [] ∷ (Feed ∷ notes ++ Close OrderedList ∷ Feed ∷ [])) refl
      (element-of Blocks OrderedList [] (Feed ∷ notes) (Feed ∷ []) refl refl (flow.AreGiven.missing _ [] refl flow.AreGiven.none) items (feed-of Blocks [] refl (ended Blocks refl)))
      in
      record {
        front = λ k rest.
            let same : (notes ++ Close OrderedList ∷ Feed ∷ []) ++ Close Section ∷ Feed ∷ k ≡ (notes ++ Close OrderedList ∷ Feed ∷ Close Section ∷ Feed ∷ []) ++ k =
            append_assoc notes (Close OrderedList ∷ Feed ∷ []) (Close Section ∷ Feed ∷ k) ∙ sym (append_assoc notes (Close OrderedList ∷ Feed ∷ Close Section ∷ Feed ∷ []) k)
            in
            fresh-of Blocks (Open Section attributes ∷ Feed ∷ Open OrderedList [] ∷ Feed ∷ ((notes ++ Close OrderedList ∷ Feed ∷ Close Section ∷ Feed ∷ []) ++ k)) refl
            (subst (λ (x : List Piece). IsOf Blocks (Open Section attributes ∷ Feed ∷ Open OrderedList [] ∷ Feed ∷ x)) same
            (element-of Blocks Section attributes (Feed ∷ Open OrderedList [] ∷ (Feed ∷ notes ++ Close OrderedList ∷ Feed ∷ [])) (Feed ∷ k) refl refl
            (first-given (Classed (codes "footnotes")) _ _ refl (first-given Footnotes [] [] tt flow.AreGiven.none)) list (feed-of Blocks k refl rest)));
      }

pub notes-flow-all : HtmlWithNotesIsFlow
notes-flow-all options bytes known tab events safe apart =
    let ps = pieces options bytes known tab mode.Flow [] (spans_of events) in
    whole-of Blocks (ps ++ section options bytes known tab events) refl
    (flows-both Blocks ps (section options bytes known tab events) (pieces-flow options bytes known tab safe mode.Flow Blocks [] (spans_of events) refl (λ e. absurd (false≢true e)) apart)
    (section-flows options bytes known tab safe (notes_in bytes (spans_of events)) (labels_of (reverse (calls_in bytes events))) (notes-apart bytes (spans_of events) apart)))
    true
