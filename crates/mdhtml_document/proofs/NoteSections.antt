-- What is written of the section of footnotes, in more than one step.
use Rattle.std.proofs.Common.{◌≡◌, ℕ, suc, ◌+◌, ◌<◌, List, [], ◌∷◌, ◌++◌, length, map, take, drop, ap, sym, refl, ◌∙◌, append_assoc, Option, None, Some, arith}
use Rattle.std.proofs.Math.Seq.{drop-append_seam, drop-cons, take-append_seam}
use Rattle.std.proofs.lemmas.Bool.{eqb-true}
use Rattle.std.proofs.lemmas.List.{drop-map}
use Rattle.std.specs.Global.{Global}
use Rattle.std.specs.Option.{option_map_or, unwrap_or}
use Rattle.std.specs.Prelude.{◌==◌, Bool, true, false, cond, codes, get_or, Vec}
use Rattle.markdown_base.specs.declared.configuration.CompileOptions.{CompileOptions}
use Rattle.markdown_base.specs.declared.event.Event.{Event}
use Rattle.markdown_base.specs.Events.{IsBalanced}
use Rattle.mddocument_link_targets.specs.Spans.{inside}
use Rattle.mdhtml_document.specs.declared.note_section.Notes.{Notes}
use Rattle.mdhtml_document.specs.declared.shapes.Mode.{Mode}
use Rattle.mdhtml_document.specs.declared.shapes.Mode.TheVariants as mode
use Rattle.mdhtml_document.specs.Frames.{AreNotes, known_note}
use Rattle.mdhtml_document.specs.Html.{Known, has_block, note_blocks, note_pieces, notes_from, pieces, section_by}
use Rattle.mdhtml_document.specs.Notes.{back_links, is_among, last_call, note_id, note_of, notes_in, notes_of}
use Rattle.mdhtml_document.specs.Spans.{AreKinded, Nothing, Span, Spans, events_of, spans_of}
use Rattle.mdhtml_document.specs.Walks.{first_note, last_from, noted, walked}
use Rattle.mdhtml_document.specs.Written.{after}
use Rattle.mdhtml_document.proofs.LastParagraphs.{blocks-are, ending, found_at, front, front-kinded, is_last, last-kinded, last-of, last_in, parts}
use Rattle.mdhtml_document.proofs.NoteWalks.{all-kinded, first-is, noted-all}
use Rattle.mdhtml_document.proofs.SpanFacts.{inside-of}
use Rattle.mdhtml_document.proofs.Walked.{walked-open}
use Rattle.mdhtml_document.proofs.Written.{after-append}
use Rattle.mdhtml_markup.specs.declared.elements.Element.TheVariants.{ListItem, OrderedList, Paragraph, Section}
use Rattle.mdhtml_markup.specs.Pieces.{Close, Feed, Fresh, Id, Open, Piece, Text, is_fresh, written}

-- ---- the last paragraph

-- where there is none, all is in front of it
all-by : (c : Bool) (e f : Event) (s behind : Spans) → (last_in behind ≡ Nothing → front behind ≡ behind) → cond c (Span e f s behind) (last_in behind) ≡ Nothing
    → cond c Nothing (Span e f s (front behind)) ≡ Span e f s behind
all-by true e f s behind next h = cc
all-by false e f s behind next h = ap (Span e f s) (next h)

pub all-front : (s : Spans) → last_in s ≡ Nothing → front s ≡ s
all-front Nothing h = refl
all-front (Span e f s behind) h = all-by (is_last e behind) e f s behind (all-front behind) h

no-last : (at : ℕ) (some : Bool) (f l : Spans) → found_at at None some f l ≡ None → l ≡ Nothing
no-last at some f Nothing h = refl
no-last at some f (Span d g t b) h = cc

found-place : (n at : ℕ) → Some (0 + n) ≡ Some at → at ≡ n
found-place n at h = let e : 0 + n ≡ at = cc in omega (arith, e)

-- labels from one on
pub labels-at : (labels : List (Vec ℕ Global)) (at : ℕ) (label : Vec ℕ Global) → at < length labels → label ≡ get_or labels at label
    → drop at (map (λ l. l.items) labels) ≡ label.items ∷ drop (suc at) (map (λ l. l.items) labels)
labels-at labels at label less is =
    drop-map (λ l. l.items) at labels ∙ ap (map (λ l. l.items)) (drop-cons labels at label less ∙ ap (λ l. l ∷ drop (suc at) labels) (sym is))
    ∙ ap (λ (x : List (List ℕ)). label.items ∷ x) (sym (drop-map (λ l. l.items) (suc at) labels))

-- no labels, and some
pub none-labels : (labels : List (Vec ℕ Global)) (n : ℕ) (b : Bool) → b ≡ (n == 0) → b ≡ true → n ≡ length labels → map (λ l. l.items) labels ≡ []
none-labels [] n b e f g = refl
none-labels (x ∷ xs) n b e f g = let z = eqb-true n 0 (sym e ∙ f) in absurd (omega (arith, z, g))

pub some-labels : (labels : List (Vec ℕ Global)) (n : ℕ) (b : Bool) → b ≡ (n == 0) → b ≡ false → n ≡ length labels → map (λ l. l.items) labels ≡ [] → ⊥
some-labels [] n b e f g h = let t = sym f ∙ e ∙ ap (λ m. m == 0) g in cc
some-labels (x ∷ xs) n b e f g h = cc

-- ---- blocks of a note

module _ (options : CompileOptions) (bytes : List ℕ) (known : Known) (tab : ℕ) where
  -- events of spans are written among others, in a mode in which nothing is lacking
  abbrev walk : Mode → List Event → List Piece
  walk m es = walked options bytes known tab (record { mode = m; columns = []; closed = [] } ∷ []) es

  flow-walk : (s : Spans) → AreKinded s → walk mode.Flow (events_of s) ≡ pieces options bytes known tab mode.Flow [] s
  flow-walk s h = walked-open options bytes known tab (record { mode = mode.Flow; columns = []; closed = [] }) (λ columns. refl) s h

  paragraph-walk : (s : Spans) → AreKinded s → walk mode.Paragraph (events_of s) ≡ pieces options bytes known tab mode.Paragraph [] s
  paragraph-walk s h = walked-open options bytes known tab (record { mode = mode.Paragraph; columns = []; closed = [] }) (λ columns. refl) s h

  -- the links back behind all blocks
  pub none-written : (backs : List Piece) (s : Spans) (es : List Event) (out a b c : List ℕ) → AreKinded s → es ≡ events_of s → None ≡ last_from 0 0 None es → a ≡ after out (walk mode.Flow es)
      → b ≡ a ++ written (is_fresh true a) Fresh → c ≡ after b backs → c ++ (10 ∷ []) ≡ after out (note_blocks options bytes known tab backs s)
  none-written backs s es out a b c kinded same none first fresh links =
      let end = Fresh ∷ (backs ++ Feed ∷ []) in
      let found = sym (last-of s kinded) ∙ ap (last_from 0 0 None) (sym same) ∙ sym none in
      let nothing = no-last 0 (has_block s) (front s) (last_in s) found in
      ap (λ (x : List ℕ). x ++ (10 ∷ [])) (links ∙ ap (λ (x : List ℕ). after x backs) fresh) ∙ sym (after-append (a ++ written (is_fresh true a) Fresh) backs (Feed ∷ []))
      ∙ ap (λ (x : List ℕ). after x end) (first ∙ ap (λ (x : List Event). after out (walk mode.Flow x)) same ∙ ap (λ (x : List Piece). after out x) (flow-walk s kinded))
      ∙ sym (after-append out (pieces options bytes known tab mode.Flow [] s) end)
      ∙ sym
      (ap (λ (x : List Piece). after out x)
      (blocks-are options bytes known tab backs s ∙ ap (λ (x : Spans). pieces options bytes known tab mode.Flow [] x ++ ending options bytes known tab backs (last_in s)) (all-front s nothing)
      ∙ ap (λ (x : Spans). pieces options bytes known tab mode.Flow [] s ++ ending options bytes known tab backs x) nothing))

  -- in the last paragraph
  some-by : (backs : List Piece) (s l : Spans) (es : List Event) (at : ℕ) (out a b c d : List ℕ) → last_in s ≡ l → AreKinded s → AreKinded l → es ≡ events_of s
      → found_at 0 None (has_block s) (front s) l ≡ Some at → a ≡ after out (walk mode.Flow (take at es)) → b ≡ (a ++ written (is_fresh true a) Fresh) ++ codes "<p>"
      → c ≡ after b (walk mode.Paragraph (inside (drop 1 (drop at es)))) → d ≡ after (c ++ (32 ∷ [])) backs → d ++ codes "</p>\n" ≡ after out (note_blocks options bytes known tab backs s)
  some-by backs s Nothing es at out a b c d is kinded last same found first opened inner links = absurd (none-some (has_block s) found)
    where
      none-some : (b : Bool) → cond b None None ≡ Some at → ⊥
      none-some true h = cc
      none-some false h = cc
  some-by backs s (Span e f t behind) es at out a b c d is kinded last same found first opened inner links =
      let before = events_of (front s) in
      let behind_all = events_of (Span e f t behind) in
      let place = found-place (length before) at found in
      let whole : es ≡ before ++ behind_all = same ∙ parts s ∙ ap (λ (x : Spans). before ++ events_of x) is in
      let in_front : take at es ≡ before = ap (λ n. take n es) place ∙ ap (take (length before)) whole ∙ take-append_seam before behind_all in
      let from : drop at es ≡ behind_all = ap (λ n. drop n es) place ∙ ap (drop (length before)) whole ∙ drop-append_seam before behind_all in
      let in_last : inside (drop 1 (drop at es)) ≡ events_of t = ap (λ (x : List Event). inside (drop 1 x)) from ∙ inside-of t f (events_of behind) last.2 last.1 in
      let flow = pieces options bytes known tab mode.Flow [] (front s) in
      let text = pieces options bytes known tab mode.Paragraph [] t in
      let tail = Close Paragraph ∷ Feed ∷ [] in
      let middle = Text (codes " ") ∷ (backs ++ tail) in
      let end = Fresh ∷ Open Paragraph [] ∷ (text ++ middle) in
      let written_front : a ≡ after out flow =
      first ∙ ap (λ (x : List Event). after out (walk mode.Flow x)) in_front ∙ ap (λ (x : List Piece). after out x) (flow-walk (front s) (front-kinded s kinded)) in
      let written_text : c ≡ after ((a ++ written (is_fresh true a) Fresh) ++ codes "<p>") text =
      inner ∙ ap (λ (x : List Event). after b (walk mode.Paragraph x)) in_last ∙ ap (λ (x : List Piece). after b x) (paragraph-walk t last.2)
      ∙ ap (λ (x : List ℕ). after x text) opened in
      sym (append_assoc d (codes "</p>") (10 ∷ [])) ∙ ap (λ (x : List ℕ). after x tail) links ∙ sym (after-append (c ++ (32 ∷ [])) backs tail)
      ∙ ap (λ (x : List ℕ). after x middle) written_text ∙ sym (after-append ((a ++ written (is_fresh true a) Fresh) ++ codes "<p>") text middle)
      ∙ ap (λ (x : List ℕ). after x end) written_front ∙ sym (after-append out flow end)
      ∙ sym
      (ap (λ (x : List Piece). after out x)
      (blocks-are options bytes known tab backs s ∙ ap (λ (x : Spans). flow ++ ending options bytes known tab backs x) is))

  pub some-written : (backs : List Piece) (s : Spans) (es : List Event) (at : ℕ) (out a b c d : List ℕ) → AreKinded s → es ≡ events_of s → Some at ≡ last_from 0 0 None es
      → a ≡ after out (walk mode.Flow (take at es)) → b ≡ (a ++ written (is_fresh true a) Fresh) ++ codes "<p>" → c ≡ after b (walk mode.Paragraph (inside (drop 1 (drop at es))))
      → d ≡ after (c ++ (32 ∷ [])) backs → d ++ codes "</p>\n" ≡ after out (note_blocks options bytes known tab backs s)
  some-written backs s es at out a b c d kinded same some first opened inner links =
      some-by backs s (last_in s) es at out a b c d refl kinded (last-kinded s kinded) same (sym (last-of s kinded) ∙ ap (last_from 0 0 None) (sym same) ∙ sym some) first opened inner links

  -- ---- notes

  pub note-written : (definitions : List (List ℕ × Spans)) (called : List (List ℕ)) (number many : ℕ) (label out a b : List ℕ)
      → many ≡ option_map_or (λ c. c.repeat) (last_call label called) 0
      → a ≡ after out (Open ListItem (Id (note_id number) ∷ []) ∷ Feed ∷ [])
      → b ≡ after a (note_blocks options bytes known tab (back_links number many) (note_of label definitions))
      → b ++ codes "</li>\n" ≡ after out (note_pieces options bytes known tab definitions called number label)
  note-written definitions called number many label out a b times first blocks =
      let item = Open ListItem (Id (note_id number) ∷ []) ∷ Feed ∷ [] in
      let backs = back_links number (option_map_or (λ c. c.repeat) (last_call label called) 0) in
      let inner = note_blocks options bytes known tab backs (note_of label definitions) in
      let tail = Close ListItem ∷ Feed ∷ [] in
      sym (append_assoc b (codes "</li>") (10 ∷ []))
      ∙ ap (λ (x : List ℕ). after x tail)
      (blocks ∙ ap (λ n. after a (note_blocks options bytes known tab (back_links number n) (note_of label definitions))) times ∙ ap (λ (x : List ℕ). after x inner) first)
      ∙ sym (after-append (after out item) inner tail)

  pub notes-step : (definitions : List (List ℕ × Spans)) (called labels : List (List ℕ)) (at : ℕ) (label out next : List ℕ) → drop at labels ≡ label ∷ drop (suc at) labels
      → next ≡ after out (note_pieces options bytes known tab definitions called (at + 1) label)
      → after next (notes_from options bytes known tab definitions called (suc (at + 1)) (drop (at + 1) labels)) ≡ after out (notes_from options bytes known tab definitions called (suc at) (drop at labels))
  notes-step definitions called labels at label out next here is =
      let one : at + 1 ≡ suc at = omega arith in
      let rest = notes_from options bytes known tab definitions called (suc (suc at)) (drop (suc at) labels) in
      ap (λ n. after next (notes_from options bytes known tab definitions called (suc n) (drop n labels))) one
      ∙ ap (λ (x : List ℕ). after x rest) (is ∙ ap (λ n. after out (note_pieces options bytes known tab definitions called n label)) one)
      ∙ sym (after-append out (note_pieces options bytes known tab definitions called (suc at) label) rest)
      ∙ ap (λ (x : List (List ℕ)). after out (notes_from options bytes known tab definitions called (suc at) x)) (sym here)

  -- ---- the section

  four : (a p q r s : List ℕ) → (((a ++ p) ++ q) ++ r) ++ s ≡ a ++ (p ++ (q ++ (r ++ s)))
  four a p q r s = append_assoc ((a ++ p) ++ q) r s ∙ append_assoc (a ++ p) q (r ++ s) ∙ append_assoc a p (q ++ (r ++ s))

  -- without calls there is none
  some-behind : (l : List ℕ) (xs : List (List ℕ)) → xs ++ l ∷ [] ≡ [] → ⊥
  some-behind l [] h = cc
  some-behind l (x ∷ xs) h = cc

  none-among : (l : List ℕ) (ls : List (List ℕ)) → ls ≡ [] → is_among l ls ≡ true → ⊥
  none-among l [] e h = cc
  none-among l (x ∷ xs) e h = cc

  none-by : (c : Bool) (l : List ℕ) (ls : List (List ℕ)) → (notes_of ls ≡ [] → ls ≡ []) → is_among l ls ≡ c → cond c (notes_of ls) (notes_of ls ++ l ∷ []) ≡ [] → ⊥
  none-by true l ls next is h = none-among l ls (next h) is
  none-by false l ls next is h = some-behind l (notes_of ls) h

  no-call : (called : List (List ℕ)) → notes_of called ≡ [] → called ≡ []
  no-call [] h = refl
  no-call (l ∷ ls) h = absurd (none-by (is_among l ls) l ls (no-call ls) refl h)

  pub no-section : (definitions : List (List ℕ × Spans)) (called : List (List ℕ)) (out : List ℕ) → notes_of called ≡ [] → out ≡ after out (section_by options bytes known tab definitions called)
  no-section definitions called out h = ap (λ (x : List (List ℕ)). after out (section_by options bytes known tab definitions x)) (sym (no-call called h))

  pub section-written : (definitions : List (List ℕ × Spans)) (called : List (List ℕ)) (out a b : List ℕ) → (notes_of called ≡ [] → ⊥)
      → a ≡ (out ++ written (is_fresh true out) Fresh) ++ codes "<section class=\"footnotes\" data-footnotes=\"\">\n<ol>\n"
      → b ≡ after a (notes_from options bytes known tab definitions called 1 (notes_of called))
      → b ++ codes "</ol>\n</section>\n" ≡ after out (section_by options bytes known tab definitions called)
  section-written definitions [] out a b some first notes = absurd (some refl)
  section-written definitions (l ∷ ls) out a b some first notes =
      let fresh = out ++ written (is_fresh true out) Fresh in
      let inner = notes_from options bytes known tab definitions (l ∷ ls) 1 (notes_of (l ∷ ls)) in
      let front = (((fresh ++ codes "<section class=\"footnotes\" data-footnotes=\"\">") ++ codes "\n") ++ codes "<ol>") ++ codes "\n" in
      let tail = Close OrderedList ∷ Feed ∷ Close Section ∷ Feed ∷ [] in
      sym (four b (codes "</ol>") (codes "\n") (codes "</section>") (codes "\n"))
      ∙ ap (λ (x : List ℕ). after x tail)
      (notes ∙ ap (λ (x : List ℕ). after x inner) (first ∙ sym (four fresh (codes "<section class=\"footnotes\" data-footnotes=\"\">") (codes "\n") (codes "<ol>") (codes "\n"))))
      ∙ sym (after-append front inner tail)

-- what is found are the definitions of the document
pub notes-are : (notes : Notes) (bytes : List ℕ) (events : List Event) → IsBalanced events
    → ((label : List ℕ) → known_note notes.found label ≡ first_note label (noted bytes 0 [] events)) → AreNotes notes (notes_in bytes (spans_of events))
notes-are notes bytes events balanced found =
    let definitions = notes_in bytes (spans_of events) in
    record {
      events = λ label. ap (λ (o : Option (List Event)). unwrap_or o []) (found label ∙ ap (first_note label) (noted-all bytes events balanced)) ∙ first-is label definitions;
      kinded = λ label. all-kinded bytes events label;
    }
