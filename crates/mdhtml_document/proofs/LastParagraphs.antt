-- Links back stand in the last paragraph of a note: where that is found, and what is written in front of it.
use Rattle.std.proofs.Common.{◌≡◌, ℕ, suc, ◌+◌, List, [], ◌∷◌, ◌++◌, length, ap, sym, refl, ◌∙◌, append_assoc, append-nil, Option, None, Some, arith}
use Rattle.std.proofs.lemmas.Bool.{cond_both, or_parts}
use Rattle.std.proofs.lemmas.List.{length-append}
use Rattle.std.specs.Prelude.{zero, ◌&&◌, ◌||◌, not, Bool, true, false, cond, codes}
use Rattle.markdown_base.specs.declared.configuration.CompileOptions.{CompileOptions}
use Rattle.markdown_base.specs.declared.event.Event.{Event}
use Rattle.mddocument_link_targets.specs.Spans.{inside}
use Rattle.mdhtml_document.specs.declared.names.Block.{Block}
use Rattle.mdhtml_document.specs.declared.names.Block.TheVariants as block
use Rattle.mdhtml_document.specs.declared.shapes.Mode.TheVariants as mode
use Rattle.mdhtml_document.specs.Html.{Known, columns_in, has_block, is_paragraph, is_written, note_blocks, pieces, shape}
use Rattle.mdhtml_document.specs.Names.{block_of}
use Rattle.mdhtml_document.specs.Spans.{AreKinded, Nothing, Span, Spans, events_of}
use Rattle.mdhtml_document.specs.Walks.{last_by, last_from}
use Rattle.mdhtml_document.proofs.SpanFacts.{inside-of, span-append}
use Rattle.mdhtml_document.proofs.Walked.{joined}
use Rattle.mdhtml_markup.specs.declared.elements.Element.TheVariants.{Paragraph}
use Rattle.mdhtml_markup.specs.Pieces.{Close, Feed, Fresh, Open, Piece, Text}

-- whether a span is the last block, and a paragraph
abbrev pub is_last : Event → (behind : Spans) → Bool
is_last e behind = is_paragraph (block_of e.name) && not (has_block behind)

-- the spans in front of the last paragraph, or all; and those in it
abbrev pub front : Spans → Spans
front Nothing = Nothing
front (Span e f s behind) = cond (is_last e behind) Nothing (Span e f s (front behind))

-- the last paragraph, with what is behind it
abbrev pub last_in : Spans → Spans
last_in Nothing = Nothing
last_in (Span e f s behind) = cond (is_last e behind) (Span e f s behind) (last_in behind)

-- the events are those in front of it, and then its own
parts-by : (c : Bool) (e f : Event) (s behind t l : Spans) → events_of behind ≡ events_of t ++ events_of l
    → events_of (Span e f s behind) ≡ events_of (cond c Nothing (Span e f s t)) ++ events_of (cond c (Span e f s behind) l)
parts-by true e f s behind t l h = refl
parts-by false e f s behind t l h =
    ap (λ (x : List Event). e ∷ (events_of s ++ f ∷ x)) h ∙ sym (span-append e f s t (events_of l))

pub parts : (s : Spans) → events_of s ≡ events_of (front s) ++ events_of (last_in s)
parts Nothing = refl
parts (Span e f s behind) = parts-by (is_last e behind) e f s behind (front behind) (last_in behind) (parts behind)

-- ---- where it is

skipped : (xs zs : List Event) (at : ℕ) (last : Option ℕ) → last_from at (length xs) last (xs ++ zs) ≡ last_from (at + length xs) 0 last zs
skipped [] zs at last = let e : at ≡ at + 0 = omega arith in ap (λ n. last_from n 0 last zs) e
skipped (x ∷ xs) zs at last =
    let e : suc at + length xs ≡ at + suc (length xs) = omega arith in
    skipped xs zs (suc at) last ∙ ap (λ n. last_from n 0 last zs) e

abbrev pub found_at : (at : ℕ) → (last : Option ℕ) → (some : Bool) → (front last : Spans) → Option ℕ
found_at at last some f Nothing = cond some None last
found_at at last some f (Span d g t b) = Some (at + length (events_of f))

abbrev pub found_of : (at : ℕ) → (last : Option ℕ) → Spans → Option ℕ
found_of at last s = found_at at last (has_block s) (front s) (last_in s)

unwritten : (b : Block) → is_written b ≡ false → is_paragraph b ≡ false
unwritten block.Paragraph h = h
unwritten block.HeadingAtx h = refl
unwritten block.HeadingSetext h = refl
unwritten block.HeadingText h = refl
unwritten block.Quote h = refl
unwritten block.Bullets h = refl
unwritten block.Numbers h = refl
unwritten block.Item h = refl
unwritten block.Fenced h = refl
unwritten block.Indented h = refl
unwritten block.Html h = refl
unwritten block.Rule h = refl
unwritten block.Table h = refl
unwritten block.TableHead h = refl
unwritten block.TableBody h = refl
unwritten block.TableRow h = refl
unwritten block.TableCell h = refl
unwritten block.Other h = refl

none-last : (s : Spans) → has_block s ≡ false → last_in s ≡ Nothing
none-last Nothing h = refl
none-last (Span e f s behind) h =
    let both = or_parts (is_written (block_of e.name)) (has_block behind) h in
    ap (λ p. cond (p && not (has_block behind)) (Span e f s behind) (last_in behind)) (unwritten (block_of e.name) both.0) ∙ none-last behind both.1

-- one span more, behind which there is none
abbrev found_from : (at : ℕ) → (last : Option ℕ) → Block → (more : Bool) → (e f : Event) → (s behind t l : Spans) → Option ℕ
found_from at last b more e f s behind t l =
    let c = is_paragraph b && not more in found_at at last (is_written b || more) (cond c Nothing (Span e f s t)) (cond c (Span e f s behind) l)

last-none : (at : ℕ) (last : Option ℕ) (b : Block) (e f : Event) (s behind t : Spans) → last_by b at last ≡ found_from at last b false e f s behind t Nothing
last-none at last block.Paragraph e f s behind t = let h : at ≡ at + 0 = omega arith in ap Some h
last-none at last block.HeadingAtx e f s behind t = refl
last-none at last block.HeadingSetext e f s behind t = refl
last-none at last block.HeadingText e f s behind t = refl
last-none at last block.Quote e f s behind t = refl
last-none at last block.Bullets e f s behind t = refl
last-none at last block.Numbers e f s behind t = refl
last-none at last block.Item e f s behind t = refl
last-none at last block.Fenced e f s behind t = refl
last-none at last block.Indented e f s behind t = refl
last-none at last block.Html e f s behind t = refl
last-none at last block.Rule e f s behind t = refl
last-none at last block.Table e f s behind t = refl
last-none at last block.TableHead e f s behind t = refl
last-none at last block.TableBody e f s behind t = refl
last-none at last block.TableRow e f s behind t = refl
last-none at last block.TableCell e f s behind t = refl
last-none at last block.Other e f s behind t = refl

-- or some
last-some : (p w : Bool) (at here : ℕ) (last given : Option ℕ) (e f : Event) (s behind t l : Spans) → here ≡ at + (suc (suc (length (events_of s))))
    → found_at here given true t l ≡ found_at at last (w || true) (cond (p && not true) Nothing (Span e f s t)) (cond (p && not true) (Span e f s behind) l)
last-some true true at here last given e f s behind t Nothing h = refl
last-some true false at here last given e f s behind t Nothing h = refl
last-some false true at here last given e f s behind t Nothing h = refl
last-some false false at here last given e f s behind t Nothing h = refl
last-some true w at here last given e f s behind t (Span d g u v) h = let a = length-append (events_of s) (f ∷ events_of t) in ap Some (omega (arith, h, a))
last-some false w at here last given e f s behind t (Span d g u v) h = let a = length-append (events_of s) (f ∷ events_of t) in ap Some (omega (arith, h, a))

one-more : (more : Bool) (at here : ℕ) (last : Option ℕ) (b : Block) (e f : Event) (s behind : Spans) → has_block behind ≡ more → here ≡ at + (suc (suc (length (events_of s))))
    → found_at here (last_by b at last) more (front behind) (last_in behind) ≡ found_from at last b more e f s behind (front behind) (last_in behind)
one-more true at here last b e f s behind has h = last-some (is_paragraph b) (is_written b) at here last (last_by b at last) e f s behind (front behind) (last_in behind) h
one-more false at here last b e f s behind has h =
    ap (found_at here (last_by b at last) false (front behind)) (none-last behind has) ∙ last-none at last b e f s behind (front behind)
    ∙ ap (found_from at last b false e f s behind (front behind)) (sym (none-last behind has))

last-spans : (s : Spans) → AreKinded s → (at : ℕ) (last : Option ℕ) (zs : List Event) → last_from at 0 last (events_of s ++ zs) ≡ last_from (at + length (events_of s)) 0 (found_of at last s) zs
last-spans Nothing h at last zs = let e : at ≡ at + 0 = omega arith in ap (λ n. last_from n 0 last zs) e
last-spans (Span e f s behind) h at last zs =
    let rest = events_of behind ++ zs in
    let es = events_of s ++ f ∷ rest in
    let whole = events_of s ++ f ∷ [] in
    let b = block_of e.name in
    let here = suc at + length whole in
    let a = length-append (events_of s) (f ∷ []) in
    let c = length-append (events_of s) (f ∷ events_of behind) in
    let size : suc (length (inside es)) ≡ length whole = let i = ap (λ (x : List Event). length x) (inside-of s f rest h.2 h.1) in omega (arith, a, i) in
    let place : here ≡ at + (suc (suc (length (events_of s)))) = omega (arith, a) in
    let end : here + length (events_of behind) ≡ at + length (events_of (Span e f s behind)) = omega (arith, a, c) in
    ap (last_from at 0 last) (span-append e f s behind zs)
    ∙ ap (λ n. last_from (suc at) n (last_by b at last) es) size
    ∙ ap (last_from (suc at) (length whole) (last_by b at last)) (sym (append_assoc (events_of s) (f ∷ []) rest))
    ∙ skipped whole rest (suc at) (last_by b at last)
    ∙ last-spans behind h.3 here (last_by b at last) zs
    ∙ ap (λ n. last_from n 0 (found_of here (last_by b at last) behind) zs) end
    ∙ ap (λ o. last_from (at + length (events_of (Span e f s behind))) 0 o zs) (one-more (has_block behind) at here last b e f s behind refl place)

last-end : (at skip : ℕ) (o : Option ℕ) → last_from at skip o [] ≡ o
last-end at zero o = refl
last-end at (suc n) o = refl

pub last-of : (s : Spans) → AreKinded s → last_from 0 0 None (events_of s) ≡ found_of 0 None s
last-of s h =
    ap (last_from 0 0 None) (sym (append-nil (events_of s))) ∙ last-spans s h 0 None [] ∙ last-end (0 + length (events_of s)) 0 (found_of 0 None s)

-- ---- what is written

abbrev pub ending : CompileOptions → (bytes : List ℕ) → Known → (tab : ℕ) → (backs : List Piece) → Spans → List Piece
ending options bytes known tab backs Nothing = Fresh ∷ (backs ++ Feed ∷ [])
ending options bytes known tab backs (Span e f s behind) =
    Fresh ∷ Open Paragraph [] ∷ (pieces options bytes known tab mode.Paragraph [] s ++ Text (codes " ") ∷ (backs ++ Close Paragraph ∷ Feed ∷ []))

module _ (options : CompileOptions) (bytes : List ℕ) (known : Known) (tab : ℕ) (backs : List Piece) where
  blocks-by : (c : Bool) (e f : Event) (s behind : Spans)
      → note_blocks options bytes known tab backs behind ≡ pieces options bytes known tab mode.Flow [] (front behind) ++ ending options bytes known tab backs (last_in behind)
      → cond c (ending options bytes known tab backs (Span e f s behind)) (pieces options bytes known tab mode.Flow [] (Span e f s Nothing) ++ note_blocks options bytes known tab backs behind)
      ≡ pieces options bytes known tab mode.Flow [] (cond c Nothing (Span e f s (front behind))) ++ ending options bytes known tab backs (cond c (Span e f s behind) (last_in behind))
  blocks-by true e f s behind h = refl
  blocks-by false e f s behind h =
      let here = shape options bytes known tab mode.Flow [] e f s in
      let inner = pieces options bytes known tab here.inside (columns_in (block_of e.name) [] (events_of s)) s in
      let rest = note_blocks options bytes known tab backs behind in
      let before = pieces options bytes known tab mode.Flow [] (front behind) in
      let end = ending options bytes known tab backs (last_in behind) in
      sym (joined options bytes known tab here.opened inner here.closed [] rest) ∙ ap (λ (x : List Piece). here.opened ++ (inner ++ (here.closed ++ x))) h
      ∙ joined options bytes known tab here.opened inner here.closed before end

  pub blocks-are : (s : Spans) → note_blocks options bytes known tab backs s ≡ pieces options bytes known tab mode.Flow [] (front s) ++ ending options bytes known tab backs (last_in s)
  blocks-are Nothing = refl
  blocks-are (Span e f s behind) = blocks-by (is_last e behind) e f s behind (blocks-are behind)

-- kinds
front-by : (c : Bool) (e f : Event) (s behind : Spans) → AreKinded (Span e f s behind) → AreKinded (cond c Nothing (Span e f s behind))
front-by true e f s behind h = tt
front-by false e f s behind h = h

pub front-kinded : (s : Spans) → AreKinded s → AreKinded (front s)
front-kinded Nothing h = tt
front-kinded (Span e f s behind) h = front-by (is_last e behind) e f s (front behind) ((h.0, h.1, h.2, front-kinded behind h.3))

pub last-kinded : (s : Spans) → AreKinded s → AreKinded (last_in s)
last-kinded Nothing h = tt
last-kinded (Span e f s behind) h = cond_both (is_last e behind) (Span e f s behind) (last_in behind) AreKinded (λ e. h) (λ e. last-kinded behind h.3)
