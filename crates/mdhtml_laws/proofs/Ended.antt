-- HTML ends its lines, so that of parts stands side by side.
use Rattle.std.proofs.Common.{◌≡◌, ◌∙◌, ◌++◌, ap, refl, ℕ, Bool, true, false, cond, List, [], ◌∷◌, Option}
use Rattle.std.specs.List.{AllByRecursion, flat_map}
use Rattle.markdown_base.specs.declared.configuration.CompileOptions.{CompileOptions}
use Rattle.markdown_base.specs.declared.event.Event.{Event}
use Rattle.markdown_base.specs.Events.{IsBalanced, empty}
use Rattle.markdown_base.proofs.Balanced.{IsBalanced-append}
use Rattle.mdhtml_laws.specs.Parts.{HtmlEndsLines, HtmlOfParts}
use Rattle.mdhtml_document.specs.declared.names.Block.{Block}
use Rattle.mdhtml_document.specs.declared.names.Block.TheVariants as block
use Rattle.mdhtml_document.specs.declared.shapes.Mode.{Mode}
use Rattle.mdhtml_document.specs.declared.shapes.Mode.TheVariants as mode
use Rattle.mdhtml_document.specs.Html.{Known, Shape, block_shape, columns_behind, columns_in, html_by, pieces, raw, shape}
use Rattle.mdhtml_document.specs.Names.{block_of}
use Rattle.mdhtml_document.specs.Spans.{Nothing, Span, Spans, events_of, spans_of}
use Rattle.mdhtml_document.specs.Values.{html_flow}
use Rattle.mdhtml_document.proofs.Both.{html-both}
use Rattle.mdhtml_markup.proofs.Orders.{fresh-append}
use Rattle.mdhtml_markup.specs.Pieces.{Fresh, Piece, html_from, is_fresh, written}

-- a line has just begun behind pieces, if one had before them or not
abbrev after : (fresh : Bool) → List Piece → Bool
after fresh [] = fresh
after fresh (p ∷ ps) = after (is_fresh fresh (written fresh p)) ps

after-append : (fresh : Bool) (ps qs : List Piece) → after fresh (ps ++ qs) ≡ after (after fresh ps) qs
after-append fresh [] qs = refl
after-append fresh (p ∷ ps) qs = after-append (is_fresh fresh (written fresh p)) ps qs

fresh-after : (fresh : Bool) (ps : List Piece) → is_fresh fresh (html_from fresh ps) ≡ after fresh ps
fresh-after fresh [] = refl
fresh-after fresh (p ∷ ps) =
    let w = written fresh p in
    fresh-append fresh w (html_from (is_fresh fresh w) ps) ∙ fresh-after (is_fresh fresh w) ps

fresh-end : (fresh : Bool) → is_fresh fresh (cond fresh [] (10 ∷ [])) ≡ true
fresh-end true = refl
fresh-end false = refl

module _ (options : CompileOptions) (bytes : List ℕ) (known : Known) (tab : ℕ) where
  abbrev the : Mode → (columns : List Event) → Spans → List Piece
  the m columns s = pieces options bytes known tab m columns s

  -- where nothing is written
  nothing : (columns : List Event) (s : Spans) → the mode.Nothing columns s ≡ []
  nothing columns Nothing = refl
  nothing columns (Span e f s t) =
      let b = block_of e.name in
      let others = columns_behind b columns in
      ap (λ (ps : List Piece). ps ++ the mode.Nothing others t) (nothing (columns_in b columns (events_of s)) s) ∙ nothing others t

  behind-nothing : (fresh : Bool) (columns : List Event) (s : Spans) → fresh ≡ true → after fresh (the mode.Nothing columns s) ≡ true
  behind-nothing fresh columns s h = ap (after fresh) (nothing columns s) ∙ h

  -- behind a block a line has just begun
  block-ends : (columns : List Event) (s : Spans) → after true (the mode.Flow columns s) ≡ true → (b : Block) (es : List Event) (loose : Bool) (start : Option ℕ)
      → after (after (after true (block_shape options bytes known tab false b es loose start).opened) (the (block_shape options bytes known tab false b es loose start).inside columns s))
      (block_shape options bytes known tab false b es loose start).closed ≡ true
  block-ends columns s h block.Paragraph es loose start = refl
  block-ends columns s h block.HeadingAtx es loose start = refl
  block-ends columns s h block.HeadingSetext es loose start = refl
  block-ends columns s h block.HeadingText es loose start = behind-nothing true columns s refl
  block-ends columns s h block.Quote es loose start = refl
  block-ends columns s h block.Bullets es loose start = refl
  block-ends columns s h block.Numbers es loose start = refl
  block-ends columns s h block.Item es loose start = h
  block-ends columns s h block.Fenced es loose start = behind-nothing _ columns s refl
  block-ends columns s h block.Indented es loose start = behind-nothing _ columns s refl
  block-ends columns s h block.Html es loose start =
      let first = is_fresh true (written true Fresh) in
      let fresh = is_fresh first (written first (raw options (html_flow bytes tab es))) in
      behind-nothing (is_fresh fresh (written fresh Fresh)) columns s (fresh-end fresh)
  block-ends columns s h block.Rule es loose start = behind-nothing _ columns s refl
  block-ends columns s h block.Table es loose start = refl
  block-ends columns s h block.TableHead es loose start = behind-nothing true columns s refl
  block-ends columns s h block.TableBody es loose start = behind-nothing true columns s refl
  block-ends columns s h block.TableRow es loose start = behind-nothing true columns s refl
  block-ends columns s h block.TableCell es loose start = behind-nothing true columns s refl
  block-ends columns s h block.Other es loose start = behind-nothing true columns s refl

  around : (here : Shape) (inner rest : List Piece) → after (after (after true here.opened) inner) here.closed ≡ true → after true rest ≡ true → after true (here.opened ++ (inner ++ (here.closed ++ rest))) ≡ true
  around here inner rest h k =
      after-append true here.opened (inner ++ (here.closed ++ rest)) ∙ after-append (after true here.opened) inner (here.closed ++ rest)
      ∙ after-append (after (after true here.opened) inner) here.closed rest ∙ ap (λ fresh. after fresh rest) h ∙ k

  flow-ends : (columns : List Event) (s : Spans) → after true (the mode.Flow columns s) ≡ true
  flow-ends columns Nothing = refl
  flow-ends columns (Span e f s t) =
      let b = block_of e.name in
      let deeper = columns_in b columns (events_of s) in
      let others = columns_behind b columns in
      let here = shape options bytes known tab mode.Flow columns e f s in
      around here (the here.inside deeper s) (the mode.Flow others t) (block-ends deeper s (flow-ends deeper s) b _ _ _) (flow-ends others t)

pub html-ends : HtmlEndsLines
html-ends options bytes known tab events =
    let s = spans_of events in
    fresh-after true (pieces options bytes known tab mode.Flow [] s) ∙ flow-ends options bytes known tab [] s

balanced-all : (parts : List (List Event)) → AllByRecursion IsBalanced parts → IsBalanced (flat_map (λ (es : List Event). es) parts)
balanced-all [] h = empty
balanced-all (p ∷ ps) h = IsBalanced-append p (flat_map (λ (es : List Event). es) ps) h.0 (balanced-all ps h.1)

pub html-of-parts : HtmlOfParts
html-of-parts options bytes known tab [] h = refl
html-of-parts options bytes known tab (p ∷ ps) h =
    html-both options bytes known tab p (flat_map (λ (es : List Event). es) ps) h.0 (balanced-all ps h.1) (html-ends options bytes known tab p)
    ∙ ap (λ (x : List ℕ). html_by options bytes known tab p ++ x) (html-of-parts options bytes known tab ps h.1)
