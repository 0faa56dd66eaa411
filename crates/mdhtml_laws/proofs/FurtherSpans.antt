-- Events further on in a document have the same spans, further on: what is in a span, the first of a name, and the tree of spans.
use Rattle.std.proofs.Common.{◌≡◌, ℕ, zero, suc, ◌+◌, List, [], ◌∷◌, ◌++◌, Option, None, Some, take, drop, map, refl, ap, sym, ◌∙◌}
use Rattle.std.proofs.lemmas.List.{drop-map, map-append}
use Rattle.std.specs.List.{list_any, prefix_len, take_while}
use Rattle.std.specs.Prelude.{◌==◌, ◌&&◌, ◌||◌, not, Bool, true, false, cond, filter, find, option_map}
use Rattle.markdown_base.specs.declared.event.Event.{Event}
use Rattle.markdown_base.specs.declared.event.Kind.{Kind}
use Rattle.markdown_base.specs.declared.event.Kind.TheVariants.{Enter, Exit}
use Rattle.markdown_base.specs.declared.event.Link.{Link}
use Rattle.markdown_base.specs.declared.event.Name.{Name}
use Rattle.markdown_base.specs.declared.event.Name.TheVariants as name
use Rattle.markdown_base.specs.declared.event.Point.{Point}
use Rattle.markdown_base.specs.Events.{is_enter, same_name}
use Rattle.markdown_edits.specs.SpanWalks.{is_wanted}
use Rattle.mdblock_containers.specs.Lists.{Met, block_names, directly_by, directly_from, directly_in, is_apart, is_apart_behind, is_blank_behind, is_loose, is_spread, item_names, items_in}
use Rattle.mddocument_link_targets.specs.Spans.{behind, enters, first_in, inside, size_by, size_from}
use Rattle.mdgfm_literals.specs.Laws.{further_event, further_point}
use Rattle.mdgfm_literals.proofs.Further.{lt-on}
use Rattle.mdhtml_document.specs.Html.{alignment_by, alignment_of, behind_column, columns_behind, columns_in, columns_of, is_cell, is_led, is_trailed}
use Rattle.mdhtml_document.specs.declared.names.Block.{Block}
use Rattle.mdhtml_document.specs.declared.names.Block.TheVariants as block
use Rattle.mdhtml_document.specs.Spans.{Nothing, Opened, Outer, Span, Spans, entered, events_of, opened, opened_by, spans_of}
use Rattle.mdhtml_document.specs.Values.{behind_first_line, has_last_line, last_line}

module _ (links : Option Link → Option Link) (lines n : ℕ) where
  abbrev pub on : Event → Event
  on e = further_event links lines n e

  abbrev pub all_on : List Event → List Event
  all_on es = map on es

  -- ---- spans among events

  take-on : (k : ℕ) (es : List Event) → take k (all_on es) ≡ all_on (take k es)
  take-on zero es = refl
  take-on (suc k) [] = refl
  take-on (suc k) (e ∷ es) = ap (λ (l : List Event). on e ∷ l) (take-on k es)

  drop-on : (k : ℕ) (es : List Event) → drop k (all_on es) ≡ all_on (drop k es)
  drop-on k es = drop-map on k es

  size-on : (depth : ℕ) (es : List Event) → size_from depth (all_on es) ≡ size_from depth es
  size-on depth [] = refl
  size-on depth (e ∷ es) = λ i. size_by e.kind depth (λ d. size-on d es i)

  pub inside-on : (es : List Event) → inside (all_on es) ≡ all_on (inside es)
  inside-on es = ap (λ k. take k (all_on es)) (size-on 0 es) ∙ take-on (size_from 0 es) es

  pub behind-on : (es : List Event) → behind (all_on es) ≡ all_on (behind es)
  behind-on es = ap (λ k. drop (k + 1) (all_on es)) (size-on 0 es) ∙ drop-on (size_from 0 es + 1) es

  pub drop-one-on : (es : List Event) → drop 1 (all_on es) ≡ all_on (drop 1 es)
  drop-one-on es = drop-on 1 es

  first-by : (t : Bool) (es : List Event) (o : Option (List Event)) → inside (all_on es) ≡ all_on (inside es)
      → cond t (Some (inside (all_on es))) (option_map all_on o) ≡ option_map all_on (cond t (Some (inside es)) o)
  first-by true es o h = ap Some h
  first-by false es o h = refl

  pub first-on : (m : Name) (es : List Event) → first_in m (all_on es) ≡ option_map all_on (first_in m es)
  first-on m [] = refl
  first-on m (e ∷ es) = ap (λ o. cond (enters m e) (Some (inside (all_on es))) o) (first-on m es) ∙ first-by (enters m e) es (first_in m es) (inside-on es)

  pub any-on : (m : Name) (es : List Event) → list_any (enters m) (all_on es) ≡ list_any (enters m) es
  any-on m [] = refl
  any-on m (e ∷ es) = ap (λ b. enters m e || b) (any-on m es)

  -- ---- lines

  either-on : (t : Bool) (xs ys : List Event) → cond t (all_on xs) (all_on ys) ≡ all_on (cond t xs ys)
  either-on true xs ys = refl
  either-on false xs ys = refl

  pub behind-line-on : (es : List Event) → behind_first_line (all_on es) ≡ all_on (behind_first_line es)
  behind-line-on [] = refl
  behind-line-on (e ∷ es) = (λ i. cond (enters name.LineEnding e) (drop-one-on es i) (behind-line-on es i)) ∙ either-on (enters name.LineEnding e) (drop 1 es) (behind_first_line es)

  last-on : (es : List Event) → last_line (all_on es) ≡ all_on (last_line es)
  last-on [] = refl
  last-on (e ∷ es) =
      (λ i. cond (any-on name.LineEnding (e ∷ es) i) (last-on es i) (all_on (e ∷ es))) ∙ either-on (list_any (enters name.LineEnding) (e ∷ es)) (last_line es) (e ∷ es)

  enter-any-on : (es : List Event) → list_any (λ e. is_enter e.kind) (all_on es) ≡ list_any (λ e. is_enter e.kind) es
  enter-any-on [] = refl
  enter-any-on (e ∷ es) = ap (λ b. is_enter e.kind || b) (enter-any-on es)

  pub has-last-on : (es : List Event) → has_last_line (all_on es) ≡ has_last_line es
  has-last-on es =
      let l = last_line es in
      ap (λ (x : List Event). list_any (λ e. is_enter e.kind) x && not (list_any (enters name.CodeFencedFence) x)) (last-on es)
      ∙ (λ i. enter-any-on l i && not (any-on name.CodeFencedFence l i))

  -- ---- lists

  abbrev pub met_on : Met → Met
  met_on m = record { event = on m.event; behind = all_on m.behind }

  directly-by-on : (k : Kind) (depth : ℕ) (here : Met) (rest more : (depth : ℕ) → List Met) → ((d : ℕ) → more d ≡ map met_on (rest d)) → directly_by k depth (met_on here) more ≡ map met_on (directly_by k depth here rest)
  directly-by-on Enter zero here rest more h = ap (λ (l : List Met). met_on here ∷ l) (h 1)
  directly-by-on Enter (suc depth) here rest more h = h (suc (suc depth))
  directly-by-on Exit zero here rest more h = refl
  directly-by-on Exit (suc zero) here rest more h = ap (λ (l : List Met). met_on here ∷ l) (h 0)
  directly-by-on Exit (suc (suc depth)) here rest more h = h (suc depth)

  pub directly-on : (depth : ℕ) (es : List Event) → directly_from depth (all_on es) ≡ map met_on (directly_from depth es)
  directly-on depth [] = refl
  directly-on depth (e ∷ es) = directly-by-on e.kind depth (record { event = e; behind = es }) (λ d. directly_from d es) (λ d. directly_from d (all_on es)) (λ d. directly-on d es)

  events-met : (ms : List Met) → map (λ (m : Met). m.event) (map met_on ms) ≡ all_on (map (λ (m : Met). m.event) ms)
  events-met [] = refl
  events-met (m ∷ ms) = ap (λ (l : List Event). on m.event ∷ l) (events-met ms)

  wanted-on : (names : List Name) (es : List Event) → list_any (λ f. is_wanted names f.name) (all_on es) ≡ list_any (λ f. is_wanted names f.name) es
  wanted-on names [] = refl
  wanted-on names (e ∷ es) = ap (λ b. is_wanted names e.name || b) (wanted-on names es)

  prefix-on : (names : List Name) (es : List Event) → prefix_len (λ f. not (is_wanted names f.name)) (all_on es) ≡ prefix_len (λ f. not (is_wanted names f.name)) es
  prefix-on names [] = refl
  prefix-on names (e ∷ es) = ap (λ k. cond (not (is_wanted names e.name)) (1 + k) 0) (prefix-on names es)

  while-on : (names : List Name) (es : List Event) → take_while (λ f. not (is_wanted names f.name)) (all_on es) ≡ all_on (take_while (λ f. not (is_wanted names f.name)) es)
  while-on names es = ap (λ k. take k (all_on es)) (prefix-on names es) ∙ take-on (prefix_len (λ f. not (is_wanted names f.name)) es) es

  blank-on : (p : Point) (es : List Event) → list_any (is_blank_behind (further_point lines n p)) (all_on es) ≡ list_any (is_blank_behind p) es
  blank-on p [] = refl
  blank-on p (e ∷ es) =
      λ i. (is_enter e.kind && (same_name e.name name.BlankLineEnding && (lt-on lines p.line e.point.line i || (p.column == 1)))) || blank-on p es i

  apart-behind-on : (names : List Name) (p : Point) (es : List Event) → is_apart_behind names (further_point lines n p) (all_on es) ≡ is_apart_behind names p es
  apart-behind-on names p es =
      let front = take_while (λ f. not (is_wanted names f.name)) es in
      (λ i. wanted-on names es i && list_any (is_blank_behind (further_point lines n p)) (while-on names es i)) ∙ ap (λ b. list_any (λ f. is_wanted names f.name) es && b) (blank-on p front)

  apart-on : (names : List Name) (es : List Event) → is_apart names (all_on es) ≡ is_apart names es
  apart-on names [] = refl
  apart-on names (e ∷ es) = λ i. (is_wanted names e.name && apart-behind-on names e.point es i) || apart-on names es i

  spread-on : (names : List Name) (es : List Event) → is_spread names (all_on es) ≡ is_spread names es
  spread-on names es =
      ap (λ (ms : List Met). is_apart names (map (λ (m : Met). m.event) ms)) (directly-on 0 es) ∙ ap (is_apart names) (events-met (directly_in es)) ∙ apart-on names (map (λ (m : Met). m.event) (directly_in es))

  abbrev is_item : Met → Bool
  is_item m = is_enter m.event.kind && same_name m.event.name name.ListItem

  filter-by : (t : Bool) (m : Met) (ms : List Met) → cond t (met_on m ∷ map met_on ms) (map met_on ms) ≡ map met_on (cond t (m ∷ ms) ms)
  filter-by true m ms = refl
  filter-by false m ms = refl

  filter-on : (ms : List Met) → filter is_item (map met_on ms) ≡ map met_on (filter is_item ms)
  filter-on [] = refl
  filter-on (m ∷ ms) = ap (λ (l : List Met). cond (is_item m) (met_on m ∷ l) l) (filter-on ms) ∙ filter-by (is_item m) m (filter is_item ms)

  any-spread : (ms : List Met) → list_any (λ (m : Met). is_spread block_names m.behind) (map met_on ms) ≡ list_any (λ (m : Met). is_spread block_names m.behind) ms
  any-spread [] = refl
  any-spread (m ∷ ms) = λ i. spread-on block_names m.behind i || any-spread ms i

  items-on : (es : List Event) → items_in (all_on es) ≡ map met_on (items_in es)
  items-on es = ap (filter is_item) (directly-on 0 es) ∙ filter-on (directly_in es)

  pub loose-on : (es : List Event) → is_loose (all_on es) ≡ is_loose es
  loose-on es =
      ap (λ (ms : List Met). is_spread item_names (all_on es) || list_any (λ (m : Met). is_spread block_names m.behind) ms) (items-on es)
      ∙ (λ i. spread-on item_names es i || any-spread (items_in es) i)

  find-by : (t : Bool) (m : Met) (o : Option Met) → cond t (Some (met_on m)) (option_map met_on o) ≡ option_map met_on (cond t (Some m) o)
  find-by true m o = refl
  find-by false m o = refl

  find-on : (m : Name) (ms : List Met) → find (λ (x : Met). same_name x.event.name m) (map met_on ms) ≡ option_map met_on (find (λ (x : Met). same_name x.event.name m) ms)
  find-on m [] = refl
  find-on m (x ∷ xs) =
      ap (λ (o : Option Met). cond (same_name x.event.name m) (Some (met_on x)) o) (find-on m xs) ∙ find-by (same_name x.event.name m) x (find (λ (y : Met). same_name y.event.name m) xs)

  pub first-directly-on : (m : Name) (es : List Event) → find (λ (x : Met). same_name x.event.name m) (directly_in (all_on es)) ≡ option_map met_on (find (λ (x : Met). same_name x.event.name m) (directly_in es))
  first-directly-on m es = ap (find (λ (x : Met). same_name x.event.name m)) (directly-on 0 es) ∙ find-on m (directly_in es)

  -- ---- columns

  column-behind-on : (es : List Event) → behind_column (all_on es) ≡ all_on (behind_column es)
  column-behind-on [] = refl
  column-behind-on (e ∷ es) =
      ap (λ (l : List Event). cond (enters name.GfmTableDelimiterCell e) (all_on es) l) (column-behind-on es) ∙ either-on (enters name.GfmTableDelimiterCell e) es (behind_column es)

  led-on : (es : List Event) → is_led (all_on es) ≡ is_led es
  led-on [] = refl
  led-on (e ∷ es) = λ i. cond (enters name.GfmTableDelimiterMarker e) true (cond (enters name.GfmTableDelimiterFiller e) false (led-on es i))

  trailed-on : (es : List Event) → is_trailed (all_on es) ≡ is_trailed es
  trailed-on [] = refl
  trailed-on (e ∷ es) = λ i. cond (enters name.GfmTableDelimiterFiller e) (any-on name.GfmTableDelimiterMarker es i) (trailed-on es i)

  pub alignment-on : (es : List Event) → alignment_of (all_on es) ≡ alignment_of es
  alignment-on es = λ i. alignment_by (led-on es i) (trailed-on es i)

  columns-by : (o : Option (List Event)) → elim (option_map all_on o) as (λ (_ : Option (List Event)). List Event) [ None ↦ [] | Some row ↦ row ]
      ≡ all_on (elim o as (λ (_ : Option (List Event)). List Event) [ None ↦ [] | Some row ↦ row ])
  columns-by None = refl
  columns-by (Some row) = refl

  columns-of-on : (es : List Event) → columns_of (all_on es) ≡ all_on (columns_of es)
  columns-of-on es =
      ap (λ (o : Option (List Event)). elim o as (λ (_ : Option (List Event)). List Event) [ None ↦ [] | Some row ↦ row ]) (first-on name.GfmTableDelimiterRow es) ∙ columns-by (first_in name.GfmTableDelimiterRow es)

  pub columns-in-on : (b : Block) (columns inner : List Event) → columns_in b (all_on columns) (all_on inner) ≡ all_on (columns_in b columns inner)
  columns-in-on block.Table columns inner = columns-of-on inner
  columns-in-on block.Paragraph columns inner = refl
  columns-in-on block.HeadingAtx columns inner = refl
  columns-in-on block.HeadingSetext columns inner = refl
  columns-in-on block.HeadingText columns inner = refl
  columns-in-on block.Quote columns inner = refl
  columns-in-on block.Bullets columns inner = refl
  columns-in-on block.Numbers columns inner = refl
  columns-in-on block.Item columns inner = refl
  columns-in-on block.Fenced columns inner = refl
  columns-in-on block.Indented columns inner = refl
  columns-in-on block.Html columns inner = refl
  columns-in-on block.Rule columns inner = refl
  columns-in-on block.TableHead columns inner = refl
  columns-in-on block.TableBody columns inner = refl
  columns-in-on block.TableRow columns inner = refl
  columns-in-on block.TableCell columns inner = refl
  columns-in-on block.Other columns inner = refl

  pub columns-behind-on : (b : Block) (columns : List Event) → columns_behind b (all_on columns) ≡ all_on (columns_behind b columns)
  columns-behind-on b [] = refl
  columns-behind-on b (e ∷ es) =
      ap (λ (l : List Event). cond (is_cell b) l (all_on (e ∷ es))) (column-behind-on (e ∷ es)) ∙ either-on (is_cell b) (behind_column (e ∷ es)) (e ∷ es)

  pub behind-column-on : (es : List Event) → behind_column (all_on es) ≡ all_on (behind_column es)
  behind-column-on es = column-behind-on es

  -- ---- trees

  abbrev pub spans_on : Spans → Spans
  spans_on Nothing = Nothing
  spans_on (Span e f s behind) = Span (on e) (on f) (spans_on s) (spans_on behind)

  abbrev outer_on : Outer → Outer
  outer_on o = record { exit = on o.exit; behind = spans_on o.behind }

  abbrev opened_on : Opened → Opened
  opened_on o = record { inside = spans_on o.inside; around = map outer_on o.around }

  entered-on : (e : Event) (s : Spans) (os : List Outer) → entered (on e) (spans_on s) (map outer_on os) ≡ opened_on (entered e s os)
  entered-on e s [] = refl
  entered-on e s (o ∷ os) = refl

  step-on : (k : Kind) (e : Event) (rest : Opened) → opened_by k (on e) (opened_on rest) ≡ opened_on (opened_by k e rest)
  step-on Enter e rest = entered-on e rest.inside rest.around
  step-on Exit e rest = refl

  opened-all : (es : List Event) → opened (all_on es) ≡ opened_on (opened es)
  opened-all [] = refl
  opened-all (e ∷ es) = ap (opened_by e.kind (on e)) (opened-all es) ∙ step-on e.kind e (opened es)

  pub spans-of-on : (es : List Event) → spans_of (all_on es) ≡ spans_on (spans_of es)
  spans-of-on es = ap (λ (o : Opened). o.inside) (opened-all es)

  pub events-of-on : (s : Spans) → events_of (spans_on s) ≡ all_on (events_of s)
  events-of-on Nothing = refl
  events-of-on (Span e f s behind) =
      ap (λ (l : List Event). on e ∷ l)
      ((λ i. events-of-on s i ++ on f ∷ events-of-on behind i) ∙ sym (map-append on (events_of s) (f ∷ events_of behind)))
