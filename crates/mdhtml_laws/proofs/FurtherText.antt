-- What events say that stand further on, among other bytes: the same, if these have the same bytes there.
use Rattle.std.proofs.Common.{◌≡◌, ℕ, zero, suc, ◌+◌, ◌-◌, ◌≤◌, List, [], ◌∷◌, ◌++◌, Option, None, Some, drop, refl, ap, ◌∙◌, arith}
use Rattle.std.proofs.lemmas.Bool.{and_from, and_parts, or_left, or_right}
use Rattle.std.specs.Char.{is_ascii_whitespace}
use Rattle.std.specs.List.{AllByRecursion, repeat, slice_range, take_while}
use Rattle.std.specs.Option.{option_map_or, option_or}
use Rattle.std.specs.Prelude.{◌%◌, ◌==◌, ◌&&◌, ◌||◌, not, Bool, true, false, cond, find, option_and_then, option_map, slice_get, IfSome, ⊤}
use Rattle.markdown_base.proofs.Common.{every-drop, every-take}
use Rattle.markdown_base.specs.declared.event.Event.{Event}
use Rattle.markdown_base.specs.declared.event.Kind.{Kind}
use Rattle.markdown_base.specs.declared.event.Kind.TheVariants.{Enter, Exit}
use Rattle.markdown_base.specs.declared.event.Link.{Link}
use Rattle.markdown_base.specs.declared.event.Name.{Name}
use Rattle.markdown_base.specs.declared.event.Name.TheVariants as name
use Rattle.markdown_base.specs.declared.event.Point.{Point}
use Rattle.markdown_base.specs.Events.{is_enter, same_name}
use Rattle.mdblock_containers.specs.Lists.{Met, digits_at, directly_by, directly_from, directly_in, list_start, number_of, first_in as first_directly}
use Rattle.mddocument_link_targets.specs.declared.strings.Reading.{Reading}
use Rattle.mddocument_link_targets.specs.declared.strings.Reading.TheVariants.{AsWritten, Decoded}
use Rattle.mddocument_link_targets.specs.declared.targets.Parts.{Parts}
use Rattle.mddocument_link_targets.specs.declared.targets.Target.{Target}
use Rattle.mddocument_link_targets.specs.declared.targets.Target.TheVariants as target
use Rattle.mddocument_link_targets.specs.Spans.{behind, enters, first_in, inside, size_from}
use Rattle.mddocument_link_targets.specs.Strings.{decoded, given, given_at, reference, text}
use Rattle.mddocument_link_targets.specs.Targets.{label_of, resource_parts, string_in, target_behind, target_in, written}
use Rattle.mdinline_labels.specs.Labels.{normalised}
use Rattle.mdgfm_literals.proofs.Further.{eq-on}
use Rattle.mdhtml_document.specs.Html.{byte_of_first, language, length_of_first, parts_in_link, setext_rank}
use Rattle.mdhtml_document.specs.Names.{inline_of}
use Rattle.mdhtml_document.specs.declared.names.Inline.{Inline}
use Rattle.mdhtml_document.specs.declared.names.Inline.TheVariants as inline
use Rattle.mdhtml_document.specs.Spans.{Nothing, Span, Spans, events_of}
use Rattle.mdhtml_document.specs.Values.{alt_by, alt_of, autolink_address, block_lines, bytes_at, code_lines, code_text, cut, cut_at, html_flow, html_text, is_address, lines_from, reading_of, said, stripped}
use Rattle.mdhtml_markup.specs.Pieces.{Language}
use Rattle.mdhtml_laws.proofs.FurtherSpans.{all_on, behind-on, drop-one-on, events-of-on, first-directly-on, first-on, has-last-on, inside-on, met_on, on, spans_on}
use Rattle.mdhtml_laws.specs.Moved.{IsMarked, is_read}

-- Other bytes have the same bytes so much further on: up to an index that fits, from one that is read, and before one that fits
pub record AreSame (new old : List ℕ) (n : ℕ) (Fits Reads : ℕ → Type 0) : Type 0 where
  pub ranges : (i j : ℕ) → Fits j → slice_range new (i + n) (j + n) ≡ slice_range old i j
  pub bytes : (i : ℕ) → Reads i → slice_get new (i + n) ≡ slice_get old i
  pub digits : (i : ℕ) → Reads i → digits_at new (i + n) ≡ digits_at old i
  pub before : (i : ℕ) → Fits i → 1 ≤ i → slice_get new (i + n - 1) ≡ slice_get old (i - 1)

-- an event stands where they are the same
pub record IsFine (Fits Reads : ℕ → Type 0) (e : Event) : Type 0 where
  pub fits : Fits e.point.index
  pub reads : is_read e.name ≡ true → Reads e.point.index
  pub marked : IsMarked e

minus-on : (i j n : ℕ) → (j + n) - (i + n) ≡ j - i
minus-on i j n = omega arith

module _ (links : Option Link → Option Link) (lines n : ℕ) (new old : List ℕ) (Fits Reads : ℕ → Type 0) (same : AreSame new old n Fits Reads) where
  abbrev the : Event → Event
  the e = on links lines n e

  abbrev more : List Event → List Event
  more es = all_on links lines n es

  abbrev pub AreFine : List Event → Type 0
  AreFine es = AllByRecursion (IsFine Fits Reads) es

  fine-inside : (es : List Event) → AreFine es → AreFine (inside es)
  fine-inside es h = every-take (IsFine Fits Reads) (size_from 0 es) es h

  fine-behind : (es : List Event) → AreFine es → AreFine (behind es)
  fine-behind es h = every-drop (IsFine Fits Reads) (size_from 0 es + 1) es h

  fine-cond : (t : Bool) (xs : List Event) (o : Option (List Event)) → AreFine xs → IfSome o AreFine → IfSome (cond t (Some xs) o) AreFine
  fine-cond true xs o h k = h
  fine-cond false xs o h k = k

  fine-first : (m : Name) (es : List Event) → AreFine es → IfSome (first_in m es) AreFine
  fine-first m [] h = tt
  fine-first m (e ∷ es) h = fine-cond (enters m e) (inside es) (first_in m es) (fine-inside es h.1) (fine-first m es h.1)

  -- ---- what spans say

  same-when : (t : Bool) (xs ys zs : List ℕ) → (t ≡ true → xs ≡ ys) → cond t xs zs ≡ cond t ys zs
  same-when true xs ys zs h = h refl
  same-when false xs ys zs h = refl

  given-on : (r : Reading) (m : Name) (from to : ℕ) → Fits from → Fits to → (same_name m name.CharacterReferenceValue ≡ true → 1 ≤ from) → given new r m (from + n) (to + n) ≡ given old r m from to
  given-on AsWritten m from to f h k = ap (λ (s : List ℕ). cond (same_name m name.BlockQuoteMarker) [] s) (same.ranges from to h)
  given-on Decoded m from to f h k =
      let range = same.ranges from to h in
      let plain = same_name m name.Data || same_name m name.CharacterEscapeValue in
      (λ i. cond (same_name m name.LineEnding) (10 ∷ [])
      (cond (same_name m name.CharacterReferenceValue) (reference (slice_get new (from + n - 1)) (range i)) (cond plain (range i) [])))
      ∙ ap (λ (s : List ℕ). cond (same_name m name.LineEnding) (10 ∷ []) s)
      (same-when (same_name m name.CharacterReferenceValue) (reference (slice_get new (from + n - 1)) (slice_range old from to)) (reference (slice_get old (from - 1)) (slice_range old from to)) (cond plain (slice_range old from to) [])
      (λ is. ap (λ (o : Option ℕ). reference o (slice_range old from to)) (same.before from f (k is))))

  -- of an event that enters a span
  when-both : (a b : Bool) (xs ys : List ℕ) → (a ≡ true → xs ≡ ys) → cond (a && b) xs [] ≡ cond (a && b) ys []
  when-both true true xs ys h = h refl
  when-both true false xs ys h = refl
  when-both false b xs ys h = refl

  mark-at : (e : Event) → IsFine Fits Reads e → is_enter e.kind ≡ true → same_name e.name name.CharacterReferenceValue ≡ true → 1 ≤ e.point.index
  mark-at e h enter is = h.marked (and_from (is_enter e.kind) (same_name e.name name.CharacterReferenceValue) enter is)

  given-at-on : (r : Reading) (e : Event) (es : List Event) → AreFine (e ∷ es) → given_at new r (the e) (more es) ≡ given_at old r e es
  given-at-on r e [] h = refl
  given-at-on r e (f ∷ fs) h =
      when-both (is_enter e.kind) (not (is_enter f.kind)) (given new r e.name (e.point.index + n) (f.point.index + n)) (given old r e.name e.point.index f.point.index)
      (λ enter. given-on r e.name e.point.index f.point.index h.0.fits h.1.0.fits (mark-at e h.0 enter))

  text-on : (r : Reading) (es : List Event) → AreFine es → text new r (more es) ≡ text old r es
  text-on r [] h = refl
  text-on r (e ∷ es) h = λ i. given-at-on r e es h i ++ text-on r es h.1 i

  -- ---- links

  string-by : (o : Option (List Event)) → IfSome o AreFine
      → elim (option_map more o) as (λ (_ : Option (List Event)). List ℕ) [ None ↦ [] | Some string ↦ decoded new string ] ≡ elim o as (λ (_ : Option (List Event)). List ℕ) [ None ↦ [] | Some string ↦ decoded old string ]
  string-by None h = refl
  string-by (Some es) h = text-on Decoded es h

  string-on : (m : Name) (es : List Event) → AreFine es → string_in new m (more es) ≡ string_in old m es
  string-on m es h =
      ap (λ (o : Option (List Event)). elim o as (λ (_ : Option (List Event)). List ℕ) [ None ↦ [] | Some string ↦ decoded new string ]) (first-on links lines n m es) ∙ string-by (first_in m es) (fine-first m es h)

  title-by : (m : Name) (o : Option (List Event)) → IfSome o AreFine → option_map (string_in new m) (option_map more o) ≡ option_map (string_in old m) o
  title-by m None h = refl
  title-by m (Some es) h = ap Some (string-on m es h)

  resource-on : (es : List Event) → AreFine es → resource_parts new (more es) ≡ resource_parts old es
  resource-on es h =
      let destination = string-on name.ResourceDestinationString es h in
      let title = ap (option_map (string_in new name.ResourceTitleString)) (first-on links lines n name.ResourceTitle es) ∙ title-by name.ResourceTitleString (first_in name.ResourceTitle es) (fine-first name.ResourceTitle es h) in
      λ i. record { destination = destination i; title = title i }

  written-by : (o : Option (List Event)) → IfSome o AreFine → written new (option_map more o) ≡ written old o
  written-by None h = refl
  written-by (Some es) h = text-on AsWritten es h

  or-on : (a b : Option (List Event)) → option_or (option_map more a) (option_map more b) ≡ option_map more (option_or a b)
  or-on None b = refl
  or-on (Some xs) b = refl

  or-fine : (a b : Option (List Event)) → IfSome a AreFine → IfSome b AreFine → IfSome (option_or a b) AreFine
  or-fine None b h k = k
  or-fine (Some xs) b h k = h

  label-on : (own tail : List Event) → AreFine own → AreFine tail → label_of new (more own) (more tail) ≡ label_of old own tail
  label-on own tail h k =
      let a = first_in name.ReferenceString tail in
      let b = first_in name.LabelText own in
      (λ i. normalised (written new (option_or (first-on links lines n name.ReferenceString tail i) (first-on links lines n name.LabelText own i))))
      ∙ ap (λ (o : Option (List Event)). normalised (written new o)) (or-on a b)
      ∙ ap normalised (written-by (option_or a b) (or-fine a b (fine-first name.ReferenceString tail k) (fine-first name.LabelText own h)))

  target-by : (own tail : List Event) (o : Option (List Event)) → AreFine own → AreFine tail → IfSome o AreFine
      → elim (option_map more o) as (λ (_ : Option (List Event)). Target) [ None ↦ target.Label (label_of new (more own) (more tail)) | Some resource ↦ target.Parts (resource_parts new resource) ]
      ≡ elim o as (λ (_ : Option (List Event)). Target) [ None ↦ target.Label (label_of old own tail) | Some resource ↦ target.Parts (resource_parts old resource) ]
  target-by own tail None h k l = ap (λ (x : List ℕ). target.Label x) (label-on own tail h k)
  target-by own tail (Some es) h k l = ap (λ (p : Parts). target.Parts p) (resource-on es l)

  target-behind-on : (own tail : List Event) → AreFine own → AreFine tail → target_behind new (more own) (more tail) ≡ target_behind old own tail
  target-behind-on own tail h k =
      ap (λ (o : Option (List Event)). elim o as (λ (_ : Option (List Event)). Target) [ None ↦ target.Label (label_of new (more own) (more tail)) | Some resource ↦ target.Parts (resource_parts new resource) ])
      (first-on links lines n name.Resource tail)
      ∙ target-by own tail (first_in name.Resource tail) h k (fine-first name.Resource tail k)

  target-on : (es : List Event) → AreFine es → target_in new (more es) ≡ target_in old es
  target-on es h =
      let rest = drop 1 es in
      let fine = every-drop (IsFine Fits Reads) 1 es h in
      (λ i. target_behind new (inside (drop-one-on links lines n es i)) (behind (drop-one-on links lines n es i)))
      ∙ (λ i. target_behind new (inside-on links lines n rest i) (behind-on links lines n rest i))
      ∙ target-behind-on (inside rest) (behind rest) (fine-inside rest fine) (fine-behind rest fine)

  pub link-on : (lookup : (label : List ℕ) → Option Parts) (es : List Event) → AreFine es → parts_in_link new lookup (more es) ≡ parts_in_link old lookup es
  link-on lookup es h = ap (λ (t : Target). elim t as (λ (_ : Target). Option Parts) [ target.Parts parts ↦ Some parts | target.Label label ↦ lookup label ]) (target-on es h)

  -- ---- lines of inline text

  at-on : (e : Event) (es : List Event) → AreFine es → bytes_at new (the e) (more es) ≡ bytes_at old e es
  at-on e [] h = refl
  at-on e (f ∷ fs) h = same.ranges e.point.index f.point.index h.0.fits

  lines-on : (m : Name) (ending : ℕ) (es : List Event) → AreFine es → lines_from new m ending (more es) ≡ lines_from old m ending es
  lines-on m ending [] h = refl
  lines-on m ending (e ∷ es) h =
      λ i. cond (enters name.LineEnding e) (ending ∷ lines-on m ending es h.1 i) (cond (enters m e) (at-on e es h.1 i ++ lines-on m ending es h.1 i) (lines-on m ending es h.1 i))

  pub code-text-on : (es : List Event) → AreFine es → code_text new (more es) ≡ code_text old es
  code-text-on es h = ap stripped (lines-on name.CodeTextData 32 es h)

  pub html-text-on : (es : List Event) → AreFine es → html_text new (more es) ≡ html_text old es
  html-text-on es h = lines-on name.HtmlTextData 10 es h

  pub address-on : (es : List Event) → AreFine es → autolink_address new (more es) ≡ autolink_address old es
  address-on [] h = refl
  address-on (e ∷ es) h = λ i. cond (is_address e) (at-on e es h.1 i) (address-on es h.1 i)

  -- ---- descriptions

  pub said-on : (e f : Event) (s : Spans) → IsFine Fits Reads e → IsFine Fits Reads f → is_enter e.kind ≡ true → said new (the e) (the f) (spans_on links lines n s) ≡ said old e f s
  said-on e f Nothing h k enter = given-on (reading_of (inline_of e.name)) e.name e.point.index f.point.index h.fits k.fits (mark-at e h enter)
  said-on e f (Span d g s behind) h k enter = refl

  alt-by-on : (i : Inline) (es : List Event) (a b c d : List ℕ) → AreFine es → a ≡ b → c ≡ d → alt_by new i (more es) a c ≡ alt_by old i es b d
  alt-by-on inline.Code es a b c d h x y = code-text-on es h
  alt-by-on inline.Html es a b c d h x y = html-text-on es h
  alt-by-on inline.Autolink es a b c d h x y = address-on es h
  alt-by-on inline.Ending es a b c d h x y = refl
  alt-by-on inline.Tail es a b c d h x y = refl
  alt-by-on inline.Break es a b c d h x y = λ j. x j ++ y j
  alt-by-on inline.Emphasis es a b c d h x y = λ j. x j ++ y j
  alt-by-on inline.Strong es a b c d h x y = λ j. x j ++ y j
  alt-by-on inline.Struck es a b c d h x y = λ j. x j ++ y j
  alt-by-on inline.Www es a b c d h x y = λ j. x j ++ y j
  alt-by-on inline.Email es a b c d h x y = λ j. x j ++ y j
  alt-by-on inline.Address es a b c d h x y = λ j. x j ++ y j
  alt-by-on inline.Check es a b c d h x y = λ j. x j ++ y j
  alt-by-on inline.Call es a b c d h x y = λ j. x j ++ y j
  alt-by-on inline.Link es a b c d h x y = λ j. x j ++ y j
  alt-by-on inline.Image es a b c d h x y = λ j. x j ++ y j
  alt-by-on inline.Other es a b c d h x y = λ j. x j ++ y j

  -- the events of a tree stand where the bytes are the same, and its enters are enters
  abbrev pub IsFineTree : Spans → Type 0
  IsFineTree Nothing = ⊤
  IsFineTree (Span e f s behind) = (is_enter e.kind ≡ true) × IsFine Fits Reads e × IsFine Fits Reads f × AreFine (events_of s) × IsFineTree s × IsFineTree behind

  pub alt-on : (s : Spans) → IsFineTree s → alt_of new (spans_on links lines n s) ≡ alt_of old s
  alt-on Nothing h = refl
  alt-on (Span e f s behind) h =
      let es = events_of s in
      let own = said-on e f s h.1 h.2 h.0 in
      let inner = alt-on s h.4 in
      (λ i. alt_by new (inline_of e.name) (events-of-on links lines n s i) (said new (the e) (the f) (spans_on links lines n s)) (alt_of new (spans_on links lines n s)) ++ alt-on behind h.5 i)
      ∙ ap (λ (x : List ℕ). x ++ alt_of old behind) (alt-by-on (inline_of e.name) es _ _ _ _ h.3 own inner)

  -- ---- lines of blocks

  cut-on : (tab : ℕ) (p q : Point) → Fits q.index
      → cut new tab (record { line = p.line + lines; column = p.column; index = p.index + n; vs = p.vs }) (record { line = q.line + lines; column = q.column; index = q.index + n; vs = q.vs }) ≡ cut old tab p q
  cut-on tab p q h =
      λ i. cond (eq-on n p.index q.index i) (repeat (q.vs - p.vs) (32 ∷ []))
      (cond (p.vs == 0) (same.ranges p.index q.index h i) (repeat (tab - (p.column - 1) % tab) (32 ∷ []) ++ drop 1 (same.ranges p.index q.index h i)) ++ repeat q.vs (32 ∷ []))

  cut-at-on : (tab : ℕ) (e : Event) (es : List Event) → AreFine es → cut_at new tab (the e) (more es) ≡ cut_at old tab e es
  cut-at-on tab e [] h = refl
  cut-at-on tab e (f ∷ fs) h = cut-on tab e.point f.point h.0.fits

  block-lines-on : (tab : ℕ) (m : Name) (es : List Event) → AreFine es → block_lines new tab m (more es) ≡ block_lines old tab m es
  block-lines-on tab m [] h = refl
  block-lines-on tab m (e ∷ es) h =
      λ i. cond (enters name.LineEnding e || enters name.BlankLineEnding e) (10 ∷ block-lines-on tab m es h.1 i)
      (cond (enters m e) (cut-at-on tab e es h.1 i ++ block-lines-on tab m es h.1 i) (block-lines-on tab m es h.1 i))

  pub html-flow-on : (tab : ℕ) (es : List Event) → AreFine es → html_flow new tab (more es) ≡ html_flow old tab es
  html-flow-on tab es h = block-lines-on tab name.HtmlFlowData es h

  pub code-lines-on : (tab : ℕ) (es : List Event) → AreFine es → code_lines new tab (more es) ≡ code_lines old tab es
  code-lines-on tab es h = λ i. block-lines-on tab name.CodeFlowChunk es h i ++ cond (has-last-on links lines n es i) (10 ∷ []) []

  -- ---- headings, code and lists

  pub length-of-first-on : (m : Name) (es : List Event) → length_of_first m (more es) ≡ length_of_first m es
  length-of-first-on m [] = refl
  length-of-first-on m (e ∷ []) = refl
  length-of-first-on m (e ∷ (f ∷ fs)) = λ i. cond (enters m e) (minus-on e.point.index f.point.index n i) (length-of-first-on m (f ∷ fs) i)

  byte-when : (t : Bool) (a b c d : Option ℕ) → (t ≡ true → a ≡ b) → c ≡ d → cond t a c ≡ cond t b d
  byte-when true a b c d h k = h refl
  byte-when false a b c d h k = k

  byte-on : (es : List Event) → AreFine es → byte_of_first new name.HeadingSetextUnderlineSequence (more es) ≡ byte_of_first old name.HeadingSetextUnderlineSequence es
  byte-on [] h = refl
  byte-on (e ∷ es) h =
      byte-when (enters name.HeadingSetextUnderlineSequence e) (slice_get new (e.point.index + n)) (slice_get old e.point.index) (byte_of_first new name.HeadingSetextUnderlineSequence (more es))
      (byte_of_first old name.HeadingSetextUnderlineSequence es)
      (λ is. same.bytes e.point.index (h.0.reads (or_left (same_name e.name name.HeadingSetextUnderlineSequence) (same_name e.name name.ListItemValue) (and_parts (is_enter e.kind) (same_name e.name name.HeadingSetextUnderlineSequence) is).1)))
      (byte-on es h.1)

  pub setext-on : (es : List Event) → AreFine es → setext_rank new (more es) ≡ setext_rank old es
  setext-on es h = ap (λ (o : Option ℕ). cond (option_map_or (λ b. b == 61) o false) 1 2) (byte-on es h)

  language-by : (o : Option (List Event)) → IfSome o AreFine → language new (option_map more o) ≡ language old o
  language-by None h = refl
  language-by (Some es) h = ap (λ (t : List ℕ). Language (take_while (λ b. not (is_ascii_whitespace b)) t) ∷ []) (text-on Decoded es h)

  pub language-on : (es : List Event) → AreFine es → language new (first_in name.CodeFencedFenceInfo (more es)) ≡ language old (first_in name.CodeFencedFenceInfo es)
  language-on es h = ap (language new) (first-on links lines n name.CodeFencedFenceInfo es) ∙ language-by (first_in name.CodeFencedFenceInfo es) (fine-first name.CodeFencedFenceInfo es h)

  -- spans directly in a span, with the events behind them
  abbrev IsFineMet : Met → Type 0
  IsFineMet m = IsFine Fits Reads m.event × AreFine m.behind

  directly-by-fine : (k : Kind) (depth : ℕ) (here : Met) (rest : (depth : ℕ) → List Met) → IsFineMet here → ((d : ℕ) → AllByRecursion IsFineMet (rest d)) → AllByRecursion IsFineMet (directly_by k depth here rest)
  directly-by-fine Enter zero here rest h k = (h, k 1)
  directly-by-fine Enter (suc depth) here rest h k = k (suc (suc depth))
  directly-by-fine Exit zero here rest h k = tt
  directly-by-fine Exit (suc zero) here rest h k = (h, k 0)
  directly-by-fine Exit (suc (suc depth)) here rest h k = k (suc depth)

  directly-fine : (depth : ℕ) (es : List Event) → AreFine es → AllByRecursion IsFineMet (directly_from depth es)
  directly-fine depth [] h = tt
  directly-fine depth (e ∷ es) h = directly-by-fine e.kind depth (record { event = e; behind = es }) (λ d. directly_from d es) (h.0, h.1) (λ d. directly-fine d es h.1)

  record IsFound (m : Name) (x : Met) : Type 0 where
    fine : IsFineMet x
    named : same_name x.event.name m ≡ true

  find-cond : (m : Name) (t : Bool) (x : Met) (o : Option Met) → same_name x.event.name m ≡ t → IsFineMet x → IfSome o (IsFound m) → IfSome (cond t (Some x) o) (IsFound m)
  find-cond m true x o is h k = record { fine = h; named = is }
  find-cond m false x o is h k = k

  find-fine : (m : Name) (ms : List Met) → AllByRecursion IsFineMet ms → IfSome (find (λ (x : Met). same_name x.event.name m) ms) (IsFound m)
  find-fine m [] h = tt
  find-fine m (x ∷ xs) h = find-cond m (same_name x.event.name m) x (find (λ (y : Met). same_name y.event.name m) xs) refl h.0 (find-fine m xs h.1)

  found-fine : (m : Name) (es : List Event) → AreFine es → IfSome (first_directly m es) (IsFound m)
  found-fine m es h = find-fine m (directly_in es) (directly-fine 0 es h)

  abbrev number_at : List ℕ → Met → Option ℕ
  number_at bytes m = number_of (digits_at bytes m.event.point.index)

  abbrev in_prefix : Met → Option Met
  in_prefix x = first_directly name.ListItemValue x.behind

  abbrev in_item : Met → Option Met
  in_item x = option_and_then in_prefix (first_directly name.ListItemPrefix x.behind)

  number-by : (o : Option Met) → IfSome o (IsFound name.ListItemValue) → option_and_then (number_at new) (option_map (met_on links lines n) o) ≡ option_and_then (number_at old) o
  number-by None h = refl
  number-by (Some x) h = ap number_of (same.digits x.event.point.index (h.fine.0.reads (or_right (same_name x.event.name name.HeadingSetextUnderlineSequence) (same_name x.event.name name.ListItemValue) h.named)))

  prefix-by : (o : Option Met) → IfSome o (IsFound name.ListItemPrefix)
      → option_and_then (number_at new) (option_and_then in_prefix (option_map (met_on links lines n) o)) ≡ option_and_then (number_at old) (option_and_then in_prefix o)
  prefix-by None h = refl
  prefix-by (Some x) h =
      ap (λ (o : Option Met). option_and_then (number_at new) o) (first-directly-on links lines n name.ListItemValue x.behind) ∙ number-by (in_prefix x) (found-fine name.ListItemValue x.behind h.fine.1)

  item-by : (o : Option Met) → IfSome o (IsFound name.ListItem)
      → option_and_then (number_at new) (option_and_then in_item (option_map (met_on links lines n) o)) ≡ option_and_then (number_at old) (option_and_then in_item o)
  item-by None h = refl
  item-by (Some x) h =
      ap (λ (o : Option Met). option_and_then (number_at new) (option_and_then in_prefix o)) (first-directly-on links lines n name.ListItemPrefix x.behind)
      ∙ prefix-by (first_directly name.ListItemPrefix x.behind) (found-fine name.ListItemPrefix x.behind h.fine.1)

  pub start-on : (es : List Event) → AreFine es → list_start new (more es) ≡ list_start old es
  start-on es h =
      ap (λ (o : Option Met). option_and_then (number_at new) (option_and_then in_item o)) (first-directly-on links lines n name.ListItem es)
      ∙ item-by (first_directly name.ListItem es) (found-fine name.ListItem es h)
