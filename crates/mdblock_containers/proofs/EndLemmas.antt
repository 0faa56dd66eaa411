-- Lemmas on where parts end, and on what is in them.
use Rattle.std.proofs.Common.{◌≡◌, ℕ, zero, suc, ◌+◌, ◌-◌, ◌*◌, ◌^◌, ◌<◌, ◌≤◌, Bool, true, false, cond, List, [], ◌∷◌, ◌++◌, length, take, drop, get_or, refl, sym, ap, ◌∙◌, subst, arith, eqb-true, length-drop}
use Rattle.std.specs.Prelude.{◌==◌, Option, Some, None}
use Rattle.std.proofs.lemmas.List.{drop-append-le, take-append-le}
use Rattle.markdown_base.specs.declared.event.Kind.TheVariants.{Enter, Exit}
use Rattle.markdown_base.specs.declared.event.Name.{Name}
use Rattle.markdown_base.specs.declared.event.Name.TheVariants as name
use Rattle.markdown_base.specs.declared.event.Point.{Point}
use Rattle.markdown_base.specs.Places.{shown}
use Rattle.markdown_base.specs.Virtual.{Seat, end_after, point}
use Rattle.mdconstructs_machines.specs.LineEvents.{ending_of, line_text}
use Rattle.mdblock_leaf_blocks.specs.LeafBlocks.{bytes_of}
use Rattle.mdblock_leaf_blocks.specs.LeafEvents.{leaf_marks, span_marks, white}
use Rattle.mdblock_leaf_blocks.specs.LineKinds.{indent}
use Rattle.mdblock_lines.specs.Containers.{Container, Prefix, footnote, quote, item, goes_on}
use Rattle.mdblock_containers.specs.declared.parts.PartEnd.{PartEnd}
use Rattle.mdblock_containers.specs.declared.spans.RowAt.{RowAt}
use Rattle.mdblock_containers.specs.PlaceEvents.{event_at}
use Rattle.mdblock_containers.specs.Prefixes.{columns_of, going_on}
use Rattle.mdblock_containers.specs.Rest.{ending_to}
use Rattle.mdblock_containers.specs.Rows.{Row}
use Rattle.mdblock_containers.specs.Skeleton.{begin_of, begun_all, begun_marks, enters_of, last_of, list_name, footnote_marks, label_marks}
use Rattle.mdblock_containers.specs.Spans.{IsRowIn}
use Rattle.mdblock_containers.specs.Stretches.{AreFurther, IsOutside, Run, end_at, ends_at, last_at}
use Rattle.mdblock_containers.specs.Written.{NoChunk}
use Rattle.mdblock_containers.proofs.DocumentRows.{next_is, next_more}
use Rattle.mdblock_containers.proofs.JoinLemmas.{plain_span, plain_going, columns_more}
use Rattle.mdblock_containers.proofs.RunLemmas.{behind_line, end_run}
use Rattle.mdblock_containers.proofs.StretchLemmas.{row_run}
use Rattle.mdblock_containers.proofs.WrittenLemmas.{plain_append}

-- ---- the last line of a part

pub ends_last : (held : Bool) (x : RowAt) (ys : List RowAt) → end_at held (last_at x ys) ≡ ends_at held (end_at held x) ys
ends_last held x [] = refl
ends_last held x (y ∷ ys) = ends_last held y ys

pub last_push : (x : RowAt) (ys : List RowAt) (y : RowAt) → last_at x (ys ++ y ∷ []) ≡ y
last_push x [] y = refl
last_push x (z ∷ zs) y = last_push z zs y

module _ (t : ℕ) (bytes : List ℕ) (some : 0 < t) (limit : t * length bytes + 1 < 2 ^ 64) where
  -- A line of a part, behind some open containers
  pub record IsSome (x : RowAt) (r : Row) : Type 0 where
    pub stack : List Container
    pub number : ℕ
    pub start : ℕ
    pub row : IsRowIn t bytes stack number start x r
    pub outside : IsOutside bytes start
    pub few : number ≤ suc start

  pub last_is : (stack : List Container) (number start : ℕ) (x : RowAt) (r : Row) (ys : List RowAt) (rs : List Row) → IsSome x r → AreFurther t bytes stack number start ys rs → IsOutside bytes start → number ≤ suc start → IsSome (last_at x ys) (last_of r rs)
  last_is stack number start x r [] [] h are outside few = h
  last_is stack number start x r [] (q ∷ qs) h are outside few = absurd are
  last_is stack number start x r (y ∷ ys) [] h are outside few = absurd are
  last_is stack number start x r (y ∷ ys) (q ∷ qs) h are outside few =
      last_is stack (suc number) y.span.next y q ys qs (record { stack = stack; number = number; start = start; row = are.0; outside = outside; few = few }) are.2 (behind_line t bytes some limit number start y are.0.placed q.line are.0.line outside)
      (let on = next_more bytes start y.span.next are.0.placed.inside (next_is bytes start y.span.end y.span.next are.0.placed.end_is are.0.placed.next_is) in omega (arith, on, few))

  module _ (x : RowAt) (r : Row) (is : IsSome x r) where
    pub first_at : Point
    first_at = point is.number 1 is.start 0

    pub whole_run : (held : Bool) → Run bytes (point is.number 1 is.start 0) (end_at held x) (cond held r.line (line_text r.line))
    whole_run held = row_run t bytes some limit is.stack is.number is.start x r is.row is.outside held 0 (omega arith)

    -- a line begins where it is shown
    pub begin_first : shown bytes (begin_of r.line) ≡ point is.number 1 is.start 0
    begin_first = by r.line (whole_run true)
      where
        further : is.start < x.span.next
        further = next_more bytes is.start x.span.next is.row.placed.inside (next_is bytes is.start x.span.end x.span.next is.row.placed.end_is is.row.placed.next_is)

        index_of : (b : Bool) → (x.span.end == x.span.next) ≡ b → (cond b (point x.span.number (x.span.size + 1) x.span.end 0) (point (x.span.number + 1) 1 x.span.next 0)).index ≡ x.span.next
        index_of true e = eqb-true x.span.end x.span.next e
        index_of false e = refl

        by : (ss : List Seat) → Run bytes (point is.number 1 is.start 0) (end_at true x) ss → shown bytes (begin_of ss) ≡ point is.number 1 is.start 0
        by [] run = absurd (omega (arith, further, ap (λ (p : Point). p.index) (run.none refl) ∙ index_of (x.span.end == x.span.next) refl))
        by (s ∷ ss) run = sym run.first

    -- where it ends
    pub place_is : (held : Bool) → shown bytes (end_after (begin_of r.line) (cond held r.line (line_text r.line))) ≡ end_at held x
    place_is held = by (cond held r.line (line_text r.line)) (whole_run held)
      where
        by : (ss : List Seat) → Run bytes (point is.number 1 is.start 0) (end_at held x) ss → shown bytes (end_after (begin_of r.line) ss) ≡ end_at held x
        by [] run = begin_first ∙ run.none refl
        by (s ∷ ss) run = sym run.last

    -- its line ending
    pub ending_is : (held blank : Bool) (e : PartEnd) → e.is_blank ≡ blank → e.place ≡ end_at held x → e.behind ≡ cond held None (cond (x.span.end == x.span.next) None (Some (point (x.span.number + 1) 1 x.span.next 0)))
        → cond held [] (leaf_marks bytes (cond blank name.BlankLineEnding name.LineEnding) (ending_of r.line)) ≡ ending_to e
    ending_is true blank e eb ep en = ap (λ b. ending_to (record e { behind = b })) (sym en)
    ending_is false blank e eb ep en = by (ending_of r.line) run (x.span.end == x.span.next) refl
      where
        run : Run bytes (point x.span.number (x.span.size + 1) x.span.end 0) (cond (x.span.end == x.span.next) (point x.span.number (x.span.size + 1) x.span.end 0) (point (x.span.number + 1) 1 x.span.next 0)) (ending_of r.line)
        run = subst (λ (n : ℕ). Run bytes (point n (x.span.size + 1) x.span.end 0) (cond (x.span.end == x.span.next) (point n (x.span.size + 1) x.span.end 0) (point (n + 1) 1 x.span.next 0)) (ending_of r.line)) (sym is.row.placed.number_is)
            (end_run t bytes some limit is.number is.start x is.row.placed r.line is.row.line is.outside)

        text : Point
        text = point x.span.number (x.span.size + 1) x.span.end 0

        by : (ss : List Seat) → Run bytes (point x.span.number (x.span.size + 1) x.span.end 0) (cond (x.span.end == x.span.next) (point x.span.number (x.span.size + 1) x.span.end 0) (point (x.span.number + 1) 1 x.span.next 0)) ss
            → (b : Bool) → (x.span.end == x.span.next) ≡ b → leaf_marks bytes (cond blank name.BlankLineEnding name.LineEnding) ss ≡ ending_to e
        by [] h true q = ap (λ o. ending_to (record e { behind = o })) (sym (en ∙ ap (λ v. cond v None (Some (point (x.span.number + 1) 1 x.span.next 0))) q))
        by [] h false q =
            let same = h.none refl ∙ ap (λ v. cond v (point x.span.number (x.span.size + 1) x.span.end 0) (point (x.span.number + 1) 1 x.span.next 0)) q in
            let line : x.span.number ≡ x.span.number + 1 = ap (λ (p : Point). p.line) same in
            absurd (omega (arith, line))
        by (s ∷ ss) h true q =
            let less = h.some (omega arith) in
            let same : (cond (x.span.end == x.span.next) (point x.span.number (x.span.size + 1) x.span.end 0) (point (x.span.number + 1) 1 x.span.next 0)).index ≡ x.span.end = ap (λ v. (cond v (point x.span.number (x.span.size + 1) x.span.end 0) (point (x.span.number + 1) 1 x.span.next 0)).index) q in
            absurd (omega (arith, less, same))
        by (s ∷ ss) h false q =
            let behind : e.behind ≡ Some (point (x.span.number + 1) 1 x.span.next 0) = en ∙ ap (λ v. cond v None (Some (point (x.span.number + 1) 1 x.span.next 0))) q in
            let n : Name = cond blank name.BlankLineEnding name.LineEnding in
            let last = ap (λ v. cond v (point x.span.number (x.span.size + 1) x.span.end 0) (point (x.span.number + 1) 1 x.span.next 0)) (sym q) ∙ h.last in
            (λ k. (event_at Enter n (sym (ep ∙ h.first) k), None) ∷ (event_at Exit n (sym last k), None) ∷ [])
            ∙ (λ k. (event_at Enter (cond (sym eb k) name.BlankLineEnding name.LineEnding) e.place, None) ∷ (event_at Exit (cond (sym eb k) name.BlankLineEnding name.LineEnding) (point (x.span.number + 1) 1 x.span.next 0), None) ∷ [])
            ∙ ap (λ o. ending_to (record e { behind = o })) (sym behind)

-- ---- containers that begin

-- each prefix has columns
abbrev pub HaveColumns : List Prefix → Type 0
HaveColumns [] = Unit {0}
HaveColumns (p ∷ ps) = (0 < p.size) × HaveColumns ps

module _ (bytes : List ℕ) where
  pub plain_enters : (c : Container) (p : Point) → NoChunk (enters_of bytes c p)
  plain_enters (quote q) p = tt
  plain_enters (footnote f) p = tt
  plain_enters (item i) p = by (i.list == i.line)
    where
      by : (b : Bool) → NoChunk (cond b ((event_at Enter (list_name i) (shown bytes p), None) ∷ []) [] ++ (event_at Enter name.ListItem (shown bytes p), None) ∷ [])
      by true = tt
      by false = tt

  plain_label : (l : ℕ) (ss : List Seat) → NoChunk (label_marks bytes l ss)
  plain_label l ss =
      plain_append (leaf_marks bytes name.GfmFootnoteDefinitionLabelMarker (take 1 ss)) _ (plain_span bytes name.GfmFootnoteDefinitionLabelMarker (take 1 ss) [] tt)
      (plain_append (leaf_marks bytes name.GfmFootnoteDefinitionMarker (take 1 (drop 1 ss))) _ (plain_span bytes name.GfmFootnoteDefinitionMarker (take 1 (drop 1 ss)) [] tt)
      (plain_append (span_marks bytes name.GfmFootnoteDefinitionLabelString (take l (drop 2 ss)) (leaf_marks bytes name.Data (take l (drop 2 ss)))) _
      (plain_span bytes name.GfmFootnoteDefinitionLabelString (take l (drop 2 ss)) _ (plain_span bytes name.Data (take l (drop 2 ss)) [] tt))
      (plain_span bytes name.GfmFootnoteDefinitionLabelMarker (take 1 (drop (l + 2) ss)) [] tt)))

  plain_footnote : (l : ℕ) (ss : List Seat) → NoChunk (footnote_marks bytes l ss)
  plain_footnote l ss =
      plain_span bytes name.GfmFootnoteDefinitionPrefix ss _
      (plain_append (span_marks bytes name.GfmFootnoteDefinitionLabel (take (l + 3) ss) (label_marks bytes l ss)) _ (plain_span bytes name.GfmFootnoteDefinitionLabel (take (l + 3) ss) _ (plain_label l ss))
      (plain_append (leaf_marks bytes name.DefinitionMarker (take 1 (drop (l + 3) ss))) _ (plain_span bytes name.DefinitionMarker (take 1 (drop (l + 3) ss)) [] tt) (plain_span bytes name.SpaceOrTab (drop (l + 4) ss) [] tt)))

  pub plain_begun_one : (c : Container) (ss : List Seat) → NoChunk (begun_marks bytes c ss)
  plain_begun_one (footnote f) ss =
      let n = indent (bytes_of ss) in
      plain_append (white bytes (take n ss)) _ (plain_span bytes name.SpaceOrTab (take n ss) [] tt) (plain_footnote f.label (drop n ss))
  plain_begun_one (quote q) ss = plain_going bytes (quote q) ss
  plain_begun_one (item i) ss =
      let n = indent (bytes_of ss) in
      plain_append (white bytes (take n ss)) _ (plain_span bytes name.SpaceOrTab (take n ss) [] tt)
      (plain_span bytes name.ListItemPrefix (drop n ss) _ (plain_append (leaf_marks bytes name.ListItemValue (take i.digits (drop n ss))) _ (plain_span bytes name.ListItemValue (take i.digits (drop n ss)) [] tt)
      (plain_append (leaf_marks bytes name.ListItemMarker (take 1 (drop (n + i.digits) ss))) _ (plain_span bytes name.ListItemMarker (take 1 (drop (n + i.digits) ss)) [] tt) (plain_span bytes name.SpaceOrTab (drop (suc (n + i.digits)) ss) [] tt))))

  pub plain_begun : (ps : List Prefix) (ss : List Seat) → NoChunk (begun_all bytes ps ss)
  plain_begun [] ss = tt
  plain_begun (p ∷ ps) ss = plain_append (enters_of bytes p.container (begin_of ss)) _ (plain_enters p.container (begin_of ss)) (plain_append (begun_marks bytes p.container (take p.size ss)) _ (plain_begun_one p.container (take p.size ss)) (plain_begun ps (drop p.size ss)))

  pub begin_front : (xs ys : List Seat) → 0 < length xs → begin_of (xs ++ ys) ≡ begin_of xs
  begin_front [] ys h = absurd (omega arith)
  begin_front (x ∷ xs) ys h = refl

  -- they see only their columns
  pub begun_front : (ps : List Prefix) (xs ys : List Seat) → HaveColumns ps → columns_of ps ≤ length xs → begun_all bytes ps (xs ++ ys) ≡ begun_all bytes ps xs
  begun_front [] xs ys h w = refl
  begun_front (p ∷ ps) xs ys h w =
      let n : p.size ≤ length xs = omega (arith, w, columns_more bytes p ps) in
      let left : length (drop p.size xs) ≡ length xs - p.size = length-drop p.size xs in
      (λ k. enters_of bytes p.container (begin_front xs ys (omega (arith, n, h.0)) k) ++ (begun_marks bytes p.container (take-append-le p.size xs ys n k) ++ begun_all bytes ps (drop-append-le p.size xs ys n k)))
      ∙ ap (λ l. enters_of bytes p.container (begin_of xs) ++ (begun_marks bytes p.container (take p.size xs) ++ l)) (begun_front ps (drop p.size xs) ys h.1 (omega (arith, w, columns_more bytes p ps, left)))

-- ---- the first of the containers that go on

pub going_first : (k : ℕ) (cs : List Container) (number : ℕ) (t : List ℕ) → going_on (take k cs) number t ≡ take k (going_on cs number t)
going_first zero cs number t = refl
going_first (suc k) [] number t = refl
going_first (suc k) (c ∷ cs) number t = by (goes_on c number t) (λ n. going_first k cs number (drop n t))
  where
    by : (o : Option ℕ) → ((n : ℕ) → going_on (take k cs) number (drop n t) ≡ take k (going_on cs number (drop n t)))
        → (elim o as (λ _. List Prefix) [ None ↦ [] | Some n ↦ record { container = c; size = n } ∷ going_on (take k cs) number (drop n t) ]) ≡ take (suc k) (elim o as (λ _. List Prefix) [ None ↦ [] | Some n ↦ record { container = c; size = n } ∷ going_on cs number (drop n t) ])
    by None h = refl
    by (Some n) h = ap (λ l. record { container = c; size = n } ∷ l) (h n)

-- the last of some lines, by its index
pub last_item : (x : RowAt) (ys : List RowAt) (d : RowAt) → 1 ≤ length ys → last_at x ys ≡ get_or ys (length ys - 1) d
last_item x [] d h = absurd (omega arith)
last_item x (y ∷ []) d h = refl
last_item x (y ∷ z ∷ zs) d h =
    let more = last_item y (z ∷ zs) d (omega arith) in
    let at : suc (suc (length zs)) - 1 ≡ suc (suc (length zs) - 1) = omega arith in
    more ∙ ap (λ i. get_or (y ∷ z ∷ zs) i d) (sym at)
