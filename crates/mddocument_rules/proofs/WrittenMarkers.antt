-- What is written where an item begins: its marker stands in its prefix, as a byte of the document.
use Rattle.std.proofs.Common.{◌≡◌, ◌∙◌, ℕ, zero, suc, ◌+◌, ◌<◌, ◌≤◌, Bool, true, false, cond, List, [], ◌∷◌, ◌++◌, None, Option, Some, ap, arith, drop, inl, inr, length, ne_eqb, refl, subst, sym, take}
use Rattle.std.proofs.lemmas.Bool.{cond_both, eqb-true, false≢true, or_cases}
use Rattle.std.proofs.lemmas.Bool.Decides.{nat_tests}
use Rattle.std.proofs.lemmas.List.{drop-append-le, drop-map, map-append, take-append-le, take-map}
use Rattle.std.proofs.lemmas.Option.{none-some, same_Some, slice_get-map}
use Rattle.std.specs.List.{AllByRecursion}
use Rattle.std.specs.Prelude.{◌==◌, ◌&&◌, ◌||◌, nat_le, nat_lt, option_and_then, option_map, slice_get}
use Rattle.markdown_base.proofs.Common.{and-right, every-append, every-drop, every-get, every-take}
use Rattle.markdown_base.proofs.Facts.Lists.{get-dropped, get-take}
use Rattle.markdown_base.specs.Places.{shown}
use Rattle.markdown_base.specs.Virtual.{Seat, begins_with_lf, in_tab, line_feed, other_byte, point, tab_width, virtual, virtual_from}
use Rattle.markdown_base.specs.declared.configuration.Constructs.{Constructs}
use Rattle.markdown_base.specs.declared.event.Name.{Name}
use Rattle.markdown_base.specs.declared.event.Name.TheVariants as name
use Rattle.markdown_base.specs.declared.event.Point.{Point}
use Rattle.markdown_tokenizer.proofs.Positions.Chains.{shown-other}
use Rattle.markdown_tokenizer.proofs.Positions.Seats.{drop-first}
use Rattle.mdconstructs_machines.specs.LineEvents.{ending_of, line_text}
use Rattle.mdconstructs_tables.proofs.Looks.Left.{at-front}
use Rattle.mdconstructs_tables.specs.Breaks.{is_white}
use Rattle.mdblock_leaf_blocks.proofs.Lines.WholeLines.{IsWhole}
use Rattle.mdblock_leaf_blocks.specs.LeafBlocks.{Line, bytes_of, text_of}
use Rattle.mdblock_leaf_blocks.specs.LeafEvents.{Mark, leaf_marks, span_marks, white}
use Rattle.mdblock_leaf_blocks.specs.LineKinds.{begins_with, indent, is_blank_line, is_thematic_break, unindented}
use Rattle.mdblock_lines.specs.Containers.{Container, Item, Prefix, begins, digits, first_byte, footnote, footnote_at, is_footnote, is_marker, item, item_at, padding, quote, quote_size}
use Rattle.mdblock_containers.proofs.GoingLemmas.{begins_within}
use Rattle.mdblock_containers.proofs.RowFacts.{columns_within}
use Rattle.mdblock_containers.proofs.SeatFacts.{line_front}
use Rattle.mdblock_containers.specs.Lists.{marker_of}
use Rattle.mdblock_containers.specs.Prefixes.{beginning, columns_of, in_place_of, with_list}
use Rattle.mdblock_containers.specs.Rows.{is_raw}
use Rattle.mdblock_containers.specs.Skeleton.{begun_marks, chained_from, list_name}
use Rattle.mdblock_definitions.specs.Rows.{Known, row_of}
use Rattle.mddocument_rules.proofs.BegunPlaces.{ended, in_paragraph, left, new}
use Rattle.mddocument_rules.proofs.ListItems.{marks}
use Rattle.mddocument_rules.specs.MarkerLaws.{item_marker}

-- ---- virtual bytes

abbrev pub is_printed : ℕ → Bool
is_printed b = nat_lt 32 b

-- a virtual byte that is printed is the byte at its place, and shown there
abbrev pub IsByte : List ℕ → Seat → Type 0
IsByte bytes s = is_printed s.byte ≡ true → (shown bytes s.point ≡ s.point) × (slice_get bytes s.point.index ≡ Some s.byte)

module _ (bytes : List ℕ) where
  in-tab : (b n l c i v : ℕ) → is_printed b ≡ false → AllByRecursion (IsByte bytes) (in_tab b n l c i v)
  in-tab b zero l c i v other = tt
  in-tab b (suc n) l c i v other = ((λ is. absurd (false≢true (sym other ∙ is))), in-tab 32 n l (suc c) i (suc v) refl)

  printed : (b l c i : ℕ) (bs : List ℕ) → drop i bytes ≡ b ∷ bs → is_printed b ≡ true → (shown bytes (point l c i 0) ≡ point l c i 0) × (slice_get bytes i ≡ Some b)
  printed b l c i bs at is =
      let first = (drop-first i bytes b bs at).1 in
      (shown-other bytes (point l c i 0) (λ ten. false≢true (ap is_printed (sym ten ∙ first) ∙ is)), at-front bytes i b bs at)

  bytes-from : (t l c i : ℕ) (bs : List ℕ) → drop i bytes ≡ bs → AllByRecursion (IsByte bytes) (virtual_from t l c i bs)
  bytes-from t l c i [] at = tt
  bytes-from t l c i (b ∷ bs) at = by (λ m d. bytes-from t m d (suc i) bs (drop-first i bytes b bs at).2) (b == 10) (b == 13) (begins_with_lf bs) (b == 9)
    where
      by : ((m d : ℕ) → AllByRecursion (IsByte bytes) (virtual_from t m d (suc i) bs)) → (p q r w : Bool)
          → AllByRecursion (IsByte bytes)
          (cond p (line_feed l c i ∷ virtual_from t (suc l) 1 (suc i) bs)
          (cond q (cond r (virtual_from t l c (suc i) bs) (line_feed l c i ∷ virtual_from t (suc l) 1 (suc i) bs))
          (cond w (in_tab 9 (tab_width t c) l c i 0 ++ virtual_from t l (c + tab_width t c) (suc i) bs) (other_byte b l c i ∷ virtual_from t l (suc c) (suc i) bs))))
      by rest true q r w = ((λ is. absurd (false≢true is)), rest (suc l) 1)
      by rest false true true w = rest l c
      by rest false true false w = ((λ is. absurd (false≢true is)), rest (suc l) 1)
      by rest false false r true = every-append (IsByte bytes) (in_tab 9 (tab_width t c) l c i 0) (virtual_from t l (c + tab_width t c) (suc i) bs) (in-tab 9 (tab_width t c) l c i 0 refl) (rest l (c + tab_width t c))
      by rest false false r false = (printed b l c i bs at, rest l (suc c))

  pub bytes-virtual : (t : ℕ) → AllByRecursion (IsByte bytes) (virtual t bytes)
  bytes-virtual t = bytes-from t 1 1 0 bytes refl

-- ---- a list marker in a line

pub indent-take : (k : ℕ) (t : List ℕ) → indent t < k → indent (take k t) ≡ indent t
indent-take zero t h = absurd (omega (arith, h))
indent-take (suc k) [] h = refl
indent-take (suc k) (b ∷ t) h = by (is_white b) (indent-take k t) h
  where
    by : (x : Bool) → (indent t < k → indent (take k t) ≡ indent t) → cond x (1 + indent t) 0 < suc k → cond x (1 + indent (take k t)) 0 ≡ cond x (1 + indent t) 0
    by true rest h = ap (λ (n : ℕ). 1 + n) (rest (omega (arith, h)))
    by false rest h = refl

is-byte : (m k : ℕ) → (m == k) ≡ true → is_printed k ≡ true → is_printed m ≡ true
is-byte m k e h = ap is_printed (eqb-true m k e) ∙ h

marker-printed : (r : List ℕ) → is_marker r ≡ true → is_printed (first_byte (drop (digits r) r)) ≡ true
marker-printed r h = by (digits r == 0) (digits r) (first_byte (drop (digits r) r)) h
  where
    by : (x : Bool) (n m : ℕ) → cond x ((m == 42) || ((m == 43) || (m == 45))) (nat_le n 9 && ((m == 46) || (m == 41))) ≡ true → is_printed m ≡ true
    by true n m h = elim (or_cases (m == 42) ((m == 43) || (m == 45)) h) [
      | inl a ↦ is-byte m 42 a refl
      | inr b ↦ elim (or_cases (m == 43) (m == 45) b) [ inl c ↦ is-byte m 43 c refl | inr d ↦ is-byte m 45 d refl ]
    ]
    by false n m h = elim (or_cases (m == 46) (m == 41) (and-right (nat_le n 9) ((m == 46) || (m == 41)) h)) [ inl a ↦ is-byte m 46 a refl | inr b ↦ is-byte m 41 b refl ]

-- a list may have a marker of its kind
marks-of : (n : Name) (m k : ℕ) → (m == k) ≡ true → marks n (marker_of k) ≡ true → marks n (marker_of m) ≡ true
marks-of n m k e h = ap (λ x. marks n (marker_of x)) (eqb-true m k e) ∙ h

named-by : (r : List ℕ) → is_marker r ≡ true → marks (cond (nat_le 1 (digits r)) name.ListOrdered name.ListUnordered) (marker_of (first_byte (drop (digits r) r))) ≡ true
named-by r h = by (digits r) (first_byte (drop (digits r) r)) h
  where
    by : (n m : ℕ) → cond (n == 0) ((m == 42) || ((m == 43) || (m == 45))) (nat_le n 9 && ((m == 46) || (m == 41))) ≡ true → marks (cond (nat_le 1 n) name.ListOrdered name.ListUnordered) (marker_of m) ≡ true
    by zero m h = elim (or_cases (m == 42) ((m == 43) || (m == 45)) h) [
      | inl a ↦ marks-of name.ListUnordered m 42 a refl
      | inr b ↦ elim (or_cases (m == 43) (m == 45) b) [ inl c ↦ marks-of name.ListUnordered m 43 c refl | inr d ↦ marks-of name.ListUnordered m 45 d refl ]
    ]
    by (suc n) m h =
        let some : (suc n == 0) ≡ false = ne_eqb (suc n) 0 (λ e. omega (arith, e)) in
        let one : nat_le 1 (suc n) ≡ true = grind (arith, nat_tests) in
        let kind : (nat_le (suc n) 9 && ((m == 46) || (m == 41))) ≡ true = sym (ap (λ b. cond b ((m == 42) || ((m == 43) || (m == 45))) (nat_le (suc n) 9 && ((m == 46) || (m == 41)))) some) ∙ h in
        ap (λ b. marks (cond b name.ListOrdered name.ListUnordered) (marker_of m)) one
        ∙ (elim (or_cases (m == 46) (m == 41) (and-right (nat_le (suc n) 9) ((m == 46) || (m == 41)) kind)) as (λ _. marks name.ListOrdered (marker_of m) ≡ true) [ inl a ↦ marks-of name.ListOrdered m 46 a refl | inr b ↦ marks-of name.ListOrdered m 41 b refl ])

first-there : (r : List ℕ) → is_printed (first_byte r) ≡ true → slice_get r 0 ≡ Some (first_byte r)
first-there [] h = absurd (false≢true h)
first-there (b ∷ r) h = refl

-- behind white space and digits stands the marker
marker-at : (t : List ℕ) → let r = unindented t in is_marker r ≡ true → slice_get t (indent t + digits r) ≡ Some (first_byte (drop (digits r) r))
marker-at t h =
    let r = unindented t in
    let none : digits r + 0 ≡ digits r = omega arith in
    sym (get-dropped (indent t) t (digits r)) ∙ ap (slice_get r) (sym none) ∙ sym (get-dropped (digits r) r 0) ∙ first-there (drop (digits r) r) (marker-printed r h)

module _ (bytes : List ℕ) where
  -- the marker of an item that begins is that of its prefix, and its list may have it
  abbrev pub IsWritten : Container → List Seat → Type 0
  IsWritten (quote q) seats = Unit {0}
  IsWritten (footnote f) seats = Unit {0}
  IsWritten (item i) seats =
      ((j : ℕ) (previous : Option ℕ) (ys : List Mark) → item_marker bytes (chained_from j previous (begun_marks bytes (item i) seats ++ ys)) ≡ marker_of i.marker)
      × (marks (list_name i) (marker_of i.marker) ≡ true)

  abbrev pub AreWritten : List Prefix → List Seat → Type 0
  AreWritten [] seats = Unit {0}
  AreWritten (p ∷ ps) seats = IsWritten p.container (take p.size seats) × AreWritten ps (drop p.size seats)

  under : (xs : List Seat) (s : Seat) (ss vs : List Seat) (m : Seat) (a ys : List Mark) (j : ℕ) (previous : Option ℕ)
      → item_marker bytes (chained_from j previous ((white bytes xs ++ span_marks bytes name.ListItemPrefix (s ∷ ss) (leaf_marks bytes name.ListItemValue vs ++ (leaf_marks bytes name.ListItemMarker (m ∷ []) ++ a))) ++ ys))
      ≡ option_and_then marker_of (slice_get bytes (shown bytes m.point).index)
  under [] s ss [] m a ys j previous = refl
  under [] s ss (v ∷ vs) m a ys j previous = refl
  under (x ∷ xs) s ss [] m a ys j previous = refl
  under (x ∷ xs) s ss (v ∷ vs) m a ys j previous = refl

  item-written : (i : Item) (z : List Seat) (m : Seat) → AllByRecursion (IsByte bytes) z → slice_get z (indent (bytes_of z) + i.digits) ≡ Some m → m.byte ≡ i.marker → is_printed i.marker ≡ true
      → (j : ℕ) (previous : Option ℕ) (ys : List Mark) → item_marker bytes (chained_from j previous (begun_marks bytes (item i) z ++ ys)) ≡ marker_of i.marker
  item-written i z m are at is dark j previous ys =
      let n = indent (bytes_of z) in
      let none : n + i.digits ≡ n + i.digits + 0 = omega arith in
      by (drop n z) (drop (n + i.digits) z) (get-dropped n z i.digits ∙ at) (get-dropped (n + i.digits) z 0 ∙ ap (slice_get z) (sym none) ∙ at)
    where
      byte : (shown bytes m.point ≡ m.point) × (slice_get bytes m.point.index ≡ Some m.byte)
      byte = every-get (IsByte bytes) z (indent (bytes_of z) + i.digits) m are at (ap is_printed is ∙ dark)

      by : (front back : List Seat) → slice_get front i.digits ≡ Some m → slice_get back 0 ≡ Some m
          → item_marker bytes
          (chained_from j previous
          ((white bytes (take (indent (bytes_of z)) z)
          ++ span_marks bytes name.ListItemPrefix front
          (leaf_marks bytes name.ListItemValue (take i.digits front) ++ (leaf_marks bytes name.ListItemMarker (take 1 back) ++ white bytes (drop (suc (indent (bytes_of z) + i.digits)) z))))
          ++ ys))
          ≡ marker_of i.marker
      by [] back f b = absurd (none-some m f)
      by (s ∷ ss) [] f b = absurd (none-some m b)
      by (s ∷ ss) (y ∷ zs) f b =
          under (take (indent (bytes_of z)) z) s ss (take i.digits (s ∷ ss)) y (white bytes (drop (suc (indent (bytes_of z) + i.digits)) z)) ys j previous
          ∙ ap (λ (x : Seat). option_and_then marker_of (slice_get bytes (shown bytes x.point).index)) (same_Some y m b)
          ∙ ap (λ (p : Point). option_and_then marker_of (slice_get bytes p.index)) byte.0
          ∙ ap (option_and_then marker_of) byte.1
          ∙ ap marker_of is

  -- an item that begins with a line's rest
  at-written : (n : ℕ) (t : List ℕ) (z : List Seat) → is_marker (unindented t) ≡ true → bytes_of z ≡ take (item_at n t).size t → AllByRecursion (IsByte bytes) z → IsWritten (item_at n t).container z
  at-written n t z h e are =
      let r = unindented t in
      let d = digits r in
      let after = drop (suc d) r in
      let front = indent t + suc d in
      let size = (item_at n t).size in
      let long : front ≤ size = cond_both (is_blank_line after) front (front + padding after) (λ (k : ℕ). front ≤ k) (λ b. omega arith) (λ b. omega arith) in
      let white_same : indent (bytes_of z) ≡ indent t = ap indent e ∙ indent-take size t (omega (arith, long)) in
      let there : slice_get (bytes_of z) (indent t + d) ≡ Some (first_byte (drop d r)) = ap (λ (l : List ℕ). slice_get l (indent t + d)) e ∙ get-take size t (indent t + d) (omega (arith, long)) ∙ marker-at t h in
      by (slice_get z (indent t + d)) (ap (λ (k : ℕ). slice_get z (k + d)) white_same) (sym (slice_get-map (λ (s : Seat). s.byte) z (indent t + d)) ∙ there)
    where
      by : (o : Option Seat) → slice_get z (indent (bytes_of z) + digits (unindented t)) ≡ o → option_map (λ (s : Seat). s.byte) o ≡ Some (first_byte (drop (digits (unindented t)) (unindented t))) → IsWritten (item_at n t).container z
      by None g f = absurd (none-some (first_byte (drop (digits (unindented t)) (unindented t))) f)
      by (Some m) g f =
          let after = drop (suc (digits (unindented t))) (unindented t) in (
            item-written
                (record { line = n; list = n; size = indent t + suc (digits (unindented t)) + padding after; marker = first_byte (drop (digits (unindented t)) (unindented t)); digits = digits (unindented t); is_empty = is_blank_line after })
                z m are g (same_Some m.byte (first_byte (drop (digits (unindented t)) (unindented t))) f) (marker-printed (unindented t) h),
            named-by (unindented t) h,
          )

  begins-written : (on : Constructs) (n : ℕ) (in_text : Bool) (t : List ℕ) (p : Prefix) (z : List Seat) → begins on n in_text t ≡ Some p → bytes_of z ≡ take p.size t → AllByRecursion (IsByte bytes) z → IsWritten p.container z
  begins-written on n in_text t p z h e are =
      by ((on.code_indented && nat_le 4 (indent t)) || (is_blank_line t || (on.thematic_break && is_thematic_break (unindented t)))) (on.block_quote && begins_with 62 (unindented t)) (on.gfm_footnote_definition && is_footnote (unindented t)) on.list_item (is_marker (unindented t)) _ refl h
    where
      by : (past q f l m rest : Bool) → is_marker (unindented t) ≡ m
          → cond past None (cond q (Some (record { container = quote (record { line = n; is_near = on.code_indented }); size = quote_size t })) (cond f (Some (footnote_at n t)) (cond (l && (m && rest)) (Some (item_at n t)) None))) ≡ Some p → IsWritten p.container z
      by true q f l m rest em h = absurd (none-some p h)
      by false true f l m rest em h = subst (λ (x : Prefix). IsWritten x.container z) (same_Some (record { container = quote (record { line = n; is_near = on.code_indented }); size = quote_size t }) p h) tt
      by false false true l m rest em h = subst (λ (x : Prefix). IsWritten x.container z) (same_Some (footnote_at n t) p h) tt
      by false false false true true true em h =
          let same : item_at n t ≡ p = same_Some (item_at n t) p h in
          subst (λ (x : Prefix). IsWritten x.container z) same (at-written n t z em (e ∙ ap (λ (x : Prefix). take x.size t) (sym same)) are)
      by false false false false m rest em h = absurd (none-some p h)
      by false false false true false rest em h = absurd (none-some p h)
      by false false false true true false em h = absurd (none-some p h)

  beginning-written : (on : Constructs) (n bound : ℕ) (in_text : Bool) (seats : List Seat) (t e : List ℕ) → bytes_of seats ≡ t ++ e → AllByRecursion (IsByte bytes) seats → AreWritten (beginning on bound n in_text t) seats
  beginning-written on n zero in_text seats t e same are = tt
  beginning-written on n (suc bound) in_text seats t e same are = by (begins on n in_text t) refl (beginning-written on n bound false)
    where
      by : (o : Option Prefix) → begins on n in_text t ≡ o → ((more : List Seat) (u v : List ℕ) → bytes_of more ≡ u ++ v → AllByRecursion (IsByte bytes) more → AreWritten (beginning on bound n false u) more)
          → AreWritten (elim o as (λ _. List Prefix) [ None ↦ [] | Some p ↦ p ∷ beginning on bound n false (drop p.size t) ]) seats
      by None h rest = tt
      by (Some p) h rest =
          let few = (begins_within on n in_text t p h).1 in
          let front : bytes_of (take p.size seats) ≡ take p.size t = sym (take-map (λ (s : Seat). s.byte) p.size seats) ∙ ap (take p.size) same ∙ take-append-le p.size t e few in
          let back : bytes_of (drop p.size seats) ≡ drop p.size t ++ e = sym (drop-map (λ (s : Seat). s.byte) p.size seats) ∙ ap (drop p.size) same ∙ drop-append-le p.size t e few in
          (begins-written on n in_text t p (take p.size seats) h front (every-take (IsByte bytes) p.size seats are), rest (drop p.size seats) (drop p.size t) e back (every-drop (IsByte bytes) p.size seats are))

  -- also one that takes a place in a list
  place-written : (old c : Container) (z : List Seat) → IsWritten c z → IsWritten (in_place_of old c) z
  place-written (item old) (item i) z h = by (old.marker == i.marker) h
    where
      by : (x : Bool) → IsWritten (item i) z → IsWritten (item (cond x (record i { list = old.list }) i)) z
      by true h = h
      by false h = h
  place-written (item old) (quote m) z h = tt
  place-written (item old) (footnote f) z h = tt
  place-written (quote q) c z h = h
  place-written (footnote f) c z h = h

  listed-written : (x : Bool) (cs : List Container) (ps : List Prefix) (seats : List Seat) → AreWritten ps seats → AreWritten (cond x [] (with_list cs ps)) seats
  listed-written true cs ps seats h = tt
  listed-written false [] ps seats h = h
  listed-written false (c ∷ cs) [] seats h = tt
  listed-written false (c ∷ cs) (p ∷ ps) seats h = (place-written c p.container (take p.size seats) h.0, h.1)

  -- what begins in a line of the document
  pub row-written : (on : Constructs) (k : Known) (n : ℕ) (l : Line) → IsWhole l → AllByRecursion (IsByte bytes) l → let r = row_of on k n l in AreWritten r.begun (drop (columns_of r.went_on) l)
  row-written on k n l w are =
      let r = row_of on k n l in
      let c = columns_of r.went_on in
      let few : c ≤ length (text_of l) = let both = columns_within on k.before n l in omega (arith, both) in
      let all : bytes_of l ≡ text_of l ++ bytes_of (ending_of l) = ap bytes_of (line_front l w) ∙ map-append (λ (s : Seat). s.byte) (line_text l) (ending_of l) in
      let same : bytes_of (drop c l) ≡ left on k n l ++ bytes_of (ending_of l) = sym (drop-map (λ (s : Seat). s.byte) c l) ∙ ap (drop c) all ∙ drop-append-le c (text_of l) (bytes_of (ending_of l)) few in
      listed-written ((length r.went_on == k.before.depth) && is_raw k.before.leaf) (ended on k n l) (new on k n l) (drop c l)
      (beginning-written on n (length (left on k n l)) (in_paragraph on k n l) (drop c l) (left on k n l) (bytes_of (ending_of l)) same (every-drop (IsByte bytes) c l are))
