-- Lemmas on what is known of the parts of spans from an event on.
use Rattle.std.proofs.Common.{◌≡◌, ℕ, zero, suc, ◌+◌, ◌-◌, ◌≤◌, ◌<◌, Bool, true, false, cond, List, [], ◌∷◌, ◌++◌, drop, length, length-append, refl, sym, ap, ◌∙◌, subst, arith}
use Rattle.std.proofs.Math.Bool.{not-not}
use Rattle.std.specs.Prelude.{◌==◌, ◌&&◌, ◌||◌, max, not, nat_lt, filter, map, replicate, reverse, Option, None, Some, option_and_then}
use Rattle.std.specs.List.{list_any, take_while}
use Rattle.std.proofs.lemmas.Bool.{and_right, false≢true, false_from_ne_true, or_parts}
use Rattle.std.proofs.lemmas.Bool.Decides.{nat_tests}
use Rattle.std.proofs.lemmas.List.{length-replicate, length-reverse, reverse-append}
use Rattle.std.proofs.lemmas.List.Sums.{take_while-cons}
use Rattle.markdown_base.specs.declared.event.Event.{Event}
use Rattle.markdown_base.specs.declared.event.Kind.{Kind}
use Rattle.markdown_base.specs.declared.event.Kind.TheVariants.{Enter, Exit}
use Rattle.markdown_base.specs.declared.event.Name.{Name}
use Rattle.markdown_base.specs.declared.event.Name.TheVariants.{BlankLineEnding, BlockQuote, ListItem, ListOrdered, ListUnordered}
use Rattle.markdown_base.specs.declared.event.Point.{Point}
use Rattle.markdown_base.specs.Events.{is_enter, same_name}
use Rattle.markdown_base.proofs.Balanced.{same_name-true}
use Rattle.markdown_edits.specs.SpanWalks.{is_wanted}
use Rattle.mdblock_containers.specs.declared.list_shapes.Level.{Level}
use Rattle.mdblock_containers.specs.declared.list_shapes.ListShape.{ListShape}
use Rattle.mdblock_containers.specs.declared.list_shapes.Parts.{Parts}
use Rattle.mdblock_containers.specs.declared.list_shapes.Seen.{Seen}
use Rattle.mdblock_containers.specs.Lists.{Met, behind_enter, behind_first, block_names, directly_by, directly_from, directly_in, is_apart, is_apart_behind, is_blank_behind, is_loose, is_spread, item_names, list_marker, list_names, list_start}
use Rattle.mdblock_containers.specs.ListShapes.{shape_of, shapes_from}
use Rattle.mdblock_containers.specs.ListSeen.{AreSeen, IsParts, IsSeen, blank_before, has_blank, is_list, is_quiet, known_from, line_of, nothing_seen, parts_before, seen_before, shape_at, stack_at_enter, stack_at_exit, stack_before, top_of}
use Rattle.mdblock_containers.specs.ListWalks.{is_item}

-- the greatest of lines
lines_more : (x l m : ℕ) (a : Bool) → (nat_lt x (max l m) || a) ≡ ((nat_lt x l || a) || (nat_lt x m || a))
lines_more x l m true = grind (arith, nat_tests)
lines_more x l m false = grind (arith, nat_tests)

lines_none : (x l : ℕ) (a : Bool) → (nat_lt x (max l 0) || a) ≡ ((nat_lt x l || a) || false)
lines_none x l true = grind (arith, nat_tests)
lines_none x l false = grind (arith, nat_tests)

blank_more : (e : Event) (end : Point) (blank : Option ℕ) → has_blank end (blank_before e blank) ≡ (is_blank_behind end e || has_blank end blank)
blank_more e end blank = by (is_enter e.kind) (same_name e.name BlankLineEnding)
  where
    by : (k s : Bool) → has_blank end (cond (k && s) (Some (max e.point.line (line_of blank))) blank) ≡ ((k && (s && (nat_lt end.line e.point.line || (end.column == 1)))) || has_blank end blank)
    by true true = elim blank as (λ (b : Option ℕ). has_blank end (Some (max e.point.line (line_of b))) ≡ ((nat_lt end.line e.point.line || (end.column == 1)) || has_blank end b)) [
      | None ↦ lines_none end.line e.point.line (end.column == 1)
      | Some m ↦ lines_more end.line e.point.line m (end.column == 1)
    ]
    by true false = refl
    by false s = refl

-- Spans of some names
module _ (names : List Name) (e : Event) (es : List Event) (p : Parts) (h : IsParts names p es) where
  abbrev one : Event → Bool
  one f = is_wanted names f.name

  abbrev front : List Event → List Event
  front fs = take_while (λ f. not (one f)) fs

  front_first : (b : Bool) → one e ≡ b → front (e ∷ es) ≡ cond (not b) (e ∷ front es) []
  front_first b q = take_while-cons (λ f. not (one f)) e es ∙ ap (λ w. cond (not w) (e ∷ front es) []) q

  parts_one : one e ≡ true → IsParts names (record { any = true; is_apart = (p.any && has_blank e.point p.blank) || p.is_apart; blank = None }) (e ∷ es)
  parts_one q = record {
    any = sym (ap (λ w. w || list_any one es) q);
    apart =
        ap (λ a. (a && has_blank e.point p.blank) || p.is_apart) h.any
        ∙ ap (λ b. (list_any one es && b) || p.is_apart) (h.blank e.point)
        ∙ ap (λ c. is_apart_behind names e.point es || c) h.apart
        ∙ sym (ap (λ w. (w && is_apart_behind names e.point es) || is_apart names es) q);
    blank = λ end. sym (ap (λ (t : List Event). list_any (is_blank_behind end) t) (front_first true q));
  }

  parts_other : one e ≡ false → IsParts names (record { any = p.any; is_apart = p.is_apart; blank = blank_before e p.blank }) (e ∷ es)
  parts_other q = record {
    any = h.any ∙ sym (ap (λ w. w || list_any one es) q);
    apart = h.apart ∙ sym (ap (λ w. (w && is_apart_behind names e.point es) || is_apart names es) q);
    blank = λ end.
        blank_more e end p.blank ∙ ap (λ b. is_blank_behind end e || b) (h.blank end)
        ∙ sym (ap (λ (t : List Event). list_any (is_blank_behind end) t) (front_first false q));
  }

  parts_more : IsParts names (parts_before names e p) (e ∷ es)
  parts_more = by (one e) refl
    where
      after : Bool → Parts
      after w = cond w (record { any = true; is_apart = (p.any && has_blank e.point p.blank) || p.is_apart; blank = None }) (record { any = p.any; is_apart = p.is_apart; blank = blank_before e p.blank })

      by : (b : Bool) → one e ≡ b → IsParts names (after (one e)) (e ∷ es)
      by true q = subst (λ w. IsParts names (after w) (e ∷ es)) (sym q) (parts_one q)
      by false q = subst (λ w. IsParts names (after w) (e ∷ es)) (sym q) (parts_other q)

-- nothing is in an empty rest
parts_nothing : (names : List Name) → IsParts names nothing_seen.items []
parts_nothing names = record { any = refl; apart = refl; blank = λ end. refl }

seen_nothing : IsSeen nothing_seen []
seen_nothing = record { items = parts_nothing item_names; blocks = parts_nothing block_names; spread_item = refl }

abbrev spread_items : List Met → Bool
spread_items ms = list_any (λ item. is_spread block_names item.behind) (filter (λ m. is_item m.event) ms)

-- One part more
seen_more : (e : Event) (es : List Event) (ms : List Met) (spread : Bool) (s : Seen) → (is_item e ≡ true → spread ≡ is_spread block_names es) → IsSeen s ms → IsSeen (seen_before e spread s) (record { event = e; behind = es } ∷ ms)
seen_more e es ms spread s f h = record {
  items = parts_more item_names e (map (λ m. m.event) ms) s.items h.items;
  blocks = parts_more block_names e (map (λ m. m.event) ms) s.blocks h.blocks;
  spread_item = by (is_item e) refl;
}
  where
    tested : Bool → Bool
    tested w = list_any (λ item. is_spread block_names item.behind) (cond w (record { event = e; behind = es } ∷ filter (λ m. is_item m.event) ms) (filter (λ m. is_item m.event) ms))

    by : (b : Bool) → is_item e ≡ b → ((is_item e && spread) || s.has_spread_item) ≡ tested (is_item e)
    by true q = ap (λ w. (w && spread) || s.has_spread_item) q ∙ ap (λ v. v || s.has_spread_item) (f q) ∙ ap (λ v. is_spread block_names es || v) h.spread_item ∙ sym (ap tested q)
    by false q = ap (λ w. (w && spread) || s.has_spread_item) q ∙ h.spread_item ∙ sym (ap tested q)

-- what is known of the innermost span, and of those around it
pub seen_top : (ss : List Seen) (d : ℕ) (es : List Event) → AreSeen ss d es → IsSeen (top_of ss) (directly_from d es)
seen_top [] d es h = subst (IsSeen nothing_seen) (sym (h d (omega arith))) seen_nothing
seen_top (s ∷ ss) d es h = h.0

seen_rest : (ss : List Seen) (d : ℕ) (es : List Event) → AreSeen ss d es → AreSeen (drop 1 ss) (suc d) es
seen_rest [] d es h = λ k m. h k (omega arith)
seen_rest (s ∷ ss) d es h = h.1

-- One event more
module _ (e : Event) (es : List Event) where
  abbrev here : Met
  here = record { event = e; behind = es }

  abbrev walk : Kind → ℕ → List Met
  walk k d = directly_by k d here (λ d. directly_from d es)

  -- spans around stay: an exit has one more around it, an enter one fewer
  exit_shift : (ss : List Seen) (d : ℕ) → AreSeen ss (suc d) es → e.kind ≡ Exit → AreSeen ss (suc (suc d)) (e ∷ es)
  exit_shift [] d h q = λ k m. ap (λ v. walk v k) q ∙ by k m
    where
      by : (k : ℕ) → suc (suc d) ≤ k → walk Exit k ≡ []
      by zero m = absurd (omega arith)
      by (suc zero) m = absurd (omega arith)
      by (suc (suc k)) m = h (suc k) (omega arith)
  exit_shift (s ∷ ss) d h q = (subst (IsSeen s) (sym (ap (λ v. walk v (suc (suc d))) q)) h.0, exit_shift ss (suc d) h.1 q)

  enter_shift : (ss : List Seen) (d : ℕ) → AreSeen ss (suc (suc d)) es → e.kind ≡ Enter → AreSeen ss (suc d) (e ∷ es)
  enter_shift [] d h q = λ k m. ap (λ v. walk v k) q ∙ by k m
    where
      by : (k : ℕ) → suc d ≤ k → walk Enter k ≡ []
      by zero m = absurd (omega arith)
      by (suc k) m = h (suc (suc k)) (omega arith)
  enter_shift (s ∷ ss) d h q = (subst (IsSeen s) (sym (ap (λ v. walk v (suc d)) q)) h.0, enter_shift ss (suc d) h.1 q)

  at_exit : (ss : List Seen) → AreSeen ss 0 es → e.kind ≡ Exit → AreSeen (stack_at_exit e ss) 0 (e ∷ es)
  at_exit ss h q = (
    subst (IsSeen nothing_seen) (sym (ap (λ v. walk v 0) q)) seen_nothing,
    (
      subst (IsSeen (seen_before e false (top_of ss))) (sym (ap (λ v. walk v 1) q))
          (seen_more e es (directly_from 0 es) false (top_of ss) (λ i. absurd (no_item i)) (seen_top ss 0 es h)),
      exit_shift (drop 1 ss) 0 (seen_rest ss 0 es h) q,
    ),
  )
    where
      no_item : is_item e ≡ true → ⊥
      no_item i = false≢true (ap (λ v. is_enter v && same_name e.name ListItem) (sym q) ∙ i)

  at_enter : (ss : List Seen) → AreSeen ss 0 es → e.kind ≡ Enter → AreSeen (stack_at_enter e ss) 0 (e ∷ es)
  at_enter ss h q = (
    subst (IsSeen (seen_before e (top_of ss).blocks.is_apart (top_of (drop 1 ss)))) (sym (ap (λ v. walk v 0) q))
        (seen_more e es (directly_from 1 es) (top_of ss).blocks.is_apart (top_of (drop 1 ss)) (λ i. (seen_top ss 0 es h).blocks.apart) (seen_top (drop 1 ss) 1 es (seen_rest ss 0 es h))),
    enter_shift (drop 1 (drop 1 ss)) 0 (seen_rest (drop 1 ss) 1 es (seen_rest ss 0 es h)) q,
  )

  pub seen_step : (ss : List Seen) → AreSeen ss 0 es → AreSeen (stack_before e ss) 0 (e ∷ es)
  seen_step ss h = by e.kind refl
    where
      after : Kind → List Seen
      after k = elim k [ Enter ↦ stack_at_enter e ss | Exit ↦ stack_at_exit e ss ]

      by : (k : Kind) → e.kind ≡ k → AreSeen (after e.kind) 0 (e ∷ es)
      by Enter q = subst (λ v. AreSeen (after v) 0 (e ∷ es)) (sym q) (at_enter ss h q)
      by Exit q = subst (λ v. AreSeen (after v) 0 (e ∷ es)) (sym q) (at_exit ss h q)

  -- a list more
  pub shapes_step : (bytes : List ℕ) (events : List Event) (at : ℕ) (s : Seen) (lists : List ListShape) → drop at events ≡ e ∷ es → IsSeen s (directly_in es)
      → shapes_from bytes (suc at) es ≡ lists → shapes_from bytes at (e ∷ es) ≡ cond (is_list e) (shape_at bytes events at s ∷ lists) lists
  shapes_step bytes events at s lists d h r = by (is_list e) refl
    where
      told : Bool → List ListShape
      told w = elim (cond w (Some es) None) [ None ↦ shapes_from bytes (suc at) es | Some inside ↦ shape_of bytes at inside ∷ shapes_from bytes (suc at) es ]

      entered : is_list e ≡ true → behind_enter list_names at events ≡ Some es
      entered q = ap (behind_first list_names) d ∙ ap (λ w. cond w (Some es) None) q

      shape : is_list e ≡ true → shape_of bytes at es ≡ shape_at bytes events at s
      shape q =
          let m : list_marker bytes es ≡ option_and_then (list_marker bytes) (behind_enter list_names at events) = sym (ap (option_and_then (list_marker bytes)) (entered q)) in
          let n : list_start bytes es ≡ option_and_then (list_start bytes) (behind_enter list_names at events) = sym (ap (option_and_then (list_start bytes)) (entered q)) in
          let a : is_spread item_names es ≡ s.items.is_apart = sym h.items.apart in
          let b : is_loose es ≡ (s.items.is_apart || s.has_spread_item) = ap (λ v. v || spread_items (directly_in es)) a ∙ ap (λ v. s.items.is_apart || v) (sym h.spread_item) in
          ap (λ v. record { at = at; is_loose = v; is_spread = is_spread item_names es; marker = list_marker bytes es; start = list_start bytes es }) b
          ∙ ap (λ v. record { at = at; is_loose = s.items.is_apart || s.has_spread_item; is_spread = v; marker = list_marker bytes es; start = list_start bytes es }) a
          ∙ ap (λ v. record { at = at; is_loose = s.items.is_apart || s.has_spread_item; is_spread = s.items.is_apart; marker = v; start = list_start bytes es }) m
          ∙ ap (λ v. record { at = at; is_loose = s.items.is_apart || s.has_spread_item; is_spread = s.items.is_apart; marker = option_and_then (list_marker bytes) (behind_enter list_names at events); start = v }) n

      by : (b : Bool) → is_list e ≡ b → told (is_list e) ≡ cond (is_list e) (shape_at bytes events at s ∷ lists) lists
      by true q = ap told q ∙ ap (λ v. v ∷ shapes_from bytes (suc at) es) (shape q) ∙ ap (λ v. shape_at bytes events at s ∷ v) r ∙ sym (ap (λ w. cond w (shape_at bytes events at s ∷ lists) lists) q)
      by false q = ap told q ∙ r ∙ sym (ap (λ w. cond w (shape_at bytes events at s ∷ lists) lists) q)

-- the same of the same events
pub seen_same : (ss : List Seen) (es fs : List Event) → es ≡ fs → AreSeen ss 0 fs → AreSeen ss 0 es
seen_same ss es fs q h = subst (λ (l : List Event). AreSeen ss 0 l) (sym q) h

-- spans of which nothing is known, inside others
pub none_first : (n : ℕ) (ss : List Seen) → 0 < n → (nothing_seen ≡ top_of (replicate n nothing_seen ++ ss)) × (replicate (n - 1) nothing_seen ++ ss ≡ drop 1 (replicate n nothing_seen ++ ss))
none_first zero ss some = absurd (omega (arith, some))
none_first (suc n) ss some = let one : suc n - 1 ≡ n = omega arith in (refl, ap (λ k. replicate k nothing_seen ++ ss) one)

pub none_more : (n : ℕ) (ss : List Seen) → replicate (n + 1) nothing_seen ++ ss ≡ nothing_seen ∷ (replicate n nothing_seen ++ ss)
none_more n ss = let one : n + 1 ≡ suc n = omega arith in ap (λ k. replicate k nothing_seen ++ ss) one

-- what is known of one, and of those around it
pub last_first : (old left : List Level) (l : Level) → old ≡ left ++ l ∷ [] → known_from (reverse old) ≡ l.seen ∷ (replicate l.around nothing_seen ++ known_from (reverse left))
last_first old left l is = ap (λ (ls : List Level). known_from (reverse ls)) is ∙ ap known_from (reverse-append left (l ∷ []))

-- some span is open
some_known : (ls : List Level) → 0 < length ls → 0 < length (known_from ls)
some_known [] some = absurd (omega (arith, some))
some_known (l ∷ ls) some = omega arith

pub some_seen : (n : ℕ) (ls : List Level) → 0 < length ls → n < length (replicate n nothing_seen ++ known_from (reverse ls))
some_seen n ls some =
    let known = some_known (reverse ls) (omega (arith, length-reverse ls, some)) in
    omega (arith, length-append (replicate n nothing_seen) (known_from (reverse ls)), length-replicate n nothing_seen, known)

-- An event of whose name nothing is to be known
same_swapped : (m n : Name) → same_name m m ≡ true → same_name m n ≡ false → same_name n m ≡ false
same_swapped m n all off = false_from_ne_true (same_name n m) (λ e. false≢true (sym off ∙ ap (same_name m) (same_name-true n m e) ∙ all))

module _ (e : Event) (quiet : is_quiet e.name ≡ true) where
  none : is_wanted (BlankLineEnding ∷ ListItem ∷ block_names) e.name ≡ false
  none = sym (not-not (is_wanted (BlankLineEnding ∷ ListItem ∷ block_names) e.name)) ∙ ap not quiet

  no_blank : same_name e.name BlankLineEnding ≡ false
  no_blank = same_swapped BlankLineEnding e.name refl (or_parts (same_name BlankLineEnding e.name) (is_wanted (ListItem ∷ block_names) e.name) none).0

  no_item_or_block : is_wanted (ListItem ∷ block_names) e.name ≡ false
  no_item_or_block = (or_parts (same_name BlankLineEnding e.name) (is_wanted (ListItem ∷ block_names) e.name) none).1

  item_off : same_name ListItem e.name ≡ false
  item_off = (or_parts (same_name ListItem e.name) (is_wanted block_names e.name) no_item_or_block).0

  block_off : is_wanted block_names e.name ≡ false
  block_off = (or_parts (same_name ListItem e.name) (is_wanted block_names e.name) no_item_or_block).1

  blank_off : (blank : Option ℕ) → blank_before e blank ≡ blank
  blank_off blank = by (is_enter e.kind) (same_name e.name BlankLineEnding) no_blank
    where
      by : (k s : Bool) → s ≡ false → cond (k && s) (Some (max e.point.line (line_of blank))) blank ≡ blank
      by true s q = ap (λ v. cond v (Some (max e.point.line (line_of blank))) blank) q
      by false s q = refl

  parts_off : (names : List Name) (p : Parts) → is_wanted names e.name ≡ false → parts_before names e p ≡ p
  parts_off names p q =
      ap (λ w. cond w (record { any = true; is_apart = (p.any && has_blank e.point p.blank) || p.is_apart; blank = None }) (record { any = p.any; is_apart = p.is_apart; blank = blank_before e p.blank })) q
      ∙ ap (λ b. record { any = p.any; is_apart = p.is_apart; blank = b }) (blank_off p.blank)

  item_event_off : is_item e ≡ false
  item_event_off = and_right (is_enter e.kind) (same_name e.name ListItem) (same_swapped ListItem e.name refl item_off)

  quiet_same : (spread : Bool) (s : Seen) → seen_before e spread s ≡ s
  quiet_same spread s =
      ap (λ p. record { items = p; blocks = parts_before block_names e s.blocks; has_spread_item = (is_item e && spread) || s.has_spread_item })
      (parts_off item_names s.items (ap (λ v. v || false) item_off))
      ∙ ap (λ p. record { items = s.items; blocks = p; has_spread_item = (is_item e && spread) || s.has_spread_item }) (parts_off block_names s.blocks block_off)
      ∙ ap (λ v. record { items = s.items; blocks = s.blocks; has_spread_item = (v && spread) || s.has_spread_item }) item_event_off

  quiet_exit : (ss : List Seen) → 0 < length ss → stack_at_exit e ss ≡ nothing_seen ∷ ss
  quiet_exit [] some = absurd (omega (arith, some))
  quiet_exit (s ∷ ss) some = ap (λ t. nothing_seen ∷ t ∷ ss) (quiet_same false s)

  quiet_enter : (ss : List Seen) → 1 < length ss → stack_at_enter e ss ≡ drop 1 ss
  quiet_enter [] some = absurd (omega (arith, some))
  quiet_enter (s ∷ []) some = absurd (omega (arith, some))
  quiet_enter (s ∷ t ∷ ss) some = ap (λ u. u ∷ ss) (quiet_same s.blocks.is_apart t)

  abbrev stack_by : Kind → List Seen → List Seen
  stack_by k ss = elim k [ Enter ↦ stack_at_enter e ss | Exit ↦ stack_at_exit e ss ]

  pub before_exit : (ss : List Seen) → 0 < length ss → e.kind ≡ Exit → stack_before e ss ≡ nothing_seen ∷ ss
  before_exit ss some q = ap (λ k. stack_by k ss) q ∙ quiet_exit ss some

  pub before_enter : (ss : List Seen) → 1 < length ss → e.kind ≡ Enter → stack_before e ss ≡ drop 1 ss
  before_enter ss some q = ap (λ k. stack_by k ss) q ∙ quiet_enter ss some

  pub quiet_list : is_list e ≡ false
  quiet_list =
      let behind = (or_parts (same_name BlockQuote e.name) (is_wanted (ListOrdered ∷ ListUnordered ∷ drop 3 block_names) e.name) block_off).1 in
      let ordered = or_parts (same_name ListOrdered e.name) (is_wanted (ListUnordered ∷ drop 3 block_names) e.name) behind in
      let unordered = or_parts (same_name ListUnordered e.name) (is_wanted (drop 3 block_names) e.name) ordered.1 in
      by (is_enter e.kind) (same_name ListOrdered e.name) (same_name ListUnordered e.name) ordered.0 unordered.0
    where
      by : (k a b : Bool) → a ≡ false → b ≡ false → (k && (a || (b || false))) ≡ false
      by true a b p q = ap (λ v. v || (b || false)) p ∙ ap (λ v. v || false) q
      by false a b p q = refl
