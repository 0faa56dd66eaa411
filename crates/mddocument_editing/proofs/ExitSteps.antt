-- Where spans end, by the exits whose enters are before; and the label of a link, by how many events are in two spans.
use Rattle.mddocument_editing.proofs.Prelude.{◌≡◌, ℕ, zero, suc, ◌+◌, ◌-◌, ◌<◌, ◌≤◌, min, List, [], ◌∷◌, ◌++◌, length, take, drop, get_or, Option, slice_get, unwrap_or, refl, sym, ap, ◌∙◌, arith, drop-drop, drop-take, drop_more, get_or-drop, length-drop, length-take, Event}
use Rattle.std.proofs.lemmas.List.{get_or-reverse}
use Rattle.std.proofs.lemmas.Option.{unwrap_or-slice_get}
use Rattle.std.specs.Prelude.{option_to_list, reverse}
use Rattle.markdown_base.proofs.SliceLemmas.{filler}
use Rattle.markdown_base.specs.declared.event.Kind.{Kind}
use Rattle.markdown_base.specs.declared.event.Kind.TheVariants.{Enter, Exit}
use Rattle.mddocument_link_targets.specs.Spans.{behind, inside, size_by, size_from}
use Rattle.mddocument_editing.specs.Exits.{exits_before, exits_from}
use Rattle.mddocument_editing.specs.Said.{link_label, link_labels}

module _ (at : ℕ) (es : List Event) where
  abbrev ends : ℕ → List ℕ → ℕ
  ends depth exits = get_or exits depth (at + suc (length es))

  one-ends : (k : Kind) (depth : ℕ) (exits : List ℕ) → ((d : ℕ) → suc at + size_from d es ≡ get_or exits d (suc at + length es))
      → at + size_by k depth (λ d. size_from d es) ≡ get_or (exits_before k at exits) depth (at + suc (length es))
  one-ends Enter depth exits more = grind (arith, more (suc depth), get_or-drop 1 exits depth (at + suc (length es)))
  one-ends Exit zero exits more = omega arith
  one-ends Exit (suc depth) exits more = grind (arith, more depth)

-- spans that were entered before end at those exits, or behind all events
pub span-ends : (depth at : ℕ) (es : List Event) → at + size_from depth es ≡ get_or (exits_from at es) depth (at + length es)
span-ends depth at [] = refl
span-ends depth at (e ∷ es) = one-ends at es e.kind depth (exits_from (suc at) es) (λ d. span-ends d (suc at) es)

-- the last one of a list is the first one of the list from its end
last-first : (exits : List ℕ) (end : ℕ) → get_or (reverse exits) 0 end ≡ get_or exits (length exits - 1) end
last-first [] end = refl
last-first (x ∷ exits) end = get_or-reverse (x ∷ exits) 0 end (omega arith) ∙ ap (λ n. get_or (x ∷ exits) n end) (omega arith)

-- a span that was entered before ends at the last exit, or behind all events
pub span-end : (exits : List ℕ) (at : ℕ) (events : List Event) (last : Option ℕ) → reverse exits ≡ exits_from at (drop at events) → at ≤ length events
    → last ≡ slice_get exits (length exits - 1) → at + size_from 0 (drop at events) ≡ unwrap_or last (length events)
span-end exits at events last are inside is =
    let end = length events in
    let long : at + length (drop at events) ≡ end = let l = length-drop at events in omega (arith, l, inside) in
    span-ends 0 at (drop at events)
    ∙ ap (λ n. get_or (exits_from at (drop at events)) 0 n) long
    ∙ ap (λ xs. get_or xs 0 end) (sym are)
    ∙ last-first exits end
    ∙ sym (unwrap_or-slice_get exits (length exits - 1) end)
    ∙ ap (λ o. unwrap_or o end) (sym is)

one-within : (k : Kind) (depth : ℕ) (es : List Event) → ((d : ℕ) → size_from d es ≤ length es) → size_by k depth (λ d. size_from d es) ≤ suc (length es)
one-within Enter depth es more = let m = more (suc depth) in omega (arith, m)
one-within Exit zero es more = omega arith
one-within Exit (suc depth) es more = let m = more depth in omega (arith, m)

-- no more events are in a span than there are
pub size-within : (depth : ℕ) (es : List Event) → size_from depth es ≤ length es
size-within depth [] = omega arith
size-within depth (e ∷ es) = one-within e.kind depth es (λ d. size-within d es)

one-taken : (k : Kind) (depth n : ℕ) (es : List Event) → ((d : ℕ) → size_from d (take n es) ≡ min n (size_from d es))
    → size_by k depth (λ d. size_from d (take n es)) ≡ min (suc n) (size_by k depth (λ d. size_from d es))
one-taken Enter depth n es more = let m = more (suc depth) in omega (arith, m)
one-taken Exit zero n es more = omega arith
one-taken Exit (suc depth) n es more = let m = more depth in omega (arith, m)

-- so many of a front are in it
pub size-taken : (depth n : ℕ) (es : List Event) → size_from depth (take n es) ≡ min n (size_from depth es)
size-taken depth zero es = omega arith
size-taken depth (suc n) [] = omega arith
size-taken depth (suc n) (e ∷ es) = one-taken e.kind depth n es (λ d. size-taken d n es)

-- what is behind the first event of a front
behind-first : (n : ℕ) (ds : List Event) → drop 1 (take n ds) ≡ take (n - 1) (drop 1 ds)
behind-first zero ds = refl
behind-first (suc n) ds = let one : suc n ≡ 1 + (suc n - 1) = omega arith in ap (λ m. drop 1 (take m ds)) one ∙ drop-take 1 (suc n - 1) ds

-- The events in a link, by those behind its enter and how many are in two spans: those in its own label, and those behind that
module _ (ds : List Event) {size own : ℕ} (is_size : size ≡ size_from 0 ds) (is_own : own ≡ size_from 0 (drop 1 ds)) where
  abbrev rest : List Event
  rest = drop 1 (take size ds)

  abbrev short : ℕ
  short = min own (length rest)

  own-size : size_from 0 rest ≡ short
  own-size =
      let es = drop 1 ds in
      let cut = behind-first size ds in
      let there = ap (size_from 0) cut ∙ size-taken 0 (size - 1) es in
      let long = ap length cut ∙ length-take (size - 1) es in
      let all = size-within 0 es in
      omega (arith, is_own, there, long, all)

  pub own-there : take short rest ≡ inside (drop 1 (inside ds))
  own-there = ap (λ n. take n rest) (sym own-size) ∙ ap (λ n. inside (drop 1 (take n ds))) is_size

  pub tail-there : drop 1 (drop short rest) ≡ behind (drop 1 (inside ds))
  tail-there = drop-drop 1 short rest ∙ ap (λ n. drop (n + 1) rest) (sym own-size) ∙ ap (λ n. behind (drop 1 (take n ds))) is_size

-- ---- one event before

module _ (events : List Event) {at : ℕ} (some : 0 < at) where
  -- what is behind it
  pub behind-one : drop at events ≡ drop 1 (drop (at - 1) events)
  behind-one = let n : at ≡ (at - 1) + 1 = omega (arith, some) in ap (λ m. drop m events) n ∙ sym (drop-drop 1 (at - 1) events)

  pub behind-two : drop 1 (drop at events) ≡ drop 2 (drop (at - 1) events)
  behind-two =
      let n : at + 1 ≡ (at - 1) + 2 = omega (arith, some) in
      drop-drop 1 at events ∙ ap (λ m. drop m events) n ∙ sym (drop-drop 2 (at - 1) events)

  -- the label of the link that it enters is one more
  pub label-more : (bytes : List ℕ) → link_labels bytes (drop (at - 1) events) ≡ link_labels bytes (drop at events) ++ option_to_list (link_label bytes (drop (at - 1) events))
  label-more bytes = one (drop (at - 1) events) ∙ ap (λ ds. link_labels bytes ds ++ option_to_list (link_label bytes (drop (at - 1) events))) (sym behind-one)
    where
      one : (ds : List Event) → link_labels bytes ds ≡ link_labels bytes (drop 1 ds) ++ option_to_list (link_label bytes ds)
      one [] = refl
      one (d ∷ ds) = refl

  -- the exits
  pub exit-more : at ≤ length events → exits_before (get_or events (at - 1) filler).kind (at - 1) (exits_from at (drop at events)) ≡ exits_from (at - 1) (drop (at - 1) events)
  exit-more inside =
      let first = drop_more events (at - 1) filler (omega (arith, some, inside)) in
      let next : at ≡ suc (at - 1) = omega (arith, some) in
      let one : at ≡ at - 1 + 1 = omega (arith, some) in
      ap (λ n. exits_before (get_or events (at - 1) filler).kind (at - 1) (exits_from n (drop at events))) next
      ∙ ap (λ n. exits_before (get_or events (at - 1) filler).kind (at - 1) (exits_from (suc (at - 1)) (drop n events))) one
      ∙ ap (exits_from (at - 1)) (sym first)
