-- Where the parts of a definition are in its text.
use Rattle.std.proofs.Common.{◌≡◌, ◌≤◌, ◌<◌, ℕ, suc, ◌+◌, ◌-◌, Bool, true, false, cond, List, [], ◌∷◌, Option, Some, None, length, length-drop, drop, get_or, take, arith, refl, ap, sym, ◌∙◌, subst}
use Rattle.std.specs.Prelude.{IfSome, ◌&&◌, ◌||◌, ◌==◌}
use Rattle.std.specs.List.{prefix_len}
use Rattle.std.specs.Option.{option_map, option_and_then, option_or}
use Rattle.std.proofs.lemmas.Bool.{false≢true}
use Rattle.std.proofs.lemmas.List.{drop-drop, drop_more}
use Rattle.std.proofs.lemmas.List.Sums.{prefix_len-le-length}
use Rattle.mdinline_labels.specs.Definitions.{definition_at, definitions, definitions_from, destination_at, end, end_of, ended, label_at, line_left, stretch_at, title_at, titled_or_not}
use Rattle.mdinline_labels.specs.Labels.{is_label}
use Rattle.mdinline_labels.specs.Tails.{begins_with, destination_size, gap, is_white, label_size, line_ends, title_size}
use Rattle.mdinline_labels.specs.declared.definitions.Definition.{Definition}
use Rattle.mdinline_labels.specs.declared.definitions.Stretch.{Stretch}
use Rattle.mdinline_labels.proofs.Fronts.{passed}
use Rattle.mdblock_definitions.proofs.DefinitionParts.{destination-inside, gap-inside, title-inside}
use Rattle.mdblock_definitions.specs.Labelled.{IsInText, is_one_of}
use Rattle.mdblock_definitions.specs.Skeleton.{labels_in}
use Rattle.mdinline_labels.specs.Defined.{defines, is_same}
use Rattle.mdinline_labels.specs.declared.labels.Labels.{Labels}

-- ---- sizes

if-some : {A : Type 0} (o : Option A) (P : A → Type 0) → ((x : A) → o ≡ Some x → P x) → IfSome o P
if-some None P h = tt
if-some (Some x) P h = h x refl

some-left : (b k : ℕ) (bs : List ℕ) → begins_with b (drop k bs) ≡ true → k < length bs
some-left b k bs e = by (drop k bs) (length-drop k bs) e
  where
    by : (cs : List ℕ) → length cs ≡ length bs - k → begins_with b cs ≡ true → k < length bs
    by [] l e = absurd (false≢true e)
    by (c ∷ cs) l e = omega (arith, l)

-- ---- parts

label-within : (text : List ℕ) → IfSome (label_at text) (λ s. (2 ≤ s.size) × (end s < length text))
label-within text = by (begins_with 91 (drop (prefix_len is_white text) text)) (label_size (drop (prefix_len is_white text + 1) text))
  where
    from : ℕ
    from = prefix_len is_white text

    one : (n : ℕ) (a b : Bool) → begins_with 58 (drop (from + n + 2) text) ≡ b → IfSome (cond (a && b) (Some (stretch_at from (n + 2))) None) (λ s. (2 ≤ s.size) × (end s < length text))
    one n true true e = (omega arith, omega (arith, some-left 58 (from + n + 2) text e))
    one n true false e = tt
    one n false b e = tt

    by : (x : Bool) (m : Option ℕ)
        → IfSome (cond x (option_and_then (λ n. cond (is_label (take n (drop (from + 1) text)) && begins_with 58 (drop (from + n + 2) text)) (Some (stretch_at from (n + 2))) None) m) None) (λ s. (2 ≤ s.size) × (end s < length text))
    by true None = tt
    by true (Some n) = one n (is_label (take n (drop (from + 1) text))) (begins_with 58 (drop (from + n + 2) text)) refl
    by false m = tt

destination-within : (text : List ℕ) (at : ℕ) → at ≤ length text → IfSome (destination_at text at) (λ s. (at ≤ s.from) × (end s ≤ length text))
destination-within text at h =
    let from = at + gap (drop at text) in
    by from (omega arith) (omega (arith, gap-inside (drop at text), length-drop at text)) (destination_size (drop from text)) (if-some (destination_size (drop from text)) (λ n. n ≤ length (drop from text)) (destination-inside (drop from text)))
  where
    by : (from : ℕ) → at ≤ from → from ≤ length text → (m : Option ℕ) → IfSome m (λ n. n ≤ length (drop from text)) → IfSome (option_map (stretch_at from) m) (λ s. (at ≤ s.from) × (end s ≤ length text))
    by from a b None k = tt
    by from a b (Some n) k = (a, omega (arith, k, length-drop from text, b))

pub title-within : (text : List ℕ) (at : ℕ) → at ≤ length text → IfSome (title_at text at) (λ s. (at ≤ s.from) × (end s ≤ length text))
title-within text at h =
    let white = gap (drop at text) in
    by (white == 0) (at + white) (omega arith) (omega (arith, gap-inside (drop at text), length-drop at text)) (title_size (drop (at + white) text)) (if-some (title_size (drop (at + white) text)) (λ n. n ≤ length (drop (at + white) text)) (title-inside (drop (at + white) text)))
  where
    by : (x : Bool) (from : ℕ) → at ≤ from → from ≤ length text → (m : Option ℕ) → IfSome m (λ n. n ≤ length (drop from text)) → IfSome (cond x None (option_map (stretch_at from) m)) (λ s. (at ≤ s.from) × (end s ≤ length text))
    by true from a b m k = tt
    by false from a b None k = tt
    by false from a b (Some n) k = (a, omega (arith, k, length-drop from text, b))

-- the line behind a part
left-within : (text : List ℕ) → IfSome (line_left text) (λ n. n ≤ length text)
left-within text = by (line_ends (drop (prefix_len is_white text) text))
  where
    by : (x : Bool) → IfSome (cond x (Some (prefix_len is_white text)) None) (λ n. n ≤ length text)
    by true = prefix_len-le-length is_white text
    by false = tt

module _ (text : List ℕ) (label destination : Stretch) (two : 2 ≤ label.size) (behind : end label + 1 ≤ destination.from) (inside : end destination ≤ length text) where
  ended-within : (title : Option Stretch) → IfSome title (λ t. (end destination ≤ t.from) × (end t ≤ length text)) → IfSome (ended text label destination title) (λ d. IsInText text d)
  ended-within title h = by (end_of title destination) refl (least title h) (most title h) (line_left (drop (end_of title destination) text)) (left-within (drop (end_of title destination) text))
    where
      least : (t : Option Stretch) → IfSome t (λ t. (end destination ≤ t.from) × (end t ≤ length text)) → end label + 1 ≤ end_of t destination
      least None h = omega (arith, behind)
      least (Some t) h = omega (arith, behind, h.0)

      most : (t : Option Stretch) → IfSome t (λ t. (end destination ≤ t.from) × (end t ≤ length text)) → end_of t destination ≤ length text
      most None h = inside
      most (Some t) h = h.1

      order : (t : Option Stretch) → IfSome t (λ t. (end destination ≤ t.from) × (end t ≤ length text)) → IfSome t (λ t. end destination ≤ t.from)
      order None h = tt
      order (Some t) h = h.0

      by : (at : ℕ) → end_of title destination ≡ at → end label + 1 ≤ at → at ≤ length text → (m : Option ℕ) → IfSome m (λ n. n ≤ length (drop at text))
          → IfSome (option_map (λ n. record { label = label; destination = destination; title = title; size = at + n }) m) (λ (d : Definition). IsInText text d)
      by at e a b None k = tt
      by at e a b (Some n) k = record { brackets = two; colon = omega (arith, a); destination = behind; title = order title h; last = omega (arith, e); size = omega (arith, b, k, length-drop at text) }

  titled-within : (title : Option Stretch) → IfSome title (λ t. (end destination ≤ t.from) × (end t ≤ length text)) → IfSome (titled_or_not text label destination title) (λ d. IsInText text d)
  titled-within title h = by (ended text label destination title) (ended-within title h)
    where
      by : (o : Option Definition) → IfSome o (λ d. IsInText text d) → IfSome (option_or o (ended text label destination None)) (λ d. IsInText text d)
      by None k = ended-within None tt
      by (Some d) k = k

-- The definition that a text begins with
pub definition-within : (text : List ℕ) → IfSome (definition_at text) (λ d. IsInText text d)
definition-within text = by (label_at text) (label-within text)
  where
    behind : (label : Stretch) → 2 ≤ label.size → (o : Option Stretch) → IfSome o (λ s. (end label + 1 ≤ s.from) × (end s ≤ length text))
        → IfSome (option_and_then (λ destination. titled_or_not text label destination (title_at text (end destination))) o) (λ d. IsInText text d)
    behind label two None h = tt
    behind label two (Some s) h = titled-within text label s two h.0 h.1 (title_at text (end s)) (title-within text (end s) h.1)

    by : (o : Option Stretch) → IfSome o (λ s. (2 ≤ s.size) × (end s < length text))
        → IfSome (option_and_then (λ label. option_and_then (λ destination. titled_or_not text label destination (title_at text (end destination))) (destination_at text (end label + 1))) o) (λ d. IsInText text d)
    by None h = tt
    by (Some s) h = behind s h.0 (destination_at text (end s + 1)) (destination-within text (end s + 1) (omega (arith, h.1)))

-- the first of the definitions with which a text begins, and those behind it
pub definitions-one : (text : List ℕ) (d : Definition) (ds : List Definition) → d ∷ ds ≡ definitions text → IsInText text d × (ds ≡ definitions (drop (d.size + 1) text))
definitions-one [] d ds e = absurd (cc)
definitions-one (b ∷ bs) d ds e = by (definition_at (b ∷ bs)) (definition-within (b ∷ bs)) e
  where
    by : (o : Option Definition) → IfSome o (λ d. IsInText (b ∷ bs) d) → d ∷ ds ≡ elim o as (λ _. List Definition) [ None ↦ [] | Some d ↦ d ∷ definitions_from d.size bs ] → IsInText (b ∷ bs) d × (ds ≡ definitions (drop (d.size + 1) (b ∷ bs)))
    by None h k = absurd (cc)
    by (Some x) h k =
        let same : d ≡ x = cc in
        let more : ds ≡ definitions_from x.size bs = cc in
        let on : x.size + 1 ≡ suc x.size = omega arith in
        subst (λ (y : Definition). IsInText (b ∷ bs) y × (ds ≡ definitions (drop (y.size + 1) (b ∷ bs)))) (sym same)
        (h, more ∙ passed x.size bs ∙ ap (λ n. definitions (drop n (b ∷ bs))) (sym on))

-- One of the definitions with which a text begins, and those behind it
pub record IsNext (text : List ℕ) (all : List Definition) (i next : ℕ) (d : Definition) : Type 0 where
  pub inside : IsInText (drop next text) d
  pub more : next < length text
  pub most : next + (d.size + 1) ≤ length text + 1
  pub is : drop i all ≡ d ∷ drop (i + 1) all
  pub left : drop (i + 1) all ≡ definitions (drop (next + (d.size + 1)) text)

pub next-definition : (text : List ℕ) (all : List Definition) (i next : ℕ) (e0 : Definition) → i < length all → drop i all ≡ definitions (drop next text) → IsNext text all i next (get_or all i e0)
next-definition text all i next e0 h e =
    let d = get_or all i e0 in
    let split : drop i all ≡ d ∷ drop (i + 1) all = drop_more all i e0 h in
    let one = definitions-one (drop next text) d (drop (i + 1) all) (sym split ∙ e) in
    let size = length-drop next text in
    record {
      inside = one.0;
      more = omega (arith, one.0.size, one.0.colon, size);
      most = omega (arith, one.0.size, one.0.colon, size);
      is = split;
      left = one.1 ∙ ap definitions (drop-drop (d.size + 1) next text);
    }

or-later : (s o r : Bool) → ((s || o) || r) ≡ (o || (s || r))
or-later true true r = refl
or-later true false r = refl
or-later false true r = refl
or-later false false r = refl

-- one label more is defined
pub defined-more : (text : List ℕ) (all : List Definition) (i next : ℕ) (d : Definition) (old new : Labels) (written : List ℕ) (x : Bool) (label : List ℕ) → IsNext text all i next d
    → written ≡ take (d.label.size - 2) (drop (d.label.from + 1) (drop next text)) → defines new label ≡ (is_same label written || defines old label)
    → (defines old label || is_one_of (labels_in (drop i all) (drop next text)) label) ≡ x → (defines new label || is_one_of (labels_in (drop (i + 1) all) (drop (next + (d.size + 1)) text)) label) ≡ x
defined-more text all i next d old new written x label n w e h =
    let rest = labels_in (drop (i + 1) all) (drop (next + (d.size + 1)) text) in
    let here = take (d.label.size - 2) (drop (d.label.from + 1) (drop next text)) in
    ap (λ b. b || is_one_of rest label) e ∙ or-later (is_same label written) (defines old label) (is_one_of rest label) ∙ ap (λ v. defines old label || (is_same label v || is_one_of rest label)) w
    ∙ ap (λ t. defines old label || is_one_of (here ∷ labels_in (drop (i + 1) all) t) label) (sym (drop-drop (d.size + 1) next text))
    ∙ ap (λ ds. defines old label || is_one_of (labels_in ds (drop next text)) label) (sym n.is) ∙ h
