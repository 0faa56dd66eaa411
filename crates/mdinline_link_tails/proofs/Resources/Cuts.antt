-- The events of a resource can be cut into innermost spans, none over a line ending but at its end: its parts stand end to end.
use Rattle.std.proofs.Common.{◌≡◌, ◌==◌, ◌+◌, ◌-◌, ◌<◌, ◌≤◌, ◌∙◌, ℕ, zero, suc, List, [], ◌∷◌, ◌++◌, Bool, true, false, cond, Option, Some, None, ap, arith, drop, inl, inr, length, refl, subst, sym, take}
use Rattle.std.proofs.lemmas.Bool.{cases_Bool, or_parts}
use Rattle.std.proofs.lemmas.Bool.Decides.{nat_tests}
use Rattle.std.proofs.lemmas.Option.{same_Some}
use Rattle.std.proofs.lemmas.List.{drop-drop, drop-map, drop-take, length-drop, length-map, length-take-le, take-append-drop, take-take}
use Rattle.std.specs.List.{between, prefix_len}
use Rattle.std.specs.Prelude.{nat_le, ◌&&◌, ◌||◌}
use Rattle.std.specs.Option.{option_and_then, option_map}
use Rattle.std.proofs.Math.Seq.{take-add}
use Rattle.markdown_base.specs.declared.event.Event.{Event}
use Rattle.markdown_base.specs.declared.event.Name.{Name}
use Rattle.markdown_base.specs.declared.event.Name.TheVariants.{Data, LineEnding, SpaceOrTab, Resource, ResourceDestination, ResourceDestinationLiteral, ResourceDestinationLiteralMarker, ResourceDestinationRaw, ResourceDestinationString, ResourceMarker, ResourceTitle, ResourceTitleMarker, ResourceTitleString}
use Rattle.markdown_base.specs.Virtual.{Seat}
use Rattle.mdconstructs_machines.specs.LineEvents.{is_line_ending}
use Rattle.mdinline_labels.specs.declared.definitions.Stretch.{Stretch}
use Rattle.mdinline_labels.specs.declared.resources.Resource.{Resource as Parts}
use Rattle.mdinline_labels.specs.Definitions.{end, end_of, stretch_at, title_at}
use Rattle.mdinline_labels.specs.Labels.{hides}
use Rattle.mdinline_labels.specs.Resources.{closed_at, resource_at, resource_with}
use Rattle.mdinline_labels.specs.Tails.{begins_with, depth_behind, destination_size, enclosed_size, ends_raw, gap, is_plain, is_raw_end, is_white, marked_size, one_more, raw_end, raw_size, title_end, title_size}
use Rattle.mdinline_labels.proofs.Sizes.{marked-within}
use Rattle.mdinline_constructs.proofs.HtmlTexts.Pieces.{is_no_line_feed, piece-positive}
use Rattle.mdinline_constructs.specs.HtmlText.{data_run, line_break, piece_at, piece_length}
use Rattle.mdinline_text_machine.proofs.DeepSpans.Atoms.{IsCut, OneLine, cut-append, cut-leaf, cut-span}
use Rattle.mdinline_text_machine.proofs.DeepSpans.Stretches.{NoEnding, cuts, one-taken, plain-line, run-plain, three-cut}
use Rattle.mdinline_text_machine.specs.Construct.{Found}
use Rattle.mdinline_text_machine.specs.Parts.{bytes_of, leaf, span}
use Rattle.mdinline_link_tails.specs.Resource.{behind_destination, destination_events, destination_string, gap_events, in_marks, in_resource, line_events, resource, resource_grammar, string_events, title_events, title_string, unmarked}

-- ---- stretches of a list

-- two stretches end to end
stretches : {A : Type 0} (a b c : ℕ) (l : List A) → a ≤ b → b ≤ c → between a b l ++ between b c l ≡ between a c l
stretches a b c l less more =
    let from : b ≡ a + (b - a) = omega (arith, less) in
    let whole : (b - a) + (c - b) ≡ c - a = omega (arith, less, more) in
    ap (λ k. take (b - a) (drop a l) ++ take (c - b) k) (ap (λ n. drop n l) from ∙ sym (drop-drop (b - a) a l)) ∙ sym (take-add (b - a) (c - b) (drop a l)) ∙ ap (λ n. take n (drop a l)) whole

-- a stretch of the front
region : {A : Type 0} (size a g : ℕ) (l : List A) → a + g ≤ size → between a (a + g) (take size l) ≡ take g (drop a l)
region size a g l less =
    let long : a + g - a ≡ g = omega arith in
    let parts : size ≡ a + (size - a) = omega (arith, less) in
    (λ i. take (long i) (drop a (take (parts i) l))) ∙ ap (take g) (drop-take a (size - a) l) ∙ take-take g (size - a) (drop a l) (omega (arith, less))

-- a byte is in one line
pub short-line : (l : List Seat) → length l ≤ 1 → OneLine l
short-line [] h = tt
short-line (s ∷ []) h = tt
short-line (s ∷ r ∷ rs) h = absurd (omega (arith, h))

-- ---- sizes

more-is : (o : Option ℕ) (n : ℕ) → one_more o ≡ Some n → (m : ℕ) × (o ≡ Some m) × (n ≡ m + 1)
more-is None n h = absurd (cc)
more-is (Some m) n h = (m, refl, (let same : m + 1 ≡ n = cc in sym same))

-- no line ending is in so many virtual bytes, and so many are there
abbrev PlainWithin : ℕ → List Seat → Type 0
PlainWithin n l = NoEnding (take n l) × (n ≤ length l)

plain-more : (s : Seat) (ss : List Seat) (n m : ℕ) → n ≡ m + 1 → is_line_ending s ≡ false → PlainWithin m ss → PlainWithin n (s ∷ ss)
plain-more s ss n m same other h =
    let one : suc m ≡ n = omega (arith, same) in
    subst (λ k. PlainWithin k (s ∷ ss)) one ((other, h.0), omega (arith, h.1))

enclosed-plain : (hidden : Bool) (l : List Seat) (n : ℕ) → enclosed_size hidden (bytes_of l) ≡ Some n → PlainWithin n l × (n < length l)
enclosed-plain hidden [] n h = absurd (cc)
enclosed-plain hidden (s ∷ ss) n h =
    let b = s.byte in
    let more = one_more (enclosed_size (hides hidden b) (bytes_of ss)) in
    elim (is_plain 62 hidden b) as (λ t. cond t (Some 0) (cond (is_plain 60 hidden b || (b == 10)) None more) ≡ Some n → PlainWithin n (s ∷ ss) × (n < length (s ∷ ss))) [
      | true ↦ λ e. (let none : 0 ≡ n = cc in subst (λ k. PlainWithin k (s ∷ ss) × (k < length (s ∷ ss))) none ((tt, omega arith), omega arith))
      | false ↦ elim (is_plain 60 hidden b || (b == 10)) as (λ t. (is_plain 60 hidden b || (b == 10)) ≡ t → cond t None more ≡ Some n → PlainWithin n (s ∷ ss) × (n < length (s ∷ ss))) [
        | true ↦ λ k e. absurd (cc)
        | false ↦ λ k e.
            let m = more-is (enclosed_size (hides hidden b) (bytes_of ss)) n e in
            let rest = enclosed-plain (hides hidden b) ss m.0 m.1 in
            (plain-more s ss n m.0 m.2 (or_parts (is_plain 60 hidden b) (b == 10) k).1 rest.0, (let less = rest.1 in let same = m.2 in omega (arith, less, same)))
      ] refl
    ] h

-- a byte that ends no destination without marks is no line feed
raw-other : (b : ℕ) → ends_raw b ≡ false → (b == 10) ≡ false
raw-other b h = grind (arith, nat_tests, h)

raw-plain : (depth : ℕ) (hidden : Bool) (l : List Seat) (n : ℕ) → raw_size depth hidden (bytes_of l) ≡ Some n → PlainWithin n l
raw-plain depth hidden [] n h =
    elim (depth == 0) as (λ t. cond t (Some 0) None ≡ Some n → PlainWithin n []) [
      | true ↦ λ e. (let none : 0 ≡ n = cc in subst (λ k. PlainWithin k []) none (tt, omega arith))
      | false ↦ λ e. absurd (cc)
    ] h
raw-plain depth hidden (s ∷ ss) n h =
    let b = s.byte in
    let more = one_more (raw_size (depth_behind depth hidden b) (hides hidden b) (bytes_of ss)) in
    let later = cond (is_plain 40 hidden b && nat_le 32 depth) None more in
    elim (is_raw_end depth hidden b) as (λ t. is_raw_end depth hidden b ≡ t → cond t (raw_end depth) later ≡ Some n → PlainWithin n (s ∷ ss)) [
      | true ↦ λ k. elim (depth == 0) as (λ t. cond t (Some 0) None ≡ Some n → PlainWithin n (s ∷ ss)) [
        | true ↦ λ e. (let none : 0 ≡ n = cc in subst (λ k. PlainWithin k (s ∷ ss)) none (tt, omega arith))
        | false ↦ λ e. absurd (cc)
      ]
      | false ↦ λ k. elim (is_plain 40 hidden b && nat_le 32 depth) as (λ t. cond t None more ≡ Some n → PlainWithin n (s ∷ ss)) [
        | true ↦ λ e. absurd (cc)
        | false ↦ λ e.
            let m = more-is (raw_size (depth_behind depth hidden b) (hides hidden b) (bytes_of ss)) n e in
            plain-more s ss n m.0 m.2 (raw-other b (or_parts (ends_raw b) (is_plain 41 hidden b && (depth == 0)) k).0) (raw-plain (depth_behind depth hidden b) (hides hidden b) ss m.0 m.1)
      ]
    ] refl h

-- ---- white space

abbrev gap_by : ℕ → List ℕ → ℕ
gap_by n bs = cond (begins_with 10 (drop n bs)) (n + 1 + prefix_len is_white (drop (n + 1) bs)) n

gap-white : (b : ℕ) (bs : List ℕ) → is_white b ≡ true → gap (b ∷ bs) ≡ suc (gap bs)
gap-white b bs is =
    let n = prefix_len is_white bs in
    let behind = prefix_len is_white (drop (n + 1) bs) in
    let one : 1 + n ≡ suc n = omega arith in
    let two : suc n + 1 ≡ suc (n + 1) = omega arith in
    ap (λ t. gap_by (cond t (1 + n) 0) (b ∷ bs)) is ∙ ap (λ k. gap_by k (b ∷ bs)) one
    ∙ ap (λ k. cond (begins_with 10 (drop n bs)) (suc n + 1 + prefix_len is_white (drop k (b ∷ bs))) (suc n)) two
    ∙ (elim (begins_with 10 (drop n bs)) as (λ t. cond t (suc n + 1 + behind) (suc n) ≡ suc (cond t (n + 1 + behind) n)) [ true ↦ omega arith | false ↦ refl ])

gap-other : (b : ℕ) (bs : List ℕ) → is_white b ≡ false → gap (b ∷ bs) ≡ cond (b == 10) (suc (prefix_len is_white bs)) 0
gap-other b bs other =
    let one : 1 + prefix_len is_white bs ≡ suc (prefix_len is_white bs) = omega arith in
    ap (λ t. gap_by (cond t (1 + prefix_len is_white bs) 0) (b ∷ bs)) other ∙ ap (λ k. cond (b == 10) k 0) one

-- what is behind the white space at the front of a gap, and maybe a line ending
abbrev behind_break : List Seat → List Seat
behind_break g = drop 1 (drop (prefix_len is_white (bytes_of g)) g)

gap-plain : (l : List Seat) → NoEnding (behind_break (take (gap (bytes_of l)) l))
gap-plain [] = tt
gap-plain (s ∷ ss) = elim (cases_Bool (is_white s.byte)) [
  | inl is ↦
      let n = gap (bytes_of ss) in
      let k = prefix_len is_white (bytes_of (take n ss)) in
      let one : suc k ≡ 1 + k = omega arith in
      subst (λ m. NoEnding (behind_break (take m (s ∷ ss)))) (sym (gap-white s.byte (bytes_of ss) is))
      (subst (λ t. NoEnding (drop 1 (drop (cond t (1 + k) 0) (s ∷ take n ss)))) (sym is) (subst (λ m. NoEnding (drop 1 (drop m (s ∷ take n ss)))) one (gap-plain ss)))
  | inr other ↦
      let n = prefix_len is_white (bytes_of ss) in
      let k = prefix_len is_white (bytes_of (take n ss)) in
      subst (λ m. NoEnding (behind_break (take m (s ∷ ss)))) (sym (gap-other s.byte (bytes_of ss) other)) (elim (s.byte == 10) as (λ t. NoEnding (behind_break (take (cond t (suc n) 0) (s ∷ ss)))) [
        | true ↦ subst (λ t. NoEnding (drop 1 (drop (cond t (1 + k) 0) (s ∷ take n ss)))) (sym other) (run-plain is_white refl ss)
        | false ↦ tt
      ])
]

module _ (bytes : List ℕ) where
  gap-cut : (l : List Seat) → let g = take (gap (bytes_of l)) l in IsCut bytes (gap_events bytes g) g
  gap-cut l =
      let g = take (gap (bytes_of l)) l in
      let n = prefix_len is_white (bytes_of g) in
      let rest = drop n g in
      let behind = subst (IsCut bytes (leaf bytes LineEnding (take 1 rest) ++ leaf bytes SpaceOrTab (drop 1 rest))) (take-append-drop 1 rest)
      (cut-append bytes (cut-leaf bytes LineEnding (take 1 rest) (one-taken rest)) (cut-leaf bytes SpaceOrTab (drop 1 rest) (plain-line (drop 1 rest) (gap-plain l)))) in
      subst (IsCut bytes (gap_events bytes g)) (take-append-drop n g) (cut-append bytes (cut-leaf bytes SpaceOrTab (take n g) (plain-line (take n g) (run-plain is_white refl g))) behind)

  -- ---- spans with marks

  marks-cut : {es : List Event} (name mark : Name) (n : ℕ) (l : List Seat) → length l ≡ n + 2 → IsCut bytes es (between 1 (1 + n) l) → IsCut bytes (in_marks bytes name mark es l) l
  marks-cut {es} name mark n l long inside =
      let last : 1 + n ≡ length l - 1 = omega (arith, long) in
      let left = length-drop (1 + n) l in
      subst (λ k. IsCut bytes (span bytes name l (leaf bytes mark (take 1 l) ++ (es ++ leaf bytes mark (drop k l)))) l) last
      (three-cut bytes name 1 n l (cut-leaf bytes mark (take 1 l) (one-taken l)) inside (cut-leaf bytes mark (drop (1 + n) l) (short-line (drop (1 + n) l) (omega (arith, left, long)))))

  -- ---- destinations and titles

  line-cut : (s : Seat) (ss : List Seat) → let a = piece_at (bytes_of (s ∷ ss)) in IsCut bytes (line_events bytes (a, take (piece_length a) (s ∷ ss))) (take (piece_length a) (s ∷ ss))
  line-cut s ss =
      let text = bytes_of (s ∷ ss) in
      elim (s.byte == 10) as (λ t. let a = cond t (line_break (prefix_len is_white (bytes_of ss))) (data_run (prefix_len is_no_line_feed text)) in
      IsCut bytes (line_events bytes (a, take (piece_length a) (s ∷ ss))) (take (piece_length a) (s ∷ ss))) [
        | true ↦
            let n = prefix_len is_white (bytes_of ss) in
            let l = take (1 + n) (s ∷ ss) in
            let white : NoEnding (drop 1 l) = subst NoEnding (sym (drop-take 1 n (s ∷ ss))) (run-plain is_white refl ss) in
            subst (IsCut bytes (line_events bytes (line_break n, l))) (take-append-drop 1 l)
            (cut-append bytes (cut-leaf bytes LineEnding (take 1 l) (one-taken l)) (cut-leaf bytes SpaceOrTab (drop 1 l) (plain-line (drop 1 l) white)))
        | false ↦
            let l = take (prefix_len is_no_line_feed text) (s ∷ ss) in
            cut-leaf bytes Data l (plain-line l (run-plain is_no_line_feed refl (s ∷ ss)))
      ]

  -- a string, line by line
  pub string-cut : (l : List Seat) → IsCut bytes (string_events bytes l) l
  string-cut l = cuts bytes piece_at piece_length (line_events bytes) piece-positive line-cut (length l) l (omega arith)

  title-cut : (l : List Seat) (k : ℕ) → title_size (bytes_of l) ≡ Some k → IsCut bytes (title_events bytes (take k l)) (take k l) × (k ≤ length l)
  title-cut [] k h = absurd (cc)
  title-cut (s ∷ ss) k h = by (title_end s.byte) refl h
    where
      made : (n : ℕ) → k ≡ n + 2 → n < length (bytes_of ss) → IsCut bytes (title_events bytes (take k (s ∷ ss))) (take k (s ∷ ss)) × (k ≤ length (s ∷ ss))
      made n same less =
          let l = take k (s ∷ ss) in
          let many = length-map ss (λ (x : Seat). x.byte) in
          let fits : k ≤ length (s ∷ ss) = omega (arith, same, less, many) in
          let long = length-take-le k (s ∷ ss) fits in
          let last : 1 + n ≡ length l - 1 = omega (arith, long, same) in (
            marks-cut ResourceTitle ResourceTitleMarker n l (long ∙ same)
                (subst (λ m. IsCut bytes (title_string bytes (between 1 m l)) (between 1 (1 + n) l)) last (cut-span bytes ResourceTitleString (between 1 (1 + n) l) (string_events bytes (between 1 (1 + n) l)) (string-cut (between 1 (1 + n) l)))),
            fits,
          )

      sized : (close : ℕ) (o : Option ℕ) → marked_size s.byte close false false (bytes_of ss) ≡ o → option_map (λ n. n + 2) o ≡ Some k → IsCut bytes (title_events bytes (take k (s ∷ ss))) (take k (s ∷ ss)) × (k ≤ length (s ∷ ss))
      sized close None is e = absurd (cc)
      sized close (Some n) is e = made n (let same : n + 2 ≡ k = cc in sym same) (marked-within s.byte close false false (bytes_of ss) n is)

      by : (o : Option ℕ) → title_end s.byte ≡ o → option_and_then (λ close. option_map (λ n. n + 2) (marked_size s.byte close false false (bytes_of ss))) o ≡ Some k → IsCut bytes (title_events bytes (take k (s ∷ ss))) (take k (s ∷ ss)) × (k ≤ length (s ∷ ss))
      by None is e = absurd (cc)
      by (Some close) is e = sized close (marked_size s.byte close false false (bytes_of ss)) refl e

  abbrev Destination : List Seat → ℕ → Type 0
  Destination l k = IsCut bytes (destination_events bytes (take k l)) (take k l) × (k ≤ length l)

  -- a destination with its marks
  enclosed-cut : (s : Seat) (ss : List Seat) (n k : ℕ) → begins_with 60 (bytes_of (s ∷ ss)) ≡ true → k ≡ n + 2 → PlainWithin n ss → n < length ss → Destination (s ∷ ss) k
  enclosed-cut s ss n k marked same plain less =
      let l = take k (s ∷ ss) in
      let fits : k ≤ length (s ∷ ss) = omega (arith, same, less) in
      let long = length-take-le k (s ∷ ss) fits in
      let last : 1 + n ≡ length l - 1 = omega (arith, long, same) in
      let all : 1 + n ≤ k = omega (arith, same) in
      let inside = between 1 (1 + n) l in
      let is : inside ≡ take n ss = region k 1 n (s ∷ ss) all in
      let line = plain-line inside (subst NoEnding (sym is) plain.0) in
      let string = cut-span bytes ResourceDestinationString inside (leaf bytes Data inside) (cut-leaf bytes Data inside line) in
      let literal = marks-cut ResourceDestinationLiteral ResourceDestinationLiteralMarker n l (long ∙ same) (subst (λ m. IsCut bytes (destination_string bytes (between 1 m l)) inside) last string) in
      let one : k ≡ suc (k - 1) = omega (arith, same) in
      let begins : begins_with 60 (bytes_of l) ≡ true = ap (λ m. begins_with 60 (bytes_of (take m (s ∷ ss)))) one ∙ marked in (
        cut-span bytes ResourceDestination l _ (subst (λ t. IsCut bytes (cond t (in_marks bytes ResourceDestinationLiteral ResourceDestinationLiteralMarker (destination_string bytes (unmarked bytes l)) l) (span bytes ResourceDestinationRaw l (destination_string bytes l))) l) (sym begins) literal),
        fits,
      )

  -- and one without
  raw-cut : (l : List Seat) (k : ℕ) → begins_with 60 (bytes_of l) ≡ false → 0 < k → PlainWithin k l → Destination l k
  raw-cut [] k other some plain = absurd (let few = plain.1 in omega (arith, some, few))
  raw-cut (s ∷ ss) k other some plain =
      let l = take k (s ∷ ss) in
      let string = cut-span bytes ResourceDestinationString l (leaf bytes Data l) (cut-leaf bytes Data l (plain-line l plain.0)) in
      let raw = cut-span bytes ResourceDestinationRaw l (destination_string bytes l) string in
      let one : k ≡ suc (k - 1) = omega (arith, some) in
      let begins : begins_with 60 (bytes_of l) ≡ false = ap (λ m. begins_with 60 (bytes_of (take m (s ∷ ss)))) one ∙ other in (
        cut-span bytes ResourceDestination l _ (subst (λ t. IsCut bytes (cond t (in_marks bytes ResourceDestinationLiteral ResourceDestinationLiteralMarker (destination_string bytes (unmarked bytes l)) l) (span bytes ResourceDestinationRaw l (destination_string bytes l))) l) (sym begins) raw),
        plain.1,
      )

  marked-destination : (l : List Seat) (k : ℕ) → begins_with 60 (bytes_of l) ≡ true → option_map (λ n. n + 2) (enclosed_size false (drop 1 (bytes_of l))) ≡ Some k → Destination l k
  marked-destination [] k is h = absurd (cc)
  marked-destination (s ∷ ss) k is h = by (enclosed_size false (bytes_of ss)) refl h
    where
      by : (o : Option ℕ) → enclosed_size false (bytes_of ss) ≡ o → option_map (λ n. n + 2) o ≡ Some k → Destination (s ∷ ss) k
      by None same e = absurd (cc)
      by (Some n) same e = let plain = enclosed-plain false ss n same in enclosed-cut s ss n k is (let k_is : n + 2 ≡ k = cc in sym k_is) plain.0 plain.1

  raw-destination : (l : List Seat) (k : ℕ) → begins_with 60 (bytes_of l) ≡ false → option_and_then (λ n. cond (n == 0) None (Some n)) (raw_size 0 false (bytes_of l)) ≡ Some k → Destination l k
  raw-destination l k other h = by (raw_size 0 false (bytes_of l)) refl h
    where
      some : (n : ℕ) → cond (n == 0) None (Some n) ≡ Some k → (n ≡ k) × (0 < n)
      some zero e = absurd (cc)
      some (suc n) e =
          let other : (suc n == 0) ≡ false = grind (arith, nat_tests) in
          let same : Some (suc n) ≡ Some k = sym (ap (λ t. cond t None (Some (suc n))) other) ∙ e in
          (same_Some (suc n) k same, omega arith)

      by : (o : Option ℕ) → raw_size 0 false (bytes_of l) ≡ o → option_and_then (λ n. cond (n == 0) None (Some n)) o ≡ Some k → Destination l k
      by None same e = absurd (cc)
      by (Some n) same e = let is = some n e in subst (Destination l) is.0 (raw-cut l n other is.1 (raw-plain 0 false l n same))

  destination-cut : (l : List Seat) (k : ℕ) → destination_size (bytes_of l) ≡ Some k → Destination l k
  destination-cut l k h = elim (cases_Bool (begins_with 60 (bytes_of l))) [
    | inl is ↦ marked-destination l k is (sym (ap (λ t. cond t (option_map (λ n. n + 2) (enclosed_size false (drop 1 (bytes_of l)))) (option_and_then (λ n. cond (n == 0) None (Some n)) (raw_size 0 false (bytes_of l)))) is) ∙ h)
    | inr other ↦ raw-destination l k other (sym (ap (λ t. cond t (option_map (λ n. n + 2) (enclosed_size false (drop 1 (bytes_of l)))) (option_and_then (λ n. cond (n == 0) None (Some n)) (raw_size 0 false (bytes_of l)))) other) ∙ h)
  ]

  -- ---- the whole resource

  -- one stretch behind another
  both-cut : {xs ys : List Event} (a b c : ℕ) (l : List Seat) → a ≤ b → b ≤ c → IsCut bytes xs (between a b l) → IsCut bytes ys (between b c l) → IsCut bytes (xs ++ ys) (between a c l)
  both-cut {xs} {ys} a b c l less more h k = subst (IsCut bytes (xs ++ ys)) (stretches a b c l less more) (cut-append bytes h k)

  module _ (all : List Seat) (size : ℕ) where
    abbrev text : List ℕ
    text = bytes_of all

    abbrev l : List Seat
    l = take size all

    bytes-behind : (a : ℕ) → bytes_of (drop a all) ≡ drop a text
    bytes-behind a = sym (drop-map (λ (s : Seat). s.byte) a all)

    gap-at : (a : ℕ) → a + gap (drop a text) ≤ size → IsCut bytes (gap_events bytes (between a (a + gap (drop a text)) l)) (between a (a + gap (drop a text)) l)
    gap-at a less =
        subst (λ r. IsCut bytes (gap_events bytes r) r) (sym (region size a (gap (drop a text)) all less))
        (subst (λ bs. IsCut bytes (gap_events bytes (take (gap bs) (drop a all))) (take (gap bs) (drop a all))) (bytes-behind a) (gap-cut (drop a all)))

    destination-at : (a k : ℕ) → a + k ≤ size → destination_size (drop a text) ≡ Some k → IsCut bytes (destination_events bytes (between a (a + k) l)) (between a (a + k) l)
    destination-at a k less is =
        subst (λ r. IsCut bytes (destination_events bytes r) r) (sym (region size a k all less)) (destination-cut (drop a all) k (ap destination_size (bytes-behind a) ∙ is)).0

    title-from : (a k : ℕ) → a + k ≤ size → title_size (drop a text) ≡ Some k → IsCut bytes (title_events bytes (between a (a + k) l)) (between a (a + k) l)
    title-from a k less is = subst (λ r. IsCut bytes (title_events bytes r) r) (sym (region size a k all less)) (title-cut (drop a all) k (ap title_size (bytes-behind a) ∙ is)).0

    -- a title stands behind white space
    abbrev TitleIs : ℕ → Option Stretch → Type 0
    TitleIs at None = Unit {0}
    TitleIs at (Some t) = (t.from ≡ at + gap (drop at text)) × (title_size (drop t.from text) ≡ Some t.size)

    title-is : (at : ℕ) → TitleIs at (title_at text at)
    title-is at =
        let white = gap (drop at text) in
        let o = title_size (drop (at + white) text) in
        elim (white == 0) as (λ t. TitleIs at (cond t None (option_map (stretch_at (at + white)) o))) [
          | true ↦ tt
          | false ↦ elim o as (λ k. o ≡ k → TitleIs at (option_map (stretch_at (at + white)) k)) [ None ↦ λ e. tt | Some k ↦ λ e. (refl, e) ] refl
        ]

    -- what is behind a destination
    behind-cut : (at close : ℕ) (before : Stretch) (title : Option Stretch) → at ≡ end before → close + 1 ≡ size → TitleIs at title → let from = end_of title before in close ≡ from + gap (drop from text)
        → IsCut bytes (behind_destination bytes title at close l) (between at close l) × (at ≤ close)
    behind-cut at close before None is last title end_is =
        let same : close ≡ at + gap (drop at text) = end_is ∙ ap (λ n. n + gap (drop n text)) (sym is) in (
          subst (λ c. IsCut bytes (gap_events bytes (between at c l)) (between at c l)) (sym same) (gap-at at (omega (arith, same, last))),
          omega (arith, same),
        )
    behind-cut at close before (Some t) is last title end_is =
        let white = gap (drop at text) in
        let from = title.0 in
        let first = subst (λ n. IsCut bytes (gap_events bytes (between at n l)) (between at n l)) (sym from) (gap-at at (omega (arith, from, end_is, last))) in
        let middle = title-from t.from t.size (omega (arith, end_is, last)) title.1 in
        let rest = subst (λ c. IsCut bytes (gap_events bytes (between (end t) c l)) (between (end t) c l)) (sym end_is) (gap-at (end t) (omega (arith, end_is, last))) in (
          both-cut at t.from close l (omega (arith, from)) (omega (arith, end_is)) first (both-cut t.from (end t) close l (omega arith) (omega (arith, end_is)) middle rest),
          omega (arith, from, end_is),
        )

    -- what is in the parentheses of a resource with these parts
    abbrev Inside : Parts → Type 0
    Inside r = (r.size ≡ size) → IsCut bytes (in_resource bytes r.destination r.title (r.size - 1) l) (between 1 (r.size - 1) l) × (2 ≤ r.size)

    closed-cut : (destination title : Option Stretch) (close : ℕ) (r : Parts) → closed_at text destination title close ≡ Some r
        → ((close + 1 ≡ size) → IsCut bytes (in_resource bytes destination title close l) (between 1 close l) × (1 ≤ close)) → Inside r
    closed-cut destination title close r e inside =
        elim (begins_with 41 (drop close text)) as (λ t. cond t (Some (record { destination = destination; title = title; size = close + 1 })) None ≡ Some r → Inside r) [
          | true ↦ λ e.
              let same : record { destination = destination; title = title; size = close + 1 } ≡ r = cc in
              let less : close ≡ close + 1 - 1 = omega arith in
              subst Inside same (λ is.
              let h = inside is in
              let some = h.1 in
              (subst (λ n. IsCut bytes (in_resource bytes destination title n l) (between 1 n l)) less h.0, omega (arith, some)))
          | false ↦ λ e. absurd (cc)
        ] e

    with-cut : (from : ℕ) (o : Option ℕ) (r : Parts) → from ≡ 1 + gap (drop 1 text) → destination_size (drop from text) ≡ o → resource_with text from o ≡ Some r → Inside r
    with-cut from None r is size_is e = closed-cut None None from r e (λ last. (
      subst (λ n. IsCut bytes (gap_events bytes (between 1 n l)) (between 1 n l)) (sym is) (gap-at 1 (omega (arith, is, last))),
      omega (arith, is),
    ))
    with-cut from (Some k) r is size_is e =
        let d = stretch_at from k in
        let title = title_at text (from + k) in
        let at = end_of title d in
        let close = at + gap (drop at text) in
        closed-cut (Some d) title close r e (λ last.
        let behind = behind-cut (from + k) close d title refl last (title-is (from + k)) refl in
        let upto = behind.1 in
        let first = subst (λ n. IsCut bytes (gap_events bytes (between 1 n l)) (between 1 n l)) (sym is) (gap-at 1 (omega (arith, is, upto, last))) in
        let middle = destination-at from k (omega (arith, upto, last)) size_is in (
          both-cut 1 from close l (omega (arith, is)) (omega (arith, upto)) first (both-cut from (from + k) close l (omega arith) upto middle behind.0),
          omega (arith, is, upto),
        ))

    inside-cut : (r : Parts) → resource_at text ≡ Some r → Inside r
    inside-cut r e =
        let from = 1 + gap (drop 1 text) in
        elim (begins_with 40 text) as (λ t. cond t (resource_with text from (destination_size (drop from text))) None ≡ Some r → Inside r) [
          | true ↦ λ e. with-cut from (destination_size (drop from text)) r refl refl e
          | false ↦ λ e. absurd (cc)
        ] e

  -- a resource is at the front of virtual bytes: its events can be cut, and so many bytes are there
  pub resource-cut : (l : List Seat) (tail : Found) → tail.size ≤ length l → resource_grammar.front (bytes_of l) ≡ Some tail → IsCut bytes (tail.events bytes (take tail.size l)) (take tail.size l)
  resource-cut l tail fits is = by (resource_at (bytes_of l)) refl is
    where
      by : (o : Option Parts) → resource_at (bytes_of l) ≡ o → option_map resource o ≡ Some tail → IsCut bytes (tail.events bytes (take tail.size l)) (take tail.size l)
      by None same e = absurd (cc)
      by (Some r) same e =
          let tail_is : resource r ≡ tail = cc in
          let fits' : r.size ≤ length l = subst (λ (t : Found). t.size ≤ length l) (sym tail_is) fits in
          let all = take r.size l in
          let long = length-take-le r.size l fits' in
          let inside = inside-cut l r.size r same refl in
          let two = inside.1 in
          let last : r.size - 1 ≡ 1 + (r.size - 2) = omega (arith, two) in
          subst (λ (t : Found). IsCut bytes (t.events bytes (take t.size l)) (take t.size l)) tail_is
          (marks-cut Resource ResourceMarker (r.size - 2) all (omega (arith, long, two)) (subst (λ n. IsCut bytes (in_resource bytes r.destination r.title (r.size - 1) all) (between 1 n all)) last inside.0))
