-- Each definition of a document has a label with text: so it has virtual bytes, and in it a string is entered before any data.
use Rattle.mddocument_rules.proofs.Prelude.{◌≡◌, ◌∙◌, ℕ, suc, ◌+◌, ◌-◌, Bool, true, false, cond, List, [], ◌∷◌, ◌++◌, None, Option, Some, ap, arith, drop, flat_map, length, refl, subst, sym, take, and_parts, false≢true, AllByRecursion, every-append, option_and_then, option_map, nat_le, ◌&&◌, not, Event, Enter, Exit, Name, Seat, end_after, same_name, event, Definition, Mark, leaf_marks, span_marks, white, Part, Inside, Section, defined, all_rows}
use Rattle.std.proofs.lemmas.Bool.{or_left}
use Rattle.std.proofs.lemmas.Grind.{flat_map-append}
use Rattle.std.proofs.lemmas.List.{drop-drop, drop-map, drop-take, length-drop, length-map, length-take-le, map-append, take-append-drop, take-map, take-take}
use Rattle.std.proofs.lemmas.Option.{cond_some, none-some, option_and_then_some, same_Some}
use Rattle.std.specs.List.{prefix_len}
use Rattle.std.specs.Option.{option_or}
use Rattle.std.specs.Prelude.{◌≤◌}
use Rattle.markdown_base.proofs.Common.{every-drop, every-take}
use Rattle.markdown_base.specs.declared.event.Name.TheVariants as name
use Rattle.mdinline_labels.specs.declared.definitions.Stretch.{Stretch}
use Rattle.mdinline_labels.specs.Definitions.{definition_at, definitions, definitions_from, destination_at, end, end_of, ended, label_at, line_left, stretch_at, title_at, titled_or_not}
use Rattle.mdinline_labels.specs.Labels.{characters, has_no_bracket, is_filled, is_label}
use Rattle.mdinline_labels.specs.Tails.{begins_with, is_white, label_size}
use Rattle.mdinline_link_strings.specs.Strings.{is_string}
use Rattle.mdblock_definitions.proofs.DefinitionLines.{text-is}
use Rattle.mdblock_definitions.proofs.DefinitionsWithin.{definitions-one}
use Rattle.mdblock_definitions.proofs.MarksText.{marked-end}
use Rattle.mdblock_definitions.proofs.StringEnds.{text-before}
use Rattle.mdblock_definitions.specs.Definitions.{Place, all_seats, before_prefixes, between, byte_at, destination_marks, ending_at, ending_marks, gap_marks, is_byte, last_prefixes, leaf, line_marks, marked, parts_marks, places_in, places_of, seats_of, span, string_lines, text_byte, text_of}
use Rattle.mdblock_definitions.specs.Labelled.{IsInText}
use Rattle.mdblock_definitions.specs.Sectioned.{AreSound, IsSound}
use Rattle.mddocument_rules.proofs.HeldSections.{AreSpoken, HasSeat, IsSpoken, IsTold, bare}
use Rattle.mddocument_rules.proofs.HeldStrings.{AreOutside, IsOutside, is_quiet, quiet-behind, quiet-more}

-- what is behind the label
abbrev pub behind_label : (bytes : List ℕ) (q : Definition) (ps : List Place) → List Mark
behind_label bytes q ps =
    leaf bytes name.DefinitionMarker (between (end q.label) (end q.label + 1) ps)
    ++ (gap_marks bytes (between (end q.label + 1) q.destination.from ps)
    ++ (destination_marks bytes (places_of q.destination ps)
    ++ (elim q.title as (λ _. List Mark) [
      | None ↦ []
      | Some t ↦
          gap_marks bytes (between (end q.destination) t.from ps)
          ++ span bytes name.DefinitionTitle (places_of t ps) (marked bytes name.DefinitionTitleMarker name.DefinitionTitleString (places_of t ps))
    ]
    ++ gap_marks bytes (between (end_of q.title q.destination) q.size ps))))

-- ---- the label of a definition, by the text that this begins
pub record LabelIs (x : List ℕ) (s : Stretch) : Type 0 where
  pub from_is : s.from ≡ prefix_len is_white x
  pub label : is_label (take (s.size - 2) (drop (s.from + 1) x)) ≡ true
  pub close : begins_with 93 (drop (s.size - 2) (drop (s.from + 1) x)) ≡ true

module _ (x : List ℕ) where
  label-is : (s : Stretch) → label_at x ≡ Some s → LabelIs x s
  label-is s e = by (begins_with 91 (drop from x)) (label_size (drop (from + 1) x)) refl e
    where
      from : ℕ
      from = prefix_len is_white x

      by : (b : Bool) (o : Option ℕ) → label_size (drop (from + 1) x) ≡ o
          → cond b (option_and_then (λ n. cond (is_label (take n (drop (from + 1) x)) && begins_with 58 (drop (from + n + 2) x)) (Some (stretch_at from (n + 2))) None) o) None ≡ Some s → LabelIs x s
      by false o is e = absurd (none-some s e)
      by true None is e = absurd (none-some s e)
      by true (Some n) is e =
          let is_it = is_label (take n (drop (from + 1) x)) in
          let found = cond_some (is_it && begins_with 58 (drop (from + n + 2) x)) (stretch_at from (n + 2)) s e in
          let both = and_parts is_it (begins_with 58 (drop (from + n + 2) x)) found.0 in
          let size : n + 2 - 2 ≡ n = omega arith in
          subst (LabelIs x) found.1 (record {
            from_is = refl;
            label = ap (λ k. is_label (take k (drop (from + 1) x))) size ∙ both.0;
            close = ap (λ k. begins_with 93 (drop k (drop (from + 1) x))) size ∙ marked-end 91 93 false false (drop (from + 1) x) n is;
          })

  ended-label : (l de : Stretch) (t : Option Stretch) (d : Definition) → ended x l de t ≡ Some d → l ≡ d.label
  ended-label l de t d e = by (line_left (drop (end_of t de) x)) e
    where
      by : (o : Option ℕ) → option_map {T = ℕ} {U = Definition} (λ n. record { label = l; destination = de; title = t; size = end_of t de + n }) o ≡ Some d → l ≡ d.label
      by None e = absurd (none-some d e)
      by (Some n) e = ap (λ (y : Definition). y.label) (same_Some (record { label = l; destination = de; title = t; size = end_of t de + n }) d e)

  either-label : (l de : Stretch) (t : Option Stretch) (d : Definition) → titled_or_not x l de t ≡ Some d → l ≡ d.label
  either-label l de t d e = by (ended x l de t) refl e
    where
      by : (o : Option Definition) → ended x l de t ≡ o → option_or o (ended x l de None) ≡ Some d → l ≡ d.label
      by None same e = ended-label l de None d e
      by (Some c) same e = ended-label l de t d (same ∙ e)

  label-first : (d : Definition) → definition_at x ≡ Some d → label_at x ≡ Some d.label
  label-first d e =
      option_and_then_some (λ label. option_and_then (λ destination. titled_or_not x label destination (title_at x (end destination))) (destination_at x (end label + 1))) (label_at x) d e
      (λ l is-l more.
      option_and_then_some (λ destination. titled_or_not x l destination (title_at x (end destination))) (destination_at x (end l + 1)) d more
      (λ de is-de last. is-l ∙ ap (λ (y : Stretch). Some y) (either-label l de (title_at x (end de)) d last)))

-- A definition that is in its text, with its label
pub record IsLabelled (x : List ℕ) (d : Definition) : Type 0 where
  pub inside : IsInText x d
  pub label : LabelIs x d.label

first-is : (x : List ℕ) (d : Definition) (ds : List Definition) → d ∷ ds ≡ definitions x → definition_at x ≡ Some d
first-is [] d ds e = absurd (cc)
first-is (b ∷ bs) d ds e = by (definition_at (b ∷ bs)) e
  where
    by : (o : Option Definition) → d ∷ ds ≡ elim o as (λ _. List Definition) [ None ↦ [] | Some c ↦ c ∷ definitions_from c.size bs ] → o ≡ Some d
    by None k = absurd (cc)
    by (Some c) k = let same : d ≡ c = cc in ap (λ (y : Definition). Some y) (sym same)

abbrev pub AreLabelled : List Definition → List Place → Type 0
AreLabelled [] xs = Unit {0}
AreLabelled (d ∷ ds) xs = IsLabelled (text_of xs) d × AreLabelled ds (drop (d.size + 1) xs)

pub all-labelled : (ds : List Definition) (xs : List Place) → ds ≡ definitions (text_of xs) → AreLabelled ds xs
all-labelled [] xs e = tt
all-labelled (d ∷ ds) xs e =
    let one = definitions-one (text_of xs) d ds e in (
      record { inside = one.0; label = label-is (text_of xs) d.label (label-first (text_of xs) d (first-is (text_of xs) d ds e)) },
      all-labelled ds (drop (d.size + 1) xs) (one.1 ∙ ap definitions (drop-map text_byte (d.size + 1) xs)),
    )

-- ---- the places of a label
-- what is between the brackets
pub in-brackets : {A : Type 0} (xs : List A) (n from size : ℕ) → from + size ≤ n → n ≤ length xs → 2 ≤ size
    → let l = take (from + size - from) (drop from (take n xs)) in take (length l - 1 - 1) (drop 1 l) ≡ take (size - 2) (drop (from + 1) xs)
in-brackets xs n from size h k two =
    let rest = drop from xs in
    let there : from + (n - from) ≡ n = omega (arith, h) in
    let left : drop from (take n xs) ≡ take (n - from) rest = ap (λ m. drop from (take m xs)) (sym there) ∙ drop-take from (n - from) xs in
    let long : from + size - from ≡ size = omega arith in
    let l : take (from + size - from) (drop from (take n xs)) ≡ take size rest = (λ i. take (long i) (left i)) ∙ take-take size (n - from) rest (omega (arith, h)) in
    let count : length (take size rest) ≡ size = length-take-le size rest (omega (arith, h, k, length-drop from xs)) in
    let one : 1 + (size - 1) ≡ size = omega (arith, two) in
    let behind : drop 1 (take size rest) ≡ take (size - 1) (drop (from + 1) xs) = ap (λ m. drop 1 (take m rest)) (sym one) ∙ drop-take 1 (size - 1) rest ∙ ap (take (size - 1)) (drop-drop 1 from xs) in
    let last : length (take size rest) - 1 - 1 ≡ size - 2 = omega (arith, count) in
    (λ i. take (length (l i) - 1 - 1) (drop 1 (l i)))
    ∙ (λ i. take (last i) (behind i))
    ∙ take-take (size - 2) (size - 1) (drop (from + 1) xs) (omega arith)

-- ---- virtual bytes
module _ (bytes : List ℕ) where
  abbrev pub Has : List Seat → Type 0
  Has = HasSeat bytes

  seat-behind : (xs ys : List Seat) → Has ys → Has (xs ++ ys)
  seat-behind [] ys h = h
  seat-behind (x ∷ xs) ys h = record { first = x; others = xs ++ ys; are = refl }

  seat-front : (xs ys : List Seat) → Has xs → Has (xs ++ ys)
  seat-front xs ys h = record { first = h.first; others = h.others ++ ys; are = ap (λ l. l ++ ys) h.are }

  seat-filled : (ps : List Place) → is_filled (text_of ps) ≡ true → Has (seats_of ps)
  seat-filled [] h = absurd (false≢true h)
  seat-filled (byte_at s ∷ ps) h = record { first = s; others = seats_of ps; are = refl }
  seat-filled (ending_at ending prefixes marks ∷ ps) h = seat-behind (ending ++ prefixes) (seats_of ps) (seat-filled ps h)

  seats-cut : (n : ℕ) (ps : List Place) → seats_of ps ≡ seats_of (take n ps) ++ seats_of (drop n ps)
  seats-cut n ps = ap seats_of (sym (take-append-drop n ps)) ∙ flat_map-append all_seats (take n ps) (drop n ps)

  seat-taken : (n : ℕ) (ps : List Place) → Has (seats_of (take n ps)) → Has (seats_of ps)
  seat-taken n ps h = subst Has (sym (seats-cut n ps)) (seat-front (seats_of (take n ps)) (seats_of (drop n ps)) h)

  seat-left : (n : ℕ) (ps : List Place) → Has (seats_of (drop n ps)) → Has (seats_of ps)
  seat-left n ps h = subst Has (sym (seats-cut n ps)) (seat-behind (seats_of (take n ps)) (seats_of (drop n ps)) h)

  -- ---- marks without data and strings, and marks that begin with a string
  abbrev pub NoData : List Mark → Type 0
  NoData ms = AreOutside (bare ms)

  abbrev IsQuiet : List Mark → Type 0
  IsQuiet ms = is_quiet (bare ms) ≡ true

  pub no-data-both : (xs ys : List Mark) → NoData xs → NoData ys → NoData (xs ++ ys)
  no-data-both xs ys h k = subst AreOutside (sym (map-append (λ (m : Mark). m.0) xs ys)) (every-append (λ (e : Event). IsOutside e.name) (bare xs) (bare ys) h k)

  pub no-data-leaf : (n : Name) (seats : List Seat) → IsOutside n → NoData (leaf_marks bytes n seats)
  no-data-leaf n [] h = tt
  no-data-leaf n (s ∷ ss) h = (h, (h, tt))

  quiet-front : (xs ys : List Mark) → IsQuiet xs → IsQuiet (xs ++ ys)
  quiet-front xs ys h = ap is_quiet (map-append (λ (m : Mark). m.0) xs ys) ∙ quiet-more (bare xs) (bare ys) h

  quiet-back : (xs ys : List Mark) → NoData xs → IsQuiet ys → IsQuiet (xs ++ ys)
  quiet-back xs ys h k = ap is_quiet (map-append (λ (m : Mark). m.0) xs ys) ∙ quiet-behind (bare xs) (bare ys) h k

  quiet-string : (n : Name) (seats : List Seat) (inside : List Mark) → Has seats → is_string n ≡ true → IsQuiet (span_marks bytes n seats inside)
  quiet-string n seats inside h s =
      let rest = bare (inside ++ (event bytes Exit n (end_after h.first.end h.others), None) ∷ []) in
      subst (λ (l : List Seat). IsQuiet (span_marks bytes n l inside)) (sym h.are) (or_left (is_string n) (not (same_name n name.Data) && is_quiet rest) s)

  quiet-span : (n : Name) (seats : List Seat) (inside : List Mark) → Has seats → IsOutside n → IsQuiet inside → IsQuiet (span_marks bytes n seats inside)
  quiet-span n seats inside h o q =
      let enter : Mark = (event bytes Enter n h.first.point, None) in
      let exit : Mark = (event bytes Exit n (end_after h.first.end h.others), None) in
      subst (λ (l : List Seat). IsQuiet (span_marks bytes n l inside)) (sym h.are) (quiet-back (enter ∷ []) (inside ++ exit ∷ []) (o, tt) (quiet-front inside (exit ∷ []) q))

  -- white space in one line has no data
  abbrev pub AllBytes : List Place → Type 0
  AllBytes ps = AllByRecursion (λ (p : Place). is_byte p ≡ true) ps

  no-endings : (ps : List Place) → AllBytes ps → flat_map (ending_marks bytes) ps ≡ []
  no-endings [] h = refl
  no-endings (byte_at s ∷ ps) h = no-endings ps h.1
  no-endings (ending_at ending prefixes marks ∷ ps) h = absurd (false≢true h.0)

  pub gap-no-data : (ps : List Place) → AllBytes ps → NoData (gap_marks bytes ps)
  gap-no-data ps h =
      let n = prefix_len is_byte ps in
      let one = take 1 (drop n ps) in
      let none = no-endings one (every-take (λ (p : Place). is_byte p ≡ true) 1 (drop n ps) (every-drop (λ (p : Place). is_byte p ≡ true) n ps h)) in
      no-data-both (white bytes (seats_of (take n ps))) (flat_map (ending_marks bytes) one ++ white bytes (seats_of (drop (n + 1) ps))) (no-data-leaf name.SpaceOrTab (seats_of (take n ps)) (refl, refl))
      (subst (λ (l : List Mark). NoData (l ++ white bytes (seats_of (drop (n + 1) ps)))) (sym none) (no-data-leaf name.SpaceOrTab (seats_of (drop (n + 1) ps)) (refl, refl)))

  white-bytes : (xs : List Place) → AllBytes (take (prefix_len is_white (text_of xs)) xs)
  white-bytes [] = tt
  white-bytes (ending_at ending prefixes marks ∷ xs) = tt
  white-bytes (byte_at s ∷ xs) = by (white-bytes xs) (is_white s.byte)
    where
      by : AllBytes (take (prefix_len is_white (text_of xs)) xs) → (b : Bool) → AllBytes (take (cond b (1 + prefix_len is_white (text_of xs)) 0) (byte_at s ∷ xs))
      by rest true = let on : 1 + prefix_len is_white (text_of xs) ≡ suc (prefix_len is_white (text_of xs)) = omega arith in subst (λ n. AllBytes (take n (byte_at s ∷ xs))) (sym on) (refl, rest)
      by rest false = tt

  -- ---- a definition
  module _ (d : Definition) (xs : List Place) (is : IsLabelled (text_of xs) d) where
    abbrev pub ys : List Place
    ys = take d.size xs

    abbrev pub label : List Place
    label = places_of d.label ys

    abbrev pub letters : List Place
    letters = between 1 (length label - 1) label

    few : d.size ≤ length xs
    few = let size = is.inside.size in let all = length-map xs text_byte in omega (arith, size, all)

    pub letters-are : letters ≡ take (d.label.size - 2) (drop (d.label.from + 1) xs)
    letters-are = let colon = is.inside.colon in in-brackets xs d.size d.label.from d.label.size (omega (arith, colon)) few is.inside.brackets

    pub letters-say : text_of letters ≡ take (d.label.size - 2) (drop (d.label.from + 1) (text_of xs))
    letters-say = ap text_of letters-are ∙ sym (take-map text_byte (d.label.size - 2) (drop (d.label.from + 1) xs)) ∙ ap (take (d.label.size - 2)) (sym (drop-map text_byte (d.label.from + 1) xs))

    filled : is_filled (text_of letters) ≡ true
    filled =
        let t = take (d.label.size - 2) (drop (d.label.from + 1) (text_of xs)) in
        ap is_filled letters-say ∙ (and_parts (nat_le (characters t) 999) (is_filled t) (and_parts (has_no_bracket false t) (nat_le (characters t) 999 && is_filled t) is.label.label).1).1

    letter-there : Has (seats_of letters)
    letter-there = seat-filled letters filled

    pub letter-seat : Has (seats_of (before_prefixes letters))
    letter-seat = seat-filled (before_prefixes letters) (ap is_filled (text-before letters) ∙ filled)

    pub label-seat : Has (seats_of label)
    label-seat = seat-left 1 label (seat-taken (length label - 1 - 1) (drop 1 label) letter-there)

    all-seat : Has (seats_of ys)
    all-seat = seat-left d.label.from ys (seat-taken (end d.label - d.label.from) (drop d.label.from ys) label-seat)

    pub before-bytes : AllBytes (between 0 d.label.from ys)
    before-bytes =
        let none : d.label.from - 0 ≡ d.label.from = omega arith in
        let colon = is.inside.colon in
        let front : take (d.label.from - 0) ys ≡ take d.label.from xs = ap (λ k. take k ys) none ∙ take-take d.label.from d.size xs (omega (arith, colon)) in
        subst AllBytes (sym (front ∙ ap (λ k. take k xs) is.label.from_is)) (white-bytes xs)

    quiet-parts : IsQuiet (parts_marks bytes d ys)
    quiet-parts =
        let sign = leaf_marks bytes name.DefinitionLabelMarker (seats_of (between 0 1 label)) in
        let close = leaf_marks bytes name.DefinitionLabelMarker (seats_of (drop (length label - 1) label)) in
        let said = line_marks bytes true (string_lines (before_prefixes letters)) in
        let string = span_marks bytes name.DefinitionLabelString (seats_of (before_prefixes letters)) said in
        let behind = flat_map (ending_marks bytes) (last_prefixes letters) in
        let text = string ++ behind in
        let inside = quiet-back sign (text ++ close) (no-data-leaf name.DefinitionLabelMarker (seats_of (between 0 1 label)) (refl, refl)) (quiet-front text close (quiet-front string behind (quiet-string name.DefinitionLabelString (seats_of (before_prefixes letters)) said letter-seat refl))) in
        let whole = span_marks bytes name.DefinitionLabel (seats_of label) (sign ++ (text ++ close)) in
        quiet-back (gap_marks bytes (between 0 d.label.from ys)) (whole ++ behind_label bytes d ys) (gap-no-data (between 0 d.label.from ys) before-bytes)
        (quiet-front whole (behind_label bytes d ys) (quiet-span name.DefinitionLabel (seats_of label) (sign ++ (text ++ close)) label-seat (refl, refl) inside))

    spoken : IsSpoken bytes d xs
    spoken = (all-seat, quiet-parts)

  pub all-spoken : (ds : List Definition) (xs : List Place) → AreLabelled ds xs → AreSpoken bytes ds xs
  all-spoken [] xs h = tt
  all-spoken (d ∷ ds) xs h = (spoken d xs h.0, all-spoken ds (drop (d.size + 1) xs) h.1)

  -- ---- sections
  pub section-labelled : (part : Part) (inside : Inside) → IsSound part inside → (ds : List Definition) → inside ≡ defined ds → AreLabelled ds (places_in bytes (all_rows part))
  section-labelled part inside sound ds e =
      let h : IsSound part (defined ds) = subst (IsSound part) e sound in
      all-labelled ds (places_in bytes (all_rows part)) (h.1 ∙ ap definitions (sym (text-is bytes (all_rows part))))

  pub all-told : (ss : List Section) → AreSound ss → AllByRecursion (IsTold bytes) ss
  all-told [] h = tt
  all-told (s ∷ ss) h = ((λ ds e. all-spoken ds (places_in bytes (all_rows s.part)) (section-labelled s.part s.inside h.0 ds e)), all-told ss h.1)
