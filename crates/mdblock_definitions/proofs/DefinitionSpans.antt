-- The marks of definitions are over the virtual bytes of their lines: what is kept by spans holds of them.
use Rattle.std.proofs.Common.{◌≡◌, ℕ, zero, suc, ◌+◌, ◌-◌, ◌≤◌, Bool, true, false, cond, List, [], ◌∷◌, ◌++◌, append-nil, append_assoc, arith, drop, length, refl, sym, ap, subst, take, ◌∙◌}
use Rattle.std.specs.Prelude.{Option, None, Some}
use Rattle.std.specs.List.{AllByRecursion, flat_map, prefix_len}
use Rattle.std.proofs.lemmas.Bool.{false≢true}
use Rattle.std.proofs.lemmas.Grind.{flat_map-append}
use Rattle.std.proofs.lemmas.List.{drop-drop, drop-map, length-drop, length-map, length-take-le, take-append-drop, take-map, take_all}
use Rattle.std.proofs.Math.Seq.{take-add}
use Rattle.markdown_base.specs.declared.event.Name.{Name}
use Rattle.markdown_base.specs.declared.event.Name.TheVariants as name
use Rattle.markdown_base.specs.Events.{is_void}
use Rattle.markdown_base.specs.Virtual.{Seat}
use Rattle.markdown_base.proofs.Common.{every-take, every-drop}
use Rattle.mdblock_leaf_blocks.specs.LeafBlocks.{bytes_of}
use Rattle.mdblock_leaf_blocks.specs.LeafEvents.{Mark, leaf_marks}
use Rattle.mdblock_leaf_blocks.specs.LineKinds.{indent}
use Rattle.mdinline_labels.specs.declared.definitions.Definition.{Definition}
use Rattle.mdinline_labels.specs.declared.definitions.Stretch.{Stretch}
use Rattle.mdinline_labels.specs.Definitions.{end, end_of}
use Rattle.mdinline_labels.specs.Tails.{begins_with}
use Rattle.mdblock_definitions.specs.Definitions.{Place, StringLine, all_seats, before_prefixes, between, byte_at, definition_marks, definitions_marks, destination_marks, ending_at, ending_marks, further_line, gap_marks, is_byte, last_prefixes, leaf, line_marks, marked, parts_marks, places_of, seats_of, span, string, string_lines, text_byte, text_of}
use Rattle.mdblock_definitions.proofs.LaidParts.{IsLaid, TitleIs}
use Rattle.mdblock_definitions.proofs.StringEnds.{every-before, every-last, last-endings, seats-both as seats-both-of}
use Rattle.mdblock_containers.proofs.AnySpans.{IsKeptByAnySpans}

-- ---- parts of a text

-- one, and the rest
part-rest : {A : Type 0} (a e : ℕ) (xs : List A) → a ≤ e → take (e - a) (drop a xs) ++ drop e xs ≡ drop a xs
part-rest a e xs l =
    let there : e ≡ a + (e - a) = omega (arith, l) in
    ap (λ r. take (e - a) (drop a xs) ++ r) (ap (λ n. drop n xs) there ∙ sym (drop-drop (e - a) a xs)) ∙ take-append-drop (e - a) (drop a xs)

between-both : (a b c : ℕ) (xs : List Place) → a ≤ b → b ≤ c → between a b xs ++ between b c xs ≡ between a c xs
between-both a b c xs h k =
    let there : b ≡ a + (b - a) = omega (arith, h) in
    let size : (b - a) + (c - b) ≡ c - a = omega (arith, h, k) in
    ap (λ (l : List Place). between a b xs ++ take (c - b) l) (ap (λ n. drop n xs) there ∙ sym (drop-drop (b - a) a xs)) ∙ sym (take-add (b - a) (c - b) (drop a xs)) ∙ ap (λ n. take n (drop a xs)) size

between-size : (a b : ℕ) (xs : List Place) → a ≤ b → b ≤ length xs → length (between a b xs) ≡ b - a
between-size a b xs h k = length-take-le (b - a) (drop a xs) (omega (arith, h, k, length-drop a xs))

-- what a part of a text begins with, the text begins with there
begins-take : (c m : ℕ) (t : List ℕ) → begins_with c (take m t) ≡ true → begins_with c t ≡ true
begins-take c zero t e = absurd (false≢true e)
begins-take c (suc m) [] e = e
begins-take c (suc m) (b ∷ bs) e = e

begins-drop : (c f m : ℕ) (t : List ℕ) → begins_with c (drop f (take m t)) ≡ true → begins_with c (drop f t) ≡ true
begins-drop c zero m t e = begins-take c m t e
begins-drop c (suc f) zero t e = absurd (false≢true e)
begins-drop c (suc f) (suc m) [] e = e
begins-drop c (suc f) (suc m) (b ∷ bs) e = begins-drop c f m bs e

text-between : (a b m : ℕ) (xs : List Place) → text_of (between a b (take m xs)) ≡ take (b - a) (drop a (take m (text_of xs)))
text-between a b m xs = sym (take-map text_byte (b - a) (drop a (take m xs))) ∙ ap (take (b - a)) (sym (drop-map text_byte a (take m xs)) ∙ ap (drop a) (sym (take-map text_byte m xs)))

-- ---- what is kept by spans

module _ (bytes : List ℕ) (P : List Mark → List Seat → Type 0) (kept : IsKeptByAnySpans bytes P) where
  -- marks over places
  abbrev Q : List Mark → List Place → Type 0
  Q marks xs = P marks (seats_of xs)

  -- the prefixes behind a line ending
  abbrev Holds : Place → Type 0
  Holds (byte_at s) = Unit {0}
  Holds (ending_at ending prefixes marks) = P marks prefixes

  abbrev pub AllHold : List Place → Type 0
  AllHold xs = AllByRecursion Holds xs

  over : (marks : List Mark) (xs ys : List Place) → xs ≡ ys → Q marks xs → Q marks ys
  over marks xs ys e h = subst (Q marks) e h

  seats-both : (ms ns : List Mark) (xs ys : List Place) → Q ms xs → Q ns ys → Q (ms ++ ns) (xs ++ ys)
  seats-both ms ns xs ys h k = subst (P (ms ++ ns)) (sym (flat_map-append all_seats xs ys)) (kept.both ms ns (seats_of xs) (seats_of ys) h k)

  hold-between : (a b : ℕ) (xs : List Place) → AllHold xs → AllHold (between a b xs)
  hold-between a b xs h = every-take Holds (b - a) (drop a xs) (every-drop Holds a xs h)

  -- ---- line endings and white space

  ending-kept : (x : Place) → is_byte x ≡ false → Holds x → P (ending_marks bytes x) (all_seats x)
  ending-kept (byte_at s) e h = absurd (false≢true (sym e))
  ending-kept (ending_at ending prefixes marks) e h = kept.both (leaf_marks bytes name.LineEnding ending) marks ending prefixes (kept.alone name.LineEnding ending) h

  endings-kept : (xs : List Place) → AllByRecursion (λ (x : Place). is_byte x ≡ false) xs → AllHold xs → Q (flat_map (ending_marks bytes) xs) xs
  endings-kept [] e h = kept.none
  endings-kept (x ∷ xs) e h = kept.both (ending_marks bytes x) (flat_map (ending_marks bytes) xs) (all_seats x) (seats_of xs) (ending-kept x e.0 h.0) (endings-kept xs e.1 h.1)

  -- no byte is directly behind the bytes in front
  first-ending : (xs : List Place) → AllByRecursion (λ (x : Place). is_byte x ≡ false) (take 1 (drop (prefix_len is_byte xs) xs))
  first-ending [] = tt
  first-ending (x ∷ xs) = by (first-ending xs) (is_byte x) refl
    where
      by : AllByRecursion (λ (y : Place). is_byte y ≡ false) (take 1 (drop (prefix_len is_byte xs) xs)) → (b : Bool) → is_byte x ≡ b → AllByRecursion (λ (y : Place). is_byte y ≡ false) (take 1 (drop (cond b (1 + prefix_len is_byte xs) 0) (x ∷ xs)))
      by rest true e = let on : 1 + prefix_len is_byte xs ≡ suc (prefix_len is_byte xs) = omega arith in subst (λ n. AllByRecursion (λ (y : Place). is_byte y ≡ false) (take 1 (drop n (x ∷ xs)))) (sym on) rest
      by rest false e = (e, tt)

  gap-kept : (xs : List Place) → AllHold xs → Q (gap_marks bytes xs) xs
  gap-kept xs h =
      let n = prefix_len is_byte xs in
      let ending = flat_map (ending_marks bytes) (take 1 (drop n xs)) in
      let one : n + 1 - n ≡ 1 = omega arith in
      let behind : take 1 (drop n xs) ++ drop (n + 1) xs ≡ drop n xs = ap (λ k. take k (drop n xs) ++ drop (n + 1) xs) (sym one) ∙ part-rest n (n + 1) xs (omega arith) in
      over (gap_marks bytes xs) (take n xs ++ (take 1 (drop n xs) ++ drop (n + 1) xs)) xs (ap (λ (l : List Place). take n xs ++ l) behind ∙ take-append-drop n xs)
      (seats-both (leaf_marks bytes name.SpaceOrTab (seats_of (take n xs))) (ending ++ leaf_marks bytes name.SpaceOrTab (seats_of (drop (n + 1) xs))) (take n xs) (take 1 (drop n xs) ++ drop (n + 1) xs) (kept.alone name.SpaceOrTab (seats_of (take n xs)))
      (seats-both ending (leaf_marks bytes name.SpaceOrTab (seats_of (drop (n + 1) xs))) (take 1 (drop n xs)) (drop (n + 1) xs) (endings-kept (take 1 (drop n xs)) (first-ending xs) (every-take Holds 1 (drop n xs) (every-drop Holds n xs h)))
      (kept.alone name.SpaceOrTab (seats_of (drop (n + 1) xs)))))

  -- ---- strings

  abbrev line_seats : StringLine → List Seat
  line_seats l = l.seats ++ seats_of l.behind

  -- the line ending behind a line of a string
  abbrev LineHolds : StringLine → Type 0
  LineHolds l = AllByRecursion (λ (x : Place). is_byte x ≡ false) l.behind × AllHold l.behind

  strings-are : (xs : List Place) → flat_map line_seats (string_lines xs) ≡ seats_of xs
  strings-are [] = refl
  strings-are (ending_at ending prefixes marks ∷ xs) = (λ k. append-nil (ending ++ prefixes) k ++ strings-are xs k)
  strings-are (byte_at s ∷ xs) = by (string_lines xs) (strings-are xs)
    where
      by : (ls : List StringLine) → flat_map line_seats ls ≡ seats_of xs → flat_map line_seats (elim ls as (λ _. List StringLine) [ [] ↦ record { seats = s ∷ []; behind = [] } ∷ [] | line ∷ lines ↦ record line { seats = s ∷ line.seats } ∷ lines ]) ≡ s ∷ seats_of xs
      by [] e = ap (λ l. s ∷ l) e
      by (line ∷ lines) e = ap (λ l. s ∷ l) e

  strings-hold : (xs : List Place) → AllHold xs → AllByRecursion LineHolds (string_lines xs)
  strings-hold [] h = tt
  strings-hold (ending_at ending prefixes marks ∷ xs) h = (((refl, tt), (h.0, tt)), strings-hold xs h.1)
  strings-hold (byte_at s ∷ xs) h = by (string_lines xs) (strings-hold xs h.1)
    where
      by : (ls : List StringLine) → AllByRecursion LineHolds ls → AllByRecursion LineHolds (elim ls as (λ _. List StringLine) [ [] ↦ record { seats = s ∷ []; behind = [] } ∷ [] | line ∷ lines ↦ record line { seats = s ∷ line.seats } ∷ lines ])
      by [] k = ((tt, tt), tt)
      by (line ∷ lines) k = k

  further-kept : (ss : List Seat) → P (further_line bytes ss) ss
  further-kept ss =
      let n = indent (bytes_of ss) in
      subst (P (further_line bytes ss)) (take-append-drop n ss) (kept.both (leaf_marks bytes name.SpaceOrTab (take n ss)) (leaf_marks bytes name.Data (drop n ss)) (take n ss) (drop n ss) (kept.alone name.SpaceOrTab (take n ss)) (kept.alone name.Data (drop n ss)))

  lines-kept : (is_first : Bool) (ls : List StringLine) → AllByRecursion LineHolds ls → P (line_marks bytes is_first ls) (flat_map line_seats ls)
  lines-kept is_first [] h = kept.none
  lines-kept is_first (line ∷ lines) h =
      let here = cond is_first (leaf_marks bytes name.Data line.seats) (further_line bytes line.seats) in
      let ending = flat_map (ending_marks bytes) line.behind in
      let rest = flat_map line_seats lines in
      subst (P (line_marks bytes is_first (line ∷ lines))) (sym (append_assoc line.seats (seats_of line.behind) rest))
      (kept.both here (ending ++ line_marks bytes false lines) line.seats (seats_of line.behind ++ rest) (by is_first)
      (kept.both ending (line_marks bytes false lines) (seats_of line.behind) rest (endings-kept line.behind h.0.0 h.0.1) (lines-kept false lines h.1)))
    where
      by : (x : Bool) → P (cond x (leaf_marks bytes name.Data line.seats) (further_line bytes line.seats)) line.seats
      by true = kept.alone name.Data line.seats
      by false = further-kept line.seats

  string-kept : (n : Name) (xs : List Place) → is_void n ≡ false → AllHold xs → Q (string bytes n xs) xs
  string-kept n xs e h =
      let inside = before_prefixes xs in
      let behind = last_prefixes xs in
      let lines = line_marks bytes true (string_lines inside) in
      let there = every-before Holds (λ ending prefixes marks k. kept.none) xs h in
      subst (P (string bytes n xs)) (seats-both-of xs)
      (kept.both (span bytes n inside lines) (flat_map (ending_marks bytes) behind) (seats_of inside) (seats_of behind)
      (kept.around n (seats_of inside) lines e (subst (P lines) (strings-are inside) (lines-kept true (string_lines inside) (strings-hold inside there))))
      (endings-kept behind (last-endings xs) (every-last Holds (λ ending prefixes marks k. k) xs h)))

  -- ---- parts of a definition

  marked-kept : (mark inside : Name) (xs : List Place) → is_void inside ≡ false → 2 ≤ length xs → AllHold xs → Q (marked bytes mark inside xs) xs
  marked-kept mark inside xs e two h =
      let last = length xs - 1 in
      let first = leaf bytes mark (between 0 1 xs) in
      let text = string bytes inside (between 1 last xs) in
      over (marked bytes mark inside xs) (between 0 1 xs ++ (between 1 last xs ++ drop last xs)) xs (ap (λ (l : List Place). take 1 xs ++ l) (part-rest 1 last xs (omega (arith, two))) ∙ take-append-drop 1 xs)
      (seats-both first (text ++ leaf bytes mark (drop last xs)) (between 0 1 xs) (between 1 last xs ++ drop last xs) (kept.alone mark (seats_of (between 0 1 xs)))
      (seats-both text (leaf bytes mark (drop last xs)) (between 1 last xs) (drop last xs) (string-kept inside (between 1 last xs) e (hold-between 1 last xs h)) (kept.alone mark (seats_of (drop last xs)))))

  destination-kept : (xs : List Place) → (begins_with 60 (text_of xs) ≡ true → 2 ≤ length xs) → AllHold xs → Q (destination_marks bytes xs) xs
  destination-kept xs two h = kept.around name.DefinitionDestination (seats_of xs) _ refl (by (begins_with 60 (text_of xs)) two)
    where
      by : (b : Bool) → (b ≡ true → 2 ≤ length xs)
          → Q (cond b (span bytes name.DefinitionDestinationLiteral xs (marked bytes name.DefinitionDestinationLiteralMarker name.DefinitionDestinationString xs)) (span bytes name.DefinitionDestinationRaw xs (string bytes name.DefinitionDestinationString xs))) xs
      by true k = kept.around name.DefinitionDestinationLiteral (seats_of xs) (marked bytes name.DefinitionDestinationLiteralMarker name.DefinitionDestinationString xs) refl (marked-kept name.DefinitionDestinationLiteralMarker name.DefinitionDestinationString xs refl (k refl) h)
      by false k = kept.around name.DefinitionDestinationRaw (seats_of xs) (string bytes name.DefinitionDestinationString xs) refl (string-kept name.DefinitionDestinationString xs refl h)

  -- marks one behind another
  step : (a b c : ℕ) (xs : List Place) (ms ns : List Mark) → a ≤ b → b ≤ c → Q ms (between a b xs) → Q ns (between b c xs) → Q (ms ++ ns) (between a c xs)
  step a b c xs ms ns h k m n = over (ms ++ ns) (between a b xs ++ between b c xs) (between a c xs) (between-both a b c xs h k) (seats-both ms ns (between a b xs) (between b c xs) m n)

  module _ (places : List Place) (holds : AllHold places) (d : Definition) (laid : IsLaid (text_of places) d) where
    abbrev xs : List Place
    xs = take d.size places

    inside : d.size ≤ length places
    inside = let few = laid.inside in let all = length-map places text_byte in omega (arith, few, all)

    size : length xs ≡ d.size
    size = length-take-le d.size places inside

    hold : AllHold xs
    hold = every-take Holds d.size places holds

    two-marks : (s : Stretch) → end s ≤ d.size → 2 ≤ s.size → 2 ≤ length (places_of s xs)
    two-marks s few two = let long = between-size s.from (end s) xs (omega arith) (omega (arith, few, size)) in omega (arith, long, two)

    destination-ends : end d.destination ≤ d.size
    destination-ends = by d.title laid.title laid.ended
      where
        by : (t : Option Stretch) → TitleIs d.destination t → end_of t d.destination ≤ d.size → end d.destination ≤ d.size
        by None t e = e
        by (Some s) t e = let behind = t.0 in omega (arith, behind, e)

    label-kept : Q (span bytes name.DefinitionLabel (places_of d.label xs) (marked bytes name.DefinitionLabelMarker name.DefinitionLabelString (places_of d.label xs))) (places_of d.label xs)
    label-kept =
        let ys = places_of d.label xs in
        let colon = laid.colon in
        let last = destination-ends in
        kept.around name.DefinitionLabel (seats_of ys) (marked bytes name.DefinitionLabelMarker name.DefinitionLabelString ys) refl
        (marked-kept name.DefinitionLabelMarker name.DefinitionLabelString ys refl (two-marks d.label (omega (arith, colon, last)) laid.label) (hold-between d.label.from (end d.label) xs hold))

    target-kept : Q (destination_marks bytes (places_of d.destination xs)) (places_of d.destination xs)
    target-kept =
        let de = d.destination in
        destination-kept (places_of de xs)
        (λ e. two-marks de destination-ends (laid.literal (begins-drop 60 de.from d.size (text_of places) (begins-take 60 (end de - de.from) (drop de.from (take d.size (text_of places))) (ap (begins_with 60) (sym (text-between de.from (end de) d.size places)) ∙ e)))))
        (hold-between de.from (end de) xs hold)

    abbrev title_marks : Option Stretch → List Mark
    title_marks o = elim o as (λ _. List Mark) [
      | None ↦ []
      | Some t ↦ gap_marks bytes (between (end d.destination) t.from xs) ++ span bytes name.DefinitionTitle (places_of t xs) (marked bytes name.DefinitionTitleMarker name.DefinitionTitleString (places_of t xs))
    ]

    title-kept : (o : Option Stretch) → TitleIs d.destination o → end_of o d.destination ≤ d.size → Q (title_marks o ++ gap_marks bytes (between (end_of o d.destination) d.size xs)) (between (end d.destination) d.size xs)
    title-kept None t few = gap-kept (between (end d.destination) d.size xs) (hold-between (end d.destination) d.size xs hold)
    title-kept (Some s) t few =
        let at = end d.destination in
        let ys = places_of s xs in
        let gap = gap_marks bytes (between at s.from xs) in
        let here = span bytes name.DefinitionTitle ys (marked bytes name.DefinitionTitleMarker name.DefinitionTitleString ys) in
        let behind = t.0 in
        step at (end s) d.size xs (gap ++ here) (gap_marks bytes (between (end s) d.size xs)) (omega (arith, behind)) few
        (step at s.from (end s) xs gap here behind (omega arith) (gap-kept (between at s.from xs) (hold-between at s.from xs hold))
        (kept.around name.DefinitionTitle (seats_of ys) (marked bytes name.DefinitionTitleMarker name.DefinitionTitleString ys) refl
        (marked-kept name.DefinitionTitleMarker name.DefinitionTitleString ys refl (two-marks s few t.1) (hold-between s.from (end s) xs hold))))
        (gap-kept (between (end s) d.size xs) (hold-between (end s) d.size xs hold))

    parts-kept : Q (parts_marks bytes d xs) (between 0 d.size xs)
    parts-kept =
        let l = d.label in
        let de = d.destination in
        let a = gap_marks bytes (between 0 l.from xs) in
        let b = span bytes name.DefinitionLabel (places_of l xs) (marked bytes name.DefinitionLabelMarker name.DefinitionLabelString (places_of l xs)) in
        let c = leaf bytes name.DefinitionMarker (between (end l) (end l + 1) xs) in
        let e = gap_marks bytes (between (end l + 1) de.from xs) in
        let f = destination_marks bytes (places_of de xs) in
        let g = title_marks d.title ++ gap_marks bytes (between (end_of d.title de) d.size xs) in
        let colon = laid.colon in
        let last = destination-ends in
        step 0 l.from d.size xs a (b ++ (c ++ (e ++ (f ++ g)))) (omega arith) (omega (arith, colon, last)) (gap-kept (between 0 l.from xs) (hold-between 0 l.from xs hold))
        (step l.from (end l) d.size xs b (c ++ (e ++ (f ++ g))) (omega arith) (omega (arith, colon, last)) label-kept
        (step (end l) (end l + 1) d.size xs c (e ++ (f ++ g)) (omega arith) (omega (arith, colon, last)) (kept.alone name.DefinitionMarker (seats_of (between (end l) (end l + 1) xs)))
        (step (end l + 1) de.from d.size xs e (f ++ g) colon (omega (arith, last)) (gap-kept (between (end l + 1) de.from xs) (hold-between (end l + 1) de.from xs hold))
        (step de.from (end de) d.size xs f g (omega arith) last target-kept (title-kept d.title laid.title laid.ended)))))

    definition-kept : Q (definition_marks bytes d places) (take d.size places)
    definition-kept =
        let whole : d.size - 0 ≡ d.size = omega arith in
        let all : between 0 d.size xs ≡ xs = ap (λ n. take n xs) whole ∙ take_all d.size xs (omega (arith, size)) in
        kept.around name.Definition (seats_of xs) (parts_marks bytes d xs) refl (over (parts_marks bytes d xs) (between 0 d.size xs) xs all parts-kept)

-- Definitions of these places, one after another: a line ends behind each, and nothing is left behind the last
abbrev pub AreLaid : List Definition → List Place → Type 0
AreLaid [] xs = xs ≡ []
AreLaid (d ∷ ds) xs = IsLaid (text_of xs) d × AllByRecursion (λ (x : Place). is_byte x ≡ false) (between d.size (d.size + 1) xs) × AreLaid ds (drop (d.size + 1) xs)

-- what is kept by spans holds of the marks of definitions over their lines
pub definitions-kept : (bytes : List ℕ) (P : List Mark → List Seat → Type 0) (kept : IsKeptByAnySpans bytes P) (ds : List Definition) (xs : List Place) → AreLaid ds xs → AllHold bytes P kept xs → P (definitions_marks bytes ds xs) (seats_of xs)
definitions-kept bytes P kept [] xs laid h = subst (λ (ys : List Place). P [] (seats_of ys)) (sym laid) kept.none
definitions-kept bytes P kept (d ∷ ds) xs laid h =
    let n = d.size in
    let ending = flat_map (ending_marks bytes) (between n (n + 1) xs) in
    let rest = drop (n + 1) xs in
    let whole : take n xs ++ (between n (n + 1) xs ++ rest) ≡ xs = ap (λ (l : List Place). take n xs ++ l) (part-rest n (n + 1) xs (omega arith)) ∙ take-append-drop n xs in
    let more = definitions-kept bytes P kept ds rest laid.2 (every-drop (Holds bytes P kept) (n + 1) xs h) in
    subst (λ (ys : List Place). P (definitions_marks bytes (d ∷ ds) xs) (seats_of ys)) whole
    (seats-both bytes P kept (definition_marks bytes d xs) (ending ++ definitions_marks bytes ds rest) (take n xs) (between n (n + 1) xs ++ rest) (definition-kept bytes P kept xs h d laid.0)
    (seats-both bytes P kept ending (definitions_marks bytes ds rest) (between n (n + 1) xs) rest (endings-kept bytes P kept (between n (n + 1) xs) laid.1 (hold-between bytes P kept n (n + 1) xs h)) more))
