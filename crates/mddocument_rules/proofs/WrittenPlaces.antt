-- What a label over lines gives: alike the text between its brackets, as white space at the end of a line and in prefixes is written as some white space.
use Rattle.mddocument_rules.proofs.Prelude.{◌≡◌, ◌∙◌, ◌⊎◌, ℕ, suc, zero, ◌==◌, Bool, true, false, cond, List, [], ◌∷◌, ◌++◌, append-nil, append_assoc, ap, drop, flat_map, inl, inr, refl, subst, sym, take, false≢true, AllByRecursion, Constructs, Seat, virtual, Mark, leaf_marks, white, indent}
use Rattle.std.proofs.lemmas.Bool.{eqb-true}
use Rattle.std.proofs.lemmas.Grind.{flat_map-append}
use Rattle.std.proofs.lemmas.List.{take-append-drop}
use Rattle.std.specs.Prelude.{◌<◌}
use Rattle.markdown_base.specs.declared.event.Name.TheVariants as name
use Rattle.mdblock_leaf_blocks.specs.LeafBlocks.{bytes_of}
use Rattle.mdblock_definitions.specs.Definitions.{Place, StringLine, before_prefixes, byte_at, ending_at, ending_marks, further_line, line_marks, string_lines, text_of}
use Rattle.mdinline_labels.specs.Labels.{is_label_white}
use Rattle.mdinline_labels.specs.Tails.{begins_with}
use Rattle.mddocument_link_targets.specs.Strings.{as_written}
use Rattle.mddocument_rules.proofs.HeldStrings.{read}
use Rattle.mddocument_rules.proofs.AlikeTexts.{alike-both, alike-none, alike-white, written-alike}
use Rattle.mddocument_rules.specs.SegmentLaws.{Alike}
use Rattle.mddocument_rules.proofs.VirtualBytes.{EndsTabs, NoFeeds, stretch-whole}
use Rattle.mddocument_rules.proofs.WrittenPrefixes.{IsSomeGap, leaf-outside, leaf-written, line-front}
use Rattle.mddocument_rules.proofs.WrittenSpans.{written}
use Rattle.mddocument_rules.proofs.WrittenStrings.{AreThere, Writes, data-writes, outside-writes, there-back, there-line, writes-both}

-- ---- the first line of a text, and what is behind it
abbrev pub first_of : List Place → List Seat
first_of [] = []
first_of (byte_at s ∷ ps) = s ∷ first_of ps
first_of (ending_at ending prefixes marks ∷ ps) = []

abbrev pub text_behind : List Place → List ℕ
text_behind [] = []
text_behind (byte_at s ∷ ps) = text_behind ps
text_behind (ending_at ending prefixes marks ∷ ps) = 10 ∷ (bytes_of (first_of ps) ++ text_behind ps)

pub text-cut : (ps : List Place) → text_of ps ≡ bytes_of (first_of ps) ++ text_behind ps
text-cut [] = refl
text-cut (byte_at s ∷ ps) = ap (λ l. s.byte ∷ l) (text-cut ps)
text-cut (ending_at ending prefixes marks ∷ ps) = ap (λ l. 10 ∷ l) (text-cut ps)

module _ (bytes : List ℕ) where
  abbrev pub marks_behind : List Place → List Mark
  marks_behind [] = []
  marks_behind (byte_at s ∷ ps) = marks_behind ps
  marks_behind (ending_at ending prefixes marks ∷ ps) = ending_marks bytes (ending_at ending prefixes marks) ++ (further_line bytes (first_of ps) ++ marks_behind ps)

  abbrev pub first_line : (is_first : Bool) → List Seat → List Mark
  first_line is_first seats = cond is_first (leaf_marks bytes name.Data seats) (further_line bytes seats)

  -- the lines of a text that is not empty
  record AreCut (ps : List Place) : Type 0 where
    line : StringLine
    more : List StringLine
    are : string_lines ps ≡ line ∷ more
    seats : line.seats ≡ first_of ps
    behind : flat_map (ending_marks bytes) line.behind ++ line_marks bytes false more ≡ marks_behind ps

  by-lines : (is_first : Bool) (ps : List Place) → (ps ≡ []) ⊎ AreCut ps → line_marks bytes is_first (string_lines ps) ≡ first_line is_first (first_of ps) ++ marks_behind ps
  by-lines is_first ps (inl none) = subst (λ qs. line_marks bytes is_first (string_lines qs) ≡ first_line is_first (first_of qs) ++ marks_behind qs) (sym none) (nothing is_first)
    where
      nothing : (b : Bool) → line_marks bytes b [] ≡ first_line b [] ++ []
      nothing true = refl
      nothing false = refl
  by-lines is_first ps (inr c) = ap (line_marks bytes is_first) c.are ∙ (λ i. first_line is_first (c.seats i) ++ c.behind i)

  one-more : (s : Seat) (ps : List Place) → (ps ≡ []) ⊎ AreCut ps → AreCut (byte_at s ∷ ps)
  one-more s ps (inl none) = subst (λ qs. AreCut (byte_at s ∷ qs)) (sym none) (record { line = record { seats = s ∷ []; behind = [] }; more = []; are = refl; seats = refl; behind = refl })
  one-more s ps (inr c) = record {
    line = record { seats = s ∷ c.line.seats; behind = c.line.behind };
    more = c.more;
    are = ap (λ (ls : List StringLine). elim ls as (λ _. List StringLine) [ [] ↦ record { seats = s ∷ []; behind = [] } ∷ [] | line ∷ lines ↦ record { seats = s ∷ line.seats; behind = line.behind } ∷ lines ]) c.are;
    seats = ap (λ l. s ∷ l) c.seats;
    behind = c.behind;
  }

  cut-lines : (ps : List Place) → (ps ≡ []) ⊎ AreCut ps
  cut-lines [] = inl refl
  cut-lines (byte_at s ∷ ps) = inr (one-more s ps (cut-lines ps))
  cut-lines (ending_at ending prefixes marks ∷ ps) =
      let one = ending_at ending prefixes marks in
      inr (record {
        line = record { seats = []; behind = one ∷ [] };
        more = string_lines ps;
        are = refl;
        seats = refl;
        behind = ap (λ l. l ++ line_marks bytes false (string_lines ps)) (append-nil (ending_marks bytes one)) ∙ ap (λ l. ending_marks bytes one ++ l) (by-lines false ps (cut-lines ps));
      })

  -- So its marks are those of the first line, and of what is behind it
  pub lines-are : (is_first : Bool) (ps : List Place) → line_marks bytes is_first (string_lines ps) ≡ first_line is_first (first_of ps) ++ marks_behind ps
  lines-are is_first ps = by-lines is_first ps (cut-lines ps)

-- ---- places of a document
module _ (t : ℕ) (bytes : List ℕ) where
  -- virtual bytes of the document up to its end
  abbrev pub AreLeft : List Seat → Type 0
  AreLeft ss = (front : List Seat) × (virtual t bytes ≡ front ++ ss)

  pub left-back : (xs ys : List Seat) → AreLeft (xs ++ ys) → AreLeft ys
  left-back xs ys h = (h.0 ++ xs, h.1 ∙ sym (append_assoc h.0 xs ys))

  -- places with these virtual bytes, up to the first line ending; and so behind it
  abbrev pub AreLaid : List Place → List Seat → Type 0
  AreLaid [] ss = Unit {0}
  AreLaid (byte_at s ∷ ps) [] = ⊥
  AreLaid (byte_at s ∷ ps) (r ∷ rs) = (r ≡ s) × ((s.byte == 10) ≡ false) × AreLaid ps rs
  AreLaid (ending_at ending prefixes marks ∷ ps) [] = ⊥
  AreLaid (ending_at ending prefixes marks ∷ ps) (r ∷ rs) = ((r.byte == 10) ≡ true) × (IsSomeGap bytes (ending_marks bytes (ending_at ending prefixes marks)) × IsSomeGap bytes (ending_marks bytes (ending_at ending [] []))) × (more : List Seat) × AreLeft more × AreLaid ps more

  -- so it is of what is left of them
  pub laid-behind : (n : ℕ) (ps : List Place) (ss : List Seat) → AreLeft ss → AreLaid ps ss → (more : List Seat) × AreLeft more × AreLaid (drop n ps) more
  laid-behind zero ps ss left h = (ss, left, h)
  laid-behind (suc n) [] ss left h = (ss, left, tt)
  laid-behind (suc n) (byte_at s ∷ ps) [] left h = absurd h
  laid-behind (suc n) (byte_at s ∷ ps) (r ∷ rs) left h = laid-behind n ps rs (left-back (r ∷ []) rs left) h.2
  laid-behind (suc n) (ending_at ending prefixes marks ∷ ps) [] left h = absurd h
  laid-behind (suc n) (ending_at ending prefixes marks ∷ ps) (r ∷ rs) left h = laid-behind n ps h.2 h.3 h.4

  -- so are the places of a string, before its last prefixes
  pub laid-before : (ps qs : List Place) (ss : List Seat) → AreLaid (ps ++ qs) ss → AreLaid (before_prefixes ps ++ qs) ss
  laid-before [] qs ss h = h
  laid-before (byte_at s ∷ ps) qs [] h = absurd h
  laid-before (byte_at s ∷ ps) qs (r ∷ rs) h = (h.0, h.1, laid-before ps qs rs h.2)
  laid-before (ending_at ending prefixes marks ∷ []) qs [] h = absurd h
  laid-before (ending_at ending prefixes marks ∷ []) qs (r ∷ rs) h = (h.0, (h.1.1, h.1.1), h.2, h.3, h.4)
  laid-before (ending_at ending prefixes marks ∷ next ∷ ps) qs [] h = absurd h
  laid-before (ending_at ending prefixes marks ∷ next ∷ ps) qs (r ∷ rs) h = (h.0, h.1, h.2, h.3, laid-before (next ∷ ps) qs h.2 h.4)

  -- the first line of places before a bracket
  record FirstIs (ps : List Place) (ss : List Seat) : Type 0 where
    plain : NoFeeds bytes (first_of ps)
    rest : List Seat
    are : ss ≡ first_of ps ++ rest
    ends : EndsTabs bytes rest

  before-bracket : (qs : List Place) (ss : List Seat) → AreLaid qs ss → begins_with 93 (text_of qs) ≡ true → EndsTabs bytes ss
  before-bracket [] ss h e = absurd (false≢true e)
  before-bracket (byte_at s ∷ qs) [] h e = absurd h
  before-bracket (byte_at s ∷ qs) (r ∷ rs) h e = inr (ap (λ (x : Seat). is_label_white x.byte) h.0 ∙ ap is_label_white (eqb-true s.byte 93 e))
  before-bracket (ending_at ending prefixes marks ∷ qs) ss h e = absurd (false≢true e)

  first-is : (ps qs : List Place) (ss : List Seat) → AreLaid (ps ++ qs) ss → begins_with 93 (text_of qs) ≡ true → FirstIs ps ss
  first-is [] qs ss h e = record { plain = tt; rest = ss; are = refl; ends = before-bracket qs ss h e }
  first-is (byte_at s ∷ ps) qs [] h e = absurd h
  first-is (byte_at s ∷ ps) qs (r ∷ rs) h e =
      let more = first-is ps qs rs h.2 e in
      record { plain = (h.1, more.plain); rest = more.rest; are = (λ i. h.0 i ∷ more.are i); ends = more.ends }
  first-is (ending_at ending prefixes marks ∷ ps) qs [] h e = absurd h
  first-is (ending_at ending prefixes marks ∷ ps) qs (r ∷ rs) h e = record { plain = tt; rest = r ∷ rs; are = refl; ends = inl h.0 }

  first-there : (ps qs : List Place) (ss : List Seat) → AreLeft ss → AreLaid (ps ++ qs) ss → begins_with 93 (text_of qs) ≡ true → (h : AreThere t bytes (first_of ps)) × EndsTabs bytes h.behind
  first-there ps qs ss left h e =
      let f = first-is ps qs ss h e in
      (record { plain = f.plain; before = left.0; behind = f.rest; are = left.1 ∙ ap (λ l. left.0 ++ l) f.are }, f.ends)

  module _ (on : Constructs) (d : 0 < t) where
    -- what is written for a line is like its bytes
    line-alike : (ss : List Seat) (h : AreThere t bytes ss) → EndsTabs bytes h.behind → Alike (flat_map (written bytes) ss) (bytes_of ss)
    line-alike ss h ends = let line = there-line t bytes d ss h in written-alike (written bytes) line.in_tab ss (stretch-whole bytes line.in_tab line.index ss h.behind h.plain ends line.spelt)

    further-writes : (ss : List Seat) → AreThere t bytes ss → Writes on t bytes d (further_line bytes ss) (flat_map (written bytes) ss)
    further-writes ss h es =
        let n = indent (bytes_of ss) in
        let front = take n ss in
        let back = drop n ss in
        let gives = leaf-written bytes name.SpaceOrTab front (back ++ h.behind) refl (line-front bytes n ss h.behind (there-line t bytes d ss h)) in
        let space = outside-writes on t bytes d (white bytes front) (flat_map (written bytes) front) (leaf-outside bytes name.SpaceOrTab front (refl, refl)) gives in
        writes-both on t bytes d (white bytes front) (leaf_marks bytes name.Data back) (flat_map (written bytes) front) (flat_map (written bytes) back) space (data-writes on t bytes d back (there-back t bytes n ss h)) es
        ∙ ap (λ l. l ++ as_written bytes (read on t bytes true es)) (sym (flat_map-append (written bytes) front back) ∙ ap (λ l. flat_map (written bytes) l) (take-append-drop n ss))

    -- what is behind the first line
    record BehindIs (ps : List Place) : Type 0 where
      text : List ℕ
      writes : Writes on t bytes d (marks_behind bytes ps) text
      alike : Alike text (text_behind ps)

    behind-is : (ps qs : List Place) (ss : List Seat) → AreLeft ss → AreLaid (ps ++ qs) ss → begins_with 93 (text_of qs) ≡ true → BehindIs ps
    behind-is [] qs ss left h e = record { text = []; writes = λ es. refl; alike = alike-none }
    behind-is (byte_at s ∷ ps) qs [] left h e = absurd h
    behind-is (byte_at s ∷ ps) qs (r ∷ rs) left h e = let more = behind-is ps qs rs (left-back (r ∷ []) rs left) h.2 e in record { text = more.text; writes = more.writes; alike = more.alike }
    behind-is (ending_at ending prefixes marks ∷ ps) qs [] left h e = absurd h
    behind-is (ending_at ending prefixes marks ∷ ps) qs (r ∷ rs) left h e =
        let one = ending_at ending prefixes marks in
        let joint = h.1.0 in
        let more = behind-is ps qs h.2 h.3 h.4 e in
        let first = first-there ps qs h.2 h.3 h.4 e in
        let seats = first_of ps in
        let said = flat_map (written bytes) seats in
        let blank : Alike joint.gap.text (10 ∷ []) = subst (λ l. Alike l (10 ∷ [])) (sym joint.some) (alike-white joint.first 10 joint.others [] (subst (λ l. AllByRecursion (λ (c : ℕ). is_label_white c ≡ true) l) joint.some joint.gap.white) (refl, tt)) in
        record {
          text = joint.gap.text ++ (said ++ more.text);
          writes = writes-both on t bytes d (ending_marks bytes one) (further_line bytes seats ++ marks_behind bytes ps) joint.gap.text (said ++ more.text) (outside-writes on t bytes d (ending_marks bytes one) joint.gap.text joint.gap.outside joint.gap.gives)
              (writes-both on t bytes d (further_line bytes seats) (marks_behind bytes ps) said more.text (further-writes seats first.0) more.writes);
          alike = alike-both joint.gap.text (10 ∷ []) (said ++ more.text) (bytes_of seats ++ text_behind ps) blank (alike-both said (bytes_of seats) more.text (text_behind ps) (line-alike seats first.0 first.1) more.alike);
        }

    -- A label gives a text that is alike
    pub record IsSaid (ps : List Place) : Type 0 where
      pub text : List ℕ
      pub writes : Writes on t bytes d (line_marks bytes true (string_lines ps)) text
      pub alike : Alike text (text_of ps)

    pub label-said : (ps qs : List Place) (ss : List Seat) → AreLeft ss → AreLaid (ps ++ qs) ss → begins_with 93 (text_of qs) ≡ true → IsSaid ps
    label-said ps qs ss left h e =
        let first = first-there ps qs ss left h e in
        let more = behind-is ps qs ss left h e in
        let seats = first_of ps in
        let said = flat_map (written bytes) seats in
        record {
          text = said ++ more.text;
          writes = subst (λ l. Writes on t bytes d l (said ++ more.text)) (sym (lines-are bytes true ps)) (writes-both on t bytes d (leaf_marks bytes name.Data seats) (marks_behind bytes ps) said more.text (data-writes on t bytes d seats first.0) more.writes);
          alike = subst (Alike (said ++ more.text)) (sym (text-cut ps)) (alike-both said (bytes_of seats) more.text (text_behind ps) (line-alike seats first.0 first.1) more.alike);
        }
