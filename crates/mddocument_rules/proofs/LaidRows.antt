-- The places of lines of a document: their virtual bytes are some of the document's, and between two lines is some white space.
use Rattle.mddocument_rules.proofs.Prelude.{◌≡◌, ◌∙◌, ℕ, suc, ◌==◌, true, false, cond, not, List, [], ◌∷◌, ◌++◌, append-nil, append_assoc, ap, drop, map, refl, subst, sym, take, false≢true, not-true, every-all, every-back, every-drop, inl, inr, AllByRecursion, Constructs, Seat, virtual, all_of, ending_of, line_text, Mark, leaf_marks, Container, Prefix, Row, has_none, prefixes_marks, Known, known_after, row_of, rows_from}
use Rattle.std.proofs.lemmas.List.{take-append-drop}
use Rattle.std.specs.Prelude.{◌<◌}
use Rattle.markdown_base.specs.declared.event.Name.TheVariants as name
use Rattle.markdown_tokenizer.proofs.Positions.Order.{every-kept}
use Rattle.mdconstructs_machines.specs.LineEvents.{is_line_ending}
use Rattle.mdblock_leaf_blocks.proofs.Lines.WholeLines.{IsWhole}
use Rattle.mdblock_leaf_blocks.specs.LeafBlocks.{Line, text_of as line_bytes}
use Rattle.mdblock_containers.proofs.SeatFacts.{LinesEnd, line_front}
use Rattle.mdblock_containers.specs.Prefixes.{columns_of, going_on}
use Rattle.mdblock_definitions.specs.Definitions.{Place, byte_at, ending_at, places_in}
use Rattle.mddocument_rules.proofs.VirtualBytes.{IfFeed, NoFeeds, feeds-virtual}
use Rattle.mddocument_rules.proofs.WrittenPlaces.{AreLaid, AreLeft}
use Rattle.mddocument_rules.proofs.WrittenPrefixes.{IsGap, IsSomeGap, feed-gap, gap-none, prefixes-gap}
use Rattle.mddocument_rules.proofs.WrittenStrings.{there-line}

-- a line that has a line ending has one
one-ending : (line : Line) → IsWhole line → has_none (ending_of line) ≡ false → (u : Seat) × (ending_of line ≡ u ∷ []) × ((u.byte == 10) ≡ true)
one-ending [] w some = absurd (false≢true (sym some))
one-ending (s ∷ ss) (inl w) some =
    let cut : ending_of (s ∷ ss) ≡ ending_of ss = ap (λ b. cond b (s ∷ ending_of ss) (ending_of ss)) w.0 in
    let more = one-ending ss w.1 (ap has_none (sym cut) ∙ some) in
    (more.0, cut ∙ more.1, more.2)
one-ending (s ∷ ss) (inr w) some = (s, ap (λ b. cond b (s ∷ ending_of ss) (ending_of ss)) w.0 ∙ ap (λ l. s ∷ ending_of l) w.1, w.0)

-- each line but the last has a line ending
abbrev pub RowsEnd : List Row → Type 0
RowsEnd [] = Unit {0}
RowsEnd (r ∷ []) = Unit {0}
RowsEnd (r ∷ q ∷ rs) = (has_none (ending_of r.line) ≡ false) × RowsEnd (q ∷ rs)

pub end-front : (xs ys : List Row) → RowsEnd (xs ++ ys) → RowsEnd xs
end-front [] ys h = tt
end-front (x ∷ []) ys h = tt
end-front (x ∷ y ∷ xs) ys h = (h.0, end-front (y ∷ xs) ys h.1)

pub end-back : (xs ys : List Row) → RowsEnd (xs ++ ys) → RowsEnd ys
end-back [] ys h = h
end-back (x ∷ []) [] h = tt
end-back (x ∷ []) (y ∷ ys) h = h.1
end-back (x ∷ z ∷ xs) ys h = end-back (z ∷ xs) ys h.1

pub rows-end : (on : Constructs) (k : Known) (n : ℕ) (ls : List Line) → LinesEnd ls → RowsEnd (rows_from on k n ls)
rows-end on k n [] h = tt
rows-end on k n (l ∷ []) h = tt
rows-end on k n (l ∷ m ∷ ls) h = (h.0, rows-end on (known_after on k (row_of on k n l)) (suc n) (m ∷ ls) h.1)

module _ (t : ℕ) (bytes : List ℕ) where
  -- a line of a document, with the containers that go on with it
  pub record IsRow (r : Row) : Type 0 where
    pub before : List Seat
    pub behind : List Seat
    pub are : virtual t bytes ≡ before ++ (r.line ++ behind)
    pub whole : IsWhole r.line
    pub stack : List Container
    pub number : ℕ
    pub went : r.went_on ≡ going_on stack number (line_bytes r.line)

  text-plain : (line : Line) → NoFeeds bytes (line_text line)
  text-plain line = every-kept (λ (s : Seat). Unit {0}) (λ (s : Seat). (s.byte == 10) ≡ false) (λ s. not (is_line_ending s)) (λ s u e. not-true (is_line_ending s) e) line (every-all (λ (s : Seat). Unit {0}) (λ s. tt) line)

  row-is : (r : Row) (h : IsRow r) → virtual t bytes ≡ h.before ++ (line_text r.line ++ (ending_of r.line ++ h.behind))
  row-is r h = h.are ∙ ap (λ l. h.before ++ (l ++ h.behind)) (line_front r.line h.whole) ∙ ap (λ l. h.before ++ l) (append_assoc (line_text r.line) (ending_of r.line) h.behind)

  -- between two lines
  module _ (some : 0 < t) where
    pub prefix-gap : (q : Row) → IsRow q → IsGap bytes (prefixes_marks bytes q.went_on q.line)
    prefix-gap q h =
        let text = line_text q.line in
        let rest = ending_of q.line ++ h.behind in
        let here = there-line t bytes some text (record { plain = text-plain q.line; before = h.before; behind = rest; are = row-is q h }) in
        let gap = prefixes-gap bytes h.stack h.number text (ending_of q.line) rest here in
        subst (λ (p : List Prefix × List Seat). IsGap bytes (prefixes_marks bytes p.0 p.1)) (λ j. (sym h.went j, sym (line_front q.line h.whole) j)) gap

    joint-is : (r : Row) → IsRow r → (u : Seat) → ending_of r.line ≡ u ∷ [] → (u.byte == 10) ≡ true → (ms : List Mark) → IsGap bytes ms → IsSomeGap bytes (leaf_marks bytes name.LineEnding (ending_of r.line) ++ ms)
    joint-is r h u is ends ms gap =
        let text = line_text r.line in
        let all : AllByRecursion (IfFeed bytes) (h.before ++ (text ++ (u ∷ h.behind))) = subst (AllByRecursion (IfFeed bytes)) (row-is r h ∙ ap (λ l. h.before ++ (text ++ (l ++ h.behind))) is) (feeds-virtual bytes t) in
        let feed = (every-back (IfFeed bytes) text (u ∷ h.behind) (every-back (IfFeed bytes) h.before (text ++ (u ∷ h.behind)) all)).0 ends in
        subst (λ l. IsSomeGap bytes (leaf_marks bytes name.LineEnding l ++ ms)) (sym is) (feed-gap bytes u ms feed gap)

    bytes-laid : (xs : List Seat) (ps : List Place) (w : List Seat) → NoFeeds bytes xs → AreLaid t bytes ps w → AreLaid t bytes (map byte_at xs ++ ps) (xs ++ w)
    bytes-laid [] ps w plain h = h
    bytes-laid (x ∷ xs) ps w plain h = (refl, plain.0, bytes-laid xs ps w plain.1 h)

    first-laid : (r : Row) (h : IsRow r) (ps : List Place) → AreLaid t bytes ps (ending_of r.line ++ h.behind)
        → (ss : List Seat) × AreLeft t bytes ss × AreLaid t bytes (map byte_at (drop r.columns (line_text r.line)) ++ ps) ss
    first-laid r h ps laid =
        let text = line_text r.line in
        let front = take r.columns text in
        let back = drop r.columns text in
        let w = ending_of r.line ++ h.behind in
        let left : virtual t bytes ≡ (h.before ++ front) ++ (back ++ w) =
        row-is r h ∙ ap (λ l. h.before ++ (l ++ w)) (sym (take-append-drop r.columns text)) ∙ ap (λ l. h.before ++ l) (append_assoc front back w) ∙ sym (append_assoc h.before front (back ++ w)) in
        (back ++ w, (h.before ++ front, left), bytes-laid back ps w (every-drop (λ (s : Seat). (s.byte == 10) ≡ false) r.columns text (text-plain r.line)) laid)

    -- Lines of a document, one behind another, have such places
    pub places-laid : (rs : List Row) → AllByRecursion IsRow rs → RowsEnd rs → (ss : List Seat) × AreLeft t bytes ss × AreLaid t bytes (places_in bytes rs) ss
    places-laid [] h e = ([], (virtual t bytes, sym (append-nil (virtual t bytes))), tt)
    places-laid (r ∷ []) h e = first-laid r h.0 [] tt
    places-laid (r ∷ q ∷ qs) h e =
        let u = one-ending r.line h.0.whole e.0 in
        let more = places-laid (q ∷ qs) h.1 e.1 in
        let joint = joint-is r h.0 u.0 u.1 u.2 in
        let one = ending_at (ending_of r.line) (take (columns_of q.went_on) q.line) (prefixes_marks bytes q.went_on q.line) in
        let laid : AreLaid t bytes (one ∷ places_in bytes (q ∷ qs)) (u.0 ∷ h.0.behind) = (u.2, (joint (prefixes_marks bytes q.went_on q.line) (prefix-gap q h.1.0), joint [] (gap-none bytes)), more.0, more.1, more.2) in
        first-laid r h.0 (one ∷ places_in bytes (q ∷ qs)) (subst (λ l. AreLaid t bytes (one ∷ places_in bytes (q ∷ qs)) (l ++ h.0.behind)) (sym u.1) laid)

  -- ---- all lines of a document
  abbrev IsPlaced : Line → Type 0
  IsPlaced line = (before : List Seat) × (behind : List Seat) × (virtual t bytes ≡ before ++ (line ++ behind)) × IsWhole line

  pub lines-placed : (front : List Seat) (ls : List Line) → virtual t bytes ≡ front ++ all_of ls → AllByRecursion IsWhole ls → AllByRecursion IsPlaced ls
  lines-placed front [] e w = tt
  lines-placed front (l ∷ ls) e w = ((front, all_of ls, e, w.0), lines-placed (front ++ l) ls (e ∙ sym (append_assoc front l (all_of ls))) w.1)

  pub rows-are : (on : Constructs) (k : Known) (n : ℕ) (ls : List Line) → AllByRecursion IsPlaced ls → AllByRecursion IsRow (rows_from on k n ls)
  rows-are on k n [] h = tt
  rows-are on k n (l ∷ ls) h = (
    record { before = h.0.0; behind = h.0.1; are = h.0.2; whole = h.0.3; stack = take k.before.depth k.before.stack; number = n; went = refl },
    rows-are on (known_after on k (row_of on k n l)) (suc n) ls h.1,
  )
