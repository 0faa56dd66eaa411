-- What a container's prefix leaves of a line of a document is alike with letters, and its text alone.
use Rattle.std.proofs.Common.{◌≡◌, inl, inr, ℕ, zero, suc, ◌+◌, ◌≤◌, Bool, true, false, cond, List, [], ◌∷◌, ◌++◌, ap, arith, drop, eq-eqb, length, map, ne_eqb, refl, subst, sym, take, ◌∙◌}
use Rattle.std.specs.Prelude.{◌==◌, ◌&&◌, ◌||◌, is_some, nat_le, not, None}
use Rattle.std.specs.List.{AllByRecursion, list_any}
use Rattle.std.proofs.Math.Bool.{and-false}
use Rattle.std.proofs.lemmas.Bool.{false≢true}
use Rattle.std.proofs.lemmas.List.{drop-drop, drop-map}
use Rattle.markdown_base.proofs.Common.{every-append, every-drop, every-filter, every-map}
use Rattle.markdown_base.specs.declared.configuration.Constructs.{Constructs}
use Rattle.markdown_base.specs.Virtual.{Seat}
use Rattle.markdown_tokenizer.proofs.Positions.Order.{every-back, every-front}
use Rattle.mdconstructs_tables.specs.Breaks.{is_white}
use Rattle.mdconstructs_machines.specs.LineEvents.{is_line_ending, line_text}
use Rattle.mdblock_leaf_blocks.proofs.Lines.WholeLines.{IsWhole, whole-behind}
use Rattle.mdblock_leaf_blocks.specs.LeafBlocks.{Line, text_of}
use Rattle.mdblock_leaf_blocks.specs.LineKinds.{indent, is_blank_line, line_kind, text, underline_rank}
use Rattle.mdblock_containers.proofs.SeatFacts.{drop_text}
use Rattle.mdblock_containers.specs.Rows.{Row, has_none, rest_of}
use Rattle.mdblock_definitions.specs.Skeleton.{text_begin}
use Rattle.mdblock_paragraphs.proofs.ShownLines.{text-twice}
use Rattle.mdblock_text_lines.specs.DocumentBlocks.{has_number}
use Rattle.mdblock_text_lines.proofs.LaidLines.{AreApart, IsApart}
use Rattle.mdblock_text_lines.proofs.LetterBlocks.{IsAlike, IsBehind, plain-behind}
use Rattle.mdblock_text_lines.proofs.LetteredLines.{IsBare, bare-kept, bare-line, text-alike, text-parts, underline-behind}
use Rattle.mdblock_text_lines.proofs.ToldLines.{IsTold}

-- ---- parts of a line
-- a line that is not blank: white space, another byte, and more
pub record IsParted (l : Line) : Type 0 where
  pub front : List Seat
  pub first : Seat
  pub behind : List Seat
  pub is : l ≡ front ++ first ∷ behind
  pub white : AllByRecursion (λ (s : Seat). is_white s.byte ≡ true) front
  pub plain : is_white first.byte ≡ false
  pub in_line : is_line_ending first ≡ false
  pub size : indent (text_of l) ≡ length front

pub parted : (l : Line) → IsWhole l → is_blank_line (text_of l) ≡ false → IsParted l
parted [] w e = absurd (false≢true (sym e))
parted (s ∷ ss) (inr w) e =
    let here : line_text (s ∷ ss) ≡ [] = ap (λ b. cond (not b) (s ∷ line_text ss) (line_text ss)) w.0 ∙ ap line_text w.1 in
    absurd (false≢true (sym e ∙ ap (λ t. is_blank_line (map (λ (x : Seat). x.byte) t)) here))
parted (s ∷ ss) (inl w) e = by (λ k. parted ss w.1 k) (is_white s.byte) refl
  where
    here : text_of (s ∷ ss) ≡ s.byte ∷ text_of ss
    here = ap (λ b. map (λ (x : Seat). x.byte) (cond (not b) (s ∷ line_text ss) (line_text ss))) w.0

    by : (is_blank_line (text_of ss) ≡ false → IsParted ss) → (x : Bool) → is_white s.byte ≡ x → IsParted (s ∷ ss)
    by rest true f =
        let p = rest (sym (ap is_blank_line here ∙ ap (λ b. b && is_blank_line (text_of ss)) f) ∙ e) in
        let size = p.size in
        let one = ap indent here ∙ ap (λ b. cond b (1 + indent (text_of ss)) 0) f in
        record {
          front = s ∷ p.front;
          first = p.first;
          behind = p.behind;
          is = ap (λ l. s ∷ l) p.is;
          white = (f, p.white);
          plain = p.plain;
          in_line = p.in_line;
          size = omega (arith, one, size);
        }
    by rest false f = record { front = []; first = s; behind = ss; is = refl; white = tt; plain = f; in_line = w.0; size = ap indent here ∙ ap (λ b. cond b (1 + indent (text_of ss)) 0) f }

-- one virtual byte and those around it
middle : (P : Seat → Type 0) (ss : List Seat) (y : Seat) (more : List Seat) → AllByRecursion P (ss ++ y ∷ more) → P y
middle P [] y more h = h.0
middle P (s ∷ ss) y more h = middle P ss y more h.1

apart-before : (ss : List Seat) (y : Seat) (more : List Seat) → AreApart (ss ++ y ∷ more) → AllByRecursion (λ s. IsApart s y) ss
apart-before [] y more h = tt
apart-before (s ∷ ss) y more h = (middle (IsApart s) ss y more h.0, apart-before ss y more h.1)

apart-after : (ss : List Seat) (y : Seat) (more : List Seat) → AreApart (ss ++ y ∷ more) → AllByRecursion (IsApart y) more
apart-after [] y more h = h.0
apart-after (s ∷ ss) y more h = apart-after ss y more h.1

apart-drop : (n : ℕ) (ss : List Seat) → AreApart ss → AreApart (drop n ss)
apart-drop zero ss h = h
apart-drop (suc n) [] h = tt
apart-drop (suc n) (s ∷ ss) h = apart-drop n ss h.1

drop-front : (xs ys : List Seat) → drop (length xs) (xs ++ ys) ≡ ys
drop-front [] ys = refl
drop-front (x ∷ xs) ys = drop-front xs ys

some-in : (xs : List Seat) (y : Seat) (ys : List Seat) → has_none (xs ++ y ∷ ys) ≡ false
some-in [] y ys = refl
some-in (x ∷ xs) y ys = refl

-- ---- a line of a document
module _ (on : Constructs) (numbers letters : List ℕ) (r : Row) (f : Bool) (told : IsTold numbers letters (r, f)) (whole : IsWhole r.line) (few : r.columns ≤ length (line_text r.line)) where
  abbrev is_text : Line → Bool
  is_text = has_number numbers

  -- what its prefixes leave of it
  abbrev pub left : Line
  left = drop r.columns r.line

  text-left : text_of left ≡ rest_of r
  text-left = ap (map (λ (s : Seat). s.byte)) (drop_text r.line r.columns whole few) ∙ sym (drop-map (λ (s : Seat). s.byte) r.columns (line_text r.line))

  abbrev InLine : Seat → Type 0
  InLine x = x.point.line ≡ r.number

  number-of : (l : Line) → AllByRecursion InLine l → has_none l ≡ false → is_text l ≡ f
  number-of [] h some = absurd (false≢true (sym some))
  number-of (s ∷ ss) h some = ap (λ n. list_any (λ m. m == n) numbers) h.0 ∙ told.number

  in-left : AllByRecursion InLine left
  in-left = every-drop InLine r.columns r.line told.in_line

  -- ---- if it is no text
  module _ (none : f ≡ false) where
    bare : AllByRecursion (IsBare letters) r.line
    bare = every-map (λ (x : Seat). list_any (λ i. i == x.point.index) letters ≡ (f && list_any (λ i. i == x.point.index) (text_begin r))) (IsBare letters) (λ x h. h ∙ ap (λ b. b && list_any (λ i. i == x.point.index) (text_begin r)) none) r.line told.seats

    no-text : (l : Line) → AllByRecursion InLine l → is_text l ≡ false
    no-text [] h = refl
    no-text (s ∷ ss) h = number-of (s ∷ ss) h refl ∙ none

    bare-behind : (l : Line) → AllByRecursion InLine l → AllByRecursion (IsBare letters) l → IsBehind on is_text letters l
    bare-behind l h b =
        let same = bare-line letters l b in
        let is = no-text l h in
        plain-behind on is_text letters l
        (record {
          kept = bare-kept letters l b;
          plain = λ e. same;
          kind = ap (λ x. line_kind on (text_of x)) same ∙ sym (ap (λ x. cond x text (line_kind on (text_of l))) is);
          rank = ap (λ x. underline_rank on (text_of x)) same ∙ sym (ap (λ x. cond x None (underline_rank on (text_of l))) is);
        }) is

    pub plain-left : IsBehind on is_text letters left × IsBehind on is_text letters (line_text left)
    plain-left =
        let b = every-drop (IsBare letters) r.columns r.line bare in
        (bare-behind left in-left b, bare-behind (line_text left) (every-filter InLine _ left in-left) (every-filter (IsBare letters) _ left b))

  -- ---- if it is text
  module _ (some : f ≡ true) (filled : is_blank_line (rest_of r) ≡ false) where
    parts : IsParted left
    parts = parted left (whole-behind r.columns r.line whole) (ap is_blank_line text-left ∙ filled)

    abbrev front : List Seat
    front = parts.front

    abbrev y : Seat
    y = parts.first

    begin-is : text_begin r ≡ y.point.index ∷ []
    begin-is =
        let n = indent (rest_of r) in
        let size : n ≡ length front = sym (ap indent text-left) ∙ parts.size in
        let there : drop (r.columns + n) r.line ≡ y ∷ parts.behind = sym (drop-drop n r.columns r.line) ∙ (λ i. drop (size i) (parts.is i)) ∙ drop-front front (y ∷ parts.behind) in
        ap (λ l. map (λ (s : Seat). s.point.index) (take 1 l)) there

    told-left : AllByRecursion (λ (x : Seat). list_any (λ i. i == x.point.index) letters ≡ ((y.point.index == x.point.index) || false)) (front ++ y ∷ parts.behind)
    told-left =
        subst (AllByRecursion (λ (x : Seat). list_any (λ i. i == x.point.index) letters ≡ ((y.point.index == x.point.index) || false))) parts.is
        (every-drop (λ (x : Seat). list_any (λ i. i == x.point.index) letters ≡ ((y.point.index == x.point.index) || false)) r.columns r.line
        (every-map (λ (x : Seat). list_any (λ i. i == x.point.index) letters ≡ (f && list_any (λ i. i == x.point.index) (text_begin r))) (λ (x : Seat). list_any (λ i. i == x.point.index) letters ≡ ((y.point.index == x.point.index) || false))
        (λ x h. h ∙ (λ i. some i && list_any (λ j. j == x.point.index) (begin-is i))) r.line told.seats))

    apart : AreApart (front ++ y ∷ parts.behind)
    apart = subst AreApart parts.is (apart-drop r.columns r.line told.apart)

    abbrev IsToldOf : Seat → Type 0
    IsToldOf x = list_any (λ i. i == x.point.index) letters ≡ ((y.point.index == x.point.index) || false)

    bare-before : AllByRecursion (IsBare letters) front
    bare-before = both front (every-front IsToldOf front (y ∷ parts.behind) told-left) (apart-before front y parts.behind apart)
      where
        both : (ss : List Seat) → AllByRecursion IsToldOf ss → AllByRecursion (λ s. IsApart s y) ss → AllByRecursion (IsBare letters) ss
        both [] h k = tt
        both (s ∷ ss) h k =
            let less = k.0 (ap (λ b. is_white s.byte && b) parts.plain ∙ and-false (is_white s.byte)) in
            (h.0 ∙ ap (λ b. b || false) (ne_eqb y.point.index s.point.index (λ e. omega (arith, e, less))), both ss h.1 k.1)

    bare-after : AllByRecursion (IsBare letters) parts.behind
    bare-after = both parts.behind (every-back IsToldOf front (y ∷ parts.behind) told-left).1 (apart-after front y parts.behind apart)
      where
        both : (ss : List Seat) → AllByRecursion IsToldOf ss → AllByRecursion (IsApart y) ss → AllByRecursion (IsBare letters) ss
        both [] h k = tt
        both (s ∷ ss) h k =
            let less = k.0 (ap (λ b. b && is_white s.byte) parts.plain) in
            (h.0 ∙ ap (λ b. b || false) (ne_eqb y.point.index s.point.index (λ e. omega (arith, e, less))), both ss h.1 k.1)

    hit : list_any (λ i. i == y.point.index) letters ≡ true
    hit = middle IsToldOf front y parts.behind told-left ∙ ap (λ b. b || false) (eq-eqb y.point.index y.point.index refl)

    in-parts : AllByRecursion InLine (front ++ y ∷ parts.behind)
    in-parts = subst (AllByRecursion InLine) parts.is in-left

    in-text : AllByRecursion InLine (front ++ y ∷ line_text parts.behind)
    in-text =
        every-append InLine front (y ∷ line_text parts.behind) (every-front InLine front (y ∷ parts.behind) in-parts)
        ((every-back InLine front (y ∷ parts.behind) in-parts).0, every-filter InLine _ parts.behind (every-back InLine front (y ∷ parts.behind) in-parts).1)

    text-of-left : line_text left ≡ front ++ y ∷ line_text parts.behind
    text-of-left = ap line_text parts.is ∙ text-parts front y parts.behind parts.white parts.in_line

    bare-text : AllByRecursion (IsBare letters) (line_text parts.behind)
    bare-text = every-filter (IsBare letters) _ parts.behind bare-after

    -- an underline
    pub lazy-left : is_some (underline_rank on (rest_of r)) ≡ true → IsBehind on is_text letters left × IsBehind on is_text letters (line_text left)
    lazy-left under =
        let one : is_text (front ++ y ∷ parts.behind) ≡ true = number-of (front ++ y ∷ parts.behind) in-parts (some-in front y parts.behind) ∙ some in
        let two : is_text (front ++ y ∷ line_text parts.behind) ≡ true = number-of (front ++ y ∷ line_text parts.behind) in-text (some-in front y (line_text parts.behind)) ∙ some in
        let rank-left : is_some (underline_rank on (text_of left)) ≡ true = ap (λ t. is_some (underline_rank on t)) text-left ∙ under in
        let rank-text : is_some (underline_rank on (text_of (line_text left))) ≡ true = ap (λ l. is_some (underline_rank on (map (λ (s : Seat). s.byte) l))) (text-twice left) ∙ rank-left in (
          subst (IsBehind on is_text letters) (sym parts.is)
              (underline-behind on is_text letters front y parts.behind parts.white parts.plain parts.in_line bare-before hit bare-after one (sym (ap (λ l. is_some (underline_rank on (text_of l))) parts.is) ∙ rank-left)),
          subst (IsBehind on is_text letters) (sym text-of-left)
              (underline-behind on is_text letters front y (line_text parts.behind) parts.white parts.plain parts.in_line bare-before hit bare-text two (sym (ap (λ l. is_some (underline_rank on (text_of l))) text-of-left) ∙ rank-text)),
        )

    -- the first line directly behind definitions, without its white space
    pub first-left : let n = indent (rest_of r) in IsAlike on is_text letters (drop n left) × IsAlike on is_text letters (drop n (line_text left))
    first-left =
        let n = indent (rest_of r) in
        let size : n ≡ length front = sym (ap indent text-left) ∙ parts.size in
        let back = every-back InLine front (y ∷ parts.behind) in-parts in
        let back-text = every-back InLine front (y ∷ line_text parts.behind) in-text in
        let dropped : drop n left ≡ y ∷ parts.behind = (λ i. drop (size i) (parts.is i)) ∙ drop-front front (y ∷ parts.behind) in
        let dropped-text : drop n (line_text left) ≡ y ∷ line_text parts.behind = (λ i. drop (size i) (text-of-left i)) ∙ drop-front front (y ∷ line_text parts.behind) in
        let near : (on.code_indented && nat_le 4 0) ≡ false = and-false on.code_indented in (
          subst (IsAlike on is_text letters) (sym dropped)
              (text-alike on is_text letters [] y parts.behind tt parts.plain parts.in_line tt hit bare-after (number-of (y ∷ parts.behind) back refl ∙ some) near),
          subst (IsAlike on is_text letters) (sym dropped-text)
              (text-alike on is_text letters [] y (line_text parts.behind) tt parts.plain parts.in_line tt hit bare-text (number-of (y ∷ line_text parts.behind) back-text refl ∙ some) near),
        )
