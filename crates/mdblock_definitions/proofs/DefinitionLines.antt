-- The definitions with which a paragraph begins are over whole lines of it: their places are those of these lines.
use Rattle.std.proofs.Common.{◌≡◌, ℕ, zero, suc, ◌+◌, ◌-◌, ◌<◌, ◌≤◌, Bool, true, false, cond, List, [], ◌∷◌, ◌++◌, inl, inr, append-nil, append_assoc, arith, drop, filter, length, map, refl, sym, ap, subst, take, ◌∙◌}
use Rattle.std.specs.Prelude.{◌==◌, Option, None, Some}
use Rattle.std.specs.List.{AllByRecursion, prefix_len}
use Rattle.std.proofs.lemmas.Bool.{cases_lt, false≢true}
use Rattle.std.proofs.lemmas.List.{drop-drop, drop-map, length-append, length-drop, length-map, map-append, take-append-drop}
use Rattle.std.proofs.Math.Seq.{drop-append_seam, take-add}
use Rattle.markdown_base.specs.declared.configuration.Constructs.{Constructs}
use Rattle.markdown_base.specs.Virtual.{Seat}
use Rattle.markdown_base.proofs.Common.{every-take, every-drop}
use Rattle.mdconstructs_machines.specs.LineEvents.{ending_of, line_text}
use Rattle.mdblock_leaf_blocks.specs.LeafBlocks.{text_of as line_bytes}
use Rattle.mdblock_containers.proofs.DocumentRows.{take_of_take}
use Rattle.mdblock_containers.specs.Prefixes.{columns_of}
use Rattle.mdblock_containers.specs.Rows.{Row, has_none, is_paragraph, rest_of}
use Rattle.mdblock_containers.specs.Skeleton.{last_of, prefixes_marks}
use Rattle.mdinline_labels.proofs.Fronts.{no-more, no-rest, one-more, rest-more}
use Rattle.mdinline_labels.specs.declared.definitions.Definition.{Definition}
use Rattle.mdinline_labels.specs.Definitions.{definition_at, definitions, rest}
use Rattle.mdinline_labels.specs.Tails.{begins_with, line_ends}
use Rattle.mdblock_definitions.specs.Definitions.{Place, byte_at, ending_at, is_byte, places_in, text_byte, text_of}
use Rattle.mdblock_definitions.specs.Sections.{defined_in, lines_defined, lines_of, paragraph_of, text_in}
use Rattle.mdblock_definitions.proofs.DefinitionSpans.{AreLaid}
use Rattle.mdblock_definitions.proofs.LaidParts.{IsLaid, definition-laid}
use Rattle.mdblock_definitions.proofs.PlainLetters.{no-ending}
use Rattle.mdblock_definitions.proofs.SectionLemmas.{tens-in}

-- something is behind the prefixes of a line
abbrev pub IsFilled : Row → Type 0
IsFilled r = has_none (rest_of r) ≡ false

-- ---- places of lines

module _ (bytes : List ℕ) where
  -- the places of a line's text, behind its prefixes
  abbrev pub line_places : Row → List Place
  line_places r = map byte_at (drop r.columns (line_text r.line))

  -- what is between a line and those behind it, and their places
  abbrev joint : Row → List Row → List Place
  joint last [] = []
  joint last (b ∷ bs) = ending_at (ending_of last.line) (take (columns_of b.went_on) b.line) (prefixes_marks bytes b.went_on b.line) ∷ places_in bytes (b ∷ bs)

  places-both : (a : Row) (cs bs : List Row) → places_in bytes (a ∷ (cs ++ bs)) ≡ places_in bytes (a ∷ cs) ++ joint (last_of a cs) bs
  places-both a [] [] = sym (append-nil (line_places a ++ []))
  places-both a [] (b ∷ bs) = ap (λ (l : List Place). l ++ joint a (b ∷ bs)) (sym (append-nil (line_places a)))
  places-both a (c ∷ cs) bs =
      let x = ending_at (ending_of a.line) (take (columns_of c.went_on) c.line) (prefixes_marks bytes c.went_on c.line) in
      ap (λ (l : List Place). line_places a ++ x ∷ l) (places-both c cs bs) ∙ sym (append_assoc (line_places a) (x ∷ places_in bytes (c ∷ cs)) (joint (last_of c cs) bs))

  line-text : (xs : List Seat) → text_of (map byte_at xs) ≡ map (λ (s : Seat). s.byte) xs
  line-text [] = refl
  line-text (s ∷ ss) = ap (λ l. s.byte ∷ l) (line-text ss)

  line-rest : (r : Row) → text_of (line_places r) ≡ rest_of r
  line-rest r = line-text (drop r.columns (line_text r.line)) ∙ sym (drop-map (λ (s : Seat). s.byte) r.columns (line_text r.line))

  -- their text is that of the lines
  pub text-is : (rs : List Row) → text_of (places_in bytes rs) ≡ text_in rs
  text-is [] = refl
  text-is (r ∷ []) = map-append text_byte (line_places r) [] ∙ ap (λ l. l ++ []) (line-rest r)
  text-is (r ∷ q ∷ qs) =
      map-append text_byte (line_places r) (joint r (q ∷ qs)) ∙ (λ k. line-rest r k ++ 10 ∷ text-is (q ∷ qs) k)

  size-is : (rs : List Row) → length (places_in bytes rs) ≡ length (text_in rs)
  size-is rs = sym (length-map (places_in bytes rs) text_byte) ∙ ap (λ (l : List ℕ). length l) (text-is rs)

  -- ---- a line ends at a place

  inside-line : (t more : List ℕ) (n : ℕ) → AllByRecursion (λ (c : ℕ). (c == 10) ≡ false) t → n < length t → line_ends (drop n (t ++ more)) ≡ true → ⊥
  inside-line [] more n h less e = omega (arith, less)
  inside-line (b ∷ bs) more zero h less e = false≢true (sym h.0 ∙ e)
  inside-line (b ∷ bs) more (suc n) h less e = inside-line bs more n h.1 (omega (arith, less)) e

  drop-all-but : (t more : List ℕ) (n : ℕ) → drop (length t + n) (t ++ more) ≡ drop n more
  drop-all-but [] more n = let e : 0 + n ≡ n = omega arith in ap (λ k. drop k more) e
  drop-all-but (b ∷ bs) more n = let e : suc (length bs) + n ≡ suc (length bs + n) = omega arith in ap (λ k. drop k (b ∷ (bs ++ more))) e ∙ drop-all-but bs more n

  -- so many lines are before it
  record CutAt (rs : List Row) (n : ℕ) : Type 0 where
    many : ℕ
    some : 1 ≤ many
    few : many ≤ length rs
    front : length (text_in (take many rs)) ≡ n
    behind : drop (n + 1) (text_in rs) ≡ text_in (drop many rs)

  cut-at : (r : Row) (rs : List Row) (n : ℕ) → n ≤ length (text_in (r ∷ rs)) → line_ends (drop n (text_in (r ∷ rs))) ≡ true → CutAt (r ∷ rs) n
  cut-at r [] n few ends =
      let t = rest_of r in
      let all : length (t ++ []) ≡ length t = ap (λ (l : List ℕ). length l) (append-nil t) in
      elim (cases_lt n (length t)) [
        | inl less ↦ absurd (inside-line t [] n (every-drop (λ (c : ℕ). (c == 10) ≡ false) r.columns (line_bytes r.line) (no-ending r.line)) less ends)
        | inr more ↦
            let same : length (t ++ []) ≡ n = omega (arith, all, few, more) in
            let on : length t + 1 ≡ n + 1 = omega (arith, all, same) in
            record { many = 1; some = omega arith; few = omega arith; front = same; behind = ap (λ k. drop k (t ++ [])) (sym on) ∙ drop-all-but t [] 1 }
      ]
  cut-at r (q ∷ qs) n few ends =
      let t = rest_of r in
      let u = text_in (q ∷ qs) in
      let all : length (t ++ 10 ∷ u) ≡ length t + suc (length u) = length-append t (10 ∷ u) in
      elim (cases_lt n (length t)) [
        | inl less ↦ absurd (inside-line t (10 ∷ u) n (every-drop (λ (c : ℕ). (c == 10) ≡ false) r.columns (line_bytes r.line) (no-ending r.line)) less ends)
        | inr more ↦ later (λ m few ends. cut-at q qs m few ends) (n - length t) (omega (arith, more))
      ]
    where
      t : List ℕ
      t = rest_of r

      u : List ℕ
      u = text_in (q ∷ qs)

      later : ((m : ℕ) → m ≤ length u → line_ends (drop m u) ≡ true → CutAt (q ∷ qs) m) → (m : ℕ) → length t + m ≡ n → CutAt (r ∷ q ∷ qs) n
      later cut zero e =
          let on : length t + 1 ≡ n + 1 = omega (arith, e) in
          let none : length (t ++ []) ≡ length t = ap (λ (l : List ℕ). length l) (append-nil t) in
          record { many = 1; some = omega arith; few = omega arith; front = omega (arith, e, none); behind = ap (λ k. drop k (t ++ 10 ∷ u)) (sym on) ∙ drop-all-but t (10 ∷ u) 1 }
      later cut (suc m) e =
          let all : length (t ++ 10 ∷ u) ≡ length t + suc (length u) = length-append t (10 ∷ u) in
          let place : drop n (t ++ 10 ∷ u) ≡ drop m u = ap (λ k. drop k (t ++ 10 ∷ u)) (sym e) ∙ drop-all-but t (10 ∷ u) (suc m) in
          let more = cut m (omega (arith, few, all, e)) (ap line_ends (sym place) ∙ ends) in
          let on : length t + suc (m + 1) ≡ n + 1 = omega (arith, e) in
          let some = more.some in
          let size = more.few in
          record {
            many = suc more.many;
            some = omega arith;
            few = omega (arith, size);
            front = first more.many some more.front;
            behind = ap (λ k. drop k (t ++ 10 ∷ u)) (sym on) ∙ drop-all-but t (10 ∷ u) (suc (m + 1)) ∙ more.behind;
          }
        where
          first : (k : ℕ) → 1 ≤ k → length (text_in (take k (q ∷ qs))) ≡ m → length (text_in (r ∷ take k (q ∷ qs))) ≡ n
          first zero some is = absurd (omega (arith, some))
          first (suc k) some is =
              let all = length-append t (10 ∷ text_in (q ∷ take k qs)) in
              omega (arith, all, is, e)

  -- ---- the definitions of lines

  begins-more : (c f : ℕ) (x y : List ℕ) → begins_with c (drop f x) ≡ true → begins_with c (drop f (x ++ y)) ≡ true
  begins-more c zero [] y e = absurd (false≢true e)
  begins-more c zero (b ∷ bs) y e = e
  begins-more c (suc f) [] y e = absurd (false≢true e)
  begins-more c (suc f) (b ∷ bs) y e = begins-more c f bs y e

  begins-front : (c f : ℕ) (x y z : List ℕ) → x ≡ y ++ z → begins_with c (drop f y) ≡ true → begins_with c (drop f x) ≡ true
  begins-front c f x y z e h = ap (λ l. begins_with c (drop f l)) e ∙ begins-more c f y z h

  joint-ends : (last : Row) (bs : List Row) → line_ends (text_of (joint last bs)) ≡ true
  joint-ends last [] = refl
  joint-ends last (b ∷ bs) = refl

  joint-first : (last : Row) (bs : List Row) → AllByRecursion (λ (x : Place). is_byte x ≡ false) (take 1 (joint last bs))
  joint-first last [] = tt
  joint-first last (b ∷ bs) = (refl, tt)

  joint-behind : (last : Row) (bs : List Row) → drop 1 (joint last bs) ≡ places_in bytes bs
  joint-behind last [] = refl
  joint-behind last (b ∷ bs) = refl

  seam-one : (xs ys : List Place) (n : ℕ) → length xs ≡ n → drop n (xs ++ ys) ≡ ys
  seam-one xs ys n e = ap (λ k. drop k (xs ++ ys)) (sym e) ∙ drop-append_seam xs ys

  seam-more : (xs ys : List Place) (n : ℕ) → length xs ≡ n → drop (n + 1) (xs ++ ys) ≡ drop 1 ys
  seam-more [] ys n e = let one : n + 1 ≡ 1 = omega (arith, e) in ap (λ k. drop k ys) one
  seam-more (x ∷ xs) ys zero e = absurd (omega (arith, e))
  seam-more (x ∷ xs) ys (suc n) e = let on : suc n + 1 ≡ suc (n + 1) = omega arith in ap (λ k. drop k (x ∷ (xs ++ ys))) on ∙ seam-more xs ys n (omega (arith, e))

  -- a definition over the first of some lines, and definitions behind it
  more-laid : (d : Definition) (ds : List Definition) (a : Row) (cs bs : List Row) (x : List ℕ) (z : List ℕ) → IsLaid x d → x ≡ text_of (places_in bytes (a ∷ (cs ++ bs))) ++ z → length (places_in bytes (a ∷ cs)) ≡ d.size
      → AreLaid ds (places_in bytes bs) → AreLaid (d ∷ ds) (places_in bytes (a ∷ (cs ++ bs)))
  more-laid d ds a cs bs x z laid front size more =
      let n = d.size in
      let whole = places_in bytes (a ∷ (cs ++ bs)) in
      let first = places_in bytes (a ∷ cs) in
      let last = joint (last_of a cs) bs in
      let both : whole ≡ first ++ last = places-both a cs bs in
      let place : drop n whole ≡ last = ap (drop n) both ∙ seam-one first last n size in
      let long = length-append first last in
      let all = length-map whole text_byte in
      let count = ap (λ (l : List Place). length l) both in
      let one : n + 1 - n ≡ 1 = omega arith in (
        record {
          label = laid.label;
          colon = laid.colon;
          literal = λ e. laid.literal (begins-front 60 d.destination.from x (text_of whole) z front e);
          title = laid.title;
          ended = laid.ended;
          inside = omega (arith, all, count, long, size);
          line = ap line_ends (drop-map text_byte n whole ∙ ap text_of place) ∙ joint-ends (last_of a cs) bs;
        },
        subst (AllByRecursion (λ (y : Place). is_byte y ≡ false)) (λ k. take (sym one k) (sym place k)) (joint-first (last_of a cs) bs),
        subst (AreLaid ds) (sym (ap (drop (n + 1)) both ∙ seam-more first last n size ∙ joint-behind (last_of a cs) bs)) more,
      )

  -- So many lines of a paragraph have its definitions, and the text of the others is left
  pub record HasDefinitions (rs : List Row) : Type 0 where
    pub many : ℕ
    pub few : many ≤ length rs
    pub left : rest (text_in rs) ≡ text_in (drop many rs)
    pub laid : AreLaid (definitions (text_in rs)) (places_in bytes (take many rs))

  some-more : (x y : List ℕ) → has_none x ≡ false → 0 < length (x ++ y)
  some-more [] y e = absurd (false≢true (sym e))
  some-more (b ∷ bs) y e = omega arith

  -- a place of lines in front is one of all
  text-front : (k : ℕ) (rs : List Row) → (z : List ℕ) × (text_in rs ≡ text_of (places_in bytes (take k rs)) ++ z)
  text-front zero rs = (text_in rs, refl)
  text-front (suc k) [] = ([], refl)
  text-front (suc k) (r ∷ rs) =
      let whole : r ∷ (take k rs ++ drop k rs) ≡ r ∷ rs = ap (λ (l : List Row). r ∷ l) (take-append-drop k rs) in
      let last = joint (last_of r (take k rs)) (drop k rs) in
      (text_of last, sym (text-is (r ∷ rs)) ∙ ap (λ l. text_of (places_in bytes l)) (sym whole) ∙ ap text_of (places-both r (take k rs) (drop k rs)) ∙ map-append text_byte (places_in bytes (r ∷ take k rs)) last)

  has-definitions : (bound : ℕ) (rs : List Row) → length rs ≤ bound → AllByRecursion IsFilled rs → HasDefinitions rs
  has-definitions bound [] h filled = record { many = 0; few = omega arith; left = refl; laid = refl }
  has-definitions zero (r ∷ rs) h filled = absurd (omega (arith, h))
  has-definitions (suc bound) (r ∷ rs) h filled = by (λ xs few all. has-definitions bound xs few all) (definition_at text) refl
    where
      text : List ℕ
      text = text_in (r ∷ rs)

      some : 0 < length text
      some = some-more (rest_of r) (cond (has_none rs) [] (10 ∷ text_in rs)) filled.0

      by : ((xs : List Row) → length xs ≤ bound → AllByRecursion IsFilled xs → HasDefinitions xs) → (o : Option Definition) → definition_at text ≡ o → HasDefinitions (r ∷ rs)
      by later None e = record { many = 0; few = omega arith; left = no-rest text e; laid = subst (λ ds. AreLaid ds []) (sym (no-more text e)) refl }
      by later (Some d) e =
          let laid = definition-laid text d e in
          let cut = cut-at r rs d.size laid.inside laid.line in
          let j = cut.many in
          let others = drop j (r ∷ rs) in
          let some-lines = cut.some in
          let more = later others (omega (arith, h, some-lines, length-drop j (r ∷ rs))) (every-drop IsFilled j (r ∷ rs) filled) in
          let k = more.many in
          let left-few = more.few in
          let cut-few = cut.few in
          let are : definitions text ≡ d ∷ definitions (text_in others) = one-more text d some e ∙ ap (λ x. d ∷ definitions x) cut.behind in
          record {
            many = j + k;
            few = omega (arith, left-few, cut-few, length-drop j (r ∷ rs));
            left = rest-more text d some e ∙ ap rest cut.behind ∙ more.left ∙ ap text_in (drop-drop k j (r ∷ rs));
            laid = subst (λ ds. AreLaid ds (places_in bytes (take (j + k) (r ∷ rs)))) (sym are)
                (front j k d (definitions (text_in others)) laid some-lines cut.front more.laid);
          }
        where
          front : (j k : ℕ) (d : Definition) (ds : List Definition) → IsLaid text d → 1 ≤ j → length (text_in (take j (r ∷ rs))) ≡ d.size → AreLaid ds (places_in bytes (take k (drop j (r ∷ rs)))) → AreLaid (d ∷ ds) (places_in bytes (take (j + k) (r ∷ rs)))
          front zero k d ds laid some size more = absurd (omega (arith, some))
          front (suc j) k d ds laid some size more =
              let both : take (suc j) (r ∷ rs) ++ take k (drop (suc j) (r ∷ rs)) ≡ take (suc j + k) (r ∷ rs) = sym (take-add (suc j) k (r ∷ rs)) in
              let first : text ≡ text_of (places_in bytes (take (suc j + k) (r ∷ rs))) ++ (text-front (suc j + k) (r ∷ rs)).0 = (text-front (suc j + k) (r ∷ rs)).1 in
              subst (λ (l : List Row). AreLaid (d ∷ ds) (places_in bytes l)) both
              (more-laid d ds r (take j rs) (take k (drop j rs)) text (text-front (suc j + k) (r ∷ rs)).0 laid (first ∙ ap (λ (l : List Row). text_of (places_in bytes l) ++ (text-front (suc j + k) (r ∷ rs)).0) (sym both)) (size-is (r ∷ take j rs) ∙ size) more)

  -- ---- how many lines that is

  lines-are : (rs : List Row) → AllByRecursion IsFilled rs → lines_of (text_in rs) ≡ length rs
  lines-are [] h = refl
  lines-are (r ∷ rs) h = by (text_in (r ∷ rs)) (some-more (rest_of r) (cond (has_none rs) [] (10 ∷ text_in rs)) h.0) (tens-in r rs)
    where
      by : (text : List ℕ) → 0 < length text → length (filter (λ c. c == 10) text) ≡ length rs → lines_of text ≡ suc (length rs)
      by [] some e = absurd (omega (arith, some))
      by (b ∷ bs) some e = ap suc e

  lines-defined : (rs : List Row) → AllByRecursion IsFilled rs → (h : HasDefinitions rs) → lines_defined (text_in rs) ≡ h.many
  lines-defined rs filled h =
      let all = lines-are rs filled in
      let left = ap lines_of h.left ∙ lines-are (drop h.many rs) (every-drop IsFilled h.many rs filled) in
      let few = h.few in
      omega (arith, all, left, few, length-drop h.many rs)

  -- ---- of a stretch

  -- what is so from the front on
  front-so : (p : Row → Bool) (rs : List Row) → AllByRecursion (λ (r : Row). p r ≡ true) (take (prefix_len p rs) rs)
  front-so p [] = tt
  front-so p (r ∷ rs) = by (front-so p rs) (p r) refl
    where
      by : AllByRecursion (λ (x : Row). p x ≡ true) (take (prefix_len p rs) rs) → (b : Bool) → p r ≡ b → AllByRecursion (λ (x : Row). p x ≡ true) (take (cond b (1 + prefix_len p rs) 0) (r ∷ rs))
      by rest true e = let on : 1 + prefix_len p rs ≡ suc (prefix_len p rs) = omega arith in subst (λ n. AllByRecursion (λ (x : Row). p x ≡ true) (take n (r ∷ rs))) (sym on) (e, rest)
      by rest false e = tt

  -- a paragraph is open behind no line with nothing behind its prefixes
  abbrev IsOpen : Row → Type 0
  IsOpen r = is_paragraph r.leaf ≡ true → IsFilled r

  filled-front : (rs : List Row) → AllByRecursion IsOpen rs → AllByRecursion (λ (r : Row). is_paragraph r.leaf ≡ true) rs → AllByRecursion IsFilled rs
  filled-front [] h k = tt
  filled-front (r ∷ rs) h k = (h.0 k.0, filled-front rs h.1 k.1)

  -- The lines of a stretch with which definitions begin: a paragraph is open behind each, and the definitions are theirs
  pub record AreDefined (ds : List Definition) (rs : List Row) : Type 0 where
    pub laid : AreLaid ds (places_in bytes rs)
    pub open_behind : AllByRecursion (λ (r : Row). is_paragraph r.leaf ≡ true) rs

  pub lines-are-defined : (on : Constructs) (rs : List Row) → AllByRecursion IsOpen rs → on.definition ≡ true → AreDefined (definitions (text_in (paragraph_of rs))) (take (defined_in on rs) rs)
  lines-are-defined on rs h is =
      let p = prefix_len (λ (r : Row). is_paragraph r.leaf) rs in
      let all-open = front-so (λ (r : Row). is_paragraph r.leaf) rs in
      let filled = filled-front (paragraph_of rs) (every-take IsOpen p rs h) all-open in
      let all = has-definitions (length (paragraph_of rs)) (paragraph_of rs) (omega arith) filled in
      let k = all.many in
      let few = all.few in
      let size : defined_in on rs ≡ k = ap (λ b. cond b (lines_defined (text_in (paragraph_of rs))) 0) is ∙ lines-defined (paragraph_of rs) filled all in
      let same : take k (paragraph_of rs) ≡ take (defined_in on rs) rs = take_of_take k p rs few ∙ ap (λ n. take n rs) (sym size) in
      record {
        laid = subst (λ (l : List Row). AreLaid (definitions (text_in (paragraph_of rs))) (places_in bytes l)) same all.laid;
        open_behind = subst (AllByRecursion (λ (r : Row). is_paragraph r.leaf ≡ true)) same (every-take (λ (r : Row). is_paragraph r.leaf ≡ true) k (paragraph_of rs) all-open);
      }
