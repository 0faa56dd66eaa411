-- What is said of the lines of a stretch before which no definitions stand: none of them is text because the text before it is of definitions alone.
use Rattle.std.proofs.Common.{◌≡◌, ◌⊎◌, ◌∙◌, ◌+◌, ◌<◌, ◌≤◌, ℕ, zero, suc, Bool, true, false, cond, List, [], ◌∷◌, ◌++◌, ap, append_assoc, arith, drop, inl, inr, length, length-append, length-drop, not, refl, subst, sym, take}
use Rattle.std.specs.Prelude.{◌==◌, ◌&&◌, nat_le, is_some}
use Rattle.std.specs.List.{AllByRecursion, prefix_len}
use Rattle.std.proofs.Math.Bool.{and-false}
use Rattle.std.proofs.lemmas.Bool.{false≢true, leb-false}
use Rattle.markdown_base.proofs.Common.{every-drop}
use Rattle.markdown_base.specs.declared.configuration.Constructs.{Constructs}
use Rattle.mdblock_leaf_blocks.specs.LineKinds.{indent, line_kind, text, underline_rank}
use Rattle.mdblock_containers.proofs.LazyLemmas.{underline_some}
use Rattle.mdblock_containers.specs.Rows.{Row, has_none, is_paragraph, rest_of}
use Rattle.mdinline_labels.specs.Definitions.{rest}
use Rattle.mdblock_definitions.proofs.DefinedText.{lines-some, tens-both, tens-rest}
use Rattle.mdblock_definitions.proofs.LeftLines.{EndsFull, underline-is-left}
use Rattle.mdblock_definitions.proofs.SectionLemmas.{tens}
use Rattle.mdblock_definitions.proofs.SectionTurns.{not-blank-some}
use Rattle.mdblock_definitions.specs.Rows.{is_used_up}
use Rattle.mdblock_definitions.specs.Sections.{before_defined, defined_in, lines_defined, lines_of, paragraph_of, text_in}
use Rattle.mdblock_paragraphs.proofs.ToldRows.{AreTold, IsMore, IsUnderDefinitions, Told, text_behind}

-- ---- texts

pub full-more : (xs ys : List ℕ) → EndsFull ys → EndsFull (xs ++ ys)
full-more xs ys h = record { front = xs ++ h.front; last = h.last; is = ap (λ l. xs ++ l) h.is ∙ sym (append_assoc xs h.front (h.last ∷ [])); full = h.full }

pub full-line : (xs : List ℕ) → has_none xs ≡ false → tens xs ≡ 0 → EndsFull xs
full-line [] h e = absurd (cc)
full-line (x ∷ []) h e = record { front = []; last = x; is = refl; full = by (x == 10) e }
  where
    by : (b : Bool) → length (cond b (x ∷ []) []) ≡ 0 → b ≡ false
    by true e = absurd (omega (arith, e))
    by false e = refl
full-line (x ∷ y ∷ xs) h e = full-more (x ∷ []) (y ∷ xs) (full-line (y ∷ xs) refl (omega (arith, e, tens-both (x ∷ []) (y ∷ xs))))

pub some-long : (t : List ℕ) → has_none t ≡ false → 0 < length t
some-long [] h = absurd (cc)
some-long (x ∷ t) h = omega arith

full-long : (t : List ℕ) → EndsFull t → 0 < length t
full-long t h =
    let size = ap (λ (l : List ℕ). length l) h.is in
    let both = length-append h.front (h.last ∷ []) in
    omega (arith, size, both)

-- what comes behind a line of a paragraph
abbrev pub text_after : List Row → List ℕ
text_after ps = cond (has_none ps) [] (10 ∷ text_in ps)

pub paragraph-more : (r : Row) (rs : List Row) → is_paragraph r.leaf ≡ true → paragraph_of (r ∷ rs) ≡ r ∷ paragraph_of rs
paragraph-more r rs e =
    let n = prefix_len (λ (row : Row). is_paragraph row.leaf) rs in
    let one : 1 + n ≡ suc n = omega arith in
    ap (λ b. take (cond b (1 + n) 0) (r ∷ rs)) e ∙ ap (λ k. take k (r ∷ rs)) one

-- A paragraph may be open before lines: none is; one is, and it begins with fewer definitions than it has lines; or one is of which nothing is said
pub data Mode : Type 0 where
  none_open : Mode
  goes_on : Mode
  not_said : Mode

abbrev pub mode_behind : Mode → (is_text : Bool) → Mode
mode_behind none_open p = cond p goes_on none_open
mode_behind goes_on p = cond p goes_on none_open
mode_behind not_said p = cond p not_said none_open

-- a line that a stretch goes on with
abbrev pub StaysOn : Row → Type 0
StaysOn r = (r.is_left_blank ≡ true) ⊎ (r.stays ≡ true)

module _ (on : Constructs) where
  -- What is said of a line
  abbrev pub RowSaid : Mode → Row → Type 0
  RowSaid none_open r = is_paragraph r.leaf ≡ true → (line_kind on (rest_of r) ≡ text) × (r.is_lazy ≡ false)
  RowSaid goes_on r = is_paragraph r.leaf ≡ true → IsMore on r
  RowSaid not_said r = Unit {0}

  abbrev pub AreSaid : Mode → List Row → Type 0
  AreSaid m [] = Unit {0}
  AreSaid m (r ∷ rs) = RowSaid m r × AreSaid (mode_behind m (is_paragraph r.leaf)) rs

  -- ---- the definitions at the front of a paragraph's text

  -- they have fewer lines than it has so far
  pub record Inside (so_far : List ℕ) (rs : List Row) : Type 0 where
    pub few : lines_defined (so_far ++ text_after (paragraph_of rs)) < lines_of so_far
    pub full : EndsFull so_far

  -- they have all lines before an underline of them alone
  pub none-here : (t line more : List ℕ) → EndsFull t → is_used_up t ≡ true → is_some (underline_rank on line) ≡ true → lines_defined (t ++ 10 ∷ (line ++ more)) ≡ lines_of t
  none-here t line more full used underline =
      let w = line ++ more in
      let y = t ++ 10 ∷ w in
      let gone : rest y ≡ w = underline-is-left on t line more used full underline in
      let some = underline_some on line underline in
      let few = length-drop (indent line) line in
      let size = length-append line more in
      let three = length-append t (10 ∷ w) in
      let behind = ap lines_of gone ∙ lines-some w (omega (arith, some, few, size)) in
      let whole = lines-some y (omega (arith, three)) in
      let here = lines-some t (full-long t full) in
      let tens-are = tens-both t (10 ∷ w) in
      omega (arith, behind, whole, here, tens-are)

  none-under : (t : List ℕ) (r : Row) (rs : List Row) → IsUnderDefinitions on t r → Inside t (r ∷ rs) → is_paragraph r.leaf ≡ true → ⊥
  none-under t r rs under inside e =
      let many = none-here t (rest_of r) (text_after (paragraph_of rs)) inside.full under.used under.underline in
      let same : lines_defined (t ++ text_after (paragraph_of (r ∷ rs))) ≡ lines_of t = ap (λ ps. lines_defined (t ++ text_after ps)) (paragraph-more r rs e) ∙ many in
      let few = inside.few in
      omega (arith, few, same)

  module _ (is_open : Bool) (so_far : List ℕ) (r : Row) (rs : List Row) (told : Told on is_open so_far r) (is-text : is_paragraph r.leaf ≡ true) where
    line-full : EndsFull (rest_of r)
    line-full = full-line (rest_of r) (not-blank-some (rest_of r) (told.full is-text)) (tens-rest r)

    begins-inside : on.definition ≡ true → nat_le 1 (defined_in on (r ∷ rs)) ≡ false → Inside (rest_of r) rs
    begins-inside defines nothing =
        let zero-many : defined_in on (r ∷ rs) ≡ lines_defined (rest_of r ++ text_after (paragraph_of rs)) =
        ap (λ b. cond b (lines_defined (text_in (paragraph_of (r ∷ rs)))) 0) defines ∙ ap (λ qs. lines_defined (text_in qs)) (paragraph-more r rs is-text) in
        let long = lines-some (rest_of r) (full-long (rest_of r) line-full) in
        let few = leb-false 1 (defined_in on (r ∷ rs)) nothing in
        record { few = omega (arith, few, zero-many, long); full = line-full }

    goes-inside : Inside so_far (r ∷ rs) → Inside (so_far ++ 10 ∷ rest_of r) rs
    goes-inside inside =
        let ps = paragraph_of rs in
        let more : so_far ++ text_after (r ∷ ps) ≡ (so_far ++ 10 ∷ rest_of r) ++ text_after ps = sym (append_assoc so_far (10 ∷ rest_of r) (text_after ps)) in
        let same : lines_defined ((so_far ++ 10 ∷ rest_of r) ++ text_after ps) ≡ lines_defined (so_far ++ text_after (paragraph_of (r ∷ rs))) =
        ap lines_defined (sym more) ∙ ap (λ qs. lines_defined (so_far ++ text_after qs)) (sym (paragraph-more r rs is-text)) in
        let here = lines-some so_far (full-long so_far inside.full) in
        let size = length-append so_far (10 ∷ rest_of r) in
        let long = lines-some (so_far ++ 10 ∷ rest_of r) (omega (arith, size)) in
        let both = tens-both so_far (10 ∷ rest_of r) in
        let few = inside.few in
        record { few = omega (arith, few, same, here, long, both); full = full-more so_far (10 ∷ rest_of r) (full-more (10 ∷ []) (rest_of r) line-full) }

  -- ---- the lines before the first definitions

  -- a line that begins a paragraph, if it is text
  pub record Begins (is_open in_paragraph : Bool) (r : Row) : Type 0 where
    pub out : in_paragraph ≡ false
    pub apart : is_paragraph r.leaf ≡ true → (r.stays && is_open) ≡ false

  -- a line that goes on with one, if it is text
  pub record Goes (is_open : Bool) (so_far : List ℕ) (r : Row) (rs : List Row) : Type 0 where
    pub open_is : is_open ≡ true
    pub stays : StaysOn r
    pub inside : on.definition ≡ true → Inside so_far (r ∷ rs)

  abbrev pub FirstReady : Mode → (is_open in_paragraph : Bool) → (so_far : List ℕ) → Row → List Row → Type 0
  FirstReady none_open is_open q so_far r rs = Begins is_open q r
  FirstReady goes_on is_open q so_far r rs = Goes is_open so_far r rs
  FirstReady not_said is_open q so_far r rs = Unit {0}

  abbrev pub Ready : Mode → (is_open in_paragraph : Bool) → (so_far : List ℕ) → List Row → Type 0
  Ready m is_open q so_far [] = Unit {0}
  Ready m is_open q so_far (r ∷ rs) = FirstReady m is_open q so_far r rs

  pub ready-apart : (is_open : Bool) (so_far : List ℕ) (r : Row) (rs : List Row) → (is_paragraph r.leaf ≡ true → (r.stays && is_open) ≡ false) → Ready none_open is_open false so_far (r ∷ rs)
  ready-apart is_open so_far r rs h = record { out = refl; apart = h }

  pub ready-unsaid : (is_open q : Bool) (so_far : List ℕ) (rs : List Row) → Ready not_said is_open q so_far rs
  ready-unsaid is_open q so_far [] = tt
  ready-unsaid is_open q so_far (r ∷ rs) = tt

  stays-then : (is_open : Bool) (so_far : List ℕ) (r : Row) → Told on is_open so_far r → StaysOn r → is_paragraph r.leaf ≡ true → r.stays ≡ true
  stays-then is_open so_far r told s e = elim s [ inl left ↦ absurd (false≢true (sym (told.left left) ∙ e)) | inr stays ↦ stays ]

  row-said : (m : Mode) (is_open q : Bool) (so_far : List ℕ) (r : Row) (rs : List Row) → Told on is_open so_far r → FirstReady m is_open q so_far r rs → RowSaid m r
  row-said none_open is_open q so_far r rs told ready = λ e. told.begins e (ready.apart e)
  row-said goes_on is_open q so_far r rs told ready = λ e.
      let stays = stays-then is_open so_far r told ready.stays e in
      let opened = ready.open_is in
      elim (told.more e (λ i. stays i && opened i)) [ inl is ↦ is | inr under ↦ absurd (none-under so_far r rs under (ready.inside under.on_is) e) ]
  row-said not_said is_open q so_far r rs told ready = tt

  -- the next line
  next-ready : (m : Mode) (is_open q : Bool) (so_far : List ℕ) (r s : Row) (ss : List Row) → Told on is_open so_far r → FirstReady m is_open q so_far r (s ∷ ss) → StaysOn s
      → (not q && nat_le 1 (defined_in on (r ∷ s ∷ ss))) ≡ false → (p : Bool) → is_paragraph r.leaf ≡ p
      → FirstReady (mode_behind m p) p p (cond p (cond (r.stays && is_open) (so_far ++ 10 ∷ rest_of r) (rest_of r)) []) s ss
  next-ready none_open is_open q so_far r s ss told ready stay none true e = record {
    open_is = refl;
    stays = stay;
    inside = λ d.
        let nothing : nat_le 1 (defined_in on (r ∷ s ∷ ss)) ≡ false = ap (λ b. not b && nat_le 1 (defined_in on (r ∷ s ∷ ss))) (sym ready.out) ∙ none in
        subst (λ (b : Bool). Inside (cond b (so_far ++ 10 ∷ rest_of r) (rest_of r)) (s ∷ ss)) (sym (ready.apart e)) (begins-inside is_open so_far r (s ∷ ss) told e d nothing);
  }
  next-ready goes_on is_open q so_far r s ss told ready stay none true e = record {
    open_is = refl;
    stays = stay;
    inside = λ d.
        let stays = stays-then is_open so_far r told ready.stays e in
        let opened = ready.open_is in
        let both : (r.stays && is_open) ≡ true = (λ i. stays i && opened i) in
        subst (λ (b : Bool). Inside (cond b (so_far ++ 10 ∷ rest_of r) (rest_of r)) (s ∷ ss)) (sym both) (goes-inside is_open so_far r (s ∷ ss) told e (ready.inside d));
  }
  next-ready not_said is_open q so_far r s ss told ready stay none true e = tt
  next-ready none_open is_open q so_far r s ss told ready stay none false e = record { out = refl; apart = λ f. and-false s.stays }
  next-ready goes_on is_open q so_far r s ss told ready stay none false e = record { out = refl; apart = λ f. and-false s.stays }
  next-ready not_said is_open q so_far r s ss told ready stay none false e = record { out = refl; apart = λ f. and-false s.stays }

  all-ready : (m : Mode) (is_open q : Bool) (so_far : List ℕ) (r : Row) (rs : List Row) → Told on is_open so_far r → FirstReady m is_open q so_far r rs → AllByRecursion StaysOn rs
      → (not q && nat_le 1 (defined_in on (r ∷ rs))) ≡ false → Ready (mode_behind m (is_paragraph r.leaf)) (is_paragraph r.leaf) (is_paragraph r.leaf) (text_behind on is_open so_far r) rs
  all-ready m is_open q so_far r [] told ready stay none = tt
  all-ready m is_open q so_far r (s ∷ ss) told ready stay none = next-ready m is_open q so_far r s ss told ready stay.0 none (is_paragraph r.leaf) refl

  -- So many lines at most as come before definitions
  pub said-before : (m : Mode) (is_open q : Bool) (so_far : List ℕ) (n : ℕ) (rs : List Row) → AreTold on is_open so_far rs → AllByRecursion StaysOn (drop 1 rs) → Ready m is_open q so_far rs
      → n ≤ before_defined on q rs → AreSaid m (take n rs)
  said-before m is_open q so_far zero rs told stay ready few = tt
  said-before m is_open q so_far (suc n) [] told stay ready few = tt
  said-before m is_open q so_far (suc n) (r ∷ rs) told stay ready few =
      by (λ k o p t a b c d. said-before k o p t n rs a b c d) (not q && nat_le 1 (defined_in on (r ∷ rs))) refl few
    where
      by : ((k : Mode) (o p : Bool) (t : List ℕ) → AreTold on o t rs → AllByRecursion StaysOn (drop 1 rs) → Ready k o p t rs → n ≤ before_defined on p rs → AreSaid k (take n rs))
          → (c : Bool) → (not q && nat_le 1 (defined_in on (r ∷ rs))) ≡ c → suc n ≤ cond c 0 (suc (before_defined on (is_paragraph r.leaf) rs)) → RowSaid m r × AreSaid (mode_behind m (is_paragraph r.leaf)) (take n rs)
      by more true e k = absurd (omega (arith, k))
      by more false e k = (
        row-said m is_open q so_far r rs told.0 ready,
        more (mode_behind m (is_paragraph r.leaf)) (is_paragraph r.leaf) (is_paragraph r.leaf) (text_behind on is_open so_far r) told.1 (every-drop StaysOn 1 rs stay) (all-ready m is_open q so_far r rs told.0 ready stay e) (omega (arith, k)),
      )
