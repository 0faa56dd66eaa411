-- What is said of the lines of sections that do not come directly behind definitions.
use Rattle.std.proofs.Common.{◌≡◌, ◌∙◌, ℕ, zero, suc, Bool, true, false, cond, List, [], ◌∷◌, ◌++◌, ap, arith, drop, inl, inr, length, map, refl, subst, sym, take, ◌+◌}
use Rattle.std.specs.Prelude.{◌&&◌, nat_le}
use Rattle.std.specs.List.{AllByRecursion, flat_map, prefix_len}
use Rattle.std.proofs.Math.Bool.{and-false}
use Rattle.std.proofs.lemmas.Bool.{false≢true}
use Rattle.markdown_base.proofs.Common.{every-append, every-drop, every-take}
use Rattle.markdown_base.specs.declared.configuration.Constructs.{Constructs}
use Rattle.mdblock_leaf_blocks.proofs.Lines.WholeLines.{IsWhole}
use Rattle.mdblock_leaf_blocks.specs.LeafBlocks.{Line}
use Rattle.mdblock_containers.proofs.RowSpans.{head_same}
use Rattle.mdblock_containers.specs.Rows.{Row, has_none, is_paragraph, nothing_known, Leaf, closed, is_table, open_fence, open_html, open_paragraph, open_table}
use Rattle.mdblock_containers.specs.Skeleton.{Part, further, parts, parts_in}
use Rattle.mdblock_table_marks.specs.TableCuts.{cut_at_tables}
use Rattle.mdinline_labels.specs.declared.definitions.Definition.{Definition}
use Rattle.mdinline_labels.specs.Definitions.{definitions}
use Rattle.mdblock_definitions.specs.Rows.{rows}
use Rattle.mdblock_definitions.specs.Sections.{Section, before_defined, begins_text, cut, defined, defined_in, defining, in_same, lines, paragraph_of, sections, sections_in, sections_of, text_in, undefined, table, is_in_table, sections_of_cut}
use Rattle.mdblock_definitions.specs.Skeleton.{all_rows}
use Rattle.mdblock_definitions.proofs.CutAlike.{undefined-is}
use Rattle.mdblock_definitions.proofs.TableCutting.{TableIs, cuts-are}
use Rattle.mdblock_paragraphs.proofs.SaidRows.{AreSaid, Mode, Ready, StaysOn, goes_on, mode_behind, none_open, not_said, ready-apart, ready-unsaid, said-before}
use Rattle.mdblock_paragraphs.proofs.ToldRows.{AreTold, HasTold, IsKept, rows-told, text_behind, told-drop, told-kept, told-take}

-- ---- lines that a stretch goes on with

-- behind the further lines of a stretch comes none that stays
further-stops : (rs : List Row) (s : Row) (ss : List Row) → drop (further rs) rs ≡ s ∷ ss → s.is_left_blank ≡ false → s.stays ≡ false
further-stops [] s ss e f = absurd (false≢true (sym (ap has_none e)))
further-stops (r ∷ rs) s ss e f = by r.is_left_blank r.stays (nat_le 1 (further rs)) refl refl (λ k. further-stops rs s ss k f) e
  where
    by : (x y z : Bool) → r.is_left_blank ≡ x → r.stays ≡ y → (drop (further rs) rs ≡ s ∷ ss → s.stays ≡ false) → drop (cond x (cond z (suc (further rs)) 0) (cond y (suc (further rs)) 0)) (r ∷ rs) ≡ s ∷ ss → s.stays ≡ false
    by true y true ex ey more k = more k
    by true y false ex ey more k = absurd (false≢true (sym f ∙ ap (λ (x : Row). x.is_left_blank) (sym (head_same r s rs ss k).0) ∙ ex))
    by false true z ex ey more k = more k
    by false false z ex ey more k = ap (λ (x : Row). x.stays) (sym (head_same r s rs ss k).0) ∙ ey

-- its further lines do
further-all : (rs : List Row) → AllByRecursion StaysOn (take (further rs) rs)
further-all [] = tt
further-all (r ∷ rs) = by r.is_left_blank r.stays (nat_le 1 (further rs)) refl refl (further-all rs)
  where
    by : (x y z : Bool) → r.is_left_blank ≡ x → r.stays ≡ y → AllByRecursion StaysOn (take (further rs) rs) → AllByRecursion StaysOn (take (cond x (cond z (suc (further rs)) 0) (cond y (suc (further rs)) 0)) (r ∷ rs))
    by true y true ex ey more = (inl ex, more)
    by true y false ex ey more = tt
    by false true z ex ey more = (inr ey, more)
    by false false z ex ey more = tt

stay-take : (n : ℕ) (r : Row) (rs : List Row) → AllByRecursion StaysOn rs → AllByRecursion StaysOn (drop 1 (take n (r ∷ rs)))
stay-take zero r rs h = tt
stay-take (suc n) r rs h = every-take StaysOn n rs h

stay-drop : (n : ℕ) (rs : List Row) → AllByRecursion StaysOn (drop 1 rs) → AllByRecursion StaysOn (drop 1 (drop n rs))
stay-drop zero rs h = h
stay-drop (suc n) [] h = tt
stay-drop (suc n) (r ∷ rs) h = every-drop StaysOn 1 (drop n rs) (every-drop StaysOn n rs h)

module _ (on : Constructs) where
  -- ---- parts of lines

  said-take : (m : Mode) (n : ℕ) (rs : List Row) → AreSaid on m rs → AreSaid on m (take n rs)
  said-take m zero rs h = tt
  said-take m (suc n) [] h = tt
  said-take m (suc n) (r ∷ rs) h = (h.0, said-take (mode_behind m (is_paragraph r.leaf)) n rs h.1)

  record HasSaid (rs : List Row) : Type 0 where
    pub mode : Mode
    pub said : AreSaid on mode rs

  said-drop : (n : ℕ) (rs : List Row) → HasSaid rs → HasSaid (drop n rs)
  said-drop zero rs h = h
  said-drop (suc n) [] h = h
  said-drop (suc n) (r ∷ rs) h = said-drop n rs (record { mode = mode_behind h.mode (is_paragraph r.leaf); said = h.said.1 })

  shut-mode : (m : Mode) → mode_behind m false ≡ none_open
  shut-mode none_open = refl
  shut-mode goes_on = refl
  shut-mode not_said = refl

  -- of a line that is no text, and those behind it, the same is said wherever it comes
  anew : (m : Mode) (s : Row) (ss : List Row) → AreSaid on m (s ∷ ss) → is_paragraph s.leaf ≡ false → AreSaid on none_open (s ∷ ss)
  anew m s ss h e =
      let same : mode_behind m (is_paragraph s.leaf) ≡ mode_behind none_open (is_paragraph s.leaf) = ap (mode_behind m) e ∙ shut-mode m ∙ sym (ap (mode_behind none_open) e) in
      ((λ k. absurd (false≢true (sym e ∙ k))), subst (λ (x : Mode). AreSaid on x ss) same h.1)

  -- a part begins where no paragraph goes on
  behind-part : (m : Mode) (r : Row) (rs : List Row) → AreSaid on m (r ∷ rs) → IsKept on r → AllByRecursion (IsKept on) rs → AllByRecursion StaysOn rs → AreSaid on none_open (drop (cond r.is_blank 0 (further rs)) rs)
  behind-part m r rs h kept keep stay = by r.is_blank refl
    where
      at-first : (qs : List Row) → drop (further rs) rs ≡ qs → HasSaid qs → AllByRecursion (IsKept on) qs → AllByRecursion StaysOn qs → AreSaid on none_open qs
      at-first [] e said keep stay = tt
      at-first (s ∷ ss) e said keep stay = anew said.mode s ss said.said (no-text (is_paragraph s.leaf) refl)
        where
          not-left : (x : Bool) → s.is_left_blank ≡ x → is_paragraph s.leaf ≡ true → s.is_left_blank ≡ false
          not-left true f t = absurd (false≢true (sym (keep.0.left f) ∙ t))
          not-left false f t = f

          no-text : (x : Bool) → is_paragraph s.leaf ≡ x → is_paragraph s.leaf ≡ false
          no-text true f = absurd (elim stay.0 [ inl left ↦ false≢true (sym (keep.0.left left) ∙ f) | inr stays ↦ false≢true (sym (further-stops rs s ss e (not-left s.is_left_blank refl f)) ∙ stays) ])
          no-text false f = f

      by : (x : Bool) → r.is_blank ≡ x → AreSaid on none_open (drop (cond x 0 (further rs)) rs)
      by true e = subst (λ (x : Mode). AreSaid on x rs) (ap (mode_behind m) (kept.blank e) ∙ shut-mode m) h.1
      by false e = at-first (drop (further rs) rs) refl (said-drop (further rs) rs (record { mode = mode_behind m (is_paragraph r.leaf); said = h.1 })) (every-drop (IsKept on) (further rs) rs keep) (every-drop StaysOn (further rs) rs stay)

  abbrev PartSaid : Part → Type 0
  PartSaid p = AreSaid on none_open (all_rows p)

  abbrev PartsSaid : Mode → List Part → Type 0
  PartsSaid m [] = Unit {0}
  PartsSaid m (p ∷ ps) = AreSaid on m (all_rows p) × AllByRecursion PartSaid ps

  all-anew : (ps : List Part) → PartsSaid none_open ps → AllByRecursion PartSaid ps
  all-anew [] h = tt
  all-anew (p ∷ ps) h = h

  parts-said : (b : ℕ) (rs : List Row) (m : Mode) → AreSaid on m rs → AllByRecursion (IsKept on) rs → AllByRecursion StaysOn (drop 1 rs) → PartsSaid m (parts_in b rs)
  parts-said zero rs m h keep stay = tt
  parts-said (suc b) [] m h keep stay = tt
  parts-said (suc b) (r ∷ rs) m h keep stay =
      let n = cond r.is_blank 0 (further rs) in (
        (h.0, said-take (mode_behind m (is_paragraph r.leaf)) n rs h.1),
        all-anew (parts_in b (drop n rs)) (parts-said b (drop n rs) none_open (behind-part m r rs h keep.0 keep.1 stay) (every-drop (IsKept on) n rs keep.1) (every-drop StaysOn 1 (drop n rs) (every-drop StaysOn n rs stay))),
      )

  -- ---- sections of a part

  abbrev pub SectionSaid : Section → Type 0
  SectionSaid s = elim s.inside as (λ _. Type 0) [ lines x ↦ (x ≡ false → AreSaid on none_open (all_rows s.part)) | defined ds ↦ Unit {0} | table ↦ Unit {0} ]

  others-said : (around : Part) (ps : List Part) → AllByRecursion PartSaid ps → AllByRecursion SectionSaid (map (λ p. record { part = p; inside = lines false }) (map (in_same around) ps))
  others-said around [] h = tt
  others-said around (p ∷ ps) h = ((λ e. h.0), others-said around ps h.1)

  sections-of-said : (x : Bool) (around : Part) (rs : List Row) → AreSaid on (cond x not_said none_open) rs → AllByRecursion (IsKept on) rs → AllByRecursion StaysOn (drop 1 rs) → AllByRecursion SectionSaid (sections_of (x && begins_text rs) (map (in_same around) (parts rs)))
  sections-of-said x around [] h keep stay = tt
  sections-of-said x around (r ∷ rs) h keep stay =
      let n = cond r.is_blank 0 (further rs) in
      let said = parts-said (length (r ∷ rs)) (r ∷ rs) (cond x not_said none_open) h keep stay in
      (by x said.0, others-said around (parts_in (length rs) (drop n rs)) said.1)
    where
      by : (x : Bool) → AreSaid on (cond x not_said none_open) (r ∷ take (cond r.is_blank 0 (further rs)) rs) → (x && is_paragraph r.leaf) ≡ false → AreSaid on none_open (r ∷ take (cond r.is_blank 0 (further rs)) rs)
      by true h e = anew not_said r (take (cond r.is_blank 0 (further rs)) rs) h e
      by false h e = h

  undefined-said : (x : Bool) (around : Part) (rs : List Row) → AreSaid on (cond x not_said none_open) rs → AllByRecursion (IsKept on) rs → AllByRecursion StaysOn (drop 1 rs) → AllByRecursion SectionSaid (undefined x around rs)
  undefined-said x around rs h keep stay = subst (AllByRecursion SectionSaid) (sym (undefined-is x around rs)) (sections-of-said x around rs h keep stay)

  defining-said : (ds : List Definition) (around : Part) (rs : List Row) → AllByRecursion SectionSaid (defining ds around rs)
  defining-said ds around [] = tt
  defining-said ds around (r ∷ rs) = (tt, tt)

  sections-said : (b : ℕ) (x : Bool) (around : Part) (is_open : Bool) (so_far : List ℕ) (rs : List Row) → AreTold on is_open so_far rs → Ready on (cond x not_said none_open) is_open false so_far rs
      → AllByRecursion StaysOn (drop 1 rs) → AllByRecursion SectionSaid (sections_in on b x around rs)
  sections-said zero x around is_open so_far rs told ready stay = tt
  sections-said (suc b) x around is_open so_far [] told ready stay = tt
  sections-said (suc b) x around is_open so_far (r ∷ rs) told ready stay =
      let all : List Row = r ∷ rs in
      let n = before_defined on false all in
      let behind = drop n all in
      let d = defined_in on behind in
      let front = undefined x around (take n all) in
      let middle = defining (definitions (text_in (paragraph_of behind))) around (take d behind) in
      let back = sections_in on b true around (drop d behind) in
      let said = said-before on (cond x not_said none_open) is_open false so_far n all told stay ready (omega arith) in
      let keep = every-take (IsKept on) n all (told-kept on is_open so_far all told) in
      let next = told-drop on d behind (told-drop on n all (record { is_open = is_open; so_far = so_far; told = told })) in
      every-append SectionSaid front (middle ++ back) (undefined-said x around (take n all) said keep (stay-take n r rs stay))
      (every-append SectionSaid middle back (defining-said (definitions (text_in (paragraph_of behind))) around (take d behind))
      (sections-said b true around next.is_open next.so_far (drop d behind) next.told (ready-unsaid on next.is_open false next.so_far (drop d behind)) (stay-drop d behind (stay-drop n all stay))))

  -- ---- parts of a document

  -- the first of these lines begins a paragraph, if it is text
  abbrev Apart : (is_open : Bool) → List Row → Type 0
  Apart is_open [] = Unit {0}
  Apart is_open (r ∷ rs) = is_paragraph r.leaf ≡ true → (r.stays && is_open) ≡ false

  record PartTold (p : Part) : Type 0 where
    pub is_open : Bool
    pub so_far : List ℕ
    pub told : AreTold on is_open so_far (all_rows p)
    pub apart : is_paragraph p.first.leaf ≡ true → (p.first.stays && is_open) ≡ false
    pub stay : AllByRecursion StaysOn p.more
    pub lone : p.first.is_blank ≡ true → p.more ≡ []

  record HasApart (rs : List Row) : Type 0 where
    pub is_open : Bool
    pub so_far : List ℕ
    pub told : AreTold on is_open so_far rs
    pub apart : Apart is_open rs

  apart-shut : (is_open : Bool) (rs : List Row) → is_open ≡ false → Apart is_open rs
  apart-shut is_open [] e = tt
  apart-shut is_open (r ∷ rs) e = λ _. ap (λ b. r.stays && b) e ∙ and-false r.stays

  -- ---- lines cut at tables

  -- behind a table no paragraph is open
  record ToldShut (rs : List Row) : Type 0 where
    pub so_far : List ℕ
    pub told : AreTold on false so_far rs

  table-shut : (leaf : Leaf) → is_table leaf ≡ true → is_paragraph leaf ≡ false
  table-shut closed h = absurd (false≢true h)
  table-shut open_paragraph h = absurd (false≢true h)
  table-shut (open_fence f) h = absurd (false≢true h)
  table-shut (open_html kind) h = absurd (false≢true h)
  table-shut open_table h = refl

  told-behind : (is_open : Bool) (so_far : List ℕ) (q : Row) (qs : List Row) → is_in_table q ≡ true → AreTold on is_open so_far (q ∷ qs) → ToldShut (drop (prefix_len is_in_table qs) qs)
  told-behind is_open so_far q [] e told = record { so_far = []; told = tt }
  told-behind is_open so_far q (x ∷ xs) e told = by (λ k. told-behind (is_paragraph q.leaf) (text_behind on is_open so_far q) x xs k told.1) (is_in_table x) refl
    where
      by : (is_in_table x ≡ true → ToldShut (drop (prefix_len is_in_table xs) xs)) → (b : Bool) → is_in_table x ≡ b → ToldShut (drop (cond b (1 + prefix_len is_in_table xs) 0) (x ∷ xs))
      by more true ex = let one : suc (prefix_len is_in_table xs) ≡ 1 + prefix_len is_in_table xs = omega arith in subst (λ (n : ℕ). ToldShut (drop n (x ∷ xs))) one (more ex)
      by more false ex = record { so_far = text_behind on is_open so_far q; told = subst (λ (o : Bool). AreTold on o (text_behind on is_open so_far q) (x ∷ xs)) (table-shut q.leaf e) told.1 }

  record CanBeCut (rs : List Row) : Type 0 where
    has : HasApart rs
    stay : AllByRecursion StaysOn (drop 1 rs)

  record Headed (rs : List Row) : Type 0 where
    has : HasTold on rs
    stay : AllByRecursion StaysOn (drop 1 rs)

  plain-said : (around : Part) (n : ℕ) (rs : List Row) → CanBeCut rs → AllByRecursion SectionSaid (sections_in on (length (take n rs)) false around (take n rs)) × Headed (drop n rs)
  plain-said around n rs h = (by n rs h, record { has = told-drop on n rs (record { is_open = h.has.is_open; so_far = h.has.so_far; told = h.has.told }); stay = stay-drop n rs h.stay })
    where
      by : (n : ℕ) (rs : List Row) → CanBeCut rs → AllByRecursion SectionSaid (sections_in on (length (take n rs)) false around (take n rs))
      by zero rs h = tt
      by (suc n) [] h = tt
      by (suc n) (r ∷ rs) h =
          let at = h.has in
          sections-said (suc (length (take n rs))) false around at.is_open at.so_far (r ∷ take n rs) (told-take on at.is_open at.so_far (suc n) (r ∷ rs) at.told) (ready-apart on at.is_open at.so_far r (take n rs) at.apart) (every-take StaysOn n rs h.stay)

  table-said : (around : Part) → TableIs on around SectionSaid CanBeCut Headed
  table-said around header q qs h is =
      let n = prefix_len is_in_table qs in
      let next = told-behind (is_paragraph header.leaf) (text_behind on h.has.is_open h.has.so_far header) q qs is h.has.told.1 in
      (tt, record { has = record { is_open = false; so_far = next.so_far; told = next.told; apart = apart-shut false (drop n qs) refl }; stay = stay-drop (suc (suc n)) (header ∷ q ∷ qs) h.stay })

  cut-said : (p : Part) → PartTold p → AllByRecursion SectionSaid (cut on p)
  cut-said p h = by p.first.is_blank refl
    where
      by : (x : Bool) → p.first.is_blank ≡ x → AllByRecursion SectionSaid (cond x (record { part = p; inside = lines false } ∷ []) (flat_map (sections_of_cut on p) (cut_at_tables is_in_table (suc (length p.more)) (p.first ∷ p.more))))
      by true e =
          let first = h.told.0 in
          let mode = mode_behind none_open (is_paragraph p.first.leaf) in
          ((λ _. ((λ k. absurd (false≢true (sym (first.blank e) ∙ k))), subst (λ (l : List Row). AreSaid on mode l) (sym (h.lone e)) tt)), tt)
      by false e =
          let here : CanBeCut (p.first ∷ p.more) = record { has = record { is_open = h.is_open; so_far = h.so_far; told = h.told; apart = h.apart }; stay = h.stay } in
          cuts-are on p SectionSaid CanBeCut Headed (plain-said p) (table-said p) (suc (length p.more)) (p.first ∷ p.more) here

  -- behind a part
  next-apart : (is_open : Bool) (so_far : List ℕ) (r : Row) (rs : List Row) → AreTold on is_open so_far (r ∷ rs) → HasApart (drop (cond r.is_blank 0 (further rs)) rs)
  next-apart is_open so_far r rs told = by r.is_blank refl
    where
      stops : (o : Bool) (t : List ℕ) (qs : List Row) → drop (further rs) rs ≡ qs → AreTold on o t qs → Apart o qs
      stops o t [] e k = tt
      stops o t (s ∷ ss) e k = λ is. ap (λ b. b && o) (further-stops rs s ss e (not-left s.is_left_blank refl is))
        where
          not-left : (x : Bool) → s.is_left_blank ≡ x → is_paragraph s.leaf ≡ true → s.is_left_blank ≡ false
          not-left true f is = absurd (false≢true (sym (k.0.left f) ∙ is))
          not-left false f is = f

      by : (x : Bool) → r.is_blank ≡ x → HasApart (drop (cond x 0 (further rs)) rs)
      by true e = let first = told.0 in record { is_open = is_paragraph r.leaf; so_far = text_behind on is_open so_far r; told = told.1; apart = apart-shut (is_paragraph r.leaf) rs (first.blank e) }
      by false e =
          let next = told-drop on (further rs) rs (record { is_open = is_paragraph r.leaf; so_far = text_behind on is_open so_far r; told = told.1 }) in
          record { is_open = next.is_open; so_far = next.so_far; told = next.told; apart = stops next.is_open next.so_far (drop (further rs) rs) refl next.told }

  parts-told : (b : ℕ) (is_open : Bool) (so_far : List ℕ) (rs : List Row) → AreTold on is_open so_far rs → Apart is_open rs → AllByRecursion PartTold (parts_in b rs)
  parts-told zero is_open so_far rs told apart = tt
  parts-told (suc b) is_open so_far [] told apart = tt
  parts-told (suc b) is_open so_far (r ∷ rs) told apart =
      let n = cond r.is_blank 0 (further rs) in
      let next = next-apart is_open so_far r rs told in (
        record {
          is_open = is_open;
          so_far = so_far;
          told = (told.0, told-take on (is_paragraph r.leaf) (text_behind on is_open so_far r) n rs told.1);
          apart = apart;
          stay = by r.is_blank (further-all rs);
          lone = λ e. ap (λ b. take (cond b 0 (further rs)) rs) e;
        },
        parts-told b next.is_open next.so_far (drop n rs) next.told next.apart,
      )
    where
      by : (x : Bool) → AllByRecursion StaysOn (take (further rs) rs) → AllByRecursion StaysOn (take (cond x 0 (further rs)) rs)
      by true h = tt
      by false h = h

  cuts-said : (ps : List Part) → AllByRecursion PartTold ps → AllByRecursion SectionSaid (flat_map (cut on) ps)
  cuts-said [] h = tt
  cuts-said (p ∷ ps) h = every-append SectionSaid (cut on p) (flat_map (cut on) ps) (cut-said p h.0) (cuts-said ps h.1)

  -- ---- a document

  all-told : (ls : List Line) → AllByRecursion IsWhole ls → AreTold on false [] (rows on ls)
  all-told ls whole = rows-told on (record { before = nothing_known on; text = [] }) 1 ls whole

  pub all-kept : (ls : List Line) → AllByRecursion IsWhole ls → AllByRecursion (IsKept on) (rows on ls)
  all-kept ls whole = told-kept on false [] (rows on ls) (all-told ls whole)

  pub all-said : (ls : List Line) → AllByRecursion IsWhole ls → AllByRecursion SectionSaid (sections on (rows on ls))
  all-said ls whole = let rs = rows on ls in cuts-said (parts rs) (parts-told (length rs) false [] rs (all-told ls whole) (apart-shut false rs refl))
