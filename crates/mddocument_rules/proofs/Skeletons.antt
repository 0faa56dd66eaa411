-- The sections of a document stand in the spans of containers around them; so its skeleton stands.
use Rattle.mddocument_rules.proofs.Prelude.{◌≡◌, ◌∙◌, ℕ, zero, suc, Bool, true, false, cond, List, [], ◌∷◌, ◌++◌, None, drop, inl, inr, length, map, refl, sym, subst, take, cond_both, false_from_ne_true, false≢true, AllByRecursion, flat_map, ◌&&◌, every-append, every-drop, Constructs, virtual, Given, lines_in, Definition, Line, left_is, Row, nothing_known, Frame, Part, further, parts, parts_in, document_skeleton, Known, known_after, row_of, rows, rows_from, Section, before_defined, begins_text, cut, defined_in, defining, in_same, lines, paragraph_of, sections, sections_in, sections_of, sections_of_cut, tabled, text_in, undefined, sections_marks, holds_blocks, SkeletonsStand}
use Rattle.mdblock_definitions.specs.BlankLines as blank_lines
use Rattle.mdblock_definitions.specs.Sections.{is_in_table}
use Rattle.mdblock_table_marks.specs.TableCuts.{Cut, cut_at_tables}
use Rattle.mdinline_labels.specs.Definitions.{definitions}
use Rattle.mdblock_containers.proofs.SeatFacts.{document_lines}
use Rattle.mdblock_definitions.proofs.SectionTurns.{AreCut, document-cut}
use Rattle.mddocument_rules.proofs.Frames.{Stacked, frames-roomy, frames-stacked, within}
use Rattle.mddocument_rules.proofs.Passes.{chained-stand}
use Rattle.mddocument_rules.proofs.Places.{Stands, walks-stand}
use Rattle.mddocument_rules.proofs.Sections.{AllStandIn, IsRoomy, sections-stand}
use Rattle.mddocument_rules.proofs.Walk.{Walks}

-- a line that is left blank is blank
abbrev IsLeft : Row → Type 0
IsLeft r = r.is_left_blank ≡ true → r.is_blank ≡ true

-- ---- parts
record PartStands (p : Part) : Type 0 where
  stacked : Stacked [] p.frames
  roomy : p.first.is_blank ≡ false → holds_blocks (within [] p.frames) ≡ true

parts-stand : (bound : ℕ) (all : List Row) → AllByRecursion IsLeft all → AllByRecursion PartStands (parts_in bound all)
parts-stand zero all h = tt
parts-stand (suc bound) [] h = tt
parts-stand (suc bound) (row ∷ behind) h =
    let n = cond row.is_blank 0 (further behind) in (
      record { stacked = frames-stacked row behind; roomy = λ e. frames-roomy row behind (false_from_ne_true row.is_left_blank (λ l. false≢true (sym e ∙ h.0 l))) },
      parts-stand bound (drop n behind) (every-drop IsLeft n behind h.1),
    )

-- ---- sections of one part
abbrev SectionStands : (bytes : List ℕ) → Section → Type 0
SectionStands bytes s = Stacked [] s.part.frames × IsRoomy bytes s

module _ (fs : List Frame) where
  abbrev pub InFrames : Section → Type 0
  InFrames s = s.part.frames ≡ fs

  others-in : (around : Part) (ps : List Part) → around.frames ≡ fs → AllByRecursion InFrames (map (λ p. record { part = p; inside = lines false }) (map (in_same around) ps))
  others-in around [] e = tt
  others-in around (p ∷ ps) e = (e, others-in around ps e)

  of-parts-in : (is_behind : Bool) (around : Part) (ps : List Part) → around.frames ≡ fs → AllByRecursion InFrames (sections_of is_behind (map (in_same around) ps))
  of-parts-in is_behind around [] e = tt
  of-parts-in is_behind around (p ∷ ps) e = (e, others-in around ps e)

  defining-in : (ds : List Definition) (around : Part) (all : List Row) → around.frames ≡ fs → AllByRecursion InFrames (defining ds around all)
  defining-in ds around [] e = tt
  defining-in ds around (row ∷ more) e = (e, tt)

  sections-in : (on : Constructs) (bound : ℕ) (is_behind : Bool) (around : Part) (all : List Row) → around.frames ≡ fs → AllByRecursion InFrames (sections_in on bound is_behind around all)
  sections-in on zero is_behind around all e = tt
  sections-in on (suc bound) is_behind around [] e = tt
  sections-in on (suc bound) is_behind around (row ∷ more) e =
      let all = row ∷ more in
      let n = before_defined on false all in
      let behind = drop n all in
      let d = defined_in on behind in
      let ds = definitions (text_in (paragraph_of behind)) in
      every-append InFrames (undefined is_behind around (take n all)) (defining ds around (take d behind) ++ sections_in on bound true around (drop d behind)) (of-parts-in (is_behind && begins_text (take n all)) around (blank_lines.parts (take n all)) e)
      (every-append InFrames (defining ds around (take d behind)) (sections_in on bound true around (drop d behind)) (defining-in ds around (take d behind) e) (sections-in on bound true around (drop d behind) e))

-- the sections of a part that is not blank
abbrev pub in_cuts : Constructs → Part → List Section
in_cuts on p = flat_map (sections_of_cut on p) (cut_at_tables is_in_table (suc (length p.more)) (p.first ∷ p.more))

module _ (fs : List Frame) (on : Constructs) where
  tabled-in : (around : Part) (all : List Row) → around.frames ≡ fs → AllByRecursion (InFrames fs) (tabled around all)
  tabled-in around [] e = tt
  tabled-in around (row ∷ more) e = (e, tt)

  of-cut-in : (around : Part) (c : Cut) → around.frames ≡ fs → AllByRecursion (InFrames fs) (sections_of_cut on around c)
  of-cut-in around c e =
      cond_both c.is_table (tabled around c.rows) (sections_in on (length c.rows) false around c.rows) (AllByRecursion (InFrames fs)) (λ b. tabled-in around c.rows e)
      (λ b. sections-in fs on (length c.rows) false around c.rows e)

  cuts-in : (around : Part) (cs : List Cut) → around.frames ≡ fs → AllByRecursion (InFrames fs) (flat_map (sections_of_cut on around) cs)
  cuts-in around [] e = tt
  cuts-in around (c ∷ cs) e = every-append (InFrames fs) (sections_of_cut on around c) (flat_map (sections_of_cut on around) cs) (of-cut-in around c e) (cuts-in around cs e)

  pub part-in : (p : Part) → p.frames ≡ fs → AllByRecursion (InFrames fs) (in_cuts on p)
  part-in p e = cuts-in p (cut_at_tables is_in_table (suc (length p.more)) (p.first ∷ p.more)) e

in-frames-stand : (bytes : List ℕ) (fs : List Frame) → Stacked [] fs → holds_blocks (within [] fs) ≡ true → (ss : List Section) → AllByRecursion (InFrames fs) ss → AllByRecursion (SectionStands bytes) ss
in-frames-stand bytes fs k r [] h = tt
in-frames-stand bytes fs k r (s ∷ ss) h = ((subst (Stacked []) (sym h.0) k, inr (subst (λ (l : List Frame). holds_blocks (within [] l) ≡ true) (sym h.0) r)), in-frames-stand bytes fs k r ss h.1)

cut-stands : (bytes : List ℕ) (on : Constructs) (p : Part) → PartStands p → AllByRecursion (SectionStands bytes) (cut on p)
cut-stands bytes on p h =
    cond_both p.first.is_blank (record { part = p; inside = lines false } ∷ []) (in_cuts on p) (AllByRecursion (SectionStands bytes)) (λ e. ((h.stacked, inl (refl, e)), tt))
    (λ e. in-frames-stand bytes p.frames h.stacked (h.roomy e) (in_cuts on p) (part-in p.frames on p refl))

all-cut-stand : (bytes : List ℕ) (on : Constructs) (ps : List Part) → AllByRecursion PartStands ps → AllByRecursion (SectionStands bytes) (flat_map (cut on) ps)
all-cut-stand bytes on [] h = tt
all-cut-stand bytes on (p ∷ ps) h = every-append (SectionStands bytes) (cut on p) (flat_map (cut on) ps) (cut-stands bytes on p h.0) (all-cut-stand bytes on ps h.1)

-- ---- lines
rows-are-left : (on : Constructs) (k : Known) (n : ℕ) (ls : List Line) → AllByRecursion IsLeft (rows_from on k n ls)
rows-are-left on k n [] = tt
rows-are-left on k n (l ∷ ls) = ((λ e. (left_is on k.before n l e).0), rows-are-left on (known_after on k (row_of on k n l)) (suc n) ls)

join : (bytes : List ℕ) (fs : List Frame) (ss : List Section) → AreCut bytes fs ss → AllByRecursion (SectionStands bytes) ss → AllStandIn bytes fs ss
join bytes fs [] c h = tt
join bytes fs (s ∷ ss) c h = (record { turn = c.0; stacked = h.0.0; roomy = h.0.1 }, join bytes s.part.frames ss c.2 h.1)

pub all-stand-in : (g : Given) → let on = g.options.constructs in AllStandIn g.bytes [] (sections on (rows on (lines_in (virtual g.tab g.bytes))))
all-stand-in g =
    let on = g.options.constructs in
    let ls = lines_in (virtual g.tab g.bytes) in
    let all = rows on ls in
    join g.bytes [] (sections on all) (document-cut g.bytes on ls (document_lines g.tab g.bytes)) (all-cut-stand g.bytes on (parts all) (parts-stand (length all) all (rows-are-left on (record { before = nothing_known on; text = [] }) 1 ls)))

-- The skeleton of a document
pub skeleton-walks : (g : Given) → Walks Stands [] (document_skeleton g)
skeleton-walks g =
    let on = g.options.constructs in
    let ss = sections on (rows on (lines_in (virtual g.tab g.bytes))) in
    chained-stand 0 None [] (sections_marks g.bytes ss) (sections-stand g.bytes ss (all-stand-in g))

pub skeletons-stand : SkeletonsStand
skeletons-stand g = walks-stand [] (document_skeleton g) (skeleton-walks g)
