-- Sections of one part, one behind another: they are in the same spans, so none ends between them.
use Rattle.std.proofs.Common.{◌≡◌, ℕ, zero, suc, ◌+◌, Bool, true, false, cond, List, [], ◌∷◌, ◌++◌, append_assoc, arith, drop, length, map, refl, sym, ap, take, ◌∙◌}
use Rattle.std.specs.Prelude.{None}
use Rattle.std.specs.List.{flat_map}
use Rattle.std.proofs.lemmas.Bool.{false≢true}
use Rattle.std.proofs.lemmas.List.{append-nil, drop-append-le, drop_all, take-append-le}
use Rattle.std.proofs.Math.Seq.{drop-length, take-length}
use Rattle.markdown_base.specs.declared.configuration.Constructs.{Constructs}
use Rattle.markdown_base.specs.Places.{shown}
use Rattle.markdown_base.proofs.Common.{every-append}
use Rattle.mdblock_containers.specs.declared.parts.PartEnd.{PartEnd}
use Rattle.mdblock_containers.specs.Rest.{ending_to}
use Rattle.mdblock_containers.specs.Rows.{Row, has_none}
use Rattle.mdblock_containers.specs.Skeleton.{Frame, Part, end_of, ending_marks, exits, shared}
use Rattle.mdblock_containers.proofs.FrameFacts.{shared_front}
use Rattle.mdblock_containers.proofs.RestLemmas.{exits_shown}
use Rattle.mdblock_containers.proofs.RowSpans.{head_same}
use Rattle.mdblock_table_marks.specs.TableCuts.{Cut, cut_at_tables}
use Rattle.mdinline_labels.specs.declared.definitions.Definition.{Definition}
use Rattle.mdinline_labels.specs.Definitions.{definitions}
use Rattle.mdblock_definitions.specs.BlankLines.{parts}
use Rattle.mdblock_definitions.specs.Sections.{Section, before_defined, cut, defined_in, defining, in_same, lines, paragraph_of, sections_in, sections_of, text_in, undefined, is_in_table, sections_of_cut, tabled}
use Rattle.mdblock_definitions.specs.Skeleton.{behind_marks, section_marks, sections_marks}
use Rattle.mdblock_definitions.proofs.Covered.{part-lines, rows_of, cuts-every}
use Rattle.mdblock_definitions.specs.Within.{AreWithin, IsWithin, last_of, rest_sections, within_marks}

-- ---- the same spans

pub shared-all : (fs : List Frame) → shared fs fs ≡ length fs
shared-all fs = ap (λ l. shared l l) (sym (append-nil fs)) ∙ shared_front fs [] [] ∙ plus
  where
    plus : length fs + 0 ≡ length fs
    plus = omega arith

pub none-ends : (fs gs : List Frame) → gs ≡ fs → drop (shared fs gs) fs ≡ []
none-ends fs gs e = ap (λ l. drop (shared fs l) fs) e ∙ ap (λ n. drop n fs) (shared-all fs) ∙ drop_all (length fs) fs (omega arith)

plain-within : (around : Part) (ps : List Part) → AreWithin around (map (λ p. record { part = p; inside = lines false }) (map (in_same around) ps))
plain-within around [] = tt
plain-within around (p ∷ ps) = ((refl, refl), plain-within around ps)

undefined-within : (around : Part) (is_behind : Bool) (ps : List Part) → AreWithin around (sections_of is_behind (map (in_same around) ps))
undefined-within around is_behind [] = tt
undefined-within around is_behind (p ∷ ps) = ((refl, refl), plain-within around ps)

defining-within : (around : Part) (ds : List Definition) (rs : List Row) → AreWithin around (defining ds around rs)
defining-within around ds [] = tt
defining-within around ds (r ∷ rs) = ((refl, refl), tt)

-- the sections of a part are in its spans
pub sections-within : (on : Constructs) (b : ℕ) (x : Bool) (around : Part) (rs : List Row) → AreWithin around (sections_in on b x around rs)
sections-within on zero x around rs = tt
sections-within on (suc b) x around [] = tt
sections-within on (suc b) x around (r ∷ rs) =
    let all : List Row = r ∷ rs in
    let n = before_defined on false all in
    let behind = drop n all in
    let d = defined_in on behind in
    let front = undefined x around (take n all) in
    let middle = defining (definitions (text_in (paragraph_of behind))) around (take d behind) in
    let back = sections_in on b true around (drop d behind) in
    every-append (IsWithin around) front (middle ++ back) (undefined-within around _ (parts (take n all))) (every-append (IsWithin around) middle back (defining-within around _ (take d behind)) (sections-within on b true around (drop d behind)))

tabled-within : (around : Part) (rs : List Row) → AreWithin around (tabled around rs)
tabled-within around [] = tt
tabled-within around (r ∷ rs) = ((refl, refl), tt)

pub cuts-within : (on : Constructs) (around : Part) (cs : List Cut) → AreWithin around (flat_map (sections_of_cut on around) cs)
cuts-within on around cs = cuts-every on around (IsWithin around) (λ rs. sections-within on (length rs) false around rs) (tabled-within around) cs

pub within-next : (p q : Part) (ss : List Section) → q.frames ≡ p.frames → q.stands ≡ p.stands → AreWithin p ss → AreWithin q ss
within-next p q [] e f h = tt
within-next p q (s ∷ ss) e f h = ((h.0.0 ∙ sym e, h.0.1 ∙ sym f), within-next p q ss e f h.1)

module _ (bytes : List ℕ) where
  -- what comes behind a section of a part: its further sections, and what is behind the part
  pub behind-within : (p : Part) (ss more : List Section) → AreWithin p ss → behind_marks bytes p (ss ++ more) ≡ within_marks bytes p ss ++ behind_marks bytes (last_of p ss) more
  behind-within p [] more h = refl
  behind-within p (s ∷ ss) more h =
      let rest = behind-within s.part ss more (within-next p s.part ss h.0.0 h.0.1 h.1) in
      let here = ending_marks bytes p in
      let one = section_marks bytes s in
      let two = within_marks bytes s.part ss in
      let last = behind_marks bytes (last_of s.part ss) more in
      ap (λ l. exits bytes l (end_of bytes p) ++ (here ++ (one ++ behind_marks bytes s.part (ss ++ more)))) (none-ends p.frames s.part.frames h.0.0)
      ∙ ap (λ l. here ++ (one ++ l)) rest
      ∙ ap (λ l. here ++ l) (sym (append_assoc one two last))
      ∙ sym (append_assoc here (one ++ two) last)

  -- and behind its last section, by where that ends
  pub behind-sections : (p : Part) (more : List Section) (e : PartEnd) → shown bytes (end_of bytes p) ≡ e.place → ending_marks bytes p ≡ ending_to e → behind_marks bytes p more ≡ rest_sections bytes p.frames e more
  behind-sections p [] e at ending = λ k. exits_shown bytes p.frames (end_of bytes p) e.place at k ++ ending k
  behind-sections p (q ∷ qs) e at ending =
      λ k. exits_shown bytes (drop (shared p.frames q.part.frames) p.frames) (end_of bytes p) e.place at k ++ (ending k ++ (section_marks bytes q ++ behind_marks bytes q.part qs))

  -- before the first part nothing is open
  pub sections-init : (ss : List Section) (e : PartEnd) → e.behind ≡ None → rest_sections bytes [] e ss ≡ sections_marks bytes ss
  sections-init [] e none = ap (λ b. ending_to (record e { behind = b })) none
  sections-init (s ∷ ss) e none = ap (λ b. ending_to (record e { behind = b }) ++ (section_marks bytes s ++ behind_marks bytes s.part ss)) none

-- ---- the lines of sections

module _ (on : Constructs) (p : Part) where
  cut-within : AreWithin p (cut on p)
  cut-within = by p.first.is_blank
    where
      by : (b : Bool) → AreWithin p (cond b (record { part = p; inside = lines false } ∷ []) (flat_map (sections_of_cut on p) (cut_at_tables is_in_table (suc (length p.more)) (p.first ∷ p.more))))
      by true = ((refl, refl), tt)
      by false = cuts-within on p (cut_at_tables is_in_table (suc (length p.more)) (p.first ∷ p.more))

  -- A part has a section at least, which begins where it does
  pub record Begins : Type 0 where
    pub first : Section
    pub more : List Section
    pub is : cut on p ≡ first ∷ more
    pub within : AreWithin p (first ∷ more)
    pub begin : first.part.first ≡ p.first

  pub part-begins : Begins
  part-begins = by (cut on p) refl cut-within (part-lines on p)
    where
      by : (ss : List Section) → cut on p ≡ ss → AreWithin p ss → rows_of ss ≡ p.first ∷ p.more → Begins
      by [] e w l = absurd (false≢true (sym (ap has_none l)))
      by (s ∷ ss) e w l = record { first = s; more = ss; is = e; within = w; begin = (head_same s.part.first p.first (s.part.more ++ rows_of ss) p.more l).0 }

-- a section and those behind it, by the lines of all
pub section-lines : (s : Section) (ss : List Section) (r : Row) (rs : List Row) → rows_of (s ∷ ss) ≡ r ∷ rs → (s.part.first ≡ r) × (s.part.more ≡ take (length s.part.more) rs) × (rows_of ss ≡ drop (length s.part.more) rs)
section-lines s ss r rs e =
    let more = s.part.more in
    let same = head_same s.part.first r (more ++ rows_of ss) rs e in (
      same.0,
      sym (take-length more) ∙ sym (take-append-le (length more) more (rows_of ss) (omega arith)) ∙ ap (take (length more)) same.1,
      ap (λ l. l ++ rows_of ss) (sym (drop-length more)) ∙ sym (drop-append-le (length more) more (rows_of ss) (omega arith)) ∙ ap (drop (length more)) same.1,
    )
