-- A document as sections, each of which is read by itself.
use Rattle.mddocument_parts.proofs.Prelude.{◌≡◌, ℕ, ◌≤◌, ◌&&◌, Bool, List, [], ◌∷◌, ◌++◌, true, not, length, refl, sym, ap, ◌∙◌, arith, leb-true, nat_le, map, append-nil, and-right, and-left, Constructs, Event, Line, LeafBlock, blank_line, leaf_blocks, flow_events, lines_in, begins_at_rest, begins_line, first_at_rest, line_endings, moved_block, moved_event, moved_lines, begins_near, is_open, is_open_behind, kind_of_line, last_passes, FirstLineTells, RestsOfBoth, SectionsGiveEvents, are_sections, are_sections_by, document_of, events_of_sections, virtual}
use Rattle.mddocument_parts.proofs.Both.{blocks-of-both}
use Rattle.mddocument_parts.proofs.Events.{events-of-both}
use Rattle.mddocument.specs.FlowTexts.{flow_inlines}
use Rattle.mddocument_parts.specs.Sections.{SectionsGiveInlines}
use Rattle.mddocument_parts.proofs.ReadTexts.{flow-inlines-of-both}
use Rattle.mddocument_parts.proofs.LineFronts.{line-ahead, line-behind, some-line}
use Rattle.mddocument_parts.proofs.Rests.{last-append}
use Rattle.mddocument_parts.proofs.Virtual.{lines-of-both}

-- ---- what comes behind does not matter

first-same : (on : Constructs) (before lines more : List Line) → 1 ≤ length lines → first_at_rest on before (lines ++ more) ≡ first_at_rest on before lines
first-same on before [] more some = absurd (omega (arith, some))
first-same on before (line ∷ lines) more some = refl

pub first-line-tells : FirstLineTells
first-line-tells on t a b c some ends begins =
    let before = lines_in (virtual t a) in
    let more = moved_lines (line_endings b) (length b) (lines_in (virtual t c)) in
    let first = ap (first_at_rest on before) (lines-of-both t b c ends) ∙ first-same on before (lines_in (virtual t b)) more (some-line t b c some ends) in
    let line = line-ahead a b c some in
    (λ i. line i && first i)

-- ---- what comes before is forgotten

module _ (on : Constructs) (l n : ℕ) where
  open-moved : (block : LeafBlock) → is_open on (moved_block l n block) ≡ is_open on block
  open-moved (blank_line line) = refl
  open-moved block = refl

  last-moved : (blocks : List LeafBlock) → last_passes on (is_open on) (map (moved_block l n) blocks) ≡ last_passes on (is_open on) blocks
  last-moved [] = refl
  last-moved (block ∷ []) = open-moved block
  last-moved (block ∷ next ∷ blocks) = last-moved (next ∷ blocks)

  -- blocks of some lines behind others
  last-behind : (before : List LeafBlock) (lines : List Line) → 1 ≤ length lines → last_passes on (is_open on) (before ++ map (moved_block l n) (leaf_blocks on lines)) ≡ is_open_behind on lines
  last-behind before [] some = absurd (omega (arith, some))
  last-behind before (line ∷ lines) some = last-append on (is_open on) before _ _ ∙ last-moved (leaf_blocks on (line ∷ lines))

first-behind : (on : Constructs) (one two lines : List Line) → is_open_behind on one ≡ is_open_behind on two → first_at_rest on one lines ≡ first_at_rest on two lines
first-behind on one two [] e = refl
first-behind on one two (line ∷ lines) e = ap (λ b. begins_near (kind_of_line on line) && not b) e

pub rests-of-both : RestsOfBoth
rests-of-both on t a b c rest some ends =
    let same = ap (last_passes on (is_open on)) (blocks-of-both on t a b rest) ∙ last-behind on (line_endings a) (length a) (leaf_blocks on (lines_in (virtual t a))) (lines_in (virtual t b)) (some-line t b c some ends) in
    let first = first-behind on (lines_in (virtual t (a ++ b))) (lines_in (virtual t b)) (lines_in (virtual t c)) same in
    let line = line-behind a b c some in
    (λ i. line i && first i)

-- ---- sections

-- where a rest is: it begins a line, and what comes behind its first line does not matter
module _ (rest : (a b : List ℕ) → Bool) (begins : (a b : List ℕ) → rest a b ≡ true → begins_line b a ≡ true)
    (tells : (a b c : List ℕ) → 1 ≤ length b → begins_line c b ≡ true → begins_line b a ≡ true → rest a (b ++ c) ≡ rest a b) where
  some-document : (s : List ℕ) (more : List (List ℕ)) → are_sections_by rest (s ∷ more) ≡ true → 1 ≤ length s
  some-document s [] h = leb-true 1 (length s) h
  some-document s (next ∷ more) h = leb-true 1 (length s) (and-left (nat_le 1 (length s)) (rest s next && are_sections_by rest (next ∷ more)) h)

  -- a section begins at a rest, whatever sections come behind it
  pub rest-ahead : (s next : List ℕ) (more : List (List ℕ)) → rest s next ≡ true → are_sections_by rest (next ∷ more) ≡ true → rest s (next ++ document_of more) ≡ true
  rest-ahead s next [] h sections = ap (rest s) (append-nil next) ∙ h
  rest-ahead s next (third ∷ more) h sections =
      let behind = and-right (nat_le 1 (length next)) (rest next third && are_sections_by rest (third ∷ more)) sections in
      let one = and-left (rest next third) (are_sections_by rest (third ∷ more)) behind in
      let some = some-document third more (and-right (rest next third) (are_sections_by rest (third ∷ more)) behind) in
      let ends = line-ahead next third (document_of more) some ∙ begins next third one in
      tells s next (third ++ document_of more) (some-document next (third ∷ more) sections) ends (begins s next h) ∙ h

  -- the events of sections are those of the document, if those of two parts are, of such bytes
  module _ (Ok : List ℕ → Type 0) (parts : (a b : List ℕ) → Ok (a ++ b) → Ok b) (read : List ℕ → List Event) (none : read [] ≡ [])
      (both : (a b : List ℕ) → Ok (a ++ b) → rest a b ≡ true → read (a ++ b) ≡ read a ++ map (moved_event (line_endings a) (length a) (length (read a))) (read b)) where
    pub give : (sections : List (List ℕ)) → Ok (document_of sections) → are_sections_by rest sections ≡ true → read (document_of sections) ≡ events_of_sections read sections
    give [] ok h = none
    give (s ∷ []) ok h = ap read (append-nil s) ∙ sym (append-nil (read s))
    give (s ∷ next ∷ more) ok h =
        let behind = and-right (nat_le 1 (length s)) (rest s next && are_sections_by rest (next ∷ more)) h in
        let one = and-left (rest s next) (are_sections_by rest (next ∷ more)) behind in
        let sections = and-right (rest s next) (are_sections_by rest (next ∷ more)) behind in
        let first = read s in
        both s (next ++ document_of more) ok (rest-ahead s next more one sections)
        ∙ ap (λ es. first ++ map (moved_event (line_endings s) (length s) (length first)) es) (give (next ∷ more) (parts s (next ++ document_of more) ok) sections)

-- rests of leaf blocks
module _ (on : Constructs) (t : ℕ) where
  begins-there : (a b : List ℕ) → begins_at_rest on t a b ≡ true → begins_line b a ≡ true
  begins-there a b h = and-left (begins_line b a) (first_at_rest on (lines_in (virtual t a)) (lines_in (virtual t b))) h

  pub sections-give : (read : List ℕ → List Event) → read [] ≡ [] → ((a b : List ℕ) → begins_at_rest on t a b ≡ true → read (a ++ b) ≡ read a ++ map (moved_event (line_endings a) (length a) (length (read a))) (read b))
      → (sections : List (List ℕ)) → are_sections on t sections ≡ true → read (document_of sections) ≡ events_of_sections read sections
  sections-give read none both sections h = give (begins_at_rest on t) begins-there (first-line-tells on t) (λ bytes. Unit {0}) (λ a b ok. tt) read none (λ a b ok r. both a b r) sections tt h

pub sections-give-events : SectionsGiveEvents
sections-give-events on t = sections-give on t (λ bytes. flow_events on bytes (virtual t bytes)) refl (events-of-both on t)

pub sections-give-inlines : SectionsGiveInlines
sections-give-inlines options t = sections-give options.constructs t (λ bytes. flow_inlines options bytes (virtual t bytes)) refl (flow-inlines-of-both options t)
