-- Lemmas on definitions, written one after another.
use Rattle.std.proofs.Common.{◌≡◌, ℕ, get_or, ◌+◌, ◌-◌, ◌<◌, ◌≤◌, Bool, true, false, cond, List, [], ◌∷◌, ◌++◌, Some, drop, length, take, refl, sym, ap, ◌∙◌, arith, append_assoc}
use Rattle.std.specs.Prelude.{◌==◌, nat_lt}
use Rattle.std.proofs.lemmas.Bool.Decides.{nat_tests}
use Rattle.std.specs.List.{flat_map}
use Rattle.std.proofs.lemmas.List.{drop-drop, drop_all, drop_more}
use Rattle.markdown_base.specs.declared.event.Event.{Event}
use Rattle.markdown_base.specs.Virtual.{IsWithinLimit}
use Rattle.mdblock_lines.specs.Containers.{Container}
use Rattle.mdinline_labels.specs.declared.definitions.Definition.{Definition}
use Rattle.mdinline_labels.specs.Definitions.{definition_at}
use Rattle.mdinline_labels.specs.Tails.{begins_with}
use Rattle.mdblock_containers.specs.declared.prefixes.At.{At}
use Rattle.mdblock_containers.specs.declared.spans.RowAt.{RowAt}
use Rattle.mdblock_containers.specs.Rows.{Row}
use Rattle.mdblock_containers.specs.SeatPlaces.{events_of}
use Rattle.mdblock_containers.proofs.WritingLemmas.{write-both}
use Rattle.mdblock_definitions.specs.declared.marks.Cursor.{Cursor}
use Rattle.mdblock_definitions.specs.Cursor.{AreLines, FitsDefinition, HaveLines, IsBegin, IsCursor, left_at, left_from}
use Rattle.mdblock_definitions.specs.Definitions.{Place, between, definition_marks, definitions_marks, ending_marks, places_in, text_of}
use Rattle.mdblock_definitions.specs.Sections.{text_in}
use Rattle.mdblock_definitions.specs.Seen.{rows_by}
use Rattle.mdblock_definitions.proofs.MarksCursor.{all-places, plain-left, text-left}
use Rattle.mdblock_definitions.proofs.MarksFits.{definition-fits, text-behind}
use Rattle.mdblock_definitions.proofs.MarksText.{fits}

module _ (t : ℕ) (bytes : List ℕ) (stack : List Container) where
  -- ---- the beginning

  pub begin-cursor : 0 < t → IsWithinLimit t bytes → (xs : List RowAt) (at : At) → HaveLines t bytes stack xs → IsBegin t bytes xs at → IsCursor t bytes stack xs (record { row = 0; at = at })
  begin-cursor some limit [] at lines e = absurd e
  begin-cursor some limit (x ∷ xs) at lines e = record { some = some; limit = limit; lines = lines; column = by lines.all lines.are; place = e.1 }
    where
      by : (all : List Row) → AreLines t bytes stack (x ∷ xs) all → at.columns ≤ x.span.size
      by [] are = absurd are
      by (r ∷ rs) are = omega (arith, e.0, are.0.placed.columns)

  pub begin-text : (xs : List RowAt) (at : At) → IsBegin t bytes xs at → text_in (rows_by t bytes xs) ≡ text_of (left_from t bytes stack at.columns xs)
  begin-text [] at e = absurd e
  begin-text (x ∷ xs) at e = text-left t bytes stack x xs ∙ ap (λ n. text_of (left_from t bytes stack n (x ∷ xs))) (sym e.0)

  pub begin-places : 0 < t → IsWithinLimit t bytes → (xs : List RowAt) (at : At) → IsBegin t bytes xs at → (all : List Row) → AreLines t bytes stack xs all → left_from t bytes stack at.columns xs ≡ places_in bytes all
  begin-places some limit [] at e all are = absurd e
  begin-places some limit (x ∷ xs) at e all are = ap (λ n. left_from t bytes stack n (x ∷ xs)) e.0 ∙ sym (all-places t bytes stack some limit x xs all are)

  -- the definition with which the text behind a cursor begins
  pub next-fits : (xs : List RowAt) (c : Cursor) (text : List ℕ) (d : Definition) → text ≡ text_of (left_at t bytes stack xs c) → definition_at text ≡ Some d → FitsDefinition d (left_at t bytes stack xs c)
  next-fits xs c text d is e = definition-fits d (left_at t bytes stack xs c) (plain-left t bytes stack c.at.columns (drop c.row xs)) (fits (text_of (left_at t bytes stack xs c)) d (ap definition_at (sym is) ∙ e))

-- one definition more, and what is left of the text
pub next-text : (text : List ℕ) (next m size : ℕ) (places left : List Place) → drop next text ≡ text_of places → left ≡ drop (size + 1) places → m ≡ next + size → m ≤ length text → (b : Bool) → (b ≡ false → length text ≤ m)
    → drop (cond b (m + 1) m) text ≡ text_of left
next-text text next m size places left is e mm w true h =
    let sum : next + (size + 1) ≡ m + 1 = omega (arith, mm) in
    ap (λ n. drop n text) (sym sum) ∙ sym (drop-drop (size + 1) next text) ∙ ap (drop (size + 1)) is ∙ sym (text-behind (size + 1) places) ∙ ap text_of (sym e)
next-text text next m size places left is e mm w false h =
    let sum : next + (size + 1) ≡ m + 1 = omega (arith, mm) in
    let none : drop m text ≡ drop (m + 1) text = drop_all m text (h refl) ∙ sym (drop_all (m + 1) text (omega (arith, h refl))) in
    none ∙ ap (λ n. drop n text) (sym sum) ∙ sym (drop-drop (size + 1) next text) ∙ ap (drop (size + 1)) is ∙ sym (text-behind (size + 1) places) ∙ ap text_of (sym e)

pub next-written : (bytes : List ℕ) (d : Definition) (ds : List Definition) (places left : List Place) (old new all : List Event) → left ≡ drop (d.size + 1) places
    → new ≡ old ++ events_of (definition_marks bytes d places ++ flat_map (ending_marks bytes) (between d.size (d.size + 1) places))
    → old ++ events_of (definitions_marks bytes (d ∷ ds) places) ≡ all → new ++ events_of (definitions_marks bytes ds left) ≡ all
next-written bytes d ds places left old new all e w h =
    let first = definition_marks bytes d places in
    let ending = flat_map (ending_marks bytes) (between d.size (d.size + 1) places) in
    let rest = definitions_marks bytes ds (drop (d.size + 1) places) in
    ap (λ l. new ++ events_of (definitions_marks bytes ds l)) e
    ∙ write-both old new (new ++ events_of rest) (first ++ ending) rest w refl
    ∙ ap (λ l. old ++ events_of l) (append_assoc first ending rest) ∙ h

-- the byte at which a destination begins
pub begins-at : (text : List ℕ) (places : List Place) (i x : ℕ) → i < length text → x ≡ get_or text i x → text ≡ text_of places → (x == 60) ≡ begins_with 60 (text_of (drop i places))
begins-at text places i x w e is =
    let at : drop i text ≡ x ∷ drop (i + 1) text = drop_more text i x w ∙ ap (λ b. b ∷ drop (i + 1) text) (sym e) in
    ap (begins_with 60) (sym at ∙ ap (drop i) is ∙ sym (text-behind i places))

-- behind a definition a line ending comes, or nothing
pub next-marks-end : (bytes : List ℕ) (size : ℕ) (places : List Place) → flat_map (ending_marks bytes) (take 1 (drop size places)) ≡ flat_map (ending_marks bytes) (between size (size + 1) places)
next-marks-end bytes size places = let one : 1 ≡ size + 1 - size = omega arith in ap (λ n. flat_map (ending_marks bytes) (take n (drop size places))) one

pub next-marks-none : (bytes : List ℕ) (size : ℕ) (places : List Place) → length places ≤ size → [] ≡ flat_map (ending_marks bytes) (between size (size + 1) places)
next-marks-none bytes size places w = ap (λ l. flat_map (ending_marks bytes) (take 1 l)) (sym (drop_all size places w)) ∙ next-marks-end bytes size places

pub begins-first : (text : List ℕ) (places : List Place) (i : ℕ) → i < length text → text ≡ text_of places → (get_or text i 0 == 60) ≡ begins_with 60 (text_of (drop i places))
begins-first text places i w is = ap (begins_with 60) (sym (drop_more text i 0 w) ∙ ap (drop i) is ∙ sym (text-behind i places))

pub not-behind : (m n : ℕ) → nat_lt m n ≡ false → n ≤ m
not-behind m n e = grind (arith, nat_tests)
