-- The parts of a definition fit the places of its text.
use Rattle.std.proofs.Common.{◌≡◌, ℕ, ◌+◌, ◌-◌, cond, List, [], ◌∷◌, Option, Some, None, drop, refl, sym, ap, ◌∙◌, subst, arith}
use Rattle.std.specs.List.{AllByRecursion, prefix_len}
use Rattle.std.proofs.lemmas.List.{drop-drop, drop-map, length-map}
use Rattle.markdown_base.proofs.Common.{every-drop}
use Rattle.mdinline_labels.specs.declared.definitions.Definition.{Definition}
use Rattle.mdinline_labels.specs.declared.definitions.Stretch.{Stretch}
use Rattle.mdinline_labels.specs.Definitions.{end, end_of}
use Rattle.mdblock_definitions.specs.Cursor.{FitsDefinition, FitsDestination, FitsGap, FitsMarks, FitsTitle}
use Rattle.mdblock_definitions.specs.Definitions.{Place, is_byte, text_byte, text_of}
use Rattle.mdblock_definitions.proofs.MarksText.{TextDefinition, TextDestination, TextGap, TextMarks, TextTitle, in_line, run}

-- a virtual byte of a line's text is no line feed
abbrev pub IsPlain : Place → Type 0
IsPlain p = is_byte p ≡ in_line (text_byte p)

plain-behind : (n : ℕ) (ps : List Place) → AllByRecursion IsPlain ps → AllByRecursion IsPlain (drop n ps)
plain-behind n ps h = every-drop IsPlain n ps h

-- lines of places are those of their text
pub plain-run : (ps : List Place) → AllByRecursion IsPlain ps → prefix_len is_byte ps ≡ run (text_of ps)
plain-run [] h = refl
plain-run (p ∷ ps) h = (λ k. cond (h.0 k) (1 + plain-run ps h.1 k) 0)

pub text-behind : (n : ℕ) (ps : List Place) → text_of (drop n ps) ≡ drop n (text_of ps)
text-behind n ps = sym (drop-map text_byte n ps)

run-behind : (n : ℕ) (ps : List Place) → AllByRecursion IsPlain ps → prefix_len is_byte (drop n ps) ≡ run (drop n (text_of ps))
run-behind n ps h = plain-run (drop n ps) (plain-behind n ps h) ∙ ap run (text-behind n ps)

gap-of : (size : ℕ) (ps : List Place) → AllByRecursion IsPlain ps → TextGap size (text_of ps) → FitsGap size ps
gap-of size ps h g =
    let same : prefix_len is_byte ps ≡ run (text_of ps) = plain-run ps h in
    let next : prefix_len is_byte (drop (prefix_len is_byte ps + 1) ps) ≡ run (drop (run (text_of ps) + 1) (text_of ps)) =
    run-behind (prefix_len is_byte ps + 1) ps h ∙ ap (λ k. run (drop (k + 1) (text_of ps))) same in
    record { within = omega (arith, g.within, length-map ps text_byte); lines = omega (arith, g.lines, same, next) }

marks-of : (size : ℕ) (ps : List Place) → AllByRecursion IsPlain ps → TextMarks size (text_of ps) → FitsMarks size ps
marks-of size ps h m = record { two = m.two; first = omega (arith, m.first, plain-run ps h); last = omega (arith, m.last, run-behind (size - 1) ps h) }

destination-of : (size : ℕ) (ps : List Place) → AllByRecursion IsPlain ps → TextDestination size (text_of ps) → FitsDestination size ps
destination-of size ps h d = record { within = omega (arith, d.within, length-map ps text_byte); some = d.some; marks = λ e. marks-of size ps h (d.marks e) }

title-of : (title : Option Stretch) (from : ℕ) (ps : List Place) → AllByRecursion IsPlain ps → TextTitle title from (text_of ps) → FitsTitle title from (drop from ps)
title-of None from ps h t = tt
title-of (Some s) from ps h t =
    let at : from + (s.from - from) ≡ s.from = omega (arith, t.0) in
    let place : drop s.from ps ≡ drop (s.from - from) (drop from ps) = ap (λ k. drop k ps) (sym at) ∙ sym (drop-drop (s.from - from) from ps) in (
      t.0,
      gap-of (s.from - from) (drop from ps) (plain-behind from ps h) (subst (TextGap (s.from - from)) (sym (text-behind from ps)) t.1),
      subst (FitsMarks s.size) place (marks-of s.size (drop s.from ps) (plain-behind s.from ps h) (subst (TextMarks s.size) (sym (text-behind s.from ps)) t.2)),
    )

pub definition-fits : (d : Definition) (ps : List Place) → AllByRecursion IsPlain ps → TextDefinition d (text_of ps) → FitsDefinition d ps
definition-fits d ps h t = record {
  gap = gap-of d.label.from ps h t.gap;
  label = marks-of d.label.size (drop d.label.from ps) (plain-behind d.label.from ps h) (subst (TextMarks d.label.size) (sym (text-behind d.label.from ps)) t.label);
  colon = omega (arith, t.colon, run-behind (end d.label) ps h);
  behind = t.behind;
  white = gap-of (d.destination.from - (end d.label + 1)) (drop (end d.label + 1) ps) (plain-behind (end d.label + 1) ps h) (subst (TextGap (d.destination.from - (end d.label + 1))) (sym (text-behind (end d.label + 1) ps)) t.white);
  destination = destination-of d.destination.size (drop d.destination.from ps) (plain-behind d.destination.from ps h) (subst (TextDestination d.destination.size) (sym (text-behind d.destination.from ps)) t.destination);
  title = title-of d.title (end d.destination) ps h t.title;
  ends = t.ends;
  left = gap-of (d.size - end_of d.title d.destination) (drop (end_of d.title d.destination) ps) (plain-behind (end_of d.title d.destination) ps h)
      (subst (TextGap (d.size - end_of d.title d.destination)) (sym (text-behind (end_of d.title d.destination) ps)) t.left);
  within = omega (arith, t.within, length-map ps text_byte);
  last = run-behind d.size ps h ∙ t.last;
}
