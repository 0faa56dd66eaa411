-- Raw HTML between marks by its bytes: it begins with `<`, and is a byte at least; its events can be cut into atoms, and what spans keep holds of
-- them.
use Rattle.markdown_base.proofs.Facts.Bools.{cond-same}
use Rattle.mdinline_constructs.proofs.Prelude.{Seat, Event, and_before, starts_with, either_there, html_mark_grammar, marked, through, html_marks, html_of, autolinks-apart, IsApart, OfOption, ItemCut, IsBuilt, IsKeptBySpans, has_byte_at, Found, item_length, bytes_of, text_byte, List, None, Option, Some, ap, arith, cond, drop, false, refl, subst, sym, true, ℕ, ◌&&◌, ◌<◌, ◌==◌, ◌∙◌, ◌∷◌, ◌≡◌, is_ascii_alphabetic, codes}
use Rattle.mdinline_constructs.proofs.HtmlMarks.Places.{at_open, mark_next}
use Rattle.mdinline_constructs.proofs.HtmlMarks.Readings.{mark-there}
use Rattle.mdinline_constructs.proofs.HtmlTexts.Walks.{one_further, walk}
use Rattle.mdinline_constructs.proofs.HtmlTexts.Cuts.{html-cut, html-built}
use Rattle.mdinline_constructs.proofs.HtmlTexts.Through.{html_option}

nowhere-else : (b : ℕ) (bs : List ℕ) → (b == 60) ≡ false → marked (b ∷ bs) ≡ None
nowhere-else b bs h =
    let T = λ (n : ℕ) (c : List ℕ). and_before n (through c (drop n (b ∷ bs))) in
    (λ i. either_there (cond (h i && starts_with (codes "!-->") bs) (Some 5) (cond (h i && starts_with (codes "!--->") bs) (Some 6) (cond (h i && starts_with (codes "!--") bs) (T 4 (codes "-->")) None)))
    (either_there (cond (h i && starts_with (codes "?") bs) (T 2 (codes "?>")) None)
    (either_there (cond (has_byte_at (b ∷ bs) 2 is_ascii_alphabetic) (cond (h i && starts_with (codes "!") bs) (T 2 (codes ">")) None) None) (cond (h i && starts_with (codes "![CDATA[") bs) (T 9 (codes "]]>")) None))))
    ∙ ap (λ o. either_there o None) (cond-same (has_byte_at (b ∷ bs) 2 is_ascii_alphabetic) None)

abbrev pub IsSome : Found → Type 0
IsSome item = 0 < item_length item

pub some-bytes : (o : Option ℕ) → OfOption IsSome (html_option (one_further o))
some-bytes None = tt
some-bytes (Some n) = omega arith

pub html-marks-apart : IsApart text_byte item_length html_marks
html-marks-apart = record {
  classed = autolinks-apart.classed;
  nowhere = λ b bs h. ap (html_of (b ∷ bs)) (nowhere-else b bs h);
  some = λ b bs. elim (b == 60) as (λ t. (b == 60) ≡ t → OfOption IsSome (html_of (b ∷ bs) (marked (b ∷ bs)))) [
    | true ↦ λ e. subst (OfOption IsSome) (sym (mark-there b bs e)) (some-bytes (walk mark_next bs false at_open))
    | false ↦ λ e. subst (OfOption IsSome) (sym (ap (html_of (b ∷ bs)) (nowhere-else b bs e))) tt
  ] refl;
}

-- cuts, and what spans keep
pub html-mark-cut : (bytes : List ℕ) (seats : List Seat) → OfOption (ItemCut bytes seats) (html_mark_grammar.front (bytes_of seats))
html-mark-cut bytes seats = html-cut bytes seats (marked (bytes_of seats))

pub html-mark-built : (bytes : List ℕ) (P : List Event → Type 0) (kept : IsKeptBySpans bytes P) (text : List ℕ) → OfOption (IsBuilt bytes P kept) (html_mark_grammar.front text)
html-mark-built bytes P kept text = html-built bytes P kept text (marked text)
