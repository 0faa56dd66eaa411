-- Tags by their bytes: they begin with `<`, and are a byte at least; their events can be cut into atoms, and what spans keep holds of them; and the
-- calls that read one are paid by its bytes.
use Rattle.mdinline_constructs.proofs.HtmlMarks.Bytes.{IsSome, some-bytes}
use Rattle.mdinline_constructs.proofs.Prelude.{◌≡◌, ℕ, ◌+◌, ◌*◌, ◌≤◌, ◌-◌, ◌==◌, List, ◌∷◌, true, false, cond, Option, Some, None, option_map, length, drop, refl, sym, ap, subst, arith, Event, Seat, has_byte_at, Found, item_length, bytes_of, text_byte, autolinks-apart, IsApart, OfOption, ItemCut, IsKeptBySpans, IsBuilt, html_tag_grammar, tag_length, is_slash, behind_closing, behind_opening, html_tags, html_of}
use Rattle.mdinline_constructs.proofs.HtmlTags.Calls.{tag_calls}
use Rattle.mdinline_constructs.proofs.HtmlTags.Places.{next, opened}
use Rattle.mdinline_constructs.proofs.HtmlTags.Readings.{tag-there}
use Rattle.mdinline_constructs.proofs.HtmlTexts.Cuts.{html-cut, html-built}
use Rattle.mdinline_constructs.proofs.HtmlTexts.Through.{IsLooked, IsWithin, html_option, walk-looked, walk-within}
use Rattle.mdinline_constructs.proofs.HtmlTexts.Walks.{looked, one_further, walk}

nowhere-else : (b : ℕ) (bs : List ℕ) → (b == 60) ≡ false → html_of (b ∷ bs) (tag_length (b ∷ bs)) ≡ None
nowhere-else b bs h =
    ap (λ t. html_of (b ∷ bs) (option_map (λ (rest : List ℕ). length (b ∷ bs) - length rest) (cond t (cond (has_byte_at (b ∷ bs) 1 is_slash) (behind_closing (drop 2 (b ∷ bs))) (behind_opening bs)) None))) h

pub html-tags-apart : IsApart text_byte item_length html_tags
html-tags-apart = record {
  classed = autolinks-apart.classed;
  nowhere = nowhere-else;
  some = λ b bs. elim (b == 60) as (λ t. (b == 60) ≡ t → OfOption IsSome (html_of (b ∷ bs) (tag_length (b ∷ bs)))) [
    | true ↦ λ e. subst (OfOption IsSome) (sym (tag-there b bs e)) (some-bytes (walk next bs false opened))
    | false ↦ λ e. subst (OfOption IsSome) (sym (nowhere-else b bs e)) tt
  ] refl;
}

-- what holds of a tag that is there, by the places that are gone through
of-tag : (P : Found → Type 0) (b : ℕ) (bs : List ℕ) → (b == 60) ≡ true → OfOption P (html_option (one_further (walk next bs false opened))) → OfOption P (html_of (b ∷ bs) (tag_length (b ∷ bs)))
of-tag P b bs less h = subst (OfOption P) (sym (tag-there b bs less)) h

-- two calls for each of its bytes
paid : (over : ℕ) (o : Option ℕ) → IsLooked over o → OfOption (λ item. 2 + 2 * over ≤ 2 * item_length item) (html_option (one_further o))
paid over None h = tt
paid over (Some n) h = omega (arith, h)

pub tag-paid : (b : ℕ) (bs : List ℕ) → (b == 60) ≡ true → OfOption (λ item. tag_calls (b ∷ bs) ≤ 2 * item_length item) (html_of (b ∷ bs) (tag_length (b ∷ bs)))
tag-paid b bs less =
    of-tag (λ item. tag_calls (b ∷ bs) ≤ 2 * item_length item) b bs less (paid (looked next bs false opened) (walk next bs false opened) (walk-looked next bs false opened))

-- it has no more bytes than there are
fits : (b : ℕ) (bs : List ℕ) (o : Option ℕ) → IsWithin bs o → OfOption (λ item. item_length item ≤ length (b ∷ bs)) (html_option (one_further o))
fits b bs None h = tt
fits b bs (Some n) h = omega (arith, h)

pub tag-within : (b : ℕ) (bs : List ℕ) → (b == 60) ≡ true → OfOption (λ item. item_length item ≤ length (b ∷ bs)) (html_of (b ∷ bs) (tag_length (b ∷ bs)))
tag-within b bs less = of-tag (λ item. item_length item ≤ length (b ∷ bs)) b bs less (fits b bs (walk next bs false opened) (walk-within next bs false opened))

-- cuts, and what spans keep
pub html-tag-cut : (bytes : List ℕ) (seats : List Seat) → OfOption (ItemCut bytes seats) (html_tag_grammar.front (bytes_of seats))
html-tag-cut bytes seats = html-cut bytes seats (tag_length (bytes_of seats))

pub html-tag-built : (bytes : List ℕ) (P : List Event → Type 0) (kept : IsKeptBySpans bytes P) (text : List ℕ) → OfOption (IsBuilt bytes P kept) (html_tag_grammar.front text)
html-tag-built bytes P kept text = html-built bytes P kept text (tag_length text)
