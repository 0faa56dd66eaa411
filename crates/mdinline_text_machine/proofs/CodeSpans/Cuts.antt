-- The events of a code span: they can be cut into atoms, as none goes over a line ending; and what spans keep holds of them.
use Rattle.mdinline_text_machine.proofs.Prelude.{Seat, take, drop, pieces, flat_map, part_events, between, code_events, code_span_at, code_span_found, code_span_with, ◌≡◌, ℕ, ◌+◌, ◌==◌, ◌∷◌, [], List, Bool, true, false, cond, Option, Some, None, refl, sym, ◌∙◌, ap, subst, arith, length, option_map, find, range_with_len, eqb-true, drop-drop, drop-take, take-take, and-right, CodeText, CodeTextSequence, CodeTextData, part_length, has_byte_at, is_backtick, is_backtick_or_line_feed, backticks, is_backtick_string, before_backtick_string, part_at, bytes_of, Event}
use Rattle.mdinline_text_machine.proofs.CodeSpans.FoundParts.{piece-positive}
use Rattle.mdinline_text_machine.proofs.Constructs.Apart.{OfOption, when-there}
use Rattle.mdinline_text_machine.proofs.DeepSpans.Atoms.{IsCut, cut-leaf}
use Rattle.mdinline_text_machine.proofs.Texts.Built.{IsKeptBySpans, IsBuilt, flat-built, part-built, three}
use Rattle.mdinline_text_machine.proofs.DeepSpans.Stretches.{NoEnding, plain-line, run-plain, run-behind, cuts, part-cut, three-cut, ItemCut}

-- a test that what is found passes
found-passes : (test : ℕ → Bool) (xs : List ℕ) (x : ℕ) → find test xs ≡ Some x → test x ≡ true
found-passes test [] x h = absurd (cc)
found-passes test (y ∷ ys) x h = elim (test y) as (λ t. test y ≡ t → cond t (Some y) (find test ys) ≡ Some x → test x ≡ true) [
  | true ↦ λ e is. let same : y ≡ x = cc in ap test (sym same) ∙ e
  | false ↦ λ e is. found-passes test ys x is
] refl h

module _ (bytes : List ℕ) (between_them : List ℕ → List Seat → List Event) (inner : (l : List Seat) → IsCut bytes (between_them bytes l) l) where
  -- code spans: two backtick strings of one length
  code-found : (seats : List Seat) (o : Option ℕ) → let t = backticks (bytes_of seats) in before_backtick_string t (drop t (bytes_of seats)) ≡ o → OfOption (ItemCut bytes seats) (option_map (code_span_with between_them t) o)
  code-found seats None h = tt
  code-found seats (Some p) h =
      let text = bytes_of seats in
      let t = backticks text in
      let rest = drop t text in
      let l = take (t + p + t) seats in
      let middle = between t (t + p) l in
      let is = found-passes (is_backtick_string rest t) (range_with_len 0 (length rest)) p h in
      let size : backticks (drop (t + p) text) ≡ t = ap backticks (sym (drop-drop p t text)) ∙ eqb-true (backticks (drop p rest)) t (and-right _ (backticks (drop p rest) == t) is) in
      let closing = subst (λ n. NoEnding (take n (drop (t + p) seats))) size (run-behind is_backtick refl (t + p) seats) in
      let opens = plain-line (take t l) (subst NoEnding (sym (take-take t (t + p + t) seats (omega arith))) (run-plain is_backtick refl seats)) in
      let closes = plain-line (drop (t + p) l) (subst NoEnding (sym (drop-take (t + p) t seats)) closing) in
      three-cut bytes CodeText t p l (cut-leaf bytes CodeTextSequence (take t l) opens) (inner middle) (cut-leaf bytes CodeTextSequence (drop (t + p) l) closes)

  pub code-cut : (seats : List Seat) → OfOption (ItemCut bytes seats) (code_span_found between_them (bytes_of seats))
  code-cut seats =
      let text = bytes_of seats in
      let t = backticks text in
      when-there (ItemCut bytes seats) (has_byte_at text 0 is_backtick) (option_map (code_span_with between_them t) (before_backtick_string t (drop t text))) (code-found seats (before_backtick_string t (drop t text)) refl)

-- with line endings and data between them
pub code-span-cut : (bytes : List ℕ) (seats : List Seat) → OfOption (ItemCut bytes seats) (code_span_at (bytes_of seats))
code-span-cut bytes seats =
    code-cut bytes code_events
    (λ l. cuts bytes (part_at is_backtick_or_line_feed) part_length (part_events bytes CodeTextData) (piece-positive is_backtick_or_line_feed) (part-cut bytes is_backtick_or_line_feed refl CodeTextData) (length l) l (omega arith)) seats

-- what spans keep
module _ (bytes : List ℕ) (P : List Event → Type 0) (kept : IsKeptBySpans bytes P) where
  module _ (between_them : List ℕ → List Seat → List Event) (inner : (l : List Seat) → P (between_them bytes l)) where
    inside-built : (k : ℕ) (o : Option ℕ) → OfOption (IsBuilt bytes P kept) (option_map (code_span_with between_them k) o)
    inside-built k None = tt
    inside-built k (Some n) = λ seats.
        let middle = between k (k + n) seats in
        kept.around CodeText seats _ refl (three bytes P kept CodeTextSequence CodeTextSequence (take k seats) (drop (k + n) seats) (between_them bytes middle) (inner middle))

    pub code-built : (text : List ℕ) → OfOption (IsBuilt bytes P kept) (code_span_found between_them text)
    code-built text =
        let k = backticks text in
        when-there (IsBuilt bytes P kept) (has_byte_at text 0 is_backtick) (option_map (code_span_with between_them k) (before_backtick_string k (drop k text))) (inside-built k (before_backtick_string k (drop k text)))

  pub code-span-built : (text : List ℕ) → OfOption (IsBuilt bytes P kept) (code_span_at text)
  code-span-built text = code-built code_events (λ l. flat-built bytes P kept (part_events bytes CodeTextData) (pieces l) (part-built bytes P kept CodeTextData)) text
