-- The brackets of inline text, as they are read, hold their markers alone.
use Rattle.mddocument.proofs.Prelude.{◌≡◌, ℕ, Bool, zero, suc, true, false, cond, inl, inr, List, [], ◌∷◌, ◌++◌, Option, Some, None, refl, sym, ◌∙◌, length, take, drop, flat_map, prefix_len, Constructs, AttentionSequence, Data, Enter, Event, Exit, SpaceOrTab, Seat, leaf, span, EachThere, OfOption, there-holds, Found, Grammar, bytes_of, item_events, item_length, is_white, has_byte_at, is_line_feed, data_length, data_run, delimiter_run, inline_grammars, inline_item_at, inline_items, line_break, run_length, run_or_part, begins_run, white_space}
use Rattle.markdown_base.specs.declared.event.Name.{Name}
use Rattle.markdown_base.specs.declared.event.Name.TheVariants.{LabelEnd, LabelImage, LabelImageMarker, LabelLink, LabelMarker}
use Rattle.mdinline_machine.proofs.BracketBytes.{bracket-holds}
use Rattle.mdinline_machine.specs.Brackets.{Bracket, Memory, after_item, label_end, nothing_read, tail_of}
use Rattle.mdinline_machine.specs.InlineEvents.{bracket_or_part}
use Rattle.mdinline_text_machine.specs.Parts.{cut_remembering}
use Rattle.mddocument.proofs.Emphasis.Shapes.{AreShaped, others-shaped, shaped-both}
use Rattle.mddocument.proofs.FlowTexts.InlineSteps.{IsFree, free-each, free-line-break}
use Rattle.mddocument.proofs.FlowTexts.Tails.{free-tail}

module _ (bytes : List ℕ) where
  exits-not : (e : Event) → e.kind ≡ Exit → e.kind ≡ Enter → ⊥
  exits-not e exits enters = let no : Exit ≡ Enter = sym exits ∙ enters in absurd (cc)

  -- ---- brackets
  marker-shaped : (name : Name) (seats : List Seat) → AreShaped (leaf bytes name seats)
  marker-shaped name [] = tt
  marker-shaped name (s ∷ ss) = ((λ enters is. inl (_, _, refl, refl)), ((λ enters is. absurd (let no : Exit ≡ Enter = enters in cc)), tt))

  link-shaped : (seats : List Seat) → AreShaped (span bytes LabelLink seats (leaf bytes LabelMarker seats))
  link-shaped [] = tt
  link-shaped (s ∷ ss) = (
    (λ enters is. inr (inl (_, _, _, _, refl, refl, refl, refl, refl, refl))),
    ((λ enters is. inl (_, _, refl, refl)), ((λ enters is. absurd (let no : Exit ≡ Enter = enters in cc)), ((λ enters is. absurd (let no : Exit ≡ Enter = enters in cc)), tt))),
  )

  image-shaped : (seats : List Seat) → AreShaped (span bytes LabelImage seats (leaf bytes LabelImageMarker (take 1 seats) ++ leaf bytes LabelMarker (drop 1 seats)))
  image-shaped [] = tt
  image-shaped (s ∷ []) = (
    (λ enters is. inr (inl (_, _, _, _, refl, refl, refl, refl, refl, refl))),
    ((λ enters is. absurd (let no : true ≡ false = sym is in cc)), ((λ enters is. absurd (let no : Exit ≡ Enter = enters in cc)), ((λ enters is. absurd (let no : Exit ≡ Enter = enters in cc)), tt))),
  )
  image-shaped (s ∷ r ∷ rs) = (
    (λ enters is. inr (inr (_, _, _, _, _, _, refl, refl, refl, refl, refl, refl, refl, refl, refl))),
    (
      (λ enters is. absurd (let no : true ≡ false = sym is in cc)),
      (
        (λ enters is. absurd (let no : Exit ≡ Enter = enters in cc)),
        ((λ enters is. inl (_, _, refl, refl)), ((λ enters is. absurd (let no : Exit ≡ Enter = enters in cc)), ((λ enters is. absurd (let no : Exit ≡ Enter = enters in cc)), tt))),
      ),
    ),
  )

  end-mark : (seats : List Seat) → AreShaped (span bytes LabelEnd seats (leaf bytes LabelMarker seats))
  end-mark [] = tt
  end-mark (s ∷ ss) = (
    (λ enters is. absurd (let no : true ≡ false = sym is in cc)),
    ((λ enters is. inl (_, _, refl, refl)), ((λ enters is. absurd (let no : Exit ≡ Enter = enters in cc)), ((λ enters is. absurd (let no : Exit ≡ Enter = enters in cc)), tt))),
  )

  -- ---- items
  abbrev Shaped : Found → Type 0
  Shaped found = (seats : List Seat) → AreShaped (found.events bytes seats)

  free-shaped : (found : Found) → IsFree 4 bytes found → Shaped found
  free-shaped found h seats = others-shaped (found.events bytes seats) (h seats)

  option-shaped : (o : Option Found) → OfOption (IsFree 4 bytes) o → OfOption Shaped o
  option-shaped None h = tt
  option-shaped (Some found) h = free-shaped found h

  each-shaped : (grammars : List (Grammar Found)) (text : List ℕ) → EachThere (IsFree 4 bytes) grammars text → EachThere Shaped grammars text
  each-shaped [] text h = tt
  each-shaped (grammar ∷ grammars) text h = (option-shaped (grammar.front text) h.0, each-shaped grammars text h.1)

  end-shaped : (defined : List ℕ → Bool) (m : Memory) (text : List ℕ) (b : Bracket) (tail : Found) → tail_of defined bytes b m text ≡ Some tail → Shaped (label_end tail)
  end-shaped defined m text b tail is seats =
      shaped-both (span bytes LabelEnd (take 1 seats) (leaf bytes LabelMarker (take 1 seats))) (tail.events bytes (drop 1 seats)) (end-mark (take 1 seats))
      (others-shaped (tail.events bytes (drop 1 seats)) (free-tail bytes defined b m text tail is (drop 1 seats)))

  module _ (on : Constructs) (defined : List ℕ → Bool) where
    part-shaped : (text : List ℕ) → Shaped (run_or_part on text)
    part-shaped text =
        let line = line_break (prefix_len is_white (drop 1 text)) in
        elim (has_byte_at text 0 (begins_run on)) as (λ x. Shaped (cond x (delimiter_run (run_length text)) (cond (has_byte_at text 0 is_line_feed) line (data_run (data_length on text))))) [
          | true ↦ λ seats. marker-shaped AttentionSequence seats
          | false ↦ elim (has_byte_at text 0 is_line_feed) as (λ x. Shaped (cond x line (data_run (data_length on text)))) [
            | true ↦ free-shaped line (free-line-break 4 bytes (prefix_len is_white (drop 1 text)))
            | false ↦ λ seats. marker-shaped Data seats
          ]
        ]

    item-shaped : (m : Memory) (text : List ℕ) → Shaped (inline_item_at on defined bytes m text)
    item-shaped m text =
        there-holds Shaped inline_grammars on text (bracket_or_part on defined bytes m text) (each-shaped inline_grammars text (free-each 4 bytes text))
        (bracket-holds Shaped on defined bytes m text (run_or_part on text) link-shaped (λ e. image-shaped) (marker-shaped LabelMarker) (end-shaped defined m (drop 1 text)) (part-shaped text))

    items-shaped : (n : ℕ) (q : Memory) (l : List Seat) → AreShaped (flat_map (item_events bytes) (cut_remembering (after_item bytes) (inline_item_at on defined bytes) item_length n q l))
    items-shaped zero q l = tt
    items-shaped (suc n) q [] = tt
    items-shaped (suc n) q (s ∷ ss) =
        let l = s ∷ ss in
        let item = inline_item_at on defined bytes q (bytes_of l) in
        let m = item_length item in
        let behind = after_item bytes q item in
        shaped-both (item_events bytes (item, take m l)) (flat_map (item_events bytes) (cut_remembering (after_item bytes) (inline_item_at on defined bytes) item_length n behind (drop m l))) (item-shaped q (bytes_of l) (take m l))
        (items-shaped n behind (drop m l))

    pub inline-shaped : (seats : List Seat) → AreShaped (flat_map (item_events bytes) (inline_items on defined bytes seats))
    inline-shaped seats =
        let n = prefix_len is_white (bytes_of seats) in
        let first = after_item bytes (nothing_read seats) (white_space n) in
        shaped-both (leaf bytes SpaceOrTab (take n seats)) (flat_map (item_events bytes) (cut_remembering (after_item bytes) (inline_item_at on defined bytes) item_length (length seats) first (drop n seats)))
        (marker-shaped SpaceOrTab (take n seats)) (items-shaped (length seats) first (drop n seats))
