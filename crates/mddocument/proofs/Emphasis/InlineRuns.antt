-- The runs of inline text are as long as can be.
use Rattle.markdown_base.proofs.Facts.Numbers.{unlike}
use Rattle.mddocument.proofs.Prelude.{◌≡◌, ℕ, Bool, suc, ◌+◌, ◌≤◌, true, false, cond, inl, List, [], ◌∷◌, Some, take, drop, length, refl, subst, arith, length-drop, AllByRecursion, flat_map, prefix_len, and-left, and-right, Constructs, Data, SpaceOrTab, Seat, is_white, there-holds, has_byte_at, is_line_feed, Atom, Found, IsCut, ItemCut, item_length, bytes_of, item_events, white-run-cut, white_space, some-item, begins_run, data_length, data_run, delimiter_run, inline_grammars, inline_item_at, inline_items, line_break, run_length, run_or_part}
use Rattle.mdinline_machine.proofs.RunBytes.{run-delimits}
use Rattle.markdown_base.specs.declared.event.Name.TheVariants.{LabelImage, LabelImageMarker, LabelMarker}
use Rattle.mdinline_machine.proofs.BracketBytes.{bracket-holds}
use Rattle.mdinline_machine.specs.Brackets.{Bracket, Memory, after_item, begins_image, image_bracket, is_exclamation, is_image_bracket, is_open_bracket, label_end, link_bracket, lone_end, nothing_read, tail_of}
use Rattle.mdinline_machine.specs.InlineEvents.{bracket_or_part}
use Rattle.mdinline_text_machine.specs.Parts.{cut_remembering}
use Rattle.mddocument.proofs.Emphasis.RunAtoms.{IsQuiet, others-quiet}
use Rattle.mddocument.proofs.Emphasis.WholeRuns.{CutRuns, ItemRuns, cut-runs, free-constructs, free-item, item-more, quiet-item, run-item}
use Rattle.mddocument.proofs.FlowTexts.InlineCuts.{data-run-cut, each-cut, end-cut, line-break-cut, link-cut, lone-cut}
use Rattle.mddocument.proofs.FlowTexts.InlineSteps.{free-each, free-leaf, free-line-break}
use Rattle.mddocument.proofs.FlowTexts.Tails.{free-tail, tail-cut}

module _ (bytes : List ℕ) (on : Constructs) where
  other-runs : (s : Seat) (ss : List Seat) → ItemRuns bytes (s ∷ ss) (run_or_part on (bytes_of (s ∷ ss)))
  other-runs s ss =
      let l = s ∷ ss in
      let line = line_break (prefix_len is_white (bytes_of ss)) in
      let datum = data_run (data_length on (bytes_of l)) in
      elim (begins_run on s.byte) as (λ x. (begins_run on s.byte) ≡ x → ItemRuns bytes l (cond x (delimiter_run (run_length (bytes_of l))) (cond (is_line_feed s.byte) line datum))) [
        | true ↦ λ is. run-item bytes s ss (run-delimits on s.byte is)
        | false ↦ λ is. elim (is_line_feed s.byte) as (λ x. is_line_feed s.byte ≡ x → ItemRuns bytes l (cond x line datum)) [
          | true ↦ λ feed. free-item bytes l line (line-break-cut bytes on s ss) (free-line-break 4 bytes (prefix_len is_white (bytes_of ss)))
          | false ↦ λ other. free-item bytes l datum (data-run-cut bytes on s ss other) (λ seats. free-leaf 4 bytes Data seats refl)
        ] refl
      ] refl

  -- a bracket of an image has two markers: the first is no line ending
  image-runs : (s : Seat) (ss : List Seat) → is_image_bracket on (bytes_of (s ∷ ss)) ≡ true → ItemRuns bytes (s ∷ ss) image_bracket
  image-runs s [] is = absurd (let no : has_byte_at (bytes_of (s ∷ [])) 1 is_open_bracket ≡ true = and-right (begins_image on s.byte) false is in cc)
  image-runs s (r ∷ rest) is =
      let first = and-right on.label_start_image (is_exclamation s.byte) (and-left (begins_image on s.byte) (is_open_bracket r.byte) is) in
      let a : Atom = record { enters = LabelImage ∷ []; name = LabelImageMarker; first = s; others = []; exits = [] } in
      let b : Atom = record { enters = []; name = LabelMarker; first = r; others = []; exits = LabelImage ∷ [] } in
      let c : ItemCut bytes (s ∷ r ∷ rest) image_bracket = record { atoms = a ∷ b ∷ []; are = refl; all = refl; lines = (tt, (tt, tt)) } in
      (c, inl ((refl, (λ marker. (unlike is_exclamation 10 refl s.byte first, tt))), ((refl, (λ marker. absurd (cc))), tt)))

  link-runs : (s : Seat) (ss : List Seat) → ItemRuns bytes (s ∷ ss) link_bracket
  link-runs s ss = quiet-item bytes (s ∷ ss) link_bracket (link-cut bytes on (s ∷ ss)) ((refl, refl), ((refl, refl), ((refl, refl), ((refl, refl), tt))))

  lone-runs : (s : Seat) (ss : List Seat) → ItemRuns bytes (s ∷ ss) lone_end
  lone-runs s ss = quiet-item bytes (s ∷ ss) lone_end (lone-cut bytes on (s ∷ ss)) ((refl, refl), ((refl, refl), tt))

  end-runs : (defined : List ℕ → Bool) (m : Memory) (s : Seat) (ss : List Seat) (b : Bracket) (tail : Found) → tail_of defined bytes b m (bytes_of ss) ≡ Some tail → ItemRuns bytes (s ∷ ss) (label_end tail)
  end-runs defined m s ss b tail is =
      let one : suc tail.size ≡ 1 + tail.size = omega arith in
      let rest = others-quiet (tail.events bytes (take tail.size ss)) (free-tail bytes defined b m (bytes_of ss) tail is (take tail.size ss)) in
      quiet-item bytes (s ∷ ss) (label_end tail) (end-cut bytes on s ss tail (tail-cut bytes defined b m ss tail is))
      (subst (λ n. AllByRecursion IsQuiet (item_events bytes (label_end tail, take n (s ∷ ss)))) one ((refl, refl), ((refl, refl), ((refl, refl), ((refl, refl), rest)))))

  module _ (defined : List ℕ → Bool) where
    pub item-runs : (m : Memory) (s : Seat) (ss : List Seat) → ItemRuns bytes (s ∷ ss) (inline_item_at on defined bytes m (bytes_of (s ∷ ss)))
    item-runs m s ss =
        let l = s ∷ ss in
        let text = bytes_of l in
        there-holds (ItemRuns bytes l) inline_grammars on text (bracket_or_part on defined bytes m text) (free-constructs bytes l inline_grammars text (each-cut bytes on l) (free-each 4 bytes text))
        (bracket-holds (ItemRuns bytes l) on defined bytes m text (run_or_part on text) (link-runs s ss) (image-runs s ss) (lone-runs s ss) (end-runs defined m s ss) (other-runs s ss))

    -- the events that are read of inline text are cut into atoms whose runs are as long as can be
    pub inline-runs : (seats : List Seat) → CutRuns bytes (flat_map (item_events bytes) (inline_items on defined bytes seats)) seats
    inline-runs seats =
        let n = prefix_len is_white (bytes_of seats) in
        let first = after_item bytes (nothing_read seats) (white_space n) in
        let few : length (drop n seats) ≤ length seats = omega (arith, length-drop n seats) in
        item-more bytes seats (white_space n) (flat_map (item_events bytes) (cut_remembering (after_item bytes) (inline_item_at on defined bytes) item_length (length seats) first (drop n seats)))
        (free-item bytes seats (white_space n) (white-run-cut bytes seats) (λ seats. free-leaf 4 bytes SpaceOrTab seats refl))
        (cut-runs bytes (after_item bytes) (inline_item_at on defined bytes) (some-item on defined bytes) item-runs (length seats) first (drop n seats) few)

    pub inline-cut : (seats : List Seat) → IsCut bytes (flat_map (item_events bytes) (inline_items on defined bytes seats)) seats
    inline-cut seats = (inline-runs seats).0
