-- The items of inline text can be cut into innermost spans, none of which goes over a line ending but at its end.
use Rattle.markdown_base.proofs.Facts.Numbers.{unlike}
use Rattle.mddocument.proofs.Prelude.{◌≡◌, ℕ, ◌+◌, ◌&&◌, true, false, cond, List, [], ◌∷◌, take, drop, refl, sym, subst, arith, suc, drop-map, drop-take, take-append-drop, prefix_len, every-map, Constructs, AttentionSequence, Data, LineEnding, SpaceOrTab, Seat, is_white, is_line_ending, autolink-cut, lined-code-cut, EachThere, IsCut, OneLine, cut-append, cut-leaf, ItemCut, NoEnding, first-plain, one-taken, plain-add, plain-line, run-plain, escape-cut, backticks, is_backtick, is_line_feed, bytes_of, first_plain, item_events, email-cut, html-mark-cut, html-tag-cut, break-escape-cut, trailing-break-cut, reference-cut, white-space-cut, is_white_left, or_parts, begins_run, data_length, data_run, delimiter_run, ends_data, ends_data_at, inline_grammars, line_break, run_length, run_or_part, up_to, is_delimiter, leaf, Found}
use Rattle.mdinline_machine.proofs.RunBytes.{run-delimits}
use Rattle.markdown_base.specs.declared.event.Name.TheVariants.{LabelEnd, LabelLink, LabelMarker}
use Rattle.mdinline_machine.specs.Brackets.{label_end, link_bracket, lone_end}
use Rattle.mdinline_text_machine.proofs.DeepSpans.Atoms.{cut-span}
use Rattle.mddocument.proofs.Emphasis.RunAtoms.{AreDelimiters}
use Rattle.mddocument.proofs.FlowTexts.InlineSteps.{run-delimiters}

pub no-endings : (l : List Seat) → AreDelimiters l → NoEnding l
no-endings l h = every-map (λ (s : Seat). is_delimiter s.byte ≡ true) (λ (s : Seat). is_line_ending s ≡ false) (λ s is. unlike is_delimiter 10 refl s.byte is) l h

module _ (on : Constructs) where
  -- no line ending is in data
  up-to-plain : (l : List Seat) → NoEnding (take (up_to (ends_data_at on) (bytes_of l)) l)
  up-to-plain [] = tt
  up-to-plain (s ∷ ss) =
      let text = bytes_of (s ∷ ss) in
      let n = up_to (ends_data_at on) (bytes_of ss) in
      elim (ends_data_at on text) as (λ t. ends_data_at on text ≡ t → NoEnding (take (cond t 0 (1 + n)) (s ∷ ss))) [
        | true ↦ λ e. tt
        | false ↦ λ e.
            let one : suc n ≡ 1 + n = omega arith in
            let (here, white) = or_parts (ends_data on s.byte) (is_white s.byte && is_white_left text) e in
            let (line, other) = or_parts (is_line_feed s.byte) _ here in
            subst (λ k. NoEnding (take k (s ∷ ss))) one (line, up-to-plain ss)
      ] refl

module _ (bytes : List ℕ) (on : Constructs) where
  pub line-break-cut : (s : Seat) (ss : List Seat) → ItemCut bytes (s ∷ ss) (line_break (prefix_len is_white (bytes_of ss)))
  line-break-cut s ss =
      let n = prefix_len is_white (bytes_of ss) in
      let l = take (1 + n) (s ∷ ss) in
      subst (IsCut bytes (item_events bytes (line_break n, l))) (take-append-drop 1 l)
      (cut-append bytes (cut-leaf bytes LineEnding (take 1 l) (one-taken l)) (cut-leaf bytes SpaceOrTab (drop 1 l) (subst OneLine (sym (drop-take 1 n (s ∷ ss))) (plain-line (take n ss) (run-plain is_white refl ss)))))

  pub data-run-cut : (s : Seat) (ss : List Seat) → is_line_feed s.byte ≡ false → ItemCut bytes (s ∷ ss) (data_run (data_length on (bytes_of (s ∷ ss))))
  data-run-cut s ss other =
      let l = s ∷ ss in
      let text = bytes_of l in
      let n = first_plain text in
      let first = first-plain (backticks text) s ss other (run-plain is_backtick refl l) in
      let more = subst (λ bs. NoEnding (take (up_to (ends_data_at on) bs) (drop n l))) (sym (drop-map (λ (s : Seat). s.byte) n l)) (up-to-plain on (drop n l)) in
      cut-leaf bytes Data (take (data_length on text) l) (plain-line (take (data_length on text) l) (plain-add n (up_to (ends_data_at on) (drop n text)) l first more))

  other-cut : (s : Seat) (ss : List Seat) → ItemCut bytes (s ∷ ss) (run_or_part on (bytes_of (s ∷ ss)))
  other-cut s ss =
      let l = s ∷ ss in
      let n = run_length (bytes_of l) in
      let line = line_break (prefix_len is_white (bytes_of ss)) in
      let datum = data_run (data_length on (bytes_of l)) in
      elim (begins_run on s.byte) as (λ x. (begins_run on s.byte) ≡ x → ItemCut bytes l (cond x (delimiter_run n) (cond (is_line_feed s.byte) line datum))) [
        | true ↦ λ is. cut-leaf bytes AttentionSequence (take n l) (plain-line (take n l) (no-endings (take n l) (run-delimiters s ss (run-delimits on s.byte is))))
        | false ↦ λ is. elim (is_line_feed s.byte) as (λ x. is_line_feed s.byte ≡ x → ItemCut bytes l (cond x line datum)) [
          | true ↦ λ feed. line-break-cut s ss
          | false ↦ λ other. data-run-cut s ss other
        ] refl
      ] refl

  pub each-cut : (l : List Seat) → EachThere (ItemCut bytes l) inline_grammars (bytes_of l)
  each-cut l = (lined-code-cut bytes l, (autolink-cut bytes l, (email-cut bytes l, (html-mark-cut bytes l, (html-tag-cut bytes l, (escape-cut bytes l, (break-escape-cut bytes l, (reference-cut bytes l, (trailing-break-cut bytes l, (white-space-cut bytes l, tt))))))))))

  -- brackets and ends
  pub link-cut : (l : List Seat) → ItemCut bytes l link_bracket
  link-cut l = let m = take 1 l in cut-span bytes LabelLink m (leaf bytes LabelMarker m) (cut-leaf bytes LabelMarker m (one-taken l))

  pub lone-cut : (l : List Seat) → ItemCut bytes l lone_end
  lone-cut l = cut-leaf bytes LabelMarker (take 1 l) (one-taken l)

  -- an end whose tail can be cut
  pub end-cut : (s : Seat) (ss : List Seat) (tail : Found) → ItemCut bytes ss tail → ItemCut bytes (s ∷ ss) (label_end tail)
  end-cut s ss tail cut =
      let one : suc tail.size ≡ 1 + tail.size = omega arith in
      let m = s ∷ [] in
      let mark = cut-span bytes LabelEnd m (leaf bytes LabelMarker m) (cut-leaf bytes LabelMarker m tt) in
      subst (λ n. IsCut bytes (item_events bytes (label_end tail, take n (s ∷ ss))) (take n (s ∷ ss))) one (cut-append bytes mark cut)
