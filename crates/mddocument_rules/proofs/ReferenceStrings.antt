-- The label of a full reference, with its strings read: it is written as it stands before, since escapes and character references are written as they stand.
use Rattle.mddocument_rules.proofs.Prelude.{◌≡◌, ◌∙◌, ℕ, zero, suc, ◌+◌, ◌==◌, true, false, cond, List, [], ◌∷◌, ◌++◌, append-nil, append_assoc, ap, arith, drop, flat_map, inl, length, refl, subst, sym, take, Constructs, Event, Exit, Name, Point, Seat, end_after, event, leaf_marks, same_name, virtual}
use Rattle.std.proofs.lemmas.List.{length-drop, take-append-drop}
use Rattle.std.specs.List.{prefix_len, slice_range}
use Rattle.std.specs.Prelude.{◌<◌, ◌≤◌}
use Rattle.markdown_base.specs.Places.{shown}
use Rattle.markdown_base.specs.declared.event.Name.TheVariants as name
use Rattle.mdblock_leaf_blocks.proofs.Lines.WholeLines.{IsWhole}
use Rattle.mdblock_leaf_blocks.proofs.Marks.Courses.{Course, course-on, line-splits, text-course}
use Rattle.mdblock_leaf_blocks.specs.ChunksJoin.{AcrossGap}
use Rattle.mdconstructs_tables.specs.Breaks.{is_white}
use Rattle.mdconstructs_machines.specs.Spans.{leaf}
use Rattle.mdinline_constructs.proofs.HtmlTexts.Pieces.{is_no_line_feed, piece-positive}
use Rattle.mdinline_constructs.specs.HtmlText.{data_run, line_break, piece_at, piece_length}
use Rattle.mdinline_link_tails.specs.Resource.{line_events, string_events}
use Rattle.mdinline_text_machine.proofs.DeepSpans.Stretches.{run-plain}
use Rattle.mdinline_text_machine.specs.Parts.{bytes_of, cut}
use Rattle.mddocument_link_targets.specs.Strings.{as_written}
use Rattle.mddocument_rules.proofs.HeldStrings.{IsOutside, read}
use Rattle.mddocument_rules.proofs.VirtualBytes.{NoFeeds}
use Rattle.mddocument_rules.proofs.WrittenPrefixes.{leaf-outside, leaf-written}
use Rattle.mddocument_rules.proofs.WrittenSpans.{Gives, exit-gives, gives-both, written}
use Rattle.mddocument_rules.proofs.WrittenStrings.{AreThere, data-writes, outside-writes, there-line}
use Rattle.mddocument_rules.specs.ReferenceLaws.{ReferenceLabelsStay}

whole-line : (l : List Seat) → NoFeeds [] l → IsWhole l
whole-line [] h = tt
whole-line (s ∷ ss) h = inl (h.0, whole-line ss h.1)

module _ (on : Constructs) (t : ℕ) (bytes : List ℕ) (d : 0 < t) where
  -- what events give, whatever comes behind them, and the same where strings are read
  record Stays (xs : List Event) : Type 0 where
    text : List ℕ
    gives : Gives bytes xs text
    reads : (es : List Event) → as_written bytes (read on t bytes true (xs ++ es)) ≡ text ++ as_written bytes (read on t bytes true es)

  stays-none : Stays []
  stays-none = record { text = []; gives = λ es. refl; reads = λ es. refl }

  stays-both : (xs ys : List Event) → Stays xs → Stays ys → Stays (xs ++ ys)
  stays-both xs ys h k = record {
    text = h.text ++ k.text;
    gives = gives-both bytes xs ys h.text k.text h.gives k.gives;
    reads = λ es.
        ap (λ l. as_written bytes (read on t bytes true l)) (append_assoc xs ys es)
        ∙ h.reads (ys ++ es)
        ∙ ap (λ l. h.text ++ l) (k.reads es)
        ∙ sym (append_assoc h.text k.text (as_written bytes (read on t bytes true es)));
  }

  -- a span with nothing in it
  pair-gives : (n : Name) (s : Seat) (ss : List Seat) → same_name n name.BlockQuoteMarker ≡ false → Gives bytes (leaf bytes n (s ∷ ss)) (slice_range bytes (shown bytes s.point).index (shown bytes (end_after s.end ss)).index)
  pair-gives n s ss plain zs =
      λ i. cond (plain i) [] (slice_range bytes (shown bytes s.point).index (shown bytes (end_after s.end ss)).index) ++ (exit-gives bytes (event bytes Exit n (end_after s.end ss)) zs refl i ++ as_written bytes zs)

  outside-stays : (n : Name) (seats : List Seat) → same_name n name.BlockQuoteMarker ≡ false → IsOutside n → Stays (leaf bytes n seats)
  outside-stays n [] plain out = stays-none
  outside-stays n (s ∷ ss) plain out =
      let text = slice_range bytes (shown bytes s.point).index (shown bytes (end_after s.end ss)).index in
      record { text = text; gives = pair-gives n s ss plain; reads = outside-writes on t bytes d (leaf_marks bytes n (s ∷ ss)) text (leaf-outside bytes n (s ∷ ss) out) (pair-gives n s ss plain) }

  data-stays : (seats : List Seat) → AreThere t bytes seats → Stays (leaf bytes name.Data seats)
  data-stays [] h = stays-none
  data-stays (s ∷ ss) h = record {
    text = flat_map (written bytes) (s ∷ ss);
    gives = leaf-written bytes name.Data (s ∷ ss) h.behind refl (there-line t bytes d (s ∷ ss) h);
    reads = data-writes on t bytes d (s ∷ ss) h;
  }

  -- ---- virtual bytes of a text that are in one line are next to each other in the document
  front-there : (n : ℕ) (p : Point) (l after : List Seat) → NoFeeds bytes (take n l) → Course AcrossGap t bytes p (l ++ after) → AreThere t bytes (take n l)
  front-there zero p l after plain course = record { plain = tt; before = []; behind = virtual t bytes; are = refl }
  front-there (suc n) p [] after plain course = record { plain = tt; before = []; behind = virtual t bytes; are = refl }
  front-there (suc n) p (s ∷ ss) after plain course =
      let apart : ss ++ after ≡ take n ss ++ (drop n ss ++ after) = ap (λ l. l ++ after) (sym (take-append-drop n ss)) ∙ append_assoc (take n ss) (drop n ss) after in
      let there : Course AcrossGap t bytes p (s ∷ (take n ss ++ (drop n ss ++ after))) = subst (λ l. Course AcrossGap t bytes p (s ∷ l)) apart course in
      let splits = line-splits t bytes d p s (take n ss) (drop n ss ++ after) (whole-line (s ∷ take n ss) plain) there in
      record { plain = plain; before = there.1.seat.front; behind = splits.0; are = splits.1 }

  -- ---- a string, line by line
  pieces-stay : (n : ℕ) (p : Point) (l after : List Seat) → length l ≤ n → Course AcrossGap t bytes p (l ++ after) → Stays (flat_map (line_events bytes) (cut piece_at piece_length n l))
  pieces-stay zero p [] after few course = stays-none
  pieces-stay zero p (s ∷ ss) after few course = absurd (omega (arith, few))
  pieces-stay (suc n) p [] after few course = stays-none
  pieces-stay (suc n) p (s ∷ ss) after few course =
      let l = s ∷ ss in
      let a = piece_at (bytes_of l) in
      let m = piece_length a in
      let some = piece-positive s.byte (bytes_of ss) in
      let left = length-drop m l in
      let apart : l ++ after ≡ take m l ++ (drop m l ++ after) = ap (λ k. k ++ after) (sym (take-append-drop m l)) ∙ append_assoc (take m l) (drop m l) after in
      let there = course-on AcrossGap t bytes p (take m l) (drop m l ++ after) (subst (Course AcrossGap t bytes p) apart course) in
      let k = prefix_len is_white (bytes_of ss) in
      let size = prefix_len is_no_line_feed (bytes_of l) in
      let first : Stays (line_events bytes (a, take m l)) =
      elim (s.byte == 10) as (λ b. let x = cond b (line_break k) (data_run size) in Stays (line_events bytes (x, take (piece_length x) l))) [
        | true ↦ stays-both (leaf bytes name.LineEnding (take 1 (take (1 + k) l))) (leaf bytes name.SpaceOrTab (drop 1 (take (1 + k) l))) (outside-stays name.LineEnding (take 1 (take (1 + k) l)) refl (refl, refl)) (outside-stays name.SpaceOrTab (drop 1 (take (1 + k) l)) refl (refl, refl))
        | false ↦ data-stays (take size l) (front-there size p l after (run-plain is_no_line_feed refl l) course)
      ] in
      stays-both (line_events bytes (a, take m l)) (flat_map (line_events bytes) (cut piece_at piece_length n (drop m l))) first (pieces-stay n (end_after p (take m l)) (drop m l) after (omega (arith, few, some, left)) there)

  string-stays : (p : Point) (l after : List Seat) → Course AcrossGap t bytes p (l ++ after) → as_written bytes (read on t bytes true (string_events bytes l)) ≡ as_written bytes (string_events bytes l)
  string-stays p l after course =
      let es = string_events bytes l in
      let h = pieces-stay (length l) p l after (omega arith) course in
      ap (λ k. as_written bytes (read on t bytes true k)) (sym (append-nil es)) ∙ h.reads [] ∙ sym (h.gives []) ∙ ap (as_written bytes) (append-nil es)

pub reference-labels-stay : ReferenceLabelsStay
reference-labels-stay g text before seats after is are =
    let p = shown g.bytes text.start in
    let course = course-on AcrossGap g.tab g.bytes p before (seats ++ after) (subst (Course AcrossGap g.tab g.bytes p) are (text-course g text is)) in
    string-stays g.options.constructs g.tab g.bytes is.document.tab.0 (end_after p before) seats after course
