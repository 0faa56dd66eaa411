-- The events of the string of a label, and where it stands: behind the last event that enters one.
use Rattle.std.proofs.Common.{◌≡◌, ◌⊎◌, inl, inr, ℕ, zero, suc, ◌<◌, ◌&&◌, ◌||◌, not, true, false, cond, List, [], ◌∷◌, ◌++◌, arith, drop, get_or, length, refl, take, ap, ◌∙◌}
use Rattle.std.proofs.Math.Bool.{and-false, or-true}
use Rattle.std.proofs.lemmas.Bool.{or_parts}
use Rattle.std.proofs.lemmas.List.Folds.{list_any-append, list_any_at}
use Rattle.std.specs.List.{AllByRecursion, flat_map, list_any}
use Rattle.markdown_base.specs.declared.event.Event.{Event}
use Rattle.markdown_base.specs.declared.event.Kind.TheVariants.{Exit}
use Rattle.markdown_base.specs.declared.event.Name.{Name}
use Rattle.markdown_base.specs.declared.event.Name.TheVariants.{Data, LineEnding, ReferenceString, SpaceOrTab}
use Rattle.markdown_base.specs.Events.{is_enter, same_name}
use Rattle.markdown_base.specs.Virtual.{Seat, end_after}
use Rattle.mdconstructs_machines.specs.Spans.{event}
use Rattle.mdinline_constructs.specs.HtmlText.{Piece, data_run, line_break, piece_at, piece_length}
use Rattle.mdinline_text_machine.specs.Parts.{bytes_of, cut, leaf}
use Rattle.mdinline_link_tails.specs.Resource.{line_events, string_events}
use Rattle.mdinline_full_references.specs.FullReference.{label_string}
use Rattle.mdinline_full_references.specs.FullReferenceRows.{begins_label, label_behind}

-- an event of a line, of a line ending, or of the white space behind it
abbrev pub IsOfLines : Event → Type 0
IsOfLines e = (e.name ≡ Data) ⊎ ((e.name ≡ LineEnding) ⊎ (e.name ≡ SpaceOrTab))

both : (es fs : List Event) → AllByRecursion IsOfLines es → AllByRecursion IsOfLines fs → AllByRecursion IsOfLines (es ++ fs)
both [] fs h i = i
both (e ∷ es) fs h i = (h.0, both es fs h.1 i)

-- it enters no string of a label
of-lines : (e : Event) → IsOfLines e → begins_label e ≡ false
of-lines e (inl h) = ap (λ n. is_enter e.kind && same_name n ReferenceString) h ∙ and-false (is_enter e.kind)
of-lines e (inr (inl h)) = ap (λ n. is_enter e.kind && same_name n ReferenceString) h ∙ and-false (is_enter e.kind)
of-lines e (inr (inr h)) = ap (λ n. is_enter e.kind && same_name n ReferenceString) h ∙ and-false (is_enter e.kind)

none-begins : (es : List Event) → AllByRecursion IsOfLines es → list_any begins_label es ≡ false
none-begins [] h = refl
none-begins (e ∷ es) h = ap (λ t. t || list_any begins_label es) (of-lines e h.0) ∙ none-begins es h.1

module _ (bytes : List ℕ) where
  leaf-named : (n : Name) (l : List Seat) → ((n ≡ Data) ⊎ ((n ≡ LineEnding) ⊎ (n ≡ SpaceOrTab))) → AllByRecursion IsOfLines (leaf bytes n l)
  leaf-named n [] h = tt
  leaf-named n (s ∷ ss) h = (h, (h, tt))

  line-named : (p : Piece) (l : List Seat) → AllByRecursion IsOfLines (line_events bytes (p, l))
  line-named (line_break n) l = both (leaf bytes LineEnding (take 1 l)) (leaf bytes SpaceOrTab (drop 1 l)) (leaf-named LineEnding (take 1 l) (inr (inl refl))) (leaf-named SpaceOrTab (drop 1 l) (inr (inr refl)))
  line-named (data_run n) l = leaf-named Data l (inl refl)

  cut-named : (n : ℕ) (l : List Seat) → AllByRecursion IsOfLines (flat_map (line_events bytes) (cut piece_at piece_length n l))
  cut-named zero l = tt
  cut-named (suc n) [] = tt
  cut-named (suc n) (s ∷ ss) = both _ _ (line-named (piece_at (bytes_of (s ∷ ss))) _) (cut-named n _)

  -- A string has events of lines, line endings and white space alone
  pub string-named : (l : List Seat) → AllByRecursion IsOfLines (string_events bytes l)
  string-named l = cut-named (length l) l

  -- so none of them enters the string of a label
  pub string-begins-none : (l : List Seat) → list_any begins_label (string_events bytes l) ≡ false
  string-begins-none l = none-begins (string_events bytes l) (string-named l)

  -- Behind the last event that enters the string of a label stands that string, if it is the last of the events
  pub label-behind : (before : List Event) (s : Seat) (ss : List Seat)
      → label_behind (before ++ label_string bytes (s ∷ ss)) ≡ string_events bytes (s ∷ ss) ++ event bytes Exit ReferenceString (end_after s.end ss) ∷ []
  label-behind [] s ss =
      let string = string_events bytes (s ∷ ss) in
      let end = event bytes Exit ReferenceString (end_after s.end ss) ∷ [] in
      let none : list_any begins_label (string ++ end) ≡ false = list_any-append begins_label string end ∙ ap (λ t. t || false) (string-begins-none (s ∷ ss)) in
      ap (λ t. cond (not t) (string ++ end) (label_behind (string ++ end))) none
  label-behind (e ∷ es) s ss =
      let all = es ++ label_string bytes (s ∷ ss) in
      let some : list_any begins_label all ≡ true = list_any-append begins_label es (label_string bytes (s ∷ ss)) ∙ or-true (list_any begins_label es) in
      ap (λ t. cond (begins_label e && not t) all (label_behind all)) some ∙ ap (λ t. cond t all (label_behind all)) (and-false (begins_label e)) ∙ label-behind es s ss

-- It stands behind an event that enters one, if none behind that does
pub behind-last : (n : ℕ) (es : List Event) (d : Event) → n < length es → begins_label (get_or es n d) ≡ true → list_any begins_label (drop (suc n) es) ≡ false → label_behind es ≡ drop (suc n) es
behind-last n [] d within begins none = absurd (omega (arith, within))
behind-last zero (e ∷ es) d within begins none = λ i. cond (begins i && not (none i)) es (label_behind es)
behind-last (suc n) (e ∷ es) d within begins none =
    let some : list_any begins_label es ≡ true = list_any_at begins_label es n d (omega (arith, within)) begins in
    ap (λ t. cond (begins_label e && not t) es (label_behind es)) some ∙ ap (λ t. cond t es (label_behind es)) (and-false (begins_label e))
    ∙ behind-last n es d (omega (arith, within)) begins none

-- and nothing, if none does
pub behind-none : (es : List Event) → list_any begins_label es ≡ false → label_behind es ≡ []
behind-none [] none = refl
behind-none (e ∷ es) none =
    let parts = or_parts (begins_label e) (list_any begins_label es) none in
    ap (λ t. cond (t && not (list_any begins_label es)) es (label_behind es)) parts.0 ∙ behind-none es parts.1
