-- An end that makes a link or an image has a resource behind it, or a full reference whose label is defined, or its bracket's own label is defined.
use Rattle.mddocument_rules.proofs.Prelude.{◌≡◌, ◌∙◌, ℕ, zero, suc, Bool, true, false, cond, List, [], ◌∷◌, ◌++◌, Option, Some, None, and_parts, ap, drop, inl, inr, is_some, length, not, option_and_then, option_map, refl, subst, sym, take, ◌&&◌, Constructs, Seat}
use Rattle.std.specs.List.{prefix_len}
use Rattle.std.specs.Option.{option_or}
use Rattle.mdconstructs_tables.specs.Breaks.{is_white}
use Rattle.mdinline_constructs.specs.WhiteSpace.{white_space}
use Rattle.mdinline_full_references.specs.FullReference.{full_reference, full_reference_grammar, label_length, label_text}
use Rattle.mdinline_link_tails.specs.Resource.{resource_grammar}
use Rattle.mdinline_machine.specs.Brackets.{Bracket, Memory, after_item, begins_end, begins_link, end_at, end_of_last, image_bracket, is_image_bracket, is_wanted_at, label_end, link_bracket, lone_end, nothing_read, own_is_defined, own_tail, tail_of}
use Rattle.mdinline_machine.specs.InlineEvents.{bracket_or_part, data_length, data_run, delimiter_run, inline_grammars, inline_item_at, line_break, run_length, run_or_part}
use Rattle.mdinline_machine.specs.RunRows.{begins_run}
use Rattle.mdinline_text_machine.proofs.Constructs.Apart.{EachThere, OfOption, there-holds}
use Rattle.mdinline_text_machine.specs.Bytes.{has_byte_at, is_line_feed}
use Rattle.mdinline_text_machine.specs.Construct.{Found, Grammar, makes, or_else, plain}
use Rattle.mdinline_text_machine.specs.Items.{item_length}
use Rattle.mdinline_text_machine.specs.Parts.{bytes_of, cut_remembering}
use Rattle.mddocument_rules.proofs.CutTexts.{first_item}
use Rattle.mddocument_rules.proofs.QuietItems.{IsPlain, IsPlainAndQuiet, constructs-quiet}
use Rattle.mddocument_rules.specs.BracketLaws.{EndsAreReferences, IsTail, MakesOfBracket, remembered}

-- ---- tails
full-is : (wanted : List ℕ → Bool) (text : List ℕ) (tail : Found) → (full_reference_grammar wanted).front text ≡ Some tail
    → (n : ℕ) × (label_length text ≡ Some n) × (wanted (label_text n text) ≡ true) × (tail ≡ full_reference n)
full-is wanted text tail is =
    elim (label_length text) as (λ o. label_length text ≡ o → option_and_then (λ n. cond (wanted (label_text n text)) (Some (full_reference n)) None) o ≡ Some tail
    → (n : ℕ) × (label_length text ≡ Some n) × (wanted (label_text n text) ≡ true) × (tail ≡ full_reference n)) [
      | None ↦ λ l e. absurd (cc)
      | Some n ↦ λ l. elim (wanted (label_text n text)) as (λ t. wanted (label_text n text) ≡ t → cond t (Some (full_reference n)) None ≡ Some tail
          → (k : ℕ) × (label_length text ≡ Some k) × (wanted (label_text k text) ≡ true) × (tail ≡ full_reference k)) [
            | true ↦ λ w e. (let same : full_reference n ≡ tail = cc in (n, l, w, sym same))
            | false ↦ λ w e. absurd (cc)
          ] refl
    ] refl is

module _ (defined : List ℕ → Bool) (bytes : List ℕ) where
  tail-is : (b : Bracket) (m : Memory) (behind : List ℕ) (tail : Found) → tail_of defined bytes b m behind ≡ Some tail → IsTail defined bytes b m behind tail
  tail-is b m behind tail is =
      let reference = (full_reference_grammar (is_wanted_at defined bytes m.ahead)).front behind in
      let own = not (is_some (label_length behind)) && own_is_defined defined bytes b m in
      let last = cond own (Some (own_tail behind)) None in
      elim (resource_grammar.front behind) as (λ o. resource_grammar.front behind ≡ o → option_or o (option_or reference last) ≡ Some tail → IsTail defined bytes b m behind tail) [
        | Some t ↦ λ there e. (let same : t ≡ tail = cc in inl (there ∙ ap Some same))
        | None ↦ λ there. elim reference as (λ o. reference ≡ o → option_or o last ≡ Some tail → IsTail defined bytes b m behind tail) [
          | Some t ↦ λ found e. inr (inl (full-is (is_wanted_at defined bytes m.ahead) behind tail (found ∙ e)))
          | None ↦ λ found. elim own as (λ t. own ≡ t → cond t (Some (own_tail behind)) None ≡ Some tail → IsTail defined bytes b m behind tail) [
            | false ↦ λ w e. absurd (cc)
            | true ↦ λ w e. (let same : own_tail behind ≡ tail = cc in inr (inr ((and_parts (not (is_some (label_length behind))) (own_is_defined defined bytes b m) w).1, sym same)))
          ] refl
        ] refl
      ] refl is

  -- ---- items
  module _ (m : Memory) where
    abbrev IfMakes : Found → Type 0
    IfMakes f = f.mark ≡ makes → MakesOfBracket defined bytes m f

    plain-item : (f : Found) → IsPlain f → IfMakes f
    plain-item f p k = absurd (let no : plain ≡ makes = sym p ∙ k in cc)

    lone-item : IfMakes lone_end
    lone-item k = absurd (cc)

    last-item : (b : Bracket) (bs : List Bracket) → m.waiting ≡ b ∷ bs → IfMakes (end_of_last defined bytes b m (drop 1 (bytes_of m.ahead)))
    last-item b bs waits =
        let behind = drop 1 (bytes_of m.ahead) in
        elim b.inactive as (λ t. b.inactive ≡ t → IfMakes (cond t lone_end (or_else (option_map label_end (tail_of defined bytes b m behind)) lone_end))) [
          | true ↦ λ e. lone-item
          | false ↦ λ active. elim (tail_of defined bytes b m behind) as (λ o. tail_of defined bytes b m behind ≡ o → IfMakes (or_else (option_map label_end o) lone_end)) [
            | None ↦ λ e. lone-item
            | Some tail ↦ λ e k. (b, bs, tail, waits, refl, tail-is b m behind tail e)
          ] refl
        ] refl

    ends-item : (other : Found) → IfMakes other → IfMakes (or_else (end_at defined bytes m.waiting m (drop 1 (bytes_of m.ahead))) other)
    ends-item other h =
        elim m.waiting as (λ bs. m.waiting ≡ bs → IfMakes (or_else (end_at defined bytes bs m (drop 1 (bytes_of m.ahead))) other)) [ [] ↦ λ e. h | b ∷ bs ↦ λ e. last-item b bs e ] refl

    run-item : (on : Constructs) (text : List ℕ) → IfMakes (run_or_part on text)
    run-item on text =
        let line = line_break (prefix_len is_white (drop 1 text)) in
        elim (has_byte_at text 0 (begins_run on)) as (λ x. IfMakes (cond x (delimiter_run (run_length text)) (cond (has_byte_at text 0 is_line_feed) line (data_run (data_length on text))))) [
          | true ↦ plain-item (delimiter_run (run_length text)) refl
          | false ↦ elim (has_byte_at text 0 is_line_feed) as (λ x. IfMakes (cond x line (data_run (data_length on text)))) [ true ↦ plain-item line refl | false ↦ plain-item (data_run (data_length on text)) refl ]
        ]

    bracket-item : (on : Constructs) → IfMakes (bracket_or_part on defined bytes m (bytes_of m.ahead))
    bracket-item on =
        let text = bytes_of m.ahead in
        let other = run_or_part on text in
        let ends = cond (has_byte_at text 0 (begins_end on)) (end_at defined bytes m.waiting m (drop 1 text)) None in
        elim (has_byte_at text 0 (begins_link on)) as (λ t. IfMakes (or_else (cond t (Some link_bracket) (cond (is_image_bracket on text) (Some image_bracket) ends)) other)) [
          | true ↦ λ k. absurd (cc)
          | false ↦ elim (is_image_bracket on text) as (λ t. IfMakes (or_else (cond t (Some image_bracket) ends) other)) [
            | true ↦ λ k. absurd (cc)
            | false ↦ elim (has_byte_at text 0 (begins_end on)) as (λ t. IfMakes (or_else (cond t (end_at defined bytes m.waiting m (drop 1 text)) None) other)) [
              | true ↦ ends-item other (run-item on text)
              | false ↦ run-item on text
            ]
          ]
        ]

    of-option : (o : Option Found) → OfOption IsPlainAndQuiet o → OfOption IfMakes o
    of-option None q = tt
    of-option (Some f) q = plain-item f q.0

    each-item : (grammars : List (Grammar Found)) (text : List ℕ) → EachThere IsPlainAndQuiet grammars text → EachThere IfMakes grammars text
    each-item [] text q = tt
    each-item (g ∷ grammars) text q = (of-option (g.front text) q.0, each-item grammars text q.1)

    inline-item : (on : Constructs) → IfMakes (inline_item_at on defined bytes m (bytes_of m.ahead))
    inline-item on =
        let text = bytes_of m.ahead in there-holds IfMakes inline_grammars on text (bracket_or_part on defined bytes m text) (each-item inline_grammars text (constructs-quiet text)) (bracket-item on)

  -- ---- all items
  item-makes : (on : Constructs) (bound : ℕ) (m : Memory) (seats : List Seat) (front : List (Found × List Seat)) (i : Found × List Seat) (rest : List (Found × List Seat)) → m.ahead ≡ seats
      → cut_remembering (after_item bytes) (inline_item_at on defined bytes) item_length bound m seats ≡ front ++ i ∷ rest → i.0.mark ≡ makes → MakesOfBracket defined bytes (remembered bytes m front) i.0
  item-makes on zero m seats [] i rest ahead e k = absurd (cc)
  item-makes on zero m seats (j ∷ front) i rest ahead e k = absurd (cc)
  item-makes on (suc bound) m [] [] i rest ahead e k = absurd (cc)
  item-makes on (suc bound) m [] (j ∷ front) i rest ahead e k = absurd (cc)
  item-makes on (suc bound) m (s ∷ ss) [] i rest ahead e k =
      let f = inline_item_at on defined bytes m (bytes_of (s ∷ ss)) in
      let first : (f, take f.size (s ∷ ss)) ≡ i = cc in
      let same : inline_item_at on defined bytes m (bytes_of m.ahead) ≡ i.0 = ap (λ l. inline_item_at on defined bytes m (bytes_of l)) ahead ∙ ap (λ (j : Found × List Seat). j.0) first in
      subst (IfMakes m) same (inline-item m on) k
  item-makes on (suc bound) m (s ∷ ss) (j ∷ front) i rest ahead e k =
      let f = inline_item_at on defined bytes m (bytes_of (s ∷ ss)) in
      let first : (f, take f.size (s ∷ ss)) ≡ j = cc in
      let more : cut_remembering (after_item bytes) (inline_item_at on defined bytes) item_length bound (after_item bytes m f) (drop f.size (s ∷ ss)) ≡ front ++ i ∷ rest = cc in
      subst (λ (x : Found × List Seat). MakesOfBracket defined bytes (remembered bytes (after_item bytes m x.0) front) i.0) first
      (item-makes on bound (after_item bytes m f) (drop f.size (s ∷ ss)) front i rest (ap (drop f.size) ahead) more k)

pub ends-are-references : EndsAreReferences
ends-are-references defined on bytes seats [] i rest e k =
    absurd (let first : white_space (prefix_len is_white (bytes_of seats)) ≡ i.0 = ap (λ (l : List (Found × List Seat)). first_item lone_end l) e in let no : plain ≡ makes = ap (λ (f : Found). f.mark) first ∙ k in cc)
ends-are-references defined on bytes seats (j ∷ front) i rest e k =
    let n = prefix_len is_white (bytes_of seats) in
    let m = after_item bytes (nothing_read seats) (white_space n) in
    let first : (white_space n, take n seats) ≡ j = cc in
    let more : cut_remembering (after_item bytes) (inline_item_at on defined bytes) item_length (length seats) m (drop n seats) ≡ front ++ i ∷ rest = cc in
    subst (λ (x : Found × List Seat). MakesOfBracket defined bytes (remembered bytes (after_item bytes (nothing_read seats) x.0) front) i.0) first
    (item-makes defined bytes on (length seats) m (drop n seats) front i rest refl more k)
