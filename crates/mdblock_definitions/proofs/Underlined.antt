-- An underline behind definitions alone makes a text that is not of definitions alone, whatever comes behind.
use Rattle.std.proofs.Common.{◌≡◌, inl, inr, ℕ, suc, ◌+◌, ◌<◌, Bool, true, false, cond, List, [], ◌∷◌, ◌++◌, None, append_assoc, arith, drop, length, refl, sym, ap, subst, ◌∙◌}
use Rattle.std.specs.Prelude.{◌==◌, is_some}
use Rattle.std.specs.List.{prefix_len}
use Rattle.std.specs.Option.{option_and_then, option_map}
use Rattle.std.proofs.lemmas.Bool.{eqb-true, false≢true}
use Rattle.markdown_base.specs.declared.configuration.Constructs.{Constructs}
use Rattle.mdblock_leaf_blocks.specs.LineKinds.{begins_with, underline_rank, unindented}
use Rattle.mdblock_containers.specs.Rows.{has_none}
use Rattle.mdblock_containers.proofs.FrameFacts.{none_is}
use Rattle.mdblock_containers.proofs.LazyLemmas.{underline_some}
use Rattle.mdblock_containers.proofs.PlainLetters.{begins_underline}
use Rattle.mdblock_tables.proofs.DelimiterFronts.{BeginsDelimiting, delimiters-begin}
use Rattle.mdblock_tables.specs.Tables.{matched}
use Rattle.mdinline_labels.specs.Definitions as definitions
use Rattle.mdinline_labels.specs.Tails.{is_white, marked_size, title_end, title_size}
use Rattle.mdinline_labels.specs.Tails as tails
use Rattle.mdblock_definitions.specs.Known.{IsNeverUsedUp}
use Rattle.mdblock_definitions.specs.Rows.{is_used_up}
use Rattle.mdblock_definitions.proofs.Longer.{line-is-left}

-- white space in front of something
pub front-white : (u s : List ℕ) → 0 < length (drop (prefix_len is_white u) u) → drop (prefix_len is_white (u ++ s)) (u ++ s) ≡ drop (prefix_len is_white u) u ++ s
front-white [] s h = absurd (omega (arith, h))
front-white (b ∷ bs) s h = by (is_white b) (front-white bs s) h
  where
    by : (x : Bool) → (0 < length (drop (prefix_len is_white bs) bs) → drop (prefix_len is_white (bs ++ s)) (bs ++ s) ≡ drop (prefix_len is_white bs) bs ++ s) → 0 < length (drop (cond x (1 + prefix_len is_white bs) 0) (b ∷ bs))
        → drop (cond x (1 + prefix_len is_white (bs ++ s)) 0) (b ∷ bs ++ s) ≡ drop (cond x (1 + prefix_len is_white bs) 0) (b ∷ bs) ++ s
    by true on h =
        let one : 1 + prefix_len is_white bs ≡ suc (prefix_len is_white bs) = omega arith in
        let far : 1 + prefix_len is_white (bs ++ s) ≡ suc (prefix_len is_white (bs ++ s)) = omega arith in
        (λ k. drop (far k) (b ∷ bs ++ s)) ∙ on (subst (λ (n : ℕ). 0 < length (drop n (b ∷ bs))) one h) ∙ (λ k. drop (sym one k) (b ∷ bs) ++ s)
    by false on h = refl

some-line : (u s : List ℕ) → 0 < length (unindented u) → has_none (u ++ s) ≡ false
some-line [] s h = absurd (omega (arith, h))
some-line (b ∷ bs) s h = refl

-- a mark that begins neither a label nor a title
pub other-mark : (m : ℕ) (v s : List ℕ) → begins_with m v ≡ true → title_end m ≡ None → (m == 91) ≡ false → (title_size (v ++ s) ≡ None) × (tails.begins_with 91 (v ++ s) ≡ false)
other-mark m [] s h t e = absurd (false≢true h)
other-mark m (b ∷ bs) s h t e =
    let is : b ≡ m = eqb-true b m h in (
      ap (option_and_then (λ close. option_map (λ n. n + 2) (marked_size b close false false (bs ++ s)))) (ap title_end is ∙ t),
      ap (λ n. n == 91) is ∙ e,
    )

pub underlined : (on : Constructs) (text rest : List ℕ) → is_used_up text ≡ true → is_some (underline_rank on rest) ≡ true → IsNeverUsedUp (text ++ 10 ∷ rest)
underlined on text rest used underline more =
    let w = rest ++ more in
    let some : 0 < length (unindented rest) = omega (arith, underline_some on rest underline) in
    let place : drop (prefix_len is_white w) w ≡ unindented rest ++ more = front-white rest more some in
    let mark : (title_size (unindented rest ++ more) ≡ None) × (tails.begins_with 91 (unindented rest ++ more) ≡ false) =
    elim (begins_underline on rest underline) [ inl a ↦ other-mark 61 (unindented rest) more a refl refl | inr a ↦ other-mark 45 (unindented rest) more a refl refl ] in
    ap is_used_up (append_assoc text (10 ∷ rest) more)
    ∙ line-is-left w (ap title_size place ∙ mark.0) (ap (tails.begins_with 91) place ∙ mark.1) (some-line rest more some) (length text) text (omega arith) (none_is (definitions.rest text) used)

-- a delimiter row begins with a mark that begins neither
delimiting-some : (u : List ℕ) → BeginsDelimiting u → 0 < length u
delimiting-some [] (inl h) = absurd (false≢true h)
delimiting-some [] (inr (inl h)) = absurd (false≢true h)
delimiting-some [] (inr (inr h)) = absurd (false≢true h)
delimiting-some (b ∷ bs) h = omega arith

pub delimited : (text header rest : List ℕ) → is_used_up text ≡ true → is_some (matched header rest) ≡ true → IsNeverUsedUp (text ++ 10 ∷ rest)
delimited text header rest used match more =
    let w = rest ++ more in
    let begins = delimiters-begin header rest match in
    let some : 0 < length (unindented rest) = delimiting-some (unindented rest) begins in
    let place : drop (prefix_len is_white w) w ≡ unindented rest ++ more = front-white rest more some in
    let mark : (title_size (unindented rest ++ more) ≡ None) × (tails.begins_with 91 (unindented rest ++ more) ≡ false) =
    elim begins [
      | inl a ↦ other-mark 124 (unindented rest) more a refl refl
      | inr (inl a) ↦ other-mark 58 (unindented rest) more a refl refl
      | inr (inr a) ↦ other-mark 45 (unindented rest) more a refl refl
    ] in
    ap is_used_up (append_assoc text (10 ∷ rest) more)
    ∙ line-is-left w (ap title_size place ∙ mark.0) (ap (tails.begins_with 91) place ∙ mark.1) (some-line rest more some) (length text) text (omega arith) (none_is (definitions.rest text) used)
