-- The marks of prefixes are whole spans over their virtual bytes.
use Rattle.std.proofs.Common.{◌≡◌, ℕ, zero, suc, ◌+◌, true, List, [], ◌∷◌, ◌++◌, take, drop, refl, sym, ap, ◌∙◌, arith}
use Rattle.std.specs.Prelude.{◌&&◌}
use Rattle.std.proofs.lemmas.Bool.{false≢true}
use Rattle.std.proofs.lemmas.List.{drop-drop, take-append-drop}
use Rattle.std.proofs.lemmas.List.Sums.{sum_by-cons}
use Rattle.markdown_base.specs.declared.event.Name.{Name}
use Rattle.markdown_base.specs.declared.event.Name.TheVariants as name
use Rattle.markdown_base.specs.Virtual.{Seat}
use Rattle.mdblock_leaf_blocks.proofs.Lines.WholeLines.{IsWhole, whole-behind, whole-front, whole-part, none-taken}
use Rattle.mdblock_leaf_blocks.proofs.Marks.MarkForms.{Forms, forms-kept}
use Rattle.mdblock_leaf_blocks.proofs.Marks.MarkSpans.{IsKeptBySpans, no-spans, over, spans-around, spans-both, spans-leaf}
use Rattle.mdblock_leaf_blocks.specs.LeafBlocks.{bytes_of}
use Rattle.mdblock_leaf_blocks.specs.LeafEvents.{Mark, leaf_marks, span_marks, white}
use Rattle.mdblock_leaf_blocks.specs.LineKinds.{indent}
use Rattle.mdblock_lines.specs.Containers.{Container, Prefix, footnote, item, quote}
use Rattle.mdblock_containers.proofs.SkeletonChains.{Unlinked, unlinked_both}
use Rattle.mdblock_containers.specs.Prefixes.{columns_of}
use Rattle.mdblock_containers.specs.Rows.{has_none}
use Rattle.mdblock_containers.specs.Skeleton.{begun_marks, going_marks, prefixes_marks, footnote_marks, label_marks}

-- ---- parts of virtual bytes

-- one, and the rest
pub next_part : (n m : ℕ) (ss : List Seat) → take m (drop n ss) ++ drop (n + m) ss ≡ drop n ss
next_part n m ss = ap (λ l. take m (drop n ss) ++ l) (sym (drop-drop m n ss)) ∙ take-append-drop m (drop n ss)

pub take_more : (n m : ℕ) (ss : List Seat) → take n ss ++ take m (drop n ss) ≡ take (n + m) ss
take_more zero m ss = let e : m ≡ 0 + m = omega arith in ap (λ k. take k ss) e
take_more (suc n) m [] = none-taken m ∙ sym (none-taken (suc n + m))
take_more (suc n) m (s ∷ ss) = let e : suc n + m ≡ suc (n + m) = omega arith in ap (λ (l : List Seat). s ∷ l) (take_more n m ss) ∙ sym (ap (λ k. take k (s ∷ ss)) e)

pub none_both : {A : Type 0} (xs ys : List A) → has_none (xs ++ ys) ≡ (has_none xs && has_none ys)
none_both [] ys = refl
none_both (x ∷ xs) ys = refl

pub none_cut : (n : ℕ) (ss : List Seat) → (has_none (take n ss) && has_none (drop n ss)) ≡ has_none ss
none_cut n ss = sym (none_both (take n ss) (drop n ss)) ∙ ap has_none (take-append-drop n ss)

module _ (bytes : List ℕ) where
  pub leaf_unlinked : (n : Name) (ss : List Seat) → Unlinked (leaf_marks bytes n ss)
  leaf_unlinked n [] = tt
  leaf_unlinked n (s ∷ ss) = (refl, (refl, tt))

  pub span_unlinked : (n : Name) (ss : List Seat) (inside : List Mark) → Unlinked inside → Unlinked (span_marks bytes n ss inside)
  span_unlinked n [] inside h = h
  span_unlinked n (s ∷ ss) inside h = (refl, unlinked_both inside _ h (refl, tt))

  pub leaf_none : (n : Name) (ss : List Seat) → has_none (leaf_marks bytes n ss) ≡ has_none ss
  leaf_none n [] = refl
  leaf_none n (s ∷ ss) = refl

  -- ---- one prefix

  pub going_unlinked : (c : Container) (ss : List Seat) → Unlinked (going_marks bytes c ss)
  going_unlinked (quote q) ss =
      let n = indent (bytes_of ss) in
      unlinked_both (white bytes (take n ss)) _ (leaf_unlinked name.SpaceOrTab (take n ss))
      (span_unlinked name.BlockQuotePrefix (drop n ss) _ (unlinked_both (leaf_marks bytes name.BlockQuoteMarker (take 1 (drop n ss))) _ (leaf_unlinked name.BlockQuoteMarker (take 1 (drop n ss))) (leaf_unlinked name.SpaceOrTab (drop (suc n) ss))))
  going_unlinked (item i) ss = leaf_unlinked name.SpaceOrTab ss
  going_unlinked (footnote f) ss = leaf_unlinked name.SpaceOrTab ss

  label_unlinked : (l : ℕ) (ss : List Seat) → Unlinked (label_marks bytes l ss)
  label_unlinked l ss =
      unlinked_both (leaf_marks bytes name.GfmFootnoteDefinitionLabelMarker (take 1 ss)) _ (leaf_unlinked name.GfmFootnoteDefinitionLabelMarker (take 1 ss))
      (unlinked_both (leaf_marks bytes name.GfmFootnoteDefinitionMarker (take 1 (drop 1 ss))) _ (leaf_unlinked name.GfmFootnoteDefinitionMarker (take 1 (drop 1 ss)))
      (unlinked_both (span_marks bytes name.GfmFootnoteDefinitionLabelString (take l (drop 2 ss)) (leaf_marks bytes name.Data (take l (drop 2 ss)))) _
      (span_unlinked name.GfmFootnoteDefinitionLabelString (take l (drop 2 ss)) _ (leaf_unlinked name.Data (take l (drop 2 ss))))
      (leaf_unlinked name.GfmFootnoteDefinitionLabelMarker (take 1 (drop (l + 2) ss)))))

  footnote_unlinked : (l : ℕ) (ss : List Seat) → Unlinked (footnote_marks bytes l ss)
  footnote_unlinked l ss =
      span_unlinked name.GfmFootnoteDefinitionPrefix ss _
      (unlinked_both (span_marks bytes name.GfmFootnoteDefinitionLabel (take (l + 3) ss) (label_marks bytes l ss)) _ (span_unlinked name.GfmFootnoteDefinitionLabel (take (l + 3) ss) _ (label_unlinked l ss))
      (unlinked_both (leaf_marks bytes name.DefinitionMarker (take 1 (drop (l + 3) ss))) _ (leaf_unlinked name.DefinitionMarker (take 1 (drop (l + 3) ss))) (leaf_unlinked name.SpaceOrTab (drop (l + 4) ss))))

  pub begun_unlinked : (c : Container) (ss : List Seat) → Unlinked (begun_marks bytes c ss)
  begun_unlinked (quote q) ss = going_unlinked (quote q) ss
  begun_unlinked (footnote f) ss =
      let n = indent (bytes_of ss) in
      unlinked_both (white bytes (take n ss)) _ (leaf_unlinked name.SpaceOrTab (take n ss)) (footnote_unlinked f.label (drop n ss))
  begun_unlinked (item i) ss =
      let n = indent (bytes_of ss) in
      unlinked_both (white bytes (take n ss)) _ (leaf_unlinked name.SpaceOrTab (take n ss))
      (span_unlinked name.ListItemPrefix (drop n ss) _
      (unlinked_both (leaf_marks bytes name.ListItemValue (take i.digits (drop n ss))) _ (leaf_unlinked name.ListItemValue (take i.digits (drop n ss)))
      (unlinked_both (leaf_marks bytes name.ListItemMarker (take 1 (drop (n + i.digits) ss))) _ (leaf_unlinked name.ListItemMarker (take 1 (drop (n + i.digits) ss))) (leaf_unlinked name.SpaceOrTab (drop (suc (n + i.digits)) ss)))))

  pub going_none : (c : Container) (ss : List Seat) → has_none (going_marks bytes c ss) ≡ has_none ss
  going_none (item i) ss = leaf_none name.SpaceOrTab ss
  going_none (footnote f) ss = leaf_none name.SpaceOrTab ss
  going_none (quote q) ss =
      let n = indent (bytes_of ss) in
      let inside = leaf_marks bytes name.BlockQuoteMarker (take 1 (drop n ss)) ++ white bytes (drop (suc n) ss) in
      none_both (white bytes (take n ss)) (span_marks bytes name.BlockQuotePrefix (drop n ss) inside)
      ∙ (λ k. leaf_none name.SpaceOrTab (take n ss) k && by (drop n ss) (drop (suc n) ss) (rest_none n ss) k)
      ∙ none_cut n ss
    where
      rest_none : (n : ℕ) (ss : List Seat) → has_none (drop n ss) ≡ true → has_none (drop (suc n) ss) ≡ true
      rest_none zero [] e = refl
      rest_none zero (s ∷ ss) e = absurd (false≢true e)
      rest_none (suc n) [] e = refl
      rest_none (suc n) (s ∷ ss) e = rest_none n ss e

      by : (xs ys : List Seat) → (has_none xs ≡ true → has_none ys ≡ true) → has_none (span_marks bytes name.BlockQuotePrefix xs (leaf_marks bytes name.BlockQuoteMarker (take 1 xs) ++ white bytes ys)) ≡ has_none xs
      by [] ys h = leaf_none name.SpaceOrTab ys ∙ h refl
      by (x ∷ xs) ys h = refl

  -- ---- what is kept by spans holds of prefixes over their virtual bytes

  module _ (P : List Mark → List Seat → Type 0) (kept : IsKeptBySpans bytes P) where
    pub going_kept : (c : Container) (ss : List Seat) → IsWhole ss → P (going_marks bytes c ss) ss
    going_kept (quote q) ss w =
        let n = indent (bytes_of ss) in
        let one : suc n ≡ n + 1 = omega arith in
        over bytes P kept ss (take-append-drop n ss)
        (spans-both bytes P kept (spans-leaf bytes P kept name.SpaceOrTab (take n ss) (whole-front n ss w))
        (spans-around bytes P kept name.BlockQuotePrefix (drop n ss) _ refl
        (over bytes P kept (drop n ss) (ap (λ k. take 1 (drop n ss) ++ drop k ss) one ∙ next_part n 1 ss)
        (spans-both bytes P kept (spans-leaf bytes P kept name.BlockQuoteMarker (take 1 (drop n ss)) (whole-part 1 n ss w)) (spans-leaf bytes P kept name.SpaceOrTab (drop (suc n) ss) (whole-behind (suc n) ss w))))))
    going_kept (item i) ss w = spans-leaf bytes P kept name.SpaceOrTab ss w
    going_kept (footnote f) ss w = spans-leaf bytes P kept name.SpaceOrTab ss w

    label_kept : (l : ℕ) (ss : List Seat) → IsWhole ss → P (label_marks bytes l ss) (take (l + 3) ss)
    label_kept l ss w =
        let two : drop (l + 2) ss ≡ drop l (drop 2 ss) = let e : l + 2 ≡ 2 + l = omega arith in ap (λ k. drop k ss) e ∙ sym (drop-drop l 2 ss) in
        let string : take l (drop 2 ss) ++ take 1 (drop (l + 2) ss) ≡ take (l + 1) (drop 2 ss) = ap (λ x. take l (drop 2 ss) ++ take 1 x) two ∙ take_more l 1 (drop 2 ss) in
        let caret : take 1 (drop 1 ss) ++ take (l + 1) (drop 2 ss) ≡ take (1 + (l + 1)) (drop 1 ss) = ap (λ x. take 1 (drop 1 ss) ++ take (l + 1) x) (sym (drop-drop 1 1 ss)) ∙ take_more 1 (l + 1) (drop 1 ss) in
        let all : 1 + (1 + (l + 1)) ≡ l + 3 = omega arith in
        over bytes P kept (take (l + 3) ss)
        (ap (λ x. take 1 ss ++ (take 1 (drop 1 ss) ++ x)) string ∙ ap (λ x. take 1 ss ++ x) caret ∙ take_more 1 (1 + (l + 1)) ss ∙ ap (λ k. take k ss) all)
        (spans-both bytes P kept (spans-leaf bytes P kept name.GfmFootnoteDefinitionLabelMarker (take 1 ss) (whole-front 1 ss w))
        (spans-both bytes P kept (spans-leaf bytes P kept name.GfmFootnoteDefinitionMarker (take 1 (drop 1 ss)) (whole-part 1 1 ss w))
        (spans-both bytes P kept
        (spans-around bytes P kept name.GfmFootnoteDefinitionLabelString (take l (drop 2 ss)) _ refl (spans-leaf bytes P kept name.Data (take l (drop 2 ss)) (whole-part l 2 ss w)))
        (spans-leaf bytes P kept name.GfmFootnoteDefinitionLabelMarker (take 1 (drop (l + 2) ss)) (whole-part 1 (l + 2) ss w)))))

    footnote_kept : (l : ℕ) (ss : List Seat) → IsWhole ss → P (footnote_marks bytes l ss) ss
    footnote_kept l ss w =
        let one : l + 4 ≡ (l + 3) + 1 = omega arith in
        spans-around bytes P kept name.GfmFootnoteDefinitionPrefix ss _ refl
        (over bytes P kept ss (ap (λ x. take (l + 3) ss ++ x) (ap (λ k. take 1 (drop (l + 3) ss) ++ drop k ss) one ∙ next_part (l + 3) 1 ss) ∙ take-append-drop (l + 3) ss)
        (spans-both bytes P kept (spans-around bytes P kept name.GfmFootnoteDefinitionLabel (take (l + 3) ss) _ refl (label_kept l ss w))
        (spans-both bytes P kept (spans-leaf bytes P kept name.DefinitionMarker (take 1 (drop (l + 3) ss)) (whole-part 1 (l + 3) ss w)) (spans-leaf bytes P kept name.SpaceOrTab (drop (l + 4) ss) (whole-behind (l + 4) ss w)))))

    pub begun_kept : (c : Container) (ss : List Seat) → IsWhole ss → P (begun_marks bytes c ss) ss
    begun_kept (quote q) ss w = going_kept (quote q) ss w
    begun_kept (footnote f) ss w =
        let n = indent (bytes_of ss) in
        over bytes P kept ss (take-append-drop n ss)
        (spans-both bytes P kept (spans-leaf bytes P kept name.SpaceOrTab (take n ss) (whole-front n ss w)) (footnote_kept f.label (drop n ss) (whole-behind n ss w)))
    begun_kept (item i) ss w =
        let n = indent (bytes_of ss) in
        let d = i.digits in
        let one : suc (n + d) ≡ (n + d) + 1 = omega arith in
        over bytes P kept ss (take-append-drop n ss)
        (spans-both bytes P kept (spans-leaf bytes P kept name.SpaceOrTab (take n ss) (whole-front n ss w))
        (spans-around bytes P kept name.ListItemPrefix (drop n ss) _ refl
        (over bytes P kept (drop n ss) (ap (λ l. take d (drop n ss) ++ l) (ap (λ k. take 1 (drop (n + d) ss) ++ drop k ss) one ∙ next_part (n + d) 1 ss) ∙ next_part n d ss)
        (spans-both bytes P kept (spans-leaf bytes P kept name.ListItemValue (take d (drop n ss)) (whole-part d n ss w))
        (spans-both bytes P kept (spans-leaf bytes P kept name.ListItemMarker (take 1 (drop (n + d) ss)) (whole-part 1 (n + d) ss w)) (spans-leaf bytes P kept name.SpaceOrTab (drop (suc (n + d)) ss) (whole-behind (suc (n + d)) ss w)))))))

    pub prefixes_kept : (ps : List Prefix) (ss : List Seat) → IsWhole ss → P (prefixes_marks bytes ps ss) (take (columns_of ps) ss)
    prefixes_kept [] ss w = no-spans bytes P kept
    prefixes_kept (p ∷ ps) ss w =
        let all : columns_of (p ∷ ps) ≡ p.size + columns_of ps = sum_by-cons (λ (q : Prefix). q.size) p ps in
        over bytes P kept (take (columns_of (p ∷ ps)) ss) (take_more p.size (columns_of ps) ss ∙ ap (λ k. take k ss) (sym all))
        (spans-both bytes P kept (going_kept p.container (take p.size ss) (whole-front p.size ss w)) (prefixes_kept ps (drop p.size ss) (whole-behind p.size ss w)))

  -- so they are whole spans
  module _ (t : ℕ) where
    pub begun_over : (c : Container) (ss : List Seat) → IsWhole ss → Forms t bytes (begun_marks bytes c ss) ss
    begun_over = begun_kept (Forms t bytes) (forms-kept t bytes)

    pub leaf_over : (n : Name) (ss : List Seat) → IsWhole ss → Forms t bytes (leaf_marks bytes n ss) ss
    leaf_over n ss w = spans-leaf bytes (Forms t bytes) (forms-kept t bytes) n ss w

    pub prefixes_over : (ps : List Prefix) (ss : List Seat) → IsWhole ss → Forms t bytes (prefixes_marks bytes ps ss) (take (columns_of ps) ss)
    prefixes_over = prefixes_kept (Forms t bytes) (forms-kept t bytes)

  pub prefixes_unlinked : (ps : List Prefix) (ss : List Seat) → Unlinked (prefixes_marks bytes ps ss)
  prefixes_unlinked [] ss = tt
  prefixes_unlinked (p ∷ ps) ss = unlinked_both (going_marks bytes p.container (take p.size ss)) (prefixes_marks bytes ps (drop p.size ss)) (going_unlinked p.container (take p.size ss)) (prefixes_unlinked ps (drop p.size ss))

  pub prefixes_none : (ps : List Prefix) (ss : List Seat) → has_none (prefixes_marks bytes ps ss) ≡ has_none (take (columns_of ps) ss)
  prefixes_none [] ss = refl
  prefixes_none (p ∷ ps) ss =
      let all : columns_of (p ∷ ps) ≡ p.size + columns_of ps = sum_by-cons (λ (q : Prefix). q.size) p ps in
      none_both (going_marks bytes p.container (take p.size ss)) (prefixes_marks bytes ps (drop p.size ss))
      ∙ (λ k. going_none p.container (take p.size ss) k && prefixes_none ps (drop p.size ss) k)
      ∙ sym (none_both (take p.size ss) (take (columns_of ps) (drop p.size ss)))
      ∙ ap has_none (take_more p.size (columns_of ps) ss ∙ ap (λ k. take k ss) (sym all))

  pub leaf_is_unlinked : (n : Name) (ss : List Seat) → Unlinked (leaf_marks bytes n ss)
  leaf_is_unlinked = leaf_unlinked
