-- Texts that are alike where labels are compared: they differ in how white space is written, and so they are one label.
use Rattle.mddocument_rules.proofs.Prelude.{◌≡◌, ◌∙◌, ◌⊎◌, ℕ, Bool, true, false, cond, List, [], ◌∷◌, ◌++◌, append-nil, append_assoc, ap, flat_map, inl, inr, map, refl, sym, false≢true, AllByRecursion, ◌&&◌, Seat}
use Rattle.std.specs.Char.{to_ascii_uppercase}
use Rattle.std.specs.Str.{is_utf8}
use Rattle.mddocument_rules.specs.SegmentLaws.{Alike}
use Rattle.mdinline_labels.specs.Labels.{collapsed, collapsed_behind, folded_text, is_label_white, normalised, shown_byte}

pub alike-none : Alike [] []
alike-none zs ws h = h

pub alike-both : (xs ys us vs : List ℕ) → Alike xs ys → Alike us vs → Alike (xs ++ us) (ys ++ vs)
alike-both xs ys us vs f g zs ws h begun apart =
    ap (collapsed_behind begun apart) (append_assoc xs us zs) ∙ f (us ++ zs) (vs ++ ws) (g zs ws h) begun apart ∙ ap (collapsed_behind begun apart) (sym (append_assoc ys vs ws))

alike-byte : (c : ℕ) → Alike (c ∷ []) (c ∷ [])
alike-byte c zs ws h begun apart = (λ i. cond (is_label_white c) (h begun true i) (cond (begun && apart) (32 ∷ (shown_byte c ++ h true false i)) (shown_byte c ++ h true false i)))

pub alike-same : (xs : List ℕ) → Alike xs xs
alike-same [] = alike-none
alike-same (c ∷ cs) = alike-both (c ∷ []) (c ∷ []) cs cs (alike-byte c) (alike-same cs)

-- ---- white space
abbrev pub AreWhite : List ℕ → Type 0
AreWhite xs = AllByRecursion (λ (c : ℕ). is_label_white c ≡ true) xs

white-first : (c : ℕ) (cs : List ℕ) → is_label_white c ≡ true → (begun apart : Bool) → collapsed_behind begun apart (c ∷ cs) ≡ collapsed_behind begun true cs
white-first c cs w begun apart =
    ap (λ b. cond b (collapsed_behind begun true cs) (cond (begun && apart) (32 ∷ (shown_byte c ++ collapsed_behind true false cs)) (shown_byte c ++ collapsed_behind true false cs))) w

pub white-passed : (xs zs : List ℕ) → AreWhite xs → (begun : Bool) → collapsed_behind begun true (xs ++ zs) ≡ collapsed_behind begun true zs
white-passed [] zs w begun = refl
white-passed (c ∷ cs) zs w begun = white-first c (cs ++ zs) w.0 begun true ∙ white-passed cs zs w.1 begun

-- any white space is like any other
pub alike-white : (c d : ℕ) (cs ds : List ℕ) → AreWhite (c ∷ cs) → AreWhite (d ∷ ds) → Alike (c ∷ cs) (d ∷ ds)
alike-white c d cs ds v w zs ws h begun apart =
    white-first c (cs ++ zs) v.0 begun apart ∙ white-passed cs zs v.1 begun ∙ h begun true ∙ sym (white-passed ds ws w.1 begun) ∙ sym (white-first d (ds ++ ws) w.0 begun apart)

-- so alike texts are one label
pub alike-labels : (xs ys : List ℕ) → Alike xs ys → normalised xs ≡ normalised ys
alike-labels xs ys h =
    let same : collapsed xs ≡ collapsed ys = ap collapsed (sym (append-nil xs)) ∙ h [] [] (λ begun apart. refl) false false ∙ ap collapsed (append-nil ys) in
    ap (λ together. cond (is_utf8 together) (folded_text together) (map to_ascii_uppercase together)) same

-- ---- tabs
-- What is written for virtual bytes: of a tab, which is one byte, the bytes before its last one stand for nothing
module _ (written : Seat → List ℕ) where
  -- each is a byte that is written, or one of a tab; the first may be one of a tab that began before
  abbrev pub AreWhole : (in_tab : Bool) → List Seat → Type 0
  AreWhole in_tab [] = in_tab ≡ false
  AreWhole in_tab (s ∷ ss) =
      ((in_tab ≡ false) × (written s ≡ s.byte ∷ []) × AreWhole false ss)
      ⊎ (((is_label_white s.byte ≡ true) × (written s ≡ 9 ∷ []) × AreWhole false ss) ⊎ ((is_label_white s.byte ≡ true) × (written s ≡ []) × AreWhole true ss))

  abbrev bytes : List Seat → List ℕ
  bytes ss = map (λ (s : Seat). s.byte) ss

  -- behind them both texts go on alike
  abbrev GoOn : (ss : List Seat) → (apart : Bool → Bool) → Type 0
  GoOn ss after = (zs ws : List ℕ) → ((begun apart : Bool) → collapsed_behind begun apart zs ≡ collapsed_behind begun apart ws) → (begun apart : Bool) → collapsed_behind begun apart (flat_map written ss ++ zs) ≡ collapsed_behind begun (after apart) (bytes ss ++ ws)

  one-written : (s : Seat) (ss : List Seat) (ts zs : List ℕ) → written s ≡ ts → flat_map written (s ∷ ss) ++ zs ≡ ts ++ (flat_map written ss ++ zs)
  one-written s ss ts zs w = ap (λ l. (l ++ flat_map written ss) ++ zs) w ∙ append_assoc ts (flat_map written ss) zs

  whole-alike : (ss : List Seat) → (AreWhole false ss → GoOn ss (λ apart. apart)) × (AreWhole true ss → GoOn ss (λ apart. true))
  whole-alike [] = ((λ w. alike-none), (λ w. absurd (false≢true (sym w))))
  whole-alike (s ∷ ss) =
      let more = whole-alike ss in (
        (λ w zs ws h begun apart. elim w [
          | inl byte ↦ ap (collapsed_behind begun apart) (one-written s ss (s.byte ∷ []) zs byte.1) ∙ alike-byte s.byte (flat_map written ss ++ zs) (bytes ss ++ ws) (more.0 byte.2 zs ws h) begun apart
          | inr tab ↦ elim tab [
            | inl last ↦
                ap (collapsed_behind begun apart) (one-written s ss (9 ∷ []) zs last.1) ∙ more.0 last.2 zs ws h begun true ∙ sym (white-first s.byte (bytes ss ++ ws) last.0 begun apart)
            | inr inner ↦
                ap (collapsed_behind begun apart) (one-written s ss [] zs inner.1) ∙ more.1 inner.2 zs ws h begun apart ∙ sym (white-first s.byte (bytes ss ++ ws) inner.0 begun apart)
          ]
        ]),
        (λ w zs ws h begun apart. elim w [
          | inl byte ↦ absurd (let no : true ≡ false = byte.0 in cc)
          | inr tab ↦ elim tab [
            | inl last ↦
                ap (collapsed_behind begun apart) (one-written s ss (9 ∷ []) zs last.1) ∙ more.0 last.2 zs ws h begun true ∙ sym (white-first s.byte (bytes ss ++ ws) last.0 begun true)
            | inr inner ↦
                ap (collapsed_behind begun apart) (one-written s ss [] zs inner.1) ∙ more.1 inner.2 zs ws h begun apart ∙ sym (white-first s.byte (bytes ss ++ ws) inner.0 begun true)
          ]
        ]),
      )

  -- So what is written is like the virtual bytes, also where a tab began before them
  pub written-alike : (in_tab : Bool) (ss : List Seat) → AreWhole in_tab ss → Alike (flat_map written ss) (bytes ss)
  written-alike false ss w = (whole-alike ss).0 w
  written-alike true [] w = absurd (false≢true (sym w))
  written-alike true (s ∷ ss) w =
      let white : is_label_white s.byte ≡ true = elim w as (λ _. is_label_white s.byte ≡ true) [
        | inl byte ↦ absurd (false≢true (sym byte.0))
        | inr tab ↦ elim tab as (λ _. is_label_white s.byte ≡ true) [ inl last ↦ last.0 | inr inner ↦ inner.0 ]
      ] in
      λ zs ws h begun apart.
      (whole-alike (s ∷ ss)).1 w zs ws h begun apart ∙ white-first s.byte (bytes ss ++ ws) white begun true ∙ sym (white-first s.byte (bytes ss ++ ws) white begun apart)
