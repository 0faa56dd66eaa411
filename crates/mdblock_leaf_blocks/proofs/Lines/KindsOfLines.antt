-- What the kind of a line says of its bytes.
use Rattle.mdblock_leaf_blocks.proofs.Prelude.{◌≡◌, ℕ, ◌≤◌, ◌&&◌, nat_le, List, Bool, true, false, cond, refl, sym, subst, ◌⊎◌, inl, inr, and_parts, Constructs, Fence, indent, is_atx_heading, is_blank_line, is_far, is_fence_of, is_thematic_break, is_underline_of_marks, run, unindented, is_underline, SeenKind, heading, fence, html, underline, thematic_break, text, seen_kind, html_number}
use Rattle.mdblock_leaf_blocks.proofs.Lines.TestedKinds.{seen-is-tested, tested_rest}
use Rattle.mdblock_leaf_blocks.proofs.Tags.HtmlNumbers.{number-bound}
use Rattle.mdblock_leaf_blocks.specs.SeenKinds.{blank, indented}

-- ---- the tests of kinds, one after another
by-tests : (P : SeenKind → Type 0) (a b c d e f i : Bool) (tick tilde : Fence) (kind : ℕ) → (a ≡ true → P heading) → (b ≡ true → P (fence tick)) → (c ≡ true → P (fence tilde)) → (d ≡ true → P (html kind)) → (e ≡ true → P underline)
    → (f ≡ true → P underline) → (i ≡ true → P thematic_break) → P text
    → P (cond a heading (cond b (fence tick) (cond c (fence tilde) (cond d (html kind) (cond e underline (cond f underline (cond i thematic_break text)))))))
by-tests P true b c d e f i tick tilde kind h k1 k2 k3 k4 k5 k6 k7 = h refl
by-tests P false true c d e f i tick tilde kind h k1 k2 k3 k4 k5 k6 k7 = k1 refl
by-tests P false false true d e f i tick tilde kind h k1 k2 k3 k4 k5 k6 k7 = k2 refl
by-tests P false false false true e f i tick tilde kind h k1 k2 k3 k4 k5 k6 k7 = k3 refl
by-tests P false false false false true f i tick tilde kind h k1 k2 k3 k4 k5 k6 k7 = k4 refl
by-tests P false false false false false true i tick tilde kind h k1 k2 k3 k4 k5 k6 k7 = k5 refl
by-tests P false false false false false false true tick tilde kind h k1 k2 k3 k4 k5 k6 k7 = k6 refl
by-tests P false false false false false false false tick tilde kind h k1 k2 k3 k4 k5 k6 k7 = k7

-- a fence of this byte
abbrev pub fence_of : (byte columns : ℕ) (r : List ℕ) → Fence
fence_of byte columns r = record { byte = byte; size = run byte r; indent = columns }

-- what holds of each kind where its test passes holds of the kind of a line; first without its white space
pub of-rest : (P : SeenKind → Type 0) (on : Constructs) (columns : ℕ) (r : List ℕ) → (is_atx_heading r ≡ true → P heading) → (is_fence_of 96 r ≡ true → P (fence (fence_of 96 columns r))) → (is_fence_of 126 r ≡ true → P (fence (fence_of 126 columns r)))
    → (nat_le 1 (html_number r) ≡ true → P (html (html_number r))) → (is_underline_of_marks 61 r ≡ true → P underline) → (is_underline_of_marks 45 r ≡ true → P underline) → (is_thematic_break r ≡ true → P thematic_break) → P text
    → P (tested_rest on columns r)
of-rest P on columns r of_heading of_tick of_tilde of_html of_equals of_dash of_break of_text =
    by-tests P (on.heading_atx && is_atx_heading r) (on.code_fenced && is_fence_of 96 r) (on.code_fenced && is_fence_of 126 r) (on.html_flow && nat_le 1 (html_number r))
    (on.heading_setext && is_underline_of_marks 61 r) (on.heading_setext && is_underline_of_marks 45 r) (on.thematic_break && is_thematic_break r) (fence_of 96 columns r) (fence_of 126 columns r) (html_number r)
    (λ h. of_heading (and_parts _ _ h).1) (λ h. of_tick (and_parts _ _ h).1) (λ h. of_tilde (and_parts _ _ h).1) (λ h. of_html (and_parts _ _ h).1) (λ h. of_equals (and_parts _ _ h).1) (λ h. of_dash (and_parts _ _ h).1)
    (λ h. of_break (and_parts _ _ h).1) of_text

pub of-line : (P : SeenKind → Type 0) (on : Constructs) (t : List ℕ) → (is_blank_line t ≡ true → P blank) → (is_blank_line t ≡ false → is_far on t ≡ true → P indented)
    → (is_blank_line t ≡ false → P (tested_rest on (indent t) (unindented t))) → P (seen_kind on t)
of-line P on t of_blank of_far of_rest =
    subst P (sym (seen-is-tested on t)) (elim (is_blank_line t) as (λ b. is_blank_line t ≡ b → P (cond b blank (cond (is_far on t) indented (tested_rest on (indent t) (unindented t))))) [
      | true ↦ of_blank
      | false ↦ λ solid. elim (is_far on t) as (λ b. is_far on t ≡ b → P (cond b indented (tested_rest on (indent t) (unindented t)))) [
        | true ↦ of_far solid
        | false ↦ λ near. of_rest solid
      ] refl
    ] refl)

-- ---- what a kind says
module _ (columns : ℕ) (r : List ℕ) where
  abbrev pub SaysOfRest : SeenKind → Type 0
  SaysOfRest blank = ⊥
  SaysOfRest indented = ⊥
  SaysOfRest heading = is_atx_heading r ≡ true
  SaysOfRest (fence f) = ((f ≡ fence_of 96 columns r) × (is_fence_of 96 r ≡ true)) ⊎ ((f ≡ fence_of 126 columns r) × (is_fence_of 126 r ≡ true))
  SaysOfRest (html kind) = (html_number r ≡ kind) × (nat_le 1 kind ≡ true)
  SaysOfRest underline = (is_underline_of_marks 61 r ≡ true) ⊎ (is_underline_of_marks 45 r ≡ true)
  SaysOfRest thematic_break = is_thematic_break r ≡ true
  SaysOfRest text = Unit {0}

module _ (on : Constructs) (t : List ℕ) where
  abbrev pub Says : SeenKind → Type 0
  Says blank = is_blank_line t ≡ true
  Says indented = (is_blank_line t ≡ false) × (is_far on t ≡ true)
  Says kind = (is_blank_line t ≡ false) × SaysOfRest (indent t) (unindented t) kind

  line-says : Says (seen_kind on t)
  line-says =
      of-line Says on t (λ h. h) (λ solid far. (solid, far))
      (λ solid. of-rest Says on (indent t) (unindented t) (λ h. (solid, h)) (λ h. (solid, inl (refl, h))) (λ h. (solid, inr (refl, h))) (λ h. (solid, (refl, h))) (λ h. (solid, inl h)) (λ h. (solid, inr h)) (λ h. (solid, h)) (solid, tt))

  pub says : {kind : SeenKind} → seen_kind on t ≡ kind → Says kind
  says is = subst Says is line-says

-- ---- the kinds of HTML are up to seven

-- a kind of lines that may be
abbrev pub IsPossible : SeenKind → Type 0
IsPossible (html kind) = kind ≤ 7
IsPossible _ = Unit {0}

pub possible : (on : Constructs) (t : List ℕ) → IsPossible (seen_kind on t)
possible on t =
    let r = unindented t in
    of-line IsPossible on t (λ _. tt) (λ _ _. tt) (λ _. of-rest IsPossible on (indent t) r (λ _. tt) (λ _. tt) (λ _. tt) (λ _. number-bound r) (λ _. tt) (λ _. tt) (λ _. tt) tt)

-- a line of the kind of underlines is one
pub underlined-is : (on : Constructs) (t : List ℕ) → is_underline (seen_kind on t) ≡ true → (is_underline_of_marks 61 (unindented t) ≡ true) ⊎ (is_underline_of_marks 45 (unindented t) ≡ true)
underlined-is on t =
    let r = unindented t in
    let P : SeenKind → Type 0 = λ kind. is_underline kind ≡ true → (is_underline_of_marks 61 r ≡ true) ⊎ (is_underline_of_marks 45 r ≡ true) in
    of-line P on t (λ _ h. absurd (cc)) (λ _ _ h. absurd (cc))
    (λ _. of-rest P on (indent t) r (λ _ h. absurd (cc)) (λ _ h. absurd (cc)) (λ _ h. absurd (cc)) (λ _ h. absurd (cc)) (λ e h. inl e) (λ e h. inr e) (λ _ h. absurd (cc)) (λ h. absurd (cc)))
