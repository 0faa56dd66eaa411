-- What definitions cost is paid by their bytes.
use Rattle.mdinline_labels.proofs.Prelude.{◌≡◌, ℕ, ◌+◌, ◌-◌, ◌*◌, ◌≤◌, ◌⊎◌, List, Option, Some, None, IfSome, drop, length, length-drop, inl, inr, refl, sym, ap, ◌∙◌, subst, arith, drop-drop, prefix_len-le-length, none-some, prefix_len, Stretch, Definition, is_white, gap, definition_at, end, TriesTitle, IsEnded, IsPaid}
use Rattle.mdinline_labels.proofs.GivenBack.{given-back, gap-left}

-- turns before a definition, and behind its label, its destination, its title and its last line
pub paid : (text : List ℕ) (el : ℕ) (de : Stretch) (title : Option Stretch) (d : Definition) (t0 t1 t2 t3 t4 : ℕ)
    → t1 ≤ t0 + 2 * el → t2 + (el + 1) ≤ t1 + end de + 3 → el + 1 ≤ end de
    → (t3 ≤ t2 + gap (drop (end de) text) + 2) ⊎ TriesTitle text (end de)
    → IfSome title (λ s. TriesTitle text (end de)) → IfSome title (λ s. t3 + end de ≤ t2 + end s + 3)
    → IsEnded text de title d t3 t4 → end de ≤ d.size → IsPaid text d t0 t4
paid text el de title d t0 t1 t2 t3 t4 one two below tried mark found (inl e) within =
    let here : t3 + end de ≤ t2 + end e.0 + 3 = subst (λ o. IfSome o (λ s. t3 + end de ≤ t2 + end s + 3)) e.1 found in
    let last : t4 + end e.0 ≤ t3 + d.size + 1 = e.2 in
    inl (omega (arith, here, last, one, two, below, within))
paid text el de title d t0 t1 t2 t3 t4 one two below tried mark found (inr e) within = of title refl tried mark
  where
    n : ℕ
    n = d.size - end de

    place : d.size + 1 ≡ end de + (d.size - end de) + 1
    place = omega (arith, within)

    back : TriesTitle text (end de) → definition_at (drop (d.size + 1) text) ≡ None
    back h = ap (λ k. definition_at (drop k text)) place ∙ given-back text (end de) (d.size - end de) e.0 h

    of : (o : Option Stretch) → title ≡ o → (t3 ≤ t2 + gap (drop (end de) text) + 2) ⊎ TriesTitle text (end de) → IfSome title (λ s. TriesTitle text (end de)) → IsPaid text d t0 t4
    of None is (inl cheap) h =
        let white = gap-left text (end de) (d.size - end de) e.0 in
        let same : prefix_len is_white (drop (d.size + 1) text) ≡ prefix_len is_white (drop (end de + (d.size - end de) + 1) text) = ap (λ k. prefix_len is_white (drop k text)) place in
        let last : t4 + end de ≤ t3 + d.size + 1 = e.2 is in
        inl (omega (arith, white, same, last, cheap, one, two, below, within))
    of None is (inr h) _ = inr (back h)
    of (Some s) is _ h = inr (back (subst (λ o. IfSome o (λ s. TriesTitle text (end de))) is h))

-- turns so far, in a text that was read up to here
abbrev pub ArePaid : List ℕ → (next t0 t : ℕ) → Type 0
ArePaid xs next t0 t =
    (t ≤ t0 + 7 * next + prefix_len is_white (drop next xs)) ⊎ ((t ≤ t0 + 7 * next + 5 * length xs + 8) × (definition_at (drop next xs) ≡ None))

pub still-paid : (xs : List ℕ) (next m : ℕ) (d : Definition) (t0 t t' : ℕ)
    → ArePaid xs next t0 t → definition_at (drop next xs) ≡ Some d → prefix_len is_white (drop next xs) + 3 ≤ d.size → IsPaid (drop next xs) d t t'
    → t' ≤ t + 4 * length (drop next xs) + 8 → drop m xs ≡ drop (next + (d.size + 1)) xs → next + d.size ≤ m → ArePaid xs m t0 t'
still-paid xs next m d t0 t t' (inr h) is front pays turns place on = absurd (none-some d (sym h.1 ∙ is))
still-paid xs next m d t0 t t' (inl h) is front (inl e) turns place on =
    let same : prefix_len is_white (drop (d.size + 1) (drop next xs)) ≡ prefix_len is_white (drop m xs) = ap (λ ys. prefix_len is_white ys) (drop-drop (d.size + 1) next xs ∙ sym place) in
    inl (omega (arith, h, front, e, same, on))
still-paid xs next m d t0 t t' (inl h) is front (inr e) turns place on =
    inr (
      omega (arith, h, turns, on, prefix_len-le-length is_white (drop next xs), length-drop next xs),
      ap definition_at (place ∙ sym (drop-drop (d.size + 1) next xs)) ∙ e,
    )

pub all-paid : (xs : List ℕ) (next t0 t t' : ℕ) → next ≤ length xs → ArePaid xs next t0 t → t' ≤ t + 4 * length (drop next xs) + 8 → t' ≤ t0 + 16 * length xs + 16
all-paid xs next t0 t t' within (inl h) turns = omega (arith, within, h, turns, prefix_len-le-length is_white (drop next xs), length-drop next xs)
all-paid xs next t0 t t' within (inr h) turns = omega (arith, within, h.0, turns, length-drop next xs)
