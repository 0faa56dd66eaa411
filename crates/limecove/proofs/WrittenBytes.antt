-- Bytes that are written piece by piece: those of sections from one index up to another, each section's behind those before it.
use Rattle.std.proofs.Common.{◌≡◌, ℕ, zero, suc, ◌+◌, ◌-◌, ◌≤◌, Bool, true, false, List, [], ◌∷◌, ◌++◌, length, take, drop, Some, unwrap_or, append-nil, ap, refl, sym, ◌∙◌, arith, leb-true, leb-false, add-one}
use Rattle.std.proofs.Math.Seq.{drop-append-add, take-append-add}
use Rattle.std.proofs.lemmas.List.{drop-append-le, drop_all, length-drop, length-take, take-append-drop, take-append-le, take_all}
use Rattle.std.proofs.lemmas.Option.{none-some}
use Rattle.std.specs.Prelude.{nat_le, slice_get, slice_range}
use Rattle.mdconstructs.proofs.Joined.{document-cut}
use Rattle.mdconstructs.specs.Sections.{document_of}
use Rattle.limecove.specs.Editing.{written}

-- ---- one piece behind another

-- bytes after others were written over them from an index on, as many as fit
abbrev pub written_at : (out : List ℕ) → (at : ℕ) → List ℕ → List ℕ
written_at out at bytes = take at out ++ written (drop at out) bytes

abbrev none : List ℕ
none = []

take-none : (n : ℕ) → take n none ≡ none
take-none zero = refl
take-none (suc n) = refl

drop-none : (n : ℕ) → drop n none ≡ none
drop-none zero = refl
drop-none (suc n) = refl

-- nothing fits into nothing, and nothing writes nothing
written-nil : (bytes : List ℕ) → written [] bytes ≡ []
written-nil bytes = drop-none (length bytes)

written-none : (out : List ℕ) → written out [] ≡ out
written-none out = ap (λ w. w ++ out) (take-none (length out))

nothing-at : (out : List ℕ) (at : ℕ) → written_at out at [] ≡ out
nothing-at out at = ap (λ w. take at out ++ w) (written-none (drop at out)) ∙ take-append-drop at out

written-more : (out a b : List ℕ) → take (length a) (written out a) ++ written (drop (length a) (written out a)) b ≡ written out (a ++ b)
written-more [] a b =
    ap (λ w. take (length a) w ++ written (drop (length a) w) b) (written-nil a)
    ∙ ap (λ w. w ++ written (drop (length a) none) b) (take-none (length a))
    ∙ ap (λ w. written w b) (drop-none (length a))
    ∙ written-nil b
    ∙ sym (written-nil (a ++ b))
written-more (x ∷ out) [] b = ap (λ w. written w b) (written-none (x ∷ out))
written-more (x ∷ out) (y ∷ a) b = ap (λ w. y ∷ w) (written-more out a b)

-- bytes behind others, from an index on
at-more : (at : ℕ) (out a b : List ℕ) → written_at (written_at out at a) (at + length a) b ≡ written_at out at (a ++ b)
at-more zero out a b = let z : 0 + length a ≡ length a = omega arith in ap (λ k. written_at (written out a) k b) z ∙ written-more out a b
at-more (suc at) [] a b =
    ap (λ w. written_at w (suc at + length a) b) (written-nil a)
    ∙ ap (λ w. w ++ written (drop (suc at + length a) none) b) (take-none (suc at + length a))
    ∙ ap (λ w. written w b) (drop-none (suc at + length a))
    ∙ written-nil b
    ∙ sym (written-nil (a ++ b))
at-more (suc at) (x ∷ out) a b =
    let z : suc at + length a ≡ suc (at + length a) = omega arith in
    ap (λ k. written_at (x ∷ written_at out at a) k b) z ∙ ap (λ w. x ∷ w) (at-more at out a b)

-- ---- the bytes from one index up to another of bytes behind others

joined-within : (a b : List ℕ) (from to : ℕ) → from ≤ length a → (fits : Bool) → nat_le (to - from) (length (drop from a)) ≡ fits
    → take (to - from) (drop from a ++ b) ≡ take (to - from) (drop from a) ++ slice_range b (from - length a) (to - length a)
joined-within a b from to low true p =
    let le = leb-true (to - from) (length (drop from a)) p in
    let long = length-drop from a in
    let few : (to - length a) - (from - length a) ≡ 0 = omega (arith, low, le, long) in
    take-append-le (to - from) (drop from a) b le
    ∙ sym (append-nil (take (to - from) (drop from a)))
    ∙ ap (λ k. take (to - from) (drop from a) ++ take k (drop (from - length a) b)) (sym few)
joined-within a b from to low false p =
    let gt = leb-false (to - from) (length (drop from a)) p in
    let long = length-drop from a in
    let size : to - from ≡ length (drop from a) + ((to - from) - length (drop from a)) = omega (arith, gt) in
    let left : (to - from) - length (drop from a) ≡ (to - length a) - (from - length a) = omega (arith, low, gt, long) in
    let first : 0 ≡ from - length a = omega (arith, low) in
    ap (λ k. take k (drop from a ++ b)) size
    ∙ take-append-add (drop from a) b ((to - from) - length (drop from a))
    ∙ ap (λ k. drop from a ++ take k b) left
    ∙ ap (λ k. drop from a ++ take ((to - length a) - (from - length a)) (drop k b)) first
    ∙ ap (λ w. w ++ slice_range b (from - length a) (to - length a)) (sym (take_all (to - from) (drop from a) (omega (arith, gt))))

-- of bytes behind a, where the first index is behind a
behind : (a b : List ℕ) (from to : ℕ) → length a ≤ from → slice_range (a ++ b) from to ≡ slice_range b (from - length a) (to - length a)
behind a b from to past =
    let size : from ≡ length a + (from - length a) = omega (arith, past) in
    let count : to - from ≡ (to - length a) - (from - length a) = omega (arith, past) in
    ap (λ k. take (to - from) (drop k (a ++ b))) size
    ∙ ap (λ w. take (to - from) w) (drop-append-add a b (from - length a))
    ∙ ap (λ k. take k (drop (from - length a) b)) count

joined-by : (a b : List ℕ) (from to : ℕ) (low : Bool) → nat_le from (length a) ≡ low
    → slice_range (a ++ b) from to ≡ slice_range a from to ++ slice_range b (from - length a) (to - length a)
joined-by a b from to true p =
    let low = leb-true from (length a) p in
    ap (λ w. take (to - from) w) (drop-append-le from a b low) ∙ joined-within a b from to low (nat_le (to - from) (length (drop from a))) refl
joined-by a b from to false p =
    let gt = leb-false from (length a) p in
    let gone : drop from a ≡ none = drop_all from a (omega (arith, gt)) in
    behind a b from to (omega (arith, gt))
    ∙ ap (λ w. w ++ slice_range b (from - length a) (to - length a)) (sym (ap (λ w. take (to - from) w) gone ∙ take-none (to - from)))

joined : (a b : List ℕ) (from to : ℕ) → slice_range (a ++ b) from to ≡ slice_range a from to ++ slice_range b (from - length a) (to - length a)
joined a b from to = joined-by a b from to (nat_le from (length a)) refl

-- they are no more than the bytes, and than the index behind them
pub piece-fits : (bytes : List ℕ) (from to : ℕ) → (length (slice_range bytes from to) ≤ length bytes) × (length (slice_range bytes from to) ≤ to)
piece-fits bytes from to =
    let taken = length-take (to - from) (drop from bytes) in
    let left = length-drop from bytes in
    (omega (arith, taken, left), omega (arith, taken, left))

-- ---- sections

first-next : (sections : List (List ℕ)) (i : ℕ) (section : List ℕ) → slice_get sections i ≡ Some section → document_of (drop i sections) ≡ section ++ document_of (drop (suc i) sections)
first-next [] i section is = absurd (none-some section is)
first-next (s ∷ sections) zero section is = ap (λ o. unwrap_or o [] ++ document_of sections) is
first-next (s ∷ sections) (suc i) section is = first-next sections i section is

-- bytes behind the first sections
pub behind-sections : (sections : List (List ℕ)) (n from to : ℕ) → length (document_of (take n sections)) ≤ from
    → slice_range (document_of sections) from to
    ≡ slice_range (document_of (drop n sections)) (from - length (document_of (take n sections))) (to - length (document_of (take n sections)))
behind-sections sections n from to past =
    ap (λ w. slice_range w from to) (sym (document-cut n sections)) ∙ behind (document_of (take n sections)) (document_of (drop n sections)) from to past

-- a section more
pub section-more : (sections : List (List ℕ)) (i : ℕ) (section out : List ℕ) (done from to : ℕ) → slice_get sections i ≡ Some section
    → written_at (written_at out done (slice_range section from to)) (done + length (slice_range section from to)) (slice_range (document_of (drop (i + 1) sections)) (from - length section) (to - length section))
    ≡ written_at out done (slice_range (document_of (drop i sections)) from to)
section-more sections i section out done from to is =
    let piece = slice_range section from to in
    let rest = document_of (drop (suc i) sections) in
    ap (λ k. written_at (written_at out done piece) (done + length piece) (slice_range (document_of (drop k sections)) (from - length section) (to - length section))) (add-one i)
    ∙ at-more done out piece (slice_range rest (from - length section) (to - length section))
    ∙ ap (λ w. written_at out done w) (sym (ap (λ w. slice_range w from to) (first-next sections i section is) ∙ joined section rest from to))

-- all sections were written
pub all-written : (sections : List (List ℕ)) (i : ℕ) (out : List ℕ) (done from to : ℕ) → length sections ≤ i → written_at out done (slice_range (document_of (drop i sections)) from to) ≡ out
all-written sections i out done from to within =
    ap (λ w. written_at out done (slice_range (document_of w) from to)) (drop_all i sections within)
    ∙ ap (λ w. written_at out done (take (to - from) w)) (drop-none from)
    ∙ ap (λ w. written_at out done w) (take-none (to - from))
    ∙ nothing-at out done

-- no byte is left to be written
pub none-left : (bytes out : List ℕ) (done from to : ℕ) → to ≡ 0 → written_at out done (slice_range bytes from to) ≡ out
none-left bytes out done from to end =
    let z : to - from ≡ 0 = omega (arith, end) in
    ap (λ k. written_at out done (take k (drop from bytes))) z ∙ nothing-at out done
