-- Each call of a text is one at its place.
use Rattle.std.proofs.Common.{◌≡◌, ℕ, zero, suc, ◌+◌, ◌-◌, ◌<◌, ◌≤◌, Bool, true, false, cond, List, [], ◌∷◌, drop, take, Option, Some, None, refl, sym, ap, ◌∙◌, arith}
use Rattle.mdgfm_literals.specs.Literals.{more_passed}
use Rattle.mdgfm_literals.proofs.LiteralLaws.{tail}
use Rattle.mdgfm_footnotes.specs.Calls.{call_at, calls_from, label_at}
use Rattle.mdgfm_footnotes.specs.Laws.{AreCalls, CallsAreCalls}
use Rattle.markdown_base.specs.declared.event.Name.TheVariants.{GfmFootnoteCall}

module _ (defined : (label : List ℕ) → Bool) where
  call-some : (text : List ℕ) (n : ℕ) → call_at defined text ≡ Some n → 1 ≤ n
  call-some text n e = by (label_at text) e
    where
      two : (m : ℕ) (b : Bool) → cond b (Some (m + 3)) None ≡ Some n → 1 ≤ n
      two m true q = let same : m + 3 ≡ n = cc in omega (arith, same)
      two m false q = absurd (cc)

      by : (o : Option ℕ) → (elim o as (λ _. Option ℕ) [ None ↦ None | Some m ↦ cond (defined (take m (drop 2 text))) (Some (m + 3)) None ]) ≡ Some n → 1 ≤ n
      by None q = absurd (cc)
      by (Some m) q = two m (defined (take m (drop 2 text))) q

  module _ (start : ℕ) (text : List ℕ) where
    are : (skip at : ℕ) (rest : List ℕ) (end : ℕ) → start ≤ at → drop (at - start) text ≡ rest → end ≤ at + skip → AreCalls defined start text end (calls_from defined skip at rest)
    are skip at [] end h e k = tt
    are (suc skip) at (b ∷ bs) end h e k = are skip (at + 1) bs end (omega (arith, h)) (tail start text at b bs h e) (omega (arith, k))
    are zero at (b ∷ bs) end h e k =
        by (call_at defined (b ∷ bs)) refl
        (are (more_passed (b ∷ bs)) (at + 1) bs end (omega (arith, h)) (tail start text at b bs h e) (omega (arith, k)))
        (λ n some. are (n - 1) (at + 1) bs (at + n) (omega (arith, h)) (tail start text at b bs h e) (omega (arith, some)))
      where
        by : (o : Option ℕ) → call_at defined (b ∷ bs) ≡ o
            → AreCalls defined start text end (calls_from defined (more_passed (b ∷ bs)) (at + 1) bs)
            → ((n : ℕ) → 1 ≤ n → AreCalls defined start text (at + n) (calls_from defined (n - 1) (at + 1) bs))
            → AreCalls defined start text end (elim o [ Some n ↦ record { from = at; to = at + n; name = GfmFootnoteCall } ∷ calls_from defined (n - 1) (at + 1) bs | None ↦ calls_from defined (more_passed (b ∷ bs)) (at + 1) bs ])
        by None q none more = none
        by (Some n) q none more =
            let some = call-some (b ∷ bs) n q in
            let size : n ≡ at + n - at = omega arith in
            let first : end ≤ at = omega (arith, k) in
            let last : at < at + n = omega (arith, some) in
            (first, last, ap (call_at defined) e ∙ q ∙ ap (λ m. Some m) size, more n some)

pub calls-are-calls : CallsAreCalls
calls-are-calls defined start text =
    let z : start - start ≡ 0 = omega arith in
    are defined start text 0 start text start (omega arith) (ap (λ n. drop n text) z) (omega arith)
