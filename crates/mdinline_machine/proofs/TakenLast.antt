-- The last of the brackets that are kept is taken away, and the one before it is marked.
use Rattle.std.proofs.Common.{get_or}
use Rattle.std.proofs.Math.Seq.{get_or-append_seam, set-append_seam}
use Rattle.std.proofs.lemmas.List.{length-append, reverse-append, reverse-reverse}
use Rattle.std.specs.Prelude.{slice_index_or, slice_set}
use Rattle.markdown_tokenizer.specs.declared.tokenizer.state.LabelStart.{LabelStart}
use Rattle.mdinline_machine.proofs.Prelude.{◌≡◌, ℕ, suc, ◌+◌, ◌-◌, ◌<◌, ◌||◌, List, [], ◌∷◌, ◌++◌, Bool, true, refl, sym, ap, ◌∙◌, subst, arith, length, reverse}
use Rattle.mdinline_machine.proofs.Waiting.{or-true}
use Rattle.mdinline_machine.specs.BracketRows.{holds_link, passed_on, without_first, without_last}

-- a list that is not empty has a last member
last-split : {X : Type 0} (x : X) (xs : List X) → (ys : List X) × (y : X) × (x ∷ xs ≡ ys ++ y ∷ [])
last-split x [] = ([], x, refl)
last-split x (z ∷ zs) = let (ys, y, e) = last-split z zs in (x ∷ ys, y, ap (λ l. x ∷ l) e)

-- a bracket behind which a link is
abbrev marked : LabelStart → LabelStart
marked s = record s { inactive = true }

split-marked : (made : Bool) (ys : List LabelStart) (y last : LabelStart) → holds_link made last ≡ true → ys ++ marked y ∷ [] ≡ without_last made ((ys ++ y ∷ []) ++ last ∷ [])
split-marked made ys y last holds =
    let z : LabelStart = record y { inactive = y.inactive || true } in
    let whole : reverse ((ys ++ y ∷ []) ++ last ∷ []) ≡ last ∷ (y ∷ reverse ys) = reverse-append (ys ++ y ∷ []) (last ∷ []) ∙ ap (λ l. last ∷ l) (reverse-append ys (y ∷ [])) in
    sym
    (ap (λ l. reverse (without_first made l)) whole ∙ ap (λ t. reverse (passed_on t (y ∷ reverse ys))) holds ∙ reverse-append (z ∷ []) (reverse ys) ∙ ap (λ l. l ++ z ∷ []) (reverse-reverse ys)
    ∙ ap (λ t. ys ++ record y { inactive = t } ∷ []) (or-true y.inactive))

pub marked-last : (made : Bool) (new : List LabelStart) (last e : LabelStart) (count : ℕ) → count ≡ length new → 0 < count → holds_link made last ≡ true → e ≡ slice_index_or new (count - 1) e
    → slice_set new (count - 1) (record { kind = e.kind; start = e.start; inactive = true }) ≡ without_last made (new ++ last ∷ [])
marked-last made [] last e count many some holds there = absurd (omega (arith, many, some))
marked-last made (x ∷ xs) last e count many some holds there =
    let (ys, y, split) = last-split x xs in
    let size : length (x ∷ xs) ≡ length ys + 1 = ap length split ∙ length-append ys (y ∷ []) in
    let place : count - 1 ≡ length ys = omega (arith, many, size) in
    let is : e ≡ y = there ∙ (λ i. slice_index_or (split i) (place i) e) ∙ get_or-append_seam ys y [] e in
    (λ i. slice_set (split i) (place i) (marked (is i))) ∙ set-append_seam ys y [] (marked y) ∙ split-marked made ys y last holds ∙ ap (λ l. without_last made (l ++ last ∷ [])) (sym split)
