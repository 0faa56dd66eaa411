-- Which containers begin in a line: the first takes the place of the one that ended there, and the others are as they are.
use Rattle.std.proofs.Common.{◌≡◌, ◌∙◌, ◌⊎◌, ℕ, zero, suc, ◌+◌, ◌≤◌, Bool, true, false, cond, List, [], ◌∷◌, None, Option, Some, ap, arith, drop, inl, inr, length, refl, sym}
use Rattle.std.specs.Prelude.{◌==◌, ◌&&◌, slice_get}
use Rattle.std.proofs.lemmas.Option.{none-some, same_Some}
use Rattle.markdown_base.proofs.Common.{every-get}
use Rattle.markdown_base.proofs.Facts.Lists.{get-dropped}
use Rattle.markdown_base.specs.declared.configuration.Constructs.{Constructs}
use Rattle.mdblock_leaf_blocks.specs.LeafBlocks.{Line, text_of}
use Rattle.mdblock_lines.specs.Containers.{Container, Prefix, begins}
use Rattle.mdblock_containers.proofs.RowFacts.{BeginsIn, BeginsList, all_begin_here}
use Rattle.mdblock_containers.specs.Prefixes.{beginning, columns_of, containers_of, in_place_of, with_list}
use Rattle.mdblock_containers.specs.Rows.{Row, is_paragraph, is_raw}
use Rattle.mdblock_definitions.specs.Rows.{Known, row_of}

-- the container of a prefix
container-at : (ps : List Prefix) (e : ℕ) (c : Container) → slice_get (containers_of ps) e ≡ Some c → (p : Prefix) × (slice_get ps e ≡ Some p) × (c ≡ p.container)
container-at [] e c h = absurd (none-some c h)
container-at (p ∷ ps) zero c h = (p, refl, sym (same_Some p.container c h))
container-at (p ∷ ps) (suc e) c h = container-at ps e c h

-- The first container that begins takes the place of the first that ended
pub record IsInPlace (ended : List Container) (new : List Prefix) (e : ℕ) (c : Container) : Type 0 where
  pub old : Container
  pub prefix : Prefix
  pub first : e ≡ 0
  pub ended_first : slice_get ended 0 ≡ Some old
  pub new_first : slice_get new 0 ≡ Some prefix
  pub is : c ≡ in_place_of old prefix.container

-- a container begins as it is
pub record IsNew (ended : List Container) (new : List Prefix) (e : ℕ) (c : Container) : Type 0 where
  pub prefix : Prefix
  pub new_at : slice_get new e ≡ Some prefix
  pub is : c ≡ prefix.container
  pub free : (ended ≡ []) ⊎ (1 ≤ e)

listed-at : (x : Bool) (ended : List Container) (new : List Prefix) (e : ℕ) (c : Container) → slice_get (containers_of (cond x [] (with_list ended new))) e ≡ Some c → IsInPlace ended new e c ⊎ IsNew ended new e c
listed-at true ended new e c h = absurd (none-some c h)
listed-at false [] new e c h = let at = container-at new e c h in inr (record { prefix = at.0; new_at = at.1; is = at.2; free = inl refl })
listed-at false (d ∷ ds) [] e c h = absurd (none-some c h)
listed-at false (d ∷ ds) (p ∷ ps) zero c h = inl (record { old = d; prefix = p; first = refl; ended_first = refl; new_first = refl; is = sym (same_Some (in_place_of d p.container) c h) })
listed-at false (d ∷ ds) (p ∷ ps) (suc e) c h = let at = container-at ps e c h in inr (record { prefix = at.0; new_at = at.1; is = at.2; free = inr (omega arith) })

module _ (on : Constructs) (k : Known) (n : ℕ) (l : Line) where
  abbrev pub r : Row
  r = row_of on k n l

  -- what is behind the prefixes of containers that go on, and what begins there
  abbrev pub left : List ℕ
  left = drop (columns_of r.went_on) (text_of l)

  abbrev pub in_paragraph : Bool
  in_paragraph = (length r.went_on == k.before.depth) && is_paragraph k.before.leaf

  abbrev pub new : List Prefix
  new = beginning on (length left) n in_paragraph left

  abbrev pub ended : List Container
  ended = drop (length r.went_on) k.before.stack

  pub begun-at : (e : ℕ) (c : Container) → slice_get (containers_of r.begun) e ≡ Some c → IsInPlace ended new e c ⊎ IsNew ended new e c
  begun-at e c h = listed-at ((length r.went_on == k.before.depth) && is_raw k.before.leaf) ended new e c h

  pub begins-at : (e : ℕ) (p : Prefix) → slice_get new e ≡ Some p → BeginsIn n p.container × BeginsList p.container
  begins-at e p h = every-get (λ (q : Prefix). BeginsIn n q.container × BeginsList q.container) new e p (all_begin_here on n (length left) in_paragraph left) h

  pub ended-first : (c : Container) → slice_get ended 0 ≡ Some c → slice_get k.before.stack (length r.went_on) ≡ Some c
  ended-first c h =
      let same : length r.went_on ≡ length r.went_on + 0 = omega arith in
      ap (slice_get k.before.stack) same ∙ sym (get-dropped (length r.went_on) k.before.stack 0) ∙ h

  -- the first that begins, where this container ended
  pub begun-first : (old c : Container) → slice_get k.before.stack (length r.went_on) ≡ Some old → slice_get (containers_of r.begun) 0 ≡ Some c → (p : Prefix) × (slice_get new 0 ≡ Some p) × (c ≡ in_place_of old p.container)
  begun-first old c h g = elim (begun-at 0 c g) [
    | inl t ↦
        let same : t.old ≡ old = same_Some t.old old (sym (ended-first t.old t.ended_first) ∙ h) in
        (t.prefix, t.new_first, t.is ∙ ap (λ (d : Container). in_place_of d t.prefix.container) same)
    | inr t ↦ absurd (none t.free)
  ]
    where
      is_first : slice_get ended 0 ≡ Some old
      is_first =
          let same : length r.went_on + 0 ≡ length r.went_on = omega arith in
          get-dropped (length r.went_on) k.before.stack 0 ∙ ap (slice_get k.before.stack) same ∙ h

      none : (ended ≡ []) ⊎ (1 ≤ 0) → ⊥
      none (inl e) = none-some old (sym (ap (λ (cs : List Container). slice_get cs 0) e) ∙ is_first)
      none (inr e) = absurd (omega (arith, e))

  -- what begins first begins behind the prefixes of those that go on
  pub begins-first : (p : Prefix) → slice_get new 0 ≡ Some p → begins on n in_paragraph left ≡ Some p
  begins-first p h = by (length left) h
    where
      by : (bound : ℕ) → slice_get (beginning on bound n in_paragraph left) 0 ≡ Some p → begins on n in_paragraph left ≡ Some p
      by zero h = absurd (none-some p h)
      by (suc bound) h = one (begins on n in_paragraph left) refl h
        where
          one : (o : Option Prefix) → begins on n in_paragraph left ≡ o → slice_get (elim o as (λ _. List Prefix) [ None ↦ [] | Some q ↦ q ∷ beginning on bound n false (drop q.size left) ]) 0 ≡ Some p → begins on n in_paragraph left ≡ Some p
          one None e h = absurd (none-some p h)
          one (Some q) e h = e ∙ h
