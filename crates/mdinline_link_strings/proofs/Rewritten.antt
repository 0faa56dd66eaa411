-- Events that are written anew in their own memory.
use Rattle.std.proofs.Common.{◌≡◌, ◌∙◌, ◌+◌, ◌-◌, ◌≤◌, ◌++◌, ℕ, List, ap, ap₂, arith, drop, length, refl, sym, take}
use Rattle.std.proofs.lemmas.List.{drop-drop, length-drop, take-take}
use Rattle.std.proofs.lemmas.List.Edits.{drop-paste, length-paste, take-paste}
use Rattle.std.proofs.Math.Seq.{paste, take-add}
use Rattle.std.proofs.lemmas.Slice.{drop-put_mid, put_mid-paste, take-put_mid}
use Rattle.std.specs.List.{copy_within}
use Rattle.markdown_base.specs.declared.event.Event.{Event}

module _ (es : List Event) (gap left count : ℕ) where
  -- what is written, and what is left, after so many that are left were written
  abbrev pub kept : List Event × List Event
  kept = (take gap es ++ take count (drop left es), drop count (drop left es))

  -- if there is no gap, nothing moves
  pub kept-there : gap ≡ left → (take (gap + count) es, drop (left + count) es) ≡ kept
  kept-there same = ap₂ (λ xs ys. (xs, ys)) (take-add gap count es ∙ ap (λ n. take gap es ++ take count (drop n es)) same) (sym (drop-drop count left es))

  -- else they move to the front
  pub kept-moved : gap ≤ left → left + count ≤ length es
      → (take (gap + count) (copy_within es left (left + count) gap), drop (left + count) (copy_within es left (left + count) gap)) ≡ kept
  kept-moved before within =
      let long = length-drop left es in
      let few : (left + count) - left ≡ count = omega arith in
      let new = copy_within es left (left + count) gap in
      let at : left + count ≡ (gap + count) + (left - gap) = omega (arith, before) in
      let fits : count ≤ length (drop left es) = omega (arith, long, within) in
      let inside : gap ≤ length es = omega (arith, before, within) in
      ap₂ (λ xs ys. (xs, ys))
      (ap (λ n. take (gap + count) (paste es gap (drop left es) n)) few ∙ take-paste es gap (drop left es) count inside fits)
      (ap (λ n. drop n new) at ∙ sym (drop-drop (left - gap) (gap + count) new)
      ∙ ap (λ n. drop (left - gap) (drop (gap + count) (paste es gap (drop left es) n))) few
      ∙ ap (drop (left - gap)) (drop-paste es gap (drop left es) count inside fits)
      ∙ drop-drop (left - gap) (gap + count) es ∙ ap (λ n. drop n es) (sym at) ∙ sym (drop-drop count left es))

-- what is written in front of a gap, and what is left behind it
abbrev pub parts : List Event → (gap left : ℕ) → List Event × List Event
parts es gap left = (take gap es, drop left es)

-- there is room for so many more between them
pub record HasRoom (es : List Event) (gap left more : ℕ) (now : List Event × List Event) : Type 0 where
  pub are : parts es gap left ≡ now
  pub room : gap + more ≤ left
  pub within : left ≤ length es

-- so it is after what is left moved
pub room-made : (es new : List Event) (gap left more to : ℕ) (now : List Event × List Event) → gap ≤ left → parts es gap left ≡ now
    → left + more ≤ to → take left new ≡ take left es → drop to new ≡ drop left es → to ≤ length new → HasRoom new gap to more now
room-made es new gap left more to now before are room front back within = record {
  are = ap₂ (λ xs ys. (xs, ys)) (sym (take-take gap left new before) ∙ ap (take gap) front ∙ take-take gap left es before) back ∙ are;
  room = omega (arith, before, room);
  within = within;
}

-- a list in which these stand from an index on, in place of so many
abbrev pub put : (gap k : ℕ) → (ys es : List Event) → List Event
put gap k ys es = take gap es ++ (ys ++ drop k (drop gap es))

-- a list in which these were written there is as long as before
pub long-written : (es : List Event) (gap left k : ℕ) (ys more : List Event) (now : List Event × List Event) → HasRoom es gap left (length more) now → ys ≡ more → k ≡ length more
    → length (put gap k ys es) ≡ length es
long-written es gap left k ys more now h same size =
    let room = h.room in
    let within = h.within in
    ap length (put_mid-paste gap k es ys more (length more) same (sym size) refl) ∙ length-paste es gap more (length more) (omega (arith, room, within)) (omega arith)

-- and these are written there
pub written-more : (es : List Event) (gap left k : ℕ) (ys more : List Event) (now : List Event × List Event) → HasRoom es gap left (length more) now → ys ≡ more → k ≡ length more
    → parts (put gap k ys es) (gap + length more) left ≡ (now.0 ++ more, now.1)
written-more es gap left k ys more now h same size =
    let long = ap length same in
    let room = h.room in
    let within = h.within in
    let inside : gap ≤ length es = omega (arith, room, within) in
    ap₂ (λ xs zs. (xs, zs))
    (take-put_mid gap k es ys (gap + length more) (omega (arith, long)) inside ∙ ap (λ xs. take gap es ++ xs) same)
    (drop-put_mid gap k es ys left (omega (arith, size, room)) inside (long ∙ sym size))
    ∙ ap (λ v. (v.0 ++ more, v.1)) h.are
