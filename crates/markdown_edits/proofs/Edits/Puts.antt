-- Edits put into a list in the order of the indices.
use Rattle.markdown_edits.proofs.Prelude.{◌≡◌, ℕ, ◌<◌, ◌≤◌, Bool, true, false, cond, List, [], ◌∷◌, ◌++◌, append-nil, refl, sym, ◌∙◌, ap, arith, AllByRecursion, Event, every-map, Edit, merged, put_by, put_before, put_after, removal_at, is_no_edit, added_after, added_before, IsAscending, nat_tests}

module _ (f : List Event → List Event → List Event) where
  pub put-less : (e d : Edit) (es : List Edit) → d.index < e.index → put_by f (e ∷ es) d ≡ d ∷ e ∷ es
  put-less e d es l = grind (arith, nat_tests)

  pub put-same : (e d : Edit) (es : List Edit) → d.index ≡ e.index → put_by f (e ∷ es) d ≡ merged f e d ∷ es
  put-same e d es l = grind (arith, nat_tests)

  pub put-more : (e d : Edit) (es : List Edit) → e.index < d.index → put_by f (e ∷ es) d ≡ e ∷ put_by f es d
  put-more e d es l = grind (arith, nat_tests)

  -- an edit behind the first ones is put into the others
  pub put-behind : (es ds : List Edit) (d : Edit) → AllByRecursion (λ (e : Edit). e.index < d.index) es → put_by f (es ++ ds) d ≡ es ++ put_by f ds d
  put-behind [] ds d h = refl
  put-behind (e ∷ es) ds d h = put-more e d (es ++ ds) h.0 ∙ ap (λ fs. e ∷ fs) (put-behind es ds d h.1)

  -- an edit behind all others is put at the end
  pub put-last : (es : List Edit) (d : Edit) → AllByRecursion (λ (e : Edit). e.index < d.index) es → put_by f es d ≡ es ++ d ∷ []
  put-last es d h = ap (λ fs. put_by f fs d) (sym (append-nil es)) ∙ put-behind es [] d h

  -- the same, of edits of which none are in the second list
  pub put-end : (es ds : List Edit) (d : Edit) → ds ≡ [] → AllByRecursion (λ (e : Edit). e.index < d.index) es → (es ++ d ∷ []) ++ ds ≡ put_by f (es ++ ds) d
  put-end es ds d z h =
      ap (λ fs. (es ++ d ∷ []) ++ fs) z ∙ append-nil (es ++ d ∷ []) ∙ sym (put-last es d h) ∙ ap (λ fs. put_by f fs d) (sym (ap (λ fs. es ++ fs) z ∙ append-nil es))

  -- edits that are above an index are above it after one more that is
  put-above : (k : ℕ) (es : List Edit) (d : Edit) → k < d.index → AllByRecursion (λ (e : Edit). k < e.index) es → AllByRecursion (λ (e : Edit). k < e.index) (put_by f es d)
  put-above k [] d l h = (l, tt)
  put-above k (e ∷ es) d l h = grind (arith, nat_tests, h.0, h.1, put-above k es d l h.1)

  -- edits ascend after one more
  pub IsAscending-put : (es : List Edit) (d : Edit) → IsAscending es → IsAscending (put_by f es d)
  IsAscending-put [] d a = (tt, tt)
  IsAscending-put (e ∷ es) d a =
      let above = λ (q : d.index < e.index). every-map (λ (x : Edit). e.index < x.index) (λ (x : Edit). d.index < x.index) (λ x l. omega arith) es a.0 in
      grind (arith, nat_tests, a.0, a.1, put-above e.index es d, IsAscending-put es d a.1)

-- the additions of two edits at one index, the second one's first or last
abbrev pub joined : Bool → List Event → List Event → List Event
joined before there more = cond before (more ++ there) (there ++ more)

pub put-joined : (before : Bool) (es : List Edit) (d : Edit) → cond before (put_before es d) (put_after es d) ≡ put_by (joined before) es d
put-joined true es d = refl
put-joined false es d = refl

-- an edit behind the first ones, with its additions first or last
pub put-second : (before : Bool) (es ds : List Edit) (d : Edit) → AllByRecursion (λ (e : Edit). e.index < d.index) es
    → es ++ cond before (put_before ds d) (put_after ds d) ≡ put_by (joined before) (es ++ ds) d
put-second before es ds d h = ap (λ fs. es ++ fs) (put-joined before ds d) ∙ sym (put-behind (joined before) es ds d h)

-- an edit that is one is put into the list
pub added-put : (before : Bool) (es : List Edit) (d : Edit) → is_no_edit d ≡ false → cond before (added_before es d) (added_after es d) ≡ put_by (joined before) es d
added-put true es d e = rw e refl
added-put false es d e = rw e refl

-- an edit pushed to the first of two lists, whose second is empty
module _ (before : Bool) (front behind pushed old : List Edit) (d : Edit) (push : pushed ≡ front ++ d ∷ []) (none : behind ≡ []) (all : AllByRecursion (λ (e : Edit). e.index < d.index) front) where
  pub IsAscending-pushed : IsAscending (front ++ behind) → IsAscending (pushed ++ behind)
  IsAscending-pushed a = rw (push, put-end (joined before) front behind d none all) (IsAscending-put (joined before) (front ++ behind) d a)

  pub added-pushed : front ++ behind ≡ old → is_no_edit d ≡ false → pushed ++ behind ≡ cond before (added_before old d) (added_after old d)
  added-pushed view some = rw (push, put-end (joined before) front behind d none all, view) (sym (added-put before old d some))

-- no more is removed by the last edits than by all
pub removal_at-behind : (es ds : List Edit) (i : ℕ) → removal_at ds i ≤ removal_at (es ++ ds) i
removal_at-behind [] ds i = omega arith
removal_at-behind (e ∷ es) ds i = omega (arith, removal_at-behind es ds i)

-- the first edits ascend
every-first : (P : Edit → Type 0) (es ds : List Edit) → AllByRecursion P (es ++ ds) → AllByRecursion P es
every-first P [] ds h = tt
every-first P (e ∷ es) ds h = (h.0, every-first P es ds h.1)

pub IsAscending-first : (es ds : List Edit) → IsAscending (es ++ ds) → IsAscending es
IsAscending-first [] ds a = tt
IsAscending-first (e ∷ es) ds a = (every-first (λ (d : Edit). e.index < d.index) es ds a.0, IsAscending-first es ds a.1)

-- the last edits ascend
pub IsAscending-last : (es ds : List Edit) → IsAscending (es ++ ds) → IsAscending ds
IsAscending-last [] ds a = a
IsAscending-last (e ∷ es) ds a = IsAscending-last es ds a.1

-- what holds of the edits of two lists holds of the second one's
pub every-last : (P : Edit → Type 0) (es ds : List Edit) → AllByRecursion P (es ++ ds) → AllByRecursion P ds
every-last P [] ds h = h
every-last P (e ∷ es) ds h = every-last P es ds h.1

-- no edit is below index 0
pub none-below : (es : List Edit) → AllByRecursion (λ (e : Edit). e.index < 0) es → es ≡ []
none-below [] h = refl
none-below (e ∷ es) h = absurd (let l : e.index < 0 = h.0 in omega arith)

-- both lists are empty if both together are
pub nil-both : (es ds : List Edit) → es ++ ds ≡ [] → (es ≡ []) × (ds ≡ [])
nil-both [] ds z = (refl, z)
nil-both (e ∷ es) ds z = absurd (cc)
