-- What has the bytes of a check.
use Rattle.std.proofs.Common.{◌≡◌, ℕ, suc, ◌+◌, ◌-◌, ◌<◌, ◌≤◌, ◌++◌, Bool, true, false, cond, List, [], ◌∷◌, length, drop, Option, Some, None, refl, sym, ap, subst, ◌∙◌, arith, eqb-true, ne_eqb}
use Rattle.std.specs.Prelude.{◌==◌, ◌&&◌, not, nat_le, IfSome, option_map}
use Rattle.std.proofs.lemmas.Bool.{and_parts, leb-true, false≢true}
use Rattle.markdown_base.specs.declared.event.Event.{Event}
use Rattle.markdown_base.specs.declared.event.Kind.{Kind}
use Rattle.markdown_base.specs.declared.event.Kind.TheVariants.{Enter, Exit}
use Rattle.markdown_base.specs.declared.event.Name.{Name}
use Rattle.markdown_base.specs.declared.event.Name.TheVariants.{Data, Link}
use Rattle.markdown_base.specs.declared.event.Point.{Point}
use Rattle.markdown_base.specs.Events.{IsBalanced, is_enter, same_name}
use Rattle.markdown_base.proofs.Facts.Kinds.{enter-is, exit-is}
use Rattle.markdown_base.specs.OpenNames.{names_after, names_after_all}
use Rattle.markdown_base.proofs.Balanced.{IsBalanced-pair, names_after_all-append, names_after_balanced, none_is_not_some, same_name-true}
use Rattle.mdgfm_events.specs.Spans.{span_end, span_size}
use Rattle.mdblock_tables.specs.declared.tasks.Check.{Check}
use Rattle.mdblock_tables.specs.Pieces.{size_of}
use Rattle.mdblock_tables.specs.Tasks.{check_at, check_pieces}
use Rattle.mdblock_tables.proofs.TaskLemmas.{checks_leave_text}
use Rattle.mdgfm_tasks.specs.declared.awaited.Awaited.{Awaited}
use Rattle.mdgfm_tasks.specs.declared.awaited.Awaited.TheVariants.{Nothing, Block, DefinitionEnd, Text}
use Rattle.mdgfm_tasks.specs.declared.checks.Covered.{Covered}
use Rattle.mdgfm_tasks.specs.declared.checks.Found.{Found}
use Rattle.mdgfm_tasks.specs.Awaits.{enters, exits}
use Rattle.mdgfm_tasks.specs.Checks.{check_of, data_over, found, is_data, line_from, linked, text_over, two_more}
use Rattle.mdgfm_tasks.specs.Laws.{GoForward}

-- ---- balanced events

-- balanced events leave open names as they are
pub names-over : (xs es : List Event) → IsBalanced xs → (o : Option (List Name)) → names_after_all o (xs ++ es) ≡ names_after_all o es
names-over xs es b None = refl
names-over xs es b (Some st) = names_after_all-append (Some st) xs es ∙ ap (λ o. names_after_all o es) (names_after_balanced b st)

-- and so does data
data-over : (e f : Event) → is_data e f ≡ true → (st : List Name) (es : List Event) → names_after_all (Some st) (e ∷ f ∷ es) ≡ names_after_all (Some st) es
data-over e f h st es =
    let two = and_parts (enters Data e) (exits Data f) h in
    let first = and_parts (is_enter e.kind) (same_name e.name Data) two.0 in
    let last = and_parts (not (is_enter f.kind)) (same_name f.name Data) two.1 in
    names-over (e ∷ f ∷ []) es
    (IsBalanced-pair e f (enter-is e.kind first.0) (exit-is f.kind last.0) (same_name-true f.name Data last.1 ∙ sym (same_name-true e.name Data first.1))) (Some st)

-- ---- spans

span-most : (n : ℕ) (es : List Event) → span_size n es ≤ length es
span-most n [] = omega arith
span-most n (e ∷ es) = by (is_enter e.kind) (n == 0) (span-most (n + 1) es) (span-most (n - 1) es)
  where
    by : (t u : Bool) → span_size (n + 1) es ≤ length es → span_size (n - 1) es ≤ length es
        → cond t (span_size (n + 1) es + 1) (cond u 1 (span_size (n - 1) es + 1)) ≤ suc (length es)
    by true u h k = omega (arith, h)
    by false true h k = omega arith
    by false false h k = omega (arith, k)

-- where a span ends, events go on
span-forward : (n from : ℕ) (p : Point) (es : List Event) → GoForward from es → GoForward (span_end p n es).index (drop (span_size n es) es)
span-forward n from p [] h = tt
span-forward n from p (e ∷ es) h = by (is_enter e.kind) (n == 0) (span-forward (n + 1) e.point.index p es h.1) (span-forward (n - 1) e.point.index p es h.1)
  where
    one : (k : ℕ) → drop k es ≡ drop (k + 1) (e ∷ es)
    one k = let sum : k + 1 ≡ suc k = omega arith in ap (λ i. drop i (e ∷ es)) (sym sum)

    by : (t u : Bool) → GoForward (span_end p (n + 1) es).index (drop (span_size (n + 1) es) es) → GoForward (span_end p (n - 1) es).index (drop (span_size (n - 1) es) es)
        → GoForward (cond t (span_end p (n + 1) es) (cond u e.point (span_end p (n - 1) es))).index
        (drop (cond t (span_size (n + 1) es + 1) (cond u 1 (span_size (n - 1) es + 1))) (e ∷ es))
    by true u a b = subst (GoForward (span_end p (n + 1) es).index) (one (span_size (n + 1) es)) a
    by false true a b = h.1
    by false false a b = subst (GoForward (span_end p (n - 1) es).index) (one (span_size (n - 1) es)) b

-- behind spans that are open, if all are closed in the end
span-names : (n : ℕ) (m : Name) (ns st : List Name) (es : List Event) → length ns ≡ n → names_after_all (Some (m ∷ (ns ++ st))) es ≡ Some []
    → names_after_all (Some st) (drop (span_size n es) es) ≡ Some []
span-names n m ns st [] h k = absurd (cc)
span-names n m ns st (e ∷ es) h k = by (λ i x xs. span-names i x xs st es) e.kind refl k
  where
    one : (i : ℕ) → drop i es ≡ drop (i + 1) (e ∷ es)
    one i = let sum : i + 1 ≡ suc i = omega arith in ap (λ j. drop j (e ∷ es)) (sym sum)

    enter : e.kind ≡ Enter → span_size n (e ∷ es) ≡ span_size (n + 1) es + 1
    enter q = ap (λ x. cond (is_enter x) (span_size (n + 1) es + 1) (cond (n == 0) 1 (span_size (n - 1) es + 1))) q

    exit : e.kind ≡ Exit → span_size n (e ∷ es) ≡ cond (n == 0) 1 (span_size (n - 1) es + 1)
    exit q = ap (λ x. cond (is_enter x) (span_size (n + 1) es + 1) (cond (n == 0) 1 (span_size (n - 1) es + 1))) q

    closed : ((i : ℕ) (x : Name) (xs : List Name) → length xs ≡ i → names_after_all (Some (x ∷ (xs ++ st))) es ≡ Some [] → names_after_all (Some st) (drop (span_size i es) es) ≡ Some [])
        → (ns : List Name) (t : Bool) → length ns ≡ n → names_after_all (cond t (Some (ns ++ st)) None) es ≡ Some []
        → names_after_all (Some st) (drop (cond (n == 0) 1 (span_size (n - 1) es + 1)) (e ∷ es)) ≡ Some []
    closed inner ns false h k = none_is_not_some [] _ k
    closed inner [] true h k = ap (λ b. names_after_all (Some st) (drop (cond b 1 (span_size (n - 1) es + 1)) (e ∷ es))) (ap (λ i. i == 0) (sym h)) ∙ k
    closed inner (x ∷ xs) true h k =
        let other : (n == 0) ≡ false = ne_eqb n 0 (λ q. omega (arith, q, h)) in
        ap (λ b. names_after_all (Some st) (drop (cond b 1 (span_size (n - 1) es + 1)) (e ∷ es))) other
        ∙ ap (names_after_all (Some st)) (sym (one (span_size (n - 1) es)))
        ∙ inner (n - 1) x xs (omega (arith, h)) k

    by : ((i : ℕ) (x : Name) (xs : List Name) → length xs ≡ i → names_after_all (Some (x ∷ (xs ++ st))) es ≡ Some [] → names_after_all (Some st) (drop (span_size i es) es) ≡ Some [])
        → (x : Kind) → e.kind ≡ x → names_after_all (names_after x e.name (m ∷ (ns ++ st))) es ≡ Some []
        → names_after_all (Some st) (drop (span_size n (e ∷ es)) (e ∷ es)) ≡ Some []
    by inner Enter q k =
        ap (λ i. names_after_all (Some st) (drop i (e ∷ es))) (enter q)
        ∙ ap (names_after_all (Some st)) (sym (one (span_size (n + 1) es)))
        ∙ inner (n + 1) e.name (m ∷ ns) (omega (arith, h)) k
    by inner Exit q k = ap (λ i. names_after_all (Some st) (drop i (e ∷ es))) (exit q) ∙ closed inner ns (same_name m e.name) h k

-- ---- what is known of what has the bytes of a check

pub record Covers (at many : ℕ) (es : List Event) (c : Covered) : Type 0 where
  pub least : 1 ≤ c.size
  pub most : c.size ≤ length es
  pub far : many ≤ c.end.index - at
  pub names : (st : List Name) → names_after_all (Some st) es ≡ Some [] → names_after_all (Some st) (drop c.size es) ≡ Some []
  pub forward : (from : ℕ) → GoForward from es → GoForward c.end.index (drop c.size es)

data-covers : (at many : ℕ) (es : List Event) → IfSome (data_over at many es) (Covers at many es)
data-covers at many [] = tt
data-covers at many (e ∷ []) = tt
data-covers at many (e ∷ f ∷ es) = by (is_data e f) (nat_le many (f.point.index - at)) refl refl (data_over at many es) (data-covers at many es)
  where
    by : (t u : Bool) → is_data e f ≡ t → nat_le many (f.point.index - at) ≡ u → (o : Option Covered) → IfSome o (Covers at many es)
        → IfSome (cond t (cond u (Some (let v : Covered = record { size = 2; end = f.point } in v)) (option_map two_more o)) None) (Covers at many (e ∷ f ∷ es))
    by false u h k o more = tt
    by true true h k o more =
        record {
          least = omega arith;
          most = omega arith;
          far = leb-true many (f.point.index - at) k;
          names = λ st p. sym (data-over e f h st es) ∙ p;
          forward = λ from p. p.1.1;
        }
    by true false h k None more = tt
    by true false h k (Some c) more =
        let sum : c.size + 2 ≡ suc (suc c.size) = omega arith in
        record {
          least = omega arith;
          most = omega (arith, more.most);
          far = more.far;
          names = λ st p.
              ap (λ n. names_after_all (Some st) (drop n (e ∷ f ∷ es))) sum
              ∙ more.names st (sym (data-over e f h st es) ∙ p);
          forward = λ from p. subst (λ n. GoForward c.end.index (drop n (e ∷ f ∷ es))) (sym sum) (more.forward f.point.index p.1.1);
        }

link-covers : (at many : ℕ) (e : Event) (es : List Event) → is_enter e.kind ≡ true → IfSome (linked at many e es) (Covers at many (e ∷ es))
link-covers at many e es enters = by (((span_end e.point 0 es).index - at) == many) refl
  where
    one : drop (span_size 0 es + 1) (e ∷ es) ≡ drop (span_size 0 es) es
    one = let sum : span_size 0 es + 1 ≡ suc (span_size 0 es) = omega arith in ap (λ i. drop i (e ∷ es)) sum

    by : (t : Bool) → (((span_end e.point 0 es).index - at) == many) ≡ t
        → IfSome (cond t (Some (let v : Covered = record { size = span_size 0 es + 1; end = span_end e.point 0 es } in v)) None) (Covers at many (e ∷ es))
    by false h = tt
    by true h =
        let same = eqb-true ((span_end e.point 0 es).index - at) many h in
        let most = span-most 0 es in
        record {
          least = omega arith;
          most = omega (arith, most);
          far = omega (arith, same);
          names = λ st p.
              ap (names_after_all (Some st)) one
              ∙ span-names 0 e.name [] st es refl (ap (λ k. names_after_all (names_after k e.name st) es) (sym (enter-is e.kind enters)) ∙ p);
          forward = λ from p. subst (GoForward (span_end e.point 0 es).index) (sym one) (span-forward 0 e.point.index e.point es p.1);
        }

pub covers : (at many : ℕ) (es : List Event) → IfSome (text_over at many es) (Covers at many es)
covers at many [] = tt
covers at many (e ∷ es) = by (enters Link e) refl
  where
    by : (t : Bool) → enters Link e ≡ t → IfSome (cond t (linked at many e es) (data_over at many (e ∷ es))) (Covers at many (e ∷ es))
    by true h = link-covers at many e es (and_parts (is_enter e.kind) (same_name e.name Link) h).0
    by false h = data-covers at many (e ∷ es)

-- ---- of a check

pub found-covers : (bytes : List ℕ) (a : Awaited) (e : Event) (es : List Event)
    → IfSome (check_of bytes a (e ∷ es)) (λ f. Covers e.point.index (f.check.columns + 3) (e ∷ es) f.text)
found-covers bytes Nothing e es = tt
found-covers bytes Block e es = tt
found-covers bytes DefinitionEnd e es = tt
found-covers bytes Text e es = by (check_at (line_from bytes e.point.index))
  where
    in_text : (check : Check) (o : Option Covered) → IfSome o (Covers e.point.index (check.columns + 3) (e ∷ es))
        → IfSome (found check o) (λ f. Covers e.point.index (f.check.columns + 3) (e ∷ es) f.text)
    in_text check None h = tt
    in_text check (Some c) h = h

    by : (o : Option Check) → IfSome (elim o [ None ↦ None | Some check ↦ found check (text_over e.point.index (check.columns + 3) (e ∷ es)) ])
        (λ f. Covers e.point.index (f.check.columns + 3) (e ∷ es) f.text)
    by None = tt
    by (Some check) = in_text check (text_over e.point.index (check.columns + 3) (e ∷ es)) (covers e.point.index (check.columns + 3) (e ∷ es))

-- its bytes are within what has them
pub found-room : (bytes : List ℕ) (a : Awaited) (e : Event) (es : List Event) (f : Found) → check_of bytes a (e ∷ es) ≡ Some f
    → e.point.index + f.check.columns + 3 ≤ f.text.end.index
found-room bytes a e es f h =
    let k = subst (λ (o : Option Found). IfSome o (λ f. Covers e.point.index (f.check.columns + 3) (e ∷ es) f.text)) h (found-covers bytes a e es) in
    omega (arith, k.far)

-- a check is awaited where the text of an item's first block is
pub found-text : (bytes : List ℕ) (a : Awaited) (es : List Event) → IfSome (check_of bytes a es) (λ f. a ≡ Text)
found-text bytes Nothing es = tt
found-text bytes Block es = tt
found-text bytes DefinitionEnd es = tt
found-text bytes Text es = by (check_of bytes Text es)
  where
    by : (o : Option Found) → IfSome o (λ f. Text ≡ Text)
    by None = tt
    by (Some f) = refl

-- the marker of a check is in its line
pub check-fits : (line : List ℕ) (c : Check) → check_at line ≡ Some c → c.columns + 3 < length line
check-fits line c h = by (check_at line) h (checks_leave_text line)
  where
    by : (o : Option Check) → o ≡ Some c → IfSome o (λ check. size_of (check_pieces check) < length line) → c.columns + 3 < length line
    by None q k = absurd (cc)
    by (Some d) q k = let same : d ≡ c = cc in omega (arith, k, ap (λ (x : Check). x.columns) same)
