-- What has the bytes of a check: what is behind it goes on from its end, and the check is in one line.
use Rattle.std.proofs.Common.{◌≡◌, ◌∙◌, ℕ, suc, ◌+◌, ◌-◌, ◌<◌, Bool, true, false, cond, List, [], ◌∷◌, drop, length, Option, Some, None, refl, sym, ap, subst, arith, get_or}
use Rattle.std.proofs.lemmas.Bool.{false≢true}
use Rattle.std.proofs.lemmas.List.{get_or-drop}
use Rattle.std.proofs.lemmas.List.Folds.{length-prefix_len}
use Rattle.std.proofs.lemmas.List.Sums.{prefix_len_passes}
use Rattle.std.specs.List.{AllByRecursion, prefix_len}
use Rattle.std.specs.Prelude.{◌==◌, ◌&&◌, not, nat_le, slice_index, IfSome, option_map}
use Rattle.markdown_base.specs.declared.event.Event.{Event}
use Rattle.markdown_base.specs.declared.event.Name.TheVariants.{Link}
use Rattle.markdown_base.specs.declared.event.Point.{Point}
use Rattle.markdown_base.specs.Events.{is_enter}
use Rattle.mdblock_lines.specs.Lines.{is_in_line}
use Rattle.mdblock_tables.specs.declared.tasks.Check.{Check}
use Rattle.mdblock_tables.specs.Tasks.{check_at}
use Rattle.mdgfm_events.specs.Spans.{span_end, span_size}
use Rattle.mdgfm_literals.proofs.Fits.{drop-one}
use Rattle.mdgfm_literals.proofs.Order.{Goes}
use Rattle.mdgfm_tasks.proofs.Covers.{check-fits}
use Rattle.mdgfm_tasks.specs.declared.awaited.Awaited.{Awaited}
use Rattle.mdgfm_tasks.specs.declared.awaited.Awaited.TheVariants.{Nothing, Block, DefinitionEnd, Text}
use Rattle.mdgfm_tasks.specs.declared.checks.Covered.{Covered}
use Rattle.mdgfm_tasks.specs.declared.checks.Found.{Found}
use Rattle.mdgfm_tasks.specs.Awaits.{enters}
use Rattle.mdgfm_tasks.specs.Checks.{check_of, data_over, found, is_data, line_from, linked, text_over, two_more}

-- what is behind some events goes on from their end, which is the place of one of them
pub record Ends (P : Point → Type 0) (es : List Event) (c : Covered) : Type 0 where
  pub behind : (p : Point) → Goes p es → Goes c.end (drop c.size es)
  pub placed : AllByRecursion (λ e. P e.point) es → P c.end

behind-span : (n : ℕ) (p q : Point) (es : List Event) → Goes p es → Goes (span_end q n es) (drop (span_size n es) es)
behind-span n p q [] g = tt
behind-span n p q (e ∷ es) g = by (is_enter e.kind) (n == 0) (behind-span (n + 1) e.point q es g.1) (behind-span (n - 1) e.point q es g.1)
  where
    on : (a : Point) (k : ℕ) → Goes a (drop k es) → Goes a (drop (k + 1) (e ∷ es))
    on a k h = subst (Goes a) (sym (drop-one k e es)) h

    by : (b z : Bool) → Goes (span_end q (n + 1) es) (drop (span_size (n + 1) es) es) → Goes (span_end q (n - 1) es) (drop (span_size (n - 1) es) es)
        → Goes (cond b (span_end q (n + 1) es) (cond z e.point (span_end q (n - 1) es))) (drop (cond b (span_size (n + 1) es + 1) (cond z 1 (span_size (n - 1) es + 1))) (e ∷ es))
    by true z h k = on (span_end q (n + 1) es) (span_size (n + 1) es) h
    by false true h k = g.1
    by false false h k = on (span_end q (n - 1) es) (span_size (n - 1) es) k

-- where a span ends there is an event of it
pub place-of-end : (P : Point → Type 0) (n : ℕ) (q : Point) (es : List Event) → P q → AllByRecursion (λ e. P e.point) es → P (span_end q n es)
place-of-end P n q [] h all = h
place-of-end P n q (e ∷ es) h all = by (is_enter e.kind) (n == 0) (place-of-end P (n + 1) q es h all.1) (place-of-end P (n - 1) q es h all.1)
  where
    by : (b z : Bool) → P (span_end q (n + 1) es) → P (span_end q (n - 1) es) → P (cond b (span_end q (n + 1) es) (cond z e.point (span_end q (n - 1) es)))
    by true z i o = i
    by false true i o = all.0
    by false false i o = o

data-ends : (P : Point → Type 0) (at many : ℕ) (es : List Event) → IfSome (data_over at many es) (Ends P es)
data-ends P at many [] = tt
data-ends P at many (e ∷ []) = tt
data-ends P at many (e ∷ f ∷ es) = by (is_data e f) (nat_le many (f.point.index - at)) (data_over at many es) (data-ends P at many es)
  where
    by : (t u : Bool) (o : Option Covered) → IfSome o (Ends P es)
        → IfSome (cond t (cond u (Some (let v : Covered = record { size = 2; end = f.point } in v)) (option_map two_more o)) None) (Ends P (e ∷ f ∷ es))
    by false u o more = tt
    by true true o more = record { behind = λ p g. g.1.1; placed = λ all. all.1.0 }
    by true false None more = tt
    by true false (Some c) more =
        let sum : c.size + 2 ≡ suc (suc c.size) = omega arith in
        record {
          behind = λ p g. subst (λ n. Goes c.end (drop n (e ∷ f ∷ es))) (sym sum) (more.behind f.point g.1.1);
          placed = λ all. more.placed all.1.1;
        }

link-ends : (P : Point → Type 0) (at many : ℕ) (e : Event) (es : List Event) → IfSome (linked at many e es) (Ends P (e ∷ es))
link-ends P at many e es = by (((span_end e.point 0 es).index - at) == many)
  where
    by : (t : Bool) → IfSome (cond t (Some (let v : Covered = record { size = span_size 0 es + 1; end = span_end e.point 0 es } in v)) None) (Ends P (e ∷ es))
    by false = tt
    by true =
        record {
          behind = λ p g. subst (Goes (span_end e.point 0 es)) (sym (drop-one (span_size 0 es) e es)) (behind-span 0 e.point e.point es g.1);
          placed = λ all. place-of-end P 0 e.point es all.0 all.1;
        }

text-ends : (P : Point → Type 0) (at many : ℕ) (es : List Event) → IfSome (text_over at many es) (Ends P es)
text-ends P at many [] = tt
text-ends P at many (e ∷ es) = by (enters Link e)
  where
    by : (t : Bool) → IfSome (cond t (linked at many e es) (data_over at many (e ∷ es))) (Ends P (e ∷ es))
    by true = link-ends P at many e es
    by false = data-ends P at many (e ∷ es)

-- ---- of a check, which has its brackets in one line, and a byte of it behind them

pub record Stands (P : Point → Type 0) (bytes : List ℕ) (e : Event) (es : List Event) (f : Found) : Type 0 where
  pub ends : Ends P (e ∷ es) f.text
  pub fits : f.check.columns + 3 < length (line_from bytes e.point.index)

pub found-stands : (P : Point → Type 0) (bytes : List ℕ) (a : Awaited) (e : Event) (es : List Event) → IfSome (check_of bytes a (e ∷ es)) (Stands P bytes e es)
found-stands P bytes Nothing e es = tt
found-stands P bytes Block e es = tt
found-stands P bytes DefinitionEnd e es = tt
found-stands P bytes Text e es = by (check_at line) refl
  where
    line : List ℕ
    line = line_from bytes e.point.index

    in_text : (check : Check) → check.columns + 3 < length line → (o : Option Covered) → IfSome o (Ends P (e ∷ es)) → IfSome (found check o) (Stands P bytes e es)
    in_text check fits None h = tt
    in_text check fits (Some c) h = record { ends = h; fits = fits }

    by : (o : Option Check) → check_at line ≡ o → IfSome (elim o [ None ↦ None | Some check ↦ found check (text_over e.point.index (check.columns + 3) (e ∷ es)) ]) (Stands P bytes e es)
    by None q = tt
    by (Some check) q = in_text check (check-fits line check q) (text_over e.point.index (check.columns + 3) (e ∷ es)) (text-ends P e.point.index (check.columns + 3) (e ∷ es))

-- a byte of a line is no line feed
pub in-line : (bytes : List ℕ) (at k : ℕ) → k < length (line_from bytes at) → (slice_index bytes (at + k) == 10) ≡ false
in-line bytes at k h =
    let rest = drop at bytes in
    let long : length (line_from bytes at) ≡ prefix_len is_in_line rest = length-prefix_len is_in_line rest in
    let passes : is_in_line (get_or rest k 0) ≡ true = prefix_len_passes is_in_line rest k 0 (omega (arith, h, long)) in
    ap (λ b. b == 10) (sym (get_or-drop at bytes k 0)) ∙ by (get_or rest k 0 == 10) (not (get_or rest k 0 == 13)) passes
  where
    by : (t u : Bool) → (not t && u) ≡ true → t ≡ false
    by true u h = absurd (false≢true h)
    by false u h = refl
