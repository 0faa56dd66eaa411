-- Balanced events: literals pass over them, and they stay balanced.
use Rattle.std.proofs.Common.{◌≡◌, ℕ, zero, suc, ◌+◌, ◌-◌, ◌≤◌, ◌++◌, Bool, true, false, cond, List, [], ◌∷◌, length, drop, take, refl, sym, ap, subst, ◌∙◌, arith, ne_eqb}
use Rattle.std.proofs.Math.Bool.{and-false}
use Rattle.std.proofs.Math.Seq.{drop-append-add, take-append-add}
use Rattle.std.proofs.lemmas.List.{append-nil, append_assoc}
use Rattle.std.specs.Prelude.{◌==◌, ◌&&◌, nat_le, nat_lt}
use Rattle.markdown_base.specs.declared.event.Event.{Event}
use Rattle.markdown_base.specs.declared.event.Kind.TheVariants.{Enter, Exit}
use Rattle.markdown_base.specs.declared.event.Name.TheVariants.{Data}
use Rattle.markdown_base.specs.declared.event.Point.{Point}
use Rattle.markdown_base.specs.Events.{IsBalanced, empty, span, is_enter}
use Rattle.markdown_base.proofs.Balanced.{IsBalanced-append}
use Rattle.mdgfm_literals.specs.declared.texts.Literal.{Literal}
use Rattle.mdgfm_literals.specs.LiteralEvents.{Written, end_of, events_with, left_over, start_of, with_one, written}
use Rattle.mdgfm_events.specs.Places.{later, leaf}
use Rattle.mdgfm_events.specs.Spans.{span_end, span_size}
use Rattle.mdgfm_literals.specs.Stretches.{depth_behind, holds_none, is_fresh, is_plain, is_text, literals_of}
use Rattle.mdgfm_events.proofs.Leaves.{leaf-balanced}
use Rattle.mdgfm_events.proofs.Sizes.{end-last, end-over, size-last, size-over, split}
use Rattle.mdgfm_literals.proofs.EventSteps.{with-skip}

-- ---- depths

-- no exit enters text
pub exit-no-text : (depth : ℕ) (f : Event) → f.kind ≡ Exit → is_text depth f ≡ false
exit-no-text depth f h = ap (λ k. (depth == 0) && (is_enter k && is_plain f.name)) h ∙ and-false (depth == 0)

deep-no-text : (depth : ℕ) (e : Event) → 1 ≤ depth → is_text depth e ≡ false
deep-no-text zero e h = absurd (omega (arith, h))
deep-no-text (suc d) e h = ap (λ t. t && (is_enter e.kind && is_plain e.name)) (ne_eqb (suc d) 0 (λ q. omega (arith, q)))

-- behind a span the depth is as before it
pub depth-back : (depth : ℕ) (e f : Event) → e.kind ≡ Enter → f.kind ≡ Exit → f.name ≡ e.name → depth_behind (depth_behind depth e) f ≡ depth
depth-back depth e f enters exits same =
    ap (λ d. depth_behind d f) (ap (λ k. cond (holds_none e.name) (cond (is_enter k) (depth + 1) (depth - 1)) depth) enters)
    ∙ ap (λ k. cond (holds_none f.name) (cond (is_enter k) (depth' + 1) (depth' - 1)) depth') exits
    ∙ ap (λ n. cond (holds_none n) (depth' - 1) depth') same
    ∙ by (holds_none e.name)
  where
    depth' : ℕ
    depth' = cond (holds_none e.name) (depth + 1) depth

    by : (b : Bool) → cond b (cond b (depth + 1) depth - 1) (cond b (depth + 1) depth) ≡ depth
    by true = omega arith
    by false = refl

depth-enter : (depth : ℕ) (e : Event) → e.kind ≡ Enter → depth ≤ depth_behind depth e
depth-enter depth e h = subst (λ d. depth ≤ d) (sym (ap (λ k. cond (holds_none e.name) (cond (is_enter k) (depth + 1) (depth - 1)) depth) h)) (by (holds_none e.name))
  where
    by : (b : Bool) → depth ≤ cond b (depth + 1) depth
    by true = omega arith
    by false = omega arith

-- ---- one event on

module _ (tab : ℕ) (bytes : List ℕ) where
  pub with-other : (depth : ℕ) (place : Point) (ls : List Literal) (e : Event) (es : List Event) → is_text depth e ≡ false
      → events_with tab bytes 0 depth place ls (e ∷ es) ≡ e ∷ events_with tab bytes 0 (depth_behind depth e) place ls es
  with-other depth place ls e es h = rw h refl

  pub literals-other : (fresh : Bool) (depth : ℕ) (e : Event) (es : List Event) → is_text depth e ≡ false
      → literals_of bytes fresh depth 0 (e ∷ es) ≡ literals_of bytes (is_fresh e) (depth_behind depth e) 0 es
  literals-other fresh depth e es h = rw h refl

  -- ---- in spans that hold no literal

  pub with-deep : (depth : ℕ) (place : Point) (ls : List Literal) (xs zs : List Event) → IsBalanced xs → 1 ≤ depth
      → events_with tab bytes 0 depth place ls (xs ++ zs) ≡ xs ++ events_with tab bytes 0 depth place ls zs
  with-deep depth place ls xs zs empty h = refl
  with-deep depth place ls xs zs (span e f us vs is enters exits same bu bv) h =
      let d = depth_behind depth e in
      ap (events_with tab bytes 0 depth place ls) (split e f us vs zs is)
      ∙ with-other depth place ls e (us ++ f ∷ (vs ++ zs)) (deep-no-text depth e h)
      ∙ ap (λ (ts : List Event). e ∷ ts) (
      with-deep d place ls us (f ∷ (vs ++ zs)) bu (omega (arith, h, depth-enter depth e enters))
      ∙ ap (λ (ts : List Event). us ++ ts) (
      with-other d place ls f (vs ++ zs) (exit-no-text d f exits)
      ∙ ap (λ (ts : List Event). f ∷ ts) (
      ap (λ k. events_with tab bytes 0 k place ls (vs ++ zs)) (depth-back depth e f enters exits same)
      ∙ with-deep depth place ls vs zs bv h)))
      ∙ sym (split e f us vs (events_with tab bytes 0 depth place ls zs) is)

  pub literals-deep : (fresh : Bool) (depth : ℕ) (xs zs : List Event) → IsBalanced xs → 1 ≤ depth
      → (after : Bool) × (literals_of bytes fresh depth 0 (xs ++ zs) ≡ literals_of bytes after depth 0 zs)
  literals-deep fresh depth xs zs empty h = (fresh, refl)
  literals-deep fresh depth xs zs (span e f us vs is enters exits same bu bv) h =
      let d = depth_behind depth e in
      let inner = literals-deep (is_fresh e) d us (f ∷ (vs ++ zs)) bu (omega (arith, h, depth-enter depth e enters)) in
      let outer = literals-deep (is_fresh f) depth vs zs bv h in (
        outer.0,
        ap (literals_of bytes fresh depth 0) (split e f us vs zs is)
            ∙ literals-other fresh depth e (us ++ f ∷ (vs ++ zs)) (deep-no-text depth e h)
            ∙ inner.1
            ∙ literals-other inner.0 d f (vs ++ zs) (exit-no-text d f exits)
            ∙ ap (λ k. literals_of bytes (is_fresh f) k 0 (vs ++ zs)) (depth-back depth e f enters exits same)
            ∙ outer.1,
      )

  -- ---- balance

  one-balanced : (from : Point) (l : Literal) → IsBalanced (with_one tab bytes from l)
  one-balanced from l =
      IsBalanced-append (leaf Data from (start_of tab bytes from l)) (leaf l.name (start_of tab bytes from l) (end_of tab bytes from l))
      (leaf-balanced Data from (start_of tab bytes from l)) (leaf-balanced l.name (start_of tab bytes from l) (end_of tab bytes from l))

  pub written-balanced : (first : Point) (stop : ℕ) (place : Point) (ls : List Literal) → IsBalanced (written tab bytes first stop place ls).events
  written-balanced first stop place [] = empty
  written-balanced first stop place (l ∷ ls) =
      by (nat_lt l.from stop) (written tab bytes first stop (end_of tab bytes (later place first) l) ls) (written-balanced first stop (end_of tab bytes (later place first) l) ls)
    where
      by : (b : Bool) (more : Written) → IsBalanced more.events
          → IsBalanced (cond b (record more { events = with_one tab bytes (later place first) l ++ more.events }) (record { events = []; place = place; left = l ∷ ls })).events
      by true more p = IsBalanced-append (with_one tab bytes (later place first) l) more.events (one-balanced (later place first) l) p
      by false more p = empty

  pub left-balanced : (place first last : Point) (xs : List Event) → IsBalanced xs → IsBalanced (left_over place first last xs)
  left-balanced place first last xs b = by (nat_le place.index first.index)
    where
      by : (t : Bool) → IsBalanced (cond t xs (leaf Data place last))
      by true = b
      by false = leaf-balanced Data place last

  -- what comes in place of some events, and how it goes on behind them
  pub record PassesOver (depth : ℕ) (place : Point) (ls : List Literal) (xs : List Event) : Type 0 where
    pub out : List Event
    pub last : Point
    pub left : List Literal
    pub balanced : IsBalanced out
    pub over : (zs : List Event) → events_with tab bytes 0 depth place ls (xs ++ zs) ≡ out ++ events_with tab bytes 0 depth last left zs

  -- what a span of text gives, by its end and size, and what is behind its enter
  abbrev text_by : (depth : ℕ) → Point → List Literal → Event → (last : Point) → (size : ℕ) → List Event → List Event
  text_by depth place ls e q n rest =
      let v = written tab bytes e.point q.index place ls in v.events ++ (left_over v.place e.point q (e ∷ take n rest) ++ events_with tab bytes n depth v.place v.left rest)

  pub with-text : (depth : ℕ) (place : Point) (ls : List Literal) (e : Event) (es : List Event) → is_text depth e ≡ true
      → events_with tab bytes 0 depth place ls (e ∷ es) ≡ text_by depth place ls e (span_end e.point 0 es) (span_size 0 es) es
  with-text depth place ls e es h = ap (λ t. cond t (text_by depth place ls e (span_end e.point 0 es) (span_size 0 es) es) (e ∷ events_with tab bytes 0 (depth_behind depth e) place ls es)) h

  -- a span that is no text
  module _ (depth : ℕ) (place : Point) (ls : List Literal) (e f : Event) (us vs : List Event) {xs : List Event} (is : xs ≡ e ∷ (us ++ f ∷ vs)) (enters : e.kind ≡ Enter)
      (exits : f.kind ≡ Exit) (same : f.name ≡ e.name) where
    unfoldable pub over-other : is_text depth e ≡ false → (inner : PassesOver (depth_behind depth e) place ls us) → PassesOver depth inner.last inner.left vs → PassesOver depth place ls xs
    over-other h inner outer =
        let d = depth_behind depth e in
        record {
          out = e ∷ (inner.out ++ f ∷ outer.out);
          last = outer.last;
          left = outer.left;
          balanced = span e f inner.out outer.out refl enters exits same inner.balanced outer.balanced;
          over = λ zs.
              ap (events_with tab bytes 0 depth place ls) (split e f us vs zs is)
              ∙ with-other depth place ls e (us ++ f ∷ (vs ++ zs)) h
              ∙ ap (λ (ts : List Event). e ∷ ts) (
              inner.over (f ∷ (vs ++ zs))
              ∙ ap (λ (ts : List Event). inner.out ++ ts) (
              with-other d inner.last inner.left f (vs ++ zs) (exit-no-text d f exits)
              ∙ ap (λ (ts : List Event). f ∷ ts) (
              ap (λ k. events_with tab bytes 0 k inner.last inner.left (vs ++ zs)) (depth-back depth e f enters exits same)
              ∙ outer.over zs)))
              ∙ sym (split e f inner.out outer.out (events_with tab bytes 0 depth outer.last outer.left zs) refl);
        }

    -- a span of text
    abbrev w : Written
    w = written tab bytes e.point f.point.index place ls

    unfoldable pub over-text : is_text depth e ≡ true → IsBalanced us → PassesOver depth w.place w.left vs → PassesOver depth place ls xs
    over-text h bu outer =
        let here = left_over w.place e.point f.point (e ∷ (us ++ f ∷ [])) in
        record {
          out = w.events ++ (here ++ outer.out);
          last = outer.last;
          left = outer.left;
          balanced = IsBalanced-append w.events (here ++ outer.out) (written-balanced e.point f.point.index place ls)
              (IsBalanced-append here outer.out (left-balanced w.place e.point f.point (e ∷ (us ++ f ∷ [])) (span e f us [] refl enters exits same bu empty)) outer.balanced);
          over = λ zs.
              let rest = us ++ f ∷ (vs ++ zs) in
              let size : span_size 0 rest ≡ length us + 1 = size-over 0 us (f ∷ (vs ++ zs)) bu ∙ ap (λ n. length us + n) (size-last f (vs ++ zs) exits) in
              let end : span_end e.point 0 rest ≡ f.point = end-over e.point 0 us (f ∷ (vs ++ zs)) bu ∙ end-last e.point f (vs ++ zs) exits in
              let front : take (length us + 1) rest ≡ us ++ f ∷ [] = take-append-add us (f ∷ (vs ++ zs)) 1 in
              let behind : drop (length us + 1) rest ≡ vs ++ zs = drop-append-add us (f ∷ (vs ++ zs)) 1 in
              ap (events_with tab bytes 0 depth place ls) (split e f us vs zs is)
              ∙ with-text depth place ls e rest h
              ∙ ap (λ q. text_by depth place ls e q (span_size 0 rest) rest) end
              ∙ ap (λ n. text_by depth place ls e f.point n rest) size
              ∙ ap (λ ts. w.events ++ (left_over w.place e.point f.point (e ∷ ts) ++ events_with tab bytes (length us + 1) depth w.place w.left rest)) front
              ∙ ap (λ ts. w.events ++ (here ++ ts)) (
              with-skip tab bytes (length us + 1) depth w.place w.left rest
              ∙ ap (events_with tab bytes 0 depth w.place w.left) behind
              ∙ outer.over zs)
              ∙ ap (λ (ts : List Event). w.events ++ ts) (sym (append_assoc here outer.out (events_with tab bytes 0 depth outer.last outer.left zs)))
              ∙ sym (append_assoc w.events (here ++ outer.out) (events_with tab bytes 0 depth outer.last outer.left zs));
        }

  pub passes-over : (depth : ℕ) (place : Point) (ls : List Literal) (xs : List Event) → IsBalanced xs → PassesOver depth place ls xs
  passes-over depth place ls xs empty = record { out = []; last = place; left = ls; balanced = empty; over = λ zs. refl }
  passes-over depth place ls xs (span e f us vs is enters exits same bu bv) =
      let w = written tab bytes e.point f.point.index place ls in
      let inner = passes-over (depth_behind depth e) place ls us bu in
      by (is_text depth e) refl inner (passes-over depth inner.last inner.left vs bv) (passes-over depth w.place w.left vs bv)
    where
      by : (t : Bool) → is_text depth e ≡ t → (inner : PassesOver (depth_behind depth e) place ls us) → PassesOver depth inner.last inner.left vs
          → PassesOver depth (written tab bytes e.point f.point.index place ls).place (written tab bytes e.point f.point.index place ls).left vs
          → PassesOver depth place ls xs
      by true h inner outer text = over-text depth place ls e f us vs is enters exits same h bu text
      by false h inner outer text = over-other depth place ls e f us vs is enters exits same h inner outer

  pub with-balanced : (place : Point) (ls : List Literal) (xs : List Event) → IsBalanced xs → IsBalanced (events_with tab bytes 0 0 place ls xs)
  with-balanced place ls xs b =
      let p = passes-over 0 place ls xs b in
      subst IsBalanced (sym (ap (events_with tab bytes 0 0 place ls) (sym (append-nil xs)) ∙ p.over [] ∙ append-nil p.out)) p.balanced
