-- Links, images and emphasis in place of brackets and delimiter runs have a span of emphasis for each pair of runs, and no other.
use Rattle.mddocument_laws.proofs.Prelude.{◌≡◌, ℕ, ◌<◌, ◌∙◌, Bool, true, false, cond, List, [], ◌∷◌, ◌++◌, None, inl, inr, refl, sym, ap, subst, append_assoc, append-nil, length, cases_Bool, cond_both, false≢true, IsPermutation-append_left, IsPermutation-append_right, IsPermutation-refl, IsPermutation-trans, AllByRecursion, flat_map, IsPermutation, every-append, Event, Name, Image, Label, LabelEnd, LabelImage, LabelMarker, LabelText, Link, Point, every-back, every-front, Run, runs_in, runs-ascend, IsFresh, AreAscending, SoFar, Waiting, added, all_parts, around, as_data, emphasised_parts, ended, events, failed, is_bracket, is_run, is_tail, label_text, last_place, made, opened, outermost_spans, part_of, runs_of_parts, spanning, taken, with_links, EmphasisSpan, emphasis_spans, is_emphasis, spans_of_runs, runs_apart_from, runs_inside, runs_outside, spans_of_text}
use Rattle.mdinline_links.proofs.Leaves.{runs-fresh}
use Rattle.mdinline_links.proofs.Spans.{spans-have}
use Rattle.mdinline_links.proofs.Steps.{ascending-front}
use Rattle.mdinline_links.specs.Linked.{Part, is_named, linked_from, run}
use Rattle.mddocument_laws.proofs.Emphasis.PartSpans.{AreGood, HaveSpans, IsGood, parts-spans, spans_between}
use Rattle.mddocument_laws.proofs.LinkWalk.{every-part}
use Rattle.mddocument_laws.proofs.Emphasis.RunSpans.{IsPlain, closed-both, plain-closed, plain-none}

-- ---- events with these spans
abbrev ArePlain : List Event → Type 0
ArePlain es = AllByRecursion IsPlain es

plain-spans : (es : List Event) → ArePlain es → HaveSpans es []
plain-spans es h = record { closed = plain-closed es h; all = subst (λ l. IsPermutation l []) (sym (plain-none es h)) (IsPermutation-refl []) }

both-spans : (xs ys : List Event) (l m : List EmphasisSpan) → HaveSpans xs l → HaveSpans ys m → HaveSpans (xs ++ ys) (l ++ m)
both-spans xs ys l m h k = record {
  closed = closed-both xs ys h.closed k.closed;
  all =
      let s = emphasis_spans xs in
      let t = emphasis_spans ys in
      subst (λ n. IsPermutation n (l ++ m)) (sym (h.closed [] ys)) (IsPermutation-trans (s ++ t) (l ++ t) (l ++ m) (IsPermutation-append_left t s l h.all) (IsPermutation-append_right l t m k.all));
}

plain-front : (xs ys : List Event) (m : List EmphasisSpan) → ArePlain xs → HaveSpans ys m → HaveSpans (xs ++ ys) m
plain-front xs ys m h k = both-spans xs ys [] m (plain-spans xs h) k

plain-back : (xs ys : List Event) (l : List EmphasisSpan) → HaveSpans xs l → ArePlain ys → HaveSpans (xs ++ ys) l
plain-back xs ys l h k = subst (HaveSpans (xs ++ ys)) (append-nil l) (both-spans xs ys l [] h (plain-spans ys k))

spanning-spans : (name : Name) (start end : Point) (es : List Event) (l : List EmphasisSpan) → is_emphasis name ≡ false → HaveSpans es l → HaveSpans (spanning name start end es) l
spanning-spans name start end es l n h = plain-front (_ ∷ []) (es ++ _ ∷ []) l (n, tt) (plain-back es (_ ∷ []) l h (n, tt))

around-spans : (name : Name) (es : List Event) (l : List EmphasisSpan) → is_emphasis name ≡ false → HaveSpans es l → HaveSpans (around name es) l
around-spans name [] l n h = h
around-spans name (e ∷ es) l n h = spanning-spans name e.point (last_place e.point es) (e ∷ es) l n h

data-plain : (es : List Event) → ArePlain (as_data es)
data-plain [] = tt
data-plain (e ∷ es) = (refl, (refl, tt))

-- ---- runs that ascend
-- some in the middle, and the others around them
pub ascend-around : (xs ys zs : List Run) → AreAscending ((xs ++ ys) ++ zs) → AreAscending ys × AreAscending (xs ++ zs)
ascend-around [] [] zs h = (tt, h)
ascend-around [] (y ∷ ys) zs h = (ascending-front (y ∷ ys) zs h, (ascend-around [] ys zs h.1).1)
ascend-around (x ∷ xs) ys zs h =
    let Above = λ (s : Run). x.index < s.index in
    let more = ascend-around xs ys zs h.1 in
    (more.0, (every-append Above xs zs (every-front Above xs ys (every-front Above (xs ++ ys) zs h.0)) (every-back Above (xs ++ ys) zs h.0), more.1))

-- ---- parts
-- the runs of parts and others behind them, and the spans between
pub record AreOfBoth (ps qs : List Part) : Type 0 where
  pub runs : runs_of_parts (ps ++ qs) ≡ runs_of_parts ps ++ runs_of_parts qs
  pub spans : spans_between (ps ++ qs) ≡ spans_between ps ++ spans_between qs

pub of-both : (ps qs : List Part) → AreOfBoth ps qs
of-both [] qs = record { runs = refl; spans = refl }
of-both (run r ∷ ps) qs = let more = of-both ps qs in record { runs = ap (λ l. r ∷ l) more.runs; spans = more.spans }
of-both (events es ∷ ps) qs =
    let more = of-both ps qs in
    record { runs = more.runs; spans = ap (λ l. emphasis_spans es ++ l) more.spans ∙ sym (append_assoc (emphasis_spans es) (spans_between ps) (spans_between qs)) }

plain-between : (es : List Event) (ps : List Part) → ArePlain es → spans_between (events es ∷ ps) ≡ spans_between ps
plain-between es ps h = ap (λ l. l ++ spans_between ps) (plain-none es h)

-- ---- what a fold over spans has so far
record IsOpener (w : Waiting) : Type 0 where
  pub bracket : is_bracket w.opener ≡ true
  pub plain : ArePlain w.opener
  pub before : AreGood w.before

abbrev pub runs_waiting : List Waiting → List Run
runs_waiting [] = []
runs_waiting (w ∷ ws) = runs_waiting ws ++ runs_of_parts w.before

abbrev spans_waiting : List Waiting → List EmphasisSpan
spans_waiting [] = []
spans_waiting (w ∷ ws) = spans_waiting ws ++ spans_between w.before

abbrev pub runs_so_far : SoFar → List Run
runs_so_far z = runs_waiting z.waiting ++ runs_of_parts z.behind

abbrev spans_so_far : SoFar → List EmphasisSpan
spans_so_far z = spans_waiting z.waiting ++ spans_between z.behind

record IsFine (z : SoFar) : Type 0 where
  pub waits : AllByRecursion IsOpener z.waiting
  pub behind : AreGood z.behind
  pub fresh : AllByRecursion IsFresh z.runs
  pub up : AreAscending (runs_so_far z ++ z.runs)

good-events : (es : List Event) → ArePlain es → IsGood (events es)
good-events es h = plain-closed es h

pub all-runs : (ws : List Waiting) (ps : List Part) → runs_of_parts (all_parts ws ps) ≡ runs_waiting ws ++ runs_of_parts ps
all-runs [] ps = refl
all-runs (w ∷ ws) ps =
    all-runs ws (w.before ++ events (as_data w.opener) ∷ ps) ∙ ap (λ l. runs_waiting ws ++ l) ((of-both w.before (events (as_data w.opener) ∷ ps)).runs)
    ∙ sym (append_assoc (runs_waiting ws) (runs_of_parts w.before) (runs_of_parts ps))

all-between : (ws : List Waiting) (ps : List Part) → spans_between (all_parts ws ps) ≡ spans_waiting ws ++ spans_between ps
all-between [] ps = refl
all-between (w ∷ ws) ps =
    all-between ws (w.before ++ events (as_data w.opener) ∷ ps)
    ∙ ap (λ l. spans_waiting ws ++ l) ((of-both w.before (events (as_data w.opener) ∷ ps)).spans ∙ ap (λ l. spans_between w.before ++ l) (plain-between (as_data w.opener) ps (data-plain w.opener)))
    ∙ sym (append_assoc (spans_waiting ws) (spans_between w.before) (spans_between ps))

-- ---- a link or an image
no-bracket : is_bracket [] ≡ false
no-bracket = refl

label-spans : (opener close : List Event) (ps : List Part) → is_bracket opener ≡ true → is_named LabelEnd close ≡ true → AreGood ps → AreAscending (runs_of_parts ps)
    → HaveSpans (label_text opener close ps) (spans_between ps ++ spans_of_runs (runs_of_parts ps))
label-spans [] close ps b c g up = absurd (false≢true b)
label-spans (e ∷ es) [] ps b c g up = absurd (false≢true c)
label-spans (e ∷ es) (f ∷ fs) [] b c g up = plain-spans [] tt
label-spans (e ∷ es) (f ∷ fs) (p ∷ ps) b c g up = spanning-spans LabelText (last_place e.point es) (last_place (last_place e.point es) (emphasised_parts (p ∷ ps))) (emphasised_parts (p ∷ ps)) _ refl (parts-spans (p ∷ ps) g up)

made-spans : (opener : List Event) (ps : List Part) (close tail : List Event) → is_bracket opener ≡ true → is_named LabelEnd close ≡ true → ArePlain opener → ArePlain close → ArePlain tail
    → AreGood ps → AreAscending (runs_of_parts ps) → HaveSpans (made opener ps close tail) (spans_between ps ++ spans_of_runs (runs_of_parts ps))
made-spans opener ps close tail b c o k t g up =
    let l = spans_between ps ++ spans_of_runs (runs_of_parts ps) in
    let inside = opener ++ (label_text opener close ps ++ close) in
    let label = around-spans Label inside l refl (plain-front opener (label_text opener close ps ++ close) l o (plain-back (label_text opener close ps) close l (label-spans opener close ps b c g up) k)) in
    let name = cond_both (is_named LabelImage opener) Image Link (λ n. is_emphasis n ≡ false) (λ e. refl) (λ e. refl) in
    around-spans (cond (is_named LabelImage opener) Image Link) (around Label inside ++ tail) l name (plain-back (around Label inside) tail l label t)

-- ---- one span more
-- it keeps the spans that there are
record Goes (old new : SoFar) : Type 0 where
  pub fine : IsFine new
  pub same : spans_so_far new ≡ spans_so_far old

is-opened : (span : List Event) (z : SoFar) → is_bracket span ≡ true → ArePlain span → IsFine z → Goes z (opened span z)
is-opened span z b p h = record {
  fine = record {
    waits = (record { bracket = b; plain = p; before = h.behind }, h.waits);
    behind = tt;
    fresh = h.fresh;
    up = subst (λ l. AreAscending (l ++ z.runs)) (sym (append-nil (runs_so_far z))) h.up;
  };
  same = append-nil (spans_so_far z);
}

is-failed : (span : List Event) (ws : List Waiting) (z : SoFar) → ws ≡ z.waiting → IsFine z → Goes z (failed span ws z)
is-failed span [] z e h =
    let runs : runs_of_parts (z.behind ++ events (as_data span) ∷ []) ≡ runs_of_parts z.behind = (of-both z.behind (events (as_data span) ∷ [])).runs ∙ append-nil (runs_of_parts z.behind) in
    let spans : spans_between (z.behind ++ events (as_data span) ∷ []) ≡ spans_between z.behind =
    (of-both z.behind (events (as_data span) ∷ [])).spans ∙ ap (λ l. spans_between z.behind ++ l) (plain-between (as_data span) [] (data-plain span)) ∙ append-nil (spans_between z.behind) in
    record {
      fine = record {
        waits = h.waits;
        behind = every-append IsGood z.behind (events (as_data span) ∷ []) h.behind (good-events (as_data span) (data-plain span), tt);
        fresh = h.fresh;
        up = subst (λ l. AreAscending ((runs_waiting z.waiting ++ l) ++ z.runs)) (sym runs) h.up;
      };
      same = ap (λ l. spans_waiting z.waiting ++ l) spans;
    }
is-failed span (w ∷ ws) z e h =
    let own = events (as_data span) ∷ [] in
    let new = w.before ++ events (as_data w.opener) ∷ (z.behind ++ own) in
    let waits = subst (AllByRecursion IsOpener) (sym e) h.waits in
    let runs : runs_waiting ws ++ runs_of_parts new ≡ runs_so_far z =
    ap (λ l. runs_waiting ws ++ l) ((of-both w.before (events (as_data w.opener) ∷ (z.behind ++ own))).runs ∙ ap (λ l. runs_of_parts w.before ++ l) ((of-both z.behind own).runs ∙ append-nil (runs_of_parts z.behind)))
    ∙ sym (append_assoc (runs_waiting ws) (runs_of_parts w.before) (runs_of_parts z.behind)) ∙ ap (λ l. runs_waiting l ++ runs_of_parts z.behind) e in
    let last : spans_between (z.behind ++ own) ≡ spans_between z.behind =
    (of-both z.behind own).spans ∙ ap (λ l. spans_between z.behind ++ l) (plain-between (as_data span) [] (data-plain span)) ∙ append-nil (spans_between z.behind) in
    record {
      fine = record {
        waits = waits.1;
        behind =
            every-append IsGood w.before (events (as_data w.opener) ∷ (z.behind ++ own)) waits.0.before
            (good-events (as_data w.opener) (data-plain w.opener), every-append IsGood z.behind own h.behind (good-events (as_data span) (data-plain span), tt));
        fresh = h.fresh;
        up = subst (λ l. AreAscending (l ++ z.runs)) (sym runs) h.up;
      };
      same =
          ap (λ l. spans_waiting ws ++ l)
          ((of-both w.before (events (as_data w.opener) ∷ (z.behind ++ own))).spans ∙ ap (λ l. spans_between w.before ++ l) (plain-between (as_data w.opener) (z.behind ++ own) (data-plain w.opener) ∙ last))
          ∙ sym (append_assoc (spans_waiting ws) (spans_between w.before) (spans_between z.behind)) ∙ ap (λ l. spans_waiting l ++ spans_between z.behind) e;
    }

module _ (span : List Event) (plain : ArePlain span) (z : SoFar) (h : IsFine z) where
  -- events behind the parts that there are
  plain-part : Goes z (record z { behind = z.behind ++ events span ∷ [] })
  plain-part =
      let runs : runs_of_parts (z.behind ++ events span ∷ []) ≡ runs_of_parts z.behind = (of-both z.behind (events span ∷ [])).runs ∙ append-nil (runs_of_parts z.behind) in
      let spans : spans_between (z.behind ++ events span ∷ []) ≡ spans_between z.behind =
      (of-both z.behind (events span ∷ [])).spans ∙ ap (λ l. spans_between z.behind ++ l) (plain-between span [] plain) ∙ append-nil (spans_between z.behind) in
      record {
        fine = record {
          waits = h.waits;
          behind = every-append IsGood z.behind (events span ∷ []) h.behind (good-events span plain, tt);
          fresh = h.fresh;
          up = subst (λ l. AreAscending ((runs_waiting z.waiting ++ l) ++ z.runs)) (sym runs) h.up;
        };
        same = ap (λ l. spans_waiting z.waiting ++ l) spans;
      }

  run-part : (r : Run) (rs : List Run) → z.runs ≡ r ∷ rs → Goes z (record z { behind = z.behind ++ run r ∷ []; runs = rs })
  run-part r rs e =
      let fresh = subst (AllByRecursion IsFresh) e h.fresh in
      let a = runs_waiting z.waiting in
      let b = runs_of_parts z.behind in
      let runs : (a ++ runs_of_parts (z.behind ++ run r ∷ [])) ++ rs ≡ (a ++ b) ++ z.runs =
      ap (λ l. (a ++ l) ++ rs) (of-both z.behind (run r ∷ [])).runs ∙ ap (λ l. l ++ rs) (sym (append_assoc a b (r ∷ []))) ∙ append_assoc (a ++ b) (r ∷ []) rs ∙ ap (λ l. (a ++ b) ++ l) (sym e) in
      record {
        fine = record {
          waits = h.waits;
          behind = every-append IsGood z.behind (run r ∷ []) h.behind (fresh.0, tt);
          fresh = fresh.1;
          up = subst AreAscending (sym runs) h.up;
        };
        same = ap (λ l. spans_waiting z.waiting ++ l) ((of-both z.behind (run r ∷ [])).spans ∙ append-nil (spans_between z.behind));
      }

  is-added : Goes z (added span z)
  is-added = by z.runs refl
    where
      by : (rs : List Run) → z.runs ≡ rs → Goes z (added span z)
      by [] e = subst (λ (x : Part × List Run). Goes z (record z { behind = z.behind ++ x.0 ∷ []; runs = x.1 })) (sym (ap (part_of span) e))
          (subst (λ l. Goes z (record z { behind = z.behind ++ events span ∷ []; runs = l })) e plain-part)
      by (r ∷ rs) e = subst (λ (x : Part × List Run). Goes z (record z { behind = z.behind ++ x.0 ∷ []; runs = x.1 })) (sym (ap (part_of span) e))
          (cond_both (is_run span) (run r, rs) (events span, r ∷ rs) (λ (x : Part × List Run). Goes z (record z { behind = z.behind ++ x.0 ∷ []; runs = x.1 })) (λ a. run-part r rs e)
          (λ a. subst (λ l. Goes z (record z { behind = z.behind ++ events span ∷ []; runs = l })) e plain-part))

is-taken : (span : List Event) (z : SoFar) → ArePlain span → IsFine z → Goes z (taken span z)
is-taken span z p h =
    cond_both (is_bracket span) (opened span z) (cond (is_named LabelMarker span) (failed span z.waiting z) (added span z)) (Goes z) (λ b. is-opened span z b p h)
    (λ o. cond_both (is_named LabelMarker span) (failed span z.waiting z) (added span z) (Goes z) (λ m. is-failed span z.waiting z refl h) (λ m. is-added span p z h))

abbrev spans_of_all : List (List Run) → List EmphasisSpan
spans_of_all rss = flat_map spans_of_runs rss

-- a label's end: the spans that are made are those of the pairs in the text
record Ends (old new : SoFar) (apart : List (List Run)) : Type 0 where
  pub fine : IsFine new
  pub all : IsPermutation (spans_so_far new) (spans_so_far old ++ spans_of_all apart)

is-ended : (span tail : List Event) (ws : List Waiting) (z : SoFar) → ws ≡ z.waiting → is_named LabelEnd span ≡ true → ArePlain span → ArePlain tail → IsFine z → Ends z (ended span tail ws z) (runs_inside ws z)
is-ended span tail [] z e n p t h =
    let step = plain-part (span ++ tail) (every-append IsPlain span tail p t) z h in
    record { fine = step.fine; all = subst (IsPermutation (spans_so_far (ended span tail [] z))) (step.same ∙ sym (append-nil (spans_so_far z))) (IsPermutation-refl (spans_so_far (ended span tail [] z))) }
is-ended span tail (w ∷ ws) z e n p t h =
    let waits = subst (AllByRecursion IsOpener) (sym e) h.waits in
    let a = runs_waiting ws ++ runs_of_parts w.before in
    let b = runs_of_parts z.behind in
    let up : AreAscending ((a ++ b) ++ z.runs) = subst (λ l. AreAscending ((runs_waiting l ++ b) ++ z.runs)) (sym e) h.up in
    let apart = ascend-around a b z.runs up in
    let inside = made w.opener z.behind span tail in
    let one = events inside ∷ [] in
    let has = made-spans w.opener z.behind span tail waits.0.bracket n waits.0.plain p t h.behind apart.0 in
    let runs : runs_waiting ws ++ runs_of_parts (w.before ++ one) ≡ a = ap (λ l. runs_waiting ws ++ l) ((of-both w.before one).runs ∙ append-nil (runs_of_parts w.before)) in
    let x = spans_waiting ws ++ spans_between w.before in
    let s = spans_between z.behind in
    let q = spans_of_runs b in
    let new : spans_waiting ws ++ spans_between (w.before ++ one) ≡ x ++ emphasis_spans inside =
    ap (λ l. spans_waiting ws ++ l) ((of-both w.before one).spans ∙ ap (λ l. spans_between w.before ++ l) (append-nil (emphasis_spans inside))) ∙ sym (append_assoc (spans_waiting ws) (spans_between w.before) (emphasis_spans inside)) in
    let old : x ++ (s ++ q) ≡ spans_so_far z ++ spans_of_all (b ∷ []) =
    sym (append_assoc x s q) ∙ ap (λ l. (spans_waiting l ++ s) ++ q) e ∙ ap (λ l. spans_so_far z ++ l) (sym (append-nil q)) in
    record {
      fine = record {
        waits = waits.1;
        behind = every-append IsGood w.before one waits.0.before (has.closed, tt);
        fresh = h.fresh;
        up = subst (λ l. AreAscending (l ++ z.runs)) (sym runs) apart.1;
      };
      all = subst (λ l. IsPermutation l (spans_so_far z ++ spans_of_all (b ∷ []))) (sym new) (subst (IsPermutation (x ++ emphasis_spans inside)) old (IsPermutation-append_right x (emphasis_spans inside) (s ++ q) has.all));
    }

-- ---- along all spans
abbrev final : SoFar → List Event
final z = emphasised_parts (all_parts z.waiting z.behind)

-- the spans of what is made in the end: those that there are, and those of these runs
abbrev Makes : SoFar → SoFar → List (List Run) → Type 0
Makes z last apart = HaveSpans (final last) (spans_so_far z ++ spans_of_all apart)

at-end : (z : SoFar) → IsFine z → Makes z z (runs_outside z)
at-end z h =
    let parts = all_parts z.waiting z.behind in
    let up = subst AreAscending (sym (all-runs z.waiting z.behind)) (ascending-front (runs_so_far z) z.runs h.up) in
    let q = spans_of_runs (runs_of_parts parts) in
    let same : spans_between parts ++ q ≡ spans_so_far z ++ spans_of_all (runs_outside z) = ap (λ l. l ++ q) (all-between z.waiting z.behind) ∙ ap (λ l. spans_so_far z ++ l) (sym (append-nil q)) in
    subst (HaveSpans (final z)) same (parts-spans parts (every-part IsGood IsOpener (λ w h. h.before) (λ es. good-events (as_data es) (data-plain es)) z.waiting z.behind h.waits h.behind) up)

behind-goes : (z new last : SoFar) (apart : List (List Run)) → Goes z new → Makes new last apart → Makes z last apart
behind-goes z new last apart g m = subst (λ l. HaveSpans (final last) (l ++ spans_of_all apart)) g.same m

all-both : (xs ys : List (List Run)) → spans_of_all (xs ++ ys) ≡ spans_of_all xs ++ spans_of_all ys
all-both [] ys = refl
all-both (x ∷ xs) ys = ap (λ l. spans_of_runs x ++ l) (all-both xs ys) ∙ sym (append_assoc (spans_of_runs x) (spans_of_all xs) (spans_of_all ys))

behind-end : (z new last : SoFar) (inside apart : List (List Run)) → Ends z new inside → Makes new last apart → Makes z last (inside ++ apart)
behind-end z new last inside apart g m =
    let a = spans_so_far z in
    let b = spans_of_all inside in
    let c = spans_of_all apart in
    let same : (a ++ b) ++ c ≡ a ++ spans_of_all (inside ++ apart) = append_assoc a b c ∙ ap (λ l. a ++ l) (sym (all-both inside apart)) in
    record {
      closed = m.closed;
      all =
          subst (IsPermutation (emphasis_spans (final last))) same
          (IsPermutation-trans (emphasis_spans (final last)) (spans_so_far new ++ c) ((a ++ b) ++ c) m.all (IsPermutation-append_left c (spans_so_far new) (a ++ b) g.all));
    }

along : (spans : List (List Event)) (z : SoFar) → AllByRecursion ArePlain spans → IsFine z → Makes z (linked_from z spans) (runs_apart_from z spans)
along [] z p h = at-end z h
along (span ∷ []) z p h = elim (cases_Bool (is_named LabelEnd span)) [
  | inl n ↦
      let step = is-ended span [] z.waiting z refl n p.0 tt h in
      subst (λ b. Makes z (cond b (ended span [] z.waiting z) (taken span z)) (cond b (runs_inside z.waiting z ++ runs_outside (ended span [] z.waiting z)) (runs_outside (taken span z)))) (sym n)
      (behind-end z (ended span [] z.waiting z) (ended span [] z.waiting z) (runs_inside z.waiting z) (runs_outside (ended span [] z.waiting z)) step (at-end (ended span [] z.waiting z) step.fine))
  | inr n ↦
      let step = is-taken span z p.0 h in
      subst (λ b. Makes z (cond b (ended span [] z.waiting z) (taken span z)) (cond b (runs_inside z.waiting z ++ runs_outside (ended span [] z.waiting z)) (runs_outside (taken span z)))) (sym n)
      (behind-goes z (taken span z) (taken span z) (runs_outside (taken span z)) step (at-end (taken span z) step.fine))
]
along (span ∷ next ∷ spans) z p h =
    let inside = runs_inside z.waiting z in
    let with_tail = ended span next z.waiting z in
    let alone = ended span [] z.waiting z in
    let other = taken span z in
    let Both = λ (b : Bool). Makes z (cond b (cond (is_tail next) (linked_from with_tail spans) (linked_from alone (next ∷ spans))) (linked_from other (next ∷ spans)))
    (cond b (inside ++ cond (is_tail next) (runs_apart_from with_tail spans) (runs_apart_from alone (next ∷ spans))) (runs_apart_from other (next ∷ spans))) in
    elim (cases_Bool (is_named LabelEnd span)) [
      | inl n ↦ subst Both (sym n) (elim (cases_Bool (is_tail next)) [
        | inl t ↦
            let step = is-ended span next z.waiting z refl n p.0 p.1.0 h in
            subst (λ c. Makes z (cond c (linked_from with_tail spans) (linked_from alone (next ∷ spans))) (inside ++ cond c (runs_apart_from with_tail spans) (runs_apart_from alone (next ∷ spans)))) (sym t)
            (behind-end z with_tail (linked_from with_tail spans) inside (runs_apart_from with_tail spans) step (along spans with_tail p.1.1 step.fine))
        | inr t ↦
            let step = is-ended span [] z.waiting z refl n p.0 tt h in
            subst (λ c. Makes z (cond c (linked_from with_tail spans) (linked_from alone (next ∷ spans))) (inside ++ cond c (runs_apart_from with_tail spans) (runs_apart_from alone (next ∷ spans)))) (sym t)
            (behind-end z alone (linked_from alone (next ∷ spans)) inside (runs_apart_from alone (next ∷ spans)) step (along (next ∷ spans) alone p.1 step.fine))
      ])
      | inr n ↦
          let step = is-taken span z p.0 h in
          subst Both (sym n) (behind-goes z other (linked_from other (next ∷ spans)) (runs_apart_from other (next ∷ spans)) step (along (next ∷ spans) other p.1 step.fine))
    ]

-- ---- from the front
-- Links, images and emphasis of a list without emphasis end each span that they begin, and their spans are those of its pairs
pub text-spans : (one : Bool) (bytes : List ℕ) (es : List Event) → ArePlain es → HaveSpans (with_links one bytes es) (spans_of_text one bytes es)
text-spans one bytes es h =
    along (outermost_spans es) (record { waiting = []; behind = []; runs = runs_in one bytes es }) (spans-have ArePlain (λ xs ys k. (every-front IsPlain xs ys k, every-back IsPlain xs ys k)) (length es) es h)
    (record { waits = tt; behind = tt; fresh = runs-fresh one bytes 0 0 None es; up = runs-ascend one bytes es })
