-- What is in a call, part by part; and events with what is in their calls.
use Rattle.std.proofs.Common.{◌≡◌, ℕ, suc, ◌+◌, ◌-◌, ◌*◌, ◌≤◌, ◌++◌, Bool, true, false, cond, List, [], ◌∷◌, length, drop, Option, Some, None, refl, sym, ap, subst, ◌∙◌, arith, eqb-true}
use Rattle.std.proofs.lemmas.Bool.{and_parts, false≢true}
use Rattle.std.proofs.lemmas.List.{append_assoc, length-append}
use Rattle.std.specs.List.{AllByRecursion}
use Rattle.std.specs.Prelude.{◌==◌, ◌&&◌, not}
use Rattle.markdown_base.specs.declared.event.Event.{Event}
use Rattle.markdown_base.specs.declared.event.Kind.{Kind}
use Rattle.markdown_base.specs.declared.event.Kind.TheVariants.{Enter, Exit}
use Rattle.markdown_base.specs.declared.event.Name.{Name}
use Rattle.markdown_base.specs.declared.event.Name.TheVariants.{Data, GfmFootnoteCall, GfmFootnoteCallLabel, GfmFootnoteCallMarker, Label, LabelEnd, LabelMarker}
use Rattle.markdown_base.specs.declared.event.Point.{Point}
use Rattle.markdown_base.specs.Events.{IsBalanced, is_enter, same_name}
use Rattle.markdown_base.specs.OpenNames.{names_after, names_after_all}
use Rattle.markdown_base.proofs.Balanced.{balanced_from_open, names_after_all-append, names_after_balanced, same_name-true}
use Rattle.markdown_base.proofs.Facts.Kinds.{exit-is}
use Rattle.mdgfm_events.specs.Places.{event, leaf, place_at}
use Rattle.mdgfm_events.specs.Spans.{span_end}
use Rattle.mdgfm_events.proofs.Leaves.{leaf-balanced}
use Rattle.mdgfm_literals.specs.declared.texts.Literal.{Literal}
use Rattle.mdgfm_literals.proofs.Few.{leaf-few}
use Rattle.mdgfm_footnotes.specs.CallEvents.{enters, inside_call, is_bare, with_insides}
use Rattle.mdgfm_footnotes.specs.Laws.{call_names}

-- ---- the first call has nothing in it yet

-- so an event is at its start, and the next one at its end
pub record IsBare (l : Literal) (e f : Event) : Type 0 where
  pub start : e.point.index ≡ l.from
  pub end : f.point.index ≡ l.to
  pub exits : f.kind ≡ Exit
  pub name : e.name ≡ GfmFootnoteCall

pub bare-is : (l : Literal) (ls : List Literal) (e f : Event) (es : List Event) → is_bare (l ∷ ls) e (f ∷ es) ≡ true → IsBare l e f
bare-is l ls e f es h =
    let both = and_parts (enters GfmFootnoteCall e && not (is_enter f.kind)) ((e.point.index == l.from) && (f.point.index == l.to)) h in
    let at = and_parts (e.point.index == l.from) (f.point.index == l.to) both.1 in
    let kinds = and_parts (enters GfmFootnoteCall e) (not (is_enter f.kind)) both.0 in
    record {
      start = eqb-true e.point.index l.from at.0;
      end = eqb-true f.point.index l.to at.1;
      exits = exit-is f.kind kinds.1;
      name = same_name-true e.name GfmFootnoteCall (and_parts (is_enter e.kind) (same_name e.name GfmFootnoteCall) kinds.0).1;
    }

-- what follows from that
pub bare-by : (P : Type 0) (calls : List Literal) (e : Event) (es : List Event) → is_bare calls e es ≡ true
    → ((l : Literal) (ls : List Literal) (f : Event) (fs : List Event) → calls ≡ l ∷ ls → es ≡ f ∷ fs → IsBare l e f → P) → P
bare-by P [] e es h k = absurd (false≢true h)
bare-by P (l ∷ ls) e [] h k = absurd (false≢true h)
bare-by P (l ∷ ls) e (f ∷ fs) h k = k l ls f fs refl refl (bare-is l ls e f fs h)

-- at an exit no call is
pub exit-bare : (calls : List Literal) (e : Event) (es : List Event) → is_enter e.kind ≡ false → is_bare calls e es ≡ false
exit-bare [] e es h = refl
exit-bare (l ∷ ls) e [] h = refl
exit-bare (l ∷ ls) e (f ∷ es) h =
    ap (λ t. ((t && same_name e.name GfmFootnoteCall) && not (is_enter f.kind)) && ((e.point.index == l.from) && (f.point.index == l.to))) h

-- ---- parts

-- What holds of events behind a place: a span with nothing in it, and one event, may stand in front of them, if their names are so, and places follow one another
pub record IsKept (IsOne : Name → Type 0) (Behind : Point → Point → Type 0) (Holds : Point → List Event → Type 0) : Type 0 where
  pub itself : (p q : Point) → Behind p q → Behind q q
  pub leafs : (n : Name) (b p q : Point) (es : List Event) → IsOne n → Behind b p → Behind p q → Holds q es → Holds b (leaf n p q ++ es)
  pub one : (k : Kind) (n : Name) (b p : Point) (es : List Event) → IsOne n → Behind b p → Holds p es → Holds b (event k n p ∷ es)

module _ (tab : ℕ) (bytes : List ℕ) (p q : Point) where
  abbrev pub caret_of : Point
  caret_of = place_at tab bytes p (p.index + 1)

  abbrev pub label_of : Point
  label_of = place_at tab bytes caret_of (p.index + 2)

  abbrev pub end_of : Point
  end_of = place_at tab bytes label_of (q.index - 1)

  -- what is in a call, and what is behind it
  abbrev ends : List Event → List Event
  ends es = event Enter LabelEnd end_of ∷ (leaf LabelMarker end_of q ++ (event Exit LabelEnd q ∷ event Exit Label q ∷ es))

  abbrev parts : List Event → List Event
  parts es =
      event Enter Label p ∷ event Enter GfmFootnoteCallLabel p
      ∷ (leaf LabelMarker p caret_of ++ (leaf GfmFootnoteCallMarker caret_of label_of ++ (event Exit GfmFootnoteCallLabel label_of ∷ (leaf Data label_of end_of ++ ends es))))

  inside-parts : (es : List Event) → inside_call tab bytes p q ++ es ≡ parts es
  inside-parts es =
      let last = event Exit LabelEnd q ∷ event Exit Label q ∷ [] in
      let behind = event Enter LabelEnd end_of ∷ (leaf LabelMarker end_of q ++ last) in
      let of_data = event Exit GfmFootnoteCallLabel label_of ∷ (leaf Data label_of end_of ++ behind) in
      ap (λ (ts : List Event). event Enter Label p ∷ event Enter GfmFootnoteCallLabel p ∷ ts) (
      append_assoc (leaf LabelMarker p caret_of) (leaf GfmFootnoteCallMarker caret_of label_of ++ of_data) es
      ∙ ap (λ (ts : List Event). leaf LabelMarker p caret_of ++ ts) (
      append_assoc (leaf GfmFootnoteCallMarker caret_of label_of) of_data es
      ∙ ap (λ (ts : List Event). leaf GfmFootnoteCallMarker caret_of label_of ++ (event Exit GfmFootnoteCallLabel label_of ∷ ts)) (
      append_assoc (leaf Data label_of end_of) behind es
      ∙ ap (λ (ts : List Event). leaf Data label_of end_of ++ (event Enter LabelEnd end_of ∷ ts)) (append_assoc (leaf LabelMarker end_of q) last es))))

  -- so what is in a call may stand in front of them
  pub inside-kept : (IsOne : Name → Type 0) (Behind : Point → Point → Type 0) (Holds : Point → List Event → Type 0) → IsKept IsOne Behind Holds → AllByRecursion IsOne call_names
      → (b : Point) (es : List Event) → Behind b p → Behind p caret_of → Behind caret_of label_of → Behind label_of end_of → Behind end_of q → Holds q es → Holds b (inside_call tab bytes p q ++ es)
  inside-kept IsOne Behind Holds kept (call, (call_label, (call_marker, (label, (label_end, (label_marker, (of_data, _))))))) b es at0 at1 at2 at3 at4 more =
      let in0 = kept.itself b p at0 in
      let in1 = kept.itself p caret_of at1 in
      let in2 = kept.itself caret_of label_of at2 in
      let in3 = kept.itself label_of end_of at3 in
      let in4 = kept.itself end_of q at4 in
      subst (Holds b) (sym (inside-parts es))
      (kept.one Enter Label b p _ label at0
      (kept.one Enter GfmFootnoteCallLabel p p _ call_label in0
      (kept.leafs LabelMarker p p caret_of _ label_marker in0 at1
      (kept.leafs GfmFootnoteCallMarker caret_of caret_of label_of _ call_marker in1 at2
      (kept.one Exit GfmFootnoteCallLabel label_of label_of _ call_label in2
      (kept.leafs Data label_of label_of end_of _ of_data in2 at3
      (kept.one Enter LabelEnd end_of end_of _ label_end in3
      (kept.leafs LabelMarker end_of end_of q _ label_marker in3 at4
      (kept.one Exit LabelEnd q q _ label_end in4 (kept.one Exit Label q q es label in4 more))))))))))

  -- ---- names that are open

  over : (n : Name) (a b : Point) (st : List Name) (es : List Event) → names_after_all (Some st) (leaf n a b ++ es) ≡ names_after_all (Some st) es
  over n a b st es = names_after_all-append (Some st) (leaf n a b) es ∙ ap (λ o. names_after_all o es) (names_after_balanced (leaf-balanced n a b) st)

  pub inside-names : (o : Option (List Name)) (es : List Event) → names_after_all o (inside_call tab bytes p q ++ es) ≡ names_after_all o es
  inside-names None es = refl
  inside-names (Some st) es =
      let last = event Exit LabelEnd q ∷ event Exit Label q ∷ es in
      let behind = event Exit GfmFootnoteCallLabel label_of ∷ (leaf Data label_of end_of ++ ends es) in
      ap (names_after_all (Some st)) (inside-parts es)
      ∙ over LabelMarker p caret_of (GfmFootnoteCallLabel ∷ Label ∷ st) (leaf GfmFootnoteCallMarker caret_of label_of ++ behind)
      ∙ over GfmFootnoteCallMarker caret_of label_of (GfmFootnoteCallLabel ∷ Label ∷ st) behind
      ∙ over Data label_of end_of (Label ∷ st) (ends es)
      ∙ over LabelMarker end_of q (LabelEnd ∷ Label ∷ st) last

  -- ---- they are few

  pub inside-few : (es : List Event) → length (inside_call tab bytes p q ++ es) ≤ length es + 14
  inside-few es =
      let last = event Exit LabelEnd q ∷ event Exit Label q ∷ es in
      let three = leaf Data label_of end_of ++ ends es in
      let two = event Exit GfmFootnoteCallLabel label_of ∷ three in
      let whole : length (inside_call tab bytes p q ++ es) ≡ suc (suc (length (leaf LabelMarker p caret_of ++ (leaf GfmFootnoteCallMarker caret_of label_of ++ two)))) = ap (λ (ts : List Event). length ts) (inside-parts es) in
      let a : length (leaf LabelMarker p caret_of ++ (leaf GfmFootnoteCallMarker caret_of label_of ++ two)) ≡ length (leaf LabelMarker p caret_of) + length (leaf GfmFootnoteCallMarker caret_of label_of ++ two) = length-append (leaf LabelMarker p caret_of) (leaf GfmFootnoteCallMarker caret_of label_of ++ two) in
      let b : length (leaf GfmFootnoteCallMarker caret_of label_of ++ two) ≡ length (leaf GfmFootnoteCallMarker caret_of label_of) + suc (length three) = length-append (leaf GfmFootnoteCallMarker caret_of label_of) two in
      let c : length three ≡ length (leaf Data label_of end_of) + suc (length (leaf LabelMarker end_of q ++ last)) = length-append (leaf Data label_of end_of) (ends es) in
      let d : length (leaf LabelMarker end_of q ++ last) ≡ length (leaf LabelMarker end_of q) + suc (suc (length es)) = length-append (leaf LabelMarker end_of q) last in
      let f1 = leaf-few tab bytes LabelMarker p caret_of in
      let f2 = leaf-few tab bytes GfmFootnoteCallMarker caret_of label_of in
      let f3 = leaf-few tab bytes Data label_of end_of in
      let f4 = leaf-few tab bytes LabelMarker end_of q in
      omega (arith, whole, a, b, c, d, f1, f2, f3, f4)

-- ---- events with what is in their calls

module _ (tab : ℕ) (bytes : List ℕ) where
  pub insides-none : (es : List Event) → with_insides tab bytes [] es ≡ es
  insides-none [] = refl
  insides-none (e ∷ es) = ap (λ (ts : List Event). e ∷ ts) (insides-none es)

  pub insides-bare : (calls : List Literal) (e : Event) (es : List Event) → is_bare calls e es ≡ true
      → with_insides tab bytes calls (e ∷ es) ≡ e ∷ (inside_call tab bytes e.point (span_end e.point 0 es) ++ with_insides tab bytes (drop 1 calls) es)
  insides-bare calls e es h =
      ap (λ t. cond t (e ∷ (inside_call tab bytes e.point (span_end e.point 0 es) ++ with_insides tab bytes (drop 1 calls) es)) (e ∷ with_insides tab bytes calls es)) h

  pub insides-other : (calls : List Literal) (e : Event) (es : List Event) → is_bare calls e es ≡ false → with_insides tab bytes calls (e ∷ es) ≡ e ∷ with_insides tab bytes calls es
  insides-other calls e es h =
      ap (λ t. cond t (e ∷ (inside_call tab bytes e.point (span_end e.point 0 es) ++ with_insides tab bytes (drop 1 calls) es)) (e ∷ with_insides tab bytes calls es)) h

  -- what is open behind them is as it was
  pub insides-names : (calls : List Literal) (o : Option (List Name)) (es : List Event) → names_after_all o (with_insides tab bytes calls es) ≡ names_after_all o es
  insides-names calls None es = refl
  insides-names calls (Some st) [] = refl
  insides-names calls (Some st) (e ∷ es) = by (is_bare calls e es) (insides-names calls next es) (insides-names (drop 1 calls) next es)
    where
      next : Option (List Name)
      next = names_after e.kind e.name st

      q : Point
      q = span_end e.point 0 es

      by : (t : Bool) → names_after_all next (with_insides tab bytes calls es) ≡ names_after_all next es → names_after_all next (with_insides tab bytes (drop 1 calls) es) ≡ names_after_all next es
          → names_after_all (Some st) (cond t (e ∷ (inside_call tab bytes e.point q ++ with_insides tab bytes (drop 1 calls) es)) (e ∷ with_insides tab bytes calls es)) ≡ names_after_all next es
      by true h k = inside-names tab bytes e.point q next (with_insides tab bytes (drop 1 calls) es) ∙ k
      by false h k = h

  pub insides-balanced : (calls : List Literal) (es : List Event) → IsBalanced es → IsBalanced (with_insides tab bytes calls es)
  insides-balanced calls es b = balanced_from_open (with_insides tab bytes calls es) (insides-names calls (Some []) es ∙ names_after_balanced b [])

  -- they are few
  pub insides-few : (calls : List Literal) (es : List Event) → length (with_insides tab bytes calls es) ≤ length es + 14 * length calls
  insides-few calls [] = let goal : 0 ≤ 0 + 14 * length calls = omega arith in goal
  insides-few calls (e ∷ es) = by (is_bare calls e es) refl (insides-few calls es) (insides-few (drop 1 calls) es)
    where
      q : Point
      q = span_end e.point 0 es

      less : is_bare calls e es ≡ true → 14 * length (drop 1 calls) + 14 ≤ 14 * length calls
      less h =
          bare-by (14 * length (drop 1 calls) + 14 ≤ 14 * length calls) calls e es h
          (λ l ls f fs is are bare.
          let goal : 14 * length ls + 14 ≤ 14 * suc (length ls) = omega arith in
          subst (λ (cs : List Literal). 14 * length (drop 1 cs) + 14 ≤ 14 * length cs) (sym is) goal)

      by : (t : Bool) → is_bare calls e es ≡ t → length (with_insides tab bytes calls es) ≤ length es + 14 * length calls
          → length (with_insides tab bytes (drop 1 calls) es) ≤ length es + 14 * length (drop 1 calls)
          → length (cond t (e ∷ (inside_call tab bytes e.point q ++ with_insides tab bytes (drop 1 calls) es)) (e ∷ with_insides tab bytes calls es)) ≤ suc (length es) + 14 * length calls
      by true bare h k =
          let one = less bare in
          let more = inside-few tab bytes e.point q (with_insides tab bytes (drop 1 calls) es) in
          let goal : suc (length (inside_call tab bytes e.point q ++ with_insides tab bytes (drop 1 calls) es)) ≤ suc (length es) + 14 * length calls = omega (arith, one, more, k) in
          goal
      by false bare h k = let goal : suc (length (with_insides tab bytes calls es)) ≤ suc (length es) + 14 * length calls = omega (arith, h) in goal
