-- The spans of emphasis of a list are those of its events of emphasis alone; so lists of children have those of the children, in order.
use Rattle.std.proofs.Common.{◌≡◌, ℕ, List, [], ◌∷◌, ◌++◌, Bool, true, false, cond, append-nil, drop, refl, sym, ap, ◌∙◌}
use Rattle.std.proofs.lemmas.Bool.{false_from_ne_true, false≢true}
use Rattle.std.specs.List.{flat_map}
use Rattle.markdown_base.specs.declared.event.Event.{Event}
use Rattle.markdown_base.specs.declared.event.Name.{Name}
use Rattle.markdown_base.specs.declared.event.Point.{Point}
use Rattle.markdown_base.specs.Events.{is_enter, is_void}
use Rattle.mddocument_laws.specs.EmphasisSpans.{emphasis_spans, ended_span, is_emphasis, spans_behind}
use Rattle.mddocument_laws.proofs.Chosen.{bare, chosen}
use Rattle.mddocument_laws.proofs.PlainNames.{by-emphasis}
use Rattle.mddocument_laws.proofs.Emphasis.RunSpans.{IsClosed}

-- the events of emphasis of a list
abbrev pub of_emphasis : List Event → List Event
of_emphasis es = chosen is_emphasis es

ended-bare : (starts : List Point) (e : Event) → ended_span starts (bare e) ≡ ended_span starts e
ended-bare [] e = refl
ended-bare (start ∷ starts) e = refl

-- they have its spans
pub same-spans : (es rest : List Event) (starts : List Point) → spans_behind starts (of_emphasis es ++ rest) ≡ spans_behind starts (es ++ rest)
same-spans [] rest starts = refl
same-spans (e ∷ es) rest starts = by (is_enter e.kind) (is_emphasis e.name) refl refl (same-spans es rest (e.point ∷ starts)) (same-spans es rest (drop 1 starts)) (same-spans es rest starts)
  where
    by : (k b : Bool) → is_enter e.kind ≡ k → is_emphasis e.name ≡ b → spans_behind (e.point ∷ starts) (of_emphasis es ++ rest) ≡ spans_behind (e.point ∷ starts) (es ++ rest)
        → spans_behind (drop 1 starts) (of_emphasis es ++ rest) ≡ spans_behind (drop 1 starts) (es ++ rest) → spans_behind starts (of_emphasis es ++ rest) ≡ spans_behind starts (es ++ rest)
        → spans_behind starts (cond b (bare e ∷ of_emphasis es) (of_emphasis es) ++ rest)
        ≡ cond b (cond (is_enter e.kind) (spans_behind (e.point ∷ starts) (es ++ rest)) (ended_span starts e ++ spans_behind (drop 1 starts) (es ++ rest))) (spans_behind starts (es ++ rest))
    by k false enters name h i j = j
    by true true enters name h i j =
        ap (λ b. cond b (cond (is_enter e.kind) (spans_behind (e.point ∷ starts) (of_emphasis es ++ rest)) (ended_span starts (bare e) ++ spans_behind (drop 1 starts) (of_emphasis es ++ rest))) (spans_behind starts (of_emphasis es ++ rest))) name
        ∙ ap (λ b. cond b (spans_behind (e.point ∷ starts) (of_emphasis es ++ rest)) (ended_span starts (bare e) ++ spans_behind (drop 1 starts) (of_emphasis es ++ rest))) enters
        ∙ h
        ∙ ap (λ b. cond b (spans_behind (e.point ∷ starts) (es ++ rest)) (ended_span starts e ++ spans_behind (drop 1 starts) (es ++ rest))) (sym enters)
    by false true enters name h i j =
        ap (λ b. cond b (cond (is_enter e.kind) (spans_behind (e.point ∷ starts) (of_emphasis es ++ rest)) (ended_span starts (bare e) ++ spans_behind (drop 1 starts) (of_emphasis es ++ rest))) (spans_behind starts (of_emphasis es ++ rest))) name
        ∙ ap (λ b. cond b (spans_behind (e.point ∷ starts) (of_emphasis es ++ rest)) (ended_span starts (bare e) ++ spans_behind (drop 1 starts) (of_emphasis es ++ rest))) enters
        ∙ ap (λ l. l ++ spans_behind (drop 1 starts) (of_emphasis es ++ rest)) (ended-bare starts e) ∙ ap (λ l. ended_span starts e ++ l) i
        ∙ ap (λ b. cond b (spans_behind (e.point ∷ starts) (es ++ rest)) (ended_span starts e ++ spans_behind (drop 1 starts) (es ++ rest))) (sym enters)

pub emphasis-alone : (es : List Event) → emphasis_spans (of_emphasis es) ≡ emphasis_spans es
emphasis-alone es = ap emphasis_spans (sym (append-nil (of_emphasis es))) ∙ same-spans es [] [] ∙ ap emphasis_spans (append-nil es)

-- lists that end each span that they begin
pub spans-of-all : (of_chain : ℕ → List Event) (cs : List ℕ) → ((c : ℕ) → IsClosed (of_chain c)) → emphasis_spans (flat_map (λ c. of_emphasis (of_chain c)) cs) ≡ flat_map (λ c. emphasis_spans (of_chain c)) cs
spans-of-all of_chain [] h = refl
spans-of-all of_chain (c ∷ cs) h =
    let rest = flat_map (λ c. of_emphasis (of_chain c)) cs in
    same-spans (of_chain c) rest [] ∙ h c [] rest ∙ ap (λ l. emphasis_spans (of_chain c) ++ l) (spans-of-all of_chain cs h)

-- no void span is one of emphasis
pub void-plain : (n : Name) → is_void n ≡ true → is_emphasis n ≡ false
void-plain n void = false_from_ne_true (is_emphasis n) (λ e. false≢true (sym (by-emphasis (λ m. is_void m ≡ false) refl refl refl n e) ∙ void))
