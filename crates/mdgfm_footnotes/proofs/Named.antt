-- The names of events with calls.
use Rattle.std.proofs.Common.{◌≡◌, ℕ, ◌++◌, Bool, true, List, [], ◌∷◌, drop, ap, ◌∙◌}
use Rattle.std.specs.List.{AllByRecursion}
use Rattle.markdown_base.proofs.Common.{every-append, every-map}
use Rattle.markdown_base.specs.declared.configuration.ParseOptions.{ParseOptions}
use Rattle.markdown_base.specs.declared.event.Event.{Event}
use Rattle.markdown_base.specs.declared.event.Name.{Name}
use Rattle.markdown_base.specs.declared.event.Point.{Point}
use Rattle.markdown_base.specs.Virtual.{point}
use Rattle.mdgfm_events.specs.Places.{leaf}
use Rattle.mdgfm_events.specs.Spans.{span_end}
use Rattle.mdgfm_events.proofs.Leaves.{leaf-passes}
use Rattle.mdgfm_literals.specs.declared.texts.Literal.{Literal}
use Rattle.mdgfm_literals.specs.LiteralEvents.{events_with}
use Rattle.mdgfm_literals.proofs.Names.{either-all, with-passes}
use Rattle.mdgfm_footnotes.specs.CallEvents.{call_events_by, inside_call, is_bare, is_one_of, labels_in, with_calls, with_insides}
use Rattle.mdgfm_footnotes.specs.Calls.{calls_of}
use Rattle.mdgfm_footnotes.specs.Laws.{NamesAreKept, call_names}
use Rattle.mdgfm_footnotes.proofs.Insides.{IsKept, inside-kept}
use Rattle.mdgfm_footnotes.proofs.Places.{IsNamed, calls-named}

module _ (test : Name → Bool) (seven : AllByRecursion (λ n. test n ≡ true) call_names) where
  abbrev Passes : Event → Type 0
  Passes e = test e.name ≡ true

  abbrev IsOne : Name → Type 0
  IsOne n = test n ≡ true

  abbrev Anywhere : Point → Point → Type 0
  Anywhere p q = Unit {0}

  abbrev AllPass : Point → List Event → Type 0
  AllPass p es = AllByRecursion Passes es

  passes-kept : IsKept IsOne Anywhere AllPass
  passes-kept = record {
    itself = λ p q h. tt;
    leafs = λ n b p q es one h k more. every-append Passes (leaf n p q) es (leaf-passes test n p q one) more;
    one = λ k n b p es one h more. (one, more);
  }

  pub insides-pass : (tab : ℕ) (bytes : List ℕ) (calls : List Literal) (es : List Event) → AllByRecursion Passes es → AllByRecursion Passes (with_insides tab bytes calls es)
  insides-pass tab bytes calls [] h = tt
  insides-pass tab bytes calls (e ∷ es) h =
      let q = span_end e.point 0 es in
      let rest = with_insides tab bytes (drop 1 calls) es in
      either-all Passes (is_bare calls e es) (e ∷ (inside_call tab bytes e.point q ++ rest)) (e ∷ with_insides tab bytes calls es)
      (h.0, inside-kept tab bytes e.point q IsOne Anywhere AllPass passes-kept seven e.point rest tt tt tt tt tt (insides-pass tab bytes (drop 1 calls) es h.1))
      (h.0, insides-pass tab bytes calls es h.1)

  pub calls-pass : (defined : (label : List ℕ) → Bool) (tab : ℕ) (bytes : List ℕ) (es : List Event) → AllByRecursion Passes es → AllByRecursion Passes (with_calls defined tab bytes es)
  calls-pass defined tab bytes es h =
      let calls = calls_of defined bytes 0 0 es in
      let named = every-map IsNamed (λ (l : Literal). test l.name ≡ true) (λ l is. ap test is ∙ seven.0) calls (calls-named defined bytes es) in
      insides-pass tab bytes calls (events_with tab bytes 0 0 (point 1 1 0 0) calls es) (with-passes test seven.1.1.1.1.1.1.0 tab bytes 0 0 (point 1 1 0 0) calls es named h)

pub names-by : (noted : (label : List ℕ) → Bool) (test : Name → Bool) (options : ParseOptions) (bytes : List ℕ) (events : List Event) → AllByRecursion (λ n. test n ≡ true) call_names
    → AllByRecursion (λ e. test e.name ≡ true) events → AllByRecursion (λ e. test e.name ≡ true) (call_events_by noted options bytes events)
names-by noted test options bytes events seven before =
    either-all (λ (e : Event). test e.name ≡ true) options.constructs.gfm_label_start_footnote (with_calls noted options.tab_size bytes events) events
    (calls-pass test seven noted options.tab_size bytes events before) before

pub names-kept : NamesAreKept
names-kept test options bytes events = names-by (is_one_of (labels_in bytes events)) test options bytes events
