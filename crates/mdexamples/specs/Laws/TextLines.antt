-- The table of the machine passes the test, and what its resolver leaves is in shape, so that the machine is lawful. Its chunks can be read.
use Rattle.std.proofs.Common.{◌≡◌, ℕ, zero, suc, ◌+◌, List, [], ◌∷◌, ◌++◌, false, Option, Some, None, inl, inr, length, map, refl, sym, ap, ◌∙◌, subst, arith}
use Rattle.std.specs.Prelude.{slice_get, option_and_then, option_map, unwrap_or, All}
use Rattle.std.specs.List.{AllByRecursion}
use Rattle.std.proofs.lemmas.List.Elements.{All-cons, All-nil, recursion_from_All}
use Rattle.markdown_base.proofs.Common.{every-append}
use Rattle.markdown_base.specs.declared.event.Content.TheVariants.{Text as TextContent}
use Rattle.markdown_base.specs.declared.event.Event.{Event}
use Rattle.markdown_base.specs.declared.event.Kind.TheVariants.{Enter, Exit}
use Rattle.markdown_base.specs.declared.event.Link.{Link}
use Rattle.markdown_base.specs.declared.event.Name.{Name as EventName}
use Rattle.markdown_base.specs.declared.state.Name.{Name}
use Rattle.markdown_base.specs.declared.state.TheConstants.Name.{FlowStart}
use Rattle.markdown_base.specs.declared.state.State.TheVariants.{Next}
use Rattle.markdown_base.specs.Events.{is_void, IsBalanced, IsVoidTight, empty, span, EndsBelow}
use Rattle.markdown_base.specs.Places.{IsPointOf}
use Rattle.markdown_base.specs.Virtual.{Seat, end_after}
use Rattle.markdown_tokenizer.specs.declared.subtokenize.Subresult.{Subresult}
use Rattle.markdown_tokenizer.specs.Text.{Given, Text}
use Rattle.markdown_tokenizer.specs.Configuration.{Configuration, start_configuration}
use Rattle.markdown_tokenizer.specs.Sight.{Sight, sight}
use Rattle.markdown_tokenizer.specs.Calls.{with_events, with_resolvers, registered}
use Rattle.markdown_tokenizer.specs.Engine.{IsWellFormed}
use Rattle.markdown_tokenizer.specs.Resolving.{done, taken, IsInShape}
use Rattle.markdown_tokenizer.specs.Lawful.{ResolversKeep, IsAsFar, IsLawful}
use Rattle.markdown_tokenizer.proofs.Readings.Plain.{no-links-shape}
use Rattle.markdown_edits.specs.Edits.{AreDisjoint, Edit}
use Rattle.markdown_edits.specs.Edited.{edited}
use Rattle.markdown_edits.specs.Links.{next_of, previous_of, AreMutual}
use Rattle.markdown_base.proofs.Balanced.{IsBalanced-append}
use Rattle.markdown_edits.proofs.Edits.Splices.{edited-none}
use Rattle.markdown_children.specs.Chains.{chain_from, fitting_starts}
use Rattle.markdown_children.specs.LawStatements.{IsTornNowhere}
use Rattle.markdown_children.specs.Parts.{Divided, parts, divided_over}
use Rattle.markdown_children.specs.Ready.{IsReady, place_at}
use Rattle.markdown_children.proofs.Parts.InShape.{children_fit}
use Rattle.mdconstructs_tables.specs.Misfits.{misfits}
use Rattle.mdconstructs_tables.specs.Fitting.{IsFit, every}
use Rattle.mdconstructs_tables.specs.Plans.{KeepsKnowledge, KeepsKnown, Plan}
use Rattle.mdconstructs_tables.specs.RowTest.{never}
use Rattle.mdconstructs_tables.proofs.Tables.Plans.{formed-lawful}
use Rattle.mdconstructs_tables.proofs.Tables.Prices.{all-fall, every-late}
use Rattle.mdconstructs_machines.specs.Spans.{event, leaf, span as span_of}
use Rattle.mdinline_text_machine.specs.ChainTexts.{chain_text, chain_events, with_texts}
use Rattle.mdinline_text_machine.specs.TextEvents.{text_events}
use Rattle.mdinline_text_machine.proofs.Paragraphs.ChunkPairs.{IsPlaced}
use Rattle.mdinline_text_machine.proofs.Paragraphs.ChunksReady.{chunks-are-ready}
use Rattle.mdinline_text_machine.proofs.Texts.Built.{IsKeptBySpans}
use Rattle.mdinline_text_machine.proofs.Texts.ItemsBuilt.{text-built}
use Rattle.mdinline_text_machine.proofs.Texts.Tight.{text-alone, text-tight}
use Rattle.mdconstructs.specs.Paragraphs.{text_link}
use Rattle.mdconstructs.specs.Tables.{LineByte, line_ending, other}
use Rattle.mdexamples.specs.declared.text_lines.Resolver.{Resolver}
use Rattle.mdexamples.specs.declared.text_lines.Resolver.TheVariants.{ReadTexts}
use Rattle.mdexamples.specs.TextLines.{same_resolver, flow_start, line_start, line_inside, text_lines, text_lines_resolver, IsAlone, IsUnreadAt, AreTextLines, text_lines_resolves, text_lines_rules}

fits : (previous current : Option LineByte) → misfits text_lines previous current ≡ []
fits previous None = refl
fits previous (Some line_ending) = refl
fits previous (Some other) = refl

pub text-lines-fit : IsFit text_lines
text-lines-fit = record { fits = fits; paid = tt; falls = tt; kept = λ local. refl }

-- ---- each chunk is a chain of its own, so it can be read

alone-more : (xs : List Event) (e : Event) → IsAlone e → AllByRecursion IsAlone xs → AllByRecursion IsAlone (xs ++ e ∷ [])
alone-more xs e alone h = every-append IsAlone xs (e ∷ []) h (alone, tt)

-- its link leads nowhere
leads-nowhere : (f : Link → Option ℕ) → f text_link ≡ None → (e : Event) → IsAlone e → option_and_then f e.link ≡ None
leads-nowhere f none e h = elim h [ inl unlinked ↦ ap (option_and_then f) unlinked | inr chunk ↦ ap (option_and_then f) chunk.2 ∙ none ]

none-leads : (f : Link → Option ℕ) → f text_link ≡ None → (es : List Event) (i : ℕ) → AllByRecursion IsAlone es → option_and_then (λ (e : Event). option_and_then f e.link) (slice_get es i) ≡ None
none-leads f none [] i h = refl
none-leads f none (e ∷ es) zero h = leads-nowhere f none e h.0
none-leads f none (e ∷ es) (suc i) h = none-leads f none es i h.1

no-next : (es : List Event) (i : ℕ) → AllByRecursion IsAlone es → next_of es i ≡ None
no-next es i h = none-leads (λ (l : Link). l.next) refl es i h

no-previous : (es : List Event) (i : ℕ) → AllByRecursion IsAlone es → previous_of es i ≡ None
no-previous es i h = none-leads (λ (l : Link). l.previous) refl es i h

placed : (t : ℕ) (bytes : List ℕ) (e : Event) → IsAlone e → IsPointOf t bytes e.point → IsPlaced t bytes e
placed t bytes e h place = elim h [
  | inl unlinked ↦ (inl unlinked, place)
  | inr chunk ↦ (inr (record { linked = record { enter = chunk.0; void = chunk.1; linked = rw chunk.2 refl }; text = rw chunk.2 refl }), place)
]

each-placed : (t : ℕ) (bytes : List ℕ) (es : List Event) → AllByRecursion IsAlone es → AllByRecursion (λ (e : Event). IsPointOf t bytes e.point) es → AllByRecursion (IsPlaced t bytes) es
each-placed t bytes [] h k = tt
each-placed t bytes (e ∷ es) h k = (placed t bytes e h.0 k.0, each-placed t bytes es h.1 k.1)

no-some : (o : Option ℕ) (n : ℕ) → o ≡ None → o ≡ Some n → ⊥
no-some o n none is = absurd (cc)

lines-ready : (g : Given) (es : List Event) → AllByRecursion IsAlone es → IsWellFormed g es → IsReady g.tab g.bytes (Some TextContent) es
lines-ready g es alone formed =
    let places = recursion_from_All (λ (e : Event). IsPointOf g.tab g.bytes e.point) es formed.at_places in
    chunks-are-ready g.tab g.bytes es
    (record { each = each-placed g.tab g.bytes es alone places; pairs = λ k d is. absurd (no-some (next_of es k) d (no-next es k alone) is) })
    formed.balanced formed.void_tight formed.in_order
    (λ i j. ((λ is. absurd (no-some (next_of es i) j (no-next es i alone) is)), (λ is. absurd (no-some (previous_of es j) i (no-previous es j alone) is))))

-- so they can be read where the resolver runs
pub chunks-ready : (g : Given) (text : Text) (r : Resolver) (rs : List Resolver) (k : Configuration Resolver Unit) → text_lines_resolves g text (r ∷ rs) k → IsReady g.tab g.bytes (Some TextContent) k.events
chunks-ready g text ReadTexts [] k h = lines-ready g k.events h.2 h.3
chunks-ready g text ReadTexts (r ∷ rs) k h = absurd h

-- ---- what the texts are read as is balanced, and links nothing; so what is left is in shape

module _ (bytes : List ℕ) where
  leaf-balanced : (name : EventName) (seats : List Seat) → IsBalanced (leaf bytes name seats)
  leaf-balanced name [] = empty
  leaf-balanced name (s ∷ ss) = span (event bytes Enter name s.point) (event bytes Exit name (end_after s.end ss)) [] [] refl refl refl refl empty empty

  span-balanced : (name : EventName) (seats : List Seat) (es : List Event) → is_void name ≡ false → IsBalanced es → IsBalanced (span_of bytes name seats es)
  span-balanced name [] es unvoid h = h
  span-balanced name (s ∷ ss) es unvoid h = span (event bytes Enter name s.point) (event bytes Exit name (end_after s.end ss)) es [] refl refl refl refl h empty

  balanced-kept : IsKeptBySpans bytes IsBalanced
  balanced-kept = record { none = empty; both = IsBalanced-append; alone = leaf-balanced; around = span-balanced }

module _ (P : List Event → Type 0) (of_chain : ℕ → List Event) (all : (c : ℕ) → P (of_chain c)) where
  each-so : (cs : List ℕ) → AllByRecursion P (map of_chain cs)
  each-so [] = tt
  each-so (c ∷ cs) = (all c, each-so cs)

text-balanced : (g : Given) (text : Text) → IsBalanced (text_events g text)
text-balanced g = text-built g IsBalanced (balanced-kept g.bytes)

in-shape : (g : Given) (es : List Event) → AllByRecursion IsAlone es → IsWellFormed g es → IsInShape (with_texts g es)
in-shape g es alone formed =
    let starts = fitting_starts (Some TextContent) es in
    let fit = children_fit g.tab g.bytes (Some TextContent) es (lines-ready g es alone formed) (map (chain_events g es) starts) in
    let balanced = λ (c : ℕ). text-balanced g (chain_text g es c) in
    let joined = λ (c : ℕ). (no-links-shape (chain_events g es c) (text-alone g (chain_text g es c)) (balanced c)).chained in
    record { balanced = fit.balanced (each-so IsBalanced (chain_events g es) balanced starts); inside = fit.inside; chained = fit.chained (each-so AreMutual (chain_events g es) joined starts) }

-- a chain of one chunk tears no void span
torn-nowhere : (n : ℕ) (es : List Event) (c : ℕ) (child : List Event) → AllByRecursion IsAlone es
    → IsTornNowhere (chain_from n es c) (parts (map (λ k. place_at es (k + 1)) (chain_from n es c)) child)
torn-nowhere zero es c child h = tt
torn-nowhere (suc n) es c child h =
    subst (λ o. let ks = c ∷ unwrap_or (option_map (λ d. chain_from n es d) o) [] in IsTornNowhere ks (parts (map (λ k. place_at es (k + 1)) ks) child))
    (sym (no-next es c h)) ((λ e. tt), tt)

none-torn : (es : List Event) (cs : List ℕ) (children : List (List Event)) → AllByRecursion IsAlone es → AllByRecursion (λ (d : Divided). IsTornNowhere d.chunks d.parts) (divided_over es cs children)
none-torn es [] children h = tt
none-torn es (c ∷ cs) [] h = tt
none-torn es (c ∷ cs) (child ∷ children) h = (torn-nowhere (length es) es c child h, none-torn es cs children h)

still-tight : (g : Given) (es : List Event) → AllByRecursion IsAlone es → IsWellFormed g es → IsVoidTight (with_texts g es)
still-tight g es alone formed =
    let starts = fitting_starts (Some TextContent) es in
    let children = map (chain_events g es) starts in
    let fit = children_fit g.tab g.bytes (Some TextContent) es (lines-ready g es alone formed) children in
    fit.tight formed.void_tight (each-so IsVoidTight (chain_events g es) (λ c. text-tight g (chain_text g es c)) starts) (none-torn es starts children alone)

-- ---- the laws

-- what the machine is, as a plan: its invariant is that of its rules, said in another form
abbrev plan : Plan LineByte Resolver Unit
plan = record {
  table = text_lines;
  early = never;
  falling = every;
  knows = λ g text k choices state. IsUnreadAt k choices state;
  resolver = text_lines_resolver;
  resolves = text_lines_resolves;
  ends = λ g text. AreTextLines g;
}

keeps-first : KeepsKnown plan flow_start
keeps-first g text k choices b w is before here h = (h.known.0, (ap (registered same_resolver ReadTexts) h.known.1.0, h.known.1.1, h.known.1.2))

keeps-start : KeepsKnown plan line_start
keeps-start g text k choices b None is before here h = h.known
keeps-start g text k choices b (Some line_ending) is before here h = (h.known.0, (h.known.1.0, h.known.1.1, alone-more _ _ (inl refl) (alone-more k.events _ (inl refl) h.known.1.2)))
keeps-start g text k choices b (Some other) is before here h = (h.known.0, (h.known.1.0, h.known.1.1, alone-more k.events _ (inr (refl, refl, refl)) h.known.1.2))

keeps-inside : KeepsKnown plan line_inside
keeps-inside g text k choices b None is before here h = (h.known.0, (h.known.1.0, h.known.1.1, alone-more k.events _ (inl refl) h.known.1.2))
keeps-inside g text k choices b (Some line_ending) is before here h = (h.known.0, (h.known.1.0, h.known.1.1, alone-more k.events _ (inl refl) h.known.1.2))
keeps-inside g text k choices b (Some other) is before here h = h.known

kept : KeepsKnowledge plan
kept = record {
  at_starts = λ g p flag is. let Known = λ (name : Name). IsUnreadAt (start_configuration flag) [] (Next name) in All-cons Known FlowStart [] (refl, (refl, refl, tt)) (All-nil Known);
  by_byte = λ g text k choices name is within h. h.known;
  by_end = λ g text k choices name is behind h. h.known;
  by_rows = (keeps-first, (keeps-start, (keeps-inside, tt)));
  by_ok = λ g text k choice choices is h. absurd (let e : choice ∷ choices ≡ [] = h.known.0 in cc);
  by_nok = λ g text k choice choices is h. absurd (let e : choice ∷ choices ≡ [] = h.known.0 in cc);
  by_pieces = λ g text piece k choices state is fits fresh h. h.known;
}

module _ (g : Given) where
  -- what the resolver leaves
  abbrev IsPassed : Text → List Resolver → (k new : Configuration Resolver Unit) → Type 0
  IsPassed text rs k new = text_lines_resolves g text rs new × IsAsFar new k × (new.stack ≡ k.stack)

  passed-by : (s : Sight) (text : Text) (r : Resolver) (rs : List Resolver) (k new : Configuration Resolver Unit) (more : Option Subresult) → text_lines_resolves g text (r ∷ rs) k
      → text_lines_resolver g s k r ≡ done new more → IsPassed text rs k new
  passed-by s text ReadTexts [] k new more h e =
      let same : with_events k (with_texts g k.events) ≡ new = cc in
      subst (IsPassed text [] k) same ((h.1, in-shape g k.events h.2 h.3, (k.events, h.3, h.2, refl, still-tight g k.events h.2 h.3)), (refl, refl, refl), refl)
  passed-by s text ReadTexts (r ∷ rs) k new more h e = absurd h

  -- no edit waits, so the list stays
  abbrev Ends : List Edit → List Event → Type 0
  Ends edits xs = (AreDisjoint 0 edits (length xs) × All (EndsBelow (length xs)) xs) × IsInShape (edited edits xs) × AreTextLines g (edited edits xs)

  ends-so : (edits : List Edit) (xs : List Event) → edits ≡ [] → IsInShape xs → AreTextLines g xs → Ends edits xs
  ends-so edits xs none shape lines =
      let same = sym (edited-none xs shape.inside) in
      subst (λ es. Ends es xs) (sym none) ((omega arith, shape.inside), subst IsInShape same shape, subst (AreTextLines g) same lines)

  resolvers_keep : ResolversKeep g (text_lines_rules g)
  resolvers_keep = record {
    at_end = λ text k is formed h.
        let set = h.0.1 in
        subst (λ rs. text_lines_resolves g text rs (with_resolvers (taken k) [])) (sym set.0) (is.document, set.1, set.2, formed);
    by_resolvers = λ text r rs k new more is h e. passed-by (sight g text k) text r rs k new more h e;
    at_last = λ text k is h. ends-so k.local.map k.events h.0 h.1 h.2;
  }

pub text-lines-lawful : (g : Given) → IsLawful g (text_lines_rules g)
text-lines-lawful g =
    formed-lawful plan g text-lines-fit (every-late text_lines g text-lines-fit) (text_lines_rules g).holds (λ text k choices state h. record { holds = h.1; falls = all-fall choices; known = h.0 })
    (λ text k choices state h. (h.known, h.holds)) kept (resolvers_keep g)
