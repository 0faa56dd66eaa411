-- The table of the machine passes the test, and its rows keep what it knows of edits, so that the machine is lawful.
use Rattle.std.proofs.Common.{◌≡◌, ℕ, List, [], ◌∷◌, ◌++◌, Bool, true, false, Option, Some, None, inl, inr, length, refl, sym, ap, ◌∙◌, subst, arith}
use Rattle.std.specs.Prelude.{All}
use Rattle.std.proofs.lemmas.List.Elements.{All-nil, All-cons, All-tail}
use Rattle.markdown_base.specs.declared.event.Event.{Event}
use Rattle.markdown_base.specs.declared.event.Kind.TheVariants.{Enter, Exit}
use Rattle.markdown_base.specs.declared.event.Name.TheVariants.{SpaceOrTab}
use Rattle.markdown_base.specs.declared.state.Name.{Name}
use Rattle.markdown_base.specs.declared.state.State.{State}
use Rattle.markdown_base.specs.declared.state.State.TheVariants.{Next, Retry}
use Rattle.markdown_base.specs.declared.state.TheConstants.Name.{TextStart}
use Rattle.markdown_base.specs.Events.{IsBalanced, EndsBelow}
use Rattle.markdown_base.specs.Places.{IsPointOf, IsShown, stands_before}
use Rattle.markdown_edits.specs.Edits.{Edit, edit_at, added_after, AreDisjoint}
use Rattle.markdown_edits.specs.Edited.{as_change, edited}
use Rattle.markdown_edits.specs.Woven.{woven, placed}
use Rattle.markdown_tokenizer.specs.Plain.{HaveNoLinks}
use Rattle.markdown_tokenizer.specs.Resolving.{IsInShape}
use Rattle.markdown_tokenizer.specs.Engine.{IsWellFormed, EndsWellFormed}
use Rattle.markdown_base.proofs.Balanced.{IsBalanced-pair, IsBalanced-remove}
use Rattle.markdown_edits.proofs.Edits.Passes.{woven-past}
use Rattle.markdown_tokenizer.proofs.Readings.Formed.{tight-behind, pairs-behind}
use Rattle.markdown_tokenizer.proofs.Readings.Plain.{no-links-more, no-links-below, no-links-shape, woven-same, edited-same}
use Rattle.markdown_tokenizer.specs.Text.{Given}
use Rattle.markdown_tokenizer.specs.Configuration.{Configuration, Local, Choice, start_configuration}
use Rattle.mdconstructs_tables.specs.Misfits.{misfits}
use Rattle.mdconstructs_tables.specs.Fitting.{IsFit}
use Rattle.mdconstructs_tables.specs.Knowledge.{KeepsKnowing, IsKnownThroughout}
use Rattle.mdconstructs_machines.specs.Words.{WordByte, blank, other, text_start, blanks, word_start, tag, word, words, is_start, blanks_may_be_open, BeginWithBlanks, DropNoMoreThanBlanks, KnowsEdits, knows_edits}

fits : (previous current : Option WordByte) → misfits words previous current ≡ []
fits previous None = refl
fits previous (Some blank) = refl
fits previous (Some other) = refl

pub words-fit : IsFit words
words-fit = record { fits = fits; paid = tt; falls = tt; kept = λ local. refl }

-- ---- the blanks with which the events begin, and more events

module _ (may_be_open : Bool) where
  -- blanks that ended may be open too
  still-begin : (xs : List Event) → BeginWithBlanks false xs → BeginWithBlanks may_be_open xs
  still-begin [] h = absurd h
  still-begin (x ∷ []) h = let e : false ≡ true = h.0 in absurd (cc)
  still-begin (x ∷ y ∷ xs) h = h

  -- one more event comes after them
  one-more : (xs : List Event) (e : Event) → BeginWithBlanks false xs → BeginWithBlanks may_be_open (xs ++ e ∷ [])
  one-more [] e h = absurd h
  one-more (x ∷ []) e h = let e : false ≡ true = h.0 in absurd (cc)
  one-more (x ∷ y ∷ xs) e h = h

  -- their exit comes
  their-exit : (xs : List Event) (e : Event) → e.kind ≡ Exit → e.name ≡ SpaceOrTab → BeginWithBlanks true xs → BeginWithBlanks may_be_open (xs ++ e ∷ [])
  their-exit [] e exits named h = absurd h
  their-exit (x ∷ []) e exits named h = (h.1, h.2, exits, named)
  their-exit (x ∷ y ∷ xs) e exits named h = h

  module _ (xs : List Event) (map : List Edit) where
    edits-still : DropNoMoreThanBlanks false xs map → DropNoMoreThanBlanks may_be_open xs map
    edits-still (inl none) = inl none
    edits-still (inr h) = inr (h.0, still-begin xs h.1)

    edits-more : (e : Event) → DropNoMoreThanBlanks false xs map → DropNoMoreThanBlanks may_be_open (xs ++ e ∷ []) map
    edits-more e (inl none) = inl none
    edits-more e (inr h) = inr (h.0, one-more xs e h.1)

    edits-exit : (e : Event) → e.kind ≡ Exit → e.name ≡ SpaceOrTab → DropNoMoreThanBlanks true xs map → DropNoMoreThanBlanks may_be_open (xs ++ e ∷ []) map
    edits-exit e exits named (inl none) = inl none
    edits-exit e exits named (inr h) = inr (h.0, their-exit xs e exits named h.1)

-- blanks before the text are dropped
edits-first : (xs : List Event) (map : List Edit) (e : Event) → (xs ≡ []) × (map ≡ []) → e.kind ≡ Enter → e.name ≡ SpaceOrTab
    → DropNoMoreThanBlanks true (xs ++ e ∷ []) (added_after map (edit_at 0 2 []))
edits-first [] [] e is enters named = inr (refl, (refl, enters, named))
edits-first [] (d ∷ map) e is enters named = let f : d ∷ map ≡ [] = is.1 in absurd (cc)
edits-first (x ∷ xs) map e is enters named = let f : x ∷ xs ≡ [] = is.0 in absurd (cc)

-- ---- rows

-- no row goes back to the start
later : {events : List Event} {local : Local Unit Unit} {state : State} → is_start state ≡ false → local.resolvers ≡ [] → HaveNoLinks events
    → DropNoMoreThanBlanks (blanks_may_be_open state) events local.map → KnowsEdits events local state
later begun none unlinked edits = record { no_resolver = none; no_links = unlinked; at_start = λ e. let f : true ≡ false = sym e ∙ begun in absurd (cc); edits = edits }

keeps-start : KeepsKnowing words knows_edits text_start
keeps-start g s k [] b None h = later refl h.no_resolver h.no_links (inl (h.at_start refl).1)
keeps-start g s k [] b (Some blank) h = later refl h.no_resolver (no-links-more k.events _ refl h.no_links) (edits-first k.events k.local.map _ (h.at_start refl) refl refl)
keeps-start g s k [] b (Some other) h = later refl h.no_resolver h.no_links (inl (h.at_start refl).1)
keeps-start g s k (c ∷ cs) b w h = absurd h

keeps-blanks : KeepsKnowing words knows_edits blanks
keeps-blanks g s k [] b None h = later refl h.no_resolver (no-links-more k.events _ refl h.no_links) (edits-exit false k.events k.local.map _ refl refl h.edits)
keeps-blanks g s k [] b (Some blank) h = (λ two. later refl h.no_resolver h.no_links h.edits, λ fewer. later refl h.no_resolver h.no_links h.edits)
keeps-blanks g s k [] b (Some other) h = later refl h.no_resolver (no-links-more k.events _ refl h.no_links) (edits-exit false k.events k.local.map _ refl refl h.edits)
keeps-blanks g s k (c ∷ cs) b w h = absurd h

keeps-word-start : KeepsKnowing words knows_edits word_start
keeps-word-start g s k [] b w h = (
  λ sign. later refl h.no_resolver (no-links-more _ _ refl (no-links-more _ _ refl (no-links-more k.events _ refl h.no_links)))
      (edits-more false _ k.local.map _ (edits-more false _ k.local.map _ (edits-more false k.events k.local.map _ h.edits))),
  λ none. later refl h.no_resolver (no-links-more k.events _ refl h.no_links) (edits-more false k.events k.local.map _ h.edits),
)
keeps-word-start g s k (c ∷ cs) b w h = absurd h

keeps-tag : KeepsKnowing words knows_edits tag
keeps-tag g s k [] b None h = later refl h.no_resolver h.no_links (edits-still true k.events k.local.map h.edits)
keeps-tag g s k [] b (Some blank) h = later refl h.no_resolver h.no_links (edits-still true k.events k.local.map h.edits)
keeps-tag g s k [] b (Some other) h = later refl h.no_resolver h.no_links h.edits
keeps-tag g s k (c ∷ cs) b w h = absurd h

keeps-word : KeepsKnowing words knows_edits word
keeps-word g s k [] b None h = later refl h.no_resolver (no-links-more k.events _ refl h.no_links) (edits-more false k.events k.local.map _ h.edits)
keeps-word g s k [] b (Some blank) h =
    later refl h.no_resolver (no-links-more _ _ refl (no-links-more k.events _ refl h.no_links)) (edits-more true _ k.local.map _ (edits-more false k.events k.local.map _ h.edits))
keeps-word g s k [] b (Some other) h = later refl h.no_resolver h.no_links h.edits
keeps-word g s k (c ∷ cs) b w h = absurd h

-- there is nothing at the start
at-starts : (flag : Bool) → let k : Configuration Unit Unit = start_configuration flag in All (λ name. knows_edits k.events k.local [] (Next name)) words.starts
at-starts flag =
    let k : Configuration Unit Unit = start_configuration flag in
    let P = λ (name : Name). knows_edits k.events k.local [] (Next name) in
    All-cons P TextStart [] (record { no_resolver = refl; no_links = tt; at_start = λ e. (refl, refl); edits = inl refl }) (All-nil P)

-- what is known when a state is fed is known when it is called
still-known : (events : List Event) (local : Local Unit Unit) (choices : List Choice) (name : Name) → knows_edits events local choices (Next name) → knows_edits events local choices (Retry name)
still-known events local [] name h = record { no_resolver = h.no_resolver; no_links = h.no_links; at_start = h.at_start; edits = h.edits }
still-known events local (c ∷ cs) name h = absurd h

-- what is known before the text
pub known-before : (events : List Event) (local : Local Unit Unit) (choices : List Choice) (n : ℕ) → n ≡ TextStart.number → knows_edits events local choices (Retry (record { number = n })) → local.map ≡ []
known-before events local [] n e h = (h.at_start (rw e refl)).1
known-before events local (c ∷ cs) n e h = absurd h

-- ---- the end

-- the edits can be made, and leave a list in shape
abbrev Ends : List Event → List Edit → Type 0
Ends events map = (AreDisjoint 0 map (length events) × All (EndsBelow (length events)) events) × IsInShape (edited map events)

-- a list without links, without its first two events, is the rest of it
behind-two : (x y : Event) (rest : List Event) → HaveNoLinks rest → edited (edit_at 0 2 [] ∷ []) (x ∷ y ∷ rest) ≡ rest
behind-two x y rest h = ap placed (woven-past (as_change (edit_at 0 2 [])) [] 2 rest (omega arith) (omega arith)) ∙ woven-same (woven [] 2 rest) 2 rest h

rest-balanced : (x y : Event) (rest : List Event) → IsBalanced (x ∷ y ∷ rest) → BeginWithBlanks false (x ∷ y ∷ rest) → IsBalanced rest
rest-balanced x y rest balanced h = IsBalanced-remove [] (x ∷ y ∷ []) rest balanced (IsBalanced-pair x y h.0 h.2 (h.3 ∙ sym h.1))

without-blanks : (events : List Event) → IsBalanced events → HaveNoLinks events → BeginWithBlanks false events → Ends events (edit_at 0 2 [] ∷ [])
without-blanks [] balanced unlinked h = absurd h
without-blanks (x ∷ []) balanced unlinked h = let e : false ≡ true = h.0 in absurd (cc)
without-blanks (x ∷ y ∷ rest) balanced unlinked h =
    let shape = no-links-shape rest unlinked.1.1 (rest-balanced x y rest balanced h) in
    (((omega arith, omega arith), no-links-below (length (x ∷ y ∷ rest)) (x ∷ y ∷ rest) unlinked), subst IsInShape (sym (behind-two x y rest unlinked.1.1)) shape)

ends-well : (events : List Event) (map : List Edit) → IsBalanced events → HaveNoLinks events → DropNoMoreThanBlanks false events map → Ends events map
ends-well events map balanced unlinked (inl none) =
    subst (λ m. Ends events m) (sym none)
    ((omega arith, no-links-below (length events) events unlinked), subst IsInShape (sym (edited-same events unlinked)) (no-links-shape events unlinked balanced))
ends-well events map balanced unlinked (inr h) = subst (λ m. Ends events m) (sym h.0) (without-blanks events balanced unlinked h.1)

behind-blanks : (g : Given) (events : List Event) → IsWellFormed g events → HaveNoLinks events → BeginWithBlanks false events → IsWellFormed g (edited (edit_at 0 2 [] ∷ []) events)
behind-blanks g [] formed unlinked h = absurd h
behind-blanks g (x ∷ []) formed unlinked h = let e : false ≡ true = h.0 in absurd (cc)
behind-blanks g (x ∷ y ∷ rest) formed unlinked h =
    let AtPlace = λ (e : Event). IsPointOf g.tab g.bytes e.point in
    let NotAfter = λ (e f : Event). stands_before f.point e.point ≡ false in
    let Shown = λ (e : Event). IsShown g.bytes e.point in
    subst (IsWellFormed g) (sym (behind-two x y rest unlinked.1.1)) (record {
      balanced = rest-balanced x y rest formed.balanced h;
      void_tight = tight-behind y rest (tight-behind x (y ∷ rest) formed.void_tight);
      at_places = All-tail AtPlace y rest (All-tail AtPlace x (y ∷ rest) formed.at_places);
      in_order = (
        pairs-behind NotAfter y rest (pairs-behind NotAfter x (y ∷ rest) formed.in_order.0),
        All-tail Shown y rest (All-tail Shown x (y ∷ rest) formed.in_order.1),
      );
    })

-- the events that are left are well formed
ends-well-formed : (g : Given) (events : List Event) (map : List Edit) → IsWellFormed g events → HaveNoLinks events → DropNoMoreThanBlanks false events map → IsWellFormed g (edited map events)
ends-well-formed g events map formed unlinked (inl none) =
    subst (λ m. IsWellFormed g (edited m events)) (sym none) (subst (IsWellFormed g) (sym (edited-same events unlinked)) formed)
ends-well-formed g events map formed unlinked (inr h) = subst (λ m. IsWellFormed g (edited m events)) (sym h.0) (behind-blanks g events formed unlinked h.1)

pub words-known : IsKnownThroughout words knows_edits EndsWellFormed
words-known = record {
  at_starts = at-starts;
  by_feeding = still-known;
  by_rows = (keeps-start, (keeps-blanks, (keeps-word-start, (keeps-tag, (keeps-word, tt)))));
  by_ok = λ k choice choices h. absurd h;
  by_nok = λ k choice choices h. absurd h;
  at_end = λ k balanced h. let e = ends-well k.events k.local.map balanced h.no_links h.edits in (h.no_resolver, e.0, e.1);
  promised = λ g text k formed h. ends-well-formed g k.events k.local.map formed h.no_links h.edits;
}
