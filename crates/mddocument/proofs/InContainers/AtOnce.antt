-- A list whose chains are of two contents, which are read as events without links: with the children of all chains at once it is as with those of
-- one content first, and then of the other.
use Rattle.std.proofs.Common.{zero-add, ◌≡◌, ◌⊎◌, ℕ, ◌+◌, inl, inr, Bool, true, false, cond, List, [], ◌∷◌, ◌++◌, length, map, Option, Some, None, refl, sym, ◌∙◌, ap, subst}
use Rattle.std.proofs.Math.Bool.{and_comm}
use Rattle.std.proofs.lemmas.Bool.{and_parts}
use Rattle.std.proofs.lemmas.List.{length-map, map-append}
use Rattle.std.specs.List.{AllByRecursion, range_with_len}
use Rattle.std.specs.Option.{option_and_then, option_map}
use Rattle.std.specs.Prelude.{◌&&◌, filter, flat_map, is_none}
use Rattle.markdown_base.proofs.Common.{every-append}
use Rattle.markdown_tokenizer.proofs.Positions.Order.{every-back, every-front}
use Rattle.markdown_base.specs.Events.{IsBalanced}
use Rattle.markdown_base.specs.declared.event.Content.{Content}
use Rattle.markdown_base.specs.declared.event.Event.{Event}
use Rattle.markdown_base.specs.declared.event.Link.{Link}
use Rattle.markdown_base.specs.declared.event.Point.{Point}
use Rattle.markdown_edits.proofs.Edits.Passes.{pass, woven-pass}
use Rattle.markdown_edits.specs.Links.{content_of, previous_of}
use Rattle.markdown_edits.specs.Woven.{AreApart, Change, Tagged, is_removed, placed_in, woven}
use Rattle.markdown_tokenizer.specs.Plain.{HaveNoLinks}
use Rattle.markdown_tokenizer.specs.Text.{Given, Text}
use Rattle.markdown_children.specs.Chains.{begins, chain_of, content_at, fits, fitting_starts, some_fits}
use Rattle.markdown_children.specs.Children.{chain_changes, child_changes, first_chunk, part_changes, tagged_child, with_children}
use Rattle.markdown_children.specs.LawStatements.{NoneTorn}
use Rattle.markdown_children.specs.Parts.{divided, divided_over, parts}
use Rattle.markdown_children.specs.Reads.{text_from}
use Rattle.markdown_children.specs.Ready.{IsReady, place_at}
use Rattle.markdown_children.proofs.ChainOrder.Following.{by_option, filter-no, filter-yes}
use Rattle.markdown_children.proofs.ChainOrder.Spaced.{changes_are_apart}
use Rattle.markdown_children.proofs.Parts.InShape.{all-once}
use Rattle.markdown_children.proofs.Parts.Kept.{joined, joined-parts, untagged, untagged-child}
use Rattle.markdown_children.proofs.Parts.Staying.{each-ready}
use Rattle.mddocument.proofs.InContainers.KeptChains.{changes-new, moved, moved-is, starts-new, starts-others, text-new}
use Rattle.mddocument.proofs.InContainers.Merged.{AreBareFrom, IsBare, IsTurn, Turn, all_of, bare-placed, firsts, goes, later, no-links-bare, now, seconds}
use Rattle.mddocument.proofs.InContainers.Removed.{removed-fits}
use Rattle.mddocument.proofs.InContainers.Rising.{all-in, filter-both, filter-in}

-- ---- turns, one after another
firsts-now : (ws : List Change) (turns : List Turn) → firsts (map now ws ++ turns) ≡ ws ++ firsts turns
firsts-now [] turns = refl
firsts-now (w ∷ ws) turns = ap (λ l. w ∷ l) (firsts-now ws turns)

seconds-now : (ws : List Change) (turns : List Turn) → seconds (map now ws ++ turns) ≡ seconds turns
seconds-now [] turns = refl
seconds-now (w ∷ ws) turns = seconds-now ws turns

all-now : (ws : List Change) → all_of (map now ws) ≡ ws
all-now [] = refl
all-now (w ∷ ws) = ap (λ l. w ∷ l) (all-now ws)

-- the changes of a chain that come later, at the new indices of its chunks; it is named by its first chunk
abbrev laters : (ℕ → ℕ) → (c q j : ℕ) → List ℕ → List (List Event) → List Turn
laters f c q j [] ps = []
laters f c q j (k ∷ ks) [] = []
laters f c q j (k ∷ ks) (p ∷ ps) = later (record { index = k; remove = 2; events = tagged_child c j p }) (record { index = f k; remove = 2; events = tagged_child q j p }) ∷ laters f c q (j + length p) ks ps

all-later : (f : ℕ → ℕ) (c q j : ℕ) (ks : List ℕ) (ps : List (List Event)) → all_of (laters f c q j ks ps) ≡ part_changes c j ks ps
all-later f c q j [] ps = refl
all-later f c q j (k ∷ ks) [] = refl
all-later f c q j (k ∷ ks) (p ∷ ps) = ap (λ l. record { index = k; remove = 2; events = tagged_child c j p } ∷ l) (all-later f c q (j + length p) ks ps)

firsts-later : (f : ℕ → ℕ) (c q j : ℕ) (ks : List ℕ) (ps : List (List Event)) (turns : List Turn) → firsts (laters f c q j ks ps ++ turns) ≡ firsts turns
firsts-later f c q j [] ps turns = refl
firsts-later f c q j (k ∷ ks) [] turns = refl
firsts-later f c q j (k ∷ ks) (p ∷ ps) turns = firsts-later f c q (j + length p) ks ps turns

seconds-later : (f : ℕ → ℕ) (c q j : ℕ) (ks : List ℕ) (ps : List (List Event)) (turns : List Turn) → seconds (laters f c q j ks ps ++ turns) ≡ part_changes q j (map f ks) ps ++ seconds turns
seconds-later f c q j [] ps turns = refl
seconds-later f c q j (k ∷ ks) [] turns = refl
seconds-later f c q j (k ∷ ks) (p ∷ ps) turns = ap (λ l. record { index = f k; remove = 2; events = tagged_child q j p } ∷ l) (seconds-later f c q (j + length p) ks ps turns)

-- parts of events without links have none
bare-parts : (ps : List (List Event)) → AllByRecursion IsBare (joined ps) → AllByRecursion (AllByRecursion IsBare) ps
bare-parts [] h = tt
bare-parts (p ∷ ps) h = (every-front IsBare p (joined ps) h, bare-parts ps (every-back IsBare p (joined ps) h))

parts-of : (ends : List Point) (es : List Event) → HaveNoLinks es → AllByRecursion (AllByRecursion IsBare) (parts ends es)
parts-of [] es h = tt
parts-of (end ∷ ends) es h = bare-parts (parts (end ∷ ends) es) (subst (AllByRecursion IsBare) (sym (joined-parts end ends es)) (no-links-bare es h))

-- each is a turn, if its parts have no links
turns-now : (f : ℕ → ℕ) (c j : ℕ) (ks : List ℕ) (ps : List (List Event)) → AllByRecursion (AllByRecursion IsBare) ps → AllByRecursion (IsTurn f) (map now (part_changes c j ks ps))
turns-now f c j [] ps h = tt
turns-now f c j (k ∷ ks) [] h = tt
turns-now f c j (k ∷ ks) (p ∷ ps) h = ((refl, subst (AllByRecursion IsBare) (sym (untagged-child c j p)) h.0), turns-now f c (j + length p) ks ps h.1)

turns-later : (f : ℕ → ℕ) (c q j : ℕ) (ks : List ℕ) (ps : List (List Event)) → AllByRecursion (AllByRecursion IsBare) ps → AllByRecursion (IsTurn f) (laters f c q j ks ps)
turns-later f c q j [] ps h = tt
turns-later f c q j (k ∷ ks) [] h = tt
turns-later f c q j (k ∷ ks) (p ∷ ps) h =
    ((refl, subst (AllByRecursion IsBare) (sym (untagged-child c j p)) h.0, refl, refl, untagged-child q j p ∙ sym (untagged-child c j p)), turns-later f c q (j + length p) ks ps h.1)

-- what begins a chain of a content begins a chain, and is of the content
begins-both : (w : Content) (o : Option Content) (n : Bool) → (some_fits (Some w) o && n) ≡ ((some_fits None o && n) && some_fits (Some w) o)
begins-both w None true = refl
begins-both w None false = refl
begins-both w (Some c) n = and_comm (some_fits (Some w) (Some c)) n

children-of : (events : List Event) (read : ℕ → List Event) (cs : List ℕ) → flat_map chain_changes (divided_over events cs (map read cs)) ≡ flat_map (λ c. chain_changes (divided events c (read c))) cs
children-of events read [] = refl
children-of events read (c ∷ cs) = ap (λ l. chain_changes (divided events c (read c)) ++ l) (children-of events read cs)

module _ (g : Given) (events : List Event) (ready : IsReady g.tab g.bytes None events) (a b : Content) (others : some_fits (Some a) (Some b) ≡ false) (others_back : some_fits (Some b) (Some a) ≡ false)
    (self_a : some_fits (Some a) (Some a) ≡ true) (self : some_fits (Some b) (Some b) ≡ true) (only : (k : ℕ) (c : Content) → content_at events k ≡ Some c → (c ≡ a) ⊎ (c ≡ b))
    (read_a read_b : Text → List Event) (alone_a : (text : Text) → HaveNoLinks (read_a text)) (alone_b : (text : Text) → HaveNoLinks (read_b text))
    (read_at : ℕ → List Event) (is_a : (c : ℕ) → content_at events c ≡ Some a → read_at c ≡ read_a (text_from g events c)) (is_b : (c : ℕ) → content_at events c ≡ Some b → read_at c ≡ read_b (text_from g events c)) where
  abbrev at_a : ℕ → List Event
  at_a c = read_a (text_from g events c)

  abbrev at_b : ℕ → List Event
  at_b c = read_b (text_from g events c)

  abbrev starts : List ℕ
  starts = fitting_starts None events

  abbrev children : List (List Event)
  children = map at_a (fitting_starts (Some a) events)

  -- the list with the children of the first content
  abbrev pub half : List Event
  half = with_children (Some a) events children

  ready_a : IsReady g.tab g.bytes (Some a) events
  ready_a = each-ready g.tab g.bytes events ready a

  alone-children : (cs : List ℕ) → AllByRecursion HaveNoLinks (map at_a cs)
  alone-children [] = tt
  alone-children (c ∷ cs) = (alone_a (text_from g events c), alone-children cs)

  -- ---- its chains
  abbrev IsChain : ℕ → Type 0
  IsChain c = (content_at events c ≡ Some a) ⊎ (content_at events c ≡ Some b)

  all-chains : AllByRecursion IsChain starts
  all-chains = all-in IsChain starts (λ n i.
      let t = filter-in (begins None events) (range_with_len 0 (length events)) n i in
      let fit = (and_parts (fits None events n) (is_none (previous_of events n)) t).0 in
      by_option (content_at events n)
      (λ none. absurd (let no : false ≡ true = sym (ap (some_fits None) none) ∙ fit in cc))
      (λ c at. elim (only n c at) [ inl e ↦ inl (at ∙ ap Some e) | inr e ↦ inr (at ∙ ap Some e) ]))

  starts-of : (w : Content) → fitting_starts (Some w) events ≡ filter (fits (Some w) events) starts
  starts-of w = sym (filter-both (begins None events) (fits (Some w) events) (begins (Some w) events) (λ x. begins-both w (content_at events x) (is_none (previous_of events x))) (range_with_len 0 (length events)))

  module _ (balanced : AllByRecursion IsBalanced children) (torn : NoneTorn (Some a) events children) where
    alone : AllByRecursion HaveNoLinks children
    alone = alone-children (fitting_starts (Some a) events)

    abbrev to : ℕ → ℕ
    to = moved g events ready a b others self children alone balanced torn

    abbrev ends_of : List ℕ → List Point
    ends_of ks = map (λ k. place_at events (k + 1)) ks

    -- the changes of a chain of the other content, in the list and in the half
    abbrev late : ℕ → List Turn
    late c = laters to (first_chunk (chain_of events c)) (first_chunk (map to (chain_of events c))) 0 (chain_of events c) (parts (ends_of (chain_of events c)) (at_b c))

    abbrev turn_of : ℕ → List Turn
    turn_of c = cond (fits (Some a) events c) (map now (chain_changes (divided events c (at_a c)))) (late c)

    abbrev turns : List ℕ → List Turn
    turns cs = flat_map turn_of cs

    -- a chain is of one content or the other
    by-chain : {P : Type 0} (c : ℕ) → IsChain c → (content_at events c ≡ Some a → fits (Some a) events c ≡ true → fits (Some b) events c ≡ false → P) → (content_at events c ≡ Some b → fits (Some a) events c ≡ false → fits (Some b) events c ≡ true → P) → P
    by-chain c h first second = elim h [
      | inl e ↦ first e (ap (some_fits (Some a)) e ∙ self_a) (ap (some_fits (Some b)) e ∙ others_back)
      | inr e ↦ second e (ap (some_fits (Some a)) e ∙ others) (ap (some_fits (Some b)) e ∙ self)
    ]

    all-turns : (cs : List ℕ) → AllByRecursion IsChain cs → all_of (turns cs) ≡ flat_map (λ c. chain_changes (divided events c (read_at c))) cs
    all-turns [] h = refl
    all-turns (c ∷ cs) h =
        let more = all-turns cs h.1 in
        let one : all_of (turn_of c) ≡ chain_changes (divided events c (read_at c)) = by-chain c h.0
        (λ e fit_a fit_b. rw (fit_a, is_a c e) (all-now (chain_changes (divided events c (at_a c)))))
        (λ e fit_a fit_b. rw (fit_a, is_b c e) (all-later to (first_chunk (chain_of events c)) (first_chunk (map to (chain_of events c))) 0 (chain_of events c) (parts (ends_of (chain_of events c)) (at_b c)))) in
        map-append _ (turn_of c) (turns cs) ∙ (λ j. one j ++ more j)

    firsts-turns : (cs : List ℕ) → AllByRecursion IsChain cs → firsts (turns cs) ≡ flat_map (λ c. chain_changes (divided events c (at_a c))) (filter (fits (Some a) events) cs)
    firsts-turns [] h = refl
    firsts-turns (c ∷ cs) h =
        let more = firsts-turns cs h.1 in
        let here : ℕ → List Change = λ d. chain_changes (divided events d (at_a d)) in
        by-chain c h.0
        (λ e fit_a fit_b.
        let is : turn_of c ≡ map now (here c) = rw fit_a refl in
        ap (λ ts. firsts (ts ++ turns cs)) is ∙ firsts-now (here c) (turns cs) ∙ ap (λ l. here c ++ l) more ∙ sym (ap (flat_map here) (filter-yes (fits (Some a) events) c cs fit_a)))
        (λ e fit_a fit_b.
        let is : turn_of c ≡ late c = rw fit_a refl in
        ap (λ ts. firsts (ts ++ turns cs)) is
        ∙ firsts-later to (first_chunk (chain_of events c)) (first_chunk (map to (chain_of events c))) 0 (chain_of events c) (parts (ends_of (chain_of events c)) (at_b c)) (turns cs)
        ∙ more ∙ sym (ap (flat_map here) (filter-no (fits (Some a) events) c cs fit_a)))

    abbrev there : ℕ → List Change
    there c = chain_changes (divided half (to c) (at_b c))

    seconds-turns : (cs : List ℕ) → AllByRecursion IsChain cs → seconds (turns cs) ≡ flat_map there (filter (fits (Some b) events) cs)
    seconds-turns [] h = refl
    seconds-turns (c ∷ cs) h =
        let more = seconds-turns cs h.1 in
        by-chain c h.0
        (λ e fit_a fit_b.
        let is : turn_of c ≡ map now (chain_changes (divided events c (at_a c))) = rw fit_a refl in
        ap (λ ts. seconds (ts ++ turns cs)) is ∙ seconds-now (chain_changes (divided events c (at_a c))) (turns cs) ∙ more ∙ sym (ap (flat_map there) (filter-no (fits (Some b) events) c cs fit_b)))
        (λ e fit_a fit_b.
        let is : turn_of c ≡ late c = rw fit_a refl in
        ap (λ ts. seconds (ts ++ turns cs)) is
        ∙ seconds-later to (first_chunk (chain_of events c)) (first_chunk (map to (chain_of events c))) 0 (chain_of events c) (parts (ends_of (chain_of events c)) (at_b c)) (turns cs)
        ∙ (λ j. sym (changes-new g events ready a b others self children alone balanced torn c e (at_b c)) j ++ more j) ∙ sym (ap (flat_map there) (filter-yes (fits (Some b) events) c cs fit_b)))

    are-turns : (cs : List ℕ) → AllByRecursion IsChain cs → AllByRecursion (IsTurn to) (turns cs)
    are-turns [] h = tt
    are-turns (c ∷ cs) h =
        let ks = chain_of events c in
        let one : AllByRecursion (IsTurn to) (turn_of c) = by-chain c h.0
        (λ e fit_a fit_b. rw fit_a (turns-now to (first_chunk ks) 0 ks (parts (ends_of ks) (at_a c)) (parts-of (ends_of ks) (at_a c) (alone_a (text_from g events c)))))
        (λ e fit_a fit_b. rw fit_a (turns-later to (first_chunk ks) (first_chunk (map to ks)) 0 ks (parts (ends_of ks) (at_b c)) (parts-of (ends_of ks) (at_b c) (alone_b (text_from g events c))))) in
        every-append (IsTurn to) (turn_of c) (turns cs) one (are-turns cs h.1)

    -- ---- the changes at once, and in turn
    abbrev whole : List Change
    whole = child_changes None events (map read_at starts)

    whole-is : all_of (turns starts) ≡ whole
    whole-is = all-turns starts all-chains ∙ sym (children-of events read_at starts)

    firsts-are : firsts (turns starts) ≡ child_changes (Some a) events children
    firsts-are =
        firsts-turns starts all-chains ∙ ap (flat_map (λ c. chain_changes (divided events c (at_a c)))) (sym (starts-of a)) ∙ sym (children-of events at_a (fitting_starts (Some a) events))

    -- the other children, as they are read of the half
    abbrev pub rest : List (List Event)
    rest = map (λ q. read_b (text_from g half q)) (fitting_starts (Some b) half)

    moved-changes : (cs : List ℕ) → AllByRecursion (λ c. content_at events c ≡ Some b) cs → flat_map there cs ≡ flat_map (λ q. chain_changes (divided half q (read_b (text_from g half q)))) (map to cs)
    moved-changes [] h = refl
    moved-changes (c ∷ cs) h =
        let same = text-new g events ready a b others self children alone balanced torn c h.0 in
        (λ j. chain_changes (divided half (to c) (read_b (sym same j))) ++ moved-changes cs h.1 j)

    seconds-are : seconds (turns starts) ≡ child_changes (Some b) half rest
    seconds-are =
        let qs = fitting_starts (Some b) half in
        let read : ℕ → List Event = λ q. read_b (text_from g half q) in
        seconds-turns starts all-chains ∙ ap (flat_map there) (sym (starts-of b)) ∙ moved-changes (fitting_starts (Some b) events) (starts-others g events ready a b others self children alone balanced torn)
        ∙ ap (flat_map (λ q. chain_changes (divided half q (read q)))) (sym (starts-new g events ready a b others self children alone balanced torn)) ∙ sym (children-of half read qs)

    bare : AreBareFrom events (all_of (turns starts)) 0
    bare m e l at removed =
        let long : length starts ≡ length (map read_at starts) = sym (length-map starts read_at) in
        let gone : is_removed whole m ≡ false = ap (λ ws. is_removed ws m) (sym whole-is) ∙ removed in
        by_option e.link (λ n. n)
        (λ link is.
        let fit : fits None events m ≡ true = ap (λ (o : Option Event). some_fits None (option_and_then content_of o)) at ∙ ap (λ (o : Option Link). some_fits None (option_map (λ (l : Link). l.content) o)) is in
        let no : false ≡ true = sym gone ∙ removed-fits g.tab g.bytes None events ready (map read_at starts) long m fit in
        absurd (cc))

    pub all-at-once : with_children None events (map read_at starts) ≡ with_children (Some b) half rest
    all-at-once =
        let ts : List Tagged = woven (child_changes (Some a) events children) 0 events in
        let apart_a : AreApart 0 (child_changes (Some a) events children) (0 + length events) = rw zero-add (changes_are_apart g.tab g.bytes (Some a) events children ready_a).apart in
        let apart : AreApart 0 whole (0 + length events) = rw zero-add (changes_are_apart g.tab g.bytes None events (map read_at starts) ready).apart in
        let is : ts ≡ pass (firsts (turns starts)) 0 events = woven-pass (child_changes (Some a) events children) 0 events apart_a ∙ ap (λ ws. pass ws 0 events) (sym firsts-are) in
        let l : List Tagged = pass (firsts (turns starts)) 0 events in
        let r = goes events ts (all-once g.tab g.bytes (Some a) events ready_a children) to (moved-is g events ready a b others self children alone balanced torn) (turns starts) events 0 0
        (are-turns starts all-chains) refl is (subst (λ ws. AreApart 0 ws (0 + length events)) (sym whole-is) apart) bare in
        let same : placed_in ts l ≡ half = ap (placed_in ts) (sym is) in
        let us : List Tagged = woven (child_changes (Some b) half rest) 0 half in
        let long : 0 + length l ≡ 0 + length half = ap (λ k. 0 + k) (sym (length-map l _) ∙ ap length same) in
        let apart_b : AreApart 0 (child_changes (Some b) half rest) (0 + length half) = subst (λ ws. AreApart 0 ws (0 + length half)) seconds-are (subst (AreApart 0 (seconds (turns starts))) long r.0) in
        let us_is : us ≡ pass (child_changes (Some b) half rest) 0 half = woven-pass (child_changes (Some b) half rest) 0 half apart_b in
        let vs : List Tagged = woven whole 0 events in
        let vs_is : vs ≡ pass whole 0 events = woven-pass whole 0 events apart in
        let both : untagged us ≡ untagged vs =
        ap untagged us_is ∙ ap (λ ws. untagged (pass ws 0 half)) (sym seconds-are) ∙ ap (λ es. untagged (pass (seconds (turns starts)) 0 es)) (sym same) ∙ r.1
        ∙ ap (λ ws. untagged (pass ws 0 events)) whole-is ∙ sym (ap untagged vs_is) in
        let all_bare : AllByRecursion IsBare (untagged vs) = subst (AllByRecursion IsBare) (ap (λ ws. untagged (pass ws 0 events)) whole-is ∙ sym (ap untagged vs_is)) r.2 in
        bare-placed vs vs all_bare ∙ sym both ∙ sym (bare-placed us us (subst (AllByRecursion IsBare) (sym both) all_bare))
