-- The table of the machine passes the test, and its resolvers keep what the ones that are left need, so that the machine is lawful.
use Rattle.std.proofs.Common.{◌≡◌, ◌==◌, ℕ, zero, suc, ◌+◌, ◌<◌, List, [], ◌∷◌, ◌++◌, Bool, true, false, cond, Option, Some, None, length, refl, sym, ap, ◌∙◌, subst, arith}
use Rattle.std.specs.Prelude.{◌&&◌, ◌||◌, nat_lt, nat_le, All}
use Rattle.std.proofs.lemmas.Bool.Decides.{nat_tests}
use Rattle.std.proofs.lemmas.List.Elements.{All-nil, All-cons}
use Rattle.markdown_base.specs.declared.event.Event.{Event}
use Rattle.markdown_base.specs.declared.event.Point.{Point}
use Rattle.markdown_base.specs.declared.state.Name.{Name}
use Rattle.markdown_base.specs.declared.state.TheConstants.Name.{TextStart}
use Rattle.markdown_base.specs.declared.state.State.TheVariants.{Next}
use Rattle.markdown_base.specs.Events.{empty, span, EndsBelow}
use Rattle.markdown_tokenizer.specs.declared.subtokenize.Subresult.{Subresult}
use Rattle.markdown_tokenizer.specs.Text.{Given, Text}
use Rattle.markdown_tokenizer.specs.Configuration.{Configuration, start_configuration}
use Rattle.markdown_tokenizer.specs.Sight.{Sight, sight}
use Rattle.markdown_tokenizer.specs.Calls.{with_resolvers, registered, registered_before}
use Rattle.markdown_edits.specs.Edits.{Edit, edit_at, added_after, AreDisjoint}
use Rattle.markdown_edits.specs.Edited.{as_addition, as_change, edited}
use Rattle.markdown_edits.specs.Woven.{Tagged, Change, of_list, as_listed, events_at, is_removed, placed_end, placed_in, woven}
use Rattle.markdown_tokenizer.specs.Resolving.{done, refused, taken, IsInShape}
use Rattle.markdown_tokenizer.specs.Lawful.{ResolversKeep, IsAsFar, IsLawful}
use Rattle.markdown_tokenizer.specs.Plain.{HaveNoLinks}
use Rattle.markdown_tokenizer.proofs.Readings.Plain.{no-links-more, no-links-below, no-links-shape, unlinked-same}
use Rattle.markdown_tokenizer.proofs.Readings.Renames.{renamed-balanced, renamed-unlinked}
use Rattle.markdown_edits.proofs.Edits.Puts.{put-same, put-more}
use Rattle.mdconstructs_tables.specs.Misfits.{misfits}
use Rattle.mdconstructs_tables.specs.Fitting.{IsFit, every}
use Rattle.mdconstructs_tables.specs.Plans.{KeepsKnowledge, KeepsKnown, Plan}
use Rattle.mdconstructs_tables.specs.RowTest.{never}
use Rattle.mdconstructs_tables.proofs.Tables.Plans.{formed-lawful}
use Rattle.mdconstructs_tables.proofs.Tables.Prices.{all-fall, every-late}
use Rattle.mdconstructs_machines.specs.declared.wrap.Resolver.{Resolver}
use Rattle.mdconstructs_machines.specs.declared.wrap.Resolver.TheVariants.{A, B, C}
use Rattle.mdconstructs_tables.specs.Tables.{LineByte, line_ending, other}
use Rattle.mdconstructs_tables.specs.DataRows.{data_start, data_inside}
use Rattle.mdconstructs_machines.specs.Messages.{refusal}
use Rattle.mdconstructs_machines.specs.Wrap.{same_resolver, text_start, wrap, code_name, first_place, begin_event, end_event, one_definition, IsFlat, begins_paragraph, ends_paragraph, wrap_resolver, wrap_resolves, IsUnwrapped, IsOneParagraph, wrap_rules}

fits : (previous current : Option LineByte) → misfits wrap previous current ≡ []
fits previous None = refl
fits previous (Some line_ending) = refl
fits previous (Some other) = refl

pub wrap-fit : IsFit wrap
wrap-fit = record { fits = fits; paid = tt; falls = tt; kept = λ local. refl }

-- what the machine is, as a plan: its invariant is that of its rules, said in another form
abbrev plan : Bool → Plan LineByte Resolver Unit
plan refuse = record {
  table = wrap;
  early = never;
  falling = every;
  knows = λ g text k choices state. IsUnwrapped k choices state;
  resolver = λ g. wrap_resolver refuse;
  resolves = λ g. wrap_resolves;
  ends = λ g. IsOneParagraph;
}

module _ (refuse : Bool) where
  keeps-first : KeepsKnown (plan refuse) text_start
  keeps-first g text k choices b w is before here h =
      (h.known.0, (ap (λ rs. registered_before same_resolver A (registered_before same_resolver B (registered same_resolver A rs))) h.known.1.0, h.known.1.1, h.known.1.2))

  keeps-data-start : KeepsKnown (plan refuse) data_start
  keeps-data-start g text k choices b None is before here h = h.known
  keeps-data-start g text k choices b (Some line_ending) is before here h = (h.known.0, (h.known.1.0, h.known.1.1, no-links-more _ _ refl (no-links-more k.events _ refl h.known.1.2)))
  keeps-data-start g text k choices b (Some other) is before here h = (h.known.0, (h.known.1.0, h.known.1.1, no-links-more k.events _ refl h.known.1.2))

  keeps-data : KeepsKnown (plan refuse) data_inside
  keeps-data g text k choices b None is before here h = (h.known.0, (h.known.1.0, h.known.1.1, no-links-more k.events _ refl h.known.1.2))
  keeps-data g text k choices b (Some line_ending) is before here h = (h.known.0, (h.known.1.0, h.known.1.1, no-links-more k.events _ refl h.known.1.2))
  keeps-data g text k choices b (Some other) is before here h = h.known

  kept : KeepsKnowledge (plan refuse)
  kept = record {
    at_starts = λ g p flag is.
        let Known = λ (name : Name). IsUnwrapped (start_configuration flag) [] (Next name) in All-cons Known TextStart [] (refl, (refl, refl, tt)) (All-nil Known);
    by_byte = λ g text k choices name is within h. h.known;
    by_end = λ g text k choices name is behind h. h.known;
    by_rows = (keeps-first, (keeps-data-start, (keeps-data, tt)));
    by_ok = λ g text k choice choices is h. absurd (let e : choice ∷ choices ≡ [] = h.known.0 in cc);
    by_nok = λ g text k choice choices is h. absurd (let e : choice ∷ choices ≡ [] = h.known.0 in cc);
    by_pieces = λ g text piece k choices state is fits fresh h. h.known;
  }

-- the two edits, in order of their indices
abbrev both-edits : Point → Point → ℕ → List Edit
both-edits p q zero = edit_at 0 0 (begin_event p ∷ end_event q ∷ []) ∷ []
both-edits p q (suc n) = edit_at 0 0 (begin_event p ∷ []) ∷ edit_at (suc n) 0 (end_event q ∷ []) ∷ []

both-are : (p q : Point) (n : ℕ) → added_after (edit_at 0 0 (begin_event p ∷ []) ∷ []) (edit_at n 0 (end_event q ∷ [])) ≡ both-edits p q n
both-are p q zero = put-same (λ there more. there ++ more) (edit_at 0 0 (begin_event p ∷ [])) (edit_at 0 0 (end_event q ∷ [])) [] refl
both-are p q (suc n) = put-more (λ there more. there ++ more) (edit_at 0 0 (begin_event p ∷ [])) (edit_at (suc n) 0 (end_event q ∷ [])) [] (omega arith)

both-apart : (p q : Point) (n : ℕ) → AreDisjoint 0 (both-edits p q n) n
both-apart p q zero = (omega arith, omega arith)
both-apart p q (suc n) = (omega arith, (omega arith, omega arith))

-- the list after them has the paragraph's enter first, and its exit last
abbrev two : Point → Point → ℕ → List Change
two p q n = as_change (edit_at 0 0 (begin_event p ∷ [])) ∷ as_change (edit_at n 0 (end_event q ∷ [])) ∷ []

one-of : (a b : Bool) (us vs : List Tagged) (x y : Bool) → a ≡ x → b ≡ y → (cond a us [] ++ (cond b vs [] ++ [])) ≡ cond x us [] ++ (cond y vs [] ++ [])
one-of a b us vs x y e f = rw (e, f) refl

neither : (a b c d : Bool) → b ≡ false → c ≡ false → ((a && b) || ((c && d) || false)) ≡ false
neither true b c d e f = rw (e, f) refl
neither false b c d e f = rw f refl

at-first : (p q : Point) (n : ℕ) → events_at (two p q (suc n)) 0 ≡ as_addition (begin_event p) ∷ []
at-first p q n = one-of (0 == 0) (suc n == 0) (as_addition (begin_event p) ∷ []) (as_addition (end_event q) ∷ []) true false refl (grind (arith, nat_tests))

at-between : (p q : Point) (n i : ℕ) → 0 < i → i < n → events_at (two p q n) i ≡ []
at-between p q n i pos lt = one-of (0 == i) (n == i) (as_addition (begin_event p) ∷ []) (as_addition (end_event q) ∷ []) false false (grind (arith, nat_tests)) (grind (arith, nat_tests))

at-last : (p q : Point) (n i : ℕ) → 0 < i → i ≡ n → events_at (two p q n) i ≡ as_addition (end_event q) ∷ []
at-last p q n i pos is = one-of (0 == i) (n == i) (as_addition (begin_event p) ∷ []) (as_addition (end_event q) ∷ []) false true (grind (arith, nat_tests)) (grind (arith, nat_tests))

stays : (p q : Point) (n i : ℕ) → i < n → is_removed (two p q n) i ≡ false
stays p q n i lt = neither (nat_le 0 i) (nat_lt i (0 + 0)) (nat_le n i) (nat_lt i (n + 0)) (grind (arith, nat_tests)) (grind (arith, nat_tests))

woven-one : (p q : Point) (n i : ℕ) (x : Event) (xs : List Event) (here : List Tagged) → i < n → events_at (two p q n) i ≡ here
    → woven (two p q n) i (x ∷ xs) ≡ here ++ as_listed i x ∷ woven (two p q n) (i + 1) xs
woven-one p q n i x xs here lt is =
    ap (λ us. us ++ (cond (is_removed (two p q n) i) [] (as_listed i x ∷ []) ++ woven (two p q n) (i + 1) xs)) is
    ∙ ap (λ b. here ++ (cond b [] (as_listed i x ∷ []) ++ woven (two p q n) (i + 1) xs)) (stays p q n i lt)

tail-is : (p q : Point) (ts : List Tagged) (n i : ℕ) (xs : List Event) → 0 < i → i + length xs ≡ n → HaveNoLinks xs → placed_in ts (woven (two p q n) i xs) ≡ xs ++ end_event q ∷ []
tail-is p q ts n i [] pos sum h = ap (placed_in ts) (at-last p q n i pos (omega (arith, sum)))
tail-is p q ts n i (x ∷ xs) pos sum h =
    let lt : i < n = omega (arith, sum) in
    ap (placed_in ts) (woven-one p q n i x xs [] lt (at-between p q n i pos lt))
    ∙ ap (λ e. e ∷ placed_in ts (woven (two p q n) (i + 1) xs)) (unlinked-same (placed_end ts (of_list i)) x h.0)
    ∙ ap (λ es. x ∷ es) (tail-is p q ts n (i + 1) xs (omega arith) (omega (arith, sum)) h.1)

wrapped : (p q : Point) (xs : List Event) → HaveNoLinks xs → edited (both-edits p q (length xs)) xs ≡ begin_event p ∷ (xs ++ end_event q ∷ [])
wrapped p q [] h = refl
wrapped p q (x ∷ xs) h =
    let n = suc (length xs) in
    let ts = woven (two p q n) 0 (x ∷ xs) in
    ap (placed_in ts) (woven-one p q n 0 x xs (as_addition (begin_event p) ∷ []) (omega arith) (at-first p q (length xs)))
    ∙ ap (λ e. begin_event p ∷ e ∷ placed_in ts (woven (two p q n) 1 xs)) (unlinked-same (placed_end ts (of_list 0)) x h.0)
    ∙ ap (λ es. begin_event p ∷ x ∷ es) (tail-is p q ts n 1 xs (omega arith) (omega arith) h.1)

-- with both edits the list is in shape
wrapped-well : (p q : Point) (xs : List Event) (map_is : List Edit) → map_is ≡ both-edits p q (length xs) → IsFlat xs
    → (AreDisjoint 0 map_is (length xs) × All (EndsBelow (length xs)) xs) × IsInShape (edited map_is xs)
wrapped-well p q xs map_is is flat =
    let list = begin_event p ∷ (xs ++ end_event q ∷ []) in
    let shape = no-links-shape list (refl, no-links-more xs (end_event q) refl flat.0) (span (begin_event p) (end_event q) xs [] refl refl refl refl flat.1 empty) in
    subst (λ m. (AreDisjoint 0 m (length xs) × All (EndsBelow (length xs)) xs) × IsInShape (edited m xs)) (sym is)
    ((both-apart p q (length xs), no-links-below (length xs) xs flat.0), subst IsInShape (sym (wrapped p q xs flat.0)) shape)

-- what a resolver leaves
abbrev IsPassed : Text → List Resolver → (k new : Configuration Resolver Unit) → Type 0
IsPassed text rs k new = wrap_resolves text rs new × IsAsFar new k × (new.stack ≡ k.stack)

begun : (s : Sight) (text : Text) (k new : Configuration Resolver Unit) (more : Option Subresult) → wrap_resolves text (B ∷ A ∷ []) k → done (begins_paragraph s k) None ≡ done new more
    → IsPassed text (A ∷ []) k new
begun s text k new more h e =
    let same : begins_paragraph s k ≡ new = cc in
    let p = first_place s.point k.events in
    let edits = ap (λ m. added_after m (edit_at 0 0 (begin_event p ∷ []))) h.0 in
    subst (IsPassed text (A ∷ []) k) same ((p, edits, (renamed-unlinked code_name k.events h.1.0, renamed-balanced code_name k.events h.1.1)), (refl, refl, refl), refl)

ended : (refuse : Bool) (s : Sight) (text : Text) (k new : Configuration Resolver Unit) (more : Option Subresult) → wrap_resolves text (A ∷ []) k
    → cond refuse (refused refusal) (done (ends_paragraph s k) (Some one_definition)) ≡ done new more → IsPassed text [] k new
ended true s text k new more h e = absurd (cc)
ended false s text k new more h e =
    let same : ends_paragraph s k ≡ new = cc in
    let edits = ap (λ m. added_after m (edit_at (length k.events) 0 (end_event s.point ∷ []))) h.1 in
    subst (IsPassed text [] k) same ((h.0, s.point, edits, h.2), (refl, refl, refl), refl)

passed-by : (refuse : Bool) (s : Sight) (text : Text) (r : Resolver) (rs : List Resolver) (k new : Configuration Resolver Unit) (more : Option Subresult) → wrap_resolves text (r ∷ rs) k
    → wrap_resolver refuse s k r ≡ done new more → IsPassed text rs k new
passed-by refuse s text A [] k new more h e = ended refuse s text k new more h e
passed-by refuse s text A (r ∷ rs) k new more h e = absurd h
passed-by refuse s text B [] k new more h e = absurd h
passed-by refuse s text B (A ∷ []) k new more h e = begun s text k new more h e
passed-by refuse s text B (A ∷ r ∷ rs) k new more h e = absurd h
passed-by refuse s text B (B ∷ rs) k new more h e = absurd h
passed-by refuse s text B (C ∷ rs) k new more h e = absurd h
passed-by refuse s text C rs k new more h e = absurd h

resolvers_keep : (refuse : Bool) (g : Given) → ResolversKeep g (wrap_rules refuse g)
resolvers_keep refuse g = record {
  at_end = λ text k is formed h.
      let set = h.0.1 in
      subst (λ rs. wrap_resolves text rs (with_resolvers (taken k) [])) (sym set.0) (set.1, (set.2, formed.balanced));
  by_resolvers = λ text r rs k new more is h e. passed-by refuse (sight g text k) text r rs k new more h e;
  at_last = λ text k is h.
      let edits = h.2 ∙ both-are h.0 h.1 (length k.events) in
      let well = wrapped-well h.0 h.1 k.events k.local.map edits h.3 in
      (well.0, well.1, (h.0, h.1, k.events, ap (λ m. edited m k.events) edits ∙ wrapped h.0 h.1 k.events h.3.0));
}

pub wrap-lawful : (refuse : Bool) (g : Given) → IsLawful g (wrap_rules refuse g)
wrap-lawful refuse g =
    formed-lawful (plan refuse) g wrap-fit (every-late wrap g wrap-fit) (wrap_rules refuse g).holds (λ text k choices state h. record { holds = h.1; falls = all-fall choices; known = h.0 })
    (λ text k choices state h. (h.known, h.holds)) (kept refuse) (resolvers_keep refuse g)
