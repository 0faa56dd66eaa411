-- Resolvers go over the events.
use Rattle.markdown_tokenizer.proofs.Prelude.{◌≡◌, ℕ, ◌+◌, ◌<◌, List, [], ◌∷◌, Bool, true, false, Option, length, refl, sym, ap, ◌∙◌, subst, drop, get_or, reverse, Vec, IsEquivalence, AllByRecursion, list_any, or_parts, Event, Message, none-mapped, Subresult, Inside, Phase, Reading, Resolving, Given, Text, IsText, Configuration, TokenizerValue, at_configuration, Sight, sight_of, Rules, with_resolvers, Resolved, resolving, taken, found, refused, with_more, resolved_by, ResolversKeep, resolved_in, Edit, tab_of, seen, text_within, choice_of, position_from, IsProgress, IsSound, drop_all, ◌≤◌, drop_more}
use Rattle.std.specs.List.{IsDistinct}
use Rattle.markdown_tokenizer.specs.Resolving.{done}
use Rattle.markdown_tokenizer.proofs.Inside.Fields.{placed-there, nested-map}

-- none is there twice where none is
pub none-twice : {R : Type 0} (same : R → R → Bool) → IsDistinct same []
unfolding IsDistinct
none-twice same = tt

module _ {R : Type 0} (same : R → R → Bool) (laws : IsEquivalence same) where
  -- a resolver that equals none of a list is not in it
  pub turned : (r : R) (rs : List R) → list_any (λ q. same q r) rs ≡ list_any (same r) rs
  turned r [] = refl
  turned r (q ∷ rs) = let e = laws.symm q r in let f = turned r rs in rw (e, f) refl

  pub none-equal : (r : R) (rs : List R) → list_any (same r) rs ≡ false → AllByRecursion (λ q. same r q ≡ false) rs
  none-equal r [] h = tt
  none-equal r (q ∷ rs) h = let parts = or_parts (same r q) (list_any (same r) rs) h in (parts.0, none-equal r rs parts.1)

-- another phase than reading begins
pub phase-sound : {M R D : Type 0} {same : R → R → Bool} (t : Inside M R D) → IsSound same t → (phase : Phase) (resolvers : Vec R) → IsDistinct same resolvers.items → (phase ≡ Reading → ⊥) → t.closed ≡ true
    → IsSound same (record t { phase = phase; resolvers = resolvers })
phase-sound t sound phase resolvers once other closed =
    let bytes = t.parse_state.now.bytes.now in record {
      placed = placed-there sound.placed sound.placed.read sound.placed.waiting sound.placed.ended (λ e. absurd (let f : true ≡ false = sym closed ∙ e in cc));
      made = λ e. absurd (other e);
      at_places = λ e. absurd (other e);
      kept_choices = nested-map (IsProgress t.phase (tab_of t.parse_state.now) bytes t.skips (text_within t) t.events.items t.stack.items t.closed) (IsProgress phase (tab_of t.parse_state.now) bytes t.skips (text_within t) t.events.items t.stack.items t.closed)
          (length t.events.items) (length t.stack.items) (reverse t.kept_choices.items) (λ p a b h. record { read = h.read; ended = h.ended; made = λ e. absurd (other e) }) sound.kept_choices;
      once = once;
      known = sound.known;
    }

-- while resolvers go over the events, and no choice waits, the events and the edits may be any
pub events-sound : {M R D : Type 0} {same : R → R → Bool} (t : Inside M R D) → IsSound same t → t.phase ≡ Resolving → (seen t).choices ≡ [] → (edits : List Edit) (events : Vec Event)
    → IsSound same (record t { map = edits; events = events })
events-sound t sound resolves alone edits events =
    let none = none-mapped (choice_of (position_from (tab_of t.parse_state.now) t.parse_state.now.bytes.now t.skips t.start) t.stack.items) (reverse t.kept_choices.items) alone in record {
      placed = sound.placed;
      made = λ e. absurd (let f : Resolving ≡ Reading = sym resolves ∙ e in cc);
      at_places = λ e. absurd (let f : Resolving ≡ Reading = sym resolves ∙ e in cc);
      kept_choices = rw none tt;
      once = sound.once;
      known = sound.known;
    }

module _ {R D : Type 0} (resolver : Sight → Configuration R D → R → Resolved R D) (g : Given) (text : Text) where
  -- what comes after a resolver
  abbrev after : List R → Subresult → Resolved R D → Resolved R D
  after rs sub (done new more) = resolved_by resolver g text rs new (with_more sub more)
  after rs sub (refused message) = refused message

module _ {M R D : Type 0} (rules : M → Given → Rules R D) where
  abbrev rules_of : TokenizerValue M R D → Rules R D
  rules_of t = rules t.machine t.given

  -- after some resolvers, the others lead on to the same
  pub record ResolvesOn (start : TokenizerValue M R D) (names after_previous : List R) (sub : Subresult) (now : TokenizerValue M R D) (found : Subresult) : Type 0 where
    pub same : now ≡ at_configuration start now.configuration
    pub holds : (rules_of start).resolves start.text after_previous now.configuration
    pub leads : resolved_in (rules_of start) start names start.configuration sub ≡ resolved_in (rules_of start) start after_previous now.configuration found

  module _ {start : TokenizerValue M R D} {names : List R} {sub : Subresult} {now : TokenizerValue M R D} {found : Subresult} where
    -- the first of those that are left
    pub resolves-one : (n : ℕ) (x : R) → n < length names → x ≡ get_or names n x → ResolvesOn start names (drop n names) sub now found → ResolvesOn start names (x ∷ drop (n + 1) names) sub now found
    resolves-one n x h e r = subst (λ (rest : List R). ResolvesOn start names rest sub now found) (drop_more names n x h ∙ ap (λ (y : R). y ∷ drop (n + 1) names) (sym e)) r

    -- none is left
    pub resolves-last : (n : ℕ) → length names ≤ n → ResolvesOn start names (drop n names) sub now found → ResolvesOn start names [] sub now found
    resolves-last n h r = subst (λ (rest : List R). ResolvesOn start names rest sub now found) (drop_all n names h) r

    module _ {x : R} {rest : List R} (r : ResolvesOn start names (x ∷ rest) sub now found) where
      pub resolves-next : IsText start.given start.text → ResolversKeep start.given (rules_of start) → (new : TokenizerValue M R D) (all : Subresult) → new ≡ at_configuration now new.configuration → (more : Option Subresult)
          → (rules_of now).resolver (sight_of now) now.configuration x ≡ done new.configuration more → all ≡ with_more found more
          → ResolvesOn start names rest sub new all
      resolves-next is law new all same more e w =
          let now_is = r.same in let e' = rw now_is at e in record {
            same = same ∙ ap (λ (s : TokenizerValue M R D). at_configuration s new.configuration) r.same;
            holds = (law.by_resolvers start.text x rest now.configuration new.configuration more is r.holds e').0;
            leads = r.leads ∙ ap (after (rules_of start).resolver start.given start.text rest found) e'
                ∙ ap (λ (s : Subresult). resolved_in (rules_of start) start rest new.configuration s) (sym w);
          }

      pub resolves-refused : (m : Message) → (rules_of now).resolver (sight_of now) now.configuration x ≡ refused m → resolved_in (rules_of start) start names start.configuration sub ≡ refused m
      resolves-refused m e = let now_is = r.same in r.leads ∙ ap (after (rules_of start).resolver start.given start.text rest found) (rw now_is at e)

  -- what the work left keeps machine, document and text, so it has the same promise
  pub promised-is : (old u w : TokenizerValue M R D) (k : Configuration R D) (events : List Event) → u.given ≡ old.given → u.machine ≡ old.machine → u.text ≡ old.text
      → w ≡ at_configuration u k → (rules_of w).ends w.text events → (rules_of old).ends old.text events
  promised-is old u w k events given machine text rest h = rw (rest, machine, given, text) at h

  -- what resolvers make of what the work left, once the definitions were taken out
  pub resolving-is : (old u w : TokenizerValue M R D) (sub : Subresult) (a : Resolved R D) → u.given ≡ old.given → u.machine ≡ old.machine → u.text ≡ old.text
      → w ≡ at_configuration u (taken u.configuration) → sub ≡ found u.configuration
      → resolved_in (rules_of w) w w.configuration.local.resolvers (with_resolvers w.configuration []) sub ≡ a
      → resolving (rules_of old).resolver old.given old.text u.configuration ≡ a
  resolving-is old u w sub a given machine text rest answer h = rw (rest, answer, machine, given, text) at h
