-- What is in definitions among events is cut into these, one behind another; so it is where strings are read.
use Rattle.mddocument_rules.proofs.Prelude.{◌≡◌, ◌∙◌, ℕ, zero, suc, Bool, true, false, cond, not, List, [], ◌∷◌, ◌++◌, append_assoc, ap, arith, length, map, refl, subst, sym, AllByRecursion, and_parts, false_from_ne_true, false≢true, every-append, ◌&&◌, IsBalanced, Constructs, Event, Enter, Exit, Kind, Name, is_enter, same_name, same_name-true}
use Rattle.std.proofs.lemmas.List.{length-append}
use Rattle.std.proofs.lemmas.Bool.{cond_both}
use Rattle.std.specs.Prelude.{◌≤◌}
use Rattle.markdown_base.specs.declared.event.Name.TheVariants as name
use Rattle.mdinline_link_strings.proofs.Kept.{strings_keep}
use Rattle.mdinline_link_strings.specs.Strings.{in_string_after, is_data, line_as_string, seats_between}
use Rattle.mddocument_laws.proofs.Chosen.{AreOther}
use Rattle.mddocument_link_targets.proofs.SpanEnds.{spans-end}
use Rattle.mddocument_link_targets.specs.Spans.{enters, inside}
use Rattle.mddocument_rules.proofs.Held.{held, held_one}
use Rattle.mddocument_rules.proofs.HeldStrings.{AreCalm, calm-inside, first-stays, is_quiet, quiet-calm, quiet-more, read}
use Rattle.mddocument_rules.proofs.HeldTexts.{is_definition, string-other}
use Rattle.mddocument_rules.specs.ReferenceLaws.{definitions_in}

-- Events begin with a definition, in which these are
pub record OneSpan (zs us : List Event) : Type 0 where
  pub first : Event
  pub last : Event
  pub more : List Event
  pub are : zs ≡ first ∷ (us ++ last ∷ more)
  pub enters : first.kind ≡ Enter
  pub named : is_definition first.name ≡ true
  pub exits : last.kind ≡ Exit
  pub ends : is_definition last.name ≡ true
  pub other : AreOther is_definition us
  pub balanced : IsBalanced us

-- They are definitions, in which these are
abbrev pub Spans : List Event → List (List Event) → Type 0
Spans zs [] = zs ≡ []
Spans zs (us ∷ uss) = (s : OneSpan zs us) × Spans s.more uss

pub spans-both : (es zs : List Event) (uss vss : List (List Event)) → Spans es uss → Spans zs vss → Spans (es ++ zs) (uss ++ vss)
spans-both es zs [] vss h k = subst (λ (l : List Event). Spans (l ++ zs) vss) (sym h) k
spans-both es zs (us ∷ uss) vss h k =
    let s = h.0 in (
      record {
        first = s.first;
        last = s.last;
        more = s.more ++ zs;
        are = ap (λ l. l ++ zs) s.are ∙ ap (λ l. s.first ∷ l) (append_assoc us (s.last ∷ s.more) zs);
        enters = s.enters;
        named = s.named;
        exits = s.exits;
        ends = s.ends;
        other = s.other;
        balanced = s.balanced;
      },
      spans-both s.more zs uss vss h.1 k,
    )

pub no-data : (n : Name) → is_definition n ≡ true → same_name n name.Data ≡ false
no-data n d = ap (λ m. same_name m name.Data) (same_name-true n name.Definition d)

-- ---- where strings are read
module _ (on : Constructs) (t : ℕ) (bytes : List ℕ) where
  abbrev line : Event → Event → List Event
  line e f = line_as_string on t bytes e.point f.point

  -- before an event that is no data
  pub read-both : (state : Bool) (xs : List Event) (y : Event) (ys : List Event) → same_name y.name name.Data ≡ false → (s : Bool) × (read on t bytes state (xs ++ y ∷ ys) ≡ read on t bytes state xs ++ read on t bytes s (y ∷ ys))
  read-both state [] y ys h = (state, refl)
  read-both state (x ∷ []) y ys h =
      let no : (state && is_data x y) ≡ false = false_from_ne_true (state && is_data x y) (λ d.
      let found = (and_parts state (is_data x y) d).1 in
      let second = (and_parts (is_enter x.kind && same_name x.name name.Data) (not (is_enter y.kind) && same_name y.name name.Data) found).1 in
      false≢true (sym h ∙ (and_parts (not (is_enter y.kind)) (same_name y.name name.Data) second).1)) in
      (in_string_after state x, ap (λ b. cond b (line x y ++ read on t bytes state ys) (x ∷ read on t bytes (in_string_after state x) (y ∷ ys))) no)
  read-both state (x ∷ f ∷ xs) y ys h = by (state && is_data x f) (read-both state xs y ys h) (read-both (in_string_after state x) (f ∷ xs) y ys h)
    where
      by : (b : Bool) → ((s : Bool) × (read on t bytes state (xs ++ y ∷ ys) ≡ read on t bytes state xs ++ read on t bytes s (y ∷ ys)))
          → ((s : Bool) × (read on t bytes (in_string_after state x) (f ∷ (xs ++ y ∷ ys)) ≡ read on t bytes (in_string_after state x) (f ∷ xs) ++ read on t bytes s (y ∷ ys)))
          → (s : Bool) × (cond b (line x f ++ read on t bytes state (xs ++ y ∷ ys)) (x ∷ read on t bytes (in_string_after state x) (f ∷ (xs ++ y ∷ ys))) ≡ cond b (line x f ++ read on t bytes state xs) (x ∷ read on t bytes (in_string_after state x) (f ∷ xs)) ++ read on t bytes s (y ∷ ys))
      by true more other = (more.0, ap (λ l. line x f ++ l) more.1 ∙ sym (append_assoc (line x f) (read on t bytes state xs) (read on t bytes more.0 (y ∷ ys))))
      by false more other = (other.0, ap (λ l. x ∷ l) other.1)

  read-other : (state : Bool) (es : List Event) → AreOther is_definition es → AreOther is_definition (read on t bytes state es)
  read-other state [] h = tt
  read-other state (e ∷ []) h = h
  read-other state (e ∷ f ∷ es) h =
      cond_both (state && is_data e f) (line e f ++ read on t bytes state es) (e ∷ read on t bytes (in_string_after state e) (f ∷ es)) (AreOther is_definition)
      (λ x. every-append (λ (a : Event). is_definition a.name ≡ false) (line e f) (read on t bytes state es) (string-other on bytes (seats_between t bytes e.point f.point)) (read-other state es h.1.1))
      (λ x. (h.0, read-other (in_string_after state e) (f ∷ es) h.1))

  -- Definitions are read each alone
  pub spans-read : (state : Bool) (zs : List Event) (uss : List (List Event)) → Spans zs uss → AllByRecursion (λ (us : List Event). is_quiet us ≡ true) uss → Spans (read on t bytes state zs) (map (λ (us : List Event). read on t bytes false us) uss)
  spans-read state zs [] h q = ap (read on t bytes state) h
  spans-read state zs (us ∷ uss) h q =
      let s = h.0 in
      let tail = s.last ∷ s.more in
      let two = read-both false us s.last s.more (no-data s.last.name s.ends) in
      let last = in_string_after two.0 s.last in (
        record {
          first = s.first;
          last = s.last;
          more = read on t bytes last s.more;
          are = ap (read on t bytes state) s.are
              ∙ first-stays on t bytes state s.first (us ++ tail) (no-data s.first.name s.named)
              ∙ ap (λ l. s.first ∷ l)
              (quiet-calm on t bytes (us ++ tail) (quiet-more us tail q.0) (in_string_after state s.first) false
              ∙ two.1
              ∙ ap (λ l. read on t bytes false us ++ l) (first-stays on t bytes two.0 s.last s.more (no-data s.last.name s.ends)));
          enters = s.enters;
          named = s.named;
          exits = s.exits;
          ends = s.ends;
          other = read-other false us s.other;
          balanced = (strings_keep on t bytes us).0 s.balanced;
        },
        spans-read last s.more uss h.1 q.1,
      )

  -- and in each a string is entered before any data
  pub spans-calm : (zs : List Event) (uss : List (List Event)) → Spans zs uss → AllByRecursion (λ (us : List Event). is_quiet us ≡ true) uss → AreCalm on t bytes is_definition false zs
  spans-calm zs [] h q = subst (AreCalm on t bytes is_definition false) (sym h) tt
  spans-calm zs (us ∷ uss) h q =
      let s = h.0 in
      let tail = s.last ∷ s.more in
      subst (AreCalm on t bytes is_definition false) (sym s.are)
      (quiet-calm on t bytes (us ++ tail) (quiet-more us tail q.0), calm-inside on t bytes is_definition us s.last s.more s.other s.ends (spans-calm s.more uss h.1 q.1))

-- ---- definitions among events
-- other events in front
definitions-behind : (xs ys : List Event) → AreOther is_definition xs → definitions_in (xs ++ ys) ≡ definitions_in ys
definitions-behind [] ys h = refl
definitions-behind (x ∷ xs) ys h = none-begins x (xs ++ ys) h.0 ∙ definitions-behind xs ys h.1
  where
    none-begins : (e : Event) (es : List Event) → is_definition e.name ≡ false → definitions_in (e ∷ es) ≡ definitions_in es
    none-begins e es o = by (enters name.Definition e) (false_from_ne_true (enters name.Definition e) (λ k. false≢true (sym o ∙ (and_parts (is_enter e.kind) (same_name e.name name.Definition) k).1)))
      where
        by : (b : Bool) → b ≡ false → cond b (inside es ∷ definitions_in es) (definitions_in es) ≡ definitions_in es
        by b n = ap (λ c. cond c (inside es ∷ definitions_in es) (definitions_in es)) n

-- what is in a definition, up to its end
record UpTo (es us : List Event) (last : Event) (more : List Event) : Type 0 where
  rest : List Event
  are : es ≡ us ++ last ∷ rest
  behind : held is_definition false rest ≡ more

heads : (x y : Event) (xs ys : List Event) → x ∷ xs ≡ y ∷ ys → (x ≡ y) × (xs ≡ ys)
heads x y xs ys e = (cc, cc)

up-to : (es us : List Event) (last : Event) (more : List Event) → AreOther is_definition us → is_definition last.name ≡ true → held is_definition true es ≡ us ++ last ∷ more → UpTo es us last more
up-to [] [] last more o d h = absurd (cc)
up-to [] (u ∷ us) last more o d h = absurd (cc)
up-to (e ∷ es) us last more o d h = cases (is_definition e.name) refl us o h (λ vs ov k. up-to es vs last more ov d k)
  where
    cases : (b : Bool) → is_definition e.name ≡ b → (ws : List Event) → AreOther is_definition ws → held_one b true e (λ i. held is_definition i es) ≡ ws ++ last ∷ more
        → ((ws : List Event) → AreOther is_definition ws → held is_definition true es ≡ ws ++ last ∷ more → UpTo es ws last more) → UpTo (e ∷ es) ws last more
    cases true i [] ow k rec = let same = heads e last (held is_definition false es) more k in record { rest = es; are = ap (λ x. x ∷ es) same.0; behind = same.1 }
    cases true i (w ∷ ws) ow k rec =
        let same = heads e w (held is_definition false es) (ws ++ last ∷ more) k in
        absurd (false≢true (sym ow.0 ∙ ap (λ (x : Event). is_definition x.name) (sym same.0) ∙ i))
    cases false i [] ow k rec = let same = heads e last (held is_definition true es) more k in absurd (false≢true (sym i ∙ ap (λ (x : Event). is_definition x.name) same.0 ∙ d))
    cases false i (w ∷ ws) ow k rec =
        let same = heads e w (held is_definition true es) (ws ++ last ∷ more) k in
        let there = rec ws ow.1 same.1 in
        record { rest = there.rest; are = (λ j. same.0 j ∷ there.are j); behind = there.behind }

-- so it is of so many events at most
abbrev AllIn : ℕ → Type 0
AllIn bound = (es : List Event) (uss : List (List Event)) (zs : List Event) → length es ≤ bound → held is_definition false es ≡ zs → Spans zs uss → definitions_in es ≡ uss

no-enter : (x : Event) (rest : List Event) → x.kind ≡ Exit → definitions_in (x ∷ rest) ≡ definitions_in rest
no-enter x rest exits = ap (λ (k : Kind). cond (is_enter k && same_name x.name name.Definition) (inside rest ∷ definitions_in rest) (definitions_in rest)) exits

first-in : (bound : ℕ) → AllIn bound → (e : Event) (es : List Event) (uss : List (List Event)) (zs : List Event) → length (e ∷ es) ≤ suc bound → is_definition e.name ≡ true → e ∷ held is_definition true es ≡ zs → Spans zs uss → definitions_in (e ∷ es) ≡ uss
first-in bound more e es [] zs few i h none = let no : e ∷ held is_definition true es ≡ [] = h ∙ none in absurd (cc)
first-in bound more e es (us ∷ uss) zs few i h s =
    let one = s.0 in
    let same = heads e one.first (held is_definition true es) (us ++ one.last ∷ one.more) (h ∙ one.are) in
    let enter : e.kind ≡ Enter = ap (λ (x : Event). x.kind) same.0 ∙ one.enters in
    let to = up-to es us one.last one.more one.other one.ends same.1 in
    let here : enters name.Definition e ≡ true = (λ j. is_enter (enter j) && i j) in
    let in_it : inside es ≡ us = ap inside to.are ∙ (spans-end us to.rest one.last one.balanced one.exits).0 in
    let size = ap (λ (l : List Event). length l) to.are ∙ length-append us (one.last ∷ to.rest) in
    let behind : definitions_in es ≡ uss =
    ap definitions_in to.are ∙ definitions-behind us (one.last ∷ to.rest) one.other ∙ no-enter one.last to.rest one.exits ∙ more to.rest uss one.more (omega (arith, few, size)) to.behind s.1 in
    ap (λ b. cond b (inside es ∷ definitions_in es) (definitions_in es)) here ∙ (λ j. in_it j ∷ behind j)

one-in : (bound : ℕ) → AllIn bound → (e : Event) (es : List Event) (uss : List (List Event)) (zs : List Event) → length (e ∷ es) ≤ suc bound → (b : Bool) → is_definition e.name ≡ b → held_one b false e (λ i. held is_definition i es) ≡ zs → Spans zs uss → definitions_in (e ∷ es) ≡ uss
one-in bound more e es uss zs few true i h k = first-in bound more e es uss zs few i h k
one-in bound more e es uss zs few false i h k = definitions-behind (e ∷ []) es (i, tt) ∙ more es uss zs (omega (arith, few)) h k

all-in : (bound : ℕ) → AllIn bound
all-in bound [] [] zs few h k = refl
all-in bound [] (us ∷ uss) zs few h k = let both : [] ≡ k.0.first ∷ (us ++ k.0.last ∷ k.0.more) = h ∙ k.0.are in absurd (cc)
all-in zero (e ∷ es) uss zs few h k = absurd (omega (arith, few))
all-in (suc bound) (e ∷ es) uss zs few h k = one-in bound (λ xs vss ys l i j. all-in bound xs vss ys l i j) e es uss zs few (is_definition e.name) refl h k

-- If what is in definitions among events is cut into these, they are the definitions among them
pub definitions-are : (es : List Event) (uss : List (List Event)) (zs : List Event) → held is_definition false es ≡ zs → Spans zs uss → definitions_in es ≡ uss
definitions-are es uss zs h k = all-in (length es) es uss zs (omega arith) h k
