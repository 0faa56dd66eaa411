-- Rows that keep what is known: calm ones, which add no link and make no choice; rows of looks, which add no event; and those that begin a
-- look.
use Rattle.std.proofs.Common.{◌≡◌, ℕ, ◌&&◌, List, [], ◌∷◌, ◌++◌, Bool, true, false, cond, Option, Some, None, length, refl, sym, ap, ◌∙◌, subst}
use Rattle.std.specs.Prelude.{IfSome, option_and_then}
use Rattle.markdown_base.specs.declared.event.Event.{Event}
use Rattle.markdown_base.specs.declared.event.Link.{Link}
use Rattle.markdown_base.specs.declared.event.Name.TheVariants.{Data}
use Rattle.markdown_base.specs.declared.state.Name.{Name}
use Rattle.markdown_base.specs.declared.state.State.{State}
use Rattle.markdown_base.specs.declared.state.State.TheVariants.{Retry}
use Rattle.markdown_tokenizer.specs.declared.waiting.AttemptKind.TheVariants.{Attempt, Check}
use Rattle.markdown_tokenizer.specs.Text.{Given}
use Rattle.markdown_tokenizer.specs.Configuration.{Configuration, Local, Choice}
use Rattle.markdown_tokenizer.specs.Calls.{with_local, check_at}
use Rattle.markdown_tokenizer.specs.Sight.{Sight}
use Rattle.mdconstructs_tables.specs.Cases.{Case, rows_in}
use Rattle.mdconstructs_tables.specs.Knowledge.{EachRow, KnownAfter}
use Rattle.mdconstructs_tables.specs.LinkShapes.{AreInShape}
use Rattle.mdconstructs_tables.specs.Rows.{Act, enters, exit, consume, links, writes, choose, note, exit_noted, enter_noted, Rows, row, when, Row, done, does, chooses, step_of, past, shown_sight}
use Rattle.mdconstructs_tables.specs.RowTest.{all_rows}
use Rattle.mdconstructs_tables.proofs.LinkShapes.{more-shape}
use Rattle.mdblock_leaf_rows.specs.FlowBytes.{FlowByte, name_byte, Cased, cased, by_byte, spelled}
use Rattle.mdblock_leaf_rows.specs.FlowTable.{flow, unchanged}
use Rattle.mdblock_leaf_rows.specs.FlowKnows.{Place, in_chunk, before_chunk, in_underline, elsewhere, place_of, is_looking, KnowsChunk, KnowsEdits, RenameSpans, Knows, IsLook, knows_flow}
use Rattle.mdblock_leaf_rows.specs.Laws.Headings.{spans-more, paragraph-left, underline-left}
use Rattle.std.proofs.lemmas.Bool.{and_parts}

-- A write is harmless, whatever is seen: what states share may change, but for the indices that are noted
abbrev pub IsHarmless : (Sight → Configuration Unit Unit → Local Unit Unit) → Type 0
IsHarmless f = (at : Sight × Configuration Unit Unit) →
    let k = at.1 in
    let new = f at.0 k in
    new ≡ record k.local { tokenize_state = record new.tokenize_state { start = k.local.tokenize_state.start; end = k.local.tokenize_state.end; connect = k.local.tokenize_state.connect } }

-- all writes of acts, of rows and of cases are, one after another
abbrev pub HarmlessActs : List (Act Unit Unit) → Type 0 → Type 0
HarmlessActs [] P = P
HarmlessActs (writes f ∷ acts) P = IsHarmless f × HarmlessActs acts P
HarmlessActs (_ ∷ acts) P = HarmlessActs acts P

abbrev pub HarmlessRows : Rows Unit Unit → Type 0 → Type 0
HarmlessRows (row acts answer) P = HarmlessActs acts P
HarmlessRows (when test one other) P = HarmlessRows one (HarmlessRows other P)

abbrev pub HarmlessCases : List (Case FlowByte Unit Unit) → Type 0 → Type 0
HarmlessCases [] P = P
HarmlessCases (c ∷ cs) P = HarmlessRows c.rows (HarmlessCases cs P)

abbrev pub AreHarmless : Cased Unit Unit → Type 0
AreHarmless c = HarmlessRows c.at_end (HarmlessCases c.cases (HarmlessRows c.rest (Unit {0})))

-- a link without neighbours
abbrev pub is_alone : Option ℕ → Bool
is_alone None = true
is_alone (Some i) = false

abbrev pub is_fresh_link : Option Link → Bool
is_fresh_link None = true
is_fresh_link (Some l) = is_alone l.next && is_alone l.previous

-- acts that add events without neighbours; and acts that add none
abbrev pub are_calm : List (Act Unit Unit) → Bool
are_calm [] = true
are_calm (enters name link ∷ acts) = is_fresh_link link && are_calm acts
are_calm (links previous next ∷ acts) = false
are_calm (choose kind ok nok ∷ acts) = false
are_calm (note ∷ acts) = false
are_calm (exit_noted name ∷ acts) = false
are_calm (enter_noted name ∷ acts) = false
are_calm (_ ∷ acts) = are_calm acts

abbrev pub are_silent : List (Act Unit Unit) → Bool
are_silent [] = true
are_silent (consume ∷ acts) = are_silent acts
are_silent (writes f ∷ acts) = are_silent acts
are_silent (_ ∷ acts) = false

-- the same place
abbrev pub same_place : Place → Place → Bool
same_place in_chunk in_chunk = true
same_place before_chunk before_chunk = true
same_place elsewhere elsewhere = true
same_place _ _ = false

-- acts that begin a look, which goes on at this place
abbrev pub begin_look : Place → List (Act Unit Unit) → State → Bool
begin_look place (choose Check ok nok ∷ acts) answer = same_place place (place_of ok) && (same_place place (place_of nok) && (are_silent acts && is_looking answer))
begin_look place _ answer = false

-- A row that keeps what is known at a place: it goes on elsewhere, stays there without an event, or begins a look
abbrev pub keeps : Place → Row Unit Unit → Bool
keeps place r =
    cond (are_calm r.acts && same_place elsewhere (place_of r.answer)) true
    (cond (are_silent r.acts && same_place place (place_of r.answer)) true (begin_look place r.acts r.answer))

-- a row of a look: it adds no event, and goes on with the look
abbrev pub looks_on : Row Unit Unit → Bool
looks_on r = are_silent r.acts && (is_looking r.answer && same_place elsewhere (place_of r.answer))

-- all rows of a state do
abbrev pub all_cases : (Row Unit Unit → Bool) → List (Case FlowByte Unit Unit) → Bool
all_cases test [] = true
all_cases test (c ∷ cs) = all_rows test c.rows && all_cases test cs

abbrev pub all_cased : (Row Unit Unit → Bool) → Cased Unit Unit → Bool
all_cased test c = all_rows test c.at_end && (all_cases test c.cases && all_rows test c.rest)

-- Equal places
same-place : (p q : Place) → same_place p q ≡ true → q ≡ p
same-place in_chunk in_chunk h = refl
same-place in_chunk before_chunk h = absurd (cc)
same-place in_chunk (in_underline names) h = absurd (cc)
same-place in_chunk elsewhere h = absurd (cc)
same-place before_chunk in_chunk h = absurd (cc)
same-place before_chunk before_chunk h = refl
same-place before_chunk (in_underline names) h = absurd (cc)
same-place before_chunk elsewhere h = absurd (cc)
same-place (in_underline names) q h = absurd (cc)
same-place elsewhere in_chunk h = absurd (cc)
same-place elsewhere before_chunk h = absurd (cc)
same-place elsewhere (in_underline names) h = absurd (cc)
same-place elsewhere elsewhere h = refl

no-end : (o : Option ℕ) → is_alone o ≡ true → o ≡ None
no-end None h = refl
no-end (Some i) h = absurd (cc)

fresh-ends : (link : Option Link) → is_fresh_link link ≡ true → (option_and_then (λ (l : Link). l.next) link ≡ None) × (option_and_then (λ (l : Link). l.previous) link ≡ None)
fresh-ends None h = (refl, refl)
fresh-ends (Some l) h = let (next, previous) = and_parts (is_alone l.next) (is_alone l.previous) h in (no-end l.next next, no-end l.previous previous)

-- What stays of what states share
pub record Stays (old new : Local Unit Unit) : Type 0 where
  pub resolvers : new.resolvers ≡ old.resolvers
  pub map : new.map ≡ old.map
  pub start : new.tokenize_state.start ≡ old.tokenize_state.start
  pub end : new.tokenize_state.end ≡ old.tokenize_state.end
  pub connect : new.tokenize_state.connect ≡ old.tokenize_state.connect

stays : (local : Local Unit Unit) → Stays local local
stays local = record { resolvers = refl; map = refl; start = refl; end = refl; connect = refl }

stays-on : (a b c : Local Unit Unit) → Stays a b → Stays b c → Stays a c
stays-on a b c h k = record { resolvers = k.resolvers ∙ h.resolvers; map = k.map ∙ h.map; start = k.start ∙ h.start; end = k.end ∙ h.end; connect = k.connect ∙ h.connect }

by-write : (f : Sight → Configuration Unit Unit → Local Unit Unit) → IsHarmless f → (s : Sight) (k : Configuration Unit Unit) → Stays k.local (f s k)
by-write f h s k = record {
  resolvers = ap (λ (l : Local Unit Unit). l.resolvers) (h (s, k));
  map = ap (λ (l : Local Unit Unit). l.map) (h (s, k));
  start = ap (λ (l : Local Unit Unit). l.tokenize_state.start) (h (s, k));
  end = ap (λ (l : Local Unit Unit). l.tokenize_state.end) (h (s, k));
  connect = ap (λ (l : Local Unit Unit). l.tokenize_state.connect) (h (s, k));
}

-- What calm acts come to
calm : (acts : List (Act Unit Unit)) (P : Type 0) → are_calm acts ≡ true → HarmlessActs acts P → (s : Sight) (k : Configuration Unit Unit) → AreInShape k.events → RenameSpans k.events k.local.map
    → let k' = does acts s k in AreInShape k'.events × RenameSpans k'.events k'.local.map × Stays k.local k'.local × ((cs : List Choice) → chooses acts s k cs ≡ cs)
calm [] P is h s k shape edits = (shape, edits, stays k.local, λ cs. refl)
calm (enters name link ∷ acts) P is h s k shape edits =
    let (fresh, rest) = and_parts (is_fresh_link link) (are_calm acts) is in
    let (next, previous) = fresh-ends link fresh in
    calm acts P rest h s (done (enters name link) s k) (more-shape k.events _ next previous shape) (spans-more k.events k.local.map _ edits)
calm (exit name ∷ acts) P is h s k shape edits = calm acts P is h s (done (exit name) s k) (more-shape k.events _ refl refl shape) (spans-more k.events k.local.map _ edits)
calm (consume ∷ acts) P is h s k shape edits = calm acts P is h (past s) (done consume s k) shape edits
calm (links previous next ∷ acts) P is h s k shape edits = absurd (cc)
calm (writes f ∷ acts) P is h s k shape edits =
    let local = f (shown_sight s) k in
    let written = by-write f h.0 (shown_sight s) k in
    let (on, spans, kept, same) = calm acts P is h.1 s (with_local k local) shape (subst (RenameSpans k.events) (sym written.map) edits) in
    (on, spans, stays-on k.local local _ written kept, same)
calm (choose kind ok nok ∷ acts) P is h s k shape edits = absurd (cc)
calm (note ∷ acts) P is h s k shape edits = absurd (cc)
calm (exit_noted name ∷ acts) P is h s k shape edits = absurd (cc)
calm (enter_noted name ∷ acts) P is h s k shape edits = absurd (cc)

-- What silent acts come to
silent : (acts : List (Act Unit Unit)) (P : Type 0) → are_silent acts ≡ true → HarmlessActs acts P → (s : Sight) (k : Configuration Unit Unit)
    → let k' = does acts s k in (k'.events ≡ k.events) × Stays k.local k'.local × ((cs : List Choice) → chooses acts s k cs ≡ cs)
silent [] P is h s k = (refl, stays k.local, λ cs. refl)
silent (enters name link ∷ acts) P is h s k = absurd (cc)
silent (exit name ∷ acts) P is h s k = absurd (cc)
silent (consume ∷ acts) P is h s k = silent acts P is h (past s) (done consume s k)
silent (links previous next ∷ acts) P is h s k = absurd (cc)
silent (writes f ∷ acts) P is h s k =
    let (same, kept, none) = silent acts P is h.1 s (with_local k (f (shown_sight s) k)) in
    (same, stays-on k.local (f (shown_sight s) k) _ (by-write f h.0 (shown_sight s) k) kept, none)
silent (choose kind ok nok ∷ acts) P is h s k = absurd (cc)
silent (note ∷ acts) P is h s k = absurd (cc)
silent (exit_noted name ∷ acts) P is h s k = absurd (cc)
silent (enter_noted name ∷ acts) P is h s k = absurd (cc)

-- What is known stays, if events and the chunk that is noted do
chunk-stays : (place : Place) (events : List Event) (old new : Local Unit Unit) → Stays old new → KnowsChunk place events old → KnowsChunk place events new
chunk-stays in_chunk events old new h known = rw h.start known
chunk-stays before_chunk events old new h known = λ connected. rw h.start (known (sym h.connect ∙ connected))
chunk-stays (in_underline names) events old new h known = tt
chunk-stays elsewhere events old new h known = tt

edits-stay : (place : Place) (events : List Event) (old new : Local Unit Unit) → Stays old new → KnowsEdits place events old → KnowsEdits place events new
edits-stay in_chunk events old new h known = rw (h.map, h.end) known
edits-stay before_chunk events old new h known = rw (h.map, h.end) known
edits-stay (in_underline names) events old new h known = rw (h.map, h.end, h.start) known
edits-stay elsewhere events old new h known = rw h.map known

-- wherever the reading is, the edits rename spans
pub edits-left : (place : Place) (events : List Event) (local : Local Unit Unit) → KnowsEdits place events local → RenameSpans events local.map
edits-left in_chunk events local h = paragraph-left events local.map (Data ∷ []) local.tokenize_state.end h
edits-left before_chunk events local h = paragraph-left events local.map [] local.tokenize_state.end h
edits-left (in_underline names) events local h = underline-left events local.map names local.tokenize_state.end local.tokenize_state.start h
edits-left elsewhere events local h = h

knows-stays : (place : Place) (events events' : List Event) (old new : Local Unit Unit) → events' ≡ events → Stays old new → Knows place events old → Knows place events' new
knows-stays place events events' old new same h known = rw same (record {
  chunk = chunk-stays place events old new h known.chunk;
  shape = known.shape;
  resolvers = h.resolvers ∙ known.resolvers;
  edits = edits-stay place events old new h known.edits;
})

-- A row that begins a look leaves it to wait
look-begins : (place : Place) (acts : List (Act Unit Unit)) (answer : State) (P : Type 0) → begin_look place acts answer ≡ true → HarmlessActs acts P
    → (s : Sight) (k : Configuration Unit Unit) → Knows place k.events k.local → KnownAfter flow knows_flow (step_of (record { acts = acts; answer = answer }) s k) []
look-begins place [] answer P is harmless s k known = absurd (cc)
look-begins place (enters name link ∷ acts) answer P is harmless s k known = absurd (cc)
look-begins place (exit name ∷ acts) answer P is harmless s k known = absurd (cc)
look-begins place (consume ∷ acts) answer P is harmless s k known = absurd (cc)
look-begins place (links previous next ∷ acts) answer P is harmless s k known = absurd (cc)
look-begins place (writes f ∷ acts) answer P is harmless s k known = absurd (cc)
look-begins place (note ∷ acts) answer P is harmless s k known = absurd (cc)
look-begins place (exit_noted name ∷ acts) answer P is harmless s k known = absurd (cc)
look-begins place (enter_noted name ∷ acts) answer P is harmless s k known = absurd (cc)
look-begins place (choose Attempt ok nok ∷ acts) answer P is harmless s k known = absurd (cc)
look-begins place (choose Check ok nok ∷ acts) answer P is harmless s k known =
    let (by_ok, further) = and_parts (same_place place (place_of ok)) (same_place place (place_of nok) && (are_silent acts && is_looking answer)) is in
    let (by_nok, last) = and_parts (same_place place (place_of nok)) (are_silent acts && is_looking answer) further in
    let (quiet, looking) = and_parts (are_silent acts) (is_looking answer) last in
    let (same, kept, none) = silent acts P quiet harmless s k in
    let k' = does acts s k in
    let c = check_at ok nok k in
    let here : place_of ok ≡ place = same-place place (place_of ok) by_ok in
    let there : place_of nok ≡ place = same-place place (place_of nok) by_nok in
    let look : IsLook k'.events c = record { checks = refl; saved = sym (ap length same); same = here ∙ sym there } in
    let after = knows-stays place k.events k'.events k.local k'.local same kept known in
    subst (λ cs. knows_flow k'.events k'.local (cs ++ []) answer) (sym (none (c ∷ []))) (looking, look, subst (λ p. Knows p k'.events k'.local) (sym here) after)

-- A row that keeps what is known does, where no look waits
row-keeps : (place : Place) (acts : List (Act Unit Unit)) (answer : State) (P : Type 0) → keeps place (record { acts = acts; answer = answer }) ≡ true → HarmlessActs acts P
    → (s : Sight) (k : Configuration Unit Unit) → Knows place k.events k.local → KnownAfter flow knows_flow (step_of (record { acts = acts; answer = answer }) s k) []
row-keeps place acts answer P is harmless s k known =
    elim (are_calm acts && same_place elsewhere (place_of answer)) as (λ t. (are_calm acts && same_place elsewhere (place_of answer)) ≡ t → cond t true (cond (are_silent acts && same_place place (place_of answer)) true (begin_look place acts answer)) ≡ true → KnownAfter flow knows_flow (step_of (record { acts = acts; answer = answer }) s k) []) [
      | true ↦ λ quiet on.
          let (added, there) = and_parts (are_calm acts) (same_place elsewhere (place_of answer)) quiet in
          let (shape, spans, kept, none) = calm acts P added harmless s k known.shape (edits-left place k.events k.local known.edits) in
          let k' = does acts s k in
          let after : Knows elsewhere k'.events k'.local = record { chunk = tt; shape = shape; resolvers = kept.resolvers ∙ known.resolvers; edits = spans } in
          subst (λ cs. knows_flow k'.events k'.local (cs ++ []) answer) (sym (none [])) (subst (λ p. Knows p k'.events k'.local) (sym (same-place elsewhere (place_of answer) there)) after)
      | false ↦ λ loud on.
          elim (are_silent acts && same_place place (place_of answer)) as (λ t. (are_silent acts && same_place place (place_of answer)) ≡ t → cond t true (begin_look place acts answer) ≡ true → KnownAfter flow knows_flow (step_of (record { acts = acts; answer = answer }) s k) []) [
            | true ↦ λ quiet on.
                let (added, there) = and_parts (are_silent acts) (same_place place (place_of answer)) quiet in
                let (same, kept, none) = silent acts P added harmless s k in
                let k' = does acts s k in
                let after = knows-stays place k.events k'.events k.local k'.local same kept known in
                subst (λ cs. knows_flow k'.events k'.local (cs ++ []) answer) (sym (none [])) (subst (λ p. Knows p k'.events k'.local) (sym (same-place place (place_of answer) there)) after)
            | false ↦ λ louder on. look-begins place acts answer P on harmless s k known
          ] refl on
    ] refl is

-- a row of a look does, whether the look waits or not
look-keeps : (place : Place) (acts : List (Act Unit Unit)) (answer : State) (P : Type 0) → looks_on (record { acts = acts; answer = answer }) ≡ true → HarmlessActs acts P
    → (s : Sight) (k : Configuration Unit Unit) (choices : List Choice) (name : Name) → place_of (Retry name) ≡ elsewhere → knows_flow k.events k.local choices (Retry name)
    → KnownAfter flow knows_flow (step_of (record { acts = acts; answer = answer }) s k) choices
look-keeps place acts answer P is harmless s k choices name out known =
    let (quiet, further) = and_parts (are_silent acts) (is_looking answer && same_place elsewhere (place_of answer)) is in
    let (looking, there) = and_parts (is_looking answer) (same_place elsewhere (place_of answer)) further in
    let (same, kept, none) = silent acts P quiet harmless s k in
    let k' = does acts s k in
    elim choices as (λ cs. knows_flow k.events k.local cs (Retry name) → KnownAfter flow knows_flow (step_of (record { acts = acts; answer = answer }) s k) cs) [
      | [] ↦ λ h.
          let after = knows-stays elsewhere k.events k'.events k.local k'.local same kept (subst (λ p. Knows p k.events k.local) out h) in
          subst (λ cs. knows_flow k'.events k'.local (cs ++ []) answer) (sym (none [])) (subst (λ p. Knows p k'.events k'.local) (sym (same-place elsewhere (place_of answer) there)) after)
      | c ∷ cs ↦ elim cs as (λ cs. knows_flow k.events k.local (c ∷ cs) (Retry name) → KnownAfter flow knows_flow (step_of (record { acts = acts; answer = answer }) s k) (c ∷ cs)) [
        | [] ↦ λ h.
            let look : IsLook k'.events c = record { checks = h.1.checks; saved = subst (λ es. IfSome c.saved (λ saved. saved.events ≡ length es)) (sym same) h.1.saved; same = h.1.same } in
            let after = knows-stays (place_of c.ok) k.events k'.events k.local k'.local same kept h.2 in
            subst (λ cs. knows_flow k'.events k'.local (cs ++ c ∷ []) answer) (sym (none [])) (looking, look, after)
        | d ∷ ds ↦ λ h. absurd h
      ]
    ] known

-- All rows of a state keep what is known, if each passes the test
module _ (test : Row Unit Unit → Bool) (g : Given) (s : Sight) (k : Configuration Unit Unit) (choices : List Choice)
    (one : (acts : List (Act Unit Unit)) (answer : State) (P : Type 0) → test (record { acts = acts; answer = answer }) ≡ true → HarmlessActs acts P
    → KnownAfter flow knows_flow (step_of (record { acts = acts; answer = answer }) s k) choices) where
  abbrev Each : Rows Unit Unit → Type 0
  Each rows = EachRow (λ r. KnownAfter flow knows_flow (step_of r s k) choices) g s k rows

  behind-acts : (acts : List (Act Unit Unit)) (P : Type 0) → HarmlessActs acts P → P
  behind-acts [] P h = h
  behind-acts (enters name link ∷ acts) P h = behind-acts acts P h
  behind-acts (exit name ∷ acts) P h = behind-acts acts P h
  behind-acts (consume ∷ acts) P h = behind-acts acts P h
  behind-acts (links previous next ∷ acts) P h = behind-acts acts P h
  behind-acts (writes f ∷ acts) P h = behind-acts acts P h.1
  behind-acts (choose kind ok nok ∷ acts) P h = behind-acts acts P h
  behind-acts (note ∷ acts) P h = behind-acts acts P h
  behind-acts (exit_noted name ∷ acts) P h = behind-acts acts P h
  behind-acts (enter_noted name ∷ acts) P h = behind-acts acts P h

  behind-rows : (rows : Rows Unit Unit) (P : Type 0) → HarmlessRows rows P → P
  behind-rows (row acts answer) P h = behind-acts acts P h
  behind-rows (when t a b) P h = behind-rows b P (behind-rows a (HarmlessRows b P) h)

  each : (rows : Rows Unit Unit) (P : Type 0) → all_rows test rows ≡ true → HarmlessRows rows P → Each rows
  each (row acts answer) P is h = one acts answer P is h
  each (when t a b) P is h =
      let (first, second) = and_parts (all_rows test a) (all_rows test b) is in
      ((λ e. each a (HarmlessRows b P) first h), (λ e. each b P second (behind-rows a (HarmlessRows b P) h)))

  in-rows : (cs : List (Case FlowByte Unit Unit)) (rest : Rows Unit Unit) (P : Type 0) → all_cases test cs ≡ true → all_rows test rest ≡ true → HarmlessCases cs (HarmlessRows rest P)
      → (w : FlowByte) → Each (rows_in cs rest w)
  in-rows [] rest P is last h w = each rest P last h
  in-rows (c ∷ cs) rest P is last h w =
      let (first, others) = and_parts (all_rows test c.rows) (all_cases test cs) is in
      elim (c.test w) as (λ t. Each (cond t c.rows (rows_in cs rest w))) [
        | true ↦ each c.rows (HarmlessCases cs (HarmlessRows rest P)) first h
        | false ↦ in-rows cs rest P others last (behind-rows c.rows (HarmlessCases cs (HarmlessRows rest P)) h) w
      ]

  each-case : (c : Cased Unit Unit) → all_cased test c ≡ true → AreHarmless c → (previous current : Option FlowByte) → Each (cased c previous current)
  each-case c is h previous None =
      let (ends, others) = and_parts (all_rows test c.at_end) (all_cases test c.cases && all_rows test c.rest) is in
      each c.at_end (HarmlessCases c.cases (HarmlessRows c.rest (Unit {0}))) ends h
  each-case c is h previous (Some w) =
      let (ends, others) = and_parts (all_rows test c.at_end) (all_cases test c.cases && all_rows test c.rest) is in
      let (cs, rest) = and_parts (all_cases test c.cases) (all_rows test c.rest) others in
      in-rows c.cases c.rest (Unit {0}) cs rest (behind-rows c.at_end (HarmlessCases c.cases (HarmlessRows c.rest (Unit {0}))) h) w

  -- and so do those of a state in a name
  each-spelled : (by : ℕ → Rows Unit Unit) (c : Cased Unit Unit) → ((byte : ℕ) → all_rows test (by byte) ≡ true) → ((byte : ℕ) → HarmlessRows (by byte) (Unit {0})) → all_cased test c ≡ true → AreHarmless c
      → (previous current : Option FlowByte) → Each (spelled by c previous current)
  each-spelled by c named calm is h previous None = each-case c is h previous None
  each-spelled by c named calm is h previous (Some w) = elim (name_byte w) as (λ o. Each (by_byte o by (rows_in c.cases c.rest w))) [
    | None ↦ each-case c is h previous (Some w)
    | Some byte ↦ each (by byte) (Unit {0}) (named byte) (calm byte)
  ]

-- a state with these rows keeps what is known
abbrev pub Keeps : Name → ((previous current : Option FlowByte) → Rows Unit Unit) → Type 0
Keeps name rows =
    (g : Given) (s : Sight) (k : Configuration Unit Unit) (choices : List Choice) (previous current : Option FlowByte) → knows_flow k.events k.local choices (Retry name)
    → let k1 = with_local k (unchanged k.local) in EachRow (λ r. KnownAfter flow knows_flow (step_of r s k1) choices) g s k1 (rows previous current)

-- a call is counted, and nothing else
counted : (local : Local Unit Unit) → Stays local (unchanged local)
counted local = record { resolvers = refl; map = refl; start = refl; end = refl; connect = refl }

counted-known : (k : Configuration Unit Unit) (choices : List Choice) (name : Name) → knows_flow k.events k.local choices (Retry name) → knows_flow k.events (unchanged k.local) choices (Retry name)
counted-known k [] name h = knows-stays (place_of (Retry name)) k.events k.events k.local (unchanged k.local) refl (counted k.local) h
counted-known k (c ∷ []) name h = (h.0, h.1, knows-stays (place_of c.ok) k.events k.events k.local (unchanged k.local) refl (counted k.local) h.2)
counted-known k (c ∷ d ∷ cs) name h = absurd h

-- A state that reads keeps what is known: no look waits when it is called
pub reading-keeps : (name : Name) (c : Cased Unit Unit) → is_looking (Retry name) ≡ false → all_cased (keeps (place_of (Retry name))) c ≡ true → AreHarmless c → Keeps name (cased c)
reading-keeps name c reads is h g s k [] previous current known =
    let place = place_of (Retry name) in
    let k1 = with_local k (unchanged k.local) in
    let there = knows-stays place k.events k.events k.local (unchanged k.local) refl (counted k.local) known in
    each-case (keeps place) g s k1 [] (λ acts answer P passes harmless. row-keeps place acts answer P passes harmless s k1 there) c is h previous current
reading-keeps name c reads is h g s k (d ∷ []) previous current known = absurd (let e : false ≡ true = sym reads ∙ known.0 in cc)
reading-keeps name c reads is h g s k (d ∷ e ∷ ds) previous current known = absurd known

-- A state of a look does
pub look-state-keeps : (name : Name) (c : Cased Unit Unit) → place_of (Retry name) ≡ elsewhere → all_cased looks_on c ≡ true → AreHarmless c → Keeps name (cased c)
look-state-keeps name c out is h g s k choices previous current known =
    let k1 = with_local k (unchanged k.local) in
    each-case looks_on g s k1 choices (λ acts answer P passes harmless. look-keeps elsewhere acts answer P passes harmless s k1 choices name out (counted-known k choices name known)) c is h previous current

-- The same of states in a name
pub reading-keeps-spelled : (name : Name) (by : ℕ → Rows Unit Unit) (c : Cased Unit Unit) → is_looking (Retry name) ≡ false → ((byte : ℕ) → all_rows (keeps (place_of (Retry name))) (by byte) ≡ true)
    → ((byte : ℕ) → HarmlessRows (by byte) (Unit {0})) → all_cased (keeps (place_of (Retry name))) c ≡ true → AreHarmless c → Keeps name (spelled by c)
reading-keeps-spelled name by c reads named calm is h g s k [] previous current known =
    let place = place_of (Retry name) in
    let k1 = with_local k (unchanged k.local) in
    let there = knows-stays place k.events k.events k.local (unchanged k.local) refl (counted k.local) known in
    each-spelled (keeps place) g s k1 [] (λ acts answer P passes harmless. row-keeps place acts answer P passes harmless s k1 there) by c named calm is h previous current
reading-keeps-spelled name by c reads named calm is h g s k (d ∷ []) previous current known = absurd (let e : false ≡ true = sym reads ∙ known.0 in cc)
reading-keeps-spelled name by c reads named calm is h g s k (d ∷ e ∷ ds) previous current known = absurd known

pub look-state-keeps-spelled : (name : Name) (by : ℕ → Rows Unit Unit) (c : Cased Unit Unit) → place_of (Retry name) ≡ elsewhere → ((byte : ℕ) → all_rows looks_on (by byte) ≡ true)
    → ((byte : ℕ) → HarmlessRows (by byte) (Unit {0})) → all_cased looks_on c ≡ true → AreHarmless c → Keeps name (spelled by c)
look-state-keeps-spelled name by c out named calm is h g s k choices previous current known =
    let k1 = with_local k (unchanged k.local) in
    each-spelled looks_on g s k1 choices (λ acts answer P passes harmless. look-keeps elsewhere acts answer P passes harmless s k1 choices name out (counted-known k choices name known)) by c named calm is h previous current
