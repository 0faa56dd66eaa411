-- A check is at the front of the first block of an item.
use Rattle.std.proofs.Common.{◌≡◌, ◌++◌, Bool, true, false, cond, List, [], ◌∷◌, Option, refl, sym, ap, subst, ◌∙◌}
use Rattle.std.proofs.lemmas.List.{append-nil, append_assoc}
use Rattle.std.specs.Prelude.{⊤, IfSome}
use Rattle.markdown_base.specs.declared.event.Event.{Event}
use Rattle.markdown_base.specs.declared.event.Name.TheVariants.{Definition, ListItemPrefix, Paragraph, SpaceOrTab}
use Rattle.markdown_base.specs.Events.{same_name}
use Rattle.markdown_base.proofs.Common.{every-append}
use Rattle.mdgfm_tasks.specs.declared.awaited.Awaited.{Awaited}
use Rattle.mdgfm_tasks.specs.declared.awaited.Awaited.TheVariants.{Nothing, Block, DefinitionEnd, Text}
use Rattle.mdgfm_tasks.specs.declared.checks.Found.{Found}
use Rattle.mdgfm_tasks.specs.Awaits.{awaited_behind, awaited_next, enters, exits, is_passed}
use Rattle.mdgfm_tasks.specs.Laws.{ArePassed, none, one, definition, ChecksStandFirst, IsFirstText, awaited_from}
use Rattle.mdgfm_tasks.proofs.Covers.{found-text}

passed-append : (xs ys : List Event) → ArePassed xs → ArePassed ys → ArePassed (xs ++ ys)
passed-append xs ys none k = k
passed-append xs ys (one e es p h) k = one e (es ++ ys) p (passed-append es ys h k)
passed-append xs ys (definition e f us es is p q h) k =
    definition e f us (es ++ ys) (ap (λ (ts : List Event). ts ++ ys) is ∙ ap (λ (ts : List Event). e ∷ ts) (append_assoc us (f ∷ es) ys)) p q (passed-append es ys h k)

-- behind the prefix of an item, before its first block
record IsBefore (events : List Event) : Type 0 where
  pub before : List Event
  pub prefix : Event
  pub between : List Event
  pub parts : events ≡ before ++ prefix ∷ between
  pub is_prefix : exits ListItemPrefix prefix ≡ true
  pub passed : ArePassed between

-- in a definition there
record IsInDefinition (events : List Event) : Type 0 where
  pub before : List Event
  pub prefix : Event
  pub between : List Event
  pub opens : Event
  pub inside : List Event
  pub parts : events ≡ before ++ prefix ∷ (between ++ opens ∷ inside)
  pub is_prefix : exits ListItemPrefix prefix ≡ true
  pub passed : ArePassed between
  pub is_definition : enters Definition opens ≡ true

-- what is known of events behind which this is awaited
abbrev Holds : Awaited → List Event → Type 0
Holds Nothing events = ⊤
Holds Block events = IsBefore events
Holds DefinitionEnd events = IsInDefinition events
Holds Text events = IsFirstText events

module _ (e : Event) where
  -- an event more behind what is behind others
  behind : (us : List Event) (p : Event) (vs ws : List Event) {all : List Event} → all ≡ us ++ p ∷ (vs ++ ws) → all ++ e ∷ [] ≡ us ++ p ∷ (vs ++ (ws ++ e ∷ []))
  behind us p vs ws is =
      ap (λ (ts : List Event). ts ++ e ∷ []) is
      ∙ append_assoc us (p ∷ (vs ++ ws)) (e ∷ [])
      ∙ ap (λ (ts : List Event). us ++ p ∷ ts) (append_assoc vs ws (e ∷ []))

  from_block : (events : List Event) → IsBefore events → Holds (awaited_next Block e) (events ++ e ∷ [])
  from_block events h = by (is_passed e.name) (enters Definition e) (enters Paragraph e) refl refl refl
    where
      is : events ++ e ∷ [] ≡ h.before ++ h.prefix ∷ (h.between ++ e ∷ [])
      is = ap (λ (ts : List Event). ts ++ e ∷ []) h.parts ∙ append_assoc h.before (h.prefix ∷ h.between) (e ∷ [])

      by : (p d q : Bool) → is_passed e.name ≡ p → enters Definition e ≡ d → enters Paragraph e ≡ q
          → Holds (cond p Block (cond d DefinitionEnd (cond q Text Nothing))) (events ++ e ∷ [])
      by true d q hp hd hq = record {
        before = h.before;
        prefix = h.prefix;
        between = h.between ++ e ∷ [];
        parts = is;
        is_prefix = h.is_prefix;
        passed = passed-append h.between (e ∷ []) h.passed (one e [] hp none);
      }
      by false true q hp hd hq = record {
        before = h.before;
        prefix = h.prefix;
        between = h.between;
        opens = e;
        inside = [];
        parts = is;
        is_prefix = h.is_prefix;
        passed = h.passed;
        is_definition = hd;
      }
      by false false true hp hd hq = record {
        before = h.before;
        prefix = h.prefix;
        between = h.between;
        paragraph = e;
        white = [];
        parts = is;
        is_prefix = h.is_prefix;
        passed = h.passed;
        is_paragraph = hq;
        is_white = tt;
      }
      by false false false hp hd hq = tt

  from_definition : (events : List Event) → IsInDefinition events → Holds (awaited_next DefinitionEnd e) (events ++ e ∷ [])
  from_definition events h = by (exits Definition e) refl
    where
      is : events ++ e ∷ [] ≡ h.before ++ h.prefix ∷ (h.between ++ (h.opens ∷ (h.inside ++ e ∷ [])))
      is = behind h.before h.prefix h.between (h.opens ∷ h.inside) h.parts

      by : (t : Bool) → exits Definition e ≡ t → Holds (cond t Block DefinitionEnd) (events ++ e ∷ [])
      by true k = record {
        before = h.before;
        prefix = h.prefix;
        between = h.between ++ (h.opens ∷ (h.inside ++ e ∷ []));
        parts = is;
        is_prefix = h.is_prefix;
        passed = passed-append h.between (h.opens ∷ (h.inside ++ e ∷ [])) h.passed (definition h.opens e h.inside [] refl h.is_definition k none);
      }
      by false k = record {
        before = h.before;
        prefix = h.prefix;
        between = h.between;
        opens = h.opens;
        inside = h.inside ++ e ∷ [];
        parts = is;
        is_prefix = h.is_prefix;
        passed = h.passed;
        is_definition = h.is_definition;
      }

  from_text : (events : List Event) → IsFirstText events → Holds (awaited_next Text e) (events ++ e ∷ [])
  from_text events h = by (same_name e.name SpaceOrTab) refl
    where
      is : events ++ e ∷ [] ≡ h.before ++ h.prefix ∷ (h.between ++ (h.paragraph ∷ (h.white ++ e ∷ [])))
      is = behind h.before h.prefix h.between (h.paragraph ∷ h.white) h.parts

      by : (t : Bool) → same_name e.name SpaceOrTab ≡ t → Holds (cond t Text Nothing) (events ++ e ∷ [])
      by true k = record {
        before = h.before;
        prefix = h.prefix;
        between = h.between;
        paragraph = h.paragraph;
        white = h.white ++ e ∷ [];
        parts = is;
        is_prefix = h.is_prefix;
        passed = h.passed;
        is_paragraph = h.is_paragraph;
        is_white = every-append (λ (x : Event). same_name x.name SpaceOrTab ≡ true) h.white (e ∷ []) h.is_white (k, tt);
      }
      by false k = tt

  from_any : (a : Awaited) (events : List Event) → Holds a events → Holds (awaited_next a e) (events ++ e ∷ [])
  from_any Nothing events h = tt
  from_any Block events h = from_block events h
  from_any DefinitionEnd events h = from_definition events h
  from_any Text events h = from_text events h

  one-on : (a : Awaited) (events : List Event) → Holds a events → Holds (awaited_behind a e) (events ++ e ∷ [])
  one-on a events h = by (exits ListItemPrefix e) refl (from_any a events h)
    where
      by : (t : Bool) → exits ListItemPrefix e ≡ t → Holds (awaited_next a e) (events ++ e ∷ []) → Holds (cond t Block (awaited_next a e)) (events ++ e ∷ [])
      by true k other = record { before = events; prefix = e; between = []; parts = refl; is_prefix = k; passed = none }
      by false k other = other

all-on : (a : Awaited) (events es : List Event) → Holds a events → Holds (awaited_from a es) (events ++ es)
all-on a events [] h = subst (Holds a) (sym (append-nil events)) h
all-on a events (e ∷ es) h =
    subst (Holds (awaited_from (awaited_behind a e) es)) (append_assoc events (e ∷ []) es) (all-on (awaited_behind a e) (events ++ e ∷ []) es (one-on e a events h))

pub checks-stand-first : ChecksStandFirst
checks-stand-first bytes before events f h =
    let text = subst (λ (o : Option Found). IfSome o (λ f. awaited_from Nothing before ≡ Text)) h (found-text bytes (awaited_from Nothing before) events) in
    subst (λ (a : Awaited). Holds a before) text (all-on Nothing [] before tt)
