-- Items of inline text that are neither brackets nor ends of labels, and tails of links: they leave the brackets that wait as they are, and no event of them
-- is of a link, of a bracket or of an end.
use Rattle.mddocument_rules.proofs.Prelude.{◌≡◌, ◌∙◌, ℕ, ◌-◌, Bool, true, false, cond, List, [], ◌∷◌, Option, Some, None, refl, subst, sym, not, false_from_ne_true, false≢true, and_parts, not-true, ◌&&◌, option_and_then, option_map, AllByRecursion, Constructs, Event, Name, Seat, same_name, same_name-true, is_wanted}
use Rattle.markdown_base.specs.declared.event.Name.TheVariants as name
use Rattle.markdown_base.specs.Presets.{default_constructs}
use Rattle.mdinline_labels.specs.declared.resources.Resource.{Resource as Parts}
use Rattle.mdinline_labels.specs.Resources.{resource_at}
use Rattle.mdinline_text_machine.proofs.Constructs.Apart.{EachThere, OfOption}
use Rattle.mdinline_text_machine.specs.Construct.{Found, Grammar, plain}
use Rattle.mdinline_link_tails.specs.Resource.{in_marks, resource, resource_grammar, unmarked}
use Rattle.mdinline_full_references.specs.FullReference.{full_reference, full_reference_grammar, label_length, label_text}
use Rattle.mdinline_machine.proofs.BracketBytes.{tail-holds}
use Rattle.mdinline_machine.specs.Brackets.{Bracket, Memory, is_wanted_at, tail_of}
use Rattle.mdinline_machine.specs.InlineEvents.{inline_grammars}
use Rattle.mddocument_laws.proofs.ItemNames.{Fits, IfItem, IsItem, inlines-fit}
use Rattle.mddocument_laws.proofs.Named.{Named, and, no-events, spanned, weaker}
use Rattle.mddocument_laws.proofs.PlainNames.{plain-may}
use Rattle.mddocument_laws.proofs.TailSpans.{AreInResource, IsKeptInside, are-in-resource, in-marks, in-resources, strings-of}
use Rattle.mddocument_laws.specs.Names.{may_be_named}
use Rattle.mddocument_rules.proofs.Places.{by-wanted, is_free}

-- ---- names of links and of their labels, which no item has, and of markers of block quotes
abbrev pub strange_names : List Name
strange_names = name.Link ∷ name.Image ∷ name.Label ∷ name.LabelText ∷ name.BlockQuoteMarker ∷ []

-- these, and names of brackets and of ends
abbrev pub linking_names : List Name
linking_names = name.LabelLink ∷ name.LabelImage ∷ name.LabelEnd ∷ name.LabelMarker ∷ strange_names

abbrev pub IsQuiet : Name → Type 0
IsQuiet n = is_wanted linking_names n ≡ false

abbrev pub AreQuiet : List Event → Type 0
AreQuiet es = Named IsQuiet es

pub quiet-other : (n m : Name) → IsQuiet n → is_wanted linking_names m ≡ true → same_name n m ≡ false
quiet-other n m h k = false_from_ne_true (same_name n m) (λ e. false≢true (sym h ∙ subst (λ x. is_wanted linking_names x ≡ true) (sym (same_name-true n m e)) k))

-- ---- constructs
-- where no bracket and no end is on, none of these names stands
abbrev pub without : Constructs
without = record default_constructs { label_start_link = false; label_start_image = false; label_end = false; block_quote = false }

quiet-name : (n : Name) → may_be_named without n ≡ true → IsQuiet n
quiet-name n may =
    false_from_ne_true (is_wanted linking_names n)
    (λ e. by-wanted (λ m. may_be_named without m ≡ true → ⊥) linking_names n
    ((λ f. false≢true f), ((λ f. false≢true f), ((λ f. false≢true f), ((λ f. false≢true f), ((λ f. false≢true f), ((λ f. false≢true f), ((λ f. false≢true f), ((λ f. false≢true f), ((λ f. false≢true f), tt))))))))) e may)

-- what is found has other names
abbrev pub HasQuiet : Found → Type 0
HasQuiet f = (bytes : List ℕ) (seats : List Seat) → AreQuiet (f.events bytes seats)

pub item-quiet : (f : Found) → IsItem without f → HasQuiet f
item-quiet f h bytes seats = weaker (λ n may. quiet-name n (plain-may without n may)) (f.events bytes seats) (h.names bytes seats).named

-- and does nothing with brackets
abbrev pub IsPlain : Found → Type 0
IsPlain f = f.mark ≡ plain

abbrev pub IsPlainAndQuiet : Found → Type 0
IsPlainAndQuiet f = IsPlain f × HasQuiet f

of-option : (o : Option Found) → IfItem without o → OfOption IsPlainAndQuiet o
of-option None h = tt
of-option (Some f) h = (h.mark, item-quiet f h)

abbrev AreOn : List (Grammar Found) → Type 0
AreOn grammars = AllByRecursion (λ (g : Grammar Found). g.on without ≡ true) grammars

each-quiet : (grammars : List (Grammar Found)) (text : List ℕ) → AllByRecursion (Fits without) grammars → AreOn grammars → EachThere IsPlainAndQuiet grammars text
each-quiet [] text h k = tt
each-quiet (g ∷ grammars) text h k = (of-option (g.front text) (h.0 k.0 text), each-quiet grammars text h.1 k.1)

pub constructs-quiet : (text : List ℕ) → EachThere IsPlainAndQuiet inline_grammars text
constructs-quiet text = each-quiet inline_grammars text (inlines-fit without) (refl, (refl, (refl, (refl, (refl, (refl, (refl, (refl, (refl, (refl, tt))))))))))

-- ---- tails of links
-- names of spans that are neither of an item, a block or inline text, nor of a link, a bracket or an end
abbrev pub IsInnerName : Name → Type 0
IsInnerName n = (is_free n && not (is_wanted linking_names n)) ≡ true

inner-names : AreInResource IsInnerName
inner-names = are-in-resource IsInnerName (refl, (refl, (refl, (refl, (refl, (refl, (refl, (refl, (refl, (refl, (refl, tt)))))))))))

-- what spans of such names keep holds of tails
module _ (bytes : List ℕ) (Are : List Event → Type 0) (kept : IsKeptInside bytes IsInnerName Are) where
  between-marks : (n mark : Name) (inside : List Event) (seats : List Seat) → IsInnerName n → IsInnerName mark → Are inside → Are (in_marks bytes n mark inside seats)
  between-marks n mark inside seats p m h = in-marks bytes IsInnerName Are kept n mark inside seats p m h

  abbrev IsHere : Found → Type 0
  IsHere f = (seats : List Seat) → Are (f.events bytes seats)

  of-resource : (r : Parts) → IsHere (resource r)
  of-resource r seats = between-marks name.Resource name.ResourceMarker _ seats refl refl (in-resources bytes IsInnerName Are kept inner-names r.destination r.title (r.size - 1) seats)

  resource-is : (text : List ℕ) (tail : Found) → resource_grammar.front text ≡ Some tail → IsHere tail
  resource-is text tail is = elim (resource_at text) as (λ o. option_map resource o ≡ Some tail → IsHere tail) [
    | None ↦ λ e. absurd (cc)
    | Some r ↦ λ e. (let same : resource r ≡ tail = cc in subst IsHere same (of-resource r))
  ] is

  of-reference : (n : ℕ) → IsHere (full_reference n)
  of-reference n seats =
      let inside = unmarked bytes seats in
      between-marks name.Reference name.ReferenceMarker _ seats refl refl (kept.span_around name.ReferenceString inside _ refl (strings-of bytes IsInnerName Are kept inner-names inside))

  reference-is : (wanted : List ℕ → Bool) (text : List ℕ) (tail : Found) → (full_reference_grammar wanted).front text ≡ Some tail → IsHere tail
  reference-is wanted text tail is =
      elim (label_length text) as (λ o. option_and_then (λ n. cond (wanted (label_text n text)) (Some (full_reference n)) None) o ≡ Some tail → IsHere tail) [
        | None ↦ λ e. absurd (cc)
        | Some n ↦ elim (wanted (label_text n text)) as (λ t. cond t (Some (full_reference n)) None ≡ Some tail → IsHere tail) [
          | true ↦ λ e. (let same : full_reference n ≡ tail = cc in subst IsHere same (of-reference n))
          | false ↦ λ e. absurd (cc)
        ]
      ] is

  pub tail-is : (defined : List ℕ → Bool) (b : Bracket) (m : Memory) (text : List ℕ) (tail : Found) → tail_of defined bytes b m text ≡ Some tail → (seats : List Seat) → Are (tail.events bytes seats)
  tail-is defined b m text =
      tail-holds defined bytes IsHere b m text (resource-is text) (reference-is (is_wanted_at defined bytes m.ahead) text) (λ e seats. between-marks name.Reference name.ReferenceMarker [] seats refl refl kept.none) (λ seats. kept.none)

quiet-kept : (bytes : List ℕ) → IsKeptInside bytes IsInnerName AreQuiet
quiet-kept bytes = record {
  none = no-events;
  both = λ xs ys h k. and h k;
  span_around = λ n seats inside p h. spanned bytes n seats (not-true (is_wanted linking_names n) (and_parts (is_free n) (not (is_wanted linking_names n)) p).1) h;
}

pub tail-quiet : (bytes : List ℕ) (defined : List ℕ → Bool) (b : Bracket) (m : Memory) (text : List ℕ) (tail : Found) → tail_of defined bytes b m text ≡ Some tail → (seats : List Seat) → AreQuiet (tail.events bytes seats)
tail-quiet bytes = tail-is bytes AreQuiet (quiet-kept bytes)
