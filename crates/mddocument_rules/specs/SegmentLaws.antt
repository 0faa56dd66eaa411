-- What is promised of links where some events stand in place of others that are written alike, as prefixes between lines do, and strings that are read.
use Rattle.std.specs.Prelude.{◌≡◌, ℕ, Bool, false, List, [], ◌∷◌, ◌++◌, Some}
use Rattle.std.specs.List.{AllByRecursion}
use Rattle.markdown_base.specs.declared.event.Event.{Event}
use Rattle.markdown_base.specs.declared.event.Kind.TheVariants.{Enter}
use Rattle.markdown_base.specs.declared.event.Name.{Name}
use Rattle.markdown_base.specs.declared.event.Name.TheVariants as name
use Rattle.markdown_base.specs.Events.{IsBalanced}
use Rattle.markdown_edits.specs.SpanWalks.{is_wanted}
use Rattle.mdinline_labels.specs.Labels.{collapsed_behind}
use Rattle.mddocument_link_targets.specs.declared.targets.Target.TheVariants as target
use Rattle.mddocument_link_targets.specs.Strings.{as_written}
use Rattle.mddocument_link_targets.specs.Targets.{enters_link, target_in, target_of}

-- Texts that are one label, whatever comes before and behind them: white space is collapsed where labels are compared
abbrev pub Alike : (xs ys : List ℕ) → Type 0
Alike xs ys = (zs ws : List ℕ) → ((begun apart : Bool) → collapsed_behind begun apart zs ≡ collapsed_behind begun apart ws) → (begun apart : Bool) → collapsed_behind begun apart (xs ++ zs) ≡ collapsed_behind begun apart (ys ++ ws)

-- A segment: one event; or events that stand in place of others
pub data Segment : Type 0 where
  one : Event → Segment
  instead : (old new : List Event) → Segment

-- the events without those that stand in place of others, and with them
abbrev pub old_events : List Segment → List Event
old_events [] = []
old_events (one e ∷ s) = e ∷ old_events s
old_events (instead xs ys ∷ s) = xs ++ old_events s

abbrev pub new_events : List Segment → List Event
new_events [] = []
new_events (one e ∷ s) = e ∷ new_events s
new_events (instead xs ys ∷ s) = ys ++ new_events s

-- names by which it is found where a link leads
abbrev pub leading_names : List Name
leading_names = name.Link ∷ name.Image ∷ name.LabelText ∷ name.Resource ∷ name.ReferenceString ∷ []

-- the first event is an enter
abbrev pub BeginsWithAnEnter : List Event → Type 0
BeginsWithAnEnter [] = ⊥
BeginsWithAnEnter (e ∷ es) = e.kind ≡ Enter

module _ (bytes : List ℕ) where
  -- events are written as this text, whatever comes behind them
  abbrev pub AreWrittenAs : (text : List ℕ) → List Event → Type 0
  AreWrittenAs text es = (zs : List Event) → as_written bytes (es ++ zs) ≡ text ++ as_written bytes zs

  -- whole spans of other names, which are written as this
  pub record AreSpansOf (text : List ℕ) (es : List Event) : Type 0 where
    pub balanced : IsBalanced es
    pub begins : BeginsWithAnEnter es
    pub named : AllByRecursion (λ (e : Event). is_wanted leading_names e.name ≡ false) es
    pub gives : AreWrittenAs text es

  -- both are, and are written alike
  pub record AreWrittenAlike (old new : List Event) : Type 0 where
    pub old_text : List ℕ
    pub new_text : List ℕ
    pub old_are : AreSpansOf old_text old
    pub new_are : AreSpansOf new_text new
    pub alike : Alike new_text old_text

  abbrev pub AreAlike : List Segment → Type 0
  AreAlike [] = Unit {0}
  AreAlike (one e ∷ s) = AreAlike s
  AreAlike (instead xs ys ∷ s) = AreWrittenAlike xs ys × AreAlike s

-- Where a link leads to a label, by the events in it, it leads to the same label without events that stand in place of others which are written alike
abbrev pub LinksLeadAlike : Type 0
LinksLeadAlike =
    (bytes : List ℕ) (e : Event) (s : List Segment) (label : List ℕ) → AreAlike bytes s → target_in bytes (e ∷ new_events s) ≡ target.Label label → target_in bytes (e ∷ old_events s) ≡ target.Label label

-- no such events come directly behind the enter of a link or an image
abbrev pub NoneBeginLinks : List Segment → Type 0
NoneBeginLinks [] = Unit {0}
NoneBeginLinks (one e ∷ []) = Unit {0}
NoneBeginLinks (one e ∷ one f ∷ s) = NoneBeginLinks (one f ∷ s)
NoneBeginLinks (one e ∷ instead xs ys ∷ s) = (enters_link e ≡ false) × NoneBeginLinks (instead xs ys ∷ s)
NoneBeginLinks (instead xs ys ∷ s) = NoneBeginLinks s

-- So it is of all links and images among events: to the label that one leads to, one leads without the events that stand in place of others
abbrev pub AllLinksLeadAlike : Type 0
AllLinksLeadAlike =
    (bytes : List ℕ) (s : List Segment) (at : ℕ) (label : List ℕ) → AreAlike bytes s → NoneBeginLinks s → target_of bytes (new_events s) at ≡ Some (target.Label label)
    → (i : ℕ) × (target_of bytes (old_events s) i ≡ Some (target.Label label))
