-- Links, images and emphasis in place of brackets and runs: each event is one of the list, or has a name of theirs.
use Rattle.std.proofs.Common.{◌≡◌, Bool, ℕ, List, [], ◌∷◌, true, false, length, refl, subst}
use Rattle.std.proofs.lemmas.Bool.{false_from_ne_true, false≢true}
use Rattle.std.specs.List.{AllByRecursion}
use Rattle.markdown_base.proofs.Common.{every-append}
use Rattle.markdown_base.specs.declared.event.Event.{Event}
use Rattle.markdown_base.specs.declared.event.Name.{Name}
use Rattle.markdown_base.specs.declared.event.Name.TheVariants.{CharacterReference}
use Rattle.markdown_base.specs.Events.{same_name}
use Rattle.markdown_base.proofs.Balanced.{same_name-true}
use Rattle.markdown_tokenizer.proofs.Positions.Order.{every-back, every-front}
use Rattle.mdinline_emphasis.specs.declared.pairs.Marker.{Marker}
use Rattle.mdinline_emphasis.specs.declared.pairs.Style.{Style}
use Rattle.mdinline_emphasis.specs.declared.pairs.Style.TheVariants.{Emphasis as OfEmphasis, Strong as OfStrong, Struck, StruckTwice}
use Rattle.mdinline_emphasis.specs.Emphasis.{Run, style_of}
use Rattle.mdinline_emphasis.specs.Runs.{runs_in}
use Rattle.mdinline_links.proofs.Kept.{links-keep}
use Rattle.mdinline_links.proofs.Spans.{spans-have}
use Rattle.mdinline_links.specs.Kept.{IsKept, is_made_of}
use Rattle.mdinline_links.specs.Linked.{with_links}
use Rattle.mdinline_links.specs.Places.{Anywhere}
use Rattle.mddocument_laws.proofs.EmphasisEvents.{AreOfEmphasis, AreRuns, IsOfStyle, as-data-are, emphasis-are, spanning-are}

-- another name than that of a reference
abbrev pub IsOther : Name → Type 0
IsOther n = same_name n CharacterReference ≡ false

pub other-of-emphasis : AreOfEmphasis IsOther
other-of-emphasis OfEmphasis = (refl, refl, refl)
other-of-emphasis OfStrong = (refl, refl, refl)
other-of-emphasis Struck = (refl, refl, refl)
other-of-emphasis StruckTwice = (refl, refl, refl)

pub other-styles : (ss : List Style) → AllByRecursion (IsOfStyle IsOther) ss
other-styles [] = tt
other-styles (s ∷ ss) = (other-of-emphasis s, other-styles ss)

-- no name that links and images are made of is that of a reference
pub other-made : (n : Name) → is_made_of n ≡ true → IsOther n
other-made n made = false_from_ne_true (same_name n CharacterReference) (λ e. false≢true (subst (λ m. is_made_of m ≡ true) (same_name-true n CharacterReference e) made))

-- any run will do
abbrev pub AnyRun : Run → Type 0
AnyRun r = Unit {0}

pub any-runs : (rs : List Run) → AllByRecursion AnyRun rs
any-runs [] = tt
any-runs (r ∷ rs) = (tt, any-runs rs)

-- what holds of each event that has another name than that of a reference
module _ (P : Event → Type 0) (other : (e : Event) → same_name e.name CharacterReference ≡ false → P e) where
  abbrev Are : List Event → Type 0
  Are es = AllByRecursion P es

  -- each marker will do
  abbrev AnyMarker : Marker → Type 0
  AnyMarker m = Unit {0}

  any-pair : (o r : Run) → AnyMarker o.marker → AnyMarker r.marker → IsOfStyle IsOther (style_of o r)
  any-pair o r h k = other-of-emphasis (style_of o r)

  all-runs : (rs : List Run) → AreRuns P IsOther other refl AnyMarker any-pair rs
  all-runs [] = tt
  all-runs (r ∷ rs) = (record { on = tt; closed = other-styles r.closed; opened = other-styles r.opened }, all-runs rs)

  kept : IsKept Anywhere Are AnyRun
  kept = record {
    places = λ e es h. (tt, tt);
    nothing = tt;
    together = every-append P;
    span_around = λ n start end es is p q h. spanning-are P IsOther other refl n start end es (other-made n is) h;
    data_of_it = λ es h. as-data-are P IsOther other refl es;
    emphasis = λ texts rs rest t h b. emphasis-are P IsOther other refl AnyMarker any-pair texts rs rest t (all-runs rs) b;
  }

  -- Each event of a text with links is one of the text's, or is theirs
  pub links-are : (one : Bool) (bytes : List ℕ) (es : List Event) → Are es → Are (with_links one bytes es)
  links-are one bytes es h =
      let spans = spans-have Are (λ xs ys k. (every-front P xs ys k, every-back P xs ys k)) (length es) es h in
      links-keep Anywhere Are AnyRun kept one bytes es spans (any-runs (runs_in one bytes es))
