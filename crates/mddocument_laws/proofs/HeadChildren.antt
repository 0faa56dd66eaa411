-- The events of headings that tell ranks, where chains of chunks are replaced by what they are read as: those of the list stay, if no chunk is one.
use Rattle.mddocument_laws.proofs.Prelude.{◌≡◌, ℕ, List, Option, Some, None, map, false≢true, AllByRecursion, IsSome, every-get, Content, Event, Name, relinked, with_ends, Fits, chunk, fitting_starts, with_children, IsReady, false}
use Rattle.std.specs.Option.{option_map}
use Rattle.markdown_base.specs.declared.event.Link.{Link}
use Rattle.mddocument_laws.proofs.Chosen.{chosen-stay}
use Rattle.mddocument_laws.proofs.Heads.{AreOther, heads}
use Rattle.mddocument_laws.proofs.Inside.{is_of_heading}

-- ---- events with links are none of headings

-- by its link, an event is none of a heading
abbrev pub IsOtherBy : Option Link → Name → Type 0
IsOtherBy None n = Unit {0}
IsOtherBy (Some l) n = is_of_heading n ≡ false

abbrev pub IsOtherIfLinked : Event → Type 0
IsOtherIfLinked e = IsOtherBy e.link e.name

pub other-linked : (e : Event) → is_of_heading e.name ≡ false → IsOtherIfLinked e
other-linked e h = by e.link
  where
    by : (o : Option Link) → IsOtherBy o e.name
    by None = tt
    by (Some l) = h

pub other-moved : (f : ℕ → Option ℕ) (e : Event) → IsOtherIfLinked e → IsOtherIfLinked (relinked f e)
other-moved f e h = by e.link h
  where
    by : (o : Option Link) → IsOtherBy o e.name → IsOtherBy (option_map (with_ends f) o) e.name
    by None k = tt
    by (Some l) k = k

is-other : (o : Option Link) (n : Name) → IsSome o → IsOtherBy o n → is_of_heading n ≡ false
is-other None n some h = absurd (false≢true some)
is-other (Some l) n some h = h

-- ---- a chunk is none of a heading
module _ (tab : ℕ) (bytes : List ℕ) (wanted : Option Content) (events : List Event) (ready : IsReady tab bytes wanted events) (of_chain : ℕ → List Event) where
  -- A list keeps its heads, if its chains are read as other events
  pub heads-kept : AllByRecursion IsOtherIfLinked events → ((c : ℕ) → AreOther (of_chain c)) → heads (with_children wanted events (map of_chain (fitting_starts wanted events))) ≡ heads events
  heads-kept plain other =
      let others : (k : ℕ) (fit : Fits wanted events k) → is_of_heading (chunk tab bytes wanted events ready k fit).enter.name ≡ false = λ k fit.
      let c = chunk tab bytes wanted events ready k fit in
      is-other c.enter.link c.enter.name c.linked.linked (every-get IsOtherIfLinked events k c.enter plain c.enter_at) in
      chosen-stay is_of_heading tab bytes wanted events ready of_chain others other
