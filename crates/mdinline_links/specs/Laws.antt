-- What is promised of links and images.
use Rattle.std.specs.Prelude.{◌≡◌, ◌+◌, ◌*◌, ◌/◌, ◌≤◌, ℕ, Bool, false, List, length}
use Rattle.std.specs.List.{AllByRecursion}
use Rattle.markdown_base.specs.declared.event.Event.{Event}
use Rattle.markdown_base.specs.declared.event.Name.TheVariants.{LabelEnd, LabelMarker}
use Rattle.markdown_base.proofs.Orders.{AreTight, InOrder}
use Rattle.markdown_base.specs.declared.event.Point.{Point}
use Rattle.markdown_base.specs.Events.{IsBalanced}
use Rattle.markdown_tokenizer.specs.Plain.{HaveNoLinks}
use Rattle.mdinline_emphasis.specs.Costs.{emphasis_a_run, markers_left}
use Rattle.mdinline_emphasis.specs.Places.{ArePlacesInside}
use Rattle.mdinline_emphasis.specs.Runs.{runs_in, with_emphasis}
use Rattle.mdinline_links.specs.Linked.{is_bracket, is_named, outermost_spans, with_links}
use Rattle.mdinline_links.specs.Places.{Anywhere, AreBytewise}

-- a span is no bracket, no marker alone and no end
abbrev pub IsNoBracket : List Event → Type 0
IsNoBracket span = (is_bracket span ≡ false) × (is_named LabelMarker span ≡ false) × (is_named LabelEnd span ≡ false)

-- of a balanced text without brackets emphasis alone is made
abbrev pub IsEmphasisAlone : Type 0
IsEmphasisAlone = (one_tilde : Bool) (bytes : List ℕ) (es : List Event) → IsBalanced es → AllByRecursion IsNoBracket (outermost_spans es) → with_links one_tilde bytes es ≡ with_emphasis one_tilde bytes es

-- Links and images leave a balanced list balanced, and a list without links without them
abbrev pub LinksKeepLists : Type 0
LinksKeepLists = (one_tilde : Bool) (bytes : List ℕ) (es : List Event) → (IsBalanced es → IsBalanced (with_links one_tilde bytes es)) × (HaveNoLinks es → HaveNoLinks (with_links one_tilde bytes es))

-- They leave the exit of each void span behind its enter
abbrev pub LinksKeepTight : Type 0
LinksKeepTight = (one_tilde : Bool) (bytes : List ℕ) (es : List Event) → IsBalanced es → AreTight es → AreTight (with_links one_tilde bytes es)

-- They leave events in order between two places, if each delimiter run goes byte by byte
abbrev pub LinksKeepOrder : Type 0
LinksKeepOrder = (one_tilde : Bool) (bytes : List ℕ) (es : List Event) (p q : Point) → IsBalanced es → AreBytewise Anywhere es → InOrder p es q → InOrder p (with_links one_tilde bytes es) q

-- They leave places in the document, with room behind them in their lines
abbrev pub LinksKeepPlaces : Type 0
LinksKeepPlaces = (one_tilde : Bool) (bytes : List ℕ) (es : List Event) → ArePlacesInside bytes es → ArePlacesInside bytes (with_links one_tilde bytes es)

-- What they may take for each event: five looks, and half of what emphasis takes for a run, which has two events
abbrev pub links_an_event : ℕ
links_an_event = 5 + (emphasis_a_run + 1) / 2

-- What links, images and emphasis may cost is linear in the events of a text, which stand in order inside the document, and its bytes
abbrev pub LinksCostLittle : Type 0
LinksCostLittle = (one_tilde : Bool) (bytes : List ℕ) (es : List Event) (p q : Point) → ArePlacesInside bytes es → InOrder p es q
    → (emphasis_a_run * length (runs_in one_tilde bytes es) + 3 * markers_left (runs_in one_tilde bytes es)) + 5 * length es ≤ links_an_event * length es + 3 * length bytes
