-- The events of documents tell the ranks of their headings: what is around leaf blocks and in their texts has no event that tells of them.
use Rattle.mddocument_laws.proofs.Prelude.{◌≡◌, ℕ, ◌≤◌, ◌⊎◌, List, [], ◌∷◌, ◌++◌, Bool, true, false, cond, Option, Some, map, arith, refl, sym, ap, ◌∙◌, subst, and_parts, flat_map-append, map-append, All-from_recursion, none-some, AllByRecursion, flat_map, ◌&&◌, IsSomeAnd, slice_get, every-append, every-map, Constructs, Event, IsVoidTight, is_enter, same_name, virtual, same_name-true, Given, IsDocument, Text, fitting_starts, text_from, all-begin, is-text, chain_text, lines_in, LeafBlock, atx_heading, leaf_blocks, setext_heading, flow_events, document_blocks, document_skeleton, shown_as_text, letters, inline_events, with_inlines, string_events, in_string_after, is_data, line_as_string, seats_between, with_strings_from, inlines-hold-text, skeleton-laws, content-ready as text-ready, strings-ready, events-tight, document_events, document_texts, is_defined_in, EachHeadingTellsItsRank, HasRank, HeadingsHaveRanks, HeadingsTellTheirRanks, enters_heading, leaf_blocks_of, rank_at, rank_of, ranks_in, not}
use Rattle.markdown_base.specs.declared.event.Content.TheVariants as content
use Rattle.markdown_base.specs.declared.event.Name.TheVariants as name
use Rattle.markdown_children.specs.Chains.{begins}
use Rattle.mdinline_text_machine.proofs.Paragraphs.Formed.{void-append}
use Rattle.mdblock_leaf_blocks.proofs.Marks.BlocksFormed.{blocks-are-formed}
use Rattle.mddocument.proofs.InContainers.Blocks.{blocks-are-celled, content-ready, shown-is, starts-are, texts-are}
use Rattle.mddocument.proofs.InContainers.CellsKeep.{cells-each}
use Rattle.mddocument.proofs.InContainers.Skeletons.{skeleton_chains}
use Rattle.mddocument_laws.proofs.ChildEvents.{children-are}
use Rattle.mddocument_laws.proofs.Chosen.{bare, chosen-behind, chosen-flat, chosen-of-children}
use Rattle.mddocument_laws.proofs.DocumentNames.{chain-in, defined-if-on, inline-inside, skeleton-inside, string-inside}
use Rattle.mddocument_laws.proofs.FlowHeads.{flow-plain, flow-ranks}
use Rattle.mddocument_laws.proofs.HeadChildren.{IsOtherIfLinked, heads-kept, other-linked, other-moved}
use Rattle.mddocument_laws.proofs.Heads.{AreOther, heads, ranks-heads}
use Rattle.mddocument_laws.proofs.Inside.{StandsInside, inside-other, is_of_heading}
use Rattle.mddocument_laws.proofs.Named.{Named}
use Rattle.mddocument_laws.proofs.Ranks.Blocks.{IsRanked}
use Rattle.mddocument_laws.proofs.Ranks.Texts.{same-marks, text-ranked}
use Rattle.mddocument_laws.proofs.Ranks.Told.{TellsItsRank}

other-names : (on : Constructs) (es : List Event) → Named (StandsInside on) es → AreOther es
other-names on es h = every-map (λ (e : Event). StandsInside on e.name) (λ (e : Event). is_of_heading e.name ≡ false) (λ e p. inside-other on e.name p) es h.all

-- ---- strings

module _ (on : Constructs) (t : ℕ) (bytes : List ℕ) where
  data-other : (e f : Event) → is_data e f ≡ true → AreOther (e ∷ f ∷ [])
  data-other e f h =
      let both = and_parts (is_enter e.kind && same_name e.name name.Data) (not (is_enter f.kind) && same_name f.name name.Data) h in
      let first = same_name-true e.name name.Data (and_parts (is_enter e.kind) (same_name e.name name.Data) both.0).1 in
      let second = same_name-true f.name name.Data (and_parts (not (is_enter f.kind)) (same_name f.name name.Data) both.1).1 in
      (ap is_of_heading first, (ap is_of_heading second, tt))

  strings-heads : (inside : Bool) (es : List Event) → heads (with_strings_from on t bytes inside es) ≡ heads es
  strings-heads inside [] = refl
  strings-heads inside (e ∷ []) = refl
  strings-heads inside (e ∷ f ∷ es) = by (inside && is_data e f) refl (strings-heads inside es) (strings-heads (in_string_after inside e) (f ∷ es))
    where
      line : List Event
      line = line_as_string on t bytes e.point f.point

      by : (b : Bool) → (inside && is_data e f) ≡ b → heads (with_strings_from on t bytes inside es) ≡ heads es → heads (with_strings_from on t bytes (in_string_after inside e) (f ∷ es)) ≡ heads (f ∷ es)
          → heads (cond b (line ++ with_strings_from on t bytes inside es) (e ∷ with_strings_from on t bytes (in_string_after inside e) (f ∷ es))) ≡ heads (e ∷ f ∷ es)
      by true h more other =
          chosen-behind is_of_heading line (with_strings_from on t bytes inside es) (other-names on line (string-inside on bytes (seats_between t bytes e.point f.point))) ∙ more
          ∙ sym (chosen-behind is_of_heading (e ∷ f ∷ []) es (data-other e f (and_parts inside (is_data e f) h).1))
      by false h more other = ap (λ l. cond (is_of_heading e.name) (bare e ∷ l) l) other

-- ---- documents

module _ (g : Given) (is : IsDocument g) where
  abbrev on : Constructs
  on = g.options.constructs

  abbrev s : Given
  s = shown_as_text g

  abbrev sk : List Event
  sk = skeleton_chains g

  abbrev starts : List ℕ
  starts = fitting_starts (Some content.Content) sk

  abbrev text : ℕ → Text
  text c = text_from s sk c

  abbrev flow : ℕ → List Event
  flow c = flow_events on s.bytes (text c).seats

  abbrev blocks : List Event
  blocks = document_blocks g

  abbrev inlines : List Event
  inlines = with_inlines (is_defined_in g) g blocks

  sk-other : AreOther sk
  sk-other = cells-each (λ (e : Event). is_of_heading e.name ≡ false) (λ e h. h) on (document_skeleton g) (other-names on (document_skeleton g) (skeleton-inside on g.bytes (virtual g.tab g.bytes)))

  inline-other : (c : ℕ) → AreOther (inline_events (is_defined_in g) g (chain_text g blocks c))
  inline-other c = other-names on (inline_events (is_defined_in g) g (chain_text g blocks c)) (inline-inside (is_defined_in g) g (chain_text g blocks c) (defined-if-on g) (chain-in g blocks c))

  string-other : (c : ℕ) → AreOther (string_events g (chain_text g inlines c))
  string-other c = other-names on (string_events g (chain_text g inlines c)) (string-inside on g.bytes (chain_text g inlines c).seats)

  all-linked : (es : List Event) → AreOther es → AllByRecursion IsOtherIfLinked es
  all-linked es h = every-map (λ (e : Event). is_of_heading e.name ≡ false) IsOtherIfLinked other-linked es h

  blocks-plain : AllByRecursion IsOtherIfLinked blocks
  blocks-plain =
      subst (AllByRecursion IsOtherIfLinked) (sym (blocks-are-celled skeleton-laws g is))
      (children-are IsOtherIfLinked other-moved (Some content.Content) sk flow (all-linked sk sk-other) (λ c. flow-plain on s.bytes (text c).seats))

  inlines-plain : AllByRecursion IsOtherIfLinked inlines
  inlines-plain = children-are IsOtherIfLinked other-moved (Some content.Text) blocks (λ c. inline_events (is_defined_in g) g (chain_text g blocks c)) blocks-plain (λ c. all-linked _ (inline-other c))

  blocks-heads : heads blocks ≡ flat_map (λ c. heads (flow c)) starts
  blocks-heads = ap heads (blocks-are-celled skeleton-laws g is) ∙ chosen-of-children is_of_heading g.tab s.bytes (Some content.Content) sk (content-ready skeleton-laws g is) flow sk-other

  inlines-heads : heads inlines ≡ heads blocks
  inlines-heads = heads-kept g.tab g.bytes (Some content.Text) blocks (text-ready skeleton-laws g is content.Text) (λ c. inline_events (is_defined_in g) g (chain_text g blocks c)) blocks-plain inline-other

  texts-heads : heads (document_texts g) ≡ heads inlines
  texts-heads = heads-kept g.tab g.bytes (Some content.String) inlines (strings-ready skeleton-laws g is (is_defined_in g)) (λ c. string_events g (chain_text g inlines c)) inlines-plain string-other

  -- the events of headings are those of the leaf blocks of each text, in order
  events-heads : heads (document_events g) ≡ heads (flat_map flow starts)
  events-heads = strings-heads on g.tab g.bytes false (document_texts g) ∙ texts-heads ∙ inlines-heads ∙ blocks-heads ∙ sym (chosen-flat is_of_heading flow starts)

  -- ---- their ranks
  same : (i mark : ℕ) → (mark ≡ 61) ⊎ (mark ≡ 45) → slice_get s.bytes i ≡ Some mark → slice_get g.bytes i ≡ Some mark
  same = same-marks (letters on (virtual g.tab g.bytes)) g.bytes

  ranked : (c : ℕ) → begins (Some content.Content) sk c ≡ true → AllByRecursion (IsRanked s.bytes g.bytes same on) (leaf_blocks on (lines_in (text c).seats))
  ranked c b = text-ranked s g.bytes same (text c) (is-text s sk (shown-is skeleton-laws g is) content.Content (content-ready skeleton-laws g is) c b)

  told : (blocks : List LeafBlock) → AllByRecursion (IsRanked s.bytes g.bytes same on) blocks → AllByRecursion (TellsItsRank s.bytes g.bytes) blocks
  told blocks h = every-map (IsRanked s.bytes g.bytes same on) (TellsItsRank s.bytes g.bytes) (λ block k. k.1) blocks h

  abbrev leafs : ℕ → List LeafBlock
  leafs c = leaf_blocks on (lines_in (text c).seats)

  flow-tight : (c : ℕ) → begins (Some content.Content) sk c ≡ true → IsVoidTight (flow c)
  flow-tight c b = (blocks-are-formed.blocks s (text c) (is-text s sk (shown-is skeleton-laws g is) content.Content (content-ready skeleton-laws g is) c b)).void_tight

  all-tight : (cs : List ℕ) → AllByRecursion (λ c. begins (Some content.Content) sk c ≡ true) cs → IsVoidTight (flat_map flow cs)
  all-tight [] b = λ k e at enter void. absurd (none-some e at)
  all-tight (c ∷ cs) b = void-append (flow c) (flat_map flow cs) (flow-tight c b.0) (all-tight cs b.1)

  all-ranks : (cs : List ℕ) → AllByRecursion (λ c. begins (Some content.Content) sk c ≡ true) cs → ranks_in g.bytes (flat_map flow cs) ≡ map Some (flat_map rank_of (flat_map leafs cs))
  all-ranks [] b = refl
  all-ranks (c ∷ cs) b =
      flow-ranks on s.bytes g.bytes (text c).seats (told (leafs c) (ranked c b.0)) (flat_map flow cs)
      ∙ ap (λ l. map Some (flat_map rank_of (leafs c)) ++ l) (all-ranks cs b.1)
      ∙ sym (map-append Some (flat_map rank_of (leafs c)) (flat_map rank_of (flat_map leafs cs)))
      ∙ ap (map Some) (sym (flat_map-append rank_of (leafs c) (flat_map leafs cs)))

  begin : AllByRecursion (λ c. begins (Some content.Content) sk c ≡ true) starts
  begin = all-begin s sk (shown-is skeleton-laws g is) content.Content (content-ready skeleton-laws g is)

  -- leaf blocks of chains are those of the skeleton's chains
  leaf-blocks-same : flat_map leafs starts ≡ leaf_blocks_of g
  leaf-blocks-same = ap (λ cs. flat_map leafs cs) (starts-are skeleton-laws g is) ∙ each (fitting_starts (Some content.Content) (document_skeleton g))
    where
      each : (cs : List ℕ) → flat_map leafs cs ≡ flat_map (λ c. leaf_blocks on (lines_in (text_from s (document_skeleton g) c).seats)) cs
      each [] = refl
      each (c ∷ cs) = λ i. leaf_blocks on (lines_in (texts-are skeleton-laws g is s c i).seats) ++ each cs i

  document-ranks : ranks_in g.bytes (document_events g) ≡ map Some (flat_map rank_of (leaf_blocks_of g))
  document-ranks =
      sym (ranks-heads g.bytes (document_events g) (events-tight skeleton-laws inlines-hold-text g is)) ∙ ap (ranks_in g.bytes) events-heads
      ∙ ranks-heads g.bytes (flat_map flow starts) (all-tight starts begin) ∙ all-ranks starts begin ∙ ap (λ l. map Some (flat_map rank_of l)) leaf-blocks-same

  all-within : (cs : List ℕ) → AllByRecursion (λ c. begins (Some content.Content) sk c ≡ true) cs → AllByRecursion HasRank (flat_map leafs cs)
  all-within [] b = tt
  all-within (c ∷ cs) b =
      every-append HasRank (leafs c) (flat_map leafs cs) (every-map (IsRanked s.bytes g.bytes same on) HasRank (λ block k. k.0) (leafs c) (ranked c b.0)) (all-within cs b.1)

  within : AllByRecursion HasRank (leaf_blocks_of g)
  within = subst (AllByRecursion HasRank) leaf-blocks-same (all-within starts begin)

pub headings-tell-their-ranks : HeadingsTellTheirRanks
headings-tell-their-ranks = document-ranks

pub headings-have-ranks : HeadingsHaveRanks
headings-have-ranks g is = All-from_recursion HasRank (leaf_blocks_of g) (within g is)

-- ---- each heading

abbrev IsRank : ℕ → Type 0
IsRank rank = (1 ≤ rank) × (rank ≤ 6)

abbrev IsTold : Option ℕ → Type 0
IsTold o = IsSomeAnd o IsRank

block-told : (block : LeafBlock) → HasRank block → AllByRecursion IsTold (map Some (rank_of block))
block-told (atx_heading line) h = (h, tt)
block-told (setext_heading rank lines underline) h = let most = h.1 in ((h.0, omega (arith, most)), tt)
block-told block h = tt

all-told : (blocks : List LeafBlock) → AllByRecursion HasRank blocks → AllByRecursion IsTold (map Some (flat_map rank_of blocks))
all-told [] h = tt
all-told (block ∷ blocks) h =
    subst (AllByRecursion IsTold) (sym (map-append Some (rank_of block) (flat_map rank_of blocks)))
    (every-append IsTold (map Some (rank_of block)) (map Some (flat_map rank_of blocks)) (block-told block h.0) (all-told blocks h.1))

module _ (bytes : List ℕ) where
  at-heading : (before : List Event) (e : Event) (behind : List Event) → AllByRecursion IsTold (ranks_in bytes (before ++ e ∷ behind)) → enters_heading e ≡ true → IsTold (rank_at bytes e behind)
  at-heading [] e behind h is = (subst (λ b. AllByRecursion IsTold (cond b (rank_at bytes e behind ∷ ranks_in bytes behind) (ranks_in bytes behind))) is h).0
  at-heading (x ∷ before) e behind h is = at-heading before e behind (by (enters_heading x) h) is
    where
      by : (b : Bool) → AllByRecursion IsTold (cond b (rank_at bytes x (before ++ e ∷ behind) ∷ ranks_in bytes (before ++ e ∷ behind)) (ranks_in bytes (before ++ e ∷ behind))) → AllByRecursion IsTold (ranks_in bytes (before ++ e ∷ behind))
      by true k = k.1
      by false k = k

pub each-heading-tells-its-rank : EachHeadingTellsItsRank
each-heading-tells-its-rank g is before behind e same enters =
    let all = subst (AllByRecursion IsTold) (sym (document-ranks g is)) (all-told (leaf_blocks_of g) (within g is)) in
    at-heading g.bytes before e behind (subst (λ es. AllByRecursion IsTold (ranks_in g.bytes es)) same all) enters
