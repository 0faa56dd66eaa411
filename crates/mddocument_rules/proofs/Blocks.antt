-- The blocks of a document stand where they may: leaf blocks take the place of chunks, which stand where blocks may.
use Rattle.mddocument_rules.proofs.Prelude.{◌≡◌, ◌∙◌, ℕ, zero, suc, ◌+◌, ◌-◌, Bool, List, [], ◌∷◌, true, false, arith, drop, take, ◌&&◌, Enter, Exit, is_enter, same_name, same_name-true, is_in, text_names, Option, Some, None, map, refl, sym, ap, subst, false_from_ne_true, false≢true, AllByRecursion, between, option_and_then, option_map, Constructs, Event, Name, IsBalanced, relinked, with_ends, Seat, virtual, content_at, content_of, next_of, is_wanted, Given, IsDocument, Fits, chunk, begins, fitting_starts, IsReady, lines_in, flow_events, every-all, Row, list_names, document_blocks, document_skeleton, rows, sections, holds_blocks, BlocksStand}
use Rattle.markdown_base.specs.declared.event.Content.TheVariants as content
use Rattle.markdown_base.specs.declared.event.Link.{Link}
use Rattle.markdown_base.specs.declared.event.Kind.{Kind}
use Rattle.markdown_base.specs.declared.event.Name.TheVariants as name
use Rattle.mdinline_text_machine.proofs.Paragraphs.ChainEvents.{all-begin, is-content, is-text}
use Rattle.mdinline_text_machine.specs.ChainTexts.{chain_text}
use Rattle.mdblock_leaf_blocks.proofs.Marks.BlocksFormed.{blocks-are-formed}
use Rattle.mdblock_definitions.proofs.Covered.{rows_of}
use Rattle.mdblock_definitions.proofs.SectionsReady.{document-goes, marks}
use Rattle.std.proofs.Common.{◌<◌, ◌≤◌}
use Rattle.mdblock_table_marks.specs.CellPlaces.{is_cell_at}
use Rattle.mdblock_table_marks.specs.Cells.{as_text, celled, enters_cell}
use Rattle.mddocument.proofs.InContainers.Blocks.{blocks-are-celled, blocks_at, content-ready, shown, shown-is}
use Rattle.mddocument.proofs.InContainers.CellLinks.{next-same}
use Rattle.mddocument.proofs.InContainers.CellsKeep.{with-cells-by}
use Rattle.mddocument.proofs.InContainers.SkeletonCells.{skeleton-free, skeleton-gaps}
use Rattle.mddocument.proofs.InContainers.Skeletons.{skeleton-laws, skeleton_chains}
use Rattle.mddocument_laws.proofs.FlowNames.{flow-named-by}
use Rattle.mddocument_laws.proofs.Named.{weaker}
use Rattle.mddocument_laws.specs.Names.{may_be_named}
use Rattle.mddocument_rules.proofs.Definitions.{prefixes-are}
use Rattle.mddocument_rules.proofs.Gaps.{AllFree, IsFree, IsFreeName, all-free, between-kept, gap-ok}
use Rattle.mddocument_rules.proofs.LeafBlocks.{flow-stands}
use Rattle.mddocument_rules.proofs.Places.{ChunkFits, NotInList, Stands, StandsAs, blocks-apart, by-wanted, free-inside, free-may, walks-stand}
use Rattle.mddocument_rules.proofs.SectionGaps.{sections-gapped}
use Rattle.mddocument_rules.proofs.Skeletons.{skeleton-walks}
use Rattle.mddocument_rules.proofs.Walk.{IfEnter, Walks, behind_one, free-walks, low-stays}
use Rattle.mddocument_rules.proofs.Weave.{IsChild, children-walk}

-- ---- leaf blocks have no lists
module _ (on : Constructs) where
  abbrev without : Constructs
  without = record on { list_item = false }

  no-list : (n : Name) → may_be_named without n ≡ true → is_wanted list_names n ≡ false
  no-list n may = false_from_ne_true (is_wanted list_names n) (λ e. by-wanted (λ m. may_be_named without m ≡ true → ⊥) list_names n ((λ f. false≢true f), ((λ f. false≢true f), tt)) e may)

  flow-low : (bytes : List ℕ) (seats : List Seat) → AllByRecursion (λ (e : Event). is_wanted list_names e.name ≡ false) (flow_events on bytes seats)
  flow-low bytes seats = (weaker no-list (flow_events on bytes seats) (flow-named-by on without (λ block h. h) bytes seats)).all

-- ---- links do not matter
pub stands-relinked : (around : List Name) (f : ℕ → Option ℕ) (e : Event) → Stands around e → Stands around (relinked f e)
stands-relinked around f e h = by e.link h
  where
    by : (l : Option Link) → StandsAs around e.name (option_map (λ (x : Link). x.content) l) → StandsAs around e.name (option_map (λ (x : Link). x.content) (option_map (with_ends f) l))
    by None h = h
    by (Some l) h = h

-- free names stand anywhere but directly in a list
pub free-stand : {es : List Event} → IsBalanced es → AllFree es → (around : List Name) → NotInList around → Walks Stands around es
free-stand b h around ok =
    free-walks Stands NotInList IsFree (λ around e ok f. (free-may around e.name f.0 ok, subst (ChunkFits around) (sym (ap (option_map (λ (l : Link). l.content)) f.1)) tt)) (λ around e ok f. free-inside e.name f.0) b h around ok

-- ---- the texts of cells
-- the span that an event enters is that of a cell's text
in-cell : (k : Kind) (n : Name) (around : List Name) → (is_enter k && same_name n name.GfmTableCellText) ≡ true → is_in text_names (behind_one k n around) ≡ true
in-cell Enter n around h = subst (λ (m : Name). is_wanted text_names m ≡ true) (sym (same_name-true n name.GfmTableCellText h)) refl
in-cell Exit n around h = absurd (false≢true h)

as-text-stands : (around : List Name) (e : Event) → is_in text_names around ≡ true → (k : Kind) → IfEnter k (Stands around e) → IfEnter k (Stands around (as_text e))
as-text-stands around e t Enter h = (h.0, t)
as-text-stands around e t Exit h = h

celled-walk : (b : Bool) (around : List Name) (es : List Event) → (b ≡ true → is_in text_names around ≡ true) → Walks Stands around es → Walks Stands around (celled b es)
celled-walk b around [] t h = tt
celled-walk true around (e ∷ es) t h = (as-text-stands around e (t refl) e.kind h.0, celled-walk (enters_cell e) (behind_one e.kind e.name around) es (in-cell e.kind e.name around) h.1)
celled-walk false around (e ∷ es) t h = (h.0, celled-walk (enters_cell e) (behind_one e.kind e.name around) es (in-cell e.kind e.name around) h.1)

-- where no text of a cell begins, events are as they were
pub between-same : (b : Bool) (es : List Event) (from to : ℕ) → ((m : ℕ) → from ≤ m → m < to → is_cell_at b es m ≡ false) → between from to (celled b es) ≡ between from to es
between-same b es from to none = same b es from (to - from) (λ m low high. none m low (omega (arith, low, high)))
  where
    same : (b : Bool) (es : List Event) (k n : ℕ) → ((m : ℕ) → k ≤ m → m < k + n → is_cell_at b es m ≡ false) → take n (drop k (celled b es)) ≡ take n (drop k es)
    same b [] zero n none = refl
    same b [] (suc k) n none = refl
    same b (e ∷ es) zero zero none = refl
    same true (e ∷ es) zero (suc n) none = absurd (false≢true (sym (none 0 (omega arith) (omega arith))))
    same false (e ∷ es) zero (suc n) none = ap (λ l. e ∷ l) (same (enters_cell e) es zero n (λ m low high. none (suc m) (omega arith) (omega (arith, high))))
    same b (e ∷ es) (suc k) n none = same (enters_cell e) es k n (λ m low high. none (suc m) (omega (arith, low)) (omega (arith, high)))

-- ---- a document
module _ (g : Given) (is : IsDocument g) where
  abbrev sk : List Event
  sk = document_skeleton g

  abbrev bare : List Event
  bare = skeleton_chains g

  abbrev Roomy : List Name → Type 0
  Roomy around = holds_blocks around ≡ true

  bare-ready : IsReady g.tab g.bytes (Some content.Content) bare
  bare-ready = skeleton-laws.ready g is

  -- chunks of a skeleton stand where blocks may
  chunk-fits : (k : ℕ) (at : Fits (Some content.Content) bare k) (around : List Name) → Stands around (chunk g.tab g.bytes (Some content.Content) bare bare-ready k at).enter → Roomy around
  chunk-fits k at around h =
      let c = chunk g.tab g.bytes (Some content.Content) bare bare-ready k at in
      let as_content : content_of c.enter ≡ Some content.Content = sym (ap (option_and_then content_of) c.enter_at) ∙ is-content content.Content (content_at bare k) at in
      subst (ChunkFits around) as_content h.1

  -- up to the next chunk of a chain names are free, and no text of a cell is there
  gap-names : (k d : ℕ) → next_of sk k ≡ Some d → AllFree (between (k + 2) d sk)
  gap-names k d next =
      let on = g.options.constructs in
      let ss = sections on (rows on (lines_in (virtual g.tab g.bytes))) in
      let free = sections-gapped g.bytes IsFreeName (λ p es. refl) (λ (row : Row). Unit {0}) (λ row u. prefixes-are (between-kept g.bytes) row.went_on row.line) ss (every-all (λ (row : Row). Unit {0}) (λ row. tt) (rows_of ss)) in
      all-free (between (k + 2) d sk) (gap-ok IsFreeName (λ e j i previous ms h. h) (marks g is) (document-goes g is).runs free k d next)

  bare-free : (k d : ℕ) → next_of bare k ≡ Some d → AllFree (between (k + 2) d bare)
  bare-free k d next = with-cells-by (λ es. next_of es k ≡ Some d → AllFree (between (k + 2) d es)) g.options.constructs sk with-cells (gap-names k d) next
    where
      with-cells : next_of (celled false sk) k ≡ Some d → AllFree (between (k + 2) d (celled false sk))
      with-cells h =
          let old : next_of sk k ≡ Some d = sym (next-same false sk k (skeleton-free g is)) ∙ h in
          subst AllFree (sym (between-same false sk (k + 2) d (skeleton-gaps g is k d old))) (gap-names k d old)

  gap : (k d : ℕ) → Fits (Some content.Content) bare k → next_of bare k ≡ Some d → (around within : List Name) → Roomy around → Walks Stands around (between (k + 2) d bare) → NotInList within → Walks Stands within (between (k + 2) d bare)
  gap k d at next around within r w ok = free-stand (bare-ready.gaps k d at next).balanced (bare-free k d next) within ok

  -- the skeleton stands, and the texts of its cells stand where texts may
  bare-walk : Walks Stands [] bare
  bare-walk = with-cells-by (Walks Stands []) g.options.constructs sk (celled-walk false [] sk (λ b. absurd (false≢true b)) (skeleton-walks g)) (skeleton-walks g)

  abbrev Child : List Event → Type 0
  Child es = IsChild Stands stands-relinked Roomy NotInList es

  leaf-blocks : (cs : List ℕ) → AllByRecursion (λ c. begins (Some content.Content) bare c ≡ true) cs → AllByRecursion Child (map (blocks_at skeleton-laws g is) cs)
  leaf-blocks [] b = tt
  leaf-blocks (c ∷ cs) b =
      let s = shown skeleton-laws g is in
      let on = g.options.constructs in
      let text = chain_text s bare c in
      let balanced = (blocks-are-formed.blocks s text (is-text s bare (shown-is skeleton-laws g is) content.Content (content-ready skeleton-laws g is) c b.0)).balanced in (
        record {
          balanced = balanced;
          walks = λ around r. flow-stands on s.bytes text.seats around r;
          stays = λ around r. low-stays NotInList (λ (e : Event). is_wanted list_names e.name ≡ false) (λ around e h. h) balanced (flow-low on s.bytes text.seats) around (blocks-apart around r);
        },
        leaf-blocks cs b.1,
      )

  pub blocks-walk : Walks Stands [] (document_blocks g)
  blocks-walk =
      let cs = fitting_starts (Some content.Content) bare in
      subst (Walks Stands []) (sym (blocks-are-celled skeleton-laws g is))
      (children-walk Stands stands-relinked Roomy NotInList g.tab g.bytes (Some content.Content) bare bare-ready chunk-fits gap (map (blocks_at skeleton-laws g is) cs)
      (leaf-blocks cs (all-begin (shown skeleton-laws g is) bare (shown-is skeleton-laws g is) content.Content (content-ready skeleton-laws g is))) bare-walk)

pub blocks-stand : BlocksStand
blocks-stand g is = walks-stand [] (document_blocks g) (blocks-walk g is)
