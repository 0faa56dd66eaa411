-- The blocks of a document have no spans of inline text: no container, no definition and no leaf block is one. So they have no links.
use Rattle.mddocument_rules.proofs.Prelude.{◌≡◌, ◌∙◌, ℕ, true, false, List, Some, refl, subst, sym, false_from_ne_true, false≢true, AllByRecursion, Constructs, Event, Name, Seat, is_wanted, inline_names, virtual, Given, document_blocks, Bool}
use Rattle.markdown_base.specs.declared.event.Content.TheVariants.{Content}
use Rattle.markdown_base.specs.declared.event.Name.TheVariants as name
use Rattle.markdown_children.specs.Reads.{text_from}
use Rattle.mdblock_definitions.specs.Skeleton.{skeleton}
use Rattle.mdblock_leaf_blocks.specs.LeafBlocks.{Line}
use Rattle.mdblock_text_lines.proofs.SectionsAreThose.{skeleton-is-that}
use Rattle.mdblock_text_lines.specs.DocumentBlocks.{document_leaf_blocks, has_number, text_lines}
use Rattle.mdblock_text_lines.specs.DocumentSections.{document_skeleton}
use Rattle.mdblock_text_lines.specs.TextLines.{flow_events}
use Rattle.mddocument.proofs.InContainers.CellsKeep.{cells-each}
use Rattle.mddocument_laws.proofs.ChildNames.{children-named}
use Rattle.mddocument_laws.proofs.Chosen.{AreOther}
use Rattle.mddocument_laws.proofs.FlowNames.{told-named-by}
use Rattle.mddocument_laws.proofs.Named.{Named, weaker}
use Rattle.mddocument_laws.proofs.PlainNames.{bare-plain, plain-may}
use Rattle.mddocument_laws.proofs.RowNames.{AreStillOn}
use Rattle.mddocument_laws.proofs.SkeletonNames.{skeleton-named-by}
use Rattle.mddocument_laws.specs.Names.{may_be_named}
use Rattle.markdown_base.proofs.Balanced.{same_name-true}
use Rattle.mddocument_rules.proofs.FlatLinks.{is_link}
use Rattle.mddocument_rules.proofs.Places.{by-wanted}
use Rattle.mddocument_rules.specs.SegmentLaws.{leading_names}

-- constructs of inline text are off
abbrev pub without : Constructs → Constructs
without on = record on { attention = false; autolink = false; code_text = false; gfm_strikethrough = false; hard_break_escape = false; hard_break_trailing = false; html_text = false; label_end = false }

-- ---- the blocks, and names that no span has where constructs of inline text are off
-- neither containers and definitions nor leaf blocks depend on whether they are on
module _ (names : List Name) (off : (on : Constructs) → AllByRecursion (λ (m : Name). may_be_named (without on) m ≡ true → ⊥) names) where
  abbrev IsOther : Name → Type 0
  IsOther n = is_wanted names n ≡ false

  other-name : (on : Constructs) (n : Name) → may_be_named (without on) n ≡ true → IsOther n
  other-name on n may = false_from_ne_true (is_wanted names n) (λ e. by-wanted (λ m. may_be_named (without on) m ≡ true → ⊥) names n (off on) e may)

  skeleton-other : (on : Constructs) (bytes : List ℕ) (seats : List Seat) → Named IsOther (skeleton on bytes seats)
  skeleton-other on bytes seats =
      let still : AreStillOn on (without on) = record { quotes = λ h. h; items = λ h. h; definitions = λ h. h; tables = λ h. h; footnotes = λ h. h } in
      weaker (λ n h. other-name on n (plain-may (without on) n (bare-plain (without on) n h))) (skeleton on bytes seats) (skeleton-named-by (without on) bytes on still seats)

  flow-other : (on : Constructs) (is_text : Line → Bool) (bytes : List ℕ) (seats : List Seat) → Named IsOther (flow_events on is_text bytes seats)
  flow-other on is_text bytes seats = weaker (other-name on) (flow_events on is_text bytes seats) (told-named-by on (without on) (λ block h. h) is_text bytes seats)

  leaf-blocks-are-named : (g : Given) → Named IsOther (document_leaf_blocks g)
  leaf-blocks-are-named g =
      let on = g.options.constructs in
      let is_text = has_number (text_lines on (virtual g.tab g.bytes)) in
      let bare = document_skeleton g in
      children-named IsOther (Some Content) bare (λ c. flow_events on is_text g.bytes (text_from g bare c).seats) (subst (Named IsOther) (sym (skeleton-is-that g)) (skeleton-other on g.bytes (virtual g.tab g.bytes))) (λ c. flow-other on is_text g.bytes (text_from g bare c).seats)

  pub blocks-named : (g : Given) → Named IsOther (document_blocks g)
  blocks-named g = record { all = cells-each (λ (e : Event). IsOther e.name) (λ e h. h) g.options.constructs (document_leaf_blocks g) (leaf-blocks-are-named g).all }

not-on : false ≡ true → ⊥
not-on f = false≢true f

inline-named : (g : Given) → Named (λ n. is_wanted inline_names n ≡ false) (document_blocks g)
inline-named = blocks-named inline_names (λ on. (not-on, (not-on, (not-on, (not-on, (not-on, (not-on, (not-on, (not-on, (not-on, (not-on, tt)))))))))))

pub blocks-not-inline : (g : Given) → AllByRecursion (λ (e : Event). is_wanted inline_names e.name ≡ false) (document_blocks g)
blocks-not-inline g = (inline-named g).all

-- nor have they names by which it is found where a link leads
pub blocks-minor : (g : Given) → AllByRecursion (λ (e : Event). is_wanted leading_names e.name ≡ false) (document_blocks g)
blocks-minor g = (blocks-named leading_names (λ on. (not-on, (not-on, (not-on, (not-on, (not-on, tt)))))) g).all

pub blocks-linkless : (g : Given) → AreOther is_link (document_blocks g)
blocks-linkless g = (weaker (λ n h. false_from_ne_true (is_link n) (λ e. false≢true (sym h ∙ subst (λ m. is_wanted inline_names m ≡ true) (sym (same_name-true n name.Link e)) refl))) (document_blocks g) (inline-named g)).all
