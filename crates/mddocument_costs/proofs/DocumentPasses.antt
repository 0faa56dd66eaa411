-- The passes of a document are of the document: what they leave is what is read of it, and they make as many calls as any others.
use Rattle.mddocument_costs.proofs.Prelude.{List, None, Option, Some, [], ap, refl, subst, sym, ℕ, Bool, ◌+◌, ◌≡◌, ◌∙◌, ◌∷◌, Content, Event, Name, Next, start_configuration, EndsIn, Rules, Given, IsDocument, Subresult, fitting_starts, AreChildren, Child, IsSubtokenized, text_from, calls_of}
use Rattle.std.proofs.lemmas.Bool.Decides.{same_from_decides}
use Rattle.markdown_children.specs.Reads.{IsRead}
use Rattle.markdown_tokenizer.proofs.Readings.Bounds.{one-end}
use Rattle.markdown_tokenizer.specs.Reading.{Reading}
use Rattle.mdblock_leaf_rows.specs.FlowKnows.{flow_rules}
use Rattle.mdblock_table_marks.specs.Cells.{with_cells}
use Rattle.mdblock_definitions.specs.Blocks.{document_skeleton, shown_as_text}
use Rattle.mdinline_link_strings.specs.Strings.{with_strings}
use Rattle.mdinline_machine.specs.InlineRules.{inlines_rules}
use Rattle.mddocument.proofs.InContainers.Skeletons.{skeleton-laws}
use Rattle.mddocument.proofs.InContainers.Texts.{texts-at-once}
use Rattle.mddocument.specs.DocumentEvents.{document_texts_by}
use Rattle.mddocument_costs.proofs.DocumentCalls.{are-blocks}
use Rattle.mddocument_costs.specs.Chains.{calls_in}
use Rattle.mddocument_costs.specs.Documents.{Passes, PassesAreOfDocuments}

-- ---- a chain is read in one way, and so are all
module _ {R D : Type 0} (g : Given) (rules : Given → Rules R D) where
  one-reading : (events : List Event) (c : ℕ) (q r : Reading R D) → IsRead g rules events c q → IsRead g rules events c r → q ≡ r
  one-reading events c q r a b =
      let f : a.flag ≡ b.flag = same_from_decides a.flag b.flag a.flagged b.flagged in
      let some : Some a.start ≡ Some b.start = sym a.starts ∙ b.starts in
      let s : a.start ≡ b.start = cc in
      one-end g (rules g).step (text_from g events c) 0 (start_configuration b.flag) [] (Next b.start) q r
      (subst (λ (x : Bool). EndsIn g (rules g).step (text_from g events c) 0 (start_configuration x) [] (Next b.start) q) f
      (subst (λ (n : Name). EndsIn g (rules g).step (text_from g events c) 0 (start_configuration a.flag) [] (Next n) q) s a.ends))
      b.ends

  calls-same : (events : List Event) (cs : List ℕ) (xs ys : List Child) (h : AreChildren g rules events cs xs) (k : AreChildren g rules events cs ys) → calls_of g rules events cs xs h ≡ calls_of g rules events cs ys k
  calls-same events [] xs ys h k = refl
  calls-same events (c ∷ cs) [] ys h k = absurd h
  calls-same events (c ∷ cs) (x ∷ xs) [] h k = absurd k
  calls-same events (c ∷ cs) (x ∷ xs) (y ∷ ys) h k =
      let one : h.0.result ≡ k.0.result = one-reading events c h.0.result k.0.result h.0.read k.0.read in
      let more = calls-same events cs xs ys h.1 k.1 in
      (λ i. (one i).calls + more i)

  made-same : (wanted : Option Content) (old other new more : List Event) (sub found : Subresult) → old ≡ other → (h : IsSubtokenized g rules wanted old new sub) (k : IsSubtokenized g rules wanted other more found)
      → calls_in g rules wanted old new sub h ≡ calls_in g rules wanted other more found k
  made-same wanted old other new more sub found same h =
      subst (λ (es : List Event). (k : IsSubtokenized g rules wanted es more found) → calls_in g rules wanted old new sub h ≡ calls_in g rules wanted es more found k) same
      (λ k. calls-same old (fitting_starts wanted old) h.children k.children h.read k.read)

-- ---- so are the passes
module _ (g : Given) (is : IsDocument g) (defined : List ℕ → Bool) (passes : Passes g defined) where
  leaves-texts : passes.events ≡ document_texts_by defined g
  leaves-texts =
      texts-at-once skeleton-laws g is defined passes.events passes.more
      (subst (λ (es : List Event). IsSubtokenized g (inlines_rules defined) None es passes.events passes.more) (are-blocks g is defined passes) passes.texts)

pub passes-are : PassesAreOfDocuments
passes-are g defined passes is = record {
  blocks = are-blocks g is defined passes;
  events = ap (with_strings g.options.constructs g.tab g.bytes) (leaves-texts g is defined passes);
  calls = λ others. (
    made-same (shown_as_text g) flow_rules None (document_skeleton g) (document_skeleton g) passes.blocks others.blocks passes.found others.found refl passes.leaf_blocks others.leaf_blocks,
    made-same g (inlines_rules defined) None (with_cells g.options.constructs passes.blocks) (with_cells g.options.constructs others.blocks) passes.events others.events passes.more others.more
        (are-blocks g is defined passes ∙ sym (are-blocks g is defined others)) passes.texts others.texts,
  );
}
