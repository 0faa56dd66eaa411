-- From a chunk on, row by row up to the end of a paragraph.
use Rattle.std.proofs.Common.{◌≡◌, ℕ, suc, ◌+◌, ◌<◌, List, [], ◌∷◌, ◌++◌, Some, None, inl, inr, append_assoc, length, refl, sym, ap, ◌∙◌, subst, arith}
use Rattle.std.specs.List.{AllByRecursion, between, flat_map}
use Rattle.markdown_base.specs.declared.event.Content.TheVariants.{Text as TextContent}
use Rattle.markdown_base.specs.declared.event.Event.{Event}
use Rattle.markdown_base.specs.declared.event.Kind.TheVariants.{Enter, Exit}
use Rattle.markdown_base.specs.declared.event.Name.TheVariants.{BlockQuoteMarker, Data}
use Rattle.markdown_base.specs.Virtual.{Seat, end_after, virtual}
use Rattle.markdown_edits.specs.Links.{content_at, next_of}
use Rattle.markdown_children.specs.Chains.{chain_of}
use Rattle.markdown_children.specs.LawStatements.{AreSpaced, IsWholeFrom, LeadOnFrom}
use Rattle.markdown_children.specs.Ready.{IsReady}
use Rattle.markdown_tokenizer.specs.Text.{Given}
use Rattle.mdconstructs_machines.specs.ParagraphEvents.{Marked, chunk_at, with_links}
use Rattle.mdconstructs_machines.specs.Spans.{event, leaf}
use Rattle.mdinline_text_machine.proofs.Paragraphs.ChunkPairs.{FollowsChunk, IsMark}
use Rattle.mdinline_text_machine.proofs.Paragraphs.ChunksReady.{between-none, between-two}
use Rattle.mdinline_text_machine.proofs.ParagraphTexts.MarksAt.{Ahead, At, chunk-content, chunk-next, chunk-there, later-begins-not, mark-here, mark-next, pass-plain, plain-begins-not, plain-content, starts-pass, starts_in}
use Rattle.mdinline_text_machine.proofs.ParagraphTexts.Rows.{HaveChunks, RestOf, Row, behind, chunk_marks, go-on, last-chunk, no-mark, no-next, none-leads, rows_all, rows_marks, rows_text, rows_with, seam}

pub chunks-rest : (r : Row) (rows : List Row) → HaveChunks (r ∷ rows) → HaveChunks rows
chunks-rest r [] h = tt
chunks-rest r (q ∷ rows) h = h.1

module _ (g : Given) (some : 0 < g.tab) (all : List Marked) (ready : IsReady g.tab g.bytes (Some TextContent) (with_links all))
    (pairs : (k d : ℕ) → next_of (with_links all) k ≡ Some d → FollowsChunk (with_links all) k d) (of_chain : ℕ → List Event) where
  abbrev events : List Event
  events = with_links all

  abbrev Rest : (k : ℕ) (ks cs : List ℕ) (s : Seat) (ss : List Seat) (rows : List Row) (x : Event) (ms : List Marked) → Type 0
  Rest k ks cs s ss rows x ms = RestOf g some all ready pairs of_chain k ks cs s ss rows x ms

  abbrev marks_of : (b n : ℕ) → Seat → List Seat → List Marked → List Marked
  marks_of b n s ss tail = chunk_marks g some all ready pairs of_chain b n s ss tail

  -- the chains behind are spaced
  abbrev Spaced : ℕ → List ℕ → List ℕ → Type 0
  Spaced i ks cs = AreSpaced i (ks ++ flat_map (chain_of events) cs) (length events)

  -- no chunk is behind, and no mark
  stop : (rows : List Row) (k b n : ℕ) (ks cs : List ℕ) (s : Seat) (ss : List Seat) (x : Event) (ms : List Marked) (pre more : List Seat) → At all k (marks_of b n s ss ((x, None) ∷ ms)) → x.kind ≡ Exit → x.link ≡ None
      → LeadOnFrom events k ks → Spaced (k + 2) ks cs → AllByRecursion (IsWholeFrom events) cs → starts_in all (k + 2) (suc (length ms)) ≡ cs → virtual g.tab g.bytes ≡ pre ++ ((s ∷ ss) ++ more)
      → rows_text rows ≡ [] → rows_with g.bytes rows [] ≡ [] → Rest k ks cs s ss rows x ms
  stop rows k b n ks cs s ss x ms pre more at exits alone lead spaced whole starts all_are text with =
      let at2 = behind g some all ready pairs of_chain k b n s ss ((x, None) ∷ ms) at in
      let content = chunk-content all k (event g.bytes Enter Data s.point) b n _ at in
      let none = none-leads g some all ready pairs of_chain k ks (λ d. no-next g some all ready pairs of_chain k d content (plain-content all (k + 2) x ms alone at2)
      (λ mark. absurd (no-mark g some all ready pairs of_chain (k + 2) x ms exits at2 mark))) lead in
      let ahead : Ahead all (k + 2) (suc (length ms)) cs = record { starts = starts; whole = whole; spaced = subst (λ l. Spaced (k + 2) l cs) none spaced } in
      let p = pass-plain g some all ready pairs of_chain (k + 2) x ms cs alone at2 ahead in
      last-chunk g some all ready pairs of_chain k b n ks cs s ss rows x ms ((x, None) ∷ ms) pre more [] (k + 2 + 1) at none all_are text with p.at p.ahead p.left

  -- a mark is behind, and no chunk
  stop-mark : (k b n : ℕ) (ks cs : List ℕ) (s : Seat) (ss : List Seat) (q : Seat) (qs : List Seat) (x : Event) (ms : List Marked) (pre more : List Seat)
      → At all k (marks_of b n s ss ((event g.bytes Enter BlockQuoteMarker q.point, None) ∷ (event g.bytes Exit BlockQuoteMarker (end_after q.end qs), None) ∷ (x, None) ∷ ms)) → x.link ≡ None
      → LeadOnFrom events k ks → Spaced (k + 2) ks cs → AllByRecursion (IsWholeFrom events) cs → starts_in all (k + 2) (suc (suc (suc (length ms)))) ≡ cs → virtual g.tab g.bytes ≡ pre ++ ((s ∷ ss) ++ more)
      → Rest k ks cs s ss ((q ∷ qs, []) ∷ []) x ms
  stop-mark k b n ks cs s ss q qs x ms pre more at alone lead spaced whole starts all_are =
      let e = event g.bytes Enter BlockQuoteMarker q.point in
      let f = event g.bytes Exit BlockQuoteMarker (end_after q.end qs) in
      let tail : List Marked = (e, None) ∷ (f, None) ∷ (x, None) ∷ ms in
      let at2 = behind g some all ready pairs of_chain k b n s ss tail at in
      let at4 = mark-next all (k + 2 + 1) (f, None) ((x, None) ∷ ms) (mark-next all (k + 2) (e, None) ((f, None) ∷ (x, None) ∷ ms) at2) in
      let four : k + 4 ≡ k + 2 + 1 + 1 = omega arith in
      let content = chunk-content all k (event g.bytes Enter Data s.point) b n _ at in
      let none = none-leads g some all ready pairs of_chain k ks (λ d. no-next g some all ready pairs of_chain k d content (plain-content all (k + 2) e ((f, None) ∷ (x, None) ∷ ms) refl at2)
      (λ mark. ap (content_at events) four ∙ plain-content all (k + 2 + 1 + 1) x ms alone at4)) lead in
      let ahead : Ahead all (k + 2) (suc (suc (suc (length ms)))) cs = record { starts = starts; whole = whole; spaced = subst (λ l. Spaced (k + 2) l cs) none spaced } in
      let p1 = pass-plain g some all ready pairs of_chain (k + 2) e ((f, None) ∷ (x, None) ∷ ms) cs refl at2 ahead in
      let p2 = pass-plain g some all ready pairs of_chain (k + 2 + 1) f ((x, None) ∷ ms) cs refl p1.at p1.ahead in
      let p3 = pass-plain g some all ready pairs of_chain (k + 2 + 1 + 1) x ms cs alone p2.at p2.ahead in
      last-chunk g some all ready pairs of_chain k b n ks cs s ss ((q ∷ qs, []) ∷ []) x ms tail pre more (e ∷ f ∷ []) (k + 2 + 1 + 1 + 1) at none all_are refl refl p3.at p3.ahead
      (p1.left ∙ ap (λ l. e ∷ l) (p2.left ∙ ap (λ l. f ∷ l) p3.left))

  -- the next chunk is at d
  next-chunk : (k b n d : ℕ) (ks cs : List ℕ) (s : Seat) (ss q : List Seat) (t : Seat) (ts : List Seat) (rows : List Row) (x : Event) (ms tail : List Marked) (pre more : List Seat) → At all k (marks_of b n s ss tail)
      → (i : ℕ) × (chunk_at all (b, suc n) ≡ Some i) → ((i : ℕ) → next_of events k ≡ Some i → i ≡ d) → virtual g.tab g.bytes ≡ (pre ++ (s ∷ ss)) ++ (q ++ ((t ∷ ts) ++ (rows_all rows ++ more)))
      → between (k + 2) d events ≡ leaf g.bytes BlockQuoteMarker q → LeadOnFrom events k ks → Spaced (k + 2) ks cs
      → ((ks : List ℕ) → LeadOnFrom events d ks → Spaced (d + 2) ks cs → Rest d ks cs t ts rows x ms) → Rest k ks cs s ss ((q, t ∷ ts) ∷ rows) x ms
  next-chunk k b n d [] cs s ss q t ts rows x ms tail pre more at there where_it_is whole gap lead spaced then =
      let next = chunk-next all k (event g.bytes Enter Data s.point) b n _ at in
      let no : None ≡ Some there.0 = sym lead ∙ next ∙ there.1 in
      absurd (cc)
  next-chunk k b n d (i ∷ ks) cs s ss q t ts rows x ms tail pre more at there where_it_is whole gap lead spaced then =
      let e : i ≡ d = where_it_is i lead.0 in
      let rest = then ks (subst (λ i. LeadOnFrom events i ks) e lead.2) (subst (λ i. Spaced (i + 2) ks cs) e spaced.1) in
      subst (λ i. Rest k (i ∷ ks) cs s ss ((q, t ∷ ts) ∷ rows) x ms) (sym e) (go-on g some all ready pairs of_chain k b n d ks cs s ss q t ts rows x ms tail pre more at whole gap rest)

  -- no chain begins at a later chunk
  chunk-passed : (i b n d : ℕ) (t : Seat) (ts : List Seat) (tail : List Marked) (cs : List ℕ) → chunk_at all (b, n) ≡ Some d → At all i (marks_of b (suc n) t ts tail) → starts_in all i (suc (suc (length tail))) ≡ cs
      → starts_in all (i + 2) (length tail) ≡ cs
  chunk-passed i b n d t ts tail cs before at starts =
      let two : i + 1 + 1 ≡ i + 2 = omega arith in
      let first = sym (starts-pass all i (suc (length tail)) (later-begins-not all i _ b n d _ before at)) ∙ starts in
      let exit = event g.bytes Exit Data (end_after t.end ts) in
      let second = sym (starts-pass all (i + 1) (length tail) (plain-begins-not all (i + 1) exit tail refl (mark-next all i _ _ at))) ∙ first in
      subst (λ j. starts_in all j (length tail) ≡ cs) two second

  pub rest-of : (rows : List Row) (k b n : ℕ) (ks cs : List ℕ) (s : Seat) (ss : List Seat) (x : Event) (ms : List Marked) (pre more : List Seat) → At all k (marks_of b n s ss (rows_marks g.bytes b (suc n) rows ++ (x, None) ∷ ms))
      → x.kind ≡ Exit → x.link ≡ None → HaveChunks rows → LeadOnFrom events k ks → Spaced (k + 2) ks cs → AllByRecursion (IsWholeFrom events) cs
      → starts_in all (k + 2) (length (rows_marks g.bytes b (suc n) rows ++ (x, None) ∷ ms)) ≡ cs → virtual g.tab g.bytes ≡ pre ++ ((s ∷ ss) ++ (rows_all rows ++ more)) → Rest k ks cs s ss rows x ms
  rest-of [] k b n ks cs s ss x ms pre more at exits alone chunks lead spaced whole starts all_are = stop [] k b n ks cs s ss x ms pre more at exits alone lead spaced whole starts all_are refl refl
  rest-of (([], []) ∷ []) k b n ks cs s ss x ms pre more at exits alone chunks lead spaced whole starts all_are = stop (([], []) ∷ []) k b n ks cs s ss x ms pre more at exits alone lead spaced whole starts all_are refl refl
  rest-of ((q ∷ qs, []) ∷ []) k b n ks cs s ss x ms pre more at exits alone chunks lead spaced whole starts all_are =
      stop-mark k b n ks cs s ss q qs x ms pre (rows_all ((q ∷ qs, []) ∷ []) ++ more) at alone lead spaced whole starts all_are
  rest-of (([], []) ∷ r ∷ rows) k b n ks cs s ss x ms pre more at exits alone chunks lead spaced whole starts all_are = absurd chunks.0
  rest-of ((q ∷ qs, []) ∷ r ∷ rows) k b n ks cs s ss x ms pre more at exits alone chunks lead spaced whole starts all_are = absurd chunks.0
  rest-of (([], t ∷ ts) ∷ rows) k b n ks cs s ss x ms pre more at exits alone chunks lead spaced whole starts all_are =
      let tail = rows_marks g.bytes b (suc (suc n)) rows ++ (x, None) ∷ ms in
      let all2 = marks_of b (suc n) t ts tail in
      let at2 = behind g some all ready pairs of_chain k b n s ss all2 at in
      let before = chunk-there all k (event g.bytes Enter Data s.point) b n _ at in
      let there = chunk-there all (k + 2) (event g.bytes Enter Data t.point) b (suc n) _ at2 in
      let content = chunk-content all (k + 2) (event g.bytes Enter Data t.point) b (suc n) _ at2 in
      let no_mark : IsMark events (k + 2) → ⊥ = λ mark.
      let here = mark.enter_at in
      let free = mark.are.enter_alone in
      let none : content_at events (k + 2) ≡ None = rw (here, free) refl in
      let no : Some TextContent ≡ None = sym content ∙ none in
      absurd (cc) in
      let where_it_is : (i : ℕ) → next_of events k ≡ Some i → i ≡ k + 2 = λ i next. elim (pairs k i next) [ inl two ↦ two.0 | inr four ↦ absurd (no_mark four.1) ] in
      let wholeq = all_are ∙ seam pre (s ∷ ss) [] (t ∷ ts) (rows_all rows) more in
      next-chunk k b n (k + 2) ks cs s ss [] t ts rows x ms all2 pre more at there where_it_is wholeq (between-none events (k + 2) (k + 2) refl) lead spaced
      (λ ks2 lead2 spaced2. rest-of rows (k + 2) b (suc n) ks2 cs t ts x ms (pre ++ (s ∷ ss)) more at2 exits alone (chunks-rest ([], t ∷ ts) rows chunks) lead2 spaced2 whole
      (chunk-passed (k + 2) b n before.0 t ts tail cs before.1 at2 starts) wholeq)
  rest-of ((q ∷ qs, t ∷ ts) ∷ rows) k b n ks cs s ss x ms pre more at exits alone chunks lead spaced whole starts all_are =
      let e = event g.bytes Enter BlockQuoteMarker q.point in
      let f = event g.bytes Exit BlockQuoteMarker (end_after q.end qs) in
      let tail = rows_marks g.bytes b (suc (suc n)) rows ++ (x, None) ∷ ms in
      let all4 = marks_of b (suc n) t ts tail in
      let d = k + 2 + 1 + 1 in
      let all2 : List Marked = (e, None) ∷ (f, None) ∷ all4 in
      let at2 = behind g some all ready pairs of_chain k b n s ss all2 at in
      let at3 = mark-next all (k + 2) (e, None) ((f, None) ∷ all4) at2 in
      let at4 = mark-next all (k + 2 + 1) (f, None) all4 at3 in
      let before = chunk-there all k (event g.bytes Enter Data s.point) b n _ at in
      let there = chunk-there all d (event g.bytes Enter Data t.point) b (suc n) _ at4 in
      let content = chunk-content all k (event g.bytes Enter Data s.point) b n _ at in
      let alone2 = plain-content all (k + 2) e ((f, None) ∷ all4) refl at2 in
      let not_two : (i : ℕ) → next_of events k ≡ Some i → i ≡ k + 2 → ⊥ = λ i next two.
      let no : Some TextContent ≡ None = sym content ∙ ready.one_content k i next ∙ ap (content_at events) two ∙ alone2 in
      absurd (cc) in
      let where_it_is : (i : ℕ) → next_of events k ≡ Some i → i ≡ d = λ i next. elim (pairs k i next) [ inl two ↦ absurd (not_two i next two.0) | inr four ↦ (let at_four = four.0 in omega (arith, at_four)) ] in
      let wholeq = all_are ∙ seam pre (s ∷ ss) (q ∷ qs) (t ∷ ts) (rows_all rows) more in
      let gap = between-two events (k + 2) d e f (omega arith) (mark-here all (k + 2) (e, None) _ at2) (mark-here all (k + 2 + 1) (f, None) _ at3) in
      let n4 = suc (suc (length tail)) in
      let starts3 = sym (starts-pass all (k + 2) (suc n4) (plain-begins-not all (k + 2) e ((f, None) ∷ all4) refl at2)) ∙ starts in
      let starts4 = sym (starts-pass all (k + 2 + 1) n4 (plain-begins-not all (k + 2 + 1) f all4 refl at3)) ∙ starts3 in
      next-chunk k b n d ks cs s ss (q ∷ qs) t ts rows x ms all2 pre more at there where_it_is wholeq gap lead spaced
      (λ ks2 lead2 spaced2. rest-of rows d b (suc n) ks2 cs t ts x ms ((pre ++ (s ∷ ss)) ++ (q ∷ qs)) more at4 exits alone (chunks-rest (q ∷ qs, t ∷ ts) rows chunks) lead2 spaced2 whole
      (chunk-passed d b n before.0 t ts tail cs before.1 at4 starts4) (wholeq ∙ sym (append_assoc (pre ++ (s ∷ ss)) (q ∷ qs) ((t ∷ ts) ++ (rows_all rows ++ more)))))
