-- The rows of a paragraph, each a quote mark and a chunk, with the parts of the paragraph's text in place of its chunks.
use Rattle.std.proofs.Common.{◌≡◌, ℕ, suc, ◌+◌, ◌<◌, false, List, [], ◌∷◌, ◌++◌, Some, None, inl, inr, append_assoc, append-nil, length, drop, refl, sym, ap, ◌∙◌, subst, arith}
use Rattle.std.specs.Prelude.{filter}
use Rattle.std.specs.List.{AllByRecursion, between, flat_map}
use Rattle.markdown_base.proofs.Common.{every-append, every-map}
use Rattle.markdown_base.specs.declared.event.Content.TheVariants.{Text as TextContent}
use Rattle.markdown_base.specs.declared.event.Event.{Event}
use Rattle.markdown_base.specs.declared.event.Kind.TheVariants.{Enter, Exit}
use Rattle.markdown_base.specs.declared.event.Name.TheVariants.{BlockQuoteMarker, Data}
use Rattle.markdown_base.specs.declared.event.Point.{Point}
use Rattle.markdown_base.specs.Places.{in_range, shown, stands_before}
use Rattle.markdown_base.specs.Virtual.{Seat, end_after, virtual}
use Rattle.markdown_edits.specs.Links.{content_at, next_of}
use Rattle.markdown_children.specs.LawStatements.{LeadOnFrom}
use Rattle.markdown_children.specs.Parts.{front_until}
use Rattle.markdown_children.specs.Ready.{IsReady, place_at}
use Rattle.markdown_tokenizer.proofs.Inside.Made.{upto-upto}
use Rattle.markdown_tokenizer.proofs.Positions.Chains.{IsChain}
use Rattle.markdown_tokenizer.proofs.Positions.Order.{every-back}
use Rattle.markdown_tokenizer.proofs.Positions.Standing.{chain-split, chain-upto}
use Rattle.markdown_tokenizer.specs.Text.{Given}
use Rattle.mdconstructs_machines.specs.ParagraphEvents.{Marked, marked_span, with_links}
use Rattle.mdconstructs_machines.specs.Spans.{event, leaf}
use Rattle.mdinline_text_machine.proofs.Prelude.{end-after-append}
use Rattle.mdinline_text_machine.proofs.DeepSpans.Chains.{front-and-rest, front-over}
use Rattle.mdinline_text_machine.proofs.DeepSpans.Chunks.{chunk_seats}
use Rattle.mdinline_text_machine.proofs.DeepSpans.Places.{Upto, chain-from, origin, place-shown, range-of}
use Rattle.mdinline_text_machine.proofs.Paragraphs.ChunkPairs.{FollowsChunk, IsMark, place-at-event}
use Rattle.mdinline_text_machine.proofs.ParagraphTexts.MarksAt.{Ahead, At, from_here, left_from, mark-here, mark-next}
use Rattle.mdinline_text_machine.specs.ParagraphTexts.{chunk_events}

-- a quote mark, if there is one, and a chunk
abbrev pub Row : Type 0
Row = List Seat × List Seat

abbrev pub HasByte : List Seat → Type 0
HasByte [] = ⊥
HasByte (s ∷ ss) = Unit {0}

-- each row but the last has a chunk
abbrev pub HaveChunks : List Row → Type 0
HaveChunks [] = Unit {0}
HaveChunks (r ∷ []) = Unit {0}
HaveChunks (r ∷ q ∷ rows) = HasByte r.1 × HaveChunks (q ∷ rows)

abbrev pub rows_text : List Row → List Seat
rows_text rows = flat_map (λ (r : Row). r.1) rows

abbrev pub rows_all : List Row → List Seat
rows_all rows = flat_map (λ (r : Row). r.0 ++ r.1) rows

module _ (bytes : List ℕ) where
  abbrev pub rows_marks : (b n : ℕ) → List Row → List Marked
  rows_marks b n [] = []
  rows_marks b n (r ∷ rows) = (marked_span bytes None BlockQuoteMarker r.0 [] ++ marked_span bytes (Some (b, n)) Data r.1 []) ++ rows_marks b (suc n) rows

  abbrev pub rows_with : List Row → List Event → List Event
  rows_with [] es = []
  rows_with (r ∷ rows) es =
      let part = chunk_events bytes r.1 es in
      leaf bytes BlockQuoteMarker r.0 ++ (part ++ rows_with rows (drop (length part) es))

  -- a virtual byte is not behind a place
  abbrev pub Within : Point → Seat → Type 0
  Within end s = (stands_before end (shown bytes s.point) ≡ false) × (stands_before end (shown bytes s.end) ≡ false)

  pub all-within : (t : ℕ) (p : Point) (l rest : List Seat) (end : Point) → IsChain t bytes p (l ++ rest) → end ≡ end_after p l → AllByRecursion (Within end) l
  all-within t p [] rest end c e = tt
  all-within t p (s ∷ ss) rest end c e = (
    ((λ i. stands_before (e i) (c.1.shown_is i)) ∙ chain-upto t bytes p (s ∷ ss) rest c, (λ i. stands_before (e i) (place-shown t bytes p (s ∷ []) (ss ++ rest) c i)) ∙ chain-upto t bytes s.end ss rest c.2),
    all-within t s.end ss rest end c.2 e,
  )

pub seam : (pre a q t r more : List Seat) → pre ++ (a ++ (((q ++ t) ++ r) ++ more)) ≡ (pre ++ a) ++ (q ++ (t ++ (r ++ more)))
seam pre a q t r more = simp append_assoc

-- events that are all up to a place are in front of it
front-all : (end : Point) (es : List Event) → AllByRecursion (Upto end) es → front_until end es ≡ es
front-all end es h = ap (front_until end) (sym (append-nil es)) ∙ front-over end es [] h ∙ append-nil es

drop-all : (es : List Event) → drop (length es) es ≡ []
drop-all [] = refl
drop-all (e ∷ es) = drop-all es

module _ (g : Given) (some : 0 < g.tab) (all : List Marked) (ready : IsReady g.tab g.bytes (Some TextContent) (with_links all))
    (pairs : (k d : ℕ) → next_of (with_links all) k ≡ Some d → FollowsChunk (with_links all) k d) (of_chain : ℕ → List Event) where
  abbrev pub events : List Event
  events = with_links all

  abbrev pub left : List ℕ → ℕ → List Event
  left cs i = left_from g some all ready pairs of_chain cs i

  abbrev pub here_on : ℕ → List ℕ → List Event → List ℕ → List Event
  here_on k ks es cs = from_here g some all ready pairs of_chain k ks es cs

  abbrev pub end_of : Seat → List Seat → Point
  end_of s l = shown g.bytes (end_after s.end l)

  -- what is known of a chunk at k and of the rows behind it, up to the end of the paragraph at j
  pub record RestOf (k : ℕ) (ks cs : List ℕ) (s : Seat) (ss : List Seat) (rows : List Row) (x : Event) (ms : List Marked) : Type 0 where
    pub j : ℕ
    pub at : At all j ms
    pub ahead : Ahead all j (length ms) cs
    pub seats : flat_map (chunk_seats g events) (k ∷ ks) ≡ (s ∷ ss) ++ rows_text rows
    pub within : AllByRecursion (Within g.bytes (end_of s (ss ++ rows_text rows))) ((s ∷ ss) ++ rows_text rows)
    pub has : (es : List Event) → AllByRecursion (Upto (end_of s (ss ++ rows_text rows))) es
        → let part = chunk_events g.bytes (s ∷ ss) es in here_on k ks es cs ≡ (part ++ rows_with g.bytes rows (drop (length part) es)) ++ x ∷ left cs j

  -- ---- a chunk
  abbrev pub chunk_marks : (b n : ℕ) → Seat → List Seat → List Marked → List Marked
  chunk_marks b n s ss tail = (event g.bytes Enter Data s.point, Some (b, n)) ∷ (event g.bytes Exit Data (end_after s.end ss), None) ∷ tail

  two-on : (k : ℕ) → k + 1 + 1 ≡ k + 2
  two-on k = omega arith

  pub behind : (k b n : ℕ) (s : Seat) (ss : List Seat) (tail : List Marked) → At all k (chunk_marks b n s ss tail) → At all (k + 2) tail
  behind k b n s ss tail at = subst (λ i. At all i tail) (two-on k) (mark-next all (k + 1) _ tail (mark-next all k _ _ at))

  ends-there : (k b n : ℕ) (s : Seat) (ss : List Seat) (tail : List Marked) → At all k (chunk_marks b n s ss tail) → place_at events (k + 1) ≡ end_of s ss
  ends-there k b n s ss tail at = place-at-event events (k + 1) (event g.bytes Exit Data (end_after s.end ss)) (mark-here all (k + 1) (event g.bytes Exit Data (end_after s.end ss), None) tail (mark-next all k _ _ at))

  chunk-seats-are : (k b n : ℕ) (s : Seat) (ss : List Seat) (tail : List Marked) (pre rest : List Seat) → At all k (chunk_marks b n s ss tail) → virtual g.tab g.bytes ≡ pre ++ ((s ∷ ss) ++ rest)
      → chunk_seats g events k ≡ s ∷ ss
  chunk-seats-are k b n s ss tail pre rest at whole =
      let q = end_after (origin g.tab g.bytes some) pre in
      let run = chain-from g.tab g.bytes some pre ((s ∷ ss) ++ rest) whole in
      let from : place_at events k ≡ q = place-at-event events k _ (mark-here all k (event g.bytes Enter Data s.point, Some (b, n)) _ at) ∙ run.1.shown_is in
      let to : place_at events (k + 1) ≡ end_after q (s ∷ ss) = ends-there k b n s ss tail at ∙ place-shown g.tab g.bytes q (s ∷ ss) rest run in
      (λ i. filter (in_range (from i) (to i)) (virtual g.tab g.bytes)) ∙ range-of g.tab g.bytes some pre (s ∷ ss) rest whole

  -- a chunk that no other follows
  pub no-next : (k d : ℕ) → content_at events k ≡ Some TextContent → content_at events (k + 2) ≡ None → (IsMark events (k + 2) → content_at events (k + 4) ≡ None) → next_of events k ≡ Some d → ⊥
  no-next k d content directly marked next =
      let same = ready.one_content k d next in
      elim (pairs k d next) [
        | inl two ↦ (let no : Some TextContent ≡ None = sym content ∙ same ∙ ap (content_at events) two.0 ∙ directly in absurd (cc))
        | inr four ↦ (let no : Some TextContent ≡ None = sym content ∙ same ∙ ap (content_at events) four.0 ∙ marked four.1 in absurd (cc))
      ]

  pub none-leads : (k : ℕ) (ks : List ℕ) → ((d : ℕ) → next_of events k ≡ Some d → ⊥) → LeadOnFrom events k ks → ks ≡ []
  none-leads k [] none lead = refl
  none-leads k (d ∷ ks) none lead = absurd (none d lead.0)

  pub no-mark : (i : ℕ) (x : Event) (ms : List Marked) → x.kind ≡ Exit → At all i ((x, None) ∷ ms) → IsMark events i → ⊥
  no-mark i x ms exits at mark =
      let same : Some mark.enter ≡ Some x = sym mark.enter_at ∙ mark-here all i (x, None) ms at in
      let kind : mark.enter.kind ≡ Enter = mark.are.enters in
      let one : mark.enter ≡ x = cc in
      let no : Enter ≡ Exit = sym kind ∙ ap (λ (e : Event). e.kind) one ∙ exits in
      absurd (cc)

  -- ---- the last chunk, with marks behind it that are kept
  pub last-chunk : (k b n : ℕ) (ks cs : List ℕ) (s : Seat) (ss : List Seat) (rows : List Row) (x : Event) (ms tail : List Marked) (pre more : List Seat) (kept : List Event) (j : ℕ) → At all k (chunk_marks b n s ss tail)
      → ks ≡ [] → virtual g.tab g.bytes ≡ pre ++ ((s ∷ ss) ++ more) → rows_text rows ≡ [] → rows_with g.bytes rows [] ≡ kept
      → At all j ms → Ahead all j (length ms) cs → left cs (k + 2) ≡ kept ++ x ∷ left cs j → RestOf k ks cs s ss rows x ms
  last-chunk k b n ks cs s ss rows x ms tail pre more kept j at none whole text with there ahead then =
      let q = end_after (origin g.tab g.bytes some) pre in
      let run = chain-from g.tab g.bytes some pre ((s ∷ ss) ++ more) whole in
      let base = all-within g.bytes g.tab q (s ∷ ss) more (end_of s ss) run (place-shown g.tab g.bytes q (s ∷ ss) more run) in
      let same : ss ++ rows_text rows ≡ ss = ap (λ l. ss ++ l) text ∙ append-nil ss in
      subst (λ l. RestOf k l cs s ss rows x ms) (sym none) (record {
        j = j;
        at = there;
        ahead = ahead;
        seats = ap (λ l. l ++ []) (chunk-seats-are k b n s ss tail pre more at whole) ∙ ap (λ l. (s ∷ ss) ++ l) (sym text);
        within = subst (λ l. AllByRecursion (Within g.bytes (end_of s l)) (s ∷ l)) (sym same) base;
        has = λ es up.
            let upto = subst (λ l. AllByRecursion (Upto (end_of s l)) es) same up in
            let part = chunk_events g.bytes (s ∷ ss) es in
            let all_of_it : part ≡ es = front-all (end_of s ss) es upto in
            let rest : rows_with g.bytes rows (drop (length part) es) ≡ kept = ap (λ (l : List Event). rows_with g.bytes rows (drop (length l) es)) all_of_it ∙ ap (rows_with g.bytes rows) (drop-all es) ∙ with in
            ap (λ l. es ++ l) then ∙ sym (append_assoc es kept (x ∷ left cs j)) ∙ (λ i. (sym all_of_it i ++ sym rest i) ++ x ∷ left cs j);
      })

  -- ---- a chunk and the next one
  pub go-on : (k b n d : ℕ) (ks cs : List ℕ) (s : Seat) (ss q : List Seat) (t : Seat) (ts : List Seat) (rows : List Row) (x : Event) (ms tail : List Marked) (pre more : List Seat) → At all k (chunk_marks b n s ss tail)
      → virtual g.tab g.bytes ≡ (pre ++ (s ∷ ss)) ++ (q ++ ((t ∷ ts) ++ (rows_all rows ++ more))) → between (k + 2) d events ≡ leaf g.bytes BlockQuoteMarker q
      → RestOf d ks cs t ts rows x ms → RestOf k (d ∷ ks) cs s ss ((q, t ∷ ts) ∷ rows) x ms
  go-on k b n d ks cs s ss q t ts rows x ms tail pre more at whole gap ih =
      let a = s ∷ ss in
      let r = rows_text rows in
      let next = (t ∷ ts) ++ (rows_all rows ++ more) in
      let p = end_after (origin g.tab g.bytes some) pre in
      let o = end_after (origin g.tab g.bytes some) (pre ++ a) in
      let first : virtual g.tab g.bytes ≡ pre ++ (a ++ (q ++ next)) = whole ∙ append_assoc pre a (q ++ next) in
      let run = chain-from g.tab g.bytes some pre (a ++ (q ++ next)) first in
      let then = chain-from g.tab g.bytes some (pre ++ a) (q ++ next) whole in
      let near = all-within g.bytes g.tab p a (q ++ next) o run (end-after-append (origin g.tab g.bytes some) pre a) in
      let there = chain-split g.tab g.bytes o q next then in
      let e = end_of t (ts ++ r) in
      let e_is : end_of s (ss ++ ((t ∷ ts) ++ r)) ≡ e = ap (shown g.bytes) (end-after-append s.end ss ((t ∷ ts) ++ r)) in
      let upto : stands_before (shown g.bytes t.point) o ≡ false = (λ i. stands_before (there.1.shown_is i) o) ∙ chain-upto g.tab g.bytes o q next then in
      let far : stands_before e o ≡ false = upto-upto o (shown g.bytes t.point) e upto ih.within.0.0 in
      let widen : (u : Seat) → Within g.bytes o u → Within g.bytes e u = λ u w. (upto-upto (shown g.bytes u.point) o e w.0 far, upto-upto (shown g.bytes u.end) o e w.1 far) in
      let within = every-append (Within g.bytes e) a ((t ∷ ts) ++ r) (every-map (Within g.bytes o) (Within g.bytes e) widen a near) ih.within in
      record {
        j = ih.j;
        at = ih.at;
        ahead = ih.ahead;
        seats = λ i. chunk-seats-are k b n s ss tail pre (q ++ next) at first i ++ ih.seats i;
        within = subst (λ end. AllByRecursion (Within g.bytes end) (a ++ ((t ∷ ts) ++ r))) (sym e_is) within;
        has = λ es up.
            let end = end_of s ss in
            let part = chunk_events g.bytes a es in
            let others = drop (length part) es in
            let up2 : AllByRecursion (Upto e) others = every-back (Upto e) part others (subst (AllByRecursion (Upto e)) (sym (front-and-rest end es)) (subst (λ end. AllByRecursion (Upto end) es) e_is up)) in
            let part2 = chunk_events g.bytes (t ∷ ts) others in
            let inner = part2 ++ rows_with g.bytes rows (drop (length part2) others) in
            let mark = leaf g.bytes BlockQuoteMarker q in
            let last = x ∷ left cs ih.j in
            ap (λ end. front_until end es ++ (between (k + 2) d events ++ here_on d ks (drop (length (front_until end es)) es) cs)) (ends-there k b n s ss tail at)
            ∙ ap (λ l. part ++ l) (λ i. gap i ++ ih.has others up2 i)
            ∙ sym (append_assoc part (mark ++ inner) last ∙ ap (λ l. part ++ l) (append_assoc mark inner last));
      }
