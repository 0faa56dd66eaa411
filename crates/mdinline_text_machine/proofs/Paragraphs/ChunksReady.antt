-- Events in which chunks of text are linked one after another can be read chain by chain.
use Rattle.mdinline_text_machine.proofs.Prelude.{between, ◌≡◌, ℕ, suc, ◌+◌, ◌-◌, ◌<◌, ◌≤◌, List, [], ◌∷◌, Option, Some, None, take, drop, inl, inr, ⊎_elim, refl, sym, ap, ◌∙◌, subst, arith, slice_get, option_and_then, option_map, cases_lt, drop-at, every-get, Content, Flow, Event, Link, IsBalanced, empty, span, IsVoidTight, IsInOrder, content_of, next_of, AreMutual, content_at, IsChunk, IsReady}
use Rattle.markdown_base.specs.declared.event.Content.TheVariants.{Text}
use Rattle.mdinline_text_machine.proofs.Paragraphs.ChainEvents.{is-text-content}
use Rattle.mdinline_text_machine.proofs.Paragraphs.ChunkPairs.{IsChunkStart, IsPlaced, AreChunks, stands-shown, stand-in-order}

pub between-none : (es : List Event) (i j : ℕ) → j ≡ i → between i j es ≡ []
between-none es i j same = let none : j - i ≡ 0 = omega (arith, same) in ap (λ n. take n (drop i es)) none

pub drop-two : (es : List Event) (i : ℕ) (e f : Event) → slice_get es i ≡ Some e → slice_get es (i + 1) ≡ Some f → drop i es ≡ e ∷ f ∷ drop (i + 2) es
drop-two es i e f at then =
    let one : suc i ≡ i + 1 = omega arith in
    let two : suc (i + 1) ≡ i + 2 = omega arith in
    drop-at es i e at ∙ ap (λ n. e ∷ drop n es) one ∙ ap (λ (ys : List Event). e ∷ ys) (drop-at es (i + 1) f then ∙ ap (λ n. f ∷ drop n es) two)

pub between-two : (es : List Event) (i j : ℕ) (e f : Event) → j ≡ i + 2 → slice_get es i ≡ Some e → slice_get es (i + 1) ≡ Some f → between i j es ≡ e ∷ f ∷ []
between-two es i j e f two at then = let some : j - i ≡ 2 = omega (arith, two) in ap (λ n. take n (drop i es)) some ∙ ap (take 2) (drop-two es i e f at then)

module _ (t : ℕ) (bytes : List ℕ) (es : List Event) (chunks : AreChunks t bytes es) (balanced : IsBalanced es) (tight : IsVoidTight es) (order : IsInOrder bytes es) (joined : AreMutual es) where
  -- An event of a chain begins a chunk of text
  record StartsAt (k : ℕ) : Type 0 where
    pub event : Event
    pub at : slice_get es k ≡ Some event
    pub start : IsChunkStart event
    pub content : content_at es k ≡ Some Text

  of-content : (k : ℕ) (o : Option Event) (c : Content) → slice_get es k ≡ o → option_and_then content_of o ≡ Some c → StartsAt k
  of-content k None c at is = absurd (cc)
  of-content k (Some e) c at is =
      ⊎_elim
      (λ (alone : e.link ≡ None). let none : content_of e ≡ None = rw alone refl in let no : Some c ≡ None = sym is ∙ none in absurd (cc))
      (λ (start : IsChunkStart e). record { event = e; at = at; start = start; content = ap (option_and_then content_of) at ∙ start.text })
      (every-get (IsPlaced t bytes) es k e chunks.each at).0

  of-link : (f : Link → Option ℕ) (k d : ℕ) (o : Option Event) → slice_get es k ≡ o → option_and_then (λ (e : Event). option_and_then f e.link) o ≡ Some d → StartsAt k
  of-link f k d None at is = absurd (cc)
  of-link f k d (Some e) at is = by e.link refl
    where
      by : (o : Option Link) → e.link ≡ o → StartsAt k
      by None h = let no : None ≡ Some d = sym (ap (option_and_then f) h) ∙ is in absurd (cc)
      by (Some l) h = of-content k (Some e) l.content at (ap (option_map (λ (l : Link). l.content)) h)

  leads : (k d : ℕ) → next_of es k ≡ Some d → StartsAt k
  leads k d is = of-link (λ (l : Link). l.next) k d (slice_get es k) refl is

  is-led : (k d : ℕ) → next_of es k ≡ Some d → StartsAt d
  is-led k d is = of-link (λ (l : Link). l.previous) d k (slice_get es d) refl ((joined k d).0 is)

  -- it is a chunk, with its exit
  chunk-at : (k : ℕ) → StartsAt k → IsChunk es k
  chunk-at k h =
      let exit = tight k h.event h.at h.start.linked.enter h.start.linked.void in
      record { enter = h.event; exit = exit.0; enter_at = h.at; exit_at = exit.1; linked = h.start.linked; ended = record { exits = exit.2; same = exit.3 } }

  -- an event that is in no chain has no content
  alone-at : (i m : ℕ) (e : Event) → slice_get es i ≡ Some e → e.link ≡ None → i ≡ m → content_at es m ≡ None
  alone-at i m e at alone same = ap (content_at es) (sym same) ∙ ap (option_and_then content_of) at ∙ rw alone refl

  pub chunks-are-ready : IsReady t bytes (Some Text) es
  chunks-are-ready = record {
    balanced = balanced;
    chunks = λ k c is. chunk-at k (of-content k (slice_get es k) c refl is);
    joined = joined;
    forward = λ k d is. elim (chunks.pairs k d is).follows [ inl directly ↦ (let at = directly.0 in omega (arith, at)) | inr marked ↦ (let at = marked.0 in omega (arith, at)) ];
    one_content = λ k d is. (leads k d is).content ∙ sym (is-led k d is).content;
    readable = λ k h.
        let s = of-content k (slice_get es k) Text refl (is-text-content (content_at es k) h) in
        let c = chunk-at k s in
        record {
          content = λ flow. let no : Some Text ≡ Some Flow = sym s.content ∙ flow in absurd (cc);
          from = stands-shown t bytes es order k c.enter c.enter_at (every-get (IsPlaced t bytes) es k c.enter chunks.each c.enter_at).1;
          to = stands-shown t bytes es order (k + 1) c.exit c.exit_at (every-get (IsPlaced t bytes) es (k + 1) c.exit chunks.each c.exit_at).1;
          forward = stand-in-order bytes es order k (k + 1) c.enter c.exit (omega arith) c.enter_at c.exit_at;
        };
    gaps = λ k d h is.
        let c = chunk-at k (leads k d is) in
        let next = chunk-at d (is-led k d is) in
        elim (chunks.pairs k d is).follows [
          | inl directly ↦
              let at = directly.0 in record {
                forward = stand-in-order bytes es order (k + 1) d c.exit next.enter (omega (arith, at)) c.exit_at next.enter_at;
                in_line = inl (sym directly.1);
                balanced = subst IsBalanced (sym (between-none es (k + 2) d at)) empty;
                no_link = λ m least most. absurd (omega (arith, at, least, most));
              }
          | inr marked ↦
              let at = marked.0 in
              let mark = marked.1 in
              let two = between-two es (k + 2) d mark.enter mark.exit (omega (arith, at)) mark.enter_at mark.exit_at in record {
                forward = stand-in-order bytes es order (k + 1) d c.exit next.enter (omega (arith, at)) c.exit_at next.enter_at;
                in_line = inr (marked.2, marked.3);
                balanced = subst IsBalanced (sym two) (span mark.enter mark.exit [] [] refl mark.are.enters mark.are.exits mark.are.same empty empty);
                no_link = λ m least most.
                    ⊎_elim
                    (λ (first : m < k + 2 + 1). alone-at (k + 2) m mark.enter mark.enter_at mark.are.enter_alone (omega (arith, first, least)))
                    (λ (second : k + 2 + 1 ≤ m). alone-at (k + 2 + 1) m mark.exit mark.exit_at mark.are.exit_alone (omega (arith, second, most, at)))
                    (cases_lt m (k + 2 + 1));
              }
        ];
  }
