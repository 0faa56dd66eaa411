-- Inline text: each end of a label makes something of a bracket behind which no link was made, if that is of a link. So no link is in a link.
use Rattle.mddocument_rules.proofs.Prelude.{◌≡◌, ◌∙◌, ℕ, zero, suc, ◌+◌, Bool, true, false, cond, List, [], ◌∷◌, ◌++◌, Option, Some, None, drop, length, refl, subst, sym, take, ap, append-nil, append_assoc, arith, false≢true, map, option_map, flat_map, every-back, every-front, AllByRecursion, ◌||◌, Constructs, Event, Exit, Name, Seat, end_after, event, same_name}
use Rattle.std.proofs.lemmas.Grind.{flat_map-append}
use Rattle.std.proofs.lemmas.List.{length-append}
use Rattle.std.specs.List.{prefix_len}
use Rattle.std.specs.Prelude.{◌≤◌}
use Rattle.markdown_base.proofs.Common.{every-map}
use Rattle.markdown_base.specs.declared.event.Name.TheVariants.{AttentionSequence, Data, LabelEnd, LabelImage, LabelImageMarker, LabelLink, LabelMarker, LineEnding, Link, Reference, ReferenceMarker, SpaceOrTab}
use Rattle.mdconstructs_machines.specs.Spans.{leaf, span}
use Rattle.mdconstructs_tables.specs.Breaks.{is_white}
use Rattle.mdinline_text_machine.proofs.Autolinks.Cuts.{autolink-built}
use Rattle.mdinline_text_machine.proofs.Constructs.Apart.{EachThere, OfOption, there-holds}
use Rattle.mdinline_text_machine.proofs.Escapes.Cuts.{escape-built}
use Rattle.mdinline_text_machine.proofs.Texts.Built.{IsBuilt, IsKeptBySpans}
use Rattle.mdinline_text_machine.specs.Bytes.{has_byte_at, is_line_feed}
use Rattle.mdinline_text_machine.specs.Construct.{Found, Grammar, makes, or_else}
use Rattle.mdinline_text_machine.specs.Items.{item_length}
use Rattle.mdinline_text_machine.specs.Parts.{bytes_of, cut_remembering}
use Rattle.mdinline_text_machine.specs.TextEvents.{item_events}
use Rattle.mdinline_constructs.proofs.Emails.Cuts.{email-built}
use Rattle.mdinline_constructs.proofs.HardBreaks.Cuts.{break-escape-built, trailing-break-built}
use Rattle.mdinline_constructs.proofs.HtmlMarks.Bytes.{html-mark-built}
use Rattle.mdinline_constructs.proofs.HtmlTags.Bytes.{html-tag-built}
use Rattle.mdinline_constructs.proofs.References.Cuts.{reference-built}
use Rattle.mdinline_constructs.proofs.RememberedCode.Cuts.{lined-code-built}
use Rattle.mdinline_constructs.proofs.WhiteSpaces.Cuts.{white-space-built}
use Rattle.mdinline_constructs.specs.WhiteSpace.{white_space}
use Rattle.mdinline_link_tails.proofs.Resources.Built.{resource-built}
use Rattle.mdinline_full_references.proofs.FullReferences.Built.{full-reference-built}
use Rattle.mdinline_links.proofs.Leaves.{links-balanced}
use Rattle.mdinline_links.proofs.Spans.{spans-have}
use Rattle.mdinline_links.specs.Linked.{Waiting, is_named, outermost_spans, spans_in, with_links}
use Rattle.mdinline_machine.proofs.BracketBytes.{tail-holds}
use Rattle.mdinline_machine.specs.Brackets.{Bracket, Memory, after_item, behind_events, begins_end, begins_link, end_at, end_of_last, image_bracket, is_image_bracket, is_wanted_at, label_end, link_bracket, lone_end, nothing_read, tail_of, waiting_behind}
use Rattle.mdinline_machine.specs.InlineEvents.{bracket_or_part, data_length, data_run, delimiter_run, inline_grammars, inline_item_at, inline_items, line_break, run_length, run_or_part}
use Rattle.mdinline_machine.specs.RunRows.{begins_run}
use Rattle.mddocument.proofs.Emphasis.InlineReads.{balanced-of}
use Rattle.mddocument.specs.FlowTexts.{inline_seat_events}
use Rattle.mddocument_laws.proofs.Named.{and, leafed}
use Rattle.mddocument_laws.proofs.WholeSpans.{IsWhole, around-whole, both-whole, first-span, none-whole}
use Rattle.mddocument_rules.proofs.FlatLinks.{IsFlat, IsLinkless, flat-stands, linkless-both, linkless-none}
use Rattle.mddocument_rules.proofs.LinkedFlat.{AreRead, IsStep, fold-agrees, links-flat}
use Rattle.mddocument_rules.proofs.QuietItems.{AreQuiet, IsPlain, IsPlainAndQuiet, IsQuiet, constructs-quiet, quiet-other, tail-quiet}
use Rattle.mddocument_rules.proofs.BracketTexts.{fold-tied}
use Rattle.mddocument_rules.specs.BracketLaws.{EndsHaveBrackets, LabelsAreOne, WalksAreOne, folded, remembered}
use Rattle.mddocument_rules.specs.TextLaws.{NoLinkInALinkOfText}

-- ---- spans that are read, by the brackets that wait before them and behind them, and how many events were read before them
abbrev Goes : (count : ℕ) → List Bracket → List Event → List Bracket → Type 0
Goes count bs es last = (bound : ℕ) → length es ≤ bound → AreRead count bs (spans_in bound es) last

abbrev Passes : (count : ℕ) → List Bracket → List Event → List Bracket → Type 0
Passes count bs es next = (rest : List Event) (last : List Bracket) → Goes (count + length es) next rest last → Goes count bs (es ++ rest) last

goes-none : (count : ℕ) (bs : List Bracket) → Goes count bs [] bs
goes-none count bs zero fits = refl
goes-none count bs (suc bound) fits = refl

passes-both : (count : ℕ) (bs mid next : List Bracket) (xs ys : List Event) → Passes count bs xs mid → Passes (count + length xs) mid ys next → Passes count bs (xs ++ ys) next
passes-both count bs mid next xs ys h k rest last g =
    let long = length-append xs ys in
    let same : count + length (xs ++ ys) ≡ (count + length xs) + length ys = omega (arith, long) in
    subst (λ es. Goes count bs es last) (sym (append_assoc xs ys rest)) (h (ys ++ rest) last (k rest last (subst (λ n. Goes n next rest last) same g)))

passes-span : (bytes : List ℕ) (n : Name) (s : Seat) (ss : List Seat) (inside : List Event) → IsWhole inside → (count : ℕ) (bs next : List Bracket) → IsStep (count + length (span bytes n (s ∷ ss) inside)) bs (span bytes n (s ∷ ss) inside) next → Passes count bs (span bytes n (s ∷ ss) inside) next
passes-span bytes n s ss inside w count bs next step rest last g zero fits = absurd (no-less fits)
  where
    no-less : {k : ℕ} → suc k ≤ 0 → ⊥
    no-less h = omega (arith, h)
passes-span bytes n s ss inside w count bs next step rest last g (suc bound) fits =
    let front = inside ++ event bytes Exit n (end_after s.end ss) ∷ [] in
    let more = length-append front rest in
    subst (λ (p : List Event × List Event). AreRead count bs (p.0 ∷ spans_in bound p.1) last) (sym (first-span bytes n s ss inside w rest)) (next, step, g bound (omega (arith, fits, more)))

-- ---- whole spans that leave the brackets, if they have other names
record IsCalm (es : List Event) : Type 0 where
  whole : IsWhole es
  passes : AreQuiet es → (count : ℕ) (bs : List Bracket) → Passes count bs es bs

quiet-step : (bytes : List ℕ) (n : Name) (s : Seat) (ss : List Seat) (inside : List Event) (count : ℕ) (bs : List Bracket) → IsQuiet n → IsStep count bs (span bytes n (s ∷ ss) inside) bs
quiet-step bytes n s ss inside count bs q =
    let ends = quiet-other n LabelEnd q refl in
    let brackets : (same_name n LabelLink || same_name n LabelImage) ≡ false = (λ i. quiet-other n LabelLink q refl i || quiet-other n LabelImage q refl i) in
    record {
      ends = λ e. absurd (false≢true (sym ends ∙ e));
      opens = λ e b. absurd (false≢true (sym brackets ∙ b));
      fails = λ e b m. absurd (false≢true (sym (quiet-other n LabelMarker q refl) ∙ m));
      stays = λ e b m. refl;
    }

both-calm : (xs ys : List Event) → IsCalm xs → IsCalm ys → IsCalm (xs ++ ys)
both-calm xs ys h k = record {
  whole = both-whole xs ys h.whole k.whole;
  passes = λ q count bs. passes-both count bs bs bs xs ys (h.passes (record { all = every-front (λ (e : Event). IsQuiet e.name) xs ys q.all }) count bs) (k.passes (record { all = every-back (λ (e : Event). IsQuiet e.name) xs ys q.all }) (count + length xs) bs);
}

span-calm : (bytes : List ℕ) (n : Name) (seats : List Seat) (inside : List Event) → IsCalm inside → IsCalm (span bytes n seats inside)
span-calm bytes n [] inside h = h
span-calm bytes n (s ∷ ss) inside h = record {
  whole = around-whole bytes n s ss inside h.whole;
  passes = λ q count bs. passes-span bytes n s ss inside h.whole count bs bs (quiet-step bytes n s ss inside (count + length (span bytes n (s ∷ ss) inside)) bs q.all.0);
}

none-calm : IsCalm []
none-calm = record { whole = none-whole; passes = λ q count bs rest last g. subst (λ n. Goes n bs rest last) (let same : count + 0 ≡ count = omega arith in same) g }

leaf-calm : (bytes : List ℕ) (n : Name) (seats : List Seat) → IsCalm (leaf bytes n seats)
leaf-calm bytes n seats = span-calm bytes n seats [] none-calm

leaf-whole : (bytes : List ℕ) (n : Name) (seats : List Seat) → IsWhole (leaf bytes n seats)
leaf-whole bytes n seats = (leaf-calm bytes n seats).whole

calm-kept : (bytes : List ℕ) → IsKeptBySpans bytes IsCalm
calm-kept bytes = record { none = none-calm; both = both-calm; alone = leaf-calm bytes; around = λ n seats es other h. span-calm bytes n seats es h }

-- ---- items
module _ (bytes : List ℕ) where
  abbrev Calm : Found → Type 0
  Calm f = IsBuilt bytes IsCalm (calm-kept bytes) f

  calm-each : (text : List ℕ) → EachThere Calm inline_grammars text
  calm-each text =
      let k = calm-kept bytes in (
        lined-code-built bytes IsCalm k text,
        (
          autolink-built bytes IsCalm k text,
          (
            email-built bytes IsCalm k text,
            (
              html-mark-built bytes IsCalm k text,
              (
                html-tag-built bytes IsCalm k text,
                (
                  escape-built bytes IsCalm k text,
                  (break-escape-built bytes IsCalm k text, (reference-built bytes IsCalm k text, (trailing-break-built bytes IsCalm k text, (white-space-built bytes IsCalm k text, tt)))),
                ),
              ),
            ),
          ),
        ),
      )

  -- what is found at the front of virtual bytes, where these brackets wait
  record IsItem (bs : List Bracket) (s : Seat) (ss : List Seat) (f : Found) : Type 0 where
    reads : (count : ℕ) → Passes count bs (f.events bytes (take f.size (s ∷ ss))) (waiting_behind f.mark (count + length (f.events bytes (take f.size (s ∷ ss)))) bs)
    linkless : IsLinkless (f.events bytes (take f.size (s ∷ ss)))

  quiet-linkless : (es : List Event) → AreQuiet es → IsLinkless es
  quiet-linkless es q = record { none = every-map (λ (e : Event). IsQuiet e.name) (λ (e : Event). same_name e.name Link ≡ false) (λ e h. quiet-other e.name Link h refl) es q.all }

  module _ (bs : List Bracket) (s : Seat) (ss : List Seat) where
    -- one that is neither a bracket nor an end
    plain-item : (f : Found) → IsPlain f → IsCalm (f.events bytes (take f.size (s ∷ ss))) → AreQuiet (f.events bytes (take f.size (s ∷ ss))) → IsItem bs s ss f
    plain-item f mark calm quiet =
        let es = f.events bytes (take f.size (s ∷ ss)) in
        record { reads = λ count. subst (λ m. Passes count bs es (waiting_behind m (count + length es) bs)) (sym mark) (calm.passes quiet count bs); linkless = quiet-linkless es quiet }

    abbrev There : Found → Type 0
    There f = IsItem bs s ss f

    both-there : (o : Option Found) → OfOption Calm o → OfOption IsPlainAndQuiet o → OfOption There o
    both-there None c q = tt
    both-there (Some f) c q = plain-item f q.0 (c (take f.size (s ∷ ss))) (q.1 bytes (take f.size (s ∷ ss)))

    each-item : (grammars : List (Grammar Found)) (text : List ℕ) → EachThere Calm grammars text → EachThere IsPlainAndQuiet grammars text → EachThere There grammars text
    each-item [] text c q = tt
    each-item (g ∷ grammars) text c q = (both-there (g.front text) c.0 q.0, each-item grammars text c.1 q.1)

    -- runs, line endings and data
    leaf-item : (f : Found) → IsPlain f → (n : Name) → IsQuiet n → ((seats : List Seat) → f.events bytes seats ≡ leaf bytes n seats) → There f
    leaf-item f mark n q are =
        let seats = take f.size (s ∷ ss) in
        plain-item f mark (subst IsCalm (sym (are seats)) (leaf-calm bytes n seats)) (subst AreQuiet (sym (are seats)) (leafed bytes n seats q))

    break-item : (k : ℕ) → There (line_break k)
    break-item k =
        let seats = take (1 + k) (s ∷ ss) in
        let first = leaf bytes LineEnding (take 1 seats) in
        let rest = leaf bytes SpaceOrTab (drop 1 seats) in
        plain-item (line_break k) refl (both-calm first rest (leaf-calm bytes LineEnding (take 1 seats)) (leaf-calm bytes SpaceOrTab (drop 1 seats)))
        (and (leafed bytes LineEnding (take 1 seats) refl) (leafed bytes SpaceOrTab (drop 1 seats) refl))

    run-item : (on : Constructs) (text : List ℕ) → There (run_or_part on text)
    run-item on text =
        let line = line_break (prefix_len is_white (drop 1 text)) in
        elim (has_byte_at text 0 (begins_run on)) as (λ x. There (cond x (delimiter_run (run_length text)) (cond (has_byte_at text 0 is_line_feed) line (data_run (data_length on text))))) [
          | true ↦ leaf-item (delimiter_run (run_length text)) refl AttentionSequence refl (λ seats. refl)
          | false ↦ elim (has_byte_at text 0 is_line_feed) as (λ x. There (cond x line (data_run (data_length on text)))) [
            | true ↦ break-item (prefix_len is_white (drop 1 text))
            | false ↦ leaf-item (data_run (data_length on text)) refl Data refl (λ seats. refl)
          ]
        ]

    -- a bracket waits
    link-item : There link_bracket
    link-item = record {
      reads = λ count.
          passes-span bytes LabelLink s [] (leaf bytes LabelMarker (s ∷ [])) (leaf-whole bytes LabelMarker (s ∷ [])) count bs (record { image = false; inactive = false; count = count + length (link_bracket.events bytes (s ∷ [])) } ∷ bs)
          (record {
            ends = λ e. absurd (false≢true e);
            opens = λ e b. (record { image = false; inactive = false; count = count + length (link_bracket.events bytes (s ∷ [])) }, refl, refl, refl);
            fails = λ e b m. absurd (false≢true (sym b));
            stays = λ e b m. absurd (false≢true (sym b));
          });
      linkless = record { none = (refl, (refl, (refl, (refl, tt)))) };
    }

    image-item : There image_bracket
    image-item =
        let seats = take 1 ss in
        let first = leaf bytes LabelImageMarker (s ∷ []) in
        let second = leaf bytes LabelMarker seats in
        record {
          reads = λ count.
              passes-span bytes LabelImage s seats (first ++ second) (both-whole first second (leaf-whole bytes LabelImageMarker (s ∷ [])) (leaf-whole bytes LabelMarker seats)) count bs (record { image = true; inactive = false; count = count + length (image_bracket.events bytes (s ∷ seats)) } ∷ bs)
              (record {
                ends = λ e. absurd (false≢true e);
                opens = λ e b. (record { image = true; inactive = false; count = count + length (image_bracket.events bytes (s ∷ seats)) }, refl, refl, refl);
                fails = λ e b m. absurd (false≢true (sym b));
                stays = λ e b m. absurd (false≢true (sym b));
              });
          linkless = two ss;
        }
      where
        two : (rest : List Seat) → IsLinkless (image_bracket.events bytes (take 2 (s ∷ rest)))
        two [] = record { none = (refl, (refl, (refl, (refl, tt)))) }
        two (r ∷ rest) = record { none = (refl, (refl, (refl, (refl, (refl, (refl, tt)))))) }

    lone-item : There lone_end
    lone-item = record {
      reads = λ count.
          passes-span bytes LabelMarker s [] [] none-whole count bs (drop 1 bs)
          (record {
            ends = λ e. absurd (false≢true e);
            opens = λ e b. absurd (false≢true b);
            fails = λ e b m. refl;
            stays = λ e b m. absurd (false≢true (sym m));
          });
      linkless = record { none = (refl, (refl, tt)) };
    }

  -- an end of the last bracket, which is active
  module _ (b : Bracket) (bs : List Bracket) (s : Seat) (ss : List Seat) where
    end-item : (tail : Found) → b.inactive ≡ false → Calm tail → ((seats : List Seat) → AreQuiet (tail.events bytes seats)) → IsItem (b ∷ bs) s ss (label_end tail)
    end-item tail active calm quiet =
        let one : suc tail.size ≡ 1 + tail.size = omega arith in
        let seats = take tail.size ss in
        let next : ℕ → List Bracket = λ count. waiting_behind makes count (b ∷ bs) in
        let close = span bytes LabelEnd (s ∷ []) (leaf bytes LabelMarker (s ∷ [])) in
        record {
          reads = λ count.
              subst (λ n. Passes count (b ∷ bs) ((label_end tail).events bytes (take n (s ∷ ss))) (next count)) one
              (passes-both count (b ∷ bs) (next count) (next count) close (tail.events bytes seats)
              (passes-span bytes LabelEnd s [] (leaf bytes LabelMarker (s ∷ [])) (leaf-whole bytes LabelMarker (s ∷ [])) count (b ∷ bs) (next count)
              (record { ends = λ e. (active, refl); opens = λ e. absurd (false≢true (sym e)); fails = λ e. absurd (false≢true (sym e)); stays = λ e. absurd (false≢true (sym e)) }))
              ((calm seats).passes (quiet seats) (count + length close) (next count)));
          linkless =
              subst (λ n. IsLinkless ((label_end tail).events bytes (take n (s ∷ ss)))) one
              (linkless-both close (tail.events bytes seats) (record { none = (refl, (refl, (refl, (refl, tt)))) }) (quiet-linkless (tail.events bytes seats) (quiet seats)));
        }

  module _ (on : Constructs) (defined : List ℕ → Bool) where
    tail-calm : (b : Bracket) (m : Memory) (text : List ℕ) (tail : Found) → tail_of defined bytes b m text ≡ Some tail → Calm tail
    tail-calm b m text =
        let k = calm-kept bytes in
        tail-holds defined bytes Calm b m text (resource-built bytes IsCalm k text) (full-reference-built bytes IsCalm k (is_wanted_at defined bytes m.ahead) text)
        (λ e seats. span-calm bytes Reference seats _ (both-calm _ _ (leaf-calm bytes ReferenceMarker _) (leaf-calm bytes ReferenceMarker _))) (λ seats. none-calm)

    last-item : (b : Bracket) (bs : List Bracket) (s : Seat) (ss : List Seat) (m : Memory) (behind : List ℕ) → IsItem (b ∷ bs) s ss (end_of_last defined bytes b m behind)
    last-item b bs s ss m behind =
        let Is : Found → Type 0 = λ f. IsItem (b ∷ bs) s ss f in
        elim b.inactive as (λ t. b.inactive ≡ t → Is (cond t lone_end (or_else (option_map label_end (tail_of defined bytes b m behind)) lone_end))) [
          | true ↦ λ e. lone-item (b ∷ bs) s ss
          | false ↦ λ active. elim (tail_of defined bytes b m behind) as (λ o. tail_of defined bytes b m behind ≡ o → Is (or_else (option_map label_end o) lone_end)) [
            | None ↦ λ e. lone-item (b ∷ bs) s ss
            | Some tail ↦ λ e. end-item b bs s ss tail active (tail-calm b m behind tail e) (tail-quiet bytes defined b m behind tail e)
          ] refl
        ] refl

    ends-item : (bs : List Bracket) (s : Seat) (ss : List Seat) (m : Memory) (behind : List ℕ) (other : Found) → IsItem bs s ss other → IsItem bs s ss (or_else (end_at defined bytes bs m behind) other)
    ends-item [] s ss m behind other h = h
    ends-item (b ∷ bs) s ss m behind other h = last-item b bs s ss m behind

    bracket-item : (s : Seat) (ss : List Seat) (m : Memory) (text : List ℕ) → IsItem m.waiting s ss (bracket_or_part on defined bytes m text)
    bracket-item s ss m text =
        let bs = m.waiting in
        let other = run_or_part on text in
        let Is : Found → Type 0 = λ f. IsItem bs s ss f in
        let ends = cond (has_byte_at text 0 (begins_end on)) (end_at defined bytes bs m (drop 1 text)) None in
        elim (has_byte_at text 0 (begins_link on)) as (λ t. Is (or_else (cond t (Some link_bracket) (cond (is_image_bracket on text) (Some image_bracket) ends)) other)) [
          | true ↦ link-item bs s ss
          | false ↦ elim (is_image_bracket on text) as (λ t. Is (or_else (cond t (Some image_bracket) ends) other)) [
            | true ↦ image-item bs s ss
            | false ↦ elim (has_byte_at text 0 (begins_end on)) as (λ t. Is (or_else (cond t (end_at defined bytes bs m (drop 1 text)) None) other)) [
              | true ↦ ends-item bs s ss m (drop 1 text) other (run-item bs s ss on text)
              | false ↦ run-item bs s ss on text
            ]
          ]
        ]

    inline-item : (s : Seat) (ss : List Seat) (m : Memory) (text : List ℕ) → IsItem m.waiting s ss (inline_item_at on defined bytes m text)
    inline-item s ss m text =
        there-holds (IsItem m.waiting s ss) inline_grammars on text (bracket_or_part on defined bytes m text) (each-item m.waiting s ss inline_grammars text (calm-each text) (constructs-quiet text))
        (bracket-item s ss m text)

    -- ---- all items
    abbrev cut_from : ℕ → Memory → List Seat → List (Found × List Seat)
    cut_from bound m seats = cut_remembering (after_item bytes) (inline_item_at on defined bytes) item_length bound m seats

    -- the brackets that wait behind some of them are those that are remembered
    fronts-read : (bound : ℕ) (m : Memory) (seats : List Seat) (front rest : List (Found × List Seat)) → m.ahead ≡ seats → cut_from bound m seats ≡ front ++ rest
        → Goes (length m.events) m.waiting (flat_map (item_events bytes) front) (remembered bytes m front).waiting
    fronts-read bound m seats [] rest ahead e = goes-none (length m.events) m.waiting
    fronts-read zero m seats (i ∷ front) rest ahead e = absurd (cc)
    fronts-read (suc bound) m [] (i ∷ front) rest ahead e = absurd (cc)
    fronts-read (suc bound) m (s ∷ ss) (i ∷ front) rest ahead e =
        let f = inline_item_at on defined bytes m (bytes_of (s ∷ ss)) in
        let first : (f, take f.size (s ∷ ss)) ≡ i = cc in
        let more : cut_from bound (after_item bytes m f) (drop f.size (s ∷ ss)) ≡ front ++ rest = cc in
        let here : Memory = behind_events m f (f.events bytes (take f.size (s ∷ ss))) in
        let same : here ≡ after_item bytes m f = ap (λ l. behind_events m f (f.events bytes (take f.size l))) (sym ahead) in
        let es = f.events bytes (take f.size (s ∷ ss)) in
        let count : length m.events + length es ≡ length here.events = sym (length-append m.events es) in
        let next = fronts-read bound (after_item bytes m f) (drop f.size (s ∷ ss)) front rest (ap (drop f.size) ahead) more in
        let goes : Goes (length here.events) here.waiting (flat_map (item_events bytes) front) (remembered bytes (after_item bytes m f) front).waiting =
        subst (λ (n : Memory). Goes (length n.events) n.waiting (flat_map (item_events bytes) front) (remembered bytes (after_item bytes m f) front).waiting) (sym same) next in
        subst (λ (j : Found × List Seat). Goes (length m.events) m.waiting (item_events bytes j ++ flat_map (item_events bytes) front) (remembered bytes (after_item bytes m j.0) front).waiting) first
        ((inline-item s ss m (bytes_of (s ∷ ss))).reads (length m.events) (flat_map (item_events bytes) front) (remembered bytes (after_item bytes m f) front).waiting
        (λ bound fits. subst (λ n. AreRead (length m.events + length es) (waiting_behind f.mark n m.waiting) (spans_in bound (flat_map (item_events bytes) front)) (remembered bytes (after_item bytes m f) front).waiting) (sym count)
        (subst (λ n. AreRead n here.waiting (spans_in bound (flat_map (item_events bytes) front)) (remembered bytes (after_item bytes m f) front).waiting) (sym count) (goes bound fits))))

    items-linkless : (bound : ℕ) (m : Memory) (seats : List Seat) → IsLinkless (flat_map (item_events bytes) (cut_from bound m seats))
    items-linkless zero m seats = linkless-none
    items-linkless (suc bound) m [] = linkless-none
    items-linkless (suc bound) m (s ∷ ss) =
        let f = inline_item_at on defined bytes m (bytes_of (s ∷ ss)) in
        linkless-both (f.events bytes (take f.size (s ∷ ss))) (flat_map (item_events bytes) (cut_from bound (after_item bytes m f) (drop f.size (s ∷ ss)))) (inline-item s ss m (bytes_of (s ∷ ss))).linkless
        (items-linkless bound (after_item bytes m f) (drop f.size (s ∷ ss)))

    module _ (seats : List Seat) where
      abbrev first_white : ℕ
      first_white = prefix_len is_white (bytes_of seats)

      abbrev white : List Event
      white = leaf bytes SpaceOrTab (take first_white seats)

      abbrev first_memory : Memory
      first_memory = after_item bytes (nothing_read seats) (white_space first_white)

      abbrev pub all_items : List (Found × List Seat)
      all_items = inline_items on defined bytes seats

      abbrev pub read : List Event
      read = flat_map (item_events bytes) all_items

      white-quiet : AreQuiet white
      white-quiet = leafed bytes SpaceOrTab (take first_white seats) refl

      all-linkless : IsLinkless read
      all-linkless =
          linkless-both white (flat_map (item_events bytes) (cut_from (length seats) first_memory (drop first_white seats))) (quiet-linkless white white-quiet) (items-linkless (length seats) first_memory (drop first_white seats))

      parts : (xs ys : List Event) → IsLinkless (xs ++ ys) → IsLinkless xs × IsLinkless ys
      parts xs ys h = (record { none = every-front (λ (e : Event). same_name e.name Link ≡ false) xs ys h.none }, record { none = every-back (λ (e : Event). same_name e.name Link ≡ false) xs ys h.none })

      -- the events of some items from the front
      module _ (front rest : List (Found × List Seat)) (e : all_items ≡ front ++ rest) where
        abbrev pub front_events : List Event
        front_events = flat_map (item_events bytes) front

        abbrev pub last_brackets : List Bracket
        last_brackets = (remembered bytes (nothing_read seats) front).waiting

        front-goes : (items : List (Found × List Seat)) → all_items ≡ items ++ rest → Goes 0 [] (flat_map (item_events bytes) items) (remembered bytes (nothing_read seats) items).waiting
        front-goes [] is = goes-none 0 []
        front-goes (i ∷ items) is =
            let first : (white_space first_white, take first_white seats) ≡ i = cc in
            let more : cut_from (length seats) first_memory (drop first_white seats) ≡ items ++ rest = cc in
            let none : length first_memory.events ≡ 0 + length white = omega arith in
            subst (λ (j : Found × List Seat). Goes 0 [] (item_events bytes j ++ flat_map (item_events bytes) items) (remembered bytes (after_item bytes (nothing_read seats) j.0) items).waiting) first
            ((leaf-calm bytes SpaceOrTab (take first_white seats)).passes white-quiet 0 [] (flat_map (item_events bytes) items) (remembered bytes first_memory items).waiting
            (subst (λ n. Goes n first_memory.waiting (flat_map (item_events bytes) items) (remembered bytes first_memory items).waiting) none (fronts-read (length seats) first_memory (drop first_white seats) items rest refl more)))

        pub front-read : AreRead 0 [] (outermost_spans front_events) last_brackets
        front-read = front-goes front e (length front_events) (omega arith)

        pub front-linkless : AllByRecursion IsLinkless (outermost_spans front_events)
        front-linkless =
            let whole : read ≡ front_events ++ flat_map (item_events bytes) rest = ap (flat_map (item_events bytes)) e ∙ flat_map-append (item_events bytes) front rest in
            spans-have IsLinkless parts (length front_events) front_events (parts front_events (flat_map (item_events bytes) rest) (subst IsLinkless whole all-linkless)).0

      -- The events of links of inline text come in turn
      pub inline-flat : (one : Bool) → IsFlat (with_links one bytes read)
      inline-flat one =
          let all : all_items ≡ all_items ++ [] = sym (append-nil all_items) in
          links-flat one bytes read (last_brackets all_items [] all) (front-linkless all_items [] all) (front-read all_items [] all)

pub links-apart-in-texts : NoLinkInALinkOfText
links-apart-in-texts defined options bytes seats =
    let on = options.constructs in
    let one = options.gfm_strikethrough_single_tilde in
    flat-stands (inline_seat_events defined options bytes seats) (links-balanced one bytes (read bytes on defined seats) (balanced-of 4 bytes defined on seats)) (inline-flat bytes on defined seats one)

-- ---- both walks over brackets
pub walks-are-one : WalksAreOne
walks-are-one defined on bytes seats runs front rest e =
    fold-agrees runs (outermost_spans (front_events bytes on defined seats front rest e)) (last_brackets bytes on defined seats front rest e) (front-linkless bytes on defined seats front rest e) (front-read bytes on defined seats front rest e)

-- an end comes where a bracket waits
end-waits : (count : ℕ) (bs : List Bracket) (front : List (List Event)) (span : List Event) (rest : List (List Event)) (last : List Bracket) → is_named LabelEnd span ≡ true → AreRead count bs (front ++ span ∷ rest) last
    → (b : Bracket) × (more : List Bracket) × AreRead count bs front (b ∷ more)
end-waits count [] [] span rest last ends r = absurd (r.1.ends ends)
end-waits count (b ∷ bs) [] span rest last ends r = (b, bs, refl)
end-waits count bs (first ∷ front) span rest last ends r = let (b, more, there) = end-waits (count + length first) r.0 front span rest last ends r.2 in (b, more, (r.0, r.1, there))

pub some-waits : (b : Bracket) (bs : List Bracket) (ws : List Waiting) → map (λ (c : Bracket). c.image) (b ∷ bs) ≡ map (λ (w : Waiting). is_named LabelImage w.opener) ws → (w : Waiting) × (more : List Waiting) × (ws ≡ w ∷ more)
some-waits b bs [] e = absurd (cc)
some-waits b bs (w ∷ ws) e = (w, ws, refl)

pub ends-have-brackets : EndsHaveBrackets
ends-have-brackets defined on bytes seats runs front span rest e ends =
    let items = all_items bytes on defined seats in
    let all : items ≡ items ++ [] = sym (append-nil items) in
    let linkless = every-front IsLinkless front (span ∷ rest) (subst (AllByRecursion IsLinkless) e (front-linkless bytes on defined seats items [] all)) in
    let last = last_brackets bytes on defined seats items [] all in
    let (b, more, there) = end-waits 0 [] front span rest last ends (subst (λ spans. AreRead 0 [] spans last) e (front-read bytes on defined seats items [] all)) in
    some-waits b more (folded runs front).waiting (fold-agrees runs front (b ∷ more) linkless there)

pub labels-are-one : LabelsAreOne
labels-are-one defined on bytes seats runs front rest b bs e waits =
    let spans = outermost_spans (front_events bytes on defined seats front rest e) in fold-tied runs spans b bs (subst (AreRead 0 [] spans) waits (front-read bytes on defined seats front rest e))
