-- The events that a chain of text is read as, with what is between its chunks: space is added behind space. So links lead on as they did.
--
-- Where text comes before the next chunk, the text of the chain is cut behind a line ending, and so are the events that it is read as.
use Rattle.mddocument_rules.proofs.Prelude.{◌≡◌, ◌∙◌, ℕ, ◌+◌, ◌-◌, Bool, true, false, cond, List, [], ◌∷◌, ◌++◌, append-nil, append_assoc, Option, Some, ap, arith, between, drop, every-append, every-back, every-drop, every-front, every-all, false_from_ne_true, false≢true, flat_map, inl, inr, length, map, refl, subst, sym, AllByRecursion, not, ◌&&◌, Content, Event, Enter, Exit, Kind, Point, Seat, end_after, is_enter, next_of, Given, IsReady}
use Rattle.std.specs.Prelude.{◌<◌}
use Rattle.std.proofs.lemmas.List.{append_cancel_left, map-append}
use Rattle.markdown_base.proofs.Common.{every-map, every-take}
use Rattle.markdown_base.proofs.Orders.{upto-upto}
use Rattle.markdown_base.proofs.Seats.{end-after-append, stands-self}
use Rattle.markdown_base.specs.Places.{shown, stands_before}
use Rattle.markdown_base.specs.Virtual.{point}
use Rattle.markdown_children.proofs.ChainOrder.Following.{fits_next}
use Rattle.markdown_children.proofs.Parts.Kept.{after_changes, between-none, untagged-olds}
use Rattle.markdown_children.specs.Chains.{chain_of, fits}
use Rattle.markdown_children.specs.Children.{chain_changes}
use Rattle.markdown_children.specs.LawStatements.{AreSpaced, IsWholeFrom, LeadOnFrom}
use Rattle.markdown_children.specs.NextContent.{HasTextInGaps}
use Rattle.markdown_children.specs.Parts.{divided_over, front_until, parts}
use Rattle.markdown_children.specs.Ready.{place_at}
use Rattle.markdown_children.specs.Reads.{text_of_chain}
use Rattle.markdown_edits.specs.Woven.{Change}
use Rattle.markdown_tokenizer.proofs.Positions.Chains.{IsChain}
use Rattle.mdblock_leaf_blocks.proofs.Marks.Courses.{Course, course-every, course-on, course-place, course-upto}
use Rattle.mdblock_leaf_blocks.specs.ChunksJoin.{AcrossGap}
use Rattle.mdconstructs_machines.specs.Innermost.{innermost_spans, span_over, stretch_bytes}
use Rattle.mdinline_text_machine.proofs.Autolinks.Places.{EndsInLine, chain-in-line}
use Rattle.mdinline_text_machine.proofs.DeepSpans.Atoms.{EndsLine}
use Rattle.mdinline_text_machine.proofs.DeepSpans.Chains.{front-and-rest, front-upto}
use Rattle.mdinline_text_machine.proofs.DeepSpans.Chunks.{HasChunk, Stands, chain-seats, chunk_seats, from_chunk, has-chunk, no-gap, place_behind, up-to-chunk}
use Rattle.mdinline_text_machine.proofs.DeepSpans.Places.{Upto as IsUpto, chain-from, ends-line, origin}
use Rattle.mdinline_text_machine.specs.ChainTexts.{chain_text}
use Rattle.mddocument.proofs.InContainers.Order.{steady-pairs}
use Rattle.mddocument.proofs.Innermost.Chains.{IsReadWell, not-same, some-gap, stretches-start}
use Rattle.mddocument.proofs.Innermost.Cuts.{Ascends, EndsUpto, IsBehind, ascends-back, cut-stretches, cut-there, rest-behind}
use Rattle.mddocument.proofs.Innermost.Lined.{InLine, LinedFor}
use Rattle.mddocument_laws.proofs.Chosen.{AreOther}
use Rattle.mddocument_link_targets.specs.declared.strings.Reading.TheVariants.{AsWritten}
use Rattle.mddocument_link_targets.specs.Strings.{given}
use Rattle.mddocument_link_targets.specs.Targets.{enters_link}
use Rattle.mddocument_rules.proofs.AddedSpace.{AreSpace, HaveSpace, IsSpaced, spaced-kind, told}
use Rattle.mddocument_rules.proofs.ApartLinks.{AllBare, IsBare, LeadApart, apart-both, apart-free, lead-apart}
use Rattle.mddocument_rules.proofs.LeadSegments.{lead-new}
use Rattle.mddocument_rules.proofs.Leading.{IsLink, Lead, is_reference, lead-back}
use Rattle.mddocument_rules.proofs.Reworked.{enter-gives}
use Rattle.mddocument_rules.proofs.SpacedRuns.{LastSame, lines-white, new-ones, old-ones, ones, spaced-alone, spaced-ones}
use Rattle.mddocument_rules.proofs.VirtualBytes.{IfFeed, feeds-virtual}
use Rattle.mddocument_rules.proofs.WrittenTexts.{AreUnmarked, IsUnmarked}
use Rattle.mddocument_rules.specs.SegmentLaws.{BeginsWithAnEnter, NoneBeginLinks, Segment, instead, new_events, old_events}

-- ---- events that are cut where no innermost span is
module _ (bytes : List ℕ) where
  -- the last event gives nothing before others
  abbrev LastGives : List Event → List Event → Type 0
  LastGives [] ys = Unit {0}
  LastGives (e ∷ []) ys = told bytes e ys ≡ []
  LastGives (e ∷ f ∷ es) ys = LastGives (f ∷ es) ys

  no-longer : (x : Point × Point) (l : List (Point × Point)) → x ∷ l ≡ l → ⊥
  no-longer x l e = let long = ap length e in omega (arith, long)

  last-gives : (xs ys : List Event) → innermost_spans (xs ++ ys) ≡ innermost_spans xs ++ innermost_spans ys → LastGives xs ys
  last-gives [] ys is = tt
  last-gives (e ∷ []) [] is = refl
  last-gives (e ∷ []) (y ∷ ys) is = by e.kind y.kind is
    where
      by : (k l : Kind) → cond (is_enter k) (cond (is_enter l) [] ((e.point, y.point) ∷ [])) [] ++ innermost_spans (y ∷ ys) ≡ (cond (is_enter k) [] [] ++ []) ++ innermost_spans (y ∷ ys)
          → cond (is_enter k && not (is_enter l)) (given bytes AsWritten e.name e.point.index y.point.index) [] ≡ []
      by Enter Enter is = refl
      by Enter Exit is = absurd (no-longer (e.point, y.point) (innermost_spans (y ∷ ys)) is)
      by Exit l is = refl
  last-gives (e ∷ f ∷ es) ys is =
      let here : List (Point × Point) = cond (is_enter e.kind) (cond (is_enter f.kind) [] ((e.point, f.point) ∷ [])) [] in
      last-gives (f ∷ es) ys (append_cancel_left here (innermost_spans ((f ∷ es) ++ ys)) (innermost_spans (f ∷ es) ++ innermost_spans ys) (is ∙ append_assoc here (innermost_spans (f ∷ es)) (innermost_spans ys)))

  last-same : (xs gap : List Event) (s : List Segment) (rest : List Event) → BeginsWithAnEnter gap → old_events s ≡ rest → LastGives xs rest → LastSame bytes xs (instead [] gap ∷ s)
  last-same [] gap s rest begins is h = tt
  last-same (e ∷ []) gap s rest begins is h = enter-gives bytes e gap (new_events s) begins ∙ sym h ∙ ap (told bytes e) (sym is)
  last-same (e ∷ f ∷ es) gap s rest begins is h = last-same (f ∷ es) gap s rest begins is h

begins-more : (gap zs : List Event) → BeginsWithAnEnter gap → BeginsWithAnEnter (gap ++ zs)
begins-more [] zs h = absurd h
begins-more (x ∷ gap) zs h = h

-- ---- events behind which others stand elsewhere
module _ (bytes : List ℕ) (defined : List ℕ → Bool) (end : Point) where
  -- no link is entered last
  ones-apart : (xs gap : List Event) (s : List Segment) (rest : List Event) → AllByRecursion (IsUpto end) xs → AllByRecursion (IsBehind end) rest → Lead bytes defined (xs ++ rest) → NoneBeginLinks s → NoneBeginLinks (ones xs ++ instead [] gap ∷ s)
  ones-apart [] gap s rest up late leads none = none
  ones-apart (e ∷ []) gap s rest up late leads none = (false_from_ne_true (enters_link e) (λ is. no-link (leads.0 is)), none)
    where
      no-link : IsLink bytes defined e.point rest → ⊥
      no-link l =
          let first : rest ≡ l.first ∷ (l.others ++ l.exit ∷ l.more) = l.are ∙ ap (λ x. x ++ l.exit ∷ l.more) l.begins in
          let behind = (subst (AllByRecursion (IsBehind end)) first late).0 in
          false≢true (sym up.0 ∙ ap (stands_before end) (sym l.here) ∙ behind)
  ones-apart (e ∷ f ∷ es) gap s rest up late leads none = ones-apart (f ∷ es) gap s rest up.1 late leads.1 none

pub alone-apart : (xs : List Event) → NoneBeginLinks (ones xs)
alone-apart [] = tt
alone-apart (e ∷ []) = tt
alone-apart (e ∷ f ∷ es) = alone-apart (f ∷ es)

old-alone : (xs : List Event) → old_events (ones xs) ≡ xs
old-alone [] = refl
old-alone (x ∷ xs) = ap (λ l. x ∷ l) (old-alone xs)

new-alone : (xs : List Event) → new_events (ones xs) ≡ xs
new-alone [] = refl
new-alone (x ∷ xs) = ap (λ l. x ∷ l) (new-alone xs)

stretches-upto : (t : ℕ) (bytes : List ℕ) (end p : Point) (stretches : List (Seat × List Seat)) (rest : List Seat) → Course AcrossGap t bytes p (flat_map stretch_bytes stretches ++ rest) → end_after p (flat_map stretch_bytes stretches) ≡ end
    → AllByRecursion (EndsUpto end) (map (span_over bytes) stretches)
stretches-upto t bytes end p [] rest c is = tt
stretches-upto t bytes end p (a ∷ others) rest c is =
    let here = stretch_bytes a in
    let seats = flat_map stretch_bytes others in
    let q = end_after a.0.end a.1 in
    let later : Course AcrossGap t bytes q (seats ++ rest) = course-on AcrossGap t bytes p here (seats ++ rest) (subst (Course AcrossGap t bytes p) (append_assoc here seats rest) c) in
    let is_later : end_after q seats ≡ end = sym (end-after-append p here seats) ∙ is in
    let place = course-place AcrossGap t bytes q (seats ++ rest) later in
    let exit : stands_before end (shown bytes q) ≡ false = (λ i. stands_before (sym is_later i) (place.is_shown i)) ∙ course-upto AcrossGap t bytes q seats rest later in
    (exit, stretches-upto t bytes end q others rest later is_later)

module _ (g : Given) (some : 0 < g.tab) (wanted : Option Content) (events : List Event) (ready : IsReady g.tab g.bytes wanted events) (gaps : HasTextInGaps wanted events) (defined : List ℕ → Bool)
    (space : (k d : ℕ) → fits wanted events k ≡ true → next_of events k ≡ Some d → (between (k + 2) d events ≡ [] → ⊥) → AreSpace g.bytes (between (k + 2) d events))
    (bare : (k d : ℕ) → fits wanted events k ≡ true → next_of events k ≡ Some d → AllBare (between (k + 2) d events)) where
  abbrev t : ℕ
  t = g.tab

  abbrev Follows : Point → List Seat → Type 0
  Follows = Course AcrossGap g.tab g.bytes

  -- What is known of a child before a chunk takes its part
  record TakesPart (k : ℕ) (ks : List ℕ) (read left : List Event) (pre : List Seat) (s : Seat) (ss behind : List Seat) : Type 0 where
    stands : Stands g some events (k + 2) (pre ++ (s ∷ ss)) behind
    ends_at : place_at events (k + 1) ≡ place_behind g some events (pre ++ (s ∷ ss))
    lined : LinedFor (read ++ left) g.bytes ((s ∷ ss) ++ flat_map (chunk_seats g events) ks)
    ascends : Ascends (read ++ left)
    upto : AllByRecursion (IsUpto (place_at events (k + 1))) read
    from : Point
    course : Follows from ((s ∷ ss) ++ flat_map (chunk_seats g events) ks)
    plain : AreUnmarked (read ++ left)
    leads : Lead g.bytes defined (read ++ left)
    bares : AllBare (read ++ left)

  -- Where text comes before the next chunk, a child is cut
  record IsCutBehindLine (k d : ℕ) (ks : List ℕ) (read left : List Event) (pre : List Seat) (s : Seat) (ss behind : List Seat) (h : HasChunk g some events (k + 2) d (pre ++ (s ∷ ss)) behind) : Type 0 where
    stretches : List (Seat × List Seat)
    are_all : flat_map stretch_bytes stretches ≡ s ∷ ss
    lines : AllByRecursion InLine stretches
    are_innermost : innermost_spans (read ++ front_until (place_at events (k + 1)) left) ≡ map (span_over g.bytes) stretches
    ends : EndsLine (s ∷ ss)
    gives : LastGives g.bytes (read ++ front_until (place_at events (k + 1)) left) (drop (length (front_until (place_at events (k + 1)) left)) left)
    up : AllByRecursion (IsUpto (place_at events (k + 1))) (read ++ front_until (place_at events (k + 1)) left)
    late : AllByRecursion (IsBehind (place_at events (k + 1))) (drop (length (front_until (place_at events (k + 1)) left)) left)
    next : TakesPart d ks [] (drop (length (front_until (place_at events (k + 1)) left)) left) ((pre ++ (s ∷ ss)) ++ h.before) h.first h.others h.behind

  whole-is : (end : Point) (read left : List Event) → (read ++ front_until end left) ++ drop (length (front_until end left)) left ≡ read ++ left
  whole-is end read left = append_assoc read (front_until end left) (drop (length (front_until end left)) left) ∙ ap (λ l. read ++ l) (front-and-rest end left)

  cut-behind-line : (k d : ℕ) (ks : List ℕ) (read left : List Event) (pre : List Seat) (s : Seat) (ss behind : List Seat) → fits wanted events k ≡ true → next_of events k ≡ Some d
      → stands_before (place_at events (k + 1)) (place_at events d) ≡ true → TakesPart k (d ∷ ks) read left pre s ss behind → (h : HasChunk g some events (k + 2) d (pre ++ (s ∷ ss)) behind)
      → IsCutBehindLine k d ks read left pre s ss behind h
  cut-behind-line k d ks read left pre s ss behind fit next before c h =
      let end = place_at events (k + 1) in
      let p = place_behind g some events pre in
      let front = front_until end left in
      let rest = drop (length front) left in
      let chain : IsChain g.tab g.bytes p ((s ∷ ss) ++ behind) = chain-from g.tab g.bytes some pre ((s ∷ ss) ++ behind) (c.stands.whole ∙ append_assoc pre (s ∷ ss) behind) in
      let end_is : end ≡ end_after s.end ss = c.ends_at ∙ end-after-append (origin g.tab g.bytes some) pre (s ∷ ss) in
      let column : end.column ≡ 1 = elim (ready.gaps k d fit next).in_line [
        | inl same ↦ absurd (not-same end (place_at events d) same before)
        | inr there ↦ there.0
      ] in
      let in_line = every-front EndsInLine (s ∷ ss) behind (chain-in-line g.tab g.bytes p ((s ∷ ss) ++ behind) chain) in
      let line = ends-line s ss in_line (ap (λ (q : Point). q.column) (sym end_is) ∙ column) in
      let others = flat_map (chunk_seats g events) (d ∷ ks) in
      let more : others ≡ h.first ∷ (h.others ++ flat_map (chunk_seats g events) ks) = ap (λ l. l ++ flat_map (chunk_seats g events) ks) h.text in
      let a = cut-stretches s [] c.lined.account.stretches (s ∷ ss) others tt c.lined.lines line c.lined.account.are_all in
      let all = whole-is end read left in
      let both : innermost_spans ((read ++ front) ++ rest) ≡ map (span_over g.bytes) a.front ++ map (span_over g.bytes) a.back =
      ap innermost_spans all ∙ c.lined.account.are_innermost ∙ ap (map (span_over g.bytes)) a.are ∙ map-append (span_over g.bytes) a.front a.back in
      let front_course = subst (λ l. Follows c.from (l ++ others)) (sym a.front_is) c.course in
      let ups = stretches-upto g.tab g.bytes end c.from a.front others front_course (ap (end_after c.from) a.front_is ∙ sym end_is) in
      let late = stretches-start g.bytes end a.back h.first (h.others ++ flat_map (chunk_seats g events) ks) (a.back_is ∙ more) (ap (stands_before end) h.first_shown ∙ before) in
      let steady = ascends-back read left c.ascends in
      let up = every-append (IsUpto end) read front c.upto (front-upto end left) in
      let behind_end = rest-behind end steady.0 left steady.1 in
      let there = cut-there end (read ++ front) rest (map (span_over g.bytes) a.front) (map (span_over g.bytes) a.back) up behind_end ups late both in
      let lines = subst (AllByRecursion InLine) a.are c.lined.lines in
      record {
        stretches = a.front;
        are_all = a.front_is;
        lines = every-front InLine a.front a.back lines;
        are_innermost = there.0;
        ends = line;
        gives = last-gives g.bytes (read ++ front) rest (both ∙ (λ i. sym there.0 i ++ sym there.1 i));
        up = up;
        late = behind_end;
        next = record {
          stands = h.next;
          ends_at = h.to;
          lined = record { account = record { stretches = a.back; are_all = a.back_is ∙ more; are_innermost = there.1 }; lines = every-back InLine a.front a.back lines };
          ascends = ascends-back front rest (subst Ascends (sym (front-and-rest end left)) steady);
          upto = tt;
          from = end_after c.from (s ∷ ss);
          course = subst (Follows (end_after c.from (s ∷ ss))) more (course-on AcrossGap g.tab g.bytes c.from (s ∷ ss) others c.course);
          plain = every-back IsUnmarked (read ++ front) rest (subst AreUnmarked (sym all) c.plain);
          leads = lead-back g.bytes defined (read ++ front) rest (subst (Lead g.bytes defined) (sym all) c.leads);
          bares = every-back IsBare (read ++ front) rest (subst AllBare (sym all) c.bares);
        };
      }

  -- directly behind a chunk the next one takes its part too
  takes-directly : (k d : ℕ) (ks : List ℕ) (read left : List Event) (pre : List Seat) (s : Seat) (ss behind : List Seat) → fits wanted events k ≡ true → next_of events k ≡ Some d
      → d ≡ k + 2 → TakesPart k (d ∷ ks) read left pre s ss behind → (h : HasChunk g some events (k + 2) d (pre ++ (s ∷ ss)) behind)
      → TakesPart d ks (read ++ front_until (place_at events (k + 1)) left) (drop (length (front_until (place_at events (k + 1)) left)) left) pre s (ss ++ h.first ∷ h.others) h.behind
  takes-directly k d ks read left pre s ss behind fit next at c h =
      let end = place_at events (k + 1) in
      let front = front_until end left in
      let fit_next = fits_next g.tab g.bytes wanted events ready k d fit next in
      let l = h.first ∷ h.others in
      let none = no-gap g some events k d (pre ++ (s ∷ ss)) behind at h in
      let same : ((pre ++ (s ∷ ss)) ++ h.before) ++ l ≡ pre ++ (s ∷ (ss ++ l)) =
      (λ x. ((pre ++ (s ∷ ss)) ++ none x) ++ l) ∙ ap (λ b. b ++ l) (append-nil (pre ++ (s ∷ ss))) ∙ append_assoc pre (s ∷ ss) l in
      let q = place_at events (d + 1) in
      let forward = upto-upto end (place_at events d) q (ready.gaps k d fit next).forward (ready.readable d fit_next).forward in
      let all = whole-is end read left in
      let seats : (s ∷ ss) ++ flat_map (chunk_seats g events) (d ∷ ks) ≡ (s ∷ (ss ++ l)) ++ flat_map (chunk_seats g events) ks =
      ap (λ r. (s ∷ ss) ++ (r ++ flat_map (chunk_seats g events) ks)) h.text ∙ sym (append_assoc (s ∷ ss) l (flat_map (chunk_seats g events) ks)) in
      record {
        stands = subst (λ r. Stands g some events (d + 2) r h.behind) same h.next;
        ends_at = h.to ∙ ap (place_behind g some events) same;
        lined = subst (LinedFor ((read ++ front) ++ drop (length front) left) g.bytes) seats (subst (λ es. LinedFor es g.bytes ((s ∷ ss) ++ flat_map (chunk_seats g events) (d ∷ ks))) (sym all) c.lined);
        ascends = subst Ascends (sym all) c.ascends;
        upto = every-map (IsUpto end) (IsUpto q) (λ (e : Event) u. upto-upto e.point end q u forward) (read ++ front) (every-append (IsUpto end) read front c.upto (front-upto end left));
        from = c.from;
        course = subst (Follows c.from) seats c.course;
        plain = subst AreUnmarked (sym all) c.plain;
        leads = subst (Lead g.bytes defined) (sym all) c.leads;
        bares = subst AllBare (sym all) c.bares;
      }

  -- The events of a child with what is between the chunks, as segments, and what comes behind the chain
  record Woven (read left : List Event) (k : ℕ) (ks more : List ℕ) : Type 0 where
    segments : List Segment
    old : old_events segments ≡ read ++ left
    woven : List Event
    new : new_events segments ≡ read ++ woven
    spaced : (a : Bool) → IsSpaced g.bytes a segments
    apart : NoneBeginLinks segments
    bares : AllBare woven
    last : ℕ
    pre : List Seat
    rest : List Seat
    stands : Stands g some events (last + 2) pre rest
    on : AreSpaced (last + 2) more (length events)
    is : (ws : List Change) → from_chunk events k ks left ws ≡ woven ++ after_changes events ws (last + 2)

  weave : (k : ℕ) (ks more : List ℕ) (read left : List Event) (pre : List Seat) (s : Seat) (ss behind : List Seat) → fits wanted events k ≡ true → LeadOnFrom events k ks → AreSpaced (k + 2) (ks ++ more) (length events)
      → TakesPart k ks read left pre s ss behind → Woven read left k ks more
  weave k [] more read left pre s ss behind fit lead spaced c = record {
    segments = ones (read ++ left);
    old = old-alone (read ++ left);
    woven = left;
    new = new-alone (read ++ left);
    spaced = spaced-alone g.bytes (read ++ left);
    apart = alone-apart (read ++ left);
    bares = every-back IsBare read left c.bares;
    last = k;
    pre = pre ++ (s ∷ ss);
    rest = behind;
    stands = c.stands;
    on = spaced;
    is = λ ws. refl;
  }
  weave k (d ∷ ks) more read left pre s ss behind fit lead spaced c =
      let end = place_at events (k + 1) in
      let front = front_until end left in
      let rest = drop (length front) left in
      let gap = between (k + 2) d events in
      let fit_next = fits_next g.tab g.bytes wanted events ready k d fit lead.0 in
      let h = has-chunk g some events ready (k + 2) d (pre ++ (s ∷ ss)) behind fit_next spaced.0 c.stands in
      let all = whole-is end read left in
      let in_left : AllBare (front ++ rest) = subst AllBare (sym (front-and-rest end left)) (every-back IsBare read left c.bares) in
      let front_bare = every-front IsBare front rest in_left in
      elim (gaps k d fit lead.0) [
        | inl directly ↦
            let empty : gap ≡ [] = between-none events (k + 2) d directly in
            let b = weave d ks more (read ++ front) rest pre s (ss ++ h.first ∷ h.others) h.behind fit_next lead.2 spaced.1 (takes-directly k d ks read left pre s ss behind fit lead.0 directly c h) in
            record {
              segments = b.segments;
              old = b.old ∙ all;
              woven = front ++ b.woven;
              new = b.new ∙ append_assoc read front b.woven;
              spaced = b.spaced;
              apart = b.apart;
              bares = every-append IsBare front b.woven front_bare b.bares;
              last = b.last;
              pre = b.pre;
              rest = b.rest;
              stands = b.stands;
              on = b.on;
              is = λ ws. ap (λ l. front ++ (l ++ from_chunk events d ks rest ws)) empty ∙ ap (λ l. front ++ l) (b.is ws) ∙ sym (append_assoc front b.woven (after_changes events ws (b.last + 2)));
            }
        | inr before ↦
            let cut = cut-behind-line k d ks read left pre s ss behind fit lead.0 before c h in
            let b = weave d ks more [] rest ((pre ++ (s ∷ ss)) ++ h.before) h.first h.others h.behind fit_next lead.2 spaced.1 cut.next in
            let xs = read ++ front in
            let sp = space k d fit lead.0 (some-gap g some events k d (pre ++ (s ∷ ss)) behind c.ends_at before h) in
            let others = flat_map (chunk_seats g events) (d ∷ ks) in
            let feeds = every-front (IfFeed g.bytes) (s ∷ ss) others (course-every AcrossGap g.tab g.bytes (IfFeed g.bytes) (feeds-virtual g.bytes g.tab) c.from ((s ∷ ss) ++ others) c.course) in
            let plain = every-front IsUnmarked xs rest (subst AreUnmarked (sym all) c.plain) in
            record {
              segments = ones xs ++ instead [] gap ∷ b.segments;
              old = old-ones xs (instead [] gap ∷ b.segments) ∙ ap (λ l. xs ++ l) b.old ∙ all;
              woven = front ++ (gap ++ b.woven);
              new = new-ones xs (instead [] gap ∷ b.segments) ∙ ap (λ l. xs ++ (gap ++ l)) b.new ∙ append_assoc read front (gap ++ b.woven);
              spaced = λ a. spaced-ones g.bytes xs (instead [] gap ∷ b.segments) a (last-same g.bytes xs gap b.segments rest sp.begins b.old cut.gives)
                  (refl, lines-white g.bytes g.tab (gap ++ new_events b.segments) (begins-more gap (new_events b.segments) sp.begins) xs a cut.stretches s ss c.from others plain cut.are_innermost cut.lines cut.are_all cut.ends c.course feeds, sp, b.spaced true);
              apart = ones-apart g.bytes defined end xs gap b.segments rest cut.up cut.late (subst (Lead g.bytes defined) (sym all) c.leads) b.apart;
              bares = every-append IsBare front (gap ++ b.woven) front_bare (every-append IsBare gap b.woven (bare k d fit lead.0) b.bares);
              last = b.last;
              pre = b.pre;
              rest = b.rest;
              stands = b.stands;
              on = b.on;
              is = λ ws.
                  ap (λ l. front ++ (gap ++ l)) (b.is ws)
                  ∙ ap (λ l. front ++ l) (sym (append_assoc gap b.woven (after_changes events ws (b.last + 2))))
                  ∙ sym (append_assoc front (gap ++ b.woven) (after_changes events ws (b.last + 2)));
            }
      ]

  -- ---- chain by chain
  -- what a chain is read as, and that its links lead well
  pub record IsReadApart (child : List Event) (seats : List Seat) : Type 0 where
    pub well : IsReadWell g.bytes child seats
    pub from : Point
    pub course : Follows from seats
    pub plain : AreUnmarked child
    pub leads : Lead g.bytes defined child
    pub bares : AllBare child

  ascends-of : (child : List Event) (seats : List Seat) → IsReadApart child seats → Ascends child
  ascends-of [] seats r = (point 1 1 0 0, tt)
  ascends-of (e ∷ es) seats r = (e.point, (stands-self e.point, tt, steady-pairs (λ p. Unit {0}) e es r.well.in_order (every-all (λ (e : Event). Unit {0}) (λ e. tt) es)))

  module _ (of_chain : ℕ → List Event) (others : AreOther is_reference events) where
    -- Links of the list with what its chains are read as lead well, and no chunk is in one
    pub all-apart : (cs : List ℕ) (i : ℕ) → AllByRecursion (λ c. fits wanted events c ≡ true) cs → AllByRecursion (IsWholeFrom events) cs → AllByRecursion (λ c. IsReadApart (of_chain c) (chain_text g events c).seats) cs
        → AreSpaced i (flat_map (chain_of events) cs) (length events) → (pre rest : List Seat) → Stands g some events i pre rest
        → LeadApart g.bytes defined (after_changes events (flat_map chain_changes (divided_over events cs (map of_chain cs))) i)
    all-apart [] i fit whole reads spaced pre rest stands =
        subst (LeadApart g.bytes defined) (sym (untagged-olds i (drop i events))) (apart-free g.bytes defined (drop i events) (every-drop (λ (e : Event). is_reference e.name ≡ false) i events others))
    all-apart (c ∷ cs) i fit whole reads spaced pre rest stands =
        let ks = whole.0.0 in
        let is : chain_of events c ≡ c ∷ ks = whole.0.1 in
        let more = flat_map (chain_of events) cs in
        let child = of_chain c in
        let ws : List Change = flat_map chain_changes (divided_over events cs (map of_chain cs)) in
        let changes : List ℕ → List Change = λ ys. chain_changes (record { chunks = ys; parts = parts (map (λ k. place_at events (k + 1)) ys) child }) in
        let apart : AreSpaced i (c ∷ (ks ++ more)) (length events) = subst (λ (ys : List ℕ). AreSpaced i (ys ++ more) (length events)) is spaced in
        let h = has-chunk g some events ready i c pre rest fit.0 apart.0 stands in
        let seats : (chain_text g events c).seats ≡ (h.first ∷ h.others) ++ flat_map (chunk_seats g events) ks =
        ap (λ l. (text_of_chain g events l).seats) is ∙ chain-seats g events c ks ∙ ap (λ l. l ++ flat_map (chunk_seats g events) ks) h.text in
        let r = subst (IsReadApart child) seats reads.0 in
        let w = weave c ks more [] child (pre ++ h.before) h.first h.others h.behind fit.0 whole.0.2 apart.1 (record {
          stands = h.next;
          ends_at = h.to;
          lined = r.well.lined;
          ascends = ascends-of child ((h.first ∷ h.others) ++ flat_map (chunk_seats g events) ks) r;
          upto = tt;
          from = r.from;
          course = r.course;
          plain = r.plain;
          leads = r.leads;
          bares = r.bares;
        }) in
        let further = all-apart cs (w.last + 2) fit.1 whole.1 reads.1 w.on w.pre w.rest w.stands in
        let links = lead-new g.bytes defined (HaveSpace g.bytes) (spaced-kind g.bytes) w.segments (true, w.spaced true) w.apart (subst (Lead g.bytes defined) (sym w.old) r.leads) in
        let inside = lead-apart g.bytes defined w.woven w.bares (subst (Lead g.bytes defined) w.new links) in
        let gap = between i c events in
        let first = apart-free g.bytes defined gap (every-take (λ (e : Event). is_reference e.name ≡ false) (c - i) (drop i events) (every-drop (λ (e : Event). is_reference e.name ≡ false) i events others)) in
        let all = apart-both g.bytes defined gap (w.woven ++ after_changes events ws (w.last + 2)) first (apart-both g.bytes defined w.woven (after_changes events ws (w.last + 2)) inside further) in
        subst (λ ys. LeadApart g.bytes defined (after_changes events (changes ys ++ ws) i)) (sym is)
        (subst (LeadApart g.bytes defined) (sym (up-to-chunk events c 0 i c ks more child ws apart)) (subst (λ l. LeadApart g.bytes defined (gap ++ l)) (sym (w.is ws)) all))
