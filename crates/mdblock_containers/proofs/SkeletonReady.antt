-- The skeleton of a document is well formed, and its chains can be read.
use Rattle.markdown_base.proofs.Orders.{InOrder, order-pairs}
use Rattle.std.proofs.Common.{◌≡◌, ℕ, zero, suc, ◌+◌, true, false, List, [], ◌∷◌, refl, sym, ap, ◌∙◌, subst, arith, inr}
use Rattle.std.specs.Prelude.{Option, None, Some, is_some, slice_get}
use Rattle.std.specs.List.{AllByRecursion, between}
use Rattle.std.proofs.lemmas.Bool.{false≢true}
use Rattle.std.proofs.lemmas.List.Elements.{All-from_recursion}
use Rattle.markdown_base.proofs.Common.{every-map}
use Rattle.markdown_base.specs.declared.event.Content.{Content}
use Rattle.markdown_base.specs.declared.event.Content.TheVariants as content
use Rattle.markdown_base.specs.declared.event.Event.{Event}
use Rattle.markdown_base.specs.declared.event.Name.{Name}
use Rattle.markdown_base.specs.declared.event.Point.{Point}
use Rattle.markdown_base.specs.Places.{IsPointOf, IsShown, stands_before}
use Rattle.markdown_base.specs.Virtual.{Seat, end_after, point, virtual}
use Rattle.markdown_base.proofs.Balanced.{balanced_from_open}
use Rattle.markdown_edits.specs.Links.{content_at, next_of}
use Rattle.markdown_base.specs.OpenNames.{names_after, names_after_all}
use Rattle.markdown_tokenizer.specs.Engine.{IsWellFormed}
use Rattle.markdown_tokenizer.specs.Text.{Given, IsDocument}
use Rattle.markdown_children.specs.Chains.{fits}
use Rattle.markdown_children.specs.NextContent.{HasTextInGaps}
use Rattle.markdown_children.specs.Ready.{IsGap, IsReadable, IsReady, IsShownPlace, place_at}
use Rattle.markdown_children.proofs.ChainOrder.Following.{some_content}
use Rattle.mdconstructs_machines.proofs.BlockReads.Accounts.{lines-are-all}
use Rattle.mdconstructs_machines.specs.LineEvents.{all_of, lines_in}
use Rattle.mdblock_leaf_blocks.proofs.Marks.Courses.{Place, Track, whole-track}
use Rattle.mdblock_leaf_blocks.proofs.Marks.MarkAccounts.{bare}
use Rattle.mdblock_leaf_blocks.specs.LeafEvents.{Mark}
use Rattle.mdblock_containers.proofs.PartGoes.{all_parts_go}
use Rattle.mdblock_containers.proofs.PartSpans.{Goes}
use Rattle.mdblock_containers.proofs.SeatFacts.{document_lines, lines_end}
use Rattle.mdblock_containers.proofs.SkeletonChains.{goes_forward, has_one_content, idle, joined_both, next_in, one_content_of}
use Rattle.mdblock_containers.proofs.TightMarks.{Tight, events_chunks, events_tight, parts_tight}
use Rattle.mdblock_containers.specs.Rows.{rows}
use Rattle.mdblock_containers.specs.Skeleton.{chained_from, parts, parts_marks}
use Rattle.mdblock_containers.specs.SkeletonLaws.{SkeletonsAreFormed, SkeletonsAreReady, SkeletonsHaveTextInGaps}
use Rattle.markdown_tokenizer.proofs.Inside.Made.{before-upto}

-- ---- links change no name and no place

pub names_chained : (o : Option (List Name)) (i : ℕ) (previous : Option ℕ) (ms : List Mark) → names_after_all o (chained_from i previous ms) ≡ names_after_all o (bare ms)
names_chained None i previous ms = refl
names_chained (Some st) i previous [] = refl
names_chained (Some st) i previous ((e, None) ∷ ms) = names_chained (names_after e.kind e.name st) (suc i) previous ms
names_chained (Some st) i previous ((e, Some chunk) ∷ ms) = names_chained (names_after e.kind e.name st) (suc i) (Some i) ms

pub order_chained : (p : Point) (i : ℕ) (previous : Option ℕ) (ms : List Mark) (q : Point) → InOrder p (bare ms) q → InOrder p (chained_from i previous ms) q
order_chained p i previous [] q h = h
order_chained p i previous ((e, None) ∷ ms) q h = (h.0, order_chained e.point (suc i) previous ms q h.1)
order_chained p i previous ((e, Some chunk) ∷ ms) q h = (h.0, order_chained e.point (suc i) (Some i) ms q h.1)

pub places_chained : (P : Point → Type 0) (i : ℕ) (previous : Option ℕ) (ms : List Mark) → AllByRecursion (λ (e : Event). P e.point) (bare ms) → AllByRecursion (λ (e : Event). P e.point) (chained_from i previous ms)
places_chained P i previous [] h = tt
places_chained P i previous ((e, None) ∷ ms) h = (h.0, places_chained P (suc i) previous ms h.1)
places_chained P i previous ((e, Some chunk) ∷ ms) h = (h.0, places_chained P (suc i) (Some i) ms h.1)

-- ---- places by index

pub place_there : (P : Point → Type 0) (es : List Event) (k : ℕ) (e : Event) → AllByRecursion (λ (x : Event). P x.point) es → slice_get es k ≡ Some e → P (place_at es k)
place_there P [] zero e h at = absurd (false≢true (ap is_some at))
place_there P [] (suc k) e h at = absurd (false≢true (ap is_some at))
place_there P (x ∷ xs) zero e h at = h.0
place_there P (x ∷ xs) (suc k) e h at = place_there P xs k e h.1 at

pub next_place : (p : Point) (es : List Event) (q : Point) (k : ℕ) (e : Event) → InOrder p es q → slice_get es (k + 1) ≡ Some e → stands_before (place_at es (k + 1)) (place_at es k) ≡ false
next_place p [] q zero e h at = absurd (false≢true (ap is_some at))
next_place p [] q (suc k) e h at = absurd (false≢true (ap is_some (ap (slice_get []) (let one : suc (k + 1) ≡ suc k + 1 = omega arith in one) ∙ at)))
next_place p (x ∷ []) q zero e h at = absurd (false≢true (ap is_some at))
next_place p (x ∷ y ∷ xs) q zero e h at = h.1.0
next_place p (x ∷ xs) q (suc k) e h at =
    let one : suc k + 1 ≡ suc (k + 1) = omega arith in
    ap (λ n. stands_before (place_at (x ∷ xs) n) (place_at xs k)) one ∙ next_place x.point xs q k e h.1 (sym (ap (slice_get (x ∷ xs)) one) ∙ at)

-- ---- marks over a document

-- Marks that go over the virtual bytes of a document and leave no span open: their events are well formed, and the chains can be read
module _ (g : Given) (marks : List Mark) (finish : Point) (goes : Goes g.tab g.bytes [] (point 1 1 0 0) marks [] finish) (tight : Tight marks) where
  abbrev pub es : List Event
  es = chained_from 0 None marks

  abbrev pub start : Point
  start = point 1 1 0 0

  pub in_order : InOrder start es finish
  in_order = order_chained start 0 None marks finish goes.order

  pub places : AllByRecursion (λ (e : Event). Place g.tab g.bytes e.point) es
  places = places_chained (Place g.tab g.bytes) 0 None marks goes.places

  pub are_formed : IsWellFormed g es
  are_formed = record {
    balanced = balanced_from_open es (names_chained (Some []) 0 None marks ∙ goes.names);
    void_tight = events_tight 0 None marks tight;
    at_places = All-from_recursion (λ (e : Event). IsPointOf g.tab g.bytes e.point) es (every-map (λ (e : Event). Place g.tab g.bytes e.point) (λ (e : Event). IsPointOf g.tab g.bytes e.point) (λ e h. h.is_point) es places);
    in_order = (
      order-pairs start es finish in_order,
      All-from_recursion (λ (e : Event). IsShown g.bytes e.point) es (every-map (λ (e : Event). Place g.tab g.bytes e.point) (λ (e : Event). IsShown g.bytes e.point) (λ e h. h.is_shown) es places),
    );
  }

  pub shown_place : (k : ℕ) (e : Event) → slice_get es k ≡ Some e → IsShownPlace g.tab g.bytes (place_at es k)
  shown_place k e at = let place = place_there (Place g.tab g.bytes) es k e places at in (place.is_point, place.is_shown)

  pub readable : (wanted : Option Content) (k : ℕ) → fits wanted es k ≡ true → IsReadable g.tab g.bytes es k
  readable wanted k h =
      let (c, at) = some_content wanted (content_at es k) h in
      let chunk = events_chunks 0 None marks tight k c at in
      let same = one_content_of 0 k c None marks idle goes.runs at in
      record {
        content = λ flow. other (sym (ap Some same) ∙ sym at ∙ flow);
        from = shown_place k chunk.enter chunk.enter_at;
        to = shown_place (k + 1) chunk.exit chunk.exit_at;
        forward = next_place start es finish k chunk.exit in_order chunk.exit_at;
      }
    where
      other : Some content.Content ≡ Some content.Flow → ⊥
      other e = cc

  pub gap : (k d : ℕ) → next_of es k ≡ Some d → IsGap es k d
  gap k d at =
      let n = next_in marks goes.runs k d at in
      record {
        forward = before-upto (place_at es (k + 1)) (place_at es d) n.further.later;
        in_line = inr (n.further.begins, n.further.line);
        balanced = balanced_from_open (between (k + 2) d es) n.balanced;
        no_link = n.none;
      }

  pub are_ready : (wanted : Option Content) → IsReady g.tab g.bytes wanted es
  are_ready wanted = record {
    balanced = are_formed.balanced;
    chunks = events_chunks 0 None marks tight;
    joined = joined_both marks goes.runs;
    forward = goes_forward marks goes.runs;
    one_content = has_one_content marks goes.runs;
    readable = readable wanted;
    gaps = λ k d fit at. gap k d at;
  }

  pub have_text_in_gaps : (wanted : Option Content) → HasTextInGaps wanted es
  have_text_in_gaps wanted k d fit at = inr (next_in marks goes.runs k d at).further.later

-- ---- a document

module _ (g : Given) (is : IsDocument g) where
  abbrev pub seats : List Seat
  seats = virtual g.tab g.bytes

  abbrev pub marks : List Mark
  marks = parts_marks g.bytes (parts (rows g.options.constructs (lines_in seats)))

  abbrev pub finish : Point
  finish = end_after (point 1 1 0 0) (all_of (lines_in seats))

  pub document_goes : Goes g.tab g.bytes [] (point 1 1 0 0) marks [] finish
  document_goes =
      all_parts_go g.tab g.bytes g.options.constructs (lines_in seats) (point 1 1 0 0) (document_lines g.tab g.bytes) (lines_end seats)
      (subst (Track g.tab g.bytes (point 1 1 0 0)) (sym (lines-are-all seats)) (whole-track g.tab g.bytes is.tab.0))

  pub document_tight : Tight marks
  document_tight = parts_tight g.bytes (parts (rows g.options.constructs (lines_in seats)))

pub skeletons_are_formed : SkeletonsAreFormed
skeletons_are_formed g is = are_formed g (marks g is) (finish g is) (document_goes g is) (document_tight g is)

pub skeletons_are_ready : SkeletonsAreReady
skeletons_are_ready g is wanted = are_ready g (marks g is) (finish g is) (document_goes g is) (document_tight g is) wanted

pub skeletons_have_text_in_gaps : SkeletonsHaveTextInGaps
skeletons_have_text_in_gaps g is wanted = have_text_in_gaps g (marks g is) (finish g is) (document_goes g is) (document_tight g is) wanted
