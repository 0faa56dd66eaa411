-- The tests together decide whether a list is ready.
use Rattle.markdown_children.proofs.Prelude.{◌≡◌, ℕ, ◌+◌, ◌<◌, Bool, true, false, cond, List, length, Option, Some, refl, sym, ◌∙◌, ap, subst, Result, ◌&&◌, not, ◌↔◌, IfOk, slice_get, lt-ltb, not-true, not_from_false, both_ways, and_parts, sameb, same_true, true_same, same_Some, Content, Flow, Event, Link, Point, stands_before, next_of, content_at, lets_through, some_fits, fits, place_at, IsShownPlace, IsReady, closes, link_at, leads_back_to, is_joined_on, leads_on_to, is_joined_back, is_sound, is_sound_at, is_gap_on, is_readable, can_be_read, can_be_read_at, AllBelow, FailsSomewhere, is_place, both_true, false_from_ne_true}
use Rattle.std.specs.declared.result.Result.TheVariants as result
use Rattle.markdown_base.specs.contracts.event.Content.{the_type as contents}
use Rattle.markdown_children.proofs.ChainOrder.Following.{by_test, by_option, some_content, apart, fits_next}
use Rattle.markdown_children.proofs.Ready.Reached.{place-sound, place-complete}
use Rattle.markdown_children.proofs.Ready.Tests.{four-parts, balanced-closes, is-number, link_content, read-at, link_next, link_previous, with-read, inside-link, of-chunk, chunk-of, parts-of, leads-on, on, gap-of, of-gap}

module _ (t : ℕ) (bytes : List ℕ) (wanted : Option Content) (events : List Event) (place : Point → Bool) where
  fits-link : (k : ℕ) (l : Link) → link_at events k ≡ Some l → fits wanted events k ≡ lets_through wanted l.content
  fits-link k l e = ap (some_fits wanted) (read-at link_content refl events k l e)

  module _ (sound-place : (p : Point) → place p ≡ true → IsShownPlace t bytes p) where
    -- a list that passes the tests is ready
    pub ready-of : closes events ≡ true → AllBelow (length events) (is_sound_at events) → AllBelow (length events) (can_be_read_at place wanted events) → IsReady t bytes wanted events
    ready-of closed sound read = record {
      balanced = balanced-closes events closed;
      chunks = λ k c e.
          let l = with-read link_content refl events k c e in
          chunk-of events k l.0 (slice_get events k) (slice_get events (k + 1)) (parts-of events k l.0 (sound k (inside-link events k l.0 l.1)) l.1).0 refl refl l.1;
      joined = λ k d. (
        (λ e. let x = on events sound k d e in read-at link_previous refl events d x.3 x.4 ∙ x.5),
        (λ e.
            let y = with-read link_previous refl events d k e in
            let l = leads-on d (link_at events k) (ap (is_joined_back events d) (sym y.2) ∙ (parts-of events d y.0 (sound d (inside-link events d y.0 y.1)) y.1).2) in
            read-at link_next refl events k l.0 l.1 ∙ l.2),
      );
      forward = λ k d e. (on events sound k d e).2;
      one_content = λ k d e. let x = on events sound k d e in read-at link_content refl events k x.0 x.1 ∙ ap (λ c. Some c) (sym x.6) ∙ sym (read-at link_content refl events d x.3 x.4);
      readable = λ k h.
          let l = asked k h in
          let flow = sameb contents l.0.content Flow in
          let t = four-parts (not flow) (not (stands_before (place_at events (k + 1)) (place_at events k))) (place (place_at events k)) (place (place_at events (k + 1))) l.2 in
          record {
            content = λ f. both_ways flow (not-true flow t.0) (true_same contents l.0.content Flow (same_Some l.0.content Flow (sym (read-at link_content refl events k l.0 l.1) ∙ f)));
            from = sound-place (place_at events k) t.2;
            to = sound-place (place_at events (k + 1)) t.3;
            forward = not-true (stands_before (place_at events (k + 1)) (place_at events k)) t.1;
          };
      gaps = λ k d h e.
          let l = asked k h in
          gap-of events k d (ap (is_gap_on events k) (sym (sym (read-at link_next refl events k l.0 l.1) ∙ e)) ∙ l.3);
    }
      where
        asked : (k : ℕ) → fits wanted events k ≡ true → (l : Link) × (link_at events k ≡ Some l) × (is_readable place events k l.content ≡ true) × (is_gap_on events k l.next ≡ true)
        asked k f =
            let c = some_content wanted (content_at events k) f in
            let l = with-read link_content refl events k c.0 c.1 in
            let h : can_be_read place wanted events k (Some l.0) ≡ true = ap (can_be_read place wanted events k) (sym l.1) ∙ read k (inside-link events k l.0 l.1) in
            let two = and_parts (is_readable place events k l.0.content) (is_gap_on events k l.0.next) (rw (sym (fits-link k l.0 l.1) ∙ f) at h) in
            (l.0, l.1, two.0, two.1)

  module _ (complete-place : (p : Point) → IsShownPlace t bytes p → place p ≡ true) (ready : IsReady t bytes wanted events) where
    pub of-ready-sound : (k : ℕ) → is_sound_at events k ≡ true
    of-ready-sound k = by_option (link_at events k) (λ e. ap (is_sound events k) e) (λ l e.
        ap (is_sound events k) e
        ∙ both_true (of-chunk events k (ready.chunks k l.content (read-at link_content refl events k l e))) (both_true
        (by_option l.next (ap (is_joined_on events k l.content)) (λ d f.
        let n : next_of events k ≡ Some d = read-at link_next refl events k l e ∙ f in
        let m = with-read link_previous refl events d k ((ready.joined k d).0 n) in
        let c = same_Some m.0.content l.content (sym (read-at link_content refl events d m.0 m.1) ∙ sym (ready.one_content k d n) ∙ read-at link_content refl events k l e) in
        ap (is_joined_on events k l.content) f
        ∙ both_true (lt-ltb k d (ready.forward k d n)) (ap (leads_back_to k l.content) m.1 ∙ both_true (is-number m.0.previous k m.2) (true_same contents m.0.content l.content c))))
        (by_option l.previous (ap (is_joined_back events k)) (λ p f.
        let m = with-read link_next refl events p k ((ready.joined p k).1 (read-at link_previous refl events k l e ∙ f)) in
        ap (is_joined_back events k) f ∙ ap (leads_on_to k) m.1 ∙ is-number m.0.next k m.2))))

    of-ready-read : (k : ℕ) → can_be_read_at place wanted events k ≡ true
    of-ready-read k = by_option (link_at events k) (ap (can_be_read place wanted events k)) (λ l e.
        ap (can_be_read place wanted events k) e ∙ by_test (lets_through wanted l.content)
        (λ h.
        let f : fits wanted events k ≡ true = fits-link k l e ∙ h in
        let r = ready.readable k f in
        let flow = sameb contents l.content Flow in
        ap (λ b. cond b (is_readable place events k l.content && is_gap_on events k l.next) true) h
        ∙ both_true
        (both_true
        (both_true (not_from_false flow (false_from_ne_true flow (λ g. r.content (read-at link_content refl events k l e ∙ ap (λ x. Some x) (same_true contents tt l.content Flow g)))))
        (not_from_false (stands_before (place_at events (k + 1)) (place_at events k)) r.forward))
        (both_true (complete-place (place_at events k) r.from) (complete-place (place_at events (k + 1)) r.to)))
        (by_option l.next (ap (is_gap_on events k)) (λ d g.
        let n : next_of events k ≡ Some d = read-at link_next refl events k l e ∙ g in
        ap (is_gap_on events k) g
        ∙ of-gap events k d (apart t bytes wanted events ready k d f (fits_next t bytes wanted events ready k d f n) (ready.forward k d n)) (ready.gaps k d f n))))
        (λ h. ap (λ b. cond b (is_readable place events k l.content && is_gap_on events k l.next) true) h))

module _ (t : ℕ) (some : 0 < t) (bytes : List ℕ) (wanted : Option Content) (events : List Event)
    (filter : Option Content) (u : ℕ) (bs : List ℕ) (same : filter ≡ wanted) (tabs : u ≡ t) (document : bs ≡ bytes) where
  abbrev place : Point → Bool
  place p = is_place u bs p

  place-is : (p : Point) → place p ≡ is_place t bytes p
  place-is p = λ j. is_place (tabs j) (document j) p

  pub ready-if : {E : Type 0} (r : Result Bool E) → closes events ≡ true → AllBelow (length events) (is_sound_at events) → IfOk r (λ b. b ≡ true → AllBelow (length events) (can_be_read_at place filter events))
      → IfOk r (λ b. b ≡ false → FailsSomewhere (length events) (can_be_read_at place filter events)) → IfOk r (λ b. (b ≡ true) ↔ IsReady t bytes wanted events)
  ready-if (result.Ok true) closed sound all fails = (
    (λ e. subst (λ w. IsReady t bytes w events) same (ready-of t bytes filter events place (λ p h. place-sound t some bytes p (sym (place-is p) ∙ h)) closed sound (all e))),
    (λ r. refl),
  )
  ready-if (result.Ok false) closed sound all fails = (
    (λ e. absurd (cc)),
    (λ r.
        let f = fails refl in
        let e = sym f.2 ∙ of-ready-read t bytes filter events place (λ p h. place-is p ∙ place-complete t some bytes p h) (subst (λ w. IsReady t bytes w events) (sym same) r) f.0 in
        absurd (cc)),
  )
  ready-if (result.Err e) closed sound all fails = tt
