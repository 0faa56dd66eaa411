-- How a destination is read, between `<` and `>` or with no marks, and all behind it.
use Rattle.markdown_base.proofs.Facts.Numbers.{unlike}
use Rattle.markdown_base.proofs.Facts.Lists.{begins-inside}
use Rattle.mdinline_link_tails.proofs.Prelude.{◌≡◌, ℕ, zero, suc, ◌+◌, ◌*◌, ◌≤◌, ◌==◌, ◌&&◌, ◌||◌, List, [], ◌∷◌, ◌++◌, Bool, true, false, cond, Option, Some, None, refl, sym, ap, ◌∙◌, subst, and-false, arith, take, drop, length, option_and_then, drop-next, drop-drop, append-nil, append_assoc, behind-more, behind-none, end-after-one, eqb-true, Event, Enter, Exit, EventName, Data, Resource, ResourceDestination, ResourceDestinationLiteral, ResourceDestinationLiteralMarker, ResourceDestinationRaw, ResourceDestinationString, Next, Retry, DestinationEnclosedBefore, DestinationEnclosed, LabelEndResourceBefore, LabelEndResourceDestinationAfter, LabelEndResourceEnd, LabelEndResourceOpen, Seat, Given, Text, Choice, Local, at-front, end_or, point_or, counts, Plays, Found, bytes_of, leaf, size_b, with_b, row, enter, exit, consume, write}
use Rattle.std.specs.Prelude.{option_map}
use Rattle.mdconstructs_machines.specs.Spans.{event, span}
use Rattle.mdinline_text_machine.proofs.Plain.Stretches.{leaf-read, span-read}
use Rattle.mdinline_text_machine.specs.TextSizes.{size_b_is}
use Rattle.mdinline_labels.specs.Definitions.{stretch_at}
use Rattle.mdinline_labels.specs.Resources.{resource_with}
use Rattle.mdinline_labels.specs.Tails.{begins_with, behind, destination_size, enclosed_size, ends_raw, gap, is_raw_end, one_more, raw_size}
use Rattle.mdinline_link_tails.specs.declared.names.TheConstants.{ResourceDestinationEnd}
use Rattle.mdinline_link_tails.specs.Resource.{behind_destination, destination_events, destination_string, gap_events, in_marks, resource, unmarked}
use Rattle.mdinline_link_tails.specs.ResourceLooks.{destination_look, destination_passed, enclosed_look, raw_look, tail_look}
use Rattle.mdinline_link_tails.specs.ResourceRows.{begins_raw, destination_end_rows, enclosed_before_rows, enclosed_rows, ends_raw_destination, is_not_enclosed, reads_on, resource_open_rows}
use Rattle.mdinline_link_tails.proofs.Resources.Ends.{all-at, bytes-behind, bytes-left, closed-is, inside_to, left-at, not-zero, nothing-behind, opened, reads-behind, reads-close}
use Rattle.mdinline_link_tails.proofs.Resources.Enclosed.{IsPassed, broken, enclosed_name, goes-on, in_enclosed, marked-ends as mark-ends, plain-so, reads-enclosed}
use Rattle.mdinline_link_tails.proofs.Resources.Gaps.{in_resource_only, reads-gap, stop_kept, to_destination}
use Rattle.mdinline_link_tails.proofs.Resources.Marks.{cut-out, marks-spelled, unmarked-is, up-to}
use Rattle.mdinline_link_tails.proofs.Resources.Raw as raw
use Rattle.mdinline_link_tails.proofs.Resources.Raw.{closes-one, in_raw, opens-one, raw_name, raw-goes, raw-stops, reads-raw}
use Rattle.mdinline_link_tails.proofs.Resources.Steps.{PlaysResources, Does, yes, no, here, seen, enters_at, exits_at, exits_past, Finds, moved, stands, left, fails, fails-here, reads, stays}
use Rattle.mdinline_link_tails.proofs.Resources.Touched.{touched, touched-call}

-- the spans that are open between `<` and `>`, but for a string
abbrev in_marked : List EventName
in_marked = Resource ∷ ResourceDestination ∷ ResourceDestinationLiteral ∷ []

-- the first byte, if one is there
front-byte : (b i : ℕ) (y : Seat) (ys : List Seat) → 1 ≤ i → begins_with b (bytes_of (take i (y ∷ ys))) ≡ (y.byte == b)
front-byte b zero y ys some = absurd (omega (arith, some))
front-byte b (suc i) y ys some = refl

-- a destination without marks has a byte at least
abbrev pub some_raw : Option ℕ → Option ℕ
some_raw size = option_and_then (λ n. cond (n == 0) None (Some n)) size

module _ (g : Given) (text : Text) (m : Plays g text) (r : PlaysResources g text m) (cs : List Choice) (p far : ℕ) (events : List Event) (s : Seat) (ss : List Seat) (at : drop p text.seats ≡ s ∷ ss) where
  abbrev all : List Seat
  all = s ∷ ss

  -- behind the first parenthesis, and white space
  abbrev pub begin : ℕ
  begin = 1 + gap (bytes_of ss)

  abbrev pub first_gap : List Event
  first_gap = gap_events g.bytes (take (gap (bytes_of ss)) ss)

  abbrev first_events : List Event
  first_events = opened g text m r cs p far events s ss at

  -- a resource whose destination has so many bytes, or that has none
  abbrev pub with_size : Option ℕ → Option Found
  with_size size = option_map resource (resource_with (bytes_of all) begin size)

  -- in it a destination of so many bytes
  spelled : (size : ℕ) (l : List Seat) → drop begin all ≡ l → (title : _) (close : ℕ) → begin + size ≤ close
      → inside_to g text m r cs p far events s ss at (Some (stretch_at begin size)) title close
      ≡ (first_gap ++ destination_events g.bytes (take size l)) ++ behind_destination g.bytes title (begin + size) close (take (close + 1) all)
  spelled size l there title close fits =
      let n = gap (bytes_of ss) in
      let more = behind_destination g.bytes title (begin + size) close (take (close + 1) all) in
      (λ i. gap_events g.bytes (cut-out 1 n (close + 1) all (omega (arith, fits)) i) ++ (destination_events g.bytes ((cut-out begin size (close + 1) all (omega (arith, fits)) ∙ ap (take size) there) i) ++ more))
      ∙ sym (append_assoc first_gap (destination_events g.bytes (take size l)) more)

  -- where the destination begins
  module _ (y : Seat) (ys : List Seat) (there : drop begin all ≡ y ∷ ys)
      (reach : with_size (destination_size (bytes_of (y ∷ ys))) ≡ None → p + begin + destination_look (bytes_of (y ∷ ys)) ≤ far) where
    abbrev q : ℕ
    q = p + begin

    q-at : drop q text.seats ≡ y ∷ ys
    q-at = left-at g text m r cs p far events s ss at begin (y ∷ ys) there

    abbrev x0 : List Event
    x0 = first_events ++ first_gap

    -- no look passes more than a destination and what is behind it
    reach-behind : (size : ℕ) (l : List Seat) → destination_size (bytes_of (y ∷ ys)) ≡ Some size → drop (begin + size) all ≡ l → with_size (Some size) ≡ None → p + (begin + size) + tail_look (bytes_of l) ≤ far
    reach-behind size l is behind_it nothing =
        let passed : destination_look (bytes_of (y ∷ ys)) ≡ size + tail_look (bytes_of l) =
        ap (destination_passed (bytes_of (y ∷ ys))) is ∙ ap (λ bs. size + tail_look bs) (bytes-behind g text m r cs p far events s ss at begin size (y ∷ ys) l there behind_it) in
        omega (arith, reach (ap with_size is ∙ nothing), passed)

    -- what is found behind a destination of so many bytes
    ends-at : (size : ℕ) (l : List Seat) (local : Local Unit Unit) → destination_size (bytes_of (y ∷ ys)) ≡ Some size → drop (begin + size) all ≡ l
        → Finds g text m cs p far events all (4 * length l + 4) (left g text m cs p far events all l in_resource_only (q + size) (x0 ++ destination_events g.bytes (take size (y ∷ ys))) local) LabelEndResourceDestinationAfter (with_size (Some size))
    ends-at size l local is behind_it =
        let d = destination_events g.bytes (take size (y ∷ ys)) in
        moved g text m cs p far events all (4 * length l + 4) l in_resource_only (p + (begin + size)) (q + size) (first_events ++ (first_gap ++ d)) (x0 ++ d) local LabelEndResourceDestinationAfter (with_size (Some size)) (omega arith) (sym (append_assoc first_events first_gap d))
        (reads-behind g text m r cs p far events s ss at begin size (first_gap ++ d) (omega arith) (spelled size (y ∷ ys) there) l local behind_it (reach-behind size l is behind_it))

    -- no destination, at a byte that closes nothing
    none-there : (y.byte == 41) ≡ false → with_size None ≡ None
    none-there other = closed-is g text m r cs p far events s ss at None None begin (y ∷ ys) false there other

    reach-none : (y.byte == 41) ≡ false → destination_size (bytes_of (y ∷ ys)) ≡ None → p + begin + destination_passed (bytes_of (y ∷ ys)) None ≤ far
    reach-none other is = let passed = ap (destination_passed (bytes_of (y ∷ ys))) is in omega (arith, reach (ap with_size is ∙ none-there other), passed)

    -- ---- with marks
    abbrev marked_opened : List Event
    marked_opened = event g.bytes Enter ResourceDestination y.point ∷ event g.bytes Enter ResourceDestinationLiteral y.point ∷ leaf g.bytes ResourceDestinationLiteralMarker (y ∷ [])

    marked-spelled : (i : ℕ) (z : Seat) (zs : List Seat) → (y.byte == 60) ≡ true → drop i ys ≡ z ∷ zs
        → destination_events g.bytes (take (i + 2) (y ∷ ys))
        ≡ marked_opened ++ (destination_string g.bytes (take i ys) ++ (leaf g.bytes ResourceDestinationLiteralMarker (z ∷ []) ++ event g.bytes Exit ResourceDestinationLiteral z.end ∷ event g.bytes Exit ResourceDestination z.end ∷ []))
    marked-spelled i z zs less z_at =
        let inner = take i ys in
        let whole = y ∷ (inner ++ z ∷ []) in
        let mark = leaf g.bytes ResourceDestinationLiteralMarker (z ∷ []) in
        let first = leaf g.bytes ResourceDestinationLiteralMarker (y ∷ []) in
        let string = destination_string g.bytes inner in
        let ended1 = event g.bytes Exit ResourceDestinationLiteral z.end ∷ [] in
        let ended2 = event g.bytes Exit ResourceDestination z.end ∷ [] in
        let enter1 = event g.bytes Enter ResourceDestination y.point in
        let enter2 = event g.bytes Enter ResourceDestinationLiteral y.point in
        ap (destination_events g.bytes) (up-to i y ys z zs z_at)
        ∙ ap (λ c. span g.bytes ResourceDestination whole (cond c (in_marks g.bytes ResourceDestinationLiteral ResourceDestinationLiteralMarker (destination_string g.bytes (unmarked g.bytes whole)) whole) (span g.bytes ResourceDestinationRaw whole (destination_string g.bytes whole)))) less
        ∙ ap (λ l. span g.bytes ResourceDestination whole (in_marks g.bytes ResourceDestinationLiteral ResourceDestinationLiteralMarker (destination_string g.bytes l) whole)) (unmarked-is g.bytes y inner z)
        ∙ ap (span g.bytes ResourceDestination whole) (marks-spelled g.bytes ResourceDestinationLiteral ResourceDestinationLiteralMarker string y inner z)
        ∙ ap (λ e. enter1 ∷ ((enter2 ∷ ((first ++ (string ++ mark)) ++ ended1)) ++ event g.bytes Exit ResourceDestination e ∷ [])) (end-after-one y.end inner z)
        ∙ ap (λ e. enter1 ∷ enter2 ∷ e) (append_assoc (first ++ (string ++ mark)) ended1 ended2 ∙ append_assoc first (string ++ mark) (ended1 ++ ended2) ∙ ap (λ e. first ++ e) (append_assoc string mark (ended1 ++ ended2)))

    -- its last mark is read, and what is behind it
    marked-closed : (i q' : ℕ) (local : Local Unit Unit) (z : Seat) (zs : List Seat) → (y.byte == 60) ≡ true → destination_size (bytes_of (y ∷ ys)) ≡ Some (i + 2) → q' ≡ q + 1 + i → drop q' text.seats ≡ z ∷ zs
        → Finds g text m cs p far events all (4 * length (z ∷ zs) + 1) (stands g text m cs p far events all in_marked q' (x0 ++ (marked_opened ++ destination_string g.bytes (take i ys))) local) ResourceDestinationEnd (with_size (Some (i + 2)))
    marked-closed i q' local z zs less size_is is z_at =
        let string = destination_string g.bytes (take i ys) in
        let w = x0 ++ (marked_opened ++ string) in
        let whole = events ++ w in
        let enters = enters_at g text ResourceDestinationLiteralMarker q' ∷ [] in
        let exits = exits_past g text ResourceDestinationLiteralMarker q' ∷ [] in
        let ended1 = exits_past g text ResourceDestinationLiteral q' ∷ [] in
        let ended2 = exits_past g text ResourceDestination q' ∷ [] in
        let tail = leaf g.bytes ResourceDestinationLiteralMarker (z ∷ []) ++ event g.bytes Exit ResourceDestinationLiteral z.end ∷ event g.bytes Exit ResourceDestination z.end ∷ [] in
        let d = destination_events g.bytes (take (i + 2) (y ∷ ys)) in
        let inner_at : drop i ys ≡ z ∷ zs = ap (drop i) (sym (drop-next text.seats q y ys q-at)) ∙ drop-drop i (q + 1) text.seats ∙ ap (λ n. drop n text.seats) (sym is) ∙ z_at in
        let made : (((whole ++ enters) ++ exits) ++ ended1) ++ ended2 ≡ events ++ (x0 ++ d) =
        append_assoc ((whole ++ enters) ++ exits) ended1 ended2 ∙ append_assoc (whole ++ enters) exits (ended1 ++ ended2) ∙ append_assoc whole enters (exits ++ (ended1 ++ ended2))
        ∙ ap (λ o. whole ++ event g.bytes Enter ResourceDestinationLiteralMarker (point_or text.end o) ∷ event g.bytes Exit ResourceDestinationLiteralMarker (end_or text.end o) ∷ event g.bytes Exit ResourceDestinationLiteral (end_or text.end o) ∷ event g.bytes Exit ResourceDestination (end_or text.end o) ∷ []) (at-front text.seats q' z zs z_at)
        ∙ append_assoc events w tail ∙ ap (λ e. events ++ e) (append_assoc x0 (marked_opened ++ string) tail ∙ ap (λ e. x0 ++ e) (append_assoc marked_opened string tail ∙ sym (marked-spelled i z zs less inner_at))) in
        let place : q + (i + 2) ≡ q' + 1 = omega (arith, is) in
        let behind_it : drop (begin + (i + 2)) all ≡ zs = all-at g text m r cs p far events s ss at (begin + (i + 2)) (q' + 1) zs (omega (arith, is)) (drop-next text.seats q' z zs z_at) in
        reads g text m cs p far events all (4 * length zs + 4) (4 * length (z ∷ zs) + 1) in_marked in_resource_only q' w (x0 ++ d) local (counts local) ResourceDestinationEnd LabelEndResourceDestinationAfter z zs destination_end_rows (with_size (Some (i + 2)))
        ((((whole ++ enters) ++ exits) ++ ended1) ++ ended2) z_at (omega arith) (touched-call local) (here g text m destination_end_rows ResourceDestinationEnd in_marked q' whole local z zs z_at r.destination_end) made (λ e i. i)
        (moved g text m cs p far events all (4 * length zs + 4) zs in_resource_only (q + (i + 2)) (q' + 1) (x0 ++ d) (x0 ++ d) (counts local) LabelEndResourceDestinationAfter (with_size (Some (i + 2))) place refl (ends-at (i + 2) zs (counts local) size_is behind_it))

    -- the events of a string, from its first byte on
    string-read : (q1 i q' : ℕ) (v : Seat) (vs : List Seat) → drop q1 text.seats ≡ v ∷ vs → 1 ≤ i → i ≤ suc (length vs) → q' ≡ q1 + i
        → enters_at g text ResourceDestinationString q1 ∷ enters_at g text Data q1 ∷ exits_at g text Data q' ∷ exits_at g text ResourceDestinationString q' ∷ [] ≡ destination_string g.bytes (take i (v ∷ vs))
    string-read q1 i q' v vs v_at some within is =
        ap (λ n. enters_at g text ResourceDestinationString q1 ∷ enters_at g text Data q1 ∷ exits_at g text Data n ∷ exits_at g text ResourceDestinationString n ∷ []) is
        ∙ span-read text g.bytes ResourceDestinationString (enters_at g text Data q1 ∷ exits_at g text Data (q1 + i) ∷ []) i q1 v vs v_at some within
        ∙ ap (span g.bytes ResourceDestinationString (take i (v ∷ vs))) (leaf-read text g.bytes Data i q1 v vs v_at some within)

    -- the first mark was read
    module _ (less : (y.byte == 60) ≡ true) where
      abbrev marked_found : ℕ → Option Found
      marked_found i = with_size (Some (i + 2))

      abbrev inner : Option ℕ
      inner = enclosed_size false (bytes_of ys)

      marked-size : destination_size (bytes_of (y ∷ ys)) ≡ option_map (λ n. n + 2) inner
      marked-size = ap (λ c. cond c (option_map (λ n. n + 2) inner) (some_raw (raw_size 0 false (bytes_of (y ∷ ys))))) less

      other : (y.byte == 41) ≡ false
      other = ap (λ b. b == 41) (eqb-true y.byte 60 less)

      -- no look passes more
      marked-reach : inner ≡ None → q + 1 + enclosed_look false (bytes_of ys) ≤ far
      marked-reach none =
          let passed : destination_passed (bytes_of (y ∷ ys)) None ≡ 1 + enclosed_look false (bytes_of ys) = ap (λ c. cond c (1 + enclosed_look false (bytes_of ys)) (raw_look 0 false (bytes_of (y ∷ ys)))) less in
          omega (arith, reach-none other (marked-size ∙ ap (λ o. option_map (λ n. n + 2) o) none), passed)

      -- the first byte of the string
      module _ (v : Seat) (vs : List Seat) (same : ys ≡ v ∷ vs) (v_at : drop (q + 1) text.seats ≡ v ∷ vs) where
        abbrev begun : List Event
        begun = enters_at g text ResourceDestinationString (q + 1) ∷ enters_at g text Data (q + 1) ∷ []

        abbrev x2 : List Event
        x2 = x0 ++ (marked_opened ++ begun)

        abbrev total : Option ℕ
        total = enclosed_size false (bytes_of (v ∷ vs))

        whole-size : (i : ℕ) → total ≡ Some i → destination_size (bytes_of (y ∷ ys)) ≡ Some (i + 2)
        whole-size i is = marked-size ∙ ap (λ o. option_map (λ n. n + 2) o) (ap (λ l. enclosed_size false (bytes_of l)) same ∙ is)

        string-reach : total ≡ None → q + 1 + enclosed_look false (bytes_of (v ∷ vs)) ≤ far
        string-reach none = let passed = ap (λ l. enclosed_look false (bytes_of l)) same in omega (arith, marked-reach (ap (λ l. enclosed_size false (bytes_of l)) same ∙ none), passed)

        marked-ends : (i q' : ℕ) (z : Seat) (zs : List Seat) (local : Local Unit Unit) → 1 ≤ i → q' ≡ q + 1 + i → drop q' text.seats ≡ z ∷ zs → (z.byte == 62) ≡ true → total ≡ Some i
            → Finds g text m cs p far events all (4 * length (z ∷ zs) + 2) (stands g text m cs p far events all in_enclosed q' x2 local) DestinationEnclosed (marked_found i)
        marked-ends i q' z zs local some is z_at closes size_is =
            let k = stands g text m cs p far events all in_enclosed q' x2 local in
            let exit1 = exits_at g text Data q' ∷ [] in
            let exit2 = exits_at g text ResourceDestinationString q' ∷ [] in
            let string = destination_string g.bytes (take i ys) in
            let inner_at : drop i (v ∷ vs) ≡ z ∷ zs = ap (drop i) (sym v_at) ∙ drop-drop i (q + 1) text.seats ∙ ap (λ n. drop n text.seats) (sym is) ∙ z_at in
            let within : i ≤ suc (length vs) = omega (arith, begins-inside i (v ∷ vs) z zs inner_at) in
            let made : ((events ++ x2) ++ exit1) ++ exit2 ≡ events ++ (x0 ++ (marked_opened ++ string)) =
            append_assoc (events ++ x2) exit1 exit2 ∙ append_assoc events x2 (exit1 ++ exit2)
            ∙ ap (λ e. events ++ e) (append_assoc x0 (marked_opened ++ begun) (exit1 ++ exit2) ∙ ap (λ e. x0 ++ e) (append_assoc marked_opened begun (exit1 ++ exit2)
            ∙ ap (λ e. marked_opened ++ e) (string-read (q + 1) i q' v vs v_at some within is ∙ ap (λ l. destination_string g.bytes (take i l)) (sym same)))) in
            stays g text m cs p far events all (4 * length (z ∷ zs) + 1) (4 * length (z ∷ zs) + 2) in_enclosed in_marked q' x2 (x0 ++ (marked_opened ++ string)) local (counts local) DestinationEnclosed ResourceDestinationEnd
            (row (exit Data ∷ exit ResourceDestinationString ∷ []) (Retry ResourceDestinationEnd)) (marked_found i) (((events ++ x2) ++ exit1) ++ exit2) (omega arith) (touched-call local)
            (yes g text m k DestinationEnclosed (here g text m enclosed_rows DestinationEnclosed in_enclosed q' (events ++ x2) local z zs z_at r.enclosed) (seen g text m (λ c. c == 62) true q' z zs z_at closes)) made (λ e i. i)
            (marked-closed i q' (counts local) z zs less (whole-size i size_is) is z_at)

        -- from it on
        marked-string : (local : Local Unit Unit)
            → Finds g text m cs p far events all (4 * length (v ∷ vs) + 2) (stands g text m cs p far events all in_marked (q + 1) (x0 ++ marked_opened) local) DestinationEnclosedBefore (option_and_then marked_found (enclosed_size false (bytes_of (v ∷ vs))))
        marked-string local =
            let q1 = q + 1 in
            let x1 = x0 ++ marked_opened in
            let b = v.byte in
            let bs = bytes_of vs in
            let k = stands g text m cs p far events all in_marked q1 x1 local in
            let calls = 4 * length (v ∷ vs) + 2 in
            let Now = λ (size : Option ℕ). Finds g text m cs p far events all calls k DestinationEnclosedBefore (option_and_then marked_found size) in
            let has = here g text m enclosed_before_rows DestinationEnclosedBefore in_marked q1 (events ++ x1) local v vs v_at r.enclosed_before in
            let enter1 = enters_at g text ResourceDestinationString q1 ∷ [] in
            let enter2 = enters_at g text Data q1 ∷ [] in
            let made : ((events ++ x1) ++ enter1) ++ enter2 ≡ events ++ x2 =
            append_assoc (events ++ x1) enter1 enter2 ∙ append_assoc events x1 (enter1 ++ enter2) ∙ ap (λ e. events ++ e) (append_assoc x0 marked_opened (enter1 ++ enter2)) in
            let rest = λ (t : Bool) (goes : total ≡ one_more (enclosed_size t bs)). sym (behind-none total) ∙ ap (behind 0) goes ∙ behind-more 0 (enclosed_size t bs) in
            let into = λ (t : Bool) (goes : IsPassed false b bs t) (does : Does g text m k DestinationEnclosedBefore (reads_on (enter ResourceDestinationString ∷ enter Data ∷ []) (enclosed_name t))).
            subst Now (sym (rest t goes.0))
            (reads g text m cs p far events all (4 * length vs + 2) calls in_marked in_enclosed q1 x1 x2 local (counts local) DestinationEnclosedBefore (enclosed_name t) v vs (reads_on (enter ResourceDestinationString ∷ enter Data ∷ []) (enclosed_name t))
            (option_and_then marked_found (behind (0 + 1) (enclosed_size t bs))) (((events ++ x1) ++ enter1) ++ enter2) v_at (omega arith) (touched-call local) does made (λ e i. i)
            (reads-enclosed g text m r cs p far events all q1 x2 marked_found total (λ i q' z zs after some is z_at closes size_is. marked-ends i q' z zs after some is z_at closes size_is) vs t (0 + 1) (q1 + 1) (counts local) (omega arith) (omega arith) (drop-next text.seats q1 v vs v_at)
            (λ none. omega (arith, string-reach (goes.0 ∙ ap one_more none), goes.1)) (rest t goes.0))) in
            elim (b == 62) as (λ t. (b == 62) ≡ t → Now (enclosed_size false (b ∷ bs))) [
              | true ↦ λ e.
                  let none : x1 ≡ x0 ++ (marked_opened ++ []) = ap (λ e. x0 ++ e) (sym (append-nil marked_opened)) in
                  subst Now (sym (mark-ends b bs e))
                  (stays g text m cs p far events all (4 * length (v ∷ vs) + 1) calls in_marked in_marked q1 x1 (x0 ++ (marked_opened ++ [])) local (counts local) DestinationEnclosedBefore ResourceDestinationEnd (row [] (Retry ResourceDestinationEnd)) (marked_found 0) (events ++ x1)
                  (omega arith) (touched-call local) (yes g text m k DestinationEnclosedBefore has (seen g text m (λ c. c == 62) true q1 v vs v_at e)) (ap (λ e. events ++ e) none) (λ e i. i)
                  (marked-closed 0 q1 (counts local) v vs less (whole-size 0 (mark-ends b bs e)) (omega arith) v_at))
              | false ↦ λ e.
                  let has1 = no g text m k DestinationEnclosedBefore has (seen g text m (λ c. c == 62) false q1 v vs v_at e) in
                  elim (is_not_enclosed b) as (λ t. is_not_enclosed b ≡ t → Now (enclosed_size false (b ∷ bs))) [
                    | true ↦ λ e1.
                        subst Now (sym (broken b bs e e1))
                        (fails-here g text m cs p far events all calls in_marked q1 x1 local DestinationEnclosedBefore v vs v_at (omega arith) (omega (arith, string-reach (broken b bs e e1))) (yes g text m k DestinationEnclosedBefore has1 (seen g text m is_not_enclosed true q1 v vs v_at e1)))
                    | false ↦ λ e1.
                        let has2 = no g text m k DestinationEnclosedBefore has1 (seen g text m is_not_enclosed false q1 v vs v_at e1) in
                        elim (b == 92) as (λ t. (b == 92) ≡ t → Now (enclosed_size false (b ∷ bs))) [
                          | true ↦ λ w. into true (goes-on b bs true e e1 w) (yes g text m k DestinationEnclosedBefore has2 (seen g text m (λ c. c == 92) true q1 v vs v_at w))
                          | false ↦ λ w. into false (goes-on b bs false e e1 w) (no g text m k DestinationEnclosedBefore has2 (seen g text m (λ c. c == 92) false q1 v vs v_at w))
                        ] refl
                  ] refl
            ] refl

      -- So a destination with marks is read
      pub reads-marked : (local : Local Unit Unit)
          → Does g text m (stands g text m cs p far events all in_resource_only q x0 local) LabelEndResourceOpen
          (row (enter ResourceDestination ∷ enter ResourceDestinationLiteral ∷ enter ResourceDestinationLiteralMarker ∷ consume ∷ exit ResourceDestinationLiteralMarker ∷ []) (Next DestinationEnclosedBefore))
          → Finds g text m cs p far events all (4 * length (y ∷ ys) + 2) (stands g text m cs p far events all in_resource_only q x0 local) LabelEndResourceOpen (with_size (destination_size (bytes_of (y ∷ ys))))
      reads-marked local has =
          let q1 = q + 1 in
          let x1 = x0 ++ marked_opened in
          let at1 = drop-next text.seats q y ys q-at in
          let after = counts local in
          let rows = row (enter ResourceDestination ∷ enter ResourceDestinationLiteral ∷ enter ResourceDestinationLiteralMarker ∷ consume ∷ exit ResourceDestinationLiteralMarker ∷ []) (Next DestinationEnclosedBefore) in
          let enter1 = enters_at g text ResourceDestination q ∷ [] in
          let enter2 = enters_at g text ResourceDestinationLiteral q ∷ [] in
          let enter3 = enters_at g text ResourceDestinationLiteralMarker q ∷ [] in
          let exit3 = exits_past g text ResourceDestinationLiteralMarker q ∷ [] in
          let made : ((((events ++ x0) ++ enter1) ++ enter2) ++ enter3) ++ exit3 ≡ events ++ x1 =
          append_assoc (((events ++ x0) ++ enter1) ++ enter2) enter3 exit3 ∙ append_assoc ((events ++ x0) ++ enter1) enter2 (enter3 ++ exit3) ∙ append_assoc (events ++ x0) enter1 (enter2 ++ (enter3 ++ exit3))
          ∙ ap (λ o. (events ++ x0) ++ event g.bytes Enter ResourceDestination (point_or text.end o) ∷ event g.bytes Enter ResourceDestinationLiteral (point_or text.end o) ∷ event g.bytes Enter ResourceDestinationLiteralMarker (point_or text.end o) ∷ event g.bytes Exit ResourceDestinationLiteralMarker (end_or text.end o) ∷ []) (at-front text.seats q y ys q-at)
          ∙ append_assoc events x0 marked_opened in
          let found : option_and_then marked_found (enclosed_size false (bytes_of ys)) ≡ with_size (option_map (λ n. n + 2) (enclosed_size false (bytes_of ys))) =
          elim (enclosed_size false (bytes_of ys)) as (λ o. option_and_then marked_found o ≡ with_size (option_map (λ n. n + 2) o)) [ None ↦ sym (none-there other) | Some n ↦ refl ] in
          subst (Finds g text m cs p far events all (4 * length (y ∷ ys) + 2) (stands g text m cs p far events all in_resource_only q x0 local) LabelEndResourceOpen) (found ∙ ap with_size (sym marked-size))
          (reads g text m cs p far events all (4 * length ys + 2) (4 * length (y ∷ ys) + 2) in_resource_only in_marked q x0 x1 local after LabelEndResourceOpen DestinationEnclosedBefore y ys rows (option_and_then marked_found (enclosed_size false (bytes_of ys)))
          (((((events ++ x0) ++ enter1) ++ enter2) ++ enter3) ++ exit3) q-at (omega arith) (touched-call local) has made (λ e i. i)
          (elim ys as (λ l. ys ≡ l → drop q1 text.seats ≡ l → Finds g text m cs p far events all (4 * length l + 2) (left g text m cs p far events all l in_marked q1 x1 after) DestinationEnclosedBefore (option_and_then marked_found (enclosed_size false (bytes_of l)))) [
            | [] ↦ λ same v_at. fails g text m cs p far events all (4 * 0 + 2) [] in_marked q1 x1 after DestinationEnclosedBefore v_at (omega arith) (omega (arith, marked-reach (ap (λ l. enclosed_size false (bytes_of l)) same))) (r.enclosed_before _)
            | v ∷ vs ↦ λ same v_at. marked-string v vs same v_at after
          ] refl at1))

    -- ---- without marks
    abbrev raw_opened : List Event
    raw_opened = enters_at g text ResourceDestination q ∷ enters_at g text ResourceDestinationRaw q ∷ []

    abbrev raw_begun : List Event
    raw_begun = enters_at g text ResourceDestinationString q ∷ enters_at g text Data q ∷ []

    abbrev x3 : List Event
    x3 = x0 ++ (raw_opened ++ raw_begun)

    abbrev raw_ended : ℕ → List Event
    raw_ended q' = exits_at g text Data q' ∷ exits_at g text ResourceDestinationString q' ∷ exits_at g text ResourceDestinationRaw q' ∷ exits_at g text ResourceDestination q' ∷ []

    raw-spelled : (i q' : ℕ) → (y.byte == 60) ≡ false → 1 ≤ i → i ≤ suc (length ys) → q' ≡ q + i → raw_opened ++ (raw_begun ++ raw_ended q') ≡ destination_events g.bytes (take i (y ∷ ys))
    raw-spelled i q' more some within is =
        let l = take i (y ∷ ys) in
        let string = destination_string g.bytes l in
        let enter1 = enters_at g text ResourceDestination q in
        let enter2 = enters_at g text ResourceDestinationRaw q in
        ap (λ e. enter1 ∷ enter2 ∷ (e ++ exits_at g text ResourceDestinationRaw q' ∷ exits_at g text ResourceDestination q' ∷ [])) (string-read q i q' y ys q-at some within is)
        ∙ ap (λ n. enter1 ∷ enter2 ∷ (string ++ exits_at g text ResourceDestinationRaw n ∷ exits_at g text ResourceDestination n ∷ [])) is
        ∙ ap (λ e. enter1 ∷ enter2 ∷ e) (sym (append_assoc string (exits_at g text ResourceDestinationRaw (q + i) ∷ []) (exits_at g text ResourceDestination (q + i) ∷ [])))
        ∙ ap (λ e. enter1 ∷ (e ++ exits_at g text ResourceDestination (q + i) ∷ [])) (span-read text g.bytes ResourceDestinationRaw string i q y ys q-at some within)
        ∙ span-read text g.bytes ResourceDestination (span g.bytes ResourceDestinationRaw l string) i q y ys q-at some within
        ∙ ap (λ c. span g.bytes ResourceDestination l (cond c (in_marks g.bytes ResourceDestinationLiteral ResourceDestinationLiteralMarker (destination_string g.bytes (unmarked g.bytes l)) l) (span g.bytes ResourceDestinationRaw l string)))
        (sym (front-byte 60 i y ys some ∙ more))

    -- its size
    unmarked-size : (size : Option ℕ) → (y.byte == 60) ≡ false → raw_size 0 false (bytes_of (y ∷ ys)) ≡ size → destination_size (bytes_of (y ∷ ys)) ≡ some_raw size
    unmarked-size size more is = ap (λ c. cond c (option_map (λ n. n + 2) (enclosed_size false (bytes_of ys))) (some_raw (raw_size 0 false (bytes_of (y ∷ ys))))) more ∙ ap some_raw is

    raw-size-is : (i : ℕ) → 1 ≤ i → (y.byte == 60) ≡ false → raw_size 0 false (bytes_of (y ∷ ys)) ≡ Some i → destination_size (bytes_of (y ∷ ys)) ≡ Some i
    raw-size-is i some more is = unmarked-size (Some i) more is ∙ ap (λ c. cond {A = Option ℕ} c None (Some i)) (not-zero i some)

    -- it ends, and what is behind it
    raw-ends : (i q' : ℕ) (z : Seat) (zs : List Seat) (local : Local Unit Unit) (hidden : Bool) → (y.byte == 60) ≡ false → 1 ≤ i → q' ≡ q + i → drop q' text.seats ≡ z ∷ zs → size_b local ≡ 0 → raw_size 0 false (bytes_of (y ∷ ys)) ≡ Some i
        → Does g text m (stands g text m cs p far events all in_raw q' x3 local) (raw_name hidden) ends_raw_destination
        → Finds g text m cs p far events all (4 * length (z ∷ zs) + 5) (stands g text m cs p far events all in_raw q' x3 local) (raw_name hidden) (with_size (Some i))
    raw-ends i q' z zs local hidden more some is z_at none_open size_is has =
        let k = stands g text m cs p far events all in_raw q' x3 local in
        let exit1 = exits_at g text Data q' ∷ [] in
        let exit2 = exits_at g text ResourceDestinationString q' ∷ [] in
        let exit3 = exits_at g text ResourceDestinationRaw q' ∷ [] in
        let exit4 = exits_at g text ResourceDestination q' ∷ [] in
        let d = destination_events g.bytes (take i (y ∷ ys)) in
        let inner_at : drop i (y ∷ ys) ≡ z ∷ zs = ap (drop i) (sym q-at) ∙ drop-drop i q text.seats ∙ ap (λ n. drop n text.seats) (sym is) ∙ z_at in
        let within : i ≤ suc (length ys) = omega (arith, begins-inside i (y ∷ ys) z zs inner_at) in
        let made : ((((events ++ x3) ++ exit1) ++ exit2) ++ exit3) ++ exit4 ≡ events ++ (x0 ++ d) =
        append_assoc (((events ++ x3) ++ exit1) ++ exit2) exit3 exit4 ∙ append_assoc ((events ++ x3) ++ exit1) exit2 (exit3 ++ exit4) ∙ append_assoc (events ++ x3) exit1 (exit2 ++ (exit3 ++ exit4)) ∙ append_assoc events x3 (raw_ended q')
        ∙ ap (λ e. events ++ e) (append_assoc x0 (raw_opened ++ raw_begun) (raw_ended q') ∙ ap (λ e. x0 ++ e) (append_assoc raw_opened raw_begun (raw_ended q') ∙ raw-spelled i q' more some within is)) in
        let behind_it : drop (begin + i) all ≡ z ∷ zs = all-at g text m r cs p far events s ss at (begin + i) q' (z ∷ zs) (omega (arith, is)) z_at in
        stays g text m cs p far events all (4 * length (z ∷ zs) + 4) (4 * length (z ∷ zs) + 5) in_raw in_resource_only q' x3 (x0 ++ d) local (counts local) (raw_name hidden) LabelEndResourceDestinationAfter
        (row (exit Data ∷ exit ResourceDestinationString ∷ exit ResourceDestinationRaw ∷ exit ResourceDestination ∷ []) (Retry LabelEndResourceDestinationAfter)) (with_size (Some i)) (((((events ++ x3) ++ exit1) ++ exit2) ++ exit3) ++ exit4)
        (omega arith) (touched-call local) (yes g text m k (raw_name hidden) has (ap (λ n. n == 0) none_open)) made (λ e i. i)
        (moved g text m cs p far events all (4 * length (z ∷ zs) + 4) (z ∷ zs) in_resource_only (q + i) q' (x0 ++ d) (x0 ++ d) (counts local) LabelEndResourceDestinationAfter (with_size (Some i)) (sym is) refl (ends-at i (z ∷ zs) (counts local) (raw-size-is i some more size_is) behind_it))

    raw-none : (i q' : ℕ) → (y.byte == 60) ≡ false → 1 ≤ i → q' ≡ q + i → drop q' text.seats ≡ [] → raw_size 0 false (bytes_of (y ∷ ys)) ≡ Some i → (with_size (Some i) ≡ None) × (q' ≤ far)
    raw-none i q' more some is none size_is =
        let left_at : drop (begin + i) all ≡ [] = all-at g text m r cs p far events s ss at (begin + i) q' [] (omega (arith, is)) none in
        let nothing : with_size (Some i) ≡ None = nothing-behind g text m r cs p far events s ss at begin i (first_gap ++ destination_events g.bytes (take i (y ∷ ys))) (omega arith) (spelled i (y ∷ ys) there) left_at in
        (nothing, omega (arith, is, reach-behind i [] (raw-size-is i some more size_is) left_at nothing))

    -- So one without marks is read, whose first byte opens so many parentheses, and may hide the next byte
    pub reads-unmarked : (d : ℕ) (h : Bool) (local : Local Unit Unit) → (y.byte == 60) ≡ false → (y.byte == 41) ≡ false → d ≤ 32 → raw.IsPassed 0 false y.byte (bytes_of ys) d h
        → Does g text m (stands g text m cs p far events all in_resource_only q x0 local) LabelEndResourceOpen (reads_on (write (size_b_is d) ∷ begins_raw) (raw_name h))
        → Finds g text m cs p far events all (4 * length (y ∷ ys) + 2) (stands g text m cs p far events all in_resource_only q x0 local) LabelEndResourceOpen (with_size (destination_size (bytes_of (y ∷ ys))))
    reads-unmarked d h local more other room goes has =
        let bs = bytes_of ys in
        let f = λ (i : ℕ). with_size (Some i) in
        let after = with_b d (counts local) in
        let enter1 = enters_at g text ResourceDestination q ∷ [] in
        let enter2 = enters_at g text ResourceDestinationRaw q ∷ [] in
        let enter3 = enters_at g text ResourceDestinationString q ∷ [] in
        let enter4 = enters_at g text Data q ∷ [] in
        let made : ((((events ++ x0) ++ enter1) ++ enter2) ++ enter3) ++ enter4 ≡ events ++ x3 =
        append_assoc (((events ++ x0) ++ enter1) ++ enter2) enter3 enter4 ∙ append_assoc ((events ++ x0) ++ enter1) enter2 raw_begun ∙ append_assoc (events ++ x0) enter1 (enter2 ++ raw_begun) ∙ append_assoc events x0 (raw_opened ++ raw_begun) in
        let size_is : destination_size (bytes_of (y ∷ ys)) ≡ some_raw (one_more (raw_size d h bs)) =
        ap (λ c. cond c (option_map (λ n. n + 2) (enclosed_size false bs)) (some_raw (raw_size 0 false (bytes_of (y ∷ ys))))) more ∙ ap some_raw goes.0 in
        let passed : destination_passed (bytes_of (y ∷ ys)) None ≡ raw_look 0 false (bytes_of (y ∷ ys)) = ap (λ c. cond c (1 + enclosed_look false bs) (raw_look 0 false (bytes_of (y ∷ ys)))) more in
        let found : option_and_then f (behind 1 (raw_size d h bs)) ≡ with_size (some_raw (one_more (raw_size d h bs))) =
        elim (raw_size d h bs) as (λ o. option_and_then f (behind 1 o) ≡ with_size (some_raw (one_more o))) [
          | None ↦ sym (none-there other)
          | Some n ↦
              let one : 1 + n ≡ n + 1 = omega arith in
              ap f one ∙ ap (λ c. with_size (cond c None (Some (n + 1)))) (sym (not-zero (n + 1) (omega arith)))
        ] in
        subst (Finds g text m cs p far events all (4 * length (y ∷ ys) + 2) (stands g text m cs p far events all in_resource_only q x0 local) LabelEndResourceOpen) (found ∙ ap with_size (sym size_is))
        (reads g text m cs p far events all (4 * length ys + 5) (4 * length (y ∷ ys) + 2) in_resource_only in_raw q x0 x3 local after LabelEndResourceOpen (raw_name h) y ys (reads_on (write (size_b_is d) ∷ begins_raw) (raw_name h))
        (option_and_then f (behind 1 (raw_size d h bs))) (((((events ++ x0) ++ enter1) ++ enter2) ++ enter3) ++ enter4) q-at (omega arith) (touched local after refl refl) has made (λ e i. i)
        (reads-raw g text m r cs p far events all q x3 f (raw_size 0 false (bytes_of (y ∷ ys))) (λ i q' z zs after hidden some is z_at none_open size_is does. raw-ends i q' z zs after hidden more some is z_at none_open size_is does)
        (λ i q' some is none size_is. raw-none i q' more some is none size_is) ys h 1 (q + 1) after (omega arith) refl (drop-next text.seats q y ys q-at) room
        (λ none. omega (arith, reach-none other (size_is ∙ ap (λ o. some_raw (one_more o)) none), passed, goes.1))
        (sym (behind-none (raw_size 0 false (bytes_of (y ∷ ys)))) ∙ ap (behind 0) goes.0 ∙ behind-more 0 (raw_size d h bs))))

    -- ---- both, or none
    reads-none : (local : Local Unit Unit) → (y.byte == 41) ≡ true → Does g text m (stands g text m cs p far events all in_resource_only q x0 local) LabelEndResourceOpen (row [] (Retry LabelEndResourceEnd))
        → Finds g text m cs p far events all (4 * length (y ∷ ys) + 2) (stands g text m cs p far events all in_resource_only q x0 local) LabelEndResourceOpen (with_size (destination_size (bytes_of (y ∷ ys))))
    reads-none local closes has =
        let n = gap (bytes_of ss) in
        let size_is : destination_size (bytes_of (y ∷ ys)) ≡ None = ap (λ b. destination_size (b ∷ bytes_of ys)) (eqb-true y.byte 41 closes) in
        let inside : first_gap ≡ inside_to g text m r cs p far events s ss at None None begin = sym (ap (gap_events g.bytes) (cut-out 1 n (begin + 1) all (omega arith))) in
        subst (λ o. Finds g text m cs p far events all (4 * length (y ∷ ys) + 2) (stands g text m cs p far events all in_resource_only q x0 local) LabelEndResourceOpen (with_size o)) (sym size_is)
        (stays g text m cs p far events all (4 * length (y ∷ ys) + 1) (4 * length (y ∷ ys) + 2) in_resource_only in_resource_only q x0 x0 local (counts local) LabelEndResourceOpen LabelEndResourceEnd (row [] (Retry LabelEndResourceEnd)) (with_size None) (events ++ x0)
        (omega arith) (touched-call local) has refl (λ e i. i)
        (reads-close g text m r cs p far events s ss at None None begin (4 * length (y ∷ ys) + 1) first_gap (y ∷ ys) (counts local) (omega arith) (omega arith) there inside (λ none. omega (arith, reach (ap with_size size_is ∙ none)))))

    pub reads-open : (local : Local Unit Unit)
        → Finds g text m cs p far events all (4 * length (y ∷ ys) + 2) (stands g text m cs p far events all in_resource_only q x0 local) LabelEndResourceOpen (with_size (destination_size (bytes_of (y ∷ ys))))
    reads-open local =
        let b = y.byte in
        let bs = bytes_of ys in
        let k = stands g text m cs p far events all in_resource_only q x0 local in
        let Now = Finds g text m cs p far events all (4 * length (y ∷ ys) + 2) k LabelEndResourceOpen (with_size (destination_size (bytes_of (y ∷ ys)))) in
        let has = here g text m resource_open_rows LabelEndResourceOpen in_resource_only q (events ++ x0) local y ys q-at r.opens in
        elim (b == 41) as (λ t. (b == 41) ≡ t → Now) [
          | true ↦ λ e. reads-none local e (yes g text m k LabelEndResourceOpen has (seen g text m (λ c. c == 41) true q y ys q-at e))
          | false ↦ λ e.
              let has1 = no g text m k LabelEndResourceOpen has (seen g text m (λ c. c == 41) false q y ys q-at e) in
              elim (b == 60) as (λ t. (b == 60) ≡ t → Now) [
                | true ↦ λ e1. reads-marked e1 local (yes g text m k LabelEndResourceOpen has1 (seen g text m (λ c. c == 60) true q y ys q-at e1))
                | false ↦ λ e1.
                    let has2 = no g text m k LabelEndResourceOpen has1 (seen g text m (λ c. c == 60) false q y ys q-at e1) in
                    elim (ends_raw b) as (λ t. ends_raw b ≡ t → Now) [
                      | true ↦ λ e2.
                          let size_is = unmarked-size (Some 0) e1 (raw-stops 0 false b bs (ap (λ t. t || (((b == 41) && true) && true)) e2)) in
                          subst (Finds g text m cs p far events all (4 * length (y ∷ ys) + 2) k LabelEndResourceOpen) (sym (ap with_size size_is ∙ none-there e))
                          (fails-here g text m cs p far events all (4 * length (y ∷ ys) + 2) in_resource_only q x0 local LabelEndResourceOpen y ys q-at (omega arith) (omega (arith, reach (ap with_size size_is ∙ none-there e))) (yes g text m k LabelEndResourceOpen has2 (seen g text m ends_raw true q y ys q-at e2)))
                      | false ↦ λ e2.
                          let has3 = no g text m k LabelEndResourceOpen has2 (seen g text m ends_raw false q y ys q-at e2) in
                          let onward : is_raw_end 0 false b ≡ false = λ i. e2 i || ((e i && true) && true) in
                          let shallow = and-false ((b == 40) && true) in
                          elim (b == 40) as (λ t. (b == 40) ≡ t → Now) [
                            | true ↦ λ opens.
                                reads-unmarked 1 false local e1 e (omega arith) (raw-goes 0 false b bs 1 false onward shallow (opens-one 0 b opens) (ap (λ t. t && true) (unlike (λ c. c == 40) 92 refl b opens)))
                                (yes g text m k LabelEndResourceOpen has3 (seen g text m (λ c. c == 40) true q y ys q-at opens))
                            | false ↦ λ opens.
                                let has4 = no g text m k LabelEndResourceOpen has3 (seen g text m (λ c. c == 40) false q y ys q-at opens) in
                                elim (b == 92) as (λ t. (b == 92) ≡ t → Now) [
                                  | true ↦ λ w.
                                      reads-unmarked 0 true local e1 e (omega arith) (raw-goes 0 false b bs 0 true onward shallow (closes-one 0 b false opens e) (plain-so 92 b true w))
                                      (yes g text m k LabelEndResourceOpen has4 (seen g text m (λ c. c == 92) true q y ys q-at w))
                                  | false ↦ λ w.
                                      reads-unmarked 0 false local e1 e (omega arith) (raw-goes 0 false b bs 0 false onward shallow (closes-one 0 b false opens e) (plain-so 92 b false w))
                                      (no g text m k LabelEndResourceOpen has4 (seen g text m (λ c. c == 92) false q y ys q-at w))
                                ] refl
                          ] refl
                    ] refl
              ] refl
        ] refl

  -- So all behind the first parenthesis is read
  pub reads-inside : (local : Local Unit Unit) → stop_kept local ≡ 0 → (with_size (destination_size (drop begin (bytes_of all))) ≡ None → p + begin + destination_look (drop begin (bytes_of all)) ≤ far)
      → Finds g text m cs p far events all (4 * length ss + 3) (left g text m cs p far events all ss in_resource_only (p + 1) first_events local) LabelEndResourceBefore (with_size (destination_size (drop begin (bytes_of all))))
  reads-inside local kept reach =
      let o = with_size (destination_size (drop begin (bytes_of all))) in
      reads-gap g text m r cs p far events all to_destination o ss (p + 1) first_events local (drop-next text.seats p s ss at) kept
      (λ q' y ys after is y_at.
      let place : q' ≡ p + begin = omega (arith, is) in
      let there : drop begin all ≡ y ∷ ys = all-at g text m r cs p far events s ss at begin q' (y ∷ ys) place y_at in
      subst (λ bs. Finds g text m cs p far events all (4 * length (y ∷ ys) + 2) (stands g text m cs p far events all in_resource_only q' (first_events ++ first_gap) after) LabelEndResourceOpen (with_size (destination_size bs)))
      (sym (bytes-left g text m r cs p far events s ss at begin (y ∷ ys) there))
      (moved g text m cs p far events all (4 * length (y ∷ ys) + 2) (y ∷ ys) in_resource_only (p + begin) q' (first_events ++ first_gap) (first_events ++ first_gap) after LabelEndResourceOpen (with_size (destination_size (bytes_of (y ∷ ys)))) (sym place) refl
      (reads-open y ys there (subst (λ bs. with_size (destination_size bs) ≡ None → p + begin + destination_look bs ≤ far) (bytes-left g text m r cs p far events s ss at begin (y ∷ ys) there) reach) after)))
      (λ q' is none.
      let there : drop begin all ≡ [] = all-at g text m r cs p far events s ss at begin q' [] (omega (arith, is)) none in
      let nothing : o ≡ None =
      ap (λ bs. with_size (destination_size bs)) (bytes-left g text m r cs p far events s ss at begin [] there) ∙ closed-is g text m r cs p far events s ss at None None begin [] false there refl in
      (nothing, omega (arith, is, reach nothing)))
