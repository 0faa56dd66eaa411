-- How the end of a resource is read: white space, maybe a title, white space, and the parenthesis that closes it.
use Rattle.mdinline_link_tails.proofs.Prelude.{◌≡◌, ℕ, zero, suc, ◌+◌, ◌-◌, ◌*◌, ◌≤◌, ◌==◌, ◌||◌, List, [], ◌∷◌, ◌++◌, Bool, true, false, cond, Option, Some, None, refl, sym, ap, ◌∙◌, subst, arith, take, drop, length, option_and_then, drop-next, drop-drop, drop-map, append-nil, append_assoc, between, prefix_len, eqb-true, nat_tests, Event, Enter, Exit, Resource, ResourceMarker, Ok, Retry, LabelEndResourceBefore, LabelEndResourceDestinationAfter, LabelEndResourceEnd, TitleStart, Seat, Given, Text, Nothing, Choice, Local, held, at-front, end_or, point_or, counts, EndsWith, leads-row, Plays, Found, bytes_of, leaf, row, enter, exit, consume, write}
use Rattle.std.specs.Prelude.{option_map}
use Rattle.markdown_base.proofs.Facts.Bools.{cond-same}
use Rattle.mdconstructs_machines.specs.Spans.{event}
use Rattle.mdinline_labels.specs.declared.definitions.Stretch.{Stretch}
use Rattle.mdinline_labels.specs.declared.resources.Resource.{Resource as Parts}
use Rattle.mdinline_labels.specs.Definitions.{end_of, stretch_at, title_at}
use Rattle.mdinline_labels.specs.Resources.{closed_at}
use Rattle.mdinline_labels.specs.Tails.{begins_with, gap, is_white, marked_size, title_end, title_size}
use Rattle.mdinline_link_tails.specs.Resource.{behind_destination, gap_events, in_marks, in_resource, resource, title_events}
use Rattle.mdinline_link_tails.specs.ResourceLooks.{marked_look, tail_look, title_look, title_passed}
use Rattle.mdinline_link_tails.specs.ResourceRows.{begins_title, destination_after_rows, is_gap_byte, resource_end_rows, stands_before_is, title_start_rows}
use Rattle.mdinline_link_tails.proofs.Resources.Gaps.{in_resource_only, reads-gap, stop_kept, to_close, to_title}
use Rattle.mdinline_link_tails.proofs.Resources.Marks.{cut-out, marks-spelled, up-to}
use Rattle.mdinline_link_tails.proofs.Resources.Steps.{PlaysResources, Does, yes, no, here, seen, enters_at, exits_past, Finds, moved, stands, left, fails, fails-here, stays}
use Rattle.mdinline_link_tails.proofs.Resources.Titles.{inside_look, opening, title_inside}
use Rattle.mdinline_link_tails.proofs.Resources.Touched.{touched, touched-call}
use Rattle.mdinline_link_tails.proofs.Resources.WholeTitles.{reads-whole-title, with_stop}

-- white space is there, or none
no-gap : (b : ℕ) (bs : List ℕ) → is_gap_byte b ≡ false → gap (b ∷ bs) ≡ 0
no-gap b bs h =
    let size = λ (t : Bool). let n = cond t (1 + prefix_len is_white bs) 0 in cond (begins_with 10 (drop n (b ∷ bs))) (n + 1 + prefix_len is_white (drop (n + 1) (b ∷ bs))) n in
    elim (is_white b) as (λ t. (t || (b == 10)) ≡ false → size t ≡ 0) [
      | true ↦ λ e. absurd (cc)
      | false ↦ λ e. ap (λ t. cond t (0 + 1 + prefix_len is_white (drop (0 + 1) (b ∷ bs))) 0) e
    ] h

some-gap : (b : ℕ) (bs : List ℕ) → is_gap_byte b ≡ true → 1 ≤ gap (b ∷ bs)
some-gap b bs h =
    let size = λ (t : Bool). let n = cond t (1 + prefix_len is_white bs) 0 in cond (begins_with 10 (drop n (b ∷ bs))) (n + 1 + prefix_len is_white (drop (n + 1) (b ∷ bs))) n in
    elim (is_white b) as (λ t. (t || (b == 10)) ≡ true → 1 ≤ size t) [
      | true ↦ λ e.
          let n = 1 + prefix_len is_white bs in
          elim (begins_with 10 (drop n (b ∷ bs))) as (λ t. 1 ≤ cond t (n + 1 + prefix_len is_white (drop (n + 1) (b ∷ bs))) n) [ true ↦ omega arith | false ↦ omega arith ]
      | false ↦ λ e. let size : cond (b == 10) (0 + 1 + prefix_len is_white (drop (0 + 1) (b ∷ bs))) 0 ≡ 0 + 1 + prefix_len is_white (drop (0 + 1) (b ∷ bs)) = ap (λ t. cond t (0 + 1 + prefix_len is_white (drop (0 + 1) (b ∷ bs))) 0) e in omega (arith, size)
    ] h

pub not-zero : (n : ℕ) → 1 ≤ n → (n == 0) ≡ false
not-zero n h = grind (arith, nat_tests)

-- white space at least is passed
at-least : (a b : ℕ) → a ≤ a + b
at-least a b = omega arith

tail-least : (bs : List ℕ) → gap bs ≤ tail_look bs
tail-least bs = let n = gap bs in at-least n (cond (n == 0) 0 (title_look (drop n bs)))

module _ (g : Given) (text : Text) (m : Plays g text) (r : PlaysResources g text m) (cs : List Choice) (p far : ℕ) (events : List Event) (s : Seat) (ss : List Seat) (at : drop p text.seats ≡ s ∷ ss) where
  -- the text from its first parenthesis on
  abbrev pub all : List Seat
  all = s ∷ ss

  abbrev pub text_bytes : List ℕ
  text_bytes = bytes_of all

  -- the events of its first parenthesis
  abbrev pub opened : List Event
  opened = event g.bytes Enter Resource s.point ∷ leaf g.bytes ResourceMarker (s ∷ [])

  -- what is left behind so many bytes
  pub left-at : (n : ℕ) (l : List Seat) → drop n all ≡ l → drop (p + n) text.seats ≡ l
  left-at n l there = sym (drop-drop n p text.seats) ∙ ap (drop n) at ∙ there

  pub all-at : (n q : ℕ) (l : List Seat) → q ≡ p + n → drop q text.seats ≡ l → drop n all ≡ l
  all-at n q l place there = ap (drop n) (sym at) ∙ drop-drop n p text.seats ∙ ap (λ q. drop q text.seats) (sym place) ∙ there

  pub bytes-left : (n : ℕ) (l : List Seat) → drop n all ≡ l → drop n text_bytes ≡ bytes_of l
  bytes-left n l there = drop-map (λ (y : Seat). y.byte) n all ∙ ap bytes_of there

  -- and behind some that are left
  pub bytes-behind : (n i : ℕ) (l rest : List Seat) → drop n all ≡ l → drop (n + i) all ≡ rest → drop i (bytes_of l) ≡ bytes_of rest
  bytes-behind n i l rest there further = drop-map (λ (y : Seat). y.byte) i l ∙ ap bytes_of (ap (drop i) (sym there) ∙ drop-drop i n all ∙ further)

  -- a resource with these parts that is closed behind so many bytes, if a parenthesis is there
  abbrev pub parts_to : (destination title : Option Stretch) → (close : ℕ) → Parts
  parts_to d t close = record { destination = d; title = t; size = close + 1 }

  abbrev pub closed : (destination title : Option Stretch) → (close : ℕ) → Option Found
  closed d t close = option_map resource (closed_at text_bytes d t close)

  pub closed-is : (d t : Option Stretch) (close : ℕ) (l : List Seat) (c : Bool) → drop close all ≡ l → begins_with 41 (bytes_of l) ≡ c → closed d t close ≡ cond c (Some (resource (parts_to d t close))) None
  closed-is d t close l true there h = ap (λ c. option_map resource (cond c (Some (parts_to d t close)) None)) (ap (begins_with 41) (bytes-left close l there) ∙ h)
  closed-is d t close l false there h = ap (λ c. option_map resource (cond c (Some (parts_to d t close)) None)) (ap (begins_with 41) (bytes-left close l there) ∙ h)

  -- what is between the parentheses
  abbrev pub inside_to : (destination title : Option Stretch) → (close : ℕ) → List Event
  inside_to d t close = in_resource g.bytes d t close (take (close + 1) all)

  -- a span up to the parenthesis that closes it
  closed-spelled : (close : ℕ) (y : Seat) (ys : List Seat) (inside : List Event) → 1 ≤ close → drop close all ≡ y ∷ ys
      → in_marks g.bytes Resource ResourceMarker inside (take (close + 1) all) ≡ opened ++ (inside ++ (leaf g.bytes ResourceMarker (y ∷ []) ++ event g.bytes Exit Resource y.end ∷ []))
  closed-spelled zero y ys inside some there = absurd (omega (arith, some))
  closed-spelled (suc j) y ys inside some there =
      let two : suc j + 1 ≡ j + 2 = omega arith in
      let mark = leaf g.bytes ResourceMarker (y ∷ []) in
      let ended = event g.bytes Exit Resource y.end ∷ [] in
      let first = leaf g.bytes ResourceMarker (s ∷ []) in
      ap (λ n. in_marks g.bytes Resource ResourceMarker inside (take n all)) two
      ∙ ap (in_marks g.bytes Resource ResourceMarker inside) (up-to j s ss y ys there)
      ∙ marks-spelled g.bytes Resource ResourceMarker inside s (take j ss) y
      ∙ ap (λ e. event g.bytes Enter Resource s.point ∷ e) (append_assoc first (inside ++ mark) ended ∙ ap (λ e. first ++ e) (append_assoc inside mark ended))

  -- the last parenthesis is read
  closes-whole : (d t : Option Stretch) (close n : ℕ) (inside : List Event) (y : Seat) (ys : List Seat) (local : Local Unit Unit) → 1 ≤ close → 4 * length (y ∷ ys) + 1 ≤ n → drop close all ≡ y ∷ ys → inside ≡ inside_to d t close
      → Does g text m (stands g text m cs p far events all in_resource_only (p + close) (opened ++ inside) local) LabelEndResourceEnd (row (enter ResourceMarker ∷ consume ∷ exit ResourceMarker ∷ exit Resource ∷ []) Ok)
      → Finds g text m cs p far events all n (stands g text m cs p far events all in_resource_only (p + close) (opened ++ inside) local) LabelEndResourceEnd (Some (resource (parts_to d t close)))
  closes-whole d t close n inside y ys local some fits there made has =
      let q = p + close in
      let k = stands g text m cs p far events all in_resource_only q (opened ++ inside) local in
      let whole = events ++ (opened ++ inside) in
      let enters = enters_at g text ResourceMarker q ∷ [] in
      let exits = exits_past g text ResourceMarker q ∷ [] in
      let ended = exits_past g text Resource q ∷ [] in
      let tail = leaf g.bytes ResourceMarker (y ∷ []) ++ event g.bytes Exit Resource y.end ∷ [] in
      let place : q + 1 ≡ p + (close + 1) = omega arith in
      let last : close ≡ close + 1 - 1 = omega arith in
      let rest : length (drop (close + 1) all) ≡ length ys = ap length (drop-next all close y ys there) in
      let spelled : opened ++ (inside ++ tail) ≡ in_marks g.bytes Resource ResourceMarker (in_resource g.bytes d t (close + 1 - 1) (take (close + 1) all)) (take (close + 1) all) =
      sym (closed-spelled close y ys inside some there) ∙ ap (λ i. in_marks g.bytes Resource ResourceMarker i (take (close + 1) all)) (made ∙ ap (λ n. in_resource g.bytes d t n (take (close + 1) all)) last) in
      let same : ((whole ++ enters) ++ exits) ++ ended ≡ events ++ in_marks g.bytes Resource ResourceMarker (in_resource g.bytes d t (close + 1 - 1) (take (close + 1) all)) (take (close + 1) all) =
      append_assoc (whole ++ enters) exits ended ∙ append_assoc whole enters (exits ++ ended)
      ∙ ap (λ o. whole ++ event g.bytes Enter ResourceMarker (point_or text.end o) ∷ event g.bytes Exit ResourceMarker (end_or text.end o) ∷ event g.bytes Exit Resource (end_or text.end o) ∷ []) (at-front text.seats q y ys (left-at close (y ∷ ys) there))
      ∙ append_assoc events (opened ++ inside) tail ∙ ap (λ e. events ++ e) (append_assoc opened inside tail ∙ spelled) in (
        counts local,
        record { calls = (let once = touched-call local in omega (arith, once.calls, rest, fits)); same = refl },
        λ e h.
            leads-row g text m (row (enter ResourceMarker ∷ consume ∷ exit ResourceMarker ∷ exit Resource ∷ []) Ok) k cs LabelEndResourceEnd e has.row_is
            (subst (λ q. EndsWith g text m (held [] q Nothing false (((whole ++ enters) ++ exits) ++ ended) (counts local)) cs Ok e) (sym place)
            (subst (λ es. EndsWith g text m (held [] (p + (close + 1)) Nothing false es (counts local)) cs Ok e) (sym same) h)),
      )

  -- So the state at the end of a resource reads it
  pub reads-close : (d t : Option Stretch) (close n : ℕ) (inside : List Event) (l : List Seat) (local : Local Unit Unit) → 1 ≤ close → 4 * length l + 1 ≤ n → drop close all ≡ l → inside ≡ inside_to d t close → (closed d t close ≡ None → p + close ≤ far)
      → Finds g text m cs p far events all n (left g text m cs p far events all l in_resource_only (p + close) (opened ++ inside) local) LabelEndResourceEnd (closed d t close)
  reads-close d t close n inside [] local some fits there made reach =
      subst (Finds g text m cs p far events all n (left g text m cs p far events all [] in_resource_only (p + close) (opened ++ inside) local) LabelEndResourceEnd) (sym (closed-is d t close [] false there refl))
      (fails g text m cs p far events all n [] in_resource_only (p + close) (opened ++ inside) local LabelEndResourceEnd (left-at close [] there) fits (reach (closed-is d t close [] false there refl)) (r.ending _))
  reads-close d t close n inside (y ∷ ys) local some fits there made reach =
      let q = p + close in
      let k = stands g text m cs p far events all in_resource_only q (opened ++ inside) local in
      let here_at = left-at close (y ∷ ys) there in
      let has = here g text m resource_end_rows LabelEndResourceEnd in_resource_only q (events ++ (opened ++ inside)) local y ys here_at r.ending in
      elim (y.byte == 41) as (λ c. (y.byte == 41) ≡ c → Finds g text m cs p far events all n k LabelEndResourceEnd (closed d t close)) [
        | true ↦ λ e.
            subst (Finds g text m cs p far events all n k LabelEndResourceEnd) (sym (closed-is d t close (y ∷ ys) true there e))
            (closes-whole d t close n inside y ys local some fits there made (yes g text m k LabelEndResourceEnd has (seen g text m (λ c. c == 41) true q y ys here_at e)))
        | false ↦ λ e.
            subst (Finds g text m cs p far events all n k LabelEndResourceEnd) (sym (closed-is d t close (y ∷ ys) false there e))
            (fails-here g text m cs p far events all n in_resource_only q (opened ++ inside) local LabelEndResourceEnd y ys here_at fits (reach (closed-is d t close (y ∷ ys) false there e)) (no g text m k LabelEndResourceEnd has (seen g text m (λ c. c == 41) false q y ys here_at e)))
      ] refl

  -- white space before it
  pub reads-to-close : (d t : Option Stretch) (from : ℕ) (before : List Event) (l : List Seat) (local : Local Unit Unit) → 1 ≤ from → drop from all ≡ l → stop_kept local ≡ 2
      → before ++ gap_events g.bytes (take (gap (bytes_of l)) l) ≡ inside_to d t (from + gap (bytes_of l)) → (closed d t (from + gap (bytes_of l)) ≡ None → p + (from + gap (bytes_of l)) ≤ far)
      → Finds g text m cs p far events all (4 * length l + 3) (left g text m cs p far events all l in_resource_only (p + from) (opened ++ before) local) LabelEndResourceBefore (closed d t (from + gap (bytes_of l)))
  reads-to-close d t from before l local some there kept made reach =
      let n = gap (bytes_of l) in
      let white = gap_events g.bytes (take n l) in
      reads-gap g text m r cs p far events all to_close (closed d t (from + n)) l (p + from) (opened ++ before) local (left-at from l there) kept
      (λ q y ys after is y_at.
      let place : q ≡ p + (from + n) = omega (arith, is) in
      moved g text m cs p far events all (4 * length (y ∷ ys) + 2) (y ∷ ys) in_resource_only (p + (from + n)) q (opened ++ (before ++ white)) ((opened ++ before) ++ white) after LabelEndResourceEnd (closed d t (from + n))
      (sym place) (sym (append_assoc opened before white))
      (reads-close d t (from + n) (4 * length (y ∷ ys) + 2) (before ++ white) (y ∷ ys) after (omega (arith, some)) (omega arith) (all-at (from + n) q (y ∷ ys) place y_at) made reach))
      (λ q is none. let open_end = closed-is d t (from + n) [] false (all-at (from + n) q [] (omega (arith, is)) none) refl in (open_end, omega (arith, is, reach open_end)))

  -- behind a destination, with the events up to there
  module _ (from size : ℕ) (before : List Event) (some : 1 ≤ from)
      (spells : (title : Option Stretch) (close : ℕ) → from + size ≤ close → inside_to (Some (stretch_at from size)) title close ≡ before ++ behind_destination g.bytes title (from + size) close (take (close + 1) all)) where
    abbrev destination : Stretch
    destination = stretch_at from size

    abbrev behind_it : ℕ
    behind_it = from + size

    -- the resource, with this title or with none
    abbrev pub tailed : (title : Option Stretch) → Option Found
    tailed title = let last = end_of title destination in closed (Some destination) title (last + gap (drop last text_bytes))

    -- white space with no title
    untitled-spelled : (l : List Seat) → drop behind_it all ≡ l → before ++ gap_events g.bytes (take (gap (bytes_of l)) l) ≡ inside_to (Some destination) None (behind_it + gap (bytes_of l))
    untitled-spelled l there =
        let n = gap (bytes_of l) in
        let cut : between behind_it (behind_it + n) (take (behind_it + n + 1) all) ≡ take n l = cut-out behind_it n (behind_it + n + 1) all (omega arith) ∙ ap (take n) there in
        sym (spells None (behind_it + n) (omega arith) ∙ ap (λ l. before ++ gap_events g.bytes l) cut)

    untitled-is : (l : List Seat) → drop behind_it all ≡ l → tailed None ≡ closed (Some destination) None (behind_it + gap (bytes_of l))
    untitled-is l there = ap (λ bs. closed (Some destination) None (behind_it + gap bs)) (bytes-left behind_it l there)

    -- with a title
    titled-spelled : (l : List Seat) (i : ℕ) (z zs : List Seat) → drop behind_it all ≡ l → drop (behind_it + gap (bytes_of l)) all ≡ z → drop (behind_it + gap (bytes_of l) + i) all ≡ zs
        → let w = gap (bytes_of l) in let last = behind_it + w + i in let n = gap (bytes_of zs) in
        ((before ++ gap_events g.bytes (take w l)) ++ title_events g.bytes (take i z)) ++ gap_events g.bytes (take n zs) ≡ inside_to (Some destination) (Some (stretch_at (behind_it + w) i)) (last + n)
    titled-spelled l i z zs there z_at zs_at =
        let w = gap (bytes_of l) in
        let begin = behind_it + w in
        let last = begin + i in
        let n = gap (bytes_of zs) in
        let whole = take (last + n + 1) all in
        let first = gap_events g.bytes (take w l) in
        let title = title_events g.bytes (take i z) in
        let second = gap_events g.bytes (take n zs) in
        let cut1 : between behind_it begin whole ≡ take w l = cut-out behind_it w (last + n + 1) all (omega arith) ∙ ap (take w) there in
        let cut2 : between begin last whole ≡ take i z = cut-out begin i (last + n + 1) all (omega arith) ∙ ap (take i) z_at in
        let cut3 : between last (last + n) whole ≡ take n zs = cut-out last n (last + n + 1) all (omega arith) ∙ ap (take n) zs_at in
        append_assoc (before ++ first) title second ∙ append_assoc before first (title ++ second)
        ∙ sym (spells (Some (stretch_at begin i)) (last + n) (omega arith) ∙ (λ j. before ++ (gap_events g.bytes (cut1 j) ++ (title_events g.bytes (cut2 j) ++ gap_events g.bytes (cut3 j)))))

    -- where a title may begin
    module _ (l : List Seat) (there : drop behind_it all ≡ l) (z : Seat) (zs : List Seat) (z_at : drop (behind_it + gap (bytes_of l)) all ≡ z ∷ zs) (local : Local Unit Unit)
        (reach : tailed (option_map (stretch_at (behind_it + gap (bytes_of l))) (title_size (bytes_of (z ∷ zs)))) ≡ None → p + (behind_it + gap (bytes_of l)) + title_look (bytes_of (z ∷ zs)) ≤ far) where
      abbrev w : ℕ
      w = gap (bytes_of l)

      abbrev begin : ℕ
      begin = behind_it + w

      abbrev begun : List Event
      begun = before ++ gap_events g.bytes (take w l)

      abbrev Here : Option Found → Type 0
      Here o = Finds g text m cs p far events all (4 * length (z ∷ zs) + 2) (stands g text m cs p far events all in_resource_only (p + begin) (opened ++ begun) local) TitleStart o

      -- a byte that is no parenthesis closes nothing
      untitled-none : (z.byte == 41) ≡ false → tailed None ≡ None
      untitled-none other = untitled-is l there ∙ closed-is (Some destination) None begin (z ∷ zs) false z_at other

      -- a title that a mark closes
      with-mark : (mark : ℕ) → title_end z.byte ≡ Some mark → opening mark ≡ z.byte → (z.byte == 41) ≡ false
          → Does g text m (stands g text m cs p far events all in_resource_only (p + begin) (opened ++ begun) local) TitleStart (begins_title mark)
          → Here (tailed (option_map (stretch_at begin) (title_size (bytes_of (z ∷ zs)))))
      with-mark mark ends opens other has =
          let f = λ (i : ℕ). tailed (Some (stretch_at begin (i + 2))) in
          let size_is : title_size (bytes_of (z ∷ zs)) ≡ option_map (λ n. n + 2) (title_inside mark false false (bytes_of zs)) =
          ap (λ o. option_and_then (λ close. option_map (λ n. n + 2) (marked_size z.byte close false false (bytes_of zs))) o) ends ∙ ap (λ b. option_map (λ n. n + 2) (marked_size b mark false false (bytes_of zs))) (sym opens) in
          let found : option_and_then f (title_inside mark false false (bytes_of zs)) ≡ tailed (option_map (stretch_at begin) (option_map (λ n. n + 2) (title_inside mark false false (bytes_of zs)))) =
          elim (title_inside mark false false (bytes_of zs)) as (λ o. option_and_then f o ≡ tailed (option_map (stretch_at begin) (option_map (λ n. n + 2) o))) [ None ↦ sym (untitled-none other) | Some n ↦ refl ] in
          let look_is : title_look (bytes_of (z ∷ zs)) ≡ title_passed (bytes_of (z ∷ zs)) mark (title_inside mark false false (bytes_of zs)) =
          ap (λ (o : Option ℕ). elim o as (λ _. ℕ) [ None ↦ 0 | Some close ↦ title_passed (bytes_of (z ∷ zs)) close (marked_size z.byte close false false (bytes_of zs)) ]) ends
          ∙ ap (λ b. title_passed (bytes_of (z ∷ zs)) mark (marked_size b mark false false (bytes_of zs))) (sym opens) in
          subst Here (found ∙ ap (λ o. tailed (option_map (stretch_at begin) o)) (sym size_is))
          (reads-whole-title g text m r cs p far events all (p + begin) (opened ++ begun) z zs (left-at begin (z ∷ zs) z_at) mark f local has
          (λ none.
          let nothing : tailed (option_map (stretch_at begin) (title_size (bytes_of (z ∷ zs)))) ≡ None = ap (λ o. tailed (option_map (stretch_at begin) o)) (size_is ∙ ap (λ o. option_map (λ n. n + 2) o) none) ∙ untitled-none other in
          let passed : title_look (bytes_of (z ∷ zs)) ≡ 1 + marked_look z.byte mark false false (bytes_of zs) = look_is ∙ ap (title_passed (bytes_of (z ∷ zs)) mark) none in
          let same : inside_look mark false false (bytes_of zs) ≡ marked_look z.byte mark false false (bytes_of zs) = ap (λ b. marked_look b mark false false (bytes_of zs)) opens in
          omega (arith, reach nothing, passed, same))
          (λ i q v vs after is v_at kept inside_is.
          let last = begin + (i + 2) in
          let title = title_events g.bytes (take (i + 2) (z ∷ zs)) in
          let place : p + last ≡ q + 1 = omega (arith, is) in
          let vs_at : drop last all ≡ vs = all-at last (q + 1) vs (sym place) (drop-next text.seats q v vs v_at) in
          subst (Finds g text m cs p far events all (4 * length vs + 3) (left g text m cs p far events all vs in_resource_only (q + 1) ((opened ++ begun) ++ title) after) LabelEndResourceBefore)
          (ap (λ bs. closed (Some destination) (Some (stretch_at begin (i + 2))) (last + gap bs)) (sym (bytes-left last vs vs_at)))
          (moved g text m cs p far events all (4 * length vs + 3) vs in_resource_only (p + last) (q + 1) (opened ++ (begun ++ title)) ((opened ++ begun) ++ title) after LabelEndResourceBefore
          (closed (Some destination) (Some (stretch_at begin (i + 2))) (last + gap (bytes_of vs))) place (sym (append_assoc opened begun title))
          (reads-to-close (Some destination) (Some (stretch_at begin (i + 2))) last (begun ++ title) vs after (omega (arith, some)) vs_at kept (titled-spelled l (i + 2) (z ∷ zs) vs there z_at vs_at)
          (λ none.
          let nothing : tailed (option_map (stretch_at begin) (title_size (bytes_of (z ∷ zs)))) ≡ None =
          ap (λ o. tailed (option_map (stretch_at begin) o)) (size_is ∙ ap (λ o. option_map (λ n. n + 2) o) inside_is)
          ∙ ap (λ bs. closed (Some destination) (Some (stretch_at begin (i + 2))) (last + gap bs)) (bytes-left last vs vs_at) ∙ none in
          let passed : title_look (bytes_of (z ∷ zs)) ≡ i + 2 + gap (bytes_of vs) =
          look_is ∙ ap (title_passed (bytes_of (z ∷ zs)) mark) inside_is ∙ ap (λ bs. i + 2 + gap bs) (bytes-behind begin (i + 2) (z ∷ zs) vs z_at vs_at) in
          omega (arith, reach nothing, passed))))))

      -- or none
      without : title_end z.byte ≡ None → Does g text m (stands g text m cs p far events all in_resource_only (p + begin) (opened ++ begun) local) TitleStart (row [] (Retry LabelEndResourceEnd))
          → Here (tailed (option_map (stretch_at begin) (title_size (bytes_of (z ∷ zs)))))
      without ends has =
          let size_is : title_size (bytes_of (z ∷ zs)) ≡ None = ap (λ o. option_and_then (λ close. option_map (λ n. n + 2) (marked_size z.byte close false false (bytes_of zs))) o) ends in
          subst Here (sym (untitled-is l there) ∙ ap (λ o. tailed (option_map (stretch_at begin) o)) (sym size_is))
          (stays g text m cs p far events all (4 * length (z ∷ zs) + 1) (4 * length (z ∷ zs) + 2) in_resource_only in_resource_only (p + begin) (opened ++ begun) (opened ++ begun) local (counts local) TitleStart LabelEndResourceEnd
          (row [] (Retry LabelEndResourceEnd)) (closed (Some destination) None begin) (events ++ (opened ++ begun)) (omega arith) (touched-call local) has refl (λ e i. i)
          (reads-close (Some destination) None begin (4 * length (z ∷ zs) + 1) begun (z ∷ zs) (counts local) (omega (arith, some)) (omega arith) z_at (untitled-spelled l there)
          (λ none. omega (arith, reach (ap (λ o. tailed (option_map (stretch_at begin) o)) size_is ∙ untitled-is l there ∙ none)))))

      reads-title-start : Here (tailed (option_map (stretch_at begin) (title_size (bytes_of (z ∷ zs)))))
      reads-title-start =
          let b = z.byte in
          let q = p + begin in
          let k = stands g text m cs p far events all in_resource_only q (opened ++ begun) local in
          let here_at = left-at begin (z ∷ zs) z_at in
          let has = here g text m title_start_rows TitleStart in_resource_only q (events ++ (opened ++ begun)) local z zs here_at r.title_start in
          let Now = Here (tailed (option_map (stretch_at begin) (title_size (bytes_of (z ∷ zs))))) in
          elim (b == 34) as (λ t. (b == 34) ≡ t → Now) [
            | true ↦ λ e. let is = eqb-true b 34 e in with-mark 34 (ap title_end is) (sym is) (ap (λ b. b == 41) is) (yes g text m k TitleStart has (seen g text m (λ c. c == 34) true q z zs here_at e))
            | false ↦ λ e.
                let has1 = no g text m k TitleStart has (seen g text m (λ c. c == 34) false q z zs here_at e) in
                elim (b == 39) as (λ t. (b == 39) ≡ t → Now) [
                  | true ↦ λ e1. let is = eqb-true b 39 e1 in with-mark 39 (ap title_end is) (sym is) (ap (λ b. b == 41) is) (yes g text m k TitleStart has1 (seen g text m (λ c. c == 39) true q z zs here_at e1))
                  | false ↦ λ e1.
                      let has2 = no g text m k TitleStart has1 (seen g text m (λ c. c == 39) false q z zs here_at e1) in
                      elim (b == 40) as (λ t. (b == 40) ≡ t → Now) [
                        | true ↦ λ e2. let is = eqb-true b 40 e2 in with-mark 41 (ap title_end is) (sym is) (ap (λ b. b == 41) is) (yes g text m k TitleStart has2 (seen g text m (λ c. c == 40) true q z zs here_at e2))
                        | false ↦ λ e2.
                            without (λ i. cond (e i || e1 i) (Some b) (cond (e2 i) (Some 41) None)) (no g text m k TitleStart has2 (seen g text m (λ c. c == 40) false q z zs here_at e2))
                      ] refl
                ] refl
          ] refl

    -- what title is there
    title-is : (l z : List Seat) → drop behind_it all ≡ l → drop (behind_it + gap (bytes_of l)) all ≡ z
        → title_at text_bytes behind_it ≡ cond (gap (bytes_of l) == 0) None (option_map (stretch_at (behind_it + gap (bytes_of l))) (title_size (bytes_of z)))
    title-is l z there z_at =
        let w = gap (bytes_of l) in
        (λ i. let w = gap (bytes-left behind_it l there i) in cond (w == 0) None (option_map (stretch_at (behind_it + w)) (title_size (drop (behind_it + w) text_bytes))))
        ∙ ap (λ bs. cond (w == 0) None (option_map (stretch_at (behind_it + w)) (title_size bs))) (bytes-left (behind_it + w) z z_at)

    -- at the end of the text there is none
    no-title : (l : List Seat) → drop behind_it all ≡ l → drop (behind_it + gap (bytes_of l)) all ≡ [] → tailed (title_at text_bytes behind_it) ≡ None
    no-title l there none =
        let w = gap (bytes_of l) in
        ap tailed (title-is l [] there none ∙ cond-same (w == 0) None)
        ∙ untitled-is l there ∙ closed-is (Some destination) None (behind_it + w) [] false none refl

    pub nothing-behind : drop behind_it all ≡ [] → tailed (title_at text_bytes behind_it) ≡ None
    nothing-behind there = let same : behind_it + 0 ≡ behind_it = omega arith in no-title [] there (ap (λ n. drop n all) same ∙ there)

    -- So what is behind a destination is read
    pub reads-behind : (l : List Seat) (local : Local Unit Unit) → drop behind_it all ≡ l → (tailed (title_at text_bytes behind_it) ≡ None → p + behind_it + tail_look (bytes_of l) ≤ far)
        → Finds g text m cs p far events all (4 * length l + 4) (left g text m cs p far events all l in_resource_only (p + behind_it) (opened ++ before) local) LabelEndResourceDestinationAfter (tailed (title_at text_bytes behind_it))
    reads-behind [] local there reach =
        subst (Finds g text m cs p far events all (4 * 0 + 4) (left g text m cs p far events all [] in_resource_only (p + behind_it) (opened ++ before) local) LabelEndResourceDestinationAfter) (sym (nothing-behind there))
        (fails g text m cs p far events all (4 * 0 + 4) [] in_resource_only (p + behind_it) (opened ++ before) local LabelEndResourceDestinationAfter (left-at behind_it [] there) (omega arith) (omega (arith, reach (nothing-behind there))) (r.destination_after _))
    reads-behind (y ∷ ys) local there reach =
        let l = y ∷ ys in
        let q = p + behind_it in
        let w = gap (bytes_of l) in
        let k = stands g text m cs p far events all in_resource_only q (opened ++ before) local in
        let here_at = left-at behind_it l there in
        let title = title_at text_bytes behind_it in
        let has = here g text m destination_after_rows LabelEndResourceDestinationAfter in_resource_only q (events ++ (opened ++ before)) local y ys here_at r.destination_after in
        elim (is_gap_byte y.byte) as (λ t. is_gap_byte y.byte ≡ t → Finds g text m cs p far events all (4 * length l + 4) k LabelEndResourceDestinationAfter (tailed title)) [
          | true ↦ λ e.
              let wide : (w == 0) ≡ false = not-zero w (some-gap y.byte (bytes_of ys) e) in
              let after = with_stop 1 (counts local) in
              stays g text m cs p far events all (4 * length l + 3) (4 * length l + 4) in_resource_only in_resource_only q (opened ++ before) (opened ++ before) local after LabelEndResourceDestinationAfter LabelEndResourceBefore
              (row (write (stands_before_is 1) ∷ []) (Retry LabelEndResourceBefore)) (tailed title) (events ++ (opened ++ before)) (omega arith) (touched local after refl refl)
              (yes g text m k LabelEndResourceDestinationAfter has (seen g text m is_gap_byte true q y ys here_at e)) refl (λ e i. i)
              (reads-gap g text m r cs p far events all to_title (tailed title) l q (opened ++ before) after here_at refl
              (λ q' z zs after is z_at.
              let place : q' ≡ p + (behind_it + w) = omega (arith, is) in
              let left_at : drop (behind_it + w) all ≡ z ∷ zs = all-at (behind_it + w) q' (z ∷ zs) place z_at in
              let title_is : title ≡ option_map (stretch_at (behind_it + w)) (title_size (bytes_of (z ∷ zs))) = title-is l (z ∷ zs) there left_at ∙ ap (λ t. cond t None (option_map (stretch_at (behind_it + w)) (title_size (bytes_of (z ∷ zs))))) wide in
              subst (λ o. Finds g text m cs p far events all (4 * length (z ∷ zs) + 2) (stands g text m cs p far events all in_resource_only q' ((opened ++ before) ++ gap_events g.bytes (take w l)) after) TitleStart (tailed o)) (sym title_is)
              (moved g text m cs p far events all (4 * length (z ∷ zs) + 2) (z ∷ zs) in_resource_only (p + (behind_it + w)) q' (opened ++ (before ++ gap_events g.bytes (take w l))) ((opened ++ before) ++ gap_events g.bytes (take w l)) after TitleStart
              (tailed (option_map (stretch_at (behind_it + w)) (title_size (bytes_of (z ∷ zs))))) (sym place) (sym (append_assoc opened before (gap_events g.bytes (take w l))))
              (reads-title-start l there z zs left_at after
              (λ nothing.
              let passed : tail_look (bytes_of l) ≡ w + title_look (bytes_of (z ∷ zs)) = ap (λ t. w + cond t 0 (title_look (drop w (bytes_of l)))) wide ∙ ap (λ bs. w + title_look bs) (bytes-behind behind_it w l (z ∷ zs) there left_at) in
              omega (arith, reach (ap tailed title_is ∙ nothing), passed)))))
              (λ q' is none. let nothing = no-title l there (all-at (behind_it + w) q' [] (omega (arith, is)) none) in (nothing, omega (arith, is, reach nothing, tail-least (bytes_of l)))))
          | false ↦ λ e.
              let none : w ≡ 0 = no-gap y.byte (bytes_of ys) e in
              let same : behind_it + w ≡ behind_it = omega (arith, none) in
              let left_at : drop (behind_it + w) all ≡ l = ap (λ n. drop n all) same ∙ there in
              let title_is : title ≡ None = title-is l l there left_at ∙ ap (λ n. cond (n == 0) None (option_map (stretch_at (behind_it + w)) (title_size (bytes_of l)))) none in
              let bare : before ++ gap_events g.bytes (take w l) ≡ before = ap (λ n. before ++ gap_events g.bytes (take n l)) none ∙ append-nil before in
              subst (λ o. Finds g text m cs p far events all (4 * length l + 4) k LabelEndResourceDestinationAfter o) (sym (ap tailed title_is ∙ untitled-is l there))
              (stays g text m cs p far events all (4 * length l + 3) (4 * length l + 4) in_resource_only in_resource_only q (opened ++ before) (opened ++ before) local (counts local) LabelEndResourceDestinationAfter LabelEndResourceEnd
              (row [] (Retry LabelEndResourceEnd)) (closed (Some destination) None (behind_it + w)) (events ++ (opened ++ before)) (omega arith) (touched-call local)
              (no g text m k LabelEndResourceDestinationAfter has (seen g text m is_gap_byte false q y ys here_at e)) refl (λ e i. i)
              (moved g text m cs p far events all (4 * length l + 3) l in_resource_only (p + (behind_it + w)) q (opened ++ (before ++ gap_events g.bytes (take w l))) (opened ++ before) (counts local) LabelEndResourceEnd
              (closed (Some destination) None (behind_it + w)) (ap (λ n. p + n) same) (ap (λ e. opened ++ e) bare)
              (reads-close (Some destination) None (behind_it + w) (4 * length l + 3) (before ++ gap_events g.bytes (take w l)) l (counts local) (omega (arith, some)) (omega arith) left_at (untitled-spelled l there)
              (λ open_end. omega (arith, same, reach (ap tailed title_is ∙ untitled-is l there ∙ open_end))))))
        ] refl
