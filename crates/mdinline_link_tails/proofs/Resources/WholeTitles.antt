-- How a whole title is read, with its marks.
use Rattle.mdinline_link_tails.proofs.Prelude.{◌≡◌, ℕ, suc, ◌+◌, ◌*◌, ◌≤◌, ◌==◌, ◌&&◌, ◌||◌, not, List, [], ◌∷◌, ◌++◌, true, false, Option, Some, None, refl, sym, ap, ◌∙◌, subst, arith, take, drop, length, option_and_then, drop-next, drop-drop, append-nil, append_assoc, place-behind, Event, Enter, Exit, EventName, Data, LineEnding, Resource, ResourceTitle, ResourceTitleMarker, ResourceTitleString, Retry, LabelEndResourceBefore, TitleAfterEol, TitleBegin, TitleStart, Seat, Given, Text, Choice, Local, at-front, end_or, point_or, counts, Plays, Found, bytes_of, leaf, row, enter, behind-more, behind-none}
use Rattle.markdown_base.proofs.Facts.Numbers.{unlike}
use Rattle.markdown_base.proofs.Facts.Lists.{begins-inside}
use Rattle.mdconstructs_machines.specs.Spans.{event}
use Rattle.mdinline_text_machine.proofs.Plain.Stretches.{span-read}
use Rattle.mdinline_labels.specs.Tails.{behind, one_more}
use Rattle.mdinline_link_tails.specs.declared.names.TheConstants.{ResourceTitleEnd}
use Rattle.mdinline_link_tails.specs.Resource.{in_marks, string_events, title_events, title_string}
use Rattle.mdinline_link_tails.specs.ResourceRows.{begins_title, ends_line, reads_on, title_begin_rows, title_end_rows}
use Rattle.mdinline_link_tails.proofs.Resources.Gaps.{in_resource_only, stop_kept}
use Rattle.mdinline_link_tails.proofs.Resources.Lines.{feed-first}
use Rattle.mdinline_link_tails.proofs.Resources.Marks.{marks-spelled, unmarked-is, up-to}
use Rattle.mdinline_link_tails.proofs.Resources.Steps.{PlaysResources, Does, yes, no, here, seen, enters_at, exits_at, exits_past, Finds, stands, left, fails, fails-here, reads, stays}
use Rattle.mdinline_link_tails.proofs.Resources.Titles.{IsPassed, Place, inside, inside_look, is_hidden, escape, in_line, in_string, mark_kept, name_of, reads-title, title-ends, title-goes, title-nests, title_from, title_inside}
use Rattle.mdinline_link_tails.proofs.Resources.Touched.{touched, touched-call}

-- what states share, with the number of what follows white space, or with the mark of a title
abbrev pub with_stop : ℕ → Local Unit Unit → Local Unit Unit
with_stop n local = record local { tokenize_state = record local.tokenize_state { marker_b = n } }

abbrev pub with_mark : ℕ → Local Unit Unit → Local Unit Unit
with_mark n local = record local { tokenize_state = record local.tokenize_state { marker = n } }

-- the spans that are open in a title
abbrev pub in_title : List EventName
in_title = Resource ∷ ResourceTitle ∷ []

module _ (g : Given) (text : Text) (m : Plays g text) (r : PlaysResources g text m) (cs : List Choice) (p far : ℕ) (events : List Event) (seats : List Seat)
    (q : ℕ) (x : List Event) (y : Seat) (ys : List Seat) (at : drop q text.seats ≡ y ∷ ys) where
  -- its first events
  abbrev pub title_opened : List Event
  title_opened = event g.bytes Enter ResourceTitle y.point ∷ leaf g.bytes ResourceTitleMarker (y ∷ [])

  -- with its last mark it is whole
  title-spelled : (i : ℕ) (z : Seat) (zs : List Seat) → drop i ys ≡ z ∷ zs
      → title_events g.bytes (take (i + 2) (y ∷ ys)) ≡ title_opened ++ (title_string g.bytes (take i ys) ++ (leaf g.bytes ResourceTitleMarker (z ∷ []) ++ event g.bytes Exit ResourceTitle z.end ∷ []))
  title-spelled i z zs there =
      let inner = take i ys in
      let mark = leaf g.bytes ResourceTitleMarker (z ∷ []) in
      let end = event g.bytes Exit ResourceTitle z.end ∷ [] in
      let first = leaf g.bytes ResourceTitleMarker (y ∷ []) in
      let string = title_string g.bytes inner in
      ap (title_events g.bytes) (up-to i y ys z zs there)
      ∙ ap (λ l. in_marks g.bytes ResourceTitle ResourceTitleMarker (title_string g.bytes l) (y ∷ (inner ++ z ∷ []))) (unmarked-is g.bytes y inner z)
      ∙ marks-spelled g.bytes ResourceTitle ResourceTitleMarker string y inner z
      ∙ ap (λ e. event g.bytes Enter ResourceTitle y.point ∷ e) (append_assoc first (string ++ mark) end ∙ ap (λ e. first ++ e) (append_assoc string mark end))

  -- its last mark is read, and white space may follow
  title-closed : (i q' : ℕ) (local : Local Unit Unit) (z : Seat) (zs : List Seat) (o : Option Found) → q' ≡ q + 1 + i → drop q' text.seats ≡ z ∷ zs
      → ((after : Local Unit Unit) → stop_kept after ≡ 2 → Finds g text m cs p far events seats (4 * length zs + 3) (left g text m cs p far events seats zs in_resource_only (q' + 1) (x ++ title_events g.bytes (take (i + 2) (y ∷ ys))) after) LabelEndResourceBefore o)
      → Finds g text m cs p far events seats (4 * length (z ∷ zs) + 1) (stands g text m cs p far events seats in_title q' (x ++ (title_opened ++ title_string g.bytes (take i ys))) local) ResourceTitleEnd o
  title-closed i q' local z zs o is there next =
      let w = x ++ (title_opened ++ title_string g.bytes (take i ys)) in
      let whole = events ++ w in
      let string = title_string g.bytes (take i ys) in
      let enters = enters_at g text ResourceTitleMarker q' ∷ [] in
      let exits = exits_past g text ResourceTitleMarker q' ∷ [] in
      let ended = exits_past g text ResourceTitle q' ∷ [] in
      let tail = leaf g.bytes ResourceTitleMarker (z ∷ []) ++ event g.bytes Exit ResourceTitle z.end ∷ [] in
      let after = with_stop 2 (counts local) in
      let inner_at : drop i ys ≡ z ∷ zs = ap (drop i) (sym (drop-next text.seats q y ys at)) ∙ drop-drop i (q + 1) text.seats ∙ ap (λ n. drop n text.seats) (sym is) ∙ there in
      let made : ((whole ++ enters) ++ exits) ++ ended ≡ events ++ (x ++ title_events g.bytes (take (i + 2) (y ∷ ys))) =
      append_assoc (whole ++ enters) exits ended ∙ append_assoc whole enters (exits ++ ended)
      ∙ ap (λ o. whole ++ event g.bytes Enter ResourceTitleMarker (point_or text.end o) ∷ event g.bytes Exit ResourceTitleMarker (end_or text.end o) ∷ event g.bytes Exit ResourceTitle (end_or text.end o) ∷ []) (at-front text.seats q' z zs there)
      ∙ append_assoc events w tail ∙ ap (λ e. events ++ e) (append_assoc x (title_opened ++ string) tail ∙ ap (λ e. x ++ e) (append_assoc title_opened string tail ∙ sym (title-spelled i z zs inner_at))) in
      reads g text m cs p far events seats (4 * length zs + 3) (4 * length (z ∷ zs) + 1) in_title in_resource_only q' w (x ++ title_events g.bytes (take (i + 2) (y ∷ ys))) local after ResourceTitleEnd LabelEndResourceBefore z zs title_end_rows o
      (((whole ++ enters) ++ exits) ++ ended) there (omega arith) (touched local after refl refl) (here g text m title_end_rows ResourceTitleEnd in_title q' whole local z zs there r.title_end) made (λ e i. i) (next after refl)

  -- behind its first mark
  title-begins : (mark : ℕ) (f : ℕ → Option Found) (local : Local Unit Unit) (v : Seat) (vs : List Seat) → ys ≡ v ∷ vs → drop (q + 1) text.seats ≡ v ∷ vs → mark_kept local ≡ mark
      → (title_inside mark false false (bytes_of (v ∷ vs)) ≡ None → q + 1 + inside_look mark false false (bytes_of (v ∷ vs)) ≤ far)
      → ((i q' : ℕ) (z : Seat) (zs : List Seat) (after : Local Unit Unit) → q' ≡ q + 1 + i → drop q' text.seats ≡ z ∷ zs → stop_kept after ≡ 2 → title_inside mark false false (bytes_of (v ∷ vs)) ≡ Some i
      → Finds g text m cs p far events seats (4 * length zs + 3) (left g text m cs p far events seats zs in_resource_only (q' + 1) (x ++ title_events g.bytes (take (i + 2) (y ∷ ys))) after) LabelEndResourceBefore (f i))
      → Finds g text m cs p far events seats (4 * length (v ∷ vs) + 2) (stands g text m cs p far events seats in_title (q + 1) (x ++ title_opened) local) TitleBegin (option_and_then f (title_inside mark false false (bytes_of (v ∷ vs))))
  title-begins mark f local v vs same there kept short next =
      let q1 = q + 1 in
      let b = v.byte in
      let bs = bytes_of vs in
      let x1 = x ++ title_opened in
      let k = stands g text m cs p far events seats in_title q1 x1 local in
      let calls = 4 * length (v ∷ vs) + 2 in
      let total = title_inside mark false false (bytes_of (v ∷ vs)) in
      let Now = Finds g text m cs p far events seats calls k TitleBegin (option_and_then f total) in
      let has = here g text m title_begin_rows TitleBegin in_title q1 (events ++ x1) local v vs there r.title_begin in
      let string_enter = event g.bytes Enter ResourceTitleString v.point in
      let xs = x ++ (title_opened ++ string_enter ∷ []) in
      let entered : (events ++ x1) ++ enters_at g text ResourceTitleString q1 ∷ [] ≡ events ++ xs =
      ap (λ o. (events ++ x1) ++ event g.bytes Enter ResourceTitleString (point_or text.end o) ∷ []) (at-front text.seats q1 v vs there)
      ∙ append_assoc events x1 (string_enter ∷ []) ∙ ap (λ e. events ++ e) (append_assoc x title_opened (string_enter ∷ [])) in
      let ends = λ (i q' : ℕ) (z : Seat) (zs : List Seat) (after : Local Unit Unit) (some : 1 ≤ i) (is : q' ≡ q1 + i) (z_at : drop q' text.seats ≡ z ∷ zs) (size_is : total ≡ Some i).
      let inner_at : drop i ys ≡ z ∷ zs = ap (drop i) (same ∙ sym there) ∙ drop-drop i q1 text.seats ∙ ap (λ n. drop n text.seats) (sym is) ∙ z_at in
      let string = string_events g.bytes (take i (v ∷ vs)) in
      let within : i ≤ suc (length vs) = omega (arith, begins-inside i (v ∷ vs) z zs (ap (drop i) (sym same) ∙ inner_at)) in
      let spelled : string_enter ∷ (string ++ exits_at g text ResourceTitleString q' ∷ []) ≡ title_string g.bytes (take i (v ∷ vs)) =
      (λ j. event g.bytes Enter ResourceTitleString (point_or text.end (sym (at-front text.seats q1 v vs there) j)) ∷ (string ++ exits_at g text ResourceTitleString (is j) ∷ []))
      ∙ span-read text g.bytes ResourceTitleString string i q1 v vs there some within in
      let made : xs ++ (string ++ exits_at g text ResourceTitleString q' ∷ []) ≡ x ++ (title_opened ++ title_string g.bytes (take i ys)) =
      append_assoc x (title_opened ++ string_enter ∷ []) (string ++ exits_at g text ResourceTitleString q' ∷ [])
      ∙ ap (λ e. x ++ e) (append_assoc title_opened (string_enter ∷ []) (string ++ exits_at g text ResourceTitleString q' ∷ []) ∙ ap (λ e. title_opened ++ e) (spelled ∙ ap (λ l. title_string g.bytes (take i l)) (sym same))) in
      subst (λ e. Finds g text m cs p far events seats (4 * length (z ∷ zs) + 1) (stands g text m cs p far events seats in_title q' e after) ResourceTitleEnd (f i)) (sym made)
      (title-closed i q' after z zs (f i) is z_at (λ a kept2. next i q' z zs a is z_at kept2 size_is)) in
      let whole = λ (l : Option ℕ) (goes : total ≡ one_more l). sym (behind-none total) ∙ ap (behind 0) goes ∙ behind-more 0 l in
      let onward = λ (l : Option ℕ) (goes : total ≡ one_more l). sym (ap (option_and_then f) (whole l goes)) in
      elim (b == mark) as (λ t. (b == mark) ≡ t → Now) [
        | true ↦ λ e.
            let none : x1 ≡ x ++ (title_opened ++ []) = ap (λ e. x ++ e) (sym (append-nil title_opened)) in
            subst (λ o. Finds g text m cs p far events seats calls k TitleBegin (option_and_then f o)) (sym (title-ends mark false b bs e))
            (stays g text m cs p far events seats (4 * length (v ∷ vs) + 1) calls in_title in_title q1 x1 (x ++ (title_opened ++ [])) local (counts local) TitleBegin ResourceTitleEnd (row [] (Retry ResourceTitleEnd)) (f 0) (events ++ x1)
            (omega arith) (touched-call local) (yes g text m k TitleBegin has (seen g text m (λ c. c == mark_kept local) true q1 v vs there (ap (λ n. b == n) kept ∙ e))) (ap (λ e. events ++ e) none) (λ e i. i)
            (title-closed 0 q1 (counts local) v vs (f 0) (omega arith) there (λ a kept2. next 0 q1 v vs a (omega arith) there kept2 (title-ends mark false b bs e))))
        | false ↦ λ e.
            let has1 = no g text m k TitleBegin has (seen g text m (λ c. c == mark_kept local) false q1 v vs there (ap (λ n. b == n) kept ∙ e)) in
            elim ((b == 40) && (mark == 41)) as (λ t. ((b == 40) && (mark == 41)) ≡ t → Now) [
              | true ↦ λ n.
                  subst (λ o. Finds g text m cs p far events seats calls k TitleBegin (option_and_then f o)) (sym (title-nests mark false b bs e n))
                  (fails-here g text m cs p far events seats calls in_title q1 x1 local TitleBegin v vs there (omega arith) (omega (arith, short (title-nests mark false b bs e n)))
                  (yes g text m k TitleBegin has1 (seen g text m (λ c. (c == 40) && (mark_kept local == 41)) true q1 v vs there (ap (λ w. (b == 40) && (w == 41)) kept ∙ n))))
              | false ↦ λ n.
                  let has2 = no g text m k TitleBegin has1 (seen g text m (λ c. (c == 40) && (mark_kept local == 41)) false q1 v vs there (ap (λ w. (b == 40) && (w == 41)) kept ∙ n)) in
                  let next_at = drop-next text.seats q1 v vs there in
                  elim (b == 10) as (λ t. (b == 10) ≡ t → Now) [
                    | true ↦ λ feed.
                        let line = leaf g.bytes LineEnding (v ∷ []) in
                        let es = (((events ++ x1) ++ enters_at g text ResourceTitleString q1 ∷ []) ++ enters_at g text LineEnding q1 ∷ []) ++ exits_past g text LineEnding q1 ∷ [] in
                        let made : es ≡ events ++ (xs ++ line) =
                        append_assoc ((events ++ x1) ++ enters_at g text ResourceTitleString q1 ∷ []) (enters_at g text LineEnding q1 ∷ []) (exits_past g text LineEnding q1 ∷ [])
                        ∙ ap (λ o. ((events ++ x1) ++ enters_at g text ResourceTitleString q1 ∷ []) ++ event g.bytes Enter LineEnding (point_or text.end o) ∷ event g.bytes Exit LineEnding (end_or text.end o) ∷ []) (at-front text.seats q1 v vs there)
                        ∙ ap (λ e. e ++ line) entered ∙ append_assoc events xs line in
                        let goes = title-goes mark false b bs true false e n refl (ap (λ t. t || false) feed) (unlike (λ c. c == 10) 92 refl b feed) in
                        subst (Finds g text m cs p far events seats calls k TitleBegin) (onward (title_inside mark true false bs) goes.0)
                        (reads g text m cs p far events seats (4 * length vs + 2) calls in_title in_string q1 x1 (xs ++ line) local (counts local) TitleBegin TitleAfterEol v vs (ends_line (enter ResourceTitleString ∷ []) TitleAfterEol)
                        (option_and_then f (behind (0 + 1) (title_inside mark true false bs))) es there (omega arith) (touched-call local) (yes g text m k TitleBegin has2 (seen g text m (λ c. c == 10) true q1 v vs there feed)) made (λ e i. i)
                        ((reads-title g text m r cs p far events seats q1 (v ∷ vs) mark xs f total ends vs).1.1 line (0 + 1) (q1 + 1) (counts local) (omega arith) (omega arith) next_at refl kept
                        (record { made = λ l. feed-first g.bytes v l feed }) (λ none. omega (arith, short (goes.0 ∙ ap one_more none), goes.1)) (whole (title_inside mark true false bs) goes.0)))
                    | false ↦ λ plain.
                        let has3 = no g text m k TitleBegin has2 (seen g text m (λ c. c == 10) false q1 v vs there plain) in
                        let begins = event g.bytes Enter Data v.point in
                        let es = ((events ++ x1) ++ enters_at g text ResourceTitleString q1 ∷ []) ++ enters_at g text Data q1 ∷ [] in
                        let made : es ≡ events ++ (xs ++ ([] ++ begins ∷ [])) =
                        ap (λ o. ((events ++ x1) ++ enters_at g text ResourceTitleString q1 ∷ []) ++ event g.bytes Enter Data (point_or text.end o) ∷ []) (at-front text.seats q1 v vs there)
                        ∙ ap (λ e. e ++ begins ∷ []) entered ∙ append_assoc events xs (begins ∷ []) in
                        let into = λ (a : Place) (goes : IsPassed mark false false b bs false (is_hidden a)) (does : Does g text m k TitleBegin (reads_on (enter ResourceTitleString ∷ enter Data ∷ []) (name_of a))).
                        subst (Finds g text m cs p far events seats calls k TitleBegin) (onward (title_from mark a bs) goes.0)
                        (reads g text m cs p far events seats (4 * length vs + 2) calls in_title in_line q1 x1 (xs ++ ([] ++ begins ∷ [])) local (counts local) TitleBegin (name_of a) v vs (reads_on (enter ResourceTitleString ∷ enter Data ∷ []) (name_of a))
                        (option_and_then f (behind (0 + 1) (title_from mark a bs))) es there (omega arith) (touched-call local) does made (λ e i. i)
                        ((reads-title g text m r cs p far events seats q1 (v ∷ vs) mark xs f total ends vs).0 a [] v [] (0 + 1) (q1 + 1) (counts local) (omega arith) (omega arith) next_at refl kept (ap not plain, tt)
                        (place-behind text q1 v (at-front text.seats q1 v vs there)) (record { made = λ l. refl }) (λ none. omega (arith, short (goes.0 ∙ ap one_more none), goes.1)) (whole (title_from mark a bs) goes.0))) in
                        elim (b == 92) as (λ t. (b == 92) ≡ t → Now) [
                          | true ↦ λ w. into escape (title-goes mark false b bs false true e n refl (ap (λ t. t || false) plain) w) (yes g text m k TitleBegin has3 (seen g text m (λ c. c == 92) true q1 v vs there w))
                          | false ↦ λ w. into inside (title-goes mark false b bs false false e n refl (ap (λ t. t || false) plain) w) (no g text m k TitleBegin has3 (seen g text m (λ c. c == 92) false q1 v vs there w))
                        ] refl
                  ] refl
            ] refl
      ] refl

  -- So a title that a mark closes is read
  pub reads-whole-title : (mark : ℕ) (f : ℕ → Option Found) (local : Local Unit Unit) → Does g text m (stands g text m cs p far events seats in_resource_only q x local) TitleStart (begins_title mark)
      → (title_inside mark false false (bytes_of ys) ≡ None → q + 1 + inside_look mark false false (bytes_of ys) ≤ far)
      → ((i q' : ℕ) (z : Seat) (zs : List Seat) (after : Local Unit Unit) → q' ≡ q + 1 + i → drop q' text.seats ≡ z ∷ zs → stop_kept after ≡ 2 → title_inside mark false false (bytes_of ys) ≡ Some i
      → Finds g text m cs p far events seats (4 * length zs + 3) (left g text m cs p far events seats zs in_resource_only (q' + 1) (x ++ title_events g.bytes (take (i + 2) (y ∷ ys))) after) LabelEndResourceBefore (f i))
      → Finds g text m cs p far events seats (4 * length (y ∷ ys) + 2) (stands g text m cs p far events seats in_resource_only q x local) TitleStart (option_and_then f (title_inside mark false false (bytes_of ys)))
  reads-whole-title mark f local begins short next =
      let o = option_and_then f (title_inside mark false false (bytes_of ys)) in
      let q1 = q + 1 in
      let at1 = drop-next text.seats q y ys at in
      let after = with_mark mark (counts local) in
      let enters = enters_at g text ResourceTitle q ∷ [] in
      let marks = enters_at g text ResourceTitleMarker q ∷ [] in
      let exits = exits_past g text ResourceTitleMarker q ∷ [] in
      let x1 = x ++ title_opened in
      let made : (((events ++ x) ++ enters) ++ marks) ++ exits ≡ events ++ x1 =
      append_assoc ((events ++ x) ++ enters) marks exits ∙ append_assoc (events ++ x) enters (marks ++ exits)
      ∙ ap (λ o. (events ++ x) ++ event g.bytes Enter ResourceTitle (point_or text.end o) ∷ event g.bytes Enter ResourceTitleMarker (point_or text.end o) ∷ event g.bytes Exit ResourceTitleMarker (end_or text.end o) ∷ []) (at-front text.seats q y ys at)
      ∙ append_assoc events x title_opened in
      reads g text m cs p far events seats (4 * length ys + 2) (4 * length (y ∷ ys) + 2) in_resource_only in_title q x x1 local after TitleStart TitleBegin y ys (begins_title mark) o ((((events ++ x) ++ enters) ++ marks) ++ exits)
      at (omega arith) (touched local after refl refl) begins made (λ e i. i)
      (elim ys as (λ l. ys ≡ l → drop q1 text.seats ≡ l → (title_inside mark false false (bytes_of l) ≡ None → q1 + inside_look mark false false (bytes_of l) ≤ far) → Finds g text m cs p far events seats (4 * length l + 2) (left g text m cs p far events seats l in_title q1 x1 after) TitleBegin (option_and_then f (title_inside mark false false (bytes_of l)))) [
        | [] ↦ λ same there reach. fails g text m cs p far events seats (4 * 0 + 2) [] in_title q1 x1 after TitleBegin there (omega arith) (omega (arith, reach refl)) (r.title_begin _)
        | v ∷ vs ↦ λ same there reach.
            title-begins mark f after v vs same there refl reach
            (λ i q' z zs a is z_at kept size_is. next i q' z zs a is z_at kept (ap (λ l. title_inside mark false false (bytes_of l)) same ∙ size_is))
      ] refl at1 short)
