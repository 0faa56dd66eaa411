-- How a whole label is read, with its brackets.
use Rattle.mdinline_full_references.proofs.Prelude.{◌≡◌, ℕ, suc, ◌+◌, ◌*◌, ◌≤◌, ◌==◌, ◌&&◌, ◌||◌, not, nat_le, List, [], ◌∷◌, ◌++◌, Bool, true, false, cond, Option, Some, None, refl, sym, ap, ◌∙◌, subst, arith, take, drop, length, length-drop, option_and_then, drop-next, drop-drop, append_assoc, place-behind, take-map, take_at, Event, Enter, Exit, Data, LineEnding, Reference, ReferenceMarker, ReferenceString, Ok, Nok, LabelEolAfter, LabelStart, LabelEndReferenceFullEnd, Seat, Sight, sight, Given, Text, Byte, Nothing, Choice, Configuration, Local, at-front, held, end_or, point_or, counts, EndsWith, Plays, leads-row, Found, bytes_of, leaf, row, write, enter, exit, consume, behind-more, behind-none, feed-first}
use Rattle.std.specs.Prelude.{◌<◌}
use Rattle.markdown_base.proofs.Facts.Numbers.{unlike}
use Rattle.markdown_base.proofs.Facts.Lists.{begins-inside}
use Rattle.mdconstructs_machines.specs.Spans.{event}
use Rattle.mdinline_text_machine.proofs.Plain.Stretches.{span-read}
use Rattle.mdinline_labels.specs.Labels.{characters, is_bracket, is_filled, is_label}
use Rattle.mdinline_labels.specs.Tails.{behind, label_size, one_more}
use Rattle.mdinline_link_tails.specs.Resource.{in_marks, string_events}
use Rattle.mdinline_link_tails.proofs.Resources.Marks.{marks-spelled, unmarked-is, up-to}
use Rattle.mdinline_link_tails.proofs.Resources.Steps.{Does, yes, no, here, seen, enters_at, exits_at, exits_past}
use Rattle.mdinline_link_tails.proofs.Resources.Titles.{Place, inside, escape, is_hidden}
use Rattle.mdinline_link_tails.proofs.Resources.Touched.{touched-call}
use Rattle.mdinline_full_references.specs.FullReference.{full_reference, label_string}
use Rattle.mdinline_full_references.specs.FullReferenceLooks.{label_look}
use Rattle.mdinline_full_references.specs.FullReferenceRows.{ends_line, label_end_rows, label_noted, label_start_rows, reads_on}
use Rattle.mdinline_full_references.proofs.FullReferences.Counts.{label-is, read-is}
use Rattle.mdinline_full_references.proofs.FullReferences.Labels.{IsPassed, in_label, in_line, in_string, inside_look, label-ends, label-goes, label-opens, label_from, name_of, reads-label}
use Rattle.mdinline_full_references.proofs.FullReferences.Steps.{Finds, IsCounted, PlaysReferences, counted-read, fails-here, left, fails, reads, stands, touched-read, with_read}

-- The test of a machine says whether a label is wanted, behind the events of its string. It may depend on the place where the label begins
pub record Tells (g : Given) (text : Text) (wanted : Given → Sight → Configuration Unit Unit → Bool) (is_wanted : ℕ → List ℕ → Bool) : Type 0 where
  pub says : (before : List Event) (q i : ℕ) (local : Local Unit Unit) (l : List Seat) → drop q text.seats ≡ l → 1 ≤ i → i < length l
      → let k = held (Reference ∷ []) (q + i) Byte false (before ++ label_string g.bytes (take i l)) local in wanted g (sight g text k) k ≡ is_wanted q (bytes_of (take i l))

-- What is found behind a `[`, if so many bytes are there up to a `]`: maybe a label, and if it is wanted, a reference
abbrev pub found_of : (is_wanted : List ℕ → Bool) → (behind : List ℕ) → (size : ℕ) → Option (Option Found)
found_of is_wanted behind n = cond (is_label (take n behind)) (Some (cond (is_wanted (take n behind)) (Some (full_reference n)) None)) None

-- what states share, with a note of whether a label is there
abbrev pub with_noted : ℕ → Local Unit Unit → Local Unit Unit
with_noted n local = record local { tokenize_state = record local.tokenize_state { marker_b = n } }

-- a bracket at the front is the `]`, or not
bracket-is : (b : ℕ) → is_bracket b ≡ true → (b == 93) ≡ false → (b == 91) ≡ true
bracket-is b h other = elim (b == 91) as (λ t. (t || (b == 93)) ≡ true → t ≡ true) [ true ↦ λ e. refl | false ↦ λ e. absurd (let none : false ≡ true = sym other ∙ e in cc) ] h

no-bracket : (b : ℕ) → is_bracket b ≡ false → ((b == 91) ≡ false) × ((b == 93) ≡ false)
no-bracket b h = elim (b == 91) as (λ t. (t || (b == 93)) ≡ false → (t ≡ false) × ((b == 93) ≡ false)) [ true ↦ λ e. absurd (cc) | false ↦ λ e. (refl, e) ] h

-- nothing between brackets is no label
none-is : (is_wanted : List ℕ → Bool) (behind : List ℕ) → found_of is_wanted behind 0 ≡ None
none-is is_wanted [] = refl
none-is is_wanted (b ∷ bs) = refl

module _ (g : Given) (text : Text) (m : Plays g text) (wanted : Given → Sight → Configuration Unit Unit → Bool) (r : PlaysReferences g text m wanted) (is_wanted : ℕ → List ℕ → Bool) (told : Tells g text wanted is_wanted)
    (cs : List Choice) (p far : ℕ) (events : List Event) (s : Seat) (ss : List Seat) (at : drop p text.seats ≡ s ∷ ss) where
  -- the events of its first bracket
  abbrev pub opened : List Event
  opened = event g.bytes Enter Reference s.point ∷ leaf g.bytes ReferenceMarker (s ∷ [])

  -- with its last bracket it is whole
  spelled : (i : ℕ) (z : Seat) (zs : List Seat) → drop i ss ≡ z ∷ zs
      → (full_reference i).events g.bytes (take (i + 2) (s ∷ ss)) ≡ opened ++ (label_string g.bytes (take i ss) ++ (leaf g.bytes ReferenceMarker (z ∷ []) ++ event g.bytes Exit Reference z.end ∷ []))
  spelled i z zs there =
      let inner = take i ss in
      let mark = leaf g.bytes ReferenceMarker (z ∷ []) in
      let end = event g.bytes Exit Reference z.end ∷ [] in
      let first = leaf g.bytes ReferenceMarker (s ∷ []) in
      let string = label_string g.bytes inner in
      ap ((full_reference i).events g.bytes) (up-to i s ss z zs there)
      ∙ ap (λ l. in_marks g.bytes Reference ReferenceMarker (label_string g.bytes l) (s ∷ (inner ++ z ∷ []))) (unmarked-is g.bytes s inner z)
      ∙ marks-spelled g.bytes Reference ReferenceMarker string s inner z
      ∙ ap (λ e. event g.bytes Enter Reference s.point ∷ e) (append_assoc first (string ++ mark) end ∙ ap (λ e. first ++ e) (append_assoc string mark end))

  -- at its last bracket it shows whether it is a label, and one that is wanted
  label-closed : (i q : ℕ) (local : Local Unit Unit) (z : Seat) (zs : List Seat) → 1 ≤ i → q ≡ p + 1 + i → drop q text.seats ≡ z ∷ zs → label_size (bytes_of ss) ≡ Some i → IsCounted local (bytes_of (take i ss)) → q ≤ far
      → Finds g text m cs p far events (s ∷ ss) (2 * length (z ∷ zs) + 1) (stands g text m cs p far events (s ∷ ss) (Reference ∷ []) q (opened ++ label_string g.bytes (take i ss)) local) LabelEndReferenceFullEnd
      (found_of (is_wanted (p + 1)) (bytes_of ss) i)
  label-closed i q local z zs some is there size_is counted within =
      let label = take i (bytes_of ss) in
      let w = opened ++ label_string g.bytes (take i ss) in
      let whole = events ++ w in
      let k = stands g text m cs p far events (s ∷ ss) (Reference ∷ []) q w local in
      let calls = 2 * length (z ∷ zs) + 1 in
      let Now = Finds g text m cs p far events (s ∷ ss) calls k LabelEndReferenceFullEnd in
      let after = counts local in
      let inner_at : drop i ss ≡ z ∷ zs = ap (drop i) (sym (drop-next text.seats p s ss at)) ∙ drop-drop i (p + 1) text.seats ∙ ap (λ n. drop n text.seats) (sym is) ∙ there in
      let bytes_are : label ≡ bytes_of (take i ss) = take-map (λ (y : Seat). y.byte) i ss in
      let has = here g text m (label_end_rows wanted) LabelEndReferenceFullEnd (Reference ∷ []) q whole local z zs there r.ending in
      let read : (nat_le local.tokenize_state.size_b 999 && (local.tokenize_state.marker == 1)) ≡ is_label label =
      (λ j. nat_le (counted.count j) 999 && (counted.full j == 1)) ∙ read-is (characters (bytes_of (take i ss))) (is_filled (bytes_of (take i ss)))
      ∙ ap (λ bs. nat_le (characters bs) 999 && is_filled bs) (sym bytes_are) ∙ sym (label-is (bytes_of ss) i size_is) in
      let said : wanted g (sight g text (held (Reference ∷ []) q Byte false whole after)) (held (Reference ∷ []) q Byte false whole after) ≡ is_wanted (p + 1) label =
      (λ j. let k' = held (Reference ∷ []) (is j) Byte false (sym (append_assoc events opened (label_string g.bytes (take i ss))) j) after in wanted g (sight g text k') k')
      ∙ told.says (events ++ opened) (p + 1) i after ss (drop-next text.seats p s ss at) some (omega (arith, length-drop i ss, ap length inner_at)) ∙ ap (is_wanted (p + 1)) (sym bytes_are) in
      let left_is = length-drop (i + 2) (s ∷ ss) in
      let left_here = length-drop i ss in
      let left_all = ap length inner_at in
      elim (is_label label) as (λ t. is_label label ≡ t → Now (cond t (Some (cond (is_wanted (p + 1) label) (Some (full_reference i)) None)) None)) [
        | false ↦ λ e.
            fails-here g text m cs p far events (s ∷ ss) calls (Reference ∷ []) q w local LabelEndReferenceFullEnd z zs there (omega arith) within counted.none (no g text m k LabelEndReferenceFullEnd has (read ∙ e))
        | true ↦ λ e.
            let has1 = yes g text m k LabelEndReferenceFullEnd has (read ∙ e) in
            elim (is_wanted (p + 1) label) as (λ t. is_wanted (p + 1) label ≡ t → Now (Some (cond t (Some (full_reference i)) None))) [
              | true ↦ λ t.
                  let does = yes g text m k LabelEndReferenceFullEnd has1 (said ∙ t) in
                  let enters = enters_at g text ReferenceMarker q ∷ [] in
                  let exits = exits_past g text ReferenceMarker q ∷ [] in
                  let ended = exits_past g text Reference q ∷ [] in
                  let tail = leaf g.bytes ReferenceMarker (z ∷ []) ++ event g.bytes Exit Reference z.end ∷ [] in
                  let place : q + 1 ≡ p + (i + 2) = omega (arith, is) in
                  let made : ((whole ++ enters) ++ exits) ++ ended ≡ events ++ (full_reference i).events g.bytes (take (i + 2) (s ∷ ss)) =
                  append_assoc (whole ++ enters) exits ended ∙ append_assoc whole enters (exits ++ ended)
                  ∙ ap (λ o. whole ++ event g.bytes Enter ReferenceMarker (point_or text.end o) ∷ event g.bytes Exit ReferenceMarker (end_or text.end o) ∷ event g.bytes Exit Reference (end_or text.end o) ∷ []) (at-front text.seats q z zs there)
                  ∙ append_assoc events w tail ∙ ap (λ e. events ++ e) (append_assoc opened (label_string g.bytes (take i ss)) tail ∙ sym (spelled i z zs inner_at)) in (
                    after,
                    record { calls = (let once = touched-call local in omega (arith, once.calls, left_is, left_here, left_all)); same = refl },
                    λ e h.
                        leads-row g text m (row (enter ReferenceMarker ∷ consume ∷ exit ReferenceMarker ∷ exit Reference ∷ []) Ok) k cs LabelEndReferenceFullEnd e does.row_is
                        (subst (λ n. EndsWith g text m (held [] n Nothing false (((whole ++ enters) ++ exits) ++ ended) after) cs Ok e) (sym place)
                        (subst (λ es. EndsWith g text m (held [] (p + (i + 2)) Nothing false es after) cs Ok e) (sym made) h)),
                  )
              | false ↦ λ t.
                  let does = no g text m k LabelEndReferenceFullEnd has1 (said ∙ t) in
                  let noted = with_noted 1 after in (
                    held (Reference ∷ []) q Byte false whole noted,
                    record { calls = (let once = touched-call local in omega (arith, once.calls, within, length-drop q text.seats, ap length there)); same = refl },
                    take_at events w (length events) refl,
                    refl,
                    λ e h. leads-row g text m (row (write (label_noted 1) ∷ []) Nok) k cs LabelEndReferenceFullEnd e does.row_is h,
                  )
            ] refl
      ] refl

  -- Behind its first bracket
  pub reads-whole-label : (local : Local Unit Unit) → IsCounted local [] → (l : List Seat) → ss ≡ l
      → (label_size (bytes_of ss) ≡ None → p + 1 + label_look (bytes_of ss) ≤ far) → ((i : ℕ) → label_size (bytes_of ss) ≡ Some i → p + 1 + i ≤ far)
      → Finds g text m cs p far events (s ∷ ss) (2 * length l + 2) (left g text m cs p far events (s ∷ ss) l (Reference ∷ []) (p + 1) opened local) LabelStart
      (option_and_then (found_of (is_wanted (p + 1)) (bytes_of ss)) (label_size (bytes_of l)))
  reads-whole-label local counted [] same short sized =
      fails g text m cs p far events (s ∷ ss) (2 * 0 + 2) [] (Reference ∷ []) (p + 1) opened local LabelStart (drop-next text.seats p s ss at ∙ same) (omega arith)
      (omega (arith, short (ap (λ l. label_size (bytes_of l)) same))) counted.none (r.begins _)
  reads-whole-label local counted (v ∷ vs) same short sized =
      let q1 = p + 1 in
      let b = v.byte in
      let bs = bytes_of vs in
      let there : drop q1 text.seats ≡ v ∷ vs = drop-next text.seats p s ss at ∙ same in
      let k = stands g text m cs p far events (s ∷ ss) (Reference ∷ []) q1 opened local in
      let calls = 2 * length (v ∷ vs) + 2 in
      let f = found_of (is_wanted (p + 1)) (bytes_of ss) in
      let total = label_size (bytes_of (v ∷ vs)) in
      let total_is : label_size (bytes_of ss) ≡ total = ap (λ l. label_size (bytes_of l)) same in
      let look_is : label_look (bytes_of ss) ≡ label_look (bytes_of (v ∷ vs)) = ap (λ l. label_look (bytes_of l)) same in
      let Now = Finds g text m cs p far events (s ∷ ss) calls k LabelStart (option_and_then f total) in
      let has = here g text m label_start_rows LabelStart (Reference ∷ []) q1 (events ++ opened) local v vs there r.begins in
      let string_enter = event g.bytes Enter ReferenceString v.point in
      let xs = opened ++ string_enter ∷ [] in
      let entered : (events ++ opened) ++ enters_at g text ReferenceString q1 ∷ [] ≡ events ++ xs =
      ap (λ o. (events ++ opened) ++ event g.bytes Enter ReferenceString (point_or text.end o) ∷ []) (at-front text.seats q1 v vs there)
      ∙ append_assoc events opened (string_enter ∷ []) in
      let ends = λ (i q : ℕ) (z : Seat) (zs : List Seat) (after : Local Unit Unit) (some : 1 ≤ i) (is : q ≡ q1 + i) (z_at : drop q text.seats ≡ z ∷ zs) (size_is : total ≡ Some i) (read : IsCounted after (bytes_of (take i (v ∷ vs)))).
      let inner_at : drop i ss ≡ z ∷ zs = ap (drop i) (same ∙ sym there) ∙ drop-drop i q1 text.seats ∙ ap (λ n. drop n text.seats) (sym is) ∙ z_at in
      let string = string_events g.bytes (take i (v ∷ vs)) in
      let within : i ≤ suc (length vs) = omega (arith, begins-inside i (v ∷ vs) z zs (ap (drop i) (sym same) ∙ inner_at)) in
      let spelled : string_enter ∷ (string ++ exits_at g text ReferenceString q ∷ []) ≡ label_string g.bytes (take i (v ∷ vs)) =
      (λ j. event g.bytes Enter ReferenceString (point_or text.end (sym (at-front text.seats q1 v vs there) j)) ∷ (string ++ exits_at g text ReferenceString (is j) ∷ []))
      ∙ span-read text g.bytes ReferenceString string i q1 v vs there some within in
      let made : xs ++ (string ++ exits_at g text ReferenceString q ∷ []) ≡ opened ++ label_string g.bytes (take i ss) =
      append_assoc opened (string_enter ∷ []) (string ++ exits_at g text ReferenceString q ∷ [])
      ∙ ap (λ e. opened ++ e) (spelled ∙ ap (λ l. label_string g.bytes (take i l)) (sym same)) in
      subst (λ e. Finds g text m cs p far events (s ∷ ss) (2 * length (z ∷ zs) + 1) (stands g text m cs p far events (s ∷ ss) (Reference ∷ []) q e after) LabelEndReferenceFullEnd (f i)) (sym made)
      (label-closed i q after z zs some is z_at (total_is ∙ size_is) (subst (λ l. IsCounted after (bytes_of (take i l))) (sym same) read) (let room = sized i (total_is ∙ size_is) in omega (arith, room, is))) in
      let whole = λ (l : Option ℕ) (goes : total ≡ one_more l). sym (behind-none total) ∙ ap (behind 0) goes ∙ behind-more 0 l in
      let onward = λ (l : Option ℕ) (goes : total ≡ one_more l). sym (ap (option_and_then f) (whole l goes)) in
      let reads_on_from = reads-label g text m wanted r cs p far events (s ∷ ss) q1 (v ∷ vs) xs f total ends vs in
      let next_at = drop-next text.seats q1 v vs there in
      let counted_it = counted-read text q1 0 local (v ∷ vs) v vs there refl counted in
      let reach = λ (n : ℕ) (look : label_look (bytes_of (v ∷ vs)) ≡ 1 + n) (none : total ≡ None). (let far_is = short (total_is ∙ none) in let room : q1 + 1 + n ≤ far = omega (arith, far_is, look_is, look) in room) in
      elim (is_bracket b) as (λ t. is_bracket b ≡ t → Now) [
        | true ↦ λ e.
            let does = yes g text m k LabelStart has (seen g text m is_bracket true q1 v vs there e) in
            elim (b == 93) as (λ t. (b == 93) ≡ t → Now) [
              | true ↦ λ ends_it.
                  let none = label-ends false b bs ends_it in
                  let room = sized 0 (total_is ∙ none) in
                  subst (λ o. Finds g text m cs p far events (s ∷ ss) calls k LabelStart o) (sym (ap (option_and_then f) none ∙ none-is (is_wanted (p + 1)) (bytes_of ss)))
                  (fails-here g text m cs p far events (s ∷ ss) calls (Reference ∷ []) q1 opened local LabelStart v vs there (omega arith) (omega (arith, room)) counted.none does)
              | false ↦ λ other.
                  let none = label-opens false b bs other (bracket-is b e other) in
                  let room = short (total_is ∙ none) in
                  subst (λ o. Finds g text m cs p far events (s ∷ ss) calls k LabelStart (option_and_then f o)) (sym none)
                  (fails-here g text m cs p far events (s ∷ ss) calls (Reference ∷ []) q1 opened local LabelStart v vs there (omega arith) (omega (arith, room)) counted.none does)
            ] refl
        | false ↦ λ e.
            let has1 = no g text m k LabelStart has (seen g text m is_bracket false q1 v vs there e) in
            let plain = no-bracket b e in
            elim (b == 10) as (λ t. (b == 10) ≡ t → Now) [
              | true ↦ λ feed.
                  let line = leaf g.bytes LineEnding (v ∷ []) in
                  let es = (((events ++ opened) ++ enters_at g text ReferenceString q1 ∷ []) ++ enters_at g text LineEnding q1 ∷ []) ++ exits_past g text LineEnding q1 ∷ [] in
                  let made : es ≡ events ++ (xs ++ line) =
                  append_assoc ((events ++ opened) ++ enters_at g text ReferenceString q1 ∷ []) (enters_at g text LineEnding q1 ∷ []) (exits_past g text LineEnding q1 ∷ [])
                  ∙ ap (λ o. ((events ++ opened) ++ enters_at g text ReferenceString q1 ∷ []) ++ event g.bytes Enter LineEnding (point_or text.end o) ∷ event g.bytes Exit LineEnding (end_or text.end o) ∷ []) (at-front text.seats q1 v vs there)
                  ∙ ap (λ e. e ++ line) entered ∙ append_assoc events xs line in
                  let goes = label-goes false b bs true false plain.1 plain.0 refl (ap (λ t. t || false) feed) (unlike (λ c. c == 10) 92 refl b feed) in
                  subst (Finds g text m cs p far events (s ∷ ss) calls k LabelStart) (onward (in_label true false bs) goes.0)
                  (reads g text m cs p far events (s ∷ ss) (2 * length vs + 2) calls (Reference ∷ []) in_string q1 opened (xs ++ line) local (with_read text q1 local) LabelStart LabelEolAfter v vs (ends_line (enter ReferenceString ∷ []))
                  (option_and_then f (behind (0 + 1) (in_label true false bs))) es there (omega arith) (touched-read text q1 local) (yes g text m k LabelStart has1 (seen g text m (λ c. c == 10) true q1 v vs there feed)) made (λ e i. i)
                  (reads_on_from.1.1 line (0 + 1) (q1 + 1) (with_read text q1 local) (omega arith) (omega arith) next_at refl counted_it
                  (record { made = λ l. feed-first g.bytes v l feed }) (λ none. reach (inside_look true false bs) goes.1 (goes.0 ∙ ap one_more none)) (whole (in_label true false bs) goes.0)))
              | false ↦ λ other.
                  let has2 = no g text m k LabelStart has1 (seen g text m (λ c. c == 10) false q1 v vs there other) in
                  let begins = event g.bytes Enter Data v.point in
                  let es = ((events ++ opened) ++ enters_at g text ReferenceString q1 ∷ []) ++ enters_at g text Data q1 ∷ [] in
                  let made : es ≡ events ++ (xs ++ ([] ++ begins ∷ [])) =
                  ap (λ o. ((events ++ opened) ++ enters_at g text ReferenceString q1 ∷ []) ++ event g.bytes Enter Data (point_or text.end o) ∷ []) (at-front text.seats q1 v vs there)
                  ∙ ap (λ e. e ++ begins ∷ []) entered ∙ append_assoc events xs (begins ∷ []) in
                  let into = λ (a : Place) (goes : IsPassed false false b bs false (is_hidden a)) (does : Does g text m k LabelStart (reads_on (enter ReferenceString ∷ enter Data ∷ []) (name_of a))).
                  subst (Finds g text m cs p far events (s ∷ ss) calls k LabelStart) (onward (label_from a bs) goes.0)
                  (reads g text m cs p far events (s ∷ ss) (2 * length vs + 2) calls (Reference ∷ []) in_line q1 opened (xs ++ ([] ++ begins ∷ [])) local (with_read text q1 local) LabelStart (name_of a) v vs
                  (reads_on (enter ReferenceString ∷ enter Data ∷ []) (name_of a)) (option_and_then f (behind (0 + 1) (label_from a bs))) es there (omega arith) (touched-read text q1 local) does made (λ e i. i)
                  (reads_on_from.0 a [] v [] (0 + 1) (q1 + 1) (with_read text q1 local) (omega arith) (omega arith) next_at refl counted_it (ap not other, tt)
                  (place-behind text q1 v (at-front text.seats q1 v vs there)) (record { made = λ l. refl }) (λ none. reach (inside_look false (is_hidden a) bs) goes.1 (goes.0 ∙ ap one_more none)) (whole (label_from a bs) goes.0))) in
                  elim (b == 92) as (λ t. (b == 92) ≡ t → Now) [
                    | true ↦ λ w. into escape (label-goes false b bs false true plain.1 plain.0 refl (ap (λ t. t || false) other) w) (yes g text m k LabelStart has2 (seen g text m (λ c. c == 92) true q1 v vs there w))
                    | false ↦ λ w. into inside (label-goes false b bs false false plain.1 plain.0 refl (ap (λ t. t || false) other) w) (no g text m k LabelStart has2 (seen g text m (λ c. c == 92) false q1 v vs there w))
                  ] refl
            ] refl
      ] refl
