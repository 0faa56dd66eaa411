-- How a label is read behind its first byte, up to its `]`.
use Rattle.markdown_base.proofs.Facts.Numbers.{unlike}
use Rattle.mdinline_full_references.proofs.Prelude.{◌≡◌, ℕ, ◌+◌, ◌*◌, ◌≤◌, ◌==◌, ◌&&◌, ◌||◌, not, List, [], ◌∷◌, ◌++◌, Bool, true, false, cond, Option, Some, None, refl, sym, ap, ◌∙◌, subst, arith, take, drop, length, option_and_then, drop-next, end-after-one, place-behind, append-nil, append_assoc, Event, Enter, EventName, Data, LineEnding, Reference, ReferenceString, SpaceOrTab, Name, Nok, LabelEolAfter, LabelEscape, LabelInside, LabelEndReferenceFullEnd, LabelLineWhite, Seat, end_after, end_place, Given, Text, Choice, Configuration, Local, Sight, at-front, counts, Plays, Found, bytes_of, leaf, row, enter, exit, behind-more, or-false, line-first, Ending, EndsWith, Next, Retry, Rows, held, Byte, Nothing}
use Rattle.mdconstructs_machines.specs.Spans.{event}
use Rattle.mdinline_labels.specs.Labels.{hides}
use Rattle.mdinline_labels.specs.Tails.{bare_behind, behind, is_white, marked_size, one_more}
use Rattle.mdinline_constructs.proofs.HtmlTexts.Pieces.{is_no_line_feed}
use Rattle.mdinline_link_tails.specs.Resource.{string_events}
use Rattle.mdinline_link_tails.specs.ResourceLooks.{marked_look}
use Rattle.mdinline_text_machine.proofs.Texts.Passing.{AllPass, one-passes-more}
use Rattle.mdinline_text_machine.proofs.Texts.Steps.{WithRows}
use Rattle.mdinline_link_tails.proofs.Resources.Enclosed.{hidden-no, none-behind, plain-so}
use Rattle.mdinline_link_tails.proofs.Resources.Steps.{Does, yes, no, here, seen, enters_at, exits_at, exits_past, line-ending-read}
use Rattle.mdinline_link_tails.proofs.Resources.Titles.{Place, inside, escape, is_hidden}
use Rattle.mdinline_link_tails.proofs.Resources.Touched.{touched-call}
use Rattle.mdinline_link_tails.proofs.Resources.StringsRead.{IsBegun, IsRead, line-closed, part-begun, part-closed, read-feed, read-first, read-more, string-closed, white-closed, white-more}
use Rattle.mdinline_full_references.specs.FullReferenceRows.{ends_label, ends_line, label_escape_rows, label_inside_rows, label_line_rows, label_white_rows, reads_on}
use Rattle.mdinline_full_references.proofs.FullReferences.Steps.{Finds, IsCounted, PlaysReferences, counted-call, counted-read, fails, fails-here, left, reads, stands, stays, touched-read, with_read}

-- the spans that are open in its string, in a line of it, and in the white space before that
abbrev pub in_string : List EventName
in_string = Reference ∷ ReferenceString ∷ []

abbrev in_white : List EventName
in_white = Reference ∷ ReferenceString ∷ SpaceOrTab ∷ []

abbrev pub in_line : List EventName
in_line = Reference ∷ ReferenceString ∷ Data ∷ []

-- the state at a place in a line: behind a byte of it, or a backslash
abbrev pub name_of : Place → Name
name_of inside = LabelInside
name_of escape = LabelEscape

-- how many bytes a label has from a place on, and how many a look passes
abbrev pub in_label : (bare hidden : Bool) → List ℕ → Option ℕ
in_label bare hidden bs = marked_size 91 93 bare hidden bs

abbrev pub inside_look : (bare hidden : Bool) → List ℕ → ℕ
inside_look bare hidden bs = marked_look 91 93 bare hidden bs

abbrev pub label_from : Place → List ℕ → Option ℕ
label_from a bs = in_label false (is_hidden a) bs

abbrev pub look_from : Place → List ℕ → ℕ
look_from a bs = inside_look false (is_hidden a) bs

-- a byte is passed
abbrev pub IsPassed : (bare hidden : Bool) → ℕ → List ℕ → (bare' hidden' : Bool) → Type 0
IsPassed bare hidden b bs bare' hidden' =
    (in_label bare hidden (b ∷ bs) ≡ one_more (in_label bare' hidden' bs)) × (inside_look bare hidden (b ∷ bs) ≡ 1 + inside_look bare' hidden' bs)

-- what is read at a byte: the `]`, a `[`, which may not stand there, a line ending, or another
pub label-ends : (bare : Bool) (b : ℕ) (bs : List ℕ) → (b == 93) ≡ true → in_label bare false (b ∷ bs) ≡ Some 0
label-ends bare b bs h =
    ap (λ t. cond t (Some 0) (cond (((b == 91) && true) || (bare && (b == 10))) None (one_more (in_label (bare_behind bare b) (hides false b) bs)))) (plain-so 93 b true h)

pub label-opens : (bare : Bool) (b : ℕ) (bs : List ℕ) → (b == 93) ≡ false → (b == 91) ≡ true → in_label bare false (b ∷ bs) ≡ None
label-opens bare b bs h opens =
    λ i. cond (plain-so 93 b false h i) (Some 0) (cond (plain-so 91 b true opens i || (bare && (b == 10))) None (one_more (in_label (bare_behind bare b) (hides false b) bs)))

pub label-goes : (bare : Bool) (b : ℕ) (bs : List ℕ) (bare' hidden' : Bool) → (b == 93) ≡ false → (b == 91) ≡ false → (bare && (b == 10)) ≡ false → bare_behind bare b ≡ bare' → (b == 92) ≡ hidden'
    → IsPassed bare false b bs bare' hidden'
label-goes bare b bs bare' hidden' h opens blank bares w = (
  λ i. cond (plain-so 93 b false h i) (Some 0) (cond (plain-so 91 b false opens i || blank i) None (one_more (in_label (bares i) (plain-so 92 b hidden' w i) bs))),
  λ i. cond (plain-so 93 b false h i) 0 (cond (plain-so 91 b false opens i || blank i) 0 (1 + inside_look (bares i) (plain-so 92 b hidden' w i) bs)),
)

label-blank : (b : ℕ) (bs : List ℕ) → (b == 93) ≡ false → (b == 91) ≡ false → (b == 10) ≡ true → in_label true false (b ∷ bs) ≡ None
label-blank b bs h opens feed =
    λ i. cond (plain-so 93 b false h i) (Some 0) (cond (plain-so 91 b false opens i || feed i) None (one_more (in_label (bare_behind true b) (hides false b) bs)))

-- behind a backslash
escaped-goes : (b : ℕ) (bs : List ℕ) (t : Bool) → (b == 10) ≡ t → IsPassed false true b bs t false
escaped-goes b bs t feed =
    let bare : ((b == 10) || false) ≡ t = ap (λ c. c || false) feed ∙ or-false t in (
      λ i. cond (hidden-no 93 b i) (Some 0) (cond (hidden-no 91 b i || false) None (one_more (in_label (bare i) (hidden-no 92 b i) bs))),
      λ i. cond (hidden-no 93 b i) 0 (cond (hidden-no 91 b i || false) 0 (1 + inside_look (bare i) (hidden-no 92 b i) bs)),
    )

module _ (g : Given) (text : Text) (m : Plays g text) (wanted : Given → Sight → Configuration Unit Unit → Bool) (r : PlaysReferences g text m wanted) (cs : List Choice) (p far : ℕ) (events : List Event) (seats : List Seat) where
  -- a string that begins there, behind these events; and what is found if so many bytes are in it
  module _ (q0 : ℕ) (l0 : List Seat) (xs : List Event) (f : ℕ → Option (Option Found)) (size : Option ℕ)
      (ends : (i q : ℕ) (y : Seat) (ys : List Seat) (after : Local Unit Unit) → 1 ≤ i → q ≡ q0 + i → drop q text.seats ≡ y ∷ ys → size ≡ Some i → IsCounted after (bytes_of (take i l0))
      → Finds g text m cs p far events seats (2 * length (y ∷ ys) + 1)
      (stands g text m cs p far events seats (Reference ∷ []) q (xs ++ (string_events g.bytes (take i l0) ++ exits_at g text ReferenceString q ∷ [])) after) LabelEndReferenceFullEnd (f i)) where
    abbrev found : ℕ → Option ℕ → Option (Option Found)
    found j o = option_and_then f (behind j o)

    abbrev begins : EventName → Seat → Event
    begins name s = event g.bytes Enter name s.point

    abbrev ReadsLabel : List Seat → Type 0
    ReadsLabel l =
        (a : Place) (z : List Event) (s0 : Seat) (ss0 : List Seat) (j q : ℕ) (local : Local Unit Unit) → 1 ≤ j → q ≡ q0 + j → drop q text.seats ≡ l → drop j l0 ≡ l → IsCounted local (bytes_of (take j l0))
        → AllPass is_no_line_feed (s0 ∷ ss0) → end_place text q ≡ end_after s0.end ss0 → IsRead g.bytes l0 z (s0 ∷ ss0) j
        → (label_from a (bytes_of l) ≡ None → q + look_from a (bytes_of l) ≤ far) → size ≡ behind j (label_from a (bytes_of l))
        → Finds g text m cs p far events seats (2 * length l + 2) (left g text m cs p far events seats l in_line q (xs ++ (z ++ begins Data s0 ∷ [])) local) (name_of a) (found j (label_from a (bytes_of l)))

    abbrev ReadsLabelWhite : List Seat → Type 0
    ReadsLabelWhite l =
        (z : List Event) (w0 : Seat) (ws : List Seat) (j q : ℕ) (local : Local Unit Unit) → 1 ≤ j → q ≡ q0 + j → drop q text.seats ≡ l → drop j l0 ≡ l → IsCounted local (bytes_of (take j l0))
        → AllPass is_white (w0 ∷ ws) → end_place text q ≡ end_after w0.end ws → IsBegun g.bytes l0 z (w0 ∷ ws) j
        → (in_label true false (bytes_of l) ≡ None → q + inside_look true false (bytes_of l) ≤ far) → size ≡ behind j (in_label true false (bytes_of l))
        → Finds g text m cs p far events seats (2 * length l + 2) (left g text m cs p far events seats l in_white q (xs ++ (z ++ begins SpaceOrTab w0 ∷ [])) local) LabelLineWhite (found j (in_label true false (bytes_of l)))

    abbrev ReadsLabelLine : List Seat → Type 0
    ReadsLabelLine l =
        (z : List Event) (j q : ℕ) (local : Local Unit Unit) → 1 ≤ j → q ≡ q0 + j → drop q text.seats ≡ l → drop j l0 ≡ l → IsCounted local (bytes_of (take j l0)) → IsBegun g.bytes l0 z [] j
        → (in_label true false (bytes_of l) ≡ None → q + inside_look true false (bytes_of l) ≤ far) → size ≡ behind j (in_label true false (bytes_of l))
        → Finds g text m cs p far events seats (2 * length l + 2) (left g text m cs p far events seats l in_string q (xs ++ z) local) LabelEolAfter (found j (in_label true false (bytes_of l)))

    module _ (s : Seat) (ss : List Seat) (onward : ReadsLabel ss) (spaced : ReadsLabelWhite ss) (afresh : ReadsLabelLine ss) (j q : ℕ) (local : Local Unit Unit) (some : 1 ≤ j) (is : q ≡ q0 + j) (at : drop q text.seats ≡ s ∷ ss) (there : drop j l0 ≡ s ∷ ss) (counted : IsCounted local (bytes_of (take j l0))) where
      abbrev calls : ℕ
      calls = 2 * length (s ∷ ss) + 2

      place : q + 1 ≡ q0 + (j + 1)
      place = omega (arith, is)

      -- what states share behind it
      abbrev behind_it : Local Unit Unit
      behind_it = with_read text q local

      counted_it : IsCounted behind_it (bytes_of (take (j + 1) l0))
      counted_it = counted-read text q j local l0 s ss at there counted

      -- in a line that holds some bytes
      module _ (z : List Event) (s0 : Seat) (ss0 : List Seat) (pass : AllPass is_no_line_feed (s0 ∷ ss0)) (end : end_place text q ≡ end_after s0.end ss0) (read : IsRead g.bytes l0 z (s0 ∷ ss0) j) where
        abbrev x : List Event
        x = xs ++ (z ++ begins Data s0 ∷ [])

        abbrev k : Configuration Unit Unit
        k = stands g text m cs p far events seats in_line q x local

        abbrev Here : Place → Option ℕ → Type 0
        Here a o = Finds g text m cs p far events seats calls k (name_of a) (found j o)

        -- no look passes more
        abbrev Reach : Place → Type 0
        Reach a = label_from a (bytes_of (s ∷ ss)) ≡ None → q + look_from a (bytes_of (s ∷ ss)) ≤ far

        -- so many bytes it has in all
        abbrev Rest : Place → Type 0
        Rest a = size ≡ behind j (label_from a (bytes_of (s ∷ ss)))

        -- a byte more of it is read
        more : (a a' : Place) → Reach a → Rest a → Does g text m k (name_of a) (reads_on [] (name_of a')) → (s.byte == 10) ≡ false → IsPassed false (is_hidden a) s.byte (bytes_of ss) false (is_hidden a')
            → Here a (label_from a (bytes_of (s ∷ ss)))
        more a a' reach rest has plain goes =
            subst (λ o. Finds g text m cs p far events seats calls k (name_of a) (option_and_then f o)) (sym (ap (behind j) goes.0 ∙ behind-more j (label_from a' (bytes_of ss))))
            (reads g text m cs p far events seats (2 * length ss + 2) calls in_line in_line q x x local behind_it (name_of a) (name_of a') s ss (reads_on [] (name_of a')) (found (j + 1) (label_from a' (bytes_of ss)))
            (events ++ x) at (omega arith) (touched-read text q local) has refl (λ e i. i)
            (onward a' z s0 (ss0 ++ s ∷ []) (j + 1) (q + 1) behind_it (omega arith) place (drop-next text.seats q s ss at) (drop-next l0 j s ss there) counted_it (one-passes-more is_no_line_feed (s0 ∷ ss0) s pass (ap not plain))
            (place-behind text q s (at-front text.seats q s ss at) ∙ sym (end-after-one s0.end ss0 s)) (read-more g.bytes l0 z (s0 ∷ ss0) j s ss there read) (λ none. omega (arith, reach (goes.0 ∙ ap one_more none), goes.1)) (rest ∙ ap (behind j) goes.0 ∙ behind-more j (label_from a' (bytes_of ss)))))

        -- the line ends
        feeds : (a : Place) → Reach a → Rest a → Does g text m k (name_of a) (ends_line (exit Data ∷ [])) → (s.byte == 10) ≡ true → IsPassed false (is_hidden a) s.byte (bytes_of ss) true false
            → Here a (label_from a (bytes_of (s ∷ ss)))
        feeds a reach rest has feed goes =
            let line = leaf g.bytes LineEnding (s ∷ []) in
            let d = leaf g.bytes Data (s0 ∷ ss0) in
            let z' = z ++ (d ++ line) in
            let es = (((events ++ x) ++ exits_at g text Data q ∷ []) ++ enters_at g text LineEnding q ∷ []) ++ exits_past g text LineEnding q ∷ [] in
            let made : es ≡ events ++ (xs ++ z') =
            line-ending-read g text ((events ++ x) ++ exits_at g text Data q ∷ []) q s ss at ∙ ap (λ y. y ++ line) (part-closed g text events xs Data z s0 ss0 q end)
            ∙ append_assoc events (xs ++ (z ++ d)) line ∙ ap (λ y. events ++ y) (append_assoc xs (z ++ d) line ∙ ap (λ y. xs ++ y) (append_assoc z d line)) in
            subst (λ o. Finds g text m cs p far events seats calls k (name_of a) (option_and_then f o)) (sym (ap (behind j) goes.0 ∙ behind-more j (in_label true false (bytes_of ss))))
            (reads g text m cs p far events seats (2 * length ss + 2) calls in_line in_string q x (xs ++ z') local behind_it (name_of a) LabelEolAfter s ss (ends_line (exit Data ∷ []))
            (found (j + 1) (in_label true false (bytes_of ss))) es at (omega arith) (touched-read text q local) has made (λ e i. i)
            (afresh z' (j + 1) (q + 1) behind_it (omega arith) place (drop-next text.seats q s ss at) (drop-next l0 j s ss there) counted_it
            (read-feed g.bytes l0 z d (s0 ∷ ss0) j s ss there feed read (λ y. line-first g.bytes s0 ss0 (s ∷ y) pass (ap not feed))) (λ none. omega (arith, reach (goes.0 ∙ ap one_more none), goes.1)) (rest ∙ ap (behind j) goes.0 ∙ behind-more j (in_label true false (bytes_of ss)))))

        -- the label ends
        closes : (a : Place) → Rest a → Does g text m k (name_of a) (ends_label (exit Data ∷ [])) → label_from a (bytes_of (s ∷ ss)) ≡ Some 0
            → Here a (label_from a (bytes_of (s ∷ ss)))
        closes a rest has goes =
            subst (λ o. Finds g text m cs p far events seats calls k (name_of a) (option_and_then f o)) (sym (ap (behind j) goes ∙ none-behind j))
            (stays g text m cs p far events seats (2 * length (s ∷ ss) + 1) calls in_line (Reference ∷ []) q x (xs ++ (string_events g.bytes (take j l0) ++ exits_at g text ReferenceString q ∷ [])) local (counts local)
            (name_of a) LabelEndReferenceFullEnd (ends_label (exit Data ∷ [])) (f j)
            (((events ++ x) ++ exits_at g text Data q ∷ []) ++ exits_at g text ReferenceString q ∷ []) (omega arith) (touched-call local) has (string-closed g text events xs Data ReferenceString (string_events g.bytes (take j l0)) z s0 ss0 q end (line-closed g.bytes l0 z s0 ss0 j pass read)) (λ e i. i)
            (ends j q s ss (counts local) some is at (rest ∙ ap (behind j) goes ∙ none-behind j) (counted-call local (bytes_of (take j l0)) counted)))

        refuses : (a : Place) → Reach a → Does g text m k (name_of a) (row [] Nok) → label_from a (bytes_of (s ∷ ss)) ≡ None → Here a (label_from a (bytes_of (s ∷ ss)))
        refuses a reach has goes = subst (Here a) (sym goes) (fails-here g text m cs p far events seats calls in_line q x local (name_of a) s ss at (omega arith) (omega (arith, reach goes)) counted.none has)

        on-escape : Reach escape → Rest escape → Here escape (label_from escape (bytes_of (s ∷ ss)))
        on-escape reach rest =
            let has = here g text m label_escape_rows LabelEscape in_line q (events ++ x) local s ss at r.escape in
            elim (s.byte == 10) as (λ t. (s.byte == 10) ≡ t → Here escape (label_from escape (bytes_of (s ∷ ss)))) [
              | true ↦ λ feed. feeds escape reach rest (yes g text m k LabelEscape has (seen g text m (λ b. b == 10) true q s ss at feed)) feed (escaped-goes s.byte (bytes_of ss) true feed)
              | false ↦ λ plain. more escape inside reach rest (no g text m k LabelEscape has (seen g text m (λ b. b == 10) false q s ss at plain)) plain (escaped-goes s.byte (bytes_of ss) false plain)
            ] refl

        on-inside : Reach inside → Rest inside → Here inside (label_from inside (bytes_of (s ∷ ss)))
        on-inside reach rest =
            let b = s.byte in
            let bs = bytes_of ss in
            let Now = Here inside (label_from inside (bytes_of (s ∷ ss))) in
            let has = here g text m label_inside_rows LabelInside in_line q (events ++ x) local s ss at r.inside in
            elim (b == 93) as (λ t. (b == 93) ≡ t → Now) [
              | true ↦ λ e. closes inside rest (yes g text m k LabelInside has (seen g text m (λ c. c == 93) true q s ss at e)) (label-ends false b bs e)
              | false ↦ λ e.
                  let has1 = no g text m k LabelInside has (seen g text m (λ c. c == 93) false q s ss at e) in
                  elim (b == 91) as (λ t. (b == 91) ≡ t → Now) [
                    | true ↦ λ n. refuses inside reach (yes g text m k LabelInside has1 (seen g text m (λ c. c == 91) true q s ss at n)) (label-opens false b bs e n)
                    | false ↦ λ n.
                        let has2 = no g text m k LabelInside has1 (seen g text m (λ c. c == 91) false q s ss at n) in
                        elim (b == 10) as (λ t. (b == 10) ≡ t → Now) [
                          | true ↦ λ feed.
                              feeds inside reach rest (yes g text m k LabelInside has2 (seen g text m (λ c. c == 10) true q s ss at feed)) feed
                              (label-goes false b bs true false e n refl (ap (λ t. t || false) feed) (unlike (λ c. c == 10) 92 refl b feed))
                          | false ↦ λ plain.
                              let has3 = no g text m k LabelInside has2 (seen g text m (λ c. c == 10) false q s ss at plain) in
                              elim (b == 92) as (λ t. (b == 92) ≡ t → Now) [
                                | true ↦ λ w.
                                    more inside escape reach rest (yes g text m k LabelInside has3 (seen g text m (λ c. c == 92) true q s ss at w)) plain (label-goes false b bs false true e n refl (ap (λ t. t || false) plain) w)
                                | false ↦ λ w.
                                    more inside inside reach rest (no g text m k LabelInside has3 (seen g text m (λ c. c == 92) false q s ss at w)) plain (label-goes false b bs false false e n refl (ap (λ t. t || false) plain) w)
                              ] refl
                        ] refl
                  ] refl
            ] refl

      -- in a further line: how many bytes are left of the label, and what is known of that
      abbrev total : Option ℕ
      total = in_label true false (bytes_of (s ∷ ss))

      abbrev Within : Type 0
      Within = total ≡ None → q + inside_look true false (bytes_of (s ∷ ss)) ≤ far

      abbrev IsAll : Type 0
      IsAll = size ≡ behind j total

      -- behind events, in these spans, at one of its states
      abbrev Now : List EventName → List Event → Name → Option ℕ → Type 0
      Now stack x name o = Finds g text m cs p far events seats calls (stands g text m cs p far events seats stack q x local) name (found j o)

      abbrev Doing : List EventName → List Event → Name → Rows Unit Unit → Type 0
      Doing stack x name rows = Does g text m (stands g text m cs p far events seats stack q x local) name rows

      -- data of it begins
      data-begins : (stack : List EventName) (x : List Event) (name : Name) (rows : Rows Unit Unit) (es z : List Event) (a : Place) → Within → IsAll → Doing stack x name rows → es ≡ events ++ (xs ++ (z ++ begins Data s ∷ []))
          → ((e : Ending) → EndsWith g text m (held in_line (q + 1) Nothing false es behind_it) cs (Next (name_of a)) e → WithRows g text m (stands g text m cs p far events seats stack q x local) cs e rows)
          → (s.byte == 10) ≡ false → IsRead g.bytes l0 z (s ∷ []) (j + 1) → IsPassed true false s.byte (bytes_of ss) false (is_hidden a) → Now stack x name total
      data-begins stack x name rows es z a reach rest has made ending plain read goes =
          subst (λ o. Finds g text m cs p far events seats calls (stands g text m cs p far events seats stack q x local) name (option_and_then f o)) (sym (ap (behind j) goes.0 ∙ behind-more j (label_from a (bytes_of ss))))
          (reads g text m cs p far events seats (2 * length ss + 2) calls stack in_line q x (xs ++ (z ++ begins Data s ∷ [])) local behind_it name (name_of a) s ss rows
          (found (j + 1) (label_from a (bytes_of ss))) es at (omega arith) (touched-read text q local) has made ending
          (onward a z s [] (j + 1) (q + 1) behind_it (omega arith) place (drop-next text.seats q s ss at) (drop-next l0 j s ss there) counted_it (ap not plain, tt) (place-behind text q s (at-front text.seats q s ss at))
          read (λ none. omega (arith, reach (goes.0 ∙ ap one_more none), goes.1)) (rest ∙ ap (behind j) goes.0 ∙ behind-more j (label_from a (bytes_of ss)))))

      -- white space before it goes on, or begins
      white-goes : (stack : List EventName) (x : List Event) (name : Name) (rows : Rows Unit Unit) (es z : List Event) (w0 : Seat) (ws : List Seat) → Within → IsAll → Doing stack x name rows → es ≡ events ++ (xs ++ (z ++ begins SpaceOrTab w0 ∷ []))
          → ((e : Ending) → EndsWith g text m (held in_white (q + 1) Nothing false es behind_it) cs (Next LabelLineWhite) e → WithRows g text m (stands g text m cs p far events seats stack q x local) cs e rows)
          → AllPass is_white (w0 ∷ ws) → end_place text (q + 1) ≡ end_after w0.end ws → IsBegun g.bytes l0 z (w0 ∷ ws) (j + 1) → IsPassed true false s.byte (bytes_of ss) true false → Now stack x name total
      white-goes stack x name rows es z w0 ws reach rest has made ending pass end read goes =
          subst (λ o. Finds g text m cs p far events seats calls (stands g text m cs p far events seats stack q x local) name (option_and_then f o)) (sym (ap (behind j) goes.0 ∙ behind-more j (in_label true false (bytes_of ss))))
          (reads g text m cs p far events seats (2 * length ss + 2) calls stack in_white q x (xs ++ (z ++ begins SpaceOrTab w0 ∷ [])) local behind_it name LabelLineWhite s ss rows
          (found (j + 1) (in_label true false (bytes_of ss))) es at (omega arith) (touched-read text q local) has made ending
          (spaced z w0 ws (j + 1) (q + 1) behind_it (omega arith) place (drop-next text.seats q s ss at) (drop-next l0 j s ss there) counted_it pass end
          read (λ none. omega (arith, reach (goes.0 ∙ ap one_more none), goes.1)) (rest ∙ ap (behind j) goes.0 ∙ behind-more j (in_label true false (bytes_of ss)))))

      -- the label ends before data of it
      line-closes : (stack : List EventName) (x : List Event) (name : Name) (rows : Rows Unit Unit) (es : List Event) → IsAll → Doing stack x name rows → es ≡ events ++ (xs ++ (string_events g.bytes (take j l0) ++ exits_at g text ReferenceString q ∷ []))
          → ((e : Ending) → EndsWith g text m (held (Reference ∷ []) q Byte false es (counts local)) cs (Retry LabelEndReferenceFullEnd) e → WithRows g text m (stands g text m cs p far events seats stack q x local) cs e rows)
          → total ≡ Some 0 → Now stack x name total
      line-closes stack x name rows es rest has made ending goes =
          subst (λ o. Finds g text m cs p far events seats calls (stands g text m cs p far events seats stack q x local) name (option_and_then f o)) (sym (ap (behind j) goes ∙ none-behind j))
          (stays g text m cs p far events seats (2 * length (s ∷ ss) + 1) calls stack (Reference ∷ []) q x (xs ++ (string_events g.bytes (take j l0) ++ exits_at g text ReferenceString q ∷ [])) local (counts local)
          name LabelEndReferenceFullEnd rows (f j) es (omega arith) (touched-call local) has made ending
          (ends j q s ss (counts local) some is at (rest ∙ ap (behind j) goes ∙ none-behind j) (counted-call local (bytes_of (take j l0)) counted)))

      line-refuses : (stack : List EventName) (x : List Event) (name : Name) → Within → Doing stack x name (row [] Nok) → total ≡ None → Now stack x name total
      line-refuses stack x name reach has goes =
          subst (Now stack x name) (sym goes) (fails-here g text m cs p far events seats calls stack q x local name s ss at (omega arith) (omega (arith, reach goes)) counted.none has)

      -- in white space before it
      module _ (z : List Event) (w0 : Seat) (ws : List Seat) (pass : AllPass is_white (w0 ∷ ws)) (end : end_place text q ≡ end_after w0.end ws) (read : IsBegun g.bytes l0 z (w0 ∷ ws) j) (reach : Within) (rest : IsAll) where
        abbrev xw : List Event
        xw = xs ++ (z ++ begins SpaceOrTab w0 ∷ [])

        abbrev kw : Configuration Unit Unit
        kw = stands g text m cs p far events seats in_white q xw local

        abbrev HereWhite : Type 0
        HereWhite = Now in_white xw LabelLineWhite total

        abbrev white : List Event
        white = leaf g.bytes SpaceOrTab (w0 ∷ ws)

        -- its first byte is read
        first-data : (a : Place) → Does g text m kw LabelLineWhite (reads_on (exit SpaceOrTab ∷ enter Data ∷ []) (name_of a)) → (s.byte == 10) ≡ false → is_white s.byte ≡ false
            → IsPassed true false s.byte (bytes_of ss) false (is_hidden a) → HereWhite
        first-data a has plain other goes =
            data-begins in_white xw LabelLineWhite (reads_on (exit SpaceOrTab ∷ enter Data ∷ []) (name_of a)) (((events ++ xw) ++ exits_at g text SpaceOrTab q ∷ []) ++ enters_at g text Data q ∷ []) (z ++ white) a reach rest has
            (ap (λ y. y ++ enters_at g text Data q ∷ []) (part-closed g text events xs SpaceOrTab z w0 ws q end) ∙ part-begun g text events xs Data (z ++ white) q s ss at) (λ e i. i) plain
            (read-first g.bytes l0 z (z ++ white) (w0 ∷ ws) j s ss there pass other refl read) goes

        on-white : HereWhite
        on-white =
            let b = s.byte in
            let bs = bytes_of ss in
            let has = here g text m label_white_rows LabelLineWhite in_white q (events ++ xw) local s ss at r.white in
            elim (b == 93) as (λ t. (b == 93) ≡ t → HereWhite) [
              | true ↦ λ e.
                  line-closes in_white xw LabelLineWhite (ends_label (exit SpaceOrTab ∷ [])) (((events ++ xw) ++ exits_at g text SpaceOrTab q ∷ []) ++ exits_at g text ReferenceString q ∷ []) rest
                  (yes g text m kw LabelLineWhite has (seen g text m (λ c. c == 93) true q s ss at e))
                  (string-closed g text events xs SpaceOrTab ReferenceString (string_events g.bytes (take j l0)) z w0 ws q end (white-closed g.bytes l0 z (w0 ∷ ws) j pass read)) (λ e i. i) (label-ends true b bs e)
              | false ↦ λ e.
                  let has1 = no g text m kw LabelLineWhite has (seen g text m (λ c. c == 93) false q s ss at e) in
                  elim (b == 91) as (λ t. (b == 91) ≡ t → HereWhite) [
                    | true ↦ λ n. line-refuses in_white xw LabelLineWhite reach (yes g text m kw LabelLineWhite has1 (seen g text m (λ c. c == 91) true q s ss at n)) (label-opens true b bs e n)
                    | false ↦ λ n.
                        let has2 = no g text m kw LabelLineWhite has1 (seen g text m (λ c. c == 91) false q s ss at n) in
                        elim (b == 10) as (λ t. (b == 10) ≡ t → HereWhite) [
                          | true ↦ λ feed. line-refuses in_white xw LabelLineWhite reach (yes g text m kw LabelLineWhite has2 (seen g text m (λ c. c == 10) true q s ss at feed)) (label-blank b bs e n feed)
                          | false ↦ λ plain.
                              let has3 = no g text m kw LabelLineWhite has2 (seen g text m (λ c. c == 10) false q s ss at plain) in
                              elim (is_white b) as (λ t. is_white b ≡ t → HereWhite) [
                                | true ↦ λ v.
                                    white-goes in_white xw LabelLineWhite (reads_on [] LabelLineWhite) (events ++ xw) z w0 (ws ++ s ∷ []) reach rest (yes g text m kw LabelLineWhite has3 (seen g text m is_white true q s ss at v)) refl (λ e i. i)
                                    (one-passes-more is_white (w0 ∷ ws) s pass v) (place-behind text q s (at-front text.seats q s ss at) ∙ sym (end-after-one w0.end ws s)) (white-more g.bytes l0 z (w0 ∷ ws) j s ss there read)
                                    (label-goes true b bs true false e n plain (λ i. plain i || v i) (unlike is_white 92 refl b v))
                                | false ↦ λ v.
                                    let has4 = no g text m kw LabelLineWhite has3 (seen g text m is_white false q s ss at v) in
                                    elim (b == 92) as (λ t. (b == 92) ≡ t → HereWhite) [
                                      | true ↦ λ w.
                                          first-data escape (yes g text m kw LabelLineWhite has4 (seen g text m (λ c. c == 92) true q s ss at w)) plain v (label-goes true b bs false true e n plain (λ i. plain i || v i) w)
                                      | false ↦ λ w.
                                          first-data inside (no g text m kw LabelLineWhite has4 (seen g text m (λ c. c == 92) false q s ss at w)) plain v (label-goes true b bs false false e n plain (λ i. plain i || v i) w)
                                    ] refl
                              ] refl
                        ] refl
                  ] refl
            ] refl

      -- at its beginning
      module _ (z : List Event) (read : IsBegun g.bytes l0 z [] j) (reach : Within) (rest : IsAll) where
        abbrev k0 : Configuration Unit Unit
        k0 = stands g text m cs p far events seats in_string q (xs ++ z) local

        abbrev Here0 : Type 0
        Here0 = Now in_string (xs ++ z) LabelEolAfter total

        first : (a : Place) → Does g text m k0 LabelEolAfter (reads_on (enter Data ∷ []) (name_of a)) → (s.byte == 10) ≡ false → is_white s.byte ≡ false → IsPassed true false s.byte (bytes_of ss) false (is_hidden a) → Here0
        first a has plain other goes =
            data-begins in_string (xs ++ z) LabelEolAfter (reads_on (enter Data ∷ []) (name_of a)) ((events ++ (xs ++ z)) ++ enters_at g text Data q ∷ []) z a reach rest has (part-begun g text events xs Data z q s ss at) (λ e i. i) plain
            (read-first g.bytes l0 z z [] j s ss there tt other (append-nil z) read) goes

        on-line : Here0
        on-line =
            let b = s.byte in
            let bs = bytes_of ss in
            let has = here g text m label_line_rows LabelEolAfter in_string q (events ++ (xs ++ z)) local s ss at r.line in
            elim (b == 93) as (λ t. (b == 93) ≡ t → Here0) [
              | true ↦ λ e.
                  line-closes in_string (xs ++ z) LabelEolAfter (ends_label []) ((events ++ (xs ++ z)) ++ exits_at g text ReferenceString q ∷ []) rest (yes g text m k0 LabelEolAfter has (seen g text m (λ c. c == 93) true q s ss at e))
                  (append_assoc events (xs ++ z) (exits_at g text ReferenceString q ∷ []) ∙ ap (λ y. events ++ y) (append_assoc xs z (exits_at g text ReferenceString q ∷ []) ∙ ap (λ y. xs ++ (y ++ exits_at g text ReferenceString q ∷ [])) (sym (white-closed g.bytes l0 z [] j tt read ∙ append-nil z))))
                  (λ e i. i) (label-ends true b bs e)
              | false ↦ λ e.
                  let has1 = no g text m k0 LabelEolAfter has (seen g text m (λ c. c == 93) false q s ss at e) in
                  elim (b == 91) as (λ t. (b == 91) ≡ t → Here0) [
                    | true ↦ λ n. line-refuses in_string (xs ++ z) LabelEolAfter reach (yes g text m k0 LabelEolAfter has1 (seen g text m (λ c. c == 91) true q s ss at n)) (label-opens true b bs e n)
                    | false ↦ λ n.
                        let has2 = no g text m k0 LabelEolAfter has1 (seen g text m (λ c. c == 91) false q s ss at n) in
                        elim (b == 10) as (λ t. (b == 10) ≡ t → Here0) [
                          | true ↦ λ feed. line-refuses in_string (xs ++ z) LabelEolAfter reach (yes g text m k0 LabelEolAfter has2 (seen g text m (λ c. c == 10) true q s ss at feed)) (label-blank b bs e n feed)
                          | false ↦ λ plain.
                              let has3 = no g text m k0 LabelEolAfter has2 (seen g text m (λ c. c == 10) false q s ss at plain) in
                              elim (is_white b) as (λ t. is_white b ≡ t → Here0) [
                                | true ↦ λ v.
                                    white-goes in_string (xs ++ z) LabelEolAfter (reads_on (enter SpaceOrTab ∷ []) LabelLineWhite) ((events ++ (xs ++ z)) ++ enters_at g text SpaceOrTab q ∷ []) z s [] reach rest (yes g text m k0 LabelEolAfter has3 (seen g text m is_white true q s ss at v))
                                    (part-begun g text events xs SpaceOrTab z q s ss at) (λ e i. i) (v, tt) (place-behind text q s (at-front text.seats q s ss at)) (white-more g.bytes l0 z [] j s ss there read) (label-goes true b bs true false e n plain (λ i. plain i || v i) (unlike is_white 92 refl b v))
                                | false ↦ λ v.
                                    let has4 = no g text m k0 LabelEolAfter has3 (seen g text m is_white false q s ss at v) in
                                    elim (b == 92) as (λ t. (b == 92) ≡ t → Here0) [
                                      | true ↦ λ w.
                                          first escape (yes g text m k0 LabelEolAfter has4 (seen g text m (λ c. c == 92) true q s ss at w)) plain v (label-goes true b bs false true e n plain (λ i. plain i || v i) w)
                                      | false ↦ λ w.
                                          first inside (no g text m k0 LabelEolAfter has4 (seen g text m (λ c. c == 92) false q s ss at w)) plain v (label-goes true b bs false false e n plain (λ i. plain i || v i) w)
                                    ] refl
                              ] refl
                        ] refl
                  ] refl
            ] refl

    -- So it is read, from each of its bytes on
    pub reads-label : (l : List Seat) → ReadsLabel l × (ReadsLabelWhite l × ReadsLabelLine l)
    reads-label [] = (
      λ a z s0 ss0 j q local some is at there counted pass end read short rest.
          let none = counted.none in
          elim a as (λ a. Finds g text m cs p far events seats (2 * 0 + 2) (left g text m cs p far events seats [] in_line q (xs ++ (z ++ begins Data s0 ∷ [])) local) (name_of a) None) [
            | inside ↦ fails g text m cs p far events seats (2 * 0 + 2) [] in_line q (xs ++ (z ++ begins Data s0 ∷ [])) local LabelInside at (omega arith) (omega (arith, short refl)) none (r.inside _)
            | escape ↦ fails g text m cs p far events seats (2 * 0 + 2) [] in_line q (xs ++ (z ++ begins Data s0 ∷ [])) local LabelEscape at (omega arith) (omega (arith, short refl)) none (r.escape _)
          ],
      (
        λ z w0 ws j q local some is at there counted pass end read short rest. fails g text m cs p far events seats (2 * 0 + 2) [] in_white q (xs ++ (z ++ begins SpaceOrTab w0 ∷ [])) local LabelLineWhite at (omega arith) (omega (arith, short refl)) counted.none (r.white _),
        λ z j q local some is at there counted read short rest. fails g text m cs p far events seats (2 * 0 + 2) [] in_string q (xs ++ z) local LabelEolAfter at (omega arith) (omega (arith, short refl)) counted.none (r.line _),
      ),
    )
    reads-label (s ∷ ss) =
        let ih = reads-label ss in (
          λ a z s0 ss0 j q local some is at there counted pass end read short rest.
              elim a as (λ a. (label_from a (bytes_of (s ∷ ss)) ≡ None → q + look_from a (bytes_of (s ∷ ss)) ≤ far) → size ≡ behind j (label_from a (bytes_of (s ∷ ss)))
              → Finds g text m cs p far events seats (2 * length (s ∷ ss) + 2) (stands g text m cs p far events seats in_line q (xs ++ (z ++ begins Data s0 ∷ [])) local) (name_of a) (found j (label_from a (bytes_of (s ∷ ss))))) [
                | inside ↦ λ reach rest. on-inside s ss ih.0 ih.1.0 ih.1.1 j q local some is at there counted z s0 ss0 pass end read reach rest
                | escape ↦ λ reach rest. on-escape s ss ih.0 ih.1.0 ih.1.1 j q local some is at there counted z s0 ss0 pass end read reach rest
              ] short rest,
          (
            λ z w0 ws j q local some is at there counted pass end read short rest. on-white s ss ih.0 ih.1.0 ih.1.1 j q local some is at there counted z w0 ws pass end read short rest,
            λ z j q local some is at there counted read short rest. on-line s ss ih.0 ih.1.0 ih.1.1 j q local some is at there counted z read short rest,
          ),
        )
