-- How a title is read behind its first mark, up to its last one.
use Rattle.markdown_base.proofs.Facts.Numbers.{unlike}
use Rattle.mdinline_link_tails.proofs.Prelude.{◌≡◌, ℕ, ◌+◌, ◌*◌, ◌≤◌, ◌==◌, ◌&&◌, ◌||◌, not, List, [], ◌∷◌, ◌++◌, Bool, true, false, cond, Option, Some, None, refl, sym, ap, ◌∙◌, subst, arith, take, drop, length, option_and_then, drop-next, end-after-one, place-behind, append-nil, append_assoc, and-false, and-true, Event, Enter, EventName, Data, LineEnding, Resource, ResourceTitle, ResourceTitleString, SpaceOrTab, Name, Nok, Retry, TitleAfterEol, TitleEscape, TitleInside, Seat, end_after, end_place, Given, Text, Choice, Configuration, Local, at-front, counts, Plays, Found, bytes_of, leaf, row, enter, exit, behind-more, or-false, Ending, EndsWith, Next, Rows, held, Byte, Nothing}
use Rattle.mdconstructs_machines.specs.Spans.{event}
use Rattle.mdinline_labels.specs.Labels.{hides}
use Rattle.mdinline_labels.specs.Tails.{bare_behind, behind, is_white, marked_size, one_more}
use Rattle.mdinline_link_tails.specs.declared.names.TheConstants.{ResourceTitleEnd, ResourceTitleWhite}
use Rattle.mdinline_constructs.proofs.HtmlTexts.Pieces.{is_no_line_feed}
use Rattle.mdinline_link_tails.specs.Resource.{string_events}
use Rattle.mdinline_link_tails.specs.ResourceLooks.{marked_look}
use Rattle.mdinline_link_tails.specs.ResourceRows.{ends_line, reads_on, title_escape_rows, title_inside_rows, title_line_rows, title_white_rows}
use Rattle.mdinline_text_machine.proofs.Texts.Passing.{AllPass, one-passes-more}
use Rattle.mdinline_text_machine.proofs.Texts.Steps.{WithRows}
use Rattle.mdinline_link_tails.proofs.Resources.Enclosed.{hidden-no, none-behind, plain-so}
use Rattle.mdinline_link_tails.proofs.Resources.Lines.{line-first}
use Rattle.mdinline_link_tails.proofs.Resources.Steps.{PlaysResources, Does, yes, no, here, seen, enters_at, exits_at, exits_past, Finds, stands, left, fails, fails-here, reads, stays, line-ending-read}
use Rattle.mdinline_link_tails.proofs.Resources.Touched.{touched-call}
use Rattle.mdinline_link_tails.proofs.Resources.StringsRead.{IsBegun, IsRead, line-closed, part-begun, part-closed, read-feed, read-first, read-more, string-closed, white-closed, white-more}

-- the spans that are open in its string, in a line of it, and in the white space before that
abbrev pub in_string : List EventName
in_string = Resource ∷ ResourceTitle ∷ ResourceTitleString ∷ []

abbrev in_white : List EventName
in_white = Resource ∷ ResourceTitle ∷ ResourceTitleString ∷ SpaceOrTab ∷ []

abbrev pub in_line : List EventName
in_line = Resource ∷ ResourceTitle ∷ ResourceTitleString ∷ Data ∷ []

-- Places in a line: behind a byte of it, or a backslash
pub data Place : Type 0 where
  inside : Place
  escape : Place

abbrev pub name_of : Place → Name
name_of inside = TitleInside
name_of escape = TitleEscape

-- whether the next byte is hidden
abbrev pub is_hidden : Place → Bool
is_hidden escape = true
is_hidden _ = false

-- the mark that begins a title which this one closes
abbrev pub opening : (mark : ℕ) → ℕ
opening mark = cond (mark == 41) 40 mark

-- behind the first mark of a title: up to the one that closes it
abbrev pub title_inside : (mark : ℕ) → (bare hidden : Bool) → List ℕ → Option ℕ
title_inside mark bare hidden bs = marked_size (opening mark) mark bare hidden bs

-- how many bytes a title has from a place on
abbrev pub title_from : (mark : ℕ) → Place → List ℕ → Option ℕ
title_from mark a bs = title_inside mark false (is_hidden a) bs

-- and how many a look passes
abbrev pub inside_look : (mark : ℕ) → (bare hidden : Bool) → List ℕ → ℕ
inside_look mark bare hidden bs = marked_look (opening mark) mark bare hidden bs

abbrev pub look_from : (mark : ℕ) → Place → List ℕ → ℕ
look_from mark a bs = inside_look mark false (is_hidden a) bs

-- a byte is passed
abbrev pub IsPassed : (mark : ℕ) → (bare hidden : Bool) → ℕ → List ℕ → (bare' hidden' : Bool) → Type 0
IsPassed mark bare hidden b bs bare' hidden' =
    (title_inside mark bare hidden (b ∷ bs) ≡ one_more (title_inside mark bare' hidden' bs)) × (inside_look mark bare hidden (b ∷ bs) ≡ 1 + inside_look mark bare' hidden' bs)

-- a byte that closes no title begins one if it is a parenthesis, and the title is in parentheses
opens : (mark b : ℕ) (t : Bool) → (b == mark) ≡ false → ((b == 40) && (mark == 41)) ≡ t → (b == opening mark) ≡ t
opens mark b t h nests = elim (mark == 41) as (λ c. ((b == 40) && c) ≡ t → (b == cond c 40 mark) ≡ t) [
  | true ↦ λ n. sym (and-true (b == 40)) ∙ n
  | false ↦ λ n. h ∙ sym (and-false (b == 40)) ∙ n
] nests

-- what is read at a byte: the last mark, a mark that may not stand there, a line ending, or another
pub title-ends : (mark : ℕ) (bare : Bool) (b : ℕ) (bs : List ℕ) → (b == mark) ≡ true → title_inside mark bare false (b ∷ bs) ≡ Some 0
title-ends mark bare b bs h =
    ap (λ t. cond t (Some 0) (cond (((b == opening mark) && true) || (bare && (b == 10))) None (one_more (title_inside mark (bare_behind bare b) (hides false b) bs)))) (plain-so mark b true h)

pub title-nests : (mark : ℕ) (bare : Bool) (b : ℕ) (bs : List ℕ) → (b == mark) ≡ false → ((b == 40) && (mark == 41)) ≡ true → title_inside mark bare false (b ∷ bs) ≡ None
title-nests mark bare b bs h nests =
    λ i. cond (plain-so mark b false h i) (Some 0)
    (cond (plain-so (opening mark) b true (opens mark b true h nests) i || (bare && (b == 10))) None (one_more (title_inside mark (bare_behind bare b) (hides false b) bs)))

pub title-goes : (mark : ℕ) (bare : Bool) (b : ℕ) (bs : List ℕ) (bare' hidden' : Bool) → (b == mark) ≡ false → ((b == 40) && (mark == 41)) ≡ false → (bare && (b == 10)) ≡ false → bare_behind bare b ≡ bare' → (b == 92) ≡ hidden'
    → IsPassed mark bare false b bs bare' hidden'
title-goes mark bare b bs bare' hidden' h nests blank bares w = (
  λ i. cond (plain-so mark b false h i) (Some 0)
      (cond (plain-so (opening mark) b false (opens mark b false h nests) i || blank i) None (one_more (title_inside mark (bares i) (plain-so 92 b hidden' w i) bs))),
  λ i. cond (plain-so mark b false h i) 0
      (cond (plain-so (opening mark) b false (opens mark b false h nests) i || blank i) 0 (1 + inside_look mark (bares i) (plain-so 92 b hidden' w i) bs)),
)

title-blank : (mark b : ℕ) (bs : List ℕ) → (b == mark) ≡ false → ((b == 40) && (mark == 41)) ≡ false → (b == 10) ≡ true → title_inside mark true false (b ∷ bs) ≡ None
title-blank mark b bs h nests feed =
    λ i. cond (plain-so mark b false h i) (Some 0)
    (cond (plain-so (opening mark) b false (opens mark b false h nests) i || feed i) None (one_more (title_inside mark (bare_behind true b) (hides false b) bs)))

-- behind a backslash
escaped-goes : (mark b : ℕ) (bs : List ℕ) (t : Bool) → (b == 10) ≡ t → IsPassed mark false true b bs t false
escaped-goes mark b bs t feed =
    let bare : ((b == 10) || false) ≡ t = ap (λ c. c || false) feed ∙ or-false t in (
      λ i. cond (hidden-no mark b i) (Some 0) (cond (hidden-no (opening mark) b i || false) None (one_more (title_inside mark (bare i) (hidden-no 92 b i) bs))),
      λ i. cond (hidden-no mark b i) 0 (cond (hidden-no (opening mark) b i || false) 0 (1 + inside_look mark (bare i) (hidden-no 92 b i) bs)),
    )

-- the mark that closes a title is kept
abbrev pub mark_kept : Local Unit Unit → ℕ
mark_kept local = local.tokenize_state.marker

module _ (g : Given) (text : Text) (m : Plays g text) (r : PlaysResources g text m) (cs : List Choice) (p far : ℕ) (events : List Event) (seats : List Seat) where
  -- a string that begins there, behind these events, of a title that this mark closes; and what is found if so many bytes are in it
  module _ (q0 : ℕ) (l0 : List Seat) (mark : ℕ) (xs : List Event) (f : ℕ → Option Found) (size : Option ℕ)
      (ends : (i q : ℕ) (y : Seat) (ys : List Seat) (after : Local Unit Unit) → 1 ≤ i → q ≡ q0 + i → drop q text.seats ≡ y ∷ ys → size ≡ Some i
      → Finds g text m cs p far events seats (4 * length (y ∷ ys) + 1)
      (stands g text m cs p far events seats (Resource ∷ ResourceTitle ∷ []) q (xs ++ (string_events g.bytes (take i l0) ++ exits_at g text ResourceTitleString q ∷ [])) after) ResourceTitleEnd (f i)) where
    abbrev found : ℕ → Option ℕ → Option Found
    found j o = option_and_then f (behind j o)

    abbrev begins : EventName → Seat → Event
    begins name s = event g.bytes Enter name s.point

    abbrev ReadsOn : List Seat → Type 0
    ReadsOn l =
        (a : Place) (z : List Event) (s0 : Seat) (ss0 : List Seat) (j q : ℕ) (local : Local Unit Unit) → 1 ≤ j → q ≡ q0 + j → drop q text.seats ≡ l → drop j l0 ≡ l → mark_kept local ≡ mark
        → AllPass is_no_line_feed (s0 ∷ ss0) → end_place text q ≡ end_after s0.end ss0 → IsRead g.bytes l0 z (s0 ∷ ss0) j
        → (title_from mark a (bytes_of l) ≡ None → q + look_from mark a (bytes_of l) ≤ far) → size ≡ behind j (title_from mark a (bytes_of l))
        → Finds g text m cs p far events seats (4 * length l + 2) (left g text m cs p far events seats l in_line q (xs ++ (z ++ begins Data s0 ∷ [])) local) (name_of a) (found j (title_from mark a (bytes_of l)))

    abbrev ReadsWhite : List Seat → Type 0
    ReadsWhite l =
        (z : List Event) (w0 : Seat) (ws : List Seat) (j q : ℕ) (local : Local Unit Unit) → 1 ≤ j → q ≡ q0 + j → drop q text.seats ≡ l → drop j l0 ≡ l → mark_kept local ≡ mark
        → AllPass is_white (w0 ∷ ws) → end_place text q ≡ end_after w0.end ws → IsBegun g.bytes l0 z (w0 ∷ ws) j
        → (title_inside mark true false (bytes_of l) ≡ None → q + inside_look mark true false (bytes_of l) ≤ far) → size ≡ behind j (title_inside mark true false (bytes_of l))
        → Finds g text m cs p far events seats (4 * length l + 2) (left g text m cs p far events seats l in_white q (xs ++ (z ++ begins SpaceOrTab w0 ∷ [])) local) ResourceTitleWhite (found j (title_inside mark true false (bytes_of l)))

    abbrev ReadsLine : List Seat → Type 0
    ReadsLine l =
        (z : List Event) (j q : ℕ) (local : Local Unit Unit) → 1 ≤ j → q ≡ q0 + j → drop q text.seats ≡ l → drop j l0 ≡ l → mark_kept local ≡ mark → IsBegun g.bytes l0 z [] j
        → (title_inside mark true false (bytes_of l) ≡ None → q + inside_look mark true false (bytes_of l) ≤ far) → size ≡ behind j (title_inside mark true false (bytes_of l))
        → Finds g text m cs p far events seats (4 * length l + 2) (left g text m cs p far events seats l in_string q (xs ++ z) local) TitleAfterEol (found j (title_inside mark true false (bytes_of l)))

    module _ (s : Seat) (ss : List Seat) (onward : ReadsOn ss) (spaced : ReadsWhite ss) (afresh : ReadsLine ss) (j q : ℕ) (local : Local Unit Unit) (some : 1 ≤ j) (is : q ≡ q0 + j) (at : drop q text.seats ≡ s ∷ ss) (there : drop j l0 ≡ s ∷ ss) (kept : mark_kept local ≡ mark) where
      abbrev calls : ℕ
      calls = 4 * length (s ∷ ss) + 2

      place : q + 1 ≡ q0 + (j + 1)
      place = omega (arith, is)

      -- a mark that waits is the one that was kept
      closing : (t : Bool) → (s.byte == mark) ≡ t → (s.byte == mark_kept local) ≡ t
      closing t h = ap (λ n. s.byte == n) kept ∙ h

      nesting : (t : Bool) → ((s.byte == 40) && (mark == 41)) ≡ t → ((s.byte == 40) && (mark_kept local == 41)) ≡ t
      nesting t h = ap (λ n. (s.byte == 40) && (n == 41)) kept ∙ h

      -- in a line that holds some bytes
      module _ (z : List Event) (s0 : Seat) (ss0 : List Seat) (pass : AllPass is_no_line_feed (s0 ∷ ss0)) (end : end_place text q ≡ end_after s0.end ss0) (read : IsRead g.bytes l0 z (s0 ∷ ss0) j) where
        abbrev x : List Event
        x = xs ++ (z ++ begins Data s0 ∷ [])

        abbrev k : Configuration Unit Unit
        k = stands g text m cs p far events seats in_line q x local

        abbrev Here : Place → Option ℕ → Type 0
        Here a o = Finds g text m cs p far events seats calls k (name_of a) (found j o)

        -- no look passes more
        abbrev Reach : Place → Type 0
        Reach a = title_from mark a (bytes_of (s ∷ ss)) ≡ None → q + look_from mark a (bytes_of (s ∷ ss)) ≤ far

        -- so many bytes it has in all
        abbrev Rest : Place → Type 0
        Rest a = size ≡ behind j (title_from mark a (bytes_of (s ∷ ss)))

        -- a byte more of it is read
        more : (a a' : Place) → Reach a → Rest a → Does g text m k (name_of a) (reads_on [] (name_of a')) → (s.byte == 10) ≡ false → IsPassed mark false (is_hidden a) s.byte (bytes_of ss) false (is_hidden a')
            → Here a (title_from mark a (bytes_of (s ∷ ss)))
        more a a' reach rest has plain goes =
            subst (λ o. Finds g text m cs p far events seats calls k (name_of a) (option_and_then f o)) (sym (ap (behind j) goes.0 ∙ behind-more j (title_from mark a' (bytes_of ss))))
            (reads g text m cs p far events seats (4 * length ss + 2) calls in_line in_line q x x local (counts local) (name_of a) (name_of a') s ss (reads_on [] (name_of a')) (found (j + 1) (title_from mark a' (bytes_of ss)))
            (events ++ x) at (omega arith) (touched-call local) has refl (λ e i. i)
            (onward a' z s0 (ss0 ++ s ∷ []) (j + 1) (q + 1) (counts local) (omega arith) place (drop-next text.seats q s ss at) (drop-next l0 j s ss there) kept (one-passes-more is_no_line_feed (s0 ∷ ss0) s pass (ap not plain))
            (place-behind text q s (at-front text.seats q s ss at) ∙ sym (end-after-one s0.end ss0 s)) (read-more g.bytes l0 z (s0 ∷ ss0) j s ss there read) (λ none. omega (arith, reach (goes.0 ∙ ap one_more none), goes.1)) (rest ∙ ap (behind j) goes.0 ∙ behind-more j (title_from mark a' (bytes_of ss)))))

        -- the line ends
        feeds : (a : Place) → Reach a → Rest a → Does g text m k (name_of a) (ends_line (exit Data ∷ []) TitleAfterEol) → (s.byte == 10) ≡ true → IsPassed mark false (is_hidden a) s.byte (bytes_of ss) true false
            → Here a (title_from mark a (bytes_of (s ∷ ss)))
        feeds a reach rest has feed goes =
            let line = leaf g.bytes LineEnding (s ∷ []) in
            let d = leaf g.bytes Data (s0 ∷ ss0) in
            let z' = z ++ (d ++ line) in
            let es = (((events ++ x) ++ exits_at g text Data q ∷ []) ++ enters_at g text LineEnding q ∷ []) ++ exits_past g text LineEnding q ∷ [] in
            let made : es ≡ events ++ (xs ++ z') =
            line-ending-read g text ((events ++ x) ++ exits_at g text Data q ∷ []) q s ss at ∙ ap (λ y. y ++ line) (part-closed g text events xs Data z s0 ss0 q end)
            ∙ append_assoc events (xs ++ (z ++ d)) line ∙ ap (λ y. events ++ y) (append_assoc xs (z ++ d) line ∙ ap (λ y. xs ++ y) (append_assoc z d line)) in
            subst (λ o. Finds g text m cs p far events seats calls k (name_of a) (option_and_then f o)) (sym (ap (behind j) goes.0 ∙ behind-more j (title_inside mark true false (bytes_of ss))))
            (reads g text m cs p far events seats (4 * length ss + 2) calls in_line in_string q x (xs ++ z') local (counts local) (name_of a) TitleAfterEol s ss (ends_line (exit Data ∷ []) TitleAfterEol)
            (found (j + 1) (title_inside mark true false (bytes_of ss))) es at (omega arith) (touched-call local) has made (λ e i. i)
            (afresh z' (j + 1) (q + 1) (counts local) (omega arith) place (drop-next text.seats q s ss at) (drop-next l0 j s ss there) kept
            (read-feed g.bytes l0 z d (s0 ∷ ss0) j s ss there feed read (λ y. line-first g.bytes s0 ss0 (s ∷ y) pass (ap not feed))) (λ none. omega (arith, reach (goes.0 ∙ ap one_more none), goes.1)) (rest ∙ ap (behind j) goes.0 ∙ behind-more j (title_inside mark true false (bytes_of ss)))))

        -- the title ends
        closes : (a : Place) → Rest a → Does g text m k (name_of a) (row (exit Data ∷ exit ResourceTitleString ∷ []) (Retry ResourceTitleEnd)) → title_from mark a (bytes_of (s ∷ ss)) ≡ Some 0
            → Here a (title_from mark a (bytes_of (s ∷ ss)))
        closes a rest has goes =
            subst (λ o. Finds g text m cs p far events seats calls k (name_of a) (option_and_then f o)) (sym (ap (behind j) goes ∙ none-behind j))
            (stays g text m cs p far events seats (4 * length (s ∷ ss) + 1) calls in_line (Resource ∷ ResourceTitle ∷ []) q x (xs ++ (string_events g.bytes (take j l0) ++ exits_at g text ResourceTitleString q ∷ [])) local (counts local)
            (name_of a) ResourceTitleEnd (row (exit Data ∷ exit ResourceTitleString ∷ []) (Retry ResourceTitleEnd)) (f j)
            (((events ++ x) ++ exits_at g text Data q ∷ []) ++ exits_at g text ResourceTitleString q ∷ []) (omega arith) (touched-call local) has (string-closed g text events xs Data ResourceTitleString (string_events g.bytes (take j l0)) z s0 ss0 q end (line-closed g.bytes l0 z s0 ss0 j pass read)) (λ e i. i)
            (ends j q s ss (counts local) some is at (rest ∙ ap (behind j) goes ∙ none-behind j)))

        refuses : (a : Place) → Reach a → Does g text m k (name_of a) (row [] Nok) → title_from mark a (bytes_of (s ∷ ss)) ≡ None → Here a (title_from mark a (bytes_of (s ∷ ss)))
        refuses a reach has goes = subst (Here a) (sym goes) (fails-here g text m cs p far events seats calls in_line q x local (name_of a) s ss at (omega arith) (omega (arith, reach goes)) has)

        on-escape : Reach escape → Rest escape → Here escape (title_from mark escape (bytes_of (s ∷ ss)))
        on-escape reach rest =
            let has = here g text m title_escape_rows TitleEscape in_line q (events ++ x) local s ss at r.title_escape in
            elim (s.byte == 10) as (λ t. (s.byte == 10) ≡ t → Here escape (title_from mark escape (bytes_of (s ∷ ss)))) [
              | true ↦ λ feed. feeds escape reach rest (yes g text m k TitleEscape has (seen g text m (λ b. b == 10) true q s ss at feed)) feed (escaped-goes mark s.byte (bytes_of ss) true feed)
              | false ↦ λ plain. more escape inside reach rest (no g text m k TitleEscape has (seen g text m (λ b. b == 10) false q s ss at plain)) plain (escaped-goes mark s.byte (bytes_of ss) false plain)
            ] refl

        on-inside : Reach inside → Rest inside → Here inside (title_from mark inside (bytes_of (s ∷ ss)))
        on-inside reach rest =
            let b = s.byte in
            let bs = bytes_of ss in
            let Now = Here inside (title_from mark inside (bytes_of (s ∷ ss))) in
            let has = here g text m title_inside_rows TitleInside in_line q (events ++ x) local s ss at r.title_inside in
            elim (b == mark) as (λ t. (b == mark) ≡ t → Now) [
              | true ↦ λ e. closes inside rest (yes g text m k TitleInside has (seen g text m (λ c. c == mark_kept local) true q s ss at (closing true e))) (title-ends mark false b bs e)
              | false ↦ λ e.
                  let has1 = no g text m k TitleInside has (seen g text m (λ c. c == mark_kept local) false q s ss at (closing false e)) in
                  elim ((b == 40) && (mark == 41)) as (λ t. ((b == 40) && (mark == 41)) ≡ t → Now) [
                    | true ↦ λ n. refuses inside reach (yes g text m k TitleInside has1 (seen g text m (λ c. (c == 40) && (mark_kept local == 41)) true q s ss at (nesting true n))) (title-nests mark false b bs e n)
                    | false ↦ λ n.
                        let has2 = no g text m k TitleInside has1 (seen g text m (λ c. (c == 40) && (mark_kept local == 41)) false q s ss at (nesting false n)) in
                        elim (b == 10) as (λ t. (b == 10) ≡ t → Now) [
                          | true ↦ λ feed.
                              feeds inside reach rest (yes g text m k TitleInside has2 (seen g text m (λ c. c == 10) true q s ss at feed)) feed
                              (title-goes mark false b bs true false e n refl (ap (λ t. t || false) feed) (unlike (λ c. c == 10) 92 refl b feed))
                          | false ↦ λ plain.
                              let has3 = no g text m k TitleInside has2 (seen g text m (λ c. c == 10) false q s ss at plain) in
                              elim (b == 92) as (λ t. (b == 92) ≡ t → Now) [
                                | true ↦ λ w.
                                    more inside escape reach rest (yes g text m k TitleInside has3 (seen g text m (λ c. c == 92) true q s ss at w)) plain (title-goes mark false b bs false true e n refl (ap (λ t. t || false) plain) w)
                                | false ↦ λ w.
                                    more inside inside reach rest (no g text m k TitleInside has3 (seen g text m (λ c. c == 92) false q s ss at w)) plain (title-goes mark false b bs false false e n refl (ap (λ t. t || false) plain) w)
                              ] refl
                        ] refl
                  ] refl
            ] refl

      -- in a further line: how many bytes are left of the title, and what is known of that
      abbrev total : Option ℕ
      total = title_inside mark true false (bytes_of (s ∷ ss))

      abbrev Within : Type 0
      Within = total ≡ None → q + inside_look mark true false (bytes_of (s ∷ ss)) ≤ far

      abbrev IsAll : Type 0
      IsAll = size ≡ behind j total

      -- behind events, in these spans, at one of its states
      abbrev Now : List EventName → List Event → Name → Option ℕ → Type 0
      Now stack x name o = Finds g text m cs p far events seats calls (stands g text m cs p far events seats stack q x local) name (found j o)

      abbrev Doing : List EventName → List Event → Name → Rows Unit Unit → Type 0
      Doing stack x name rows = Does g text m (stands g text m cs p far events seats stack q x local) name rows

      -- data of it begins
      data-begins : (stack : List EventName) (x : List Event) (name : Name) (rows : Rows Unit Unit) (es z : List Event) (a : Place) → Within → IsAll → Doing stack x name rows → es ≡ events ++ (xs ++ (z ++ begins Data s ∷ []))
          → ((e : Ending) → EndsWith g text m (held in_line (q + 1) Nothing false es (counts local)) cs (Next (name_of a)) e → WithRows g text m (stands g text m cs p far events seats stack q x local) cs e rows)
          → (s.byte == 10) ≡ false → IsRead g.bytes l0 z (s ∷ []) (j + 1) → IsPassed mark true false s.byte (bytes_of ss) false (is_hidden a) → Now stack x name total
      data-begins stack x name rows es z a reach rest has made ending plain read goes =
          subst (λ o. Finds g text m cs p far events seats calls (stands g text m cs p far events seats stack q x local) name (option_and_then f o)) (sym (ap (behind j) goes.0 ∙ behind-more j (title_from mark a (bytes_of ss))))
          (reads g text m cs p far events seats (4 * length ss + 2) calls stack in_line q x (xs ++ (z ++ begins Data s ∷ [])) local (counts local) name (name_of a) s ss rows
          (found (j + 1) (title_from mark a (bytes_of ss))) es at (omega arith) (touched-call local) has made ending
          (onward a z s [] (j + 1) (q + 1) (counts local) (omega arith) place (drop-next text.seats q s ss at) (drop-next l0 j s ss there) kept (ap not plain, tt) (place-behind text q s (at-front text.seats q s ss at))
          read (λ none. omega (arith, reach (goes.0 ∙ ap one_more none), goes.1)) (rest ∙ ap (behind j) goes.0 ∙ behind-more j (title_from mark a (bytes_of ss)))))

      -- white space before it goes on, or begins
      white-goes : (stack : List EventName) (x : List Event) (name : Name) (rows : Rows Unit Unit) (es z : List Event) (w0 : Seat) (ws : List Seat) → Within → IsAll → Doing stack x name rows → es ≡ events ++ (xs ++ (z ++ begins SpaceOrTab w0 ∷ []))
          → ((e : Ending) → EndsWith g text m (held in_white (q + 1) Nothing false es (counts local)) cs (Next ResourceTitleWhite) e → WithRows g text m (stands g text m cs p far events seats stack q x local) cs e rows)
          → AllPass is_white (w0 ∷ ws) → end_place text (q + 1) ≡ end_after w0.end ws → IsBegun g.bytes l0 z (w0 ∷ ws) (j + 1) → IsPassed mark true false s.byte (bytes_of ss) true false → Now stack x name total
      white-goes stack x name rows es z w0 ws reach rest has made ending pass end read goes =
          subst (λ o. Finds g text m cs p far events seats calls (stands g text m cs p far events seats stack q x local) name (option_and_then f o)) (sym (ap (behind j) goes.0 ∙ behind-more j (title_inside mark true false (bytes_of ss))))
          (reads g text m cs p far events seats (4 * length ss + 2) calls stack in_white q x (xs ++ (z ++ begins SpaceOrTab w0 ∷ [])) local (counts local) name ResourceTitleWhite s ss rows
          (found (j + 1) (title_inside mark true false (bytes_of ss))) es at (omega arith) (touched-call local) has made ending
          (spaced z w0 ws (j + 1) (q + 1) (counts local) (omega arith) place (drop-next text.seats q s ss at) (drop-next l0 j s ss there) kept pass end
          read (λ none. omega (arith, reach (goes.0 ∙ ap one_more none), goes.1)) (rest ∙ ap (behind j) goes.0 ∙ behind-more j (title_inside mark true false (bytes_of ss)))))

      -- the title ends before data of it
      line-closes : (stack : List EventName) (x : List Event) (name : Name) (rows : Rows Unit Unit) (es : List Event) → IsAll → Doing stack x name rows → es ≡ events ++ (xs ++ (string_events g.bytes (take j l0) ++ exits_at g text ResourceTitleString q ∷ []))
          → ((e : Ending) → EndsWith g text m (held (Resource ∷ ResourceTitle ∷ []) q Byte false es (counts local)) cs (Retry ResourceTitleEnd) e → WithRows g text m (stands g text m cs p far events seats stack q x local) cs e rows)
          → total ≡ Some 0 → Now stack x name total
      line-closes stack x name rows es rest has made ending goes =
          subst (λ o. Finds g text m cs p far events seats calls (stands g text m cs p far events seats stack q x local) name (option_and_then f o)) (sym (ap (behind j) goes ∙ none-behind j))
          (stays g text m cs p far events seats (4 * length (s ∷ ss) + 1) calls stack (Resource ∷ ResourceTitle ∷ []) q x (xs ++ (string_events g.bytes (take j l0) ++ exits_at g text ResourceTitleString q ∷ [])) local (counts local)
          name ResourceTitleEnd rows (f j) es (omega arith) (touched-call local) has made ending
          (ends j q s ss (counts local) some is at (rest ∙ ap (behind j) goes ∙ none-behind j)))

      line-refuses : (stack : List EventName) (x : List Event) (name : Name) → Within → Doing stack x name (row [] Nok) → total ≡ None → Now stack x name total
      line-refuses stack x name reach has goes =
          subst (Now stack x name) (sym goes) (fails-here g text m cs p far events seats calls stack q x local name s ss at (omega arith) (omega (arith, reach goes)) has)

      -- in white space before it
      module _ (z : List Event) (w0 : Seat) (ws : List Seat) (pass : AllPass is_white (w0 ∷ ws)) (end : end_place text q ≡ end_after w0.end ws) (read : IsBegun g.bytes l0 z (w0 ∷ ws) j) (reach : Within) (rest : IsAll) where
        abbrev xw : List Event
        xw = xs ++ (z ++ begins SpaceOrTab w0 ∷ [])

        abbrev kw : Configuration Unit Unit
        kw = stands g text m cs p far events seats in_white q xw local

        abbrev HereWhite : Type 0
        HereWhite = Now in_white xw ResourceTitleWhite total

        abbrev white : List Event
        white = leaf g.bytes SpaceOrTab (w0 ∷ ws)

        -- its first byte is read
        first-data : (a : Place) → Does g text m kw ResourceTitleWhite (reads_on (exit SpaceOrTab ∷ enter Data ∷ []) (name_of a)) → (s.byte == 10) ≡ false → is_white s.byte ≡ false
            → IsPassed mark true false s.byte (bytes_of ss) false (is_hidden a) → HereWhite
        first-data a has plain other goes =
            data-begins in_white xw ResourceTitleWhite (reads_on (exit SpaceOrTab ∷ enter Data ∷ []) (name_of a)) (((events ++ xw) ++ exits_at g text SpaceOrTab q ∷ []) ++ enters_at g text Data q ∷ []) (z ++ white) a reach rest has
            (ap (λ y. y ++ enters_at g text Data q ∷ []) (part-closed g text events xs SpaceOrTab z w0 ws q end) ∙ part-begun g text events xs Data (z ++ white) q s ss at) (λ e i. i) plain
            (read-first g.bytes l0 z (z ++ white) (w0 ∷ ws) j s ss there pass other refl read) goes

        on-white : HereWhite
        on-white =
            let b = s.byte in
            let bs = bytes_of ss in
            let has = here g text m title_white_rows ResourceTitleWhite in_white q (events ++ xw) local s ss at r.title_white in
            elim (b == mark) as (λ t. (b == mark) ≡ t → HereWhite) [
              | true ↦ λ e. line-closes in_white xw ResourceTitleWhite (row (exit SpaceOrTab ∷ exit ResourceTitleString ∷ []) (Retry ResourceTitleEnd)) (((events ++ xw) ++ exits_at g text SpaceOrTab q ∷ []) ++ exits_at g text ResourceTitleString q ∷ []) rest
                  (yes g text m kw ResourceTitleWhite has (seen g text m (λ c. c == mark_kept local) true q s ss at (closing true e)))
                  (string-closed g text events xs SpaceOrTab ResourceTitleString (string_events g.bytes (take j l0)) z w0 ws q end (white-closed g.bytes l0 z (w0 ∷ ws) j pass read)) (λ e i. i) (title-ends mark true b bs e)
              | false ↦ λ e.
                  let has1 = no g text m kw ResourceTitleWhite has (seen g text m (λ c. c == mark_kept local) false q s ss at (closing false e)) in
                  elim ((b == 40) && (mark == 41)) as (λ t. ((b == 40) && (mark == 41)) ≡ t → HereWhite) [
                    | true ↦ λ n. line-refuses in_white xw ResourceTitleWhite reach (yes g text m kw ResourceTitleWhite has1 (seen g text m (λ c. (c == 40) && (mark_kept local == 41)) true q s ss at (nesting true n))) (title-nests mark true b bs e n)
                    | false ↦ λ n.
                        let has2 = no g text m kw ResourceTitleWhite has1 (seen g text m (λ c. (c == 40) && (mark_kept local == 41)) false q s ss at (nesting false n)) in
                        elim (b == 10) as (λ t. (b == 10) ≡ t → HereWhite) [
                          | true ↦ λ feed. line-refuses in_white xw ResourceTitleWhite reach (yes g text m kw ResourceTitleWhite has2 (seen g text m (λ c. c == 10) true q s ss at feed)) (title-blank mark b bs e n feed)
                          | false ↦ λ plain.
                              let has3 = no g text m kw ResourceTitleWhite has2 (seen g text m (λ c. c == 10) false q s ss at plain) in
                              elim (is_white b) as (λ t. is_white b ≡ t → HereWhite) [
                                | true ↦ λ v.
                                    white-goes in_white xw ResourceTitleWhite (reads_on [] ResourceTitleWhite) (events ++ xw) z w0 (ws ++ s ∷ []) reach rest (yes g text m kw ResourceTitleWhite has3 (seen g text m is_white true q s ss at v)) refl (λ e i. i)
                                    (one-passes-more is_white (w0 ∷ ws) s pass v) (place-behind text q s (at-front text.seats q s ss at) ∙ sym (end-after-one w0.end ws s)) (white-more g.bytes l0 z (w0 ∷ ws) j s ss there read)
                                    (title-goes mark true b bs true false e n plain (λ i. plain i || v i) (unlike is_white 92 refl b v))
                                | false ↦ λ v.
                                    let has4 = no g text m kw ResourceTitleWhite has3 (seen g text m is_white false q s ss at v) in
                                    elim (b == 92) as (λ t. (b == 92) ≡ t → HereWhite) [
                                      | true ↦ λ w.
                                          first-data escape (yes g text m kw ResourceTitleWhite has4 (seen g text m (λ c. c == 92) true q s ss at w)) plain v (title-goes mark true b bs false true e n plain (λ i. plain i || v i) w)
                                      | false ↦ λ w.
                                          first-data inside (no g text m kw ResourceTitleWhite has4 (seen g text m (λ c. c == 92) false q s ss at w)) plain v (title-goes mark true b bs false false e n plain (λ i. plain i || v i) w)
                                    ] refl
                              ] refl
                        ] refl
                  ] refl
            ] refl

      -- at its beginning
      module _ (z : List Event) (read : IsBegun g.bytes l0 z [] j) (reach : Within) (rest : IsAll) where
        abbrev k0 : Configuration Unit Unit
        k0 = stands g text m cs p far events seats in_string q (xs ++ z) local

        abbrev Here0 : Type 0
        Here0 = Now in_string (xs ++ z) TitleAfterEol total

        first : (a : Place) → Does g text m k0 TitleAfterEol (reads_on (enter Data ∷ []) (name_of a)) → (s.byte == 10) ≡ false → is_white s.byte ≡ false → IsPassed mark true false s.byte (bytes_of ss) false (is_hidden a) → Here0
        first a has plain other goes =
            data-begins in_string (xs ++ z) TitleAfterEol (reads_on (enter Data ∷ []) (name_of a)) ((events ++ (xs ++ z)) ++ enters_at g text Data q ∷ []) z a reach rest has (part-begun g text events xs Data z q s ss at) (λ e i. i) plain
            (read-first g.bytes l0 z z [] j s ss there tt other (append-nil z) read) goes

        on-line : Here0
        on-line =
            let b = s.byte in
            let bs = bytes_of ss in
            let has = here g text m title_line_rows TitleAfterEol in_string q (events ++ (xs ++ z)) local s ss at r.title_line in
            elim (b == mark) as (λ t. (b == mark) ≡ t → Here0) [
              | true ↦ λ e.
                  line-closes in_string (xs ++ z) TitleAfterEol (row (exit ResourceTitleString ∷ []) (Retry ResourceTitleEnd)) ((events ++ (xs ++ z)) ++ exits_at g text ResourceTitleString q ∷ []) rest
                  (yes g text m k0 TitleAfterEol has (seen g text m (λ c. c == mark_kept local) true q s ss at (closing true e)))
                  (append_assoc events (xs ++ z) (exits_at g text ResourceTitleString q ∷ []) ∙ ap (λ y. events ++ y) (append_assoc xs z (exits_at g text ResourceTitleString q ∷ []) ∙ ap (λ y. xs ++ (y ++ exits_at g text ResourceTitleString q ∷ [])) (sym (white-closed g.bytes l0 z [] j tt read ∙ append-nil z))))
                  (λ e i. i) (title-ends mark true b bs e)
              | false ↦ λ e.
                  let has1 = no g text m k0 TitleAfterEol has (seen g text m (λ c. c == mark_kept local) false q s ss at (closing false e)) in
                  elim ((b == 40) && (mark == 41)) as (λ t. ((b == 40) && (mark == 41)) ≡ t → Here0) [
                    | true ↦ λ n.
                        line-refuses in_string (xs ++ z) TitleAfterEol reach (yes g text m k0 TitleAfterEol has1 (seen g text m (λ c. (c == 40) && (mark_kept local == 41)) true q s ss at (nesting true n))) (title-nests mark true b bs e n)
                    | false ↦ λ n.
                        let has2 = no g text m k0 TitleAfterEol has1 (seen g text m (λ c. (c == 40) && (mark_kept local == 41)) false q s ss at (nesting false n)) in
                        elim (b == 10) as (λ t. (b == 10) ≡ t → Here0) [
                          | true ↦ λ feed. line-refuses in_string (xs ++ z) TitleAfterEol reach (yes g text m k0 TitleAfterEol has2 (seen g text m (λ c. c == 10) true q s ss at feed)) (title-blank mark b bs e n feed)
                          | false ↦ λ plain.
                              let has3 = no g text m k0 TitleAfterEol has2 (seen g text m (λ c. c == 10) false q s ss at plain) in
                              elim (is_white b) as (λ t. is_white b ≡ t → Here0) [
                                | true ↦ λ v.
                                    white-goes in_string (xs ++ z) TitleAfterEol (reads_on (enter SpaceOrTab ∷ []) ResourceTitleWhite) ((events ++ (xs ++ z)) ++ enters_at g text SpaceOrTab q ∷ []) z s [] reach rest (yes g text m k0 TitleAfterEol has3 (seen g text m is_white true q s ss at v))
                                    (part-begun g text events xs SpaceOrTab z q s ss at) (λ e i. i) (v, tt) (place-behind text q s (at-front text.seats q s ss at)) (white-more g.bytes l0 z [] j s ss there read) (title-goes mark true b bs true false e n plain (λ i. plain i || v i) (unlike is_white 92 refl b v))
                                | false ↦ λ v.
                                    let has4 = no g text m k0 TitleAfterEol has3 (seen g text m is_white false q s ss at v) in
                                    elim (b == 92) as (λ t. (b == 92) ≡ t → Here0) [
                                      | true ↦ λ w.
                                          first escape (yes g text m k0 TitleAfterEol has4 (seen g text m (λ c. c == 92) true q s ss at w)) plain v (title-goes mark true b bs false true e n plain (λ i. plain i || v i) w)
                                      | false ↦ λ w.
                                          first inside (no g text m k0 TitleAfterEol has4 (seen g text m (λ c. c == 92) false q s ss at w)) plain v (title-goes mark true b bs false false e n plain (λ i. plain i || v i) w)
                                    ] refl
                              ] refl
                        ] refl
                  ] refl
            ] refl

    -- So it is read, from each of its bytes on
    pub reads-title : (l : List Seat) → ReadsOn l × (ReadsWhite l × ReadsLine l)
    reads-title [] = (
      λ a z s0 ss0 j q local some is at there kept pass end read short rest.
          elim a as (λ a. Finds g text m cs p far events seats (4 * 0 + 2) (left g text m cs p far events seats [] in_line q (xs ++ (z ++ begins Data s0 ∷ [])) local) (name_of a) None) [
            | inside ↦ fails g text m cs p far events seats (4 * 0 + 2) [] in_line q (xs ++ (z ++ begins Data s0 ∷ [])) local TitleInside at (omega arith) (omega (arith, short refl)) (r.title_inside _)
            | escape ↦ fails g text m cs p far events seats (4 * 0 + 2) [] in_line q (xs ++ (z ++ begins Data s0 ∷ [])) local TitleEscape at (omega arith) (omega (arith, short refl)) (r.title_escape _)
          ],
      (
        λ z w0 ws j q local some is at there kept pass end read short rest. fails g text m cs p far events seats (4 * 0 + 2) [] in_white q (xs ++ (z ++ begins SpaceOrTab w0 ∷ [])) local ResourceTitleWhite at (omega arith) (omega (arith, short refl)) (r.title_white _),
        λ z j q local some is at there kept read short rest. fails g text m cs p far events seats (4 * 0 + 2) [] in_string q (xs ++ z) local TitleAfterEol at (omega arith) (omega (arith, short refl)) (r.title_line _),
      ),
    )
    reads-title (s ∷ ss) =
        let ih = reads-title ss in (
          λ a z s0 ss0 j q local some is at there kept pass end read short rest.
              elim a as (λ a. (title_from mark a (bytes_of (s ∷ ss)) ≡ None → q + look_from mark a (bytes_of (s ∷ ss)) ≤ far) → size ≡ behind j (title_from mark a (bytes_of (s ∷ ss)))
              → Finds g text m cs p far events seats (4 * length (s ∷ ss) + 2) (stands g text m cs p far events seats in_line q (xs ++ (z ++ begins Data s0 ∷ [])) local) (name_of a) (found j (title_from mark a (bytes_of (s ∷ ss))))) [
                | inside ↦ λ reach rest. on-inside s ss ih.0 ih.1.0 ih.1.1 j q local some is at there kept z s0 ss0 pass end read reach rest
                | escape ↦ λ reach rest. on-escape s ss ih.0 ih.1.0 ih.1.1 j q local some is at there kept z s0 ss0 pass end read reach rest
              ] short rest,
          (
            λ z w0 ws j q local some is at there kept pass end read short rest. on-white s ss ih.0 ih.1.0 ih.1.1 j q local some is at there kept z w0 ws pass end read short rest,
            λ z j q local some is at there kept read short rest. on-line s ss ih.0 ih.1.0 ih.1.1 j q local some is at there kept z read short rest,
          ),
        )
