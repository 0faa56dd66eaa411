-- Data, and what the state between constructs reads itself, brackets and ends of labels too, are read with what is known, and paid.
use Rattle.markdown_tokenizer.specs.declared.tokenizer.state.LabelKind.TheVariants.{Image, Link}
use Rattle.markdown_tokenizer.specs.declared.tokenizer.state.LabelStart.{LabelStart}
use Rattle.std.proofs.lemmas.List.{length-append}
use Rattle.std.proofs.lemmas.Bool.{or_parts}
use Rattle.mdinline_machine.proofs.Prelude.{◌≡◌, ℕ, suc, ◌+◌, ◌*◌, ◌<◌, ◌≤◌, ◌&&◌, ◌||◌, not, List, [], ◌∷◌, ◌++◌, Bool, true, false, cond, Option, Some, None, refl, sym, ap, ◌∙◌, subst, arith, and-false, or-false, nat_tests, length, take, drop, drop-drop, length-map, option_map, Constructs, has_byte_at, Event, Name, Retry, TextBefore, TextBeforeData, Seat, Byte, byte_of, at-front, Local, Given, IsText, Text, is_white, is_line_feed, is_backtick, passes, row, Found, or_else, item_length, item_events, between_texts, bytes_of, text_byte, AddsFrom, AddsItemIn, first_byte, after-call, after-more, IsAfter, counts, remembered, spent, Plays, between_items, leads-row, reverse, Bracket, Memory, begins_bracket, begins_end, begins_image, begins_link, begins_run, bracket_at, end_at, image_bracket, is_image_bracket, is_of_bracket, is_open_bracket, label_end, link_bracket, lone_end, waiting_behind}
use Rattle.mdinline_machine.specs.BracketRows.{started, without_last}
use Rattle.mdinline_machine.proofs.BracketBytes.{no-bracket, tail-within}
use Rattle.mdinline_machine.proofs.BracketReads.{AddsBracket, fails-image, reads-image, reads-link, reads-lone}
use Rattle.mdinline_machine.proofs.EndReads.{EndRead, reads-end}
use Rattle.mdinline_machine.specs.Brackets.{tail_of}
use Rattle.mdinline_machine.proofs.Budgets.{GoDown, IsSound, Pays, Prices, adds-paid, budgeted, extra, total, total-behind}
use Rattle.mdinline_machine.proofs.DataBytes.{joined_part}
use Rattle.mdinline_machine.proofs.FrontRuns.{data-run, no-backticks, own-no-tick}
use Rattle.mdinline_machine.proofs.InlineApart.{begins_mark}
use Rattle.mdinline_machine.proofs.InlinePrices.{IsTextMemory, TextMemory, inline-down, inline-sound, inline_prices, pays-enough, pays-look, remembered-behind}
use Rattle.mdinline_machine.proofs.JoinedItems.{joined_other, other-within, some-other}
use Rattle.mdinline_machine.proofs.PartReads.{data-read-in, is_own, own-read-in, part_calls, unbracketed}
use Rattle.mdinline_machine.proofs.PlainItems.{IsPlain, unbracketed-plain}
use Rattle.mdinline_machine.proofs.Playing.{bracket-so, ends-as-data, image-no-end, inlines_play, no-run-there}
use Rattle.mdinline_machine.proofs.TailLooks.{look_calls}
use Rattle.mdinline_machine.proofs.Waiting.{Keeps, keeps-less, keeps-made, keeps-more, none-kept, one-kept}
use Rattle.mdinline_machine.proofs.WhiteBytes.{white-none, white_or}

module _ (defined : List ℕ → Bool) (g : Given) (text : Text) (is-text : IsText g text) (memory : TextMemory) (is : IsTextMemory memory) (budget : ℕ) (q : Memory) (p : ℕ) (ended : Bool) (events : List Event) (local : Local Unit Unit) (s : Seat) (ss : List Seat) (here : drop p text.seats ≡ s ∷ ss) where
  abbrev on : Constructs
  on = g.options.constructs

  abbrev m : Plays g text
  m = inlines_play defined g text

  abbrev x : Prices Memory
  x = inline_prices defined g text memory

  abbrev down : GoDown x.potentials
  down = inline-down defined g text memory is budget

  abbrev sound : IsSound g text x
  sound = inline-sound defined g text memory is budget

  abbrev l : List Seat
  l = s ∷ ss

  abbrev bytes : List ℕ
  bytes = bytes_of l

  -- what is paid before an item
  abbrev IsPaid : Type 0
  IsPaid = spent local + (total x.potentials (remembered local) ss + x.fixed l) ≤ budget + extra text on x budget l + 1

  -- from a state an item is read, with what is known
  abbrev Adds : Name → Found → Type 0
  Adds name item = AddsFrom g text m.step between_texts text_byte item_length (item_events g.bytes) (budgeted text on x budget) q (between_items p Byte ended events local) (Retry name) p events l item

  -- where no bracket and no end begins, none is there
  unbracketed-is : begins_bracket on s.byte ≡ false → unbracketed on bytes ≡ joined_other on defined g.bytes q bytes
  unbracketed-is none = sym (ap (white_or on bytes) (no-bracket on defined g.bytes q s.byte (bytes_of ss) (joined_part on bytes) none))

  inside : item_length (joined_other on defined g.bytes q bytes) ≤ length l
  inside = omega (arith, other-within on defined g.bytes q s.byte (bytes_of ss), length-map l (λ (s : Seat). s.byte))

  -- a plain item that is there and was read in few calls is paid
  plain-paid : (name : Name) (n : ℕ) (item : Found) → item ≡ joined_other on defined g.bytes q bytes → IsPlain item → is_backtick s.byte ≡ false → n ≤ 7 * item_length item + 28 → x.sound q p events (remembered local) → IsPaid
      → AddsItemIn g text m between_texts n (between_items p Byte ended events local) (Retry name) p events l item → Adds name (joined_other on defined g.bytes q bytes)
  plain-paid name n item there mark tick few known paid read =
      let size : item_length item ≡ item_length (joined_other on defined g.bytes q bytes) = ap item_length there in
      let some : 0 < item_length item = omega (arith, size, some-other on defined g.bytes q s.byte (bytes_of ss)) in
      let fits : item_length item ≤ length l = omega (arith, size, inside) in
      subst (Adds name) there
      (adds-paid g text m between_texts x budget down sound q n name p ended events local s ss item here mark known paid
      (pays-enough defined g text memory is budget n (item_length item) l some fits (omega (arith, no-backticks s.byte (bytes_of ss) tick)) few) read)

  -- ---- data
  pub data-is : is_own on s.byte ≡ false → x.sound q p events (remembered local) → IsPaid → Adds TextBeforeData (joined_other on defined g.bytes q bytes)
  data-is plain known paid =
      let (line, rest) = or_parts (is_line_feed s.byte) (begins_mark on s.byte || is_white s.byte) plain in
      let (marks, white) = or_parts (begins_mark on s.byte) (is_white s.byte) rest in
      let (run, none) = or_parts (begins_run on s.byte) (begins_bracket on s.byte) marks in
      let item = unbracketed on bytes in
      let there = unbracketed-is none in
      let size : item_length item ≡ item_length (joined_other on defined g.bytes q bytes) = ap item_length there in
      let some : 0 < item_length item = omega (arith, size, some-other on defined g.bytes q s.byte (bytes_of ss)) in
      let fits : item_length item ≤ length l = omega (arith, size, inside) in
      subst (Adds TextBeforeData) there
      (adds-paid g text m between_texts x budget down sound q (part_calls (item_length item)) TextBeforeData p ended events local s ss item here (unbracketed-plain on s.byte (bytes_of ss)) known paid
      (pays-enough defined g text memory is budget (part_calls (item_length item)) (item_length item) l some fits (data-run on s.byte (bytes_of ss) line run white) (omega arith))
      (data-read-in defined g text p ended events local s ss here line run white))

  -- ---- brackets
  some-events : (es : List Event) → 0 < length es → 0 < length (events ++ es)
  some-events es some = omega (arith, length-append events es, some)

  module _ (known : x.sound q p events (remembered local)) (paid : IsPaid) (begins : begins_bracket on s.byte ≡ true) where
    of-bracket : is_of_bracket s.byte ≡ true
    of-bracket = bracket-so on s.byte begins

    no-white : is_white s.byte ≡ false
    no-white = grind (arith, nat_tests, of-bracket)

    no-line : is_line_feed s.byte ≡ false
    no-line = grind (arith, nat_tests, of-bracket)

    no-tick : is_backtick s.byte ≡ false
    no-tick = grind (arith, nat_tests, of-bracket)

    no-run : begins_run on s.byte ≡ false
    no-run = no-run-there on s.byte of-bracket

    -- how many events there are behind an item
    abbrev behind : Found → ℕ
    behind item = length (events ++ item_events g.bytes (item, take (item_length item) l))

    -- what is there, by the bracket or the end that is
    joined-is : (o : Option Found) → bracket_at on defined g.bytes q bytes ≡ o → or_else o (joined_part on bytes) ≡ joined_other on defined g.bytes q bytes
    joined-is o e = ap (λ o. or_else o (joined_part on bytes)) (sym e) ∙ sym (white-none on s.byte (bytes_of ss) (or_else (bracket_at on defined g.bytes q bytes) (joined_part on bytes)) no-white)

    as-data : bracket_at on defined g.bytes q bytes ≡ None → unbracketed on bytes ≡ joined_other on defined g.bytes q bytes
    as-data e = white-none on s.byte (bytes_of ss) (joined_part on bytes) no-white ∙ joined-is None e

    -- a bracket or an end that was read is paid
    bracket-paid : (n : ℕ) (starts : List LabelStart) (item : Found) → item ≡ joined_other on defined g.bytes q bytes → Keeps (waiting_behind item.mark (behind item) q.waiting) starts → Pays text on x budget n (item_length item) l
        → AddsBracket defined g text n starts p ended events local l item → Adds TextBefore (joined_other on defined g.bytes q bytes)
    bracket-paid n starts item there keeps pays d =
        let after = d.1 in
        let r = remembered local in
        let size = item_length item in
        let left = drop size l in
        let place : drop (p + size) text.seats ≡ left = sym (drop-drop size p text.seats) ∙ ap (drop size) here in
        let code = is.unstarted_code r (remembered after) d.2.same left in
        let marks = is.unstarted_marks r (remembered after) d.2.same left in
        subst (Adds TextBefore) there (
          d.0,
          after,
          (
            (is.unstarted_sound r (remembered after) d.2.same (p + size) (is.later p (p + size) r (omega arith) known.0), remembered-behind g.bytes text q p events r.starts (remembered after).starts s ss item here known.1 (subst (Keeps (waiting_behind item.mark (behind item) q.waiting)) (sym d.2.starts_are) keeps)),
            subst (λ l. spent after + (total x.potentials (remembered after) l + x.fixed l) ≤ budget) (sym place) (omega (arith, code, marks, d.2.calls, pays.1, paid, total-behind x.potentials down size r s ss pays.0)),
          ),
          d.3,
        )

    -- data is read behind so many calls
    data-behind : (k : ℕ) (after : Local Unit Unit) → IsAfter k local after → k ≤ 4 → bracket_at on defined g.bytes q bytes ≡ None
        → ((item : Found) → AddsItemIn g text m between_texts (part_calls (item_length item)) (between_items p Byte ended events after) (Retry TextBeforeData) p events l item
        → AddsItemIn g text m between_texts (k + part_calls (item_length item)) (between_items p Byte ended events local) (Retry TextBefore) p events l item)
        → Adds TextBefore (joined_other on defined g.bytes q bytes)
    data-behind k after once few none onward =
        let item = unbracketed on bytes in
        plain-paid TextBefore (k + part_calls (item_length item)) item (as-data none) (unbracketed-plain on s.byte (bytes_of ss)) no-tick (omega (arith, few)) known paid
        (onward item (data-read-in defined g text p ended events after s ss here no-line no-run no-white))

    -- `[`
    link-is : begins_link on s.byte ≡ true → Adds TextBefore (joined_other on defined g.bytes q bytes)
    link-is link =
        let there : bracket_at on defined g.bytes q bytes ≡ Some link_bracket = ap (λ t. cond t (Some link_bracket) (cond (is_image_bracket on bytes) (Some image_bracket) (cond (begins_end on s.byte) (end_at defined g.bytes q.waiting q (bytes_of ss)) None))) link in
        bracket-paid 2 _ link_bracket (joined-is (Some link_bracket) there) (keeps-more q.waiting (remembered local).starts Link (behind link_bracket) (some-events (item_events g.bytes (link_bracket, s ∷ [])) (omega arith)) known.1.keeps)
        (pays-enough defined g text memory is budget 2 1 l (omega arith) (omega arith) (omega (arith, no-backticks s.byte (bytes_of ss) no-tick)) (omega arith)) (reads-link defined g text p ended events local s ss here link)

    -- `!`
    module _ (no-link : begins_link on s.byte ≡ false) where
      image-there : (t : Bool) → is_image_bracket on bytes ≡ t → bracket_at on defined g.bytes q bytes ≡ cond t (Some image_bracket) (cond (begins_end on s.byte) (end_at defined g.bytes q.waiting q (bytes_of ss)) None)
      image-there t e =
          ap (λ t. cond t (Some link_bracket) (cond (is_image_bracket on bytes) (Some image_bracket) (cond (begins_end on s.byte) (end_at defined g.bytes q.waiting q (bytes_of ss)) None))) no-link
          ∙ ap (λ t. cond t (Some image_bracket) (cond (begins_end on s.byte) (end_at defined g.bytes q.waiting q (bytes_of ss)) None)) e

      image-data : begins_image on s.byte ≡ true → begins_end on s.byte ≡ false → passes is_open_bracket (first_byte ss) ≡ false → is_image_bracket on bytes ≡ false → Adds TextBefore (joined_other on defined g.bytes q bytes)
      image-data image no-end none other =
          let after = counts (counts (counts local)) in
          let thrice : IsAfter 3 local after = record { calls = omega arith; same = refl } in
          data-behind 3 after thrice (omega arith) (image-there false other ∙ ap (λ t. cond t (end_at defined g.bytes q.waiting q (bytes_of ss)) None) no-end)
          (λ item read. (read.0, read.1, after-more 3 (part_calls (item_length item)) local after read.1 thrice read.2, λ es h. fails-image defined g text p ended events local s ss here image none es (read.3 es h)))

      image-is : begins_image on s.byte ≡ true → begins_end on s.byte ≡ false → (vs : List Seat) → ss ≡ vs → Adds TextBefore (joined_other on defined g.bytes q bytes)
      image-is image no-end [] e =
          image-data image no-end (ap (λ l. passes is_open_bracket (first_byte l)) e) (ap (λ l. is_image_bracket on (s.byte ∷ bytes_of l)) e ∙ and-false (begins_image on s.byte))
      image-is image no-end (v ∷ vs) e =
          let two : is_image_bracket on bytes ≡ (begins_image on s.byte && is_open_bracket v.byte) = ap (λ l. is_image_bracket on (s.byte ∷ bytes_of l)) e in
          elim (is_open_bracket v.byte) as (λ t. is_open_bracket v.byte ≡ t → Adds TextBefore (joined_other on defined g.bytes q bytes)) [
            | true ↦ λ opens.
                let there = image-there true (two ∙ (λ i. image i && opens i)) in
                let fits : 2 ≤ length l = (let n : length ss ≡ suc (length vs) = ap length e in omega (arith, n)) in
                bracket-paid 3 ((remembered local).starts ++ started Image (behind image_bracket) ∷ []) image_bracket (joined-is (Some image_bracket) there) (keeps-more q.waiting (remembered local).starts Image (behind image_bracket) (subst (λ l. 0 < length (events ++ item_events g.bytes (image_bracket, take 2 (s ∷ l)))) (sym e) (some-events (item_events g.bytes (image_bracket, s ∷ v ∷ [])) (omega arith))) known.1.keeps)
                (pays-enough defined g text memory is budget 3 2 l (omega arith) fits (omega (arith, no-backticks s.byte (bytes_of ss) no-tick)) (omega arith)) (subst (λ l. AddsBracket defined g text 3 ((remembered local).starts ++ started Image (length (events ++ item_events g.bytes (image_bracket, take 2 (s ∷ l)))) ∷ []) p ended events local (s ∷ l) image_bracket) (sym e) (reads-image defined g text p ended events local s v vs (here ∙ ap (λ l. s ∷ l) e) image opens))
            | false ↦ λ closed. image-data image no-end (ap (λ l. passes is_open_bracket (first_byte l)) e ∙ closed) (two ∙ (λ i. begins_image on s.byte && closed i) ∙ and-false (begins_image on s.byte))
          ] refl

      -- `]`
      module _ (no-image : begins_image on s.byte ≡ false) (ends : begins_end on s.byte ≡ true) where
        end-there : bracket_at on defined g.bytes q bytes ≡ end_at defined g.bytes q.waiting q (bytes_of ss)
        end-there = image-there false (ap (λ t. t && has_byte_at bytes 1 is_open_bracket) no-image) ∙ ap (λ t. cond t (end_at defined g.bytes q.waiting q (bytes_of ss)) None) ends

        -- alone
        lone-is : (n : ℕ) → n ≤ look_calls (bytes_of ss) → (bracket_at on defined g.bytes q bytes ≡ Some lone_end) → AddsBracket defined g text n (without_last false (remembered local).starts) p ended events local l lone_end → Adds TextBefore (joined_other on defined g.bytes q bytes)
        lone-is n few there read =
            bracket-paid n (without_last false (remembered local).starts) lone_end (joined-is (Some lone_end) there) (keeps-less (behind lone_end) q.waiting (remembered local).starts known.1.keeps)
            (pays-look defined g text memory is budget n 1 s ss (omega arith) (omega arith) no-tick ends (omega (arith, few, length-map ss (λ (s : Seat). s.byte)))) read

        -- that may make something
        end-last : (b : Bracket) (bs : List Bracket) → q.waiting ≡ b ∷ bs → (t : Bool) → b.inactive ≡ t → (o : Option Found) → tail_of defined g.bytes b q (bytes_of ss) ≡ o
            → bracket_at on defined g.bytes q bytes ≡ Some (cond t lone_end (or_else (option_map label_end o) lone_end))
        end-last b bs waits t inactive o is =
            end-there ∙ ap (λ bs. end_at defined g.bytes bs q (bytes_of ss)) waits ∙ ap (λ t. Some (cond t lone_end (or_else (option_map label_end (tail_of defined g.bytes b q (bytes_of ss))) lone_end))) inactive
            ∙ ap (λ o. Some (cond t lone_end (or_else (option_map label_end o) lone_end))) is

        tail-is : (b : Bracket) (bs : List Bracket) → q.waiting ≡ b ∷ bs → b.inactive ≡ false → (o : Option Found) → tail_of defined g.bytes b q (bytes_of ss) ≡ o → EndRead defined g text p ended events local s ss here o → Adds TextBefore (joined_other on defined g.bytes q bytes)
        tail-is b bs waits active None none read = lone-is read.0 (omega (arith, read.1)) (end-last b bs waits false active None none) read.2
        tail-is b bs waits active (Some tail) found read =
            let fits : 1 + tail.size ≤ length l = omega (arith, tail-within defined g.bytes b q (bytes_of ss) tail found, length-map ss (λ (s : Seat). s.byte)) in
            bracket-paid read.0 _ (label_end tail) (joined-is (Some (label_end tail)) (end-last b bs waits false active (Some tail) found)) (keeps-made (behind (label_end tail)) q.waiting (remembered local).starts known.1.keeps)
            (pays-look defined g text memory is budget read.0 (1 + tail.size) s ss (omega arith) fits no-tick ends (omega (arith, read.1))) read.2

        end-is : (bs : List Bracket) → q.waiting ≡ bs → Adds TextBefore (joined_other on defined g.bytes q bytes)
        end-is [] none =
            let (may, waits) = none-kept (reverse (remembered local).starts) (subst (λ bs. Keeps bs (remembered local).starts) none known.1.keeps) in
            let at = at-front text.seats p s ss here in
            let once = after-call local in
            data-behind 1 (counts local) once (omega arith) (end-there ∙ ap (λ bs. end_at defined g.bytes bs q (bytes_of ss)) none)
            (λ item read. (
              read.0,
              read.1,
              after-more 1 (part_calls (item_length item)) local (counts local) read.1 once read.2,
              λ es h. leads-row g text m (row [] (Retry TextBeforeData)) (between_items p Byte ended events local) [] TextBefore es (ends-as-data defined g text (between_items p Byte ended events local) s.byte (ap byte_of at) ends may waits) (read.3 es h),
            ))
        end-is (b ∷ bs) waits =
            let (may, one) = one-kept b bs (reverse (remembered local).starts) (subst (λ bs. Keeps bs (remembered local).starts) waits known.1.keeps) in
            elim b.inactive as (λ t. b.inactive ≡ t → Adds TextBefore (joined_other on defined g.bytes q bytes)) [
              | true ↦ λ inactive.
                  lone-is 2 (omega arith) (end-last b bs waits true inactive (tail_of defined g.bytes b q (bytes_of ss)) refl)
                  (reads-lone defined g text p ended events local s ss here ends (may ∙ ap not inactive) one)
              | false ↦ λ active.
                  let keeps = subst (λ bs. Keeps bs (remembered local).starts) waits known.1.keeps in
                  tail-is b bs waits active (tail_of defined g.bytes b q (bytes_of ss)) refl
                  (reads-end defined g text p ended events local s ss here is-text b bs q keeps known.1.events_are (known.1.ahead_is ∙ here) ends (may ∙ ap not active))
            ] refl

    bracket-is : Adds TextBefore (joined_other on defined g.bytes q bytes)
    bracket-is = elim (begins_link on s.byte) as (λ t. begins_link on s.byte ≡ t → (t || (begins_image on s.byte || begins_end on s.byte)) ≡ true → Adds TextBefore (joined_other on defined g.bytes q bytes)) [
      | true ↦ λ link h. link-is link
      | false ↦ λ no-link h. elim (begins_image on s.byte) as (λ t. begins_image on s.byte ≡ t → (t || begins_end on s.byte) ≡ true → Adds TextBefore (joined_other on defined g.bytes q bytes)) [
        | true ↦ λ image h. image-is no-link image (image-no-end on s.byte image) ss refl
        | false ↦ λ no-image ends. end-is no-link no-image ends q.waiting refl
      ] refl h
    ] refl begins

  -- ---- what the state between constructs reads itself
  pub own-is : is_own on s.byte ≡ true → x.sound q p events (remembered local) → IsPaid → Adds TextBefore (joined_other on defined g.bytes q bytes)
  own-is own known paid = elim (begins_bracket on s.byte) as (λ t. begins_bracket on s.byte ≡ t → Adds TextBefore (joined_other on defined g.bytes q bytes)) [
    | true ↦ λ begins. bracket-is known paid begins
    | false ↦ λ none.
        let plain : (is_line_feed s.byte || ((begins_run on s.byte || false) || is_white s.byte)) ≡ true = ap (λ t. is_line_feed s.byte || ((begins_run on s.byte || t) || is_white s.byte)) (sym none) ∙ own in
        let item = unbracketed on bytes in
        plain-paid TextBefore (part_calls (item_length item)) item (unbracketed-is none) (unbracketed-plain on s.byte (bytes_of ss)) (own-no-tick on s.byte own) (omega arith) known paid
        (own-read-in defined g text p ended events local s ss here (ap (λ t. is_line_feed s.byte || (t || is_white s.byte)) (sym (or-false (begins_run on s.byte))) ∙ plain))
  ] refl
