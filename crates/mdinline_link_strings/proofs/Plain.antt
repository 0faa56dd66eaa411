-- Data that stands for virtual bytes of a document is read from them; and what is no escape and no reference stays as it is.
use Rattle.std.proofs.Common.{◌≡◌, ◌∙◌, ◌+◌, ◌<◌, ◌==◌, ◌&&◌, ◌||◌, ◌++◌, ℕ, zero, suc, List, [], ◌∷◌, Bool, true, false, cond, Some, None, ap, arith, drop, length, refl, subst, sym, take, not}
use Rattle.std.proofs.lemmas.Bool.{or_parts}
use Rattle.std.proofs.lemmas.List.{append-nil, append_assoc, append_cancel_right, drop_all}
use Rattle.std.proofs.Math.Seq.{take-length}
use Rattle.std.proofs.lemmas.List.Elements.{filter-append}
use Rattle.std.specs.List.{AllByRecursion, flat_map, position_or_len}
use Rattle.std.specs.Prelude.{filter}
use Rattle.markdown_base.proofs.Common.{filter-none}
use Rattle.markdown_base.proofs.Seats.{end-after-append}
use Rattle.markdown_base.specs.declared.configuration.Constructs.{Constructs}
use Rattle.markdown_base.specs.declared.event.Event.{Event}
use Rattle.markdown_base.specs.declared.event.Name.TheVariants.{Data}
use Rattle.markdown_base.specs.declared.event.Point.{Point}
use Rattle.markdown_base.specs.Places.{shown, stands_before}
use Rattle.markdown_base.specs.Virtual.{Seat, end_after, point, virtual}
use Rattle.markdown_tokenizer.proofs.Positions.Order.{every-back, filter-every}
use Rattle.markdown_tokenizer.proofs.Positions.Seats.{rest-later}
use Rattle.markdown_tokenizer.proofs.Positions.Standing.{place-after, rest-after, seat-begins}
use Rattle.markdown_tokenizer.specs.Cursor.{IsPlace, rest_at}
use Rattle.mdinline_constructs.specs.Reference.{reference_at}
use Rattle.mdinline_link_strings.proofs.Fronts.{no_reference}
use Rattle.mdinline_link_strings.proofs.Ranges.{range-left}
use Rattle.mdinline_link_strings.specs.Laws.{AreOf, ArePlain, DataIsReadAsString, HavePlainStrings, IsPlainData, PlainStringsStay}
use Rattle.mdinline_constructs.specs.StringItems.{is_string_special, string_data, string_item_at, string_part, string_seat_events}
use Rattle.mdinline_link_strings.specs.Strings.{in_string_after, is_data, line_as_string, seats_between, with_strings_from}
use Rattle.mdinline_text_machine.proofs.Constructs.Apart.{or-none}
use Rattle.mdinline_text_machine.specs.Bytes.{has_byte_at}
use Rattle.std.specs.Char.{is_ascii_punctuation}
use Rattle.mdinline_text_machine.specs.Construct.{if_on, or_else}
use Rattle.mdinline_text_machine.specs.Escape.{escape, escape_at}
use Rattle.mdinline_text_machine.specs.Items.{item_length}
use Rattle.mdinline_text_machine.specs.Parts.{bytes_of, cut, leaf, line_ending, part, plain_run}
use Rattle.mdinline_text_machine.specs.TextEvents.{item_events}

module _ (t : ℕ) (bytes : List ℕ) (d : 0 < t) (before behind : List Seat) (s : Seat) (ss : List Seat) (e : virtual t bytes ≡ before ++ ((s ∷ ss) ++ behind)) where
  abbrev start : Point
  start = end_after (point 1 1 0 0) before

  abbrev end : Point
  end = end_after s.end ss

  e' : virtual t bytes ≡ (before ++ s ∷ ss) ++ behind
  e' = e ∙ sym (append_assoc before (s ∷ ss) behind)

  end-is : end_after (point 1 1 0 0) (before ++ s ∷ ss) ≡ end
  end-is = end-after-append (point 1 1 0 0) before (s ∷ ss)

  one : IsPlace t bytes start
  one = place-after t bytes d before ((s ∷ ss) ++ behind) e

  two : IsPlace t bytes (end_after (point 1 1 0 0) (before ++ s ∷ ss))
  two = place-after t bytes d (before ++ s ∷ ss) behind e'

  begins : shown bytes s.point ≡ start
  begins = (seat-begins t bytes d before s (ss ++ behind) e).shown_is

  same : two.before ≡ before ++ s ∷ ss
  same = append_cancel_right two.before (before ++ s ∷ ss) behind
      (ap (λ r. two.before ++ r) (sym (rest-after t bytes d (before ++ s ∷ ss) behind e')) ∙ sym two.splits ∙ e')

  ends : shown bytes end ≡ end
  ends = ap (shown bytes) (sym end-is) ∙ two.stands ∙ ap (end_after (point 1 1 0 0)) same ∙ end-is

  upto : AllByRecursion (λ r. stands_before r.point end ≡ true) (before ++ s ∷ ss)
  upto = subst (λ q. AllByRecursion (λ r. stands_before r.point q ≡ true) (before ++ s ∷ ss)) end-is
      (subst (AllByRecursion (λ r. stands_before r.point (end_after (point 1 1 0 0) (before ++ s ∷ ss)) ≡ true)) same two.behind)

  -- what is between its ends are these virtual bytes
  range-there : seats_between t bytes (shown bytes s.point) (shown bytes end) ≡ s ∷ ss
  range-there =
      let f = λ (r : Seat). stands_before r.point end in
      let front : AllByRecursion (λ r. f r ≡ true) (s ∷ ss) = every-back (λ r. f r ≡ true) before (s ∷ ss) upto in
      let last : rest_at t bytes end ≡ behind = ap (rest_at t bytes) (sym end-is) ∙ rest-after t bytes d (before ++ s ∷ ss) behind e' in
      let past : AllByRecursion (λ r. f r ≡ false) behind = subst (AllByRecursion (λ r. f r ≡ false)) last (rest-later t bytes end) in
      ap (λ q. seats_between t bytes q (shown bytes end)) begins ∙ ap (seats_between t bytes start) ends
      ∙ range-left t bytes start end one ∙ ap (filter f) (rest-after t bytes d before ((s ∷ ss) ++ behind) e)
      ∙ filter-append f (s ∷ ss) behind ∙ ap (λ xs. xs ++ filter f behind) (filter-every f (s ∷ ss) front)
      ∙ ap (λ xs. (s ∷ ss) ++ xs) (filter-none f behind past) ∙ append-nil (s ∷ ss)

pub line-there : (on : Constructs) (t : ℕ) (bytes : List ℕ) (s : Seat) (ss : List Seat) → 0 < t → AreOf t bytes (s ∷ ss)
    → line_as_string on t bytes (shown bytes s.point) (shown bytes (end_after s.end ss)) ≡ string_seat_events on bytes (s ∷ ss)
line-there on t bytes s ss d of = ap (string_seat_events on bytes) (range-there t bytes d of.0 of.1 s ss of.2)

pub data_is_read : DataIsReadAsString
data_is_read on t bytes s ss d of =
    append-nil (line_as_string on t bytes (shown bytes s.point) (shown bytes (end_after s.end ss))) ∙ line-there on t bytes s ss d of

-- ---- bytes that are not special

-- a byte that is not special is none of the three
plain-byte : (b : ℕ) → is_string_special b ≡ false → ((b == 10) ≡ false) × ((b == 92) ≡ false) × ((b == 38) ≡ false)
plain-byte b h =
    let x = or_parts (b == 10) ((b == 92) || ((b == 38) || false)) h in
    let y = or_parts (b == 92) ((b == 38) || false) x.1 in
    let z = or_parts (b == 38) false y.1 in
    (x.0, y.0, z.0)

all-before : (l : List Seat) → ArePlain l → position_or_len is_string_special (bytes_of l) ≡ length l
all-before [] h = refl
all-before (s ∷ ss) h =
    let more = all-before ss h.1 in
    ap (λ b. cond (not b) (1 + position_or_len is_string_special (bytes_of ss)) 0) h.0 ∙ (omega (arith, more))

module _ (on : Constructs) (bytes : List ℕ) (s : Seat) (ss : List Seat) (plain : ArePlain (s ∷ ss)) where
  abbrev text : List ℕ
  text = bytes_of (s ∷ ss)

  data-alone : string_item_at on text ≡ part (plain_run (1 + length ss))
  data-alone =
      let b = plain-byte s.byte plain.0 in
      or-none on.character_escape (escape_at text) (or_else (if_on on.character_reference (reference_at text)) (string_part text)) (ap (λ x. cond (x && has_byte_at text 1 is_ascii_punctuation) (Some escape) None) b.1)
      ∙ or-none on.character_reference (reference_at text) (string_part text) (no_reference text b.2)
      ∙ ap (λ x. cond x (part line_ending) (string_data text)) b.0
      ∙ ap (λ n. part (plain_run (1 + n))) (all-before ss plain.1)

  -- they are data as a string
  pub plain-string : string_seat_events on bytes (s ∷ ss) ≡ leaf bytes Data (s ∷ ss)
  plain-string =
      let long : 1 + length ss ≡ length (s ∷ ss) = omega arith in
      ap (λ x. item_events bytes (x, take (item_length x) (s ∷ ss)) ++ flat_map (item_events bytes) (cut (string_item_at on) item_length (length ss) (drop (item_length x) (s ∷ ss)))) data-alone
      ∙ ap (λ n. leaf bytes Data (take n (s ∷ ss)) ++ flat_map (item_events bytes) (cut (string_item_at on) item_length (length ss) (drop n (s ∷ ss)))) long
      ∙ ap (λ xs. leaf bytes Data xs ++ flat_map (item_events bytes) (cut (string_item_at on) item_length (length ss) (drop (length (s ∷ ss)) (s ∷ ss)))) (take-length (s ∷ ss))
      ∙ ap (λ xs. leaf bytes Data (s ∷ ss) ++ flat_map (item_events bytes) (cut (string_item_at on) item_length (length ss) xs)) (drop_all (length (s ∷ ss)) (s ∷ ss) (omega arith))
      ∙ ap (λ xs. leaf bytes Data (s ∷ ss) ++ flat_map (item_events bytes) xs) (none-cut (length ss))
      ∙ append-nil (leaf bytes Data (s ∷ ss))
    where
      none-cut : (n : ℕ) → cut (string_item_at on) item_length n [] ≡ []
      none-cut zero = refl
      none-cut (suc n) = refl

abbrev first-or : Event → List Event → Event
first-or x [] = x
first-or x (y ∷ ys) = y

abbrev second-or : Event → List Event → Event
second-or x [] = x
second-or x (y ∷ ys) = first-or x ys

module _ (on : Constructs) (t : ℕ) (bytes : List ℕ) (d : 0 < t) where
  pair-stays : (e f : Event) → IsPlainData t bytes e f → line_as_string on t bytes e.point f.point ≡ e ∷ f ∷ []
  pair-stays e f (s, ss, is, of, plain) =
      let first : e.point ≡ shown bytes s.point = ap (λ es. (first-or e es).point) is in
      let second : f.point ≡ shown bytes (end_after s.end ss) = ap (λ es. (second-or f es).point) is in
      ap (λ x. line_as_string on t bytes x f.point) first ∙ ap (line_as_string on t bytes (shown bytes s.point)) second
      ∙ line-there on t bytes s ss d of ∙ plain-string on bytes s ss plain ∙ sym is

  all-stay : (inside : Bool) (es : List Event) → HavePlainStrings t bytes inside es → with_strings_from on t bytes inside es ≡ es
  all-stay inside [] h = refl
  all-stay inside (e ∷ []) h = refl
  all-stay inside (e ∷ f ∷ es) h = cases (inside && is_data e f) refl (λ k. all-stay inside es k) (λ k. all-stay (in_string_after inside e) (f ∷ es) k)
    where
      cases : (b : Bool) → (inside && is_data e f) ≡ b → (HavePlainStrings t bytes inside es → with_strings_from on t bytes inside es ≡ es)
          → (HavePlainStrings t bytes (in_string_after inside e) (f ∷ es) → with_strings_from on t bytes (in_string_after inside e) (f ∷ es) ≡ f ∷ es)
          → cond b (line_as_string on t bytes e.point f.point ++ with_strings_from on t bytes inside es) (e ∷ with_strings_from on t bytes (in_string_after inside e) (f ∷ es)) ≡ e ∷ f ∷ es
      cases true k inner other =
          let both = h.0 k in
          ap (λ xs. xs ++ with_strings_from on t bytes inside es) (pair-stays e f both.0) ∙ ap (λ xs. e ∷ f ∷ xs) (inner both.1)
      cases false k inner other = ap (λ xs. e ∷ xs) (other (h.1 k))

pub plain_stays : PlainStringsStay
plain_stays on t bytes es d h = all-stay on t bytes d false es h
