-- What has ended where no backtick waits.
use Rattle.markdown_tokenizer.specs.Configuration.{TokenizerValue}
use Rattle.mdinline_text_machine.proofs.Prelude.{◌∙◌, tick-classed, ◌≡◌, ℕ, ◌∷◌, [], true, false, refl, Option, Some, None, arith, nat_tests, CodeText, CodeTextSequence, Data, Next, Retry, Ok, Nok, DataInside, RawTextBetween, RawTextData, row, when, enter, exit, consume, allows_all, start_shape, class_of, passes, is_backtick, TextByte, backtick, text_byte, is_tick, sight_of, sizes_are_equal, text_before_data_rows, data_at_break_rows, raw_text_sequence_open, raw_text_sequence_open_rows, raw_text_sequence_close, raw_text_sequence_close_rows, raw_text_backticks_inside_rows, ap}

-- a backtick is of the class of backticks
pub tick-class : (b : ℕ) → is_backtick b ≡ true → text_byte b ≡ backtick
tick-class b h = let e : b ≡ 96 = grind (arith, nat_tests) in ap text_byte e

-- If no backtick waits, a run of backticks has ended: the rows of the states that read one, and that its span may end; and data has its first byte
abbrev pub HasEnded : (R D : Type 0) (before waits : Option TextByte) → Type 0
HasEnded R D b w =
    (raw_text_sequence_open_rows {R = R} {D = D} b w ≡ row (exit CodeTextSequence ∷ []) (Retry RawTextBetween))
    × (raw_text_sequence_close_rows {R = R} {D = D} b w ≡ when sizes_are_equal (row (exit CodeTextSequence ∷ []) Ok) (row [] Nok))
    × (allows_all {R = R} {D = D} (exit CodeTextSequence ∷ exit CodeText ∷ []) (start_shape b w (raw_text_sequence_open {R = R} {D = D})) ≡ true)
    × (allows_all {R = R} {D = D} (exit CodeTextSequence ∷ []) (start_shape b w (raw_text_sequence_close {R = R} {D = D})) ≡ true)
    × (raw_text_backticks_inside_rows {R = R} {D = D} b w ≡ row [] (Retry RawTextData))
    × (data_at_break_rows {R = R} {D = D} b w ≡ row [] (Retry DataInside))
    × (text_before_data_rows {R = R} {D = D} b w ≡ row (enter Data ∷ consume ∷ []) (Next DataInside))

pub has-ended : {R D : Type 0} (before waits : Option TextByte) → is_tick waits ≡ false → HasEnded R D before waits
has-ended b (Some backtick) e = absurd (cc)
has-ended b _ e = (refl, refl, refl, refl, refl, refl, refl)

-- in a tokenizer of any machine
pub ended-in : {M R D : Type 0} (t : TokenizerValue M R D) → is_tick (class_of text_byte (sight_of t).current) ≡ false
    → HasEnded R D (class_of text_byte (sight_of t).previous) (class_of text_byte (sight_of t).current)
ended-in t h = has-ended (class_of text_byte (sight_of t).previous) (class_of text_byte (sight_of t).current) h

pub run-ended : (before : Option TextByte) (o : Option ℕ) → passes is_backtick o ≡ false → HasEnded (Unit {0}) (Unit {0}) before (class_of text_byte o)
run-ended before None h = has-ended before None refl
run-ended before (Some b) h = has-ended before (Some (text_byte b)) (tick-classed b ∙ h)
