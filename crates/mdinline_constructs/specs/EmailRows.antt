-- Rows that read email autolinks.
use Rattle.std.specs.Prelude.{◌==◌, ◌&&◌, nat_lt, Bool, false, List, [], ◌∷◌, Option, Some, None}
use Rattle.std.specs.Char.{is_ascii_alphanumeric}
use Rattle.markdown_base.specs.declared.event.Name.TheVariants.{Autolink, AutolinkMarker, AutolinkEmail}
use Rattle.markdown_base.specs.declared.state.State.TheVariants.{Next, Ok, Nok}
use Rattle.markdown_base.specs.declared.state.TheConstants.Name.{TextBeforeData, AutolinkEmailAtSignOrDot, AutolinkEmailAtext, AutolinkEmailLabel, AutolinkEmailValue}
use Rattle.markdown_tokenizer.specs.Text.{Given}
use Rattle.markdown_tokenizer.specs.Configuration.{Configuration}
use Rattle.markdown_tokenizer.specs.Sight.{Sight}
use Rattle.mdconstructs_tables.specs.Rows.{enter, exit, consume, write, Rows, row, when, here, at_bytes, StateRows, state}
use Rattle.mdconstructs_tables.specs.Numbers.{Price, by_left}
use Rattle.mdinline_text_machine.specs.Bytes.{is_greater_than, passes}
use Rattle.mdinline_text_machine.specs.Construct.{Found, Construct, if_option, tried}
use Rattle.mdinline_text_machine.specs.TextBytes.{TextByte, is_less_class}
use Rattle.mdinline_text_machine.specs.TextCosts.{text_cost}
use Rattle.mdinline_text_machine.specs.TextSizes.{size_b_is, size_b_grows}
use Rattle.mdinline_constructs.specs.Email.{is_at_sign, is_dot, is_hyphen, is_atext, label_size_max, email_grammar}

module _ {R D : Type 0} where
  -- `@` waits, and a character was before it
  abbrev pub name_ends : Given → Sight → Configuration R D → Bool
  name_ends g s k = passes is_at_sign s.current && nat_lt 0 k.local.tokenize_state.size_b

  -- a character waits that may be before `@`
  abbrev pub name_goes_on : Given → Sight → Configuration R D → Bool
  name_goes_on g s k = passes is_atext s.current

  -- a letter or digit waits, and the label has room for it
  abbrev pub label_goes_on : Given → Sight → Configuration R D → Bool
  label_goes_on g s k = passes is_ascii_alphanumeric s.current && nat_lt k.local.tokenize_state.size_b label_size_max

  -- `-` waits, the label has begun, and has room for it
  abbrev pub label_has_hyphen : Given → Sight → Configuration R D → Bool
  label_has_hyphen g s k = passes is_hyphen s.current && (nat_lt 0 k.local.tokenize_state.size_b && nat_lt k.local.tokenize_state.size_b label_size_max)

  -- `.` waits behind a label
  abbrev pub label_ends : Given → Sight → Configuration R D → Bool
  label_ends g s k = passes is_dot s.current && nat_lt 0 k.local.tokenize_state.size_b

  -- `>` waits behind a label
  abbrev pub domain_ends : Given → Sight → Configuration R D → Bool
  domain_ends g s k = passes is_greater_than s.current && nat_lt 0 k.local.tokenize_state.size_b

  -- Email autolink: it begins with `<`
  abbrev pub email_start_rows : (previous current : Option TextByte) → Rows R D
  email_start_rows _ _ =
      row (enter Autolink ∷ enter AutolinkMarker ∷ consume ∷ exit AutolinkMarker ∷ enter AutolinkEmail ∷ write (size_b_is 0) ∷ []) (Next AutolinkEmailAtext)

  -- its state: it is called only at `<`, and no span is open yet
  abbrev pub email_start : StateRows TextByte R D
  email_start =
      tried (record (state AutolinkEmailAtSignOrDot email_start_rows [] (text_cost (by_left 0 1 1))) { called = at_bytes is_less_class })

  -- what is before `@` is read
  abbrev pub email_atext_rows : (previous current : Option TextByte) → Rows R D
  email_atext_rows _ None = row [] Nok
  email_atext_rows _ (Some _) =
      when name_ends (row (write (size_b_is 0) ∷ consume ∷ []) (Next AutolinkEmailLabel))
      (when name_goes_on (row (write (size_b_is 1) ∷ consume ∷ []) (Next AutolinkEmailAtext)) (row [] Nok))

  -- its state: an autolink and its address are open
  abbrev pub email_atext : StateRows TextByte R D
  email_atext =
      tried (record (state AutolinkEmailAtext email_atext_rows (Autolink ∷ AutolinkEmail ∷ []) (text_cost (by_left 0 1 1))) { begun = here })

  -- a label goes on
  abbrev pub label_rows : (others : Rows R D) → Rows R D
  label_rows others =
      when label_goes_on (row (write size_b_grows ∷ consume ∷ []) (Next AutolinkEmailLabel))
      (when label_has_hyphen (row (write size_b_grows ∷ consume ∷ []) (Next AutolinkEmailValue)) others)

  -- or ends: behind a dot there is another, and `>` ends all
  abbrev pub label_end_rows : Rows R D
  label_end_rows =
      when label_ends (row (write (size_b_is 0) ∷ consume ∷ []) (Next AutolinkEmailLabel))
      (when domain_ends (row (exit AutolinkEmail ∷ enter AutolinkMarker ∷ consume ∷ exit AutolinkMarker ∷ exit Autolink ∷ []) Ok) (row [] Nok))

  -- a label begins, or goes on behind a letter or digit
  abbrev pub email_label_rows : (previous current : Option TextByte) → Rows R D
  email_label_rows _ None = row [] Nok
  email_label_rows _ (Some _) = label_rows label_end_rows

  -- its state: an autolink and its address are open
  abbrev pub email_label : StateRows TextByte R D
  email_label =
      tried (state AutolinkEmailLabel email_label_rows (Autolink ∷ AutolinkEmail ∷ []) (text_cost (by_left 0 1 1)))

  -- a label goes on behind `-`
  abbrev pub email_value_rows : (previous current : Option TextByte) → Rows R D
  email_value_rows _ None = row [] Nok
  email_value_rows _ (Some _) = label_rows (row [] Nok)

  -- its state: an autolink and its address are open
  abbrev pub email_value : StateRows TextByte R D
  email_value =
      tried (state AutolinkEmailValue email_value_rows (Autolink ∷ AutolinkEmail ∷ []) (text_cost (by_left 0 1 1)))

-- What its states cost: each reads a byte or ends
abbrev pub email_prices : List (Price TextByte)
email_prices = by_left 0 1 1 ∷ by_left 0 1 1 ∷ by_left 0 1 1 ∷ by_left 0 1 1 ∷ []

-- How email autolinks are read
abbrev pub emails : {R D : Type 0} → Construct Found TextByte R D
emails = record {
  grammar = email_grammar;
  begins = is_less_class;
  allowed = if_option email_grammar;
  start = AutolinkEmailAtSignOrDot;
  otherwise = TextBeforeData;
  states = email_start ∷ email_atext ∷ email_label ∷ email_value ∷ [];
  begun = λ name w. name.number == AutolinkEmailAtSignOrDot.number;
  follows = λ name. false;
}
