-- Rows that read autolinks around absolute URIs.
use Rattle.std.specs.Prelude.{◌==◌, nat_le, nat_lt, Bool, false, List, [], ◌∷◌, Option, Some, None}
use Rattle.markdown_base.specs.declared.event.Name.TheVariants.{Autolink, AutolinkMarker, AutolinkProtocol}
use Rattle.markdown_base.specs.declared.state.State.TheVariants.{Next, Ok, Nok}
use Rattle.markdown_base.specs.declared.state.TheConstants.Name.{TextBeforeData, AutolinkStart, AutolinkOpen, AutolinkSchemeInsideOrEmailAtext, AutolinkUrlInside}
use Rattle.markdown_tokenizer.specs.Text.{Given}
use Rattle.markdown_tokenizer.specs.Configuration.{Configuration}
use Rattle.markdown_tokenizer.specs.Sight.{Sight}
use Rattle.mdconstructs_tables.specs.Rows.{enter, exit, consume, write, Rows, row, when, here, at_bytes, StateRows, state}
use Rattle.mdconstructs_tables.specs.Numbers.{Price, by_left}
use Rattle.mdinline_text_machine.specs.Construct.{Found, Construct, if_option, tried}
use Rattle.mdinline_text_machine.specs.TextBytes.{TextByte, line_feed, less, greater, colon, letter, digit, mark, white, blank, is_less_class}
use Rattle.mdinline_text_machine.specs.TextCosts.{text_cost}
use Rattle.mdinline_text_machine.specs.TextSizes.{size_b_is, size_b_grows}
use Rattle.mdinline_text_machine.specs.Autolink.{scheme_size_max, autolink_grammar}

-- the options have autolinks on
abbrev pub autolinks_are_on : {R D : Type 0} → Given → Sight → Configuration R D → Bool
autolinks_are_on g s k = g.options.constructs.autolink

-- a scheme has 2 characters or more
abbrev pub has_scheme : {R D : Type 0} → Given → Sight → Configuration R D → Bool
has_scheme g s k = nat_le 2 k.local.tokenize_state.size_b

-- a scheme has room for one more character
abbrev pub has_room : {R D : Type 0} → Given → Sight → Configuration R D → Bool
has_room g s k = nat_lt k.local.tokenize_state.size_b scheme_size_max

-- Autolink: it begins with `<`
abbrev pub autolink_start_rows : {R D : Type 0} → (previous current : Option TextByte) → Rows R D
autolink_start_rows _ _ = row (enter Autolink ∷ enter AutolinkMarker ∷ consume ∷ exit AutolinkMarker ∷ enter AutolinkProtocol ∷ []) (Next AutolinkOpen)

-- its state: it is called only at `<`, and no span is open yet
abbrev pub autolink_start : {R D : Type 0} → StateRows TextByte R D
autolink_start =
    tried (record (state AutolinkStart autolink_start_rows [] (text_cost (by_left 0 1 1))) { called = at_bytes is_less_class })

-- its scheme begins with an ASCII letter
abbrev pub autolink_open_rows : {R D : Type 0} → (previous current : Option TextByte) → Rows R D
autolink_open_rows _ (Some letter) = row (write (size_b_is 1) ∷ consume ∷ []) (Next AutolinkSchemeInsideOrEmailAtext)
autolink_open_rows _ _ = row [] Nok

-- its state: an autolink and its URI are open
abbrev pub autolink_open : {R D : Type 0} → StateRows TextByte R D
autolink_open =
    tried (record (state AutolinkOpen autolink_open_rows (Autolink ∷ AutolinkProtocol ∷ []) (text_cost (by_left 0 1 1))) { begun = here })

-- a scheme of fewer than 32 characters may have one more
abbrev pub scheme_goes_on : {R D : Type 0} → Rows R D
scheme_goes_on = when has_room (row (write size_b_grows ∷ consume ∷ []) (Next AutolinkSchemeInsideOrEmailAtext)) (row [] Nok)

-- its scheme is read, up to the colon
abbrev pub autolink_scheme_rows : {R D : Type 0} → (previous current : Option TextByte) → Rows R D
autolink_scheme_rows _ (Some colon) = when has_scheme (row (consume ∷ []) (Next AutolinkUrlInside)) (row [] Nok)
autolink_scheme_rows _ (Some letter) = scheme_goes_on
autolink_scheme_rows _ (Some digit) = scheme_goes_on
autolink_scheme_rows _ (Some mark) = scheme_goes_on
autolink_scheme_rows _ _ = row [] Nok

-- its state: an autolink and its URI are open
abbrev pub autolink_scheme : {R D : Type 0} → StateRows TextByte R D
autolink_scheme =
    tried (state AutolinkSchemeInsideOrEmailAtext autolink_scheme_rows (Autolink ∷ AutolinkProtocol ∷ []) (text_cost (by_left 0 1 1)))

-- the rest of its URI is read, up to `>`
abbrev pub autolink_url_rows : {R D : Type 0} → (previous current : Option TextByte) → Rows R D
autolink_url_rows _ None = row [] Nok
autolink_url_rows _ (Some greater) = row (exit AutolinkProtocol ∷ enter AutolinkMarker ∷ consume ∷ exit AutolinkMarker ∷ exit Autolink ∷ []) Ok
autolink_url_rows _ (Some line_feed) = row [] Nok
autolink_url_rows _ (Some white) = row [] Nok
autolink_url_rows _ (Some blank) = row [] Nok
autolink_url_rows _ (Some less) = row [] Nok
autolink_url_rows _ (Some _) = row (consume ∷ []) (Next AutolinkUrlInside)

-- its state: an autolink and its URI are open
abbrev pub autolink_url : {R D : Type 0} → StateRows TextByte R D
autolink_url =
    tried (state AutolinkUrlInside autolink_url_rows (Autolink ∷ AutolinkProtocol ∷ []) (text_cost (by_left 0 1 1)))

-- What its states cost: each reads a byte or ends
abbrev pub autolink_prices : List (Price TextByte)
autolink_prices = by_left 0 1 1 ∷ by_left 0 1 1 ∷ by_left 0 1 1 ∷ by_left 0 1 1 ∷ []

-- How autolinks are read
abbrev pub autolinks : {R D : Type 0} → Construct Found TextByte R D
autolinks = record {
  grammar = autolink_grammar;
  begins = is_less_class;
  allowed = if_option autolink_grammar;
  start = AutolinkStart;
  otherwise = TextBeforeData;
  states = autolink_start ∷ autolink_open ∷ autolink_scheme ∷ autolink_url ∷ [];
  begun = λ name w. name.number == AutolinkStart.number;
  follows = λ name. false;
}
