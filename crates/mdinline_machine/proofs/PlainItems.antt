-- Items that leave the brackets that wait as they are: all but brackets and ends of labels.
use Rattle.mdinline_machine.proofs.Prelude.{◌≡◌, ℕ, ◌+◌, List, ◌∷◌, true, false, cond, Option, Some, None, refl, drop, take, prefix_len, option_map, Constructs, has_byte_at, is_white, is_line_feed, Found, OfOption, there-holds, begins_run, delimiter_run, line_break, run_length, reference-holds, white_grammars}
use Rattle.mdinline_text_machine.proofs.Constructs.Apart.{when-there}
use Rattle.mdinline_text_machine.specs.Autolink.{autolink, autolink_at, autolink_to, uri}
use Rattle.mdinline_text_machine.specs.Bytes.{backticks, is_backtick, is_greater_than, is_less_than}
use Rattle.mdinline_text_machine.specs.CodeSpan.{before_backtick_string, code_span_with}
use Rattle.mdinline_text_machine.specs.Construct.{plain}
use Rattle.mdinline_text_machine.specs.Escape.{escape, escape_at}
use Rattle.mdinline_constructs.specs.Email.{email_at, email_with, is_atext}
use Rattle.mdinline_constructs.specs.HardBreak.{break_escape_at, hard_break_escape, hard_break_trailing, trailing_break_at}
use Rattle.mdinline_constructs.specs.HtmlText.{has_blank_line, html, html_of}
use Rattle.mdinline_constructs.specs.LinedCode.{lined_code_at, lined_events}
use Rattle.mdinline_constructs.specs.Reference.{reference_at}
use Rattle.mdinline_constructs.specs.WhiteSpace.{white_space, white_space_at}
use Rattle.mdinline_machine.proofs.DataBytes.{data_joined, joined_part, white_behind}
use Rattle.mdinline_machine.proofs.WhiteBytes.{no_item, white_or}

-- it does nothing with them
abbrev pub IsPlain : Found → Type 0
IsPlain item = item.mark ≡ plain

abbrev pub IsPlainIf : Option Found → Type 0
IsPlainIf o = OfOption IsPlain o

mapped-plain : {A : Type 0} (f : A → Found) → ((a : A) → IsPlain (f a)) → (o : Option A) → IsPlainIf (option_map f o)
mapped-plain f h None = tt
mapped-plain f h (Some a) = h a

pub code-plain : (text : List ℕ) → IsPlainIf (lined_code_at text)
code-plain text =
    let n = backticks text in
    let o = option_map (code_span_with lined_events n) (before_backtick_string n (drop n text)) in
    when-there IsPlain (has_byte_at text 0 is_backtick) o (mapped-plain (code_span_with lined_events n) (λ k. refl) (before_backtick_string n (drop n text)))

to-plain : (text : List ℕ) (o : Option ℕ) → IsPlainIf (autolink_to text o)
to-plain text None = tt
to-plain text (Some n) = when-there IsPlain (has_byte_at text (n + 1) is_greater_than) (Some (autolink n)) refl

pub autolink-plain : (text : List ℕ) → IsPlainIf (autolink_at text)
autolink-plain text = when-there IsPlain (has_byte_at text 0 is_less_than) (autolink_to text (uri (drop 1 text))) (to-plain text (uri (drop 1 text)))

pub email-plain : (text : List ℕ) → IsPlainIf (email_at text)
email-plain text = when-there IsPlain (has_byte_at text 0 is_less_than) (email_with text (prefix_len is_atext (drop 1 text))) (when-there IsPlain _ (Some _) refl)

pub html-plain : (text : List ℕ) (o : Option ℕ) → IsPlainIf (html_of text o)
html-plain text None = tt
html-plain text (Some n) = elim (has_blank_line (take n text)) as (λ t. IsPlainIf (cond t None (Some (html n)))) [ true ↦ tt | false ↦ refl ]

pub escape-plain : (text : List ℕ) → IsPlainIf (escape_at text)
escape-plain text = when-there IsPlain _ (Some escape) refl

pub break-plain : (text : List ℕ) → IsPlainIf (break_escape_at text)
break-plain text = when-there IsPlain _ (Some hard_break_escape) refl

pub reference-plain : (text : List ℕ) → IsPlainIf (reference_at text)
reference-plain = reference-holds IsPlain (λ kind n. refl)

trailing-plain : (text : List ℕ) → IsPlainIf (trailing_break_at text)
trailing-plain text = when-there IsPlain _ (Some (hard_break_trailing _)) refl

white-plain : (text : List ℕ) → IsPlainIf (white_space_at text)
white-plain text = when-there IsPlain _ (Some (white_space (prefix_len is_white text))) refl

-- what is there where no construct with a mark, no bracket and no end is
part-plain : (on : Constructs) (b : ℕ) (bs : List ℕ) → IsPlain (joined_part on (b ∷ bs))
part-plain on b bs =
    elim (begins_run on b) as (λ r. IsPlain (cond r (delimiter_run (run_length (b ∷ bs))) (cond (is_line_feed b) (line_break (prefix_len is_white bs)) (data_joined on (b ∷ bs))))) [
      | true ↦ refl
      | false ↦ elim (is_line_feed b) as (λ t. IsPlain (cond t (line_break (prefix_len is_white bs)) (data_joined on (b ∷ bs)))) [ true ↦ refl | false ↦ refl ]
    ]

pub unbracketed-plain : (on : Constructs) (b : ℕ) (bs : List ℕ) → IsPlain (white_or on (b ∷ bs) (joined_part on (b ∷ bs)))
unbracketed-plain on b bs = there-holds IsPlain white_grammars on (b ∷ bs) (joined_part on (b ∷ bs)) (trailing-plain (b ∷ bs), (white-plain (b ∷ bs), tt)) (part-plain on b bs)

-- nor does white space behind data
pub white-behind-plain : (on : Constructs) (text : List ℕ) → IsPlain (white_behind on text)
white-behind-plain on text = there-holds IsPlain white_grammars on text no_item (trailing-plain text, (white-plain text, tt)) refl
