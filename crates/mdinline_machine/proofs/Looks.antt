-- The machine of inline text refuses no document, by the test of its rows; and it looks no further than the byte that waits: its tests take of the
-- document the options, and bytes before that byte.
use Rattle.mdinline_machine.proofs.Prelude.{ℕ, zero, suc, take, sym, ◌∙◌, Bool, ◌≡◌, ◌&&◌, ◌||◌, reverse, begins_bracket, begins_run, begins_end, begins_image, begins_link, List, [], ◌∷◌, ◌++◌, Option, Some, None, refl, ap, AllByRecursion, ParseOptions, LooksNoFurther, IsAnsweredAlike, tests, tests_of, refusing, RulesRefuseNothing, steps-alike, table-steps, refuse-nothing, autolinks, passes, escapes, TextByte, line_feed, backtick, less, greater, backslash, colon, letter, digit, mark, ampersand, white, punctuation, blank, other, every-append, TextBeforeHardBreakEscape, every-back, every-front, StateRows, states_of, html-on-alike, html-tags-alike, emails, html_marks, html_tags, domain-ends-alike, hyphen-alike, label-alike, label-ends-alike, name-alike, name-ends-alike, break_escapes_are_on, space_waits, trailing_breaks_are_on, at_number_sign, at_semicolon, at_x, value_goes_on, value_is_whole, goes-on-alike, number-sign-alike, on-alike, semicolon-alike, whole-alike, x-alike, remembered_code_spans, inlines_rules, behind_escapes, inline_constructs, inline_start, inlines, own_states, run_begins, run_goes_on, run_states, string_states}
use Rattle.markdown_tokenizer.specs.Alike.{AreAlikeUpTo, bytes_up_to}
use Rattle.markdown_tokenizer.specs.Sight.{Sight}
use Rattle.markdown_tokenizer.specs.Text.{Given}
use Rattle.mdinline_full_references.specs.FullReferenceRows.{label_behind}
use Rattle.mdinline_link_tails.specs.ResourceRows.{resources}
use Rattle.mdinline_machine.specs.BracketRows.{bracket_states, collapsed_open, collapsed_start, end_after, end_is_awaited, end_may_make, end_nok, end_ok, end_start, has_own_label, image_begins, image_open, image_start, kept_starts, label_is_wanted, link_begins, link_start, mark_begins, may_make, not_full, not_resource, one_waits, own_label_is_defined, read_before, reference_end, reference_states}
use Rattle.mdinline_machine.specs.Brackets.{is_defined_label}
use Rattle.mdinline_text_machine.proofs.Texts.NoFurther.{autolinks as autolinks-on, code-spans, escapes as escapes-on, room, scheme, sizes}

none-refuses : (defined : List ℕ → Bool) (previous current : Option TextByte) → refusing (inlines defined) previous current ≡ []
none-refuses defined previous (Some line_feed) = refl
none-refuses defined previous _ = refl

pub inlines-refuse-nothing : (defined : List ℕ → Bool) → RulesRefuseNothing (inlines_rules defined)
inlines-refuse-nothing defined = refuse-nothing (inlines_rules defined) (λ g s k name. table-steps (inlines defined) (none-refuses defined) g s k name) (λ g s k r m e. absurd (cc))

begins : IsAnsweredAlike {R = Unit {0}} {D = Unit {0}} run_begins
begins g h s k alike = ap (λ (o : ParseOptions). passes (begins_run o.constructs) s.current) alike.options

goes-on : IsAnsweredAlike {R = Unit {0}} {D = Unit {0}} run_goes_on
goes-on g h s k alike = refl

-- tests of brackets
links-begin : IsAnsweredAlike {R = Unit {0}} {D = Unit {0}} link_begins
links-begin g h s k alike = ap (λ (o : ParseOptions). passes (begins_link o.constructs) s.current) alike.options

images-begin : IsAnsweredAlike {R = Unit {0}} {D = Unit {0}} image_begins
images-begin g h s k alike = ap (λ (o : ParseOptions). passes (begins_image o.constructs) s.current) alike.options

ends-make : IsAnsweredAlike {R = Unit {0}} {D = Unit {0}} end_may_make
ends-make g h s k alike = ap (λ (o : ParseOptions). passes (begins_end o.constructs) s.current && may_make (reverse (kept_starts k))) alike.options

ends-awaited : IsAnsweredAlike {R = Unit {0}} {D = Unit {0}} end_is_awaited
ends-awaited g h s k alike = ap (λ (o : ParseOptions). passes (begins_end o.constructs) s.current && one_waits (reverse (kept_starts k))) alike.options

marks : IsAnsweredAlike {R = Unit {0}} {D = Unit {0}} mark_begins
marks g h s k alike = ap (λ (o : ParseOptions). passes (begins_run o.constructs) s.current || passes (begins_bracket o.constructs) s.current) alike.options

break-escapes : IsAnsweredAlike {R = Unit {0}} {D = Unit {0}} break_escapes_are_on
break-escapes g h s k alike = ap (λ (o : ParseOptions). o.constructs.hard_break_escape) alike.options

trailing-breaks : IsAnsweredAlike {R = Unit {0}} {D = Unit {0}} trailing_breaks_are_on
trailing-breaks g h s k alike = ap (λ (o : ParseOptions). o.constructs.hard_break_trailing) alike.options

space : IsAnsweredAlike {R = Unit {0}} {D = Unit {0}} space_waits
space g h s k alike = refl

-- the tests of character references, and others
refs : {P : Type 0} → P
    → IsAnsweredAlike {R = Unit {0}} {D = Unit {0}} at_number_sign × (IsAnsweredAlike {R = Unit {0}} {D = Unit {0}} value_goes_on × (IsAnsweredAlike {R = Unit {0}} {D = Unit {0}} at_x
    × (IsAnsweredAlike {R = Unit {0}} {D = Unit {0}} value_goes_on × (IsAnsweredAlike {R = Unit {0}} {D = Unit {0}} at_semicolon × (IsAnsweredAlike {R = Unit {0}} {D = Unit {0}} value_is_whole
    × (IsAnsweredAlike {R = Unit {0}} {D = Unit {0}} value_goes_on × P))))))
refs others = (number-sign-alike, (goes-on-alike, (x-alike, (goes-on-alike, (semicolon-alike, (whole-alike, (goes-on-alike, others)))))))

-- of the states between constructs
abbrev between_states : List (StateRows TextByte Unit Unit)
between_states = string_states ++ (run_states ++ inline_start ∷ own_states)

between-alike : (previous current : Option TextByte) → AllByRecursion IsAnsweredAlike (tests between_states previous current)
between-alike previous None = (break-escapes, (autolinks-on, (html-on-alike, (html-on-alike, (html-on-alike, (html-on-alike, (html-on-alike, tt)))))))
between-alike previous (Some line_feed) = (goes-on, (break-escapes, (autolinks-on, (html-on-alike, (html-on-alike, (html-on-alike, (html-on-alike, (html-on-alike, (trailing-breaks, (trailing-breaks, tt))))))))))
between-alike previous (Some backtick) = (goes-on, (code-spans, (break-escapes, (autolinks-on, (html-on-alike, (html-on-alike, (html-on-alike, (html-on-alike, (html-on-alike, tt)))))))))
between-alike previous (Some less) = (goes-on, (autolinks-on, (autolinks-on, (html-on-alike, (html-on-alike, (break-escapes, (autolinks-on, (html-on-alike, (html-on-alike, (html-on-alike, (html-on-alike, (html-on-alike, tt))))))))))))
between-alike previous (Some greater) = (goes-on, (break-escapes, (autolinks-on, (html-on-alike, (html-on-alike, (html-on-alike, (html-on-alike, (html-on-alike, tt))))))))
between-alike previous (Some backslash) = (escapes-on, (goes-on, (escapes-on, (break-escapes, (break-escapes, (autolinks-on, (html-on-alike, (html-on-alike, (html-on-alike, (html-on-alike, (html-on-alike, tt)))))))))))
between-alike previous (Some colon) = (goes-on, (break-escapes, (autolinks-on, (html-on-alike, (html-on-alike, (html-on-alike, (html-on-alike, (html-on-alike, tt))))))))
between-alike previous (Some letter) = (goes-on, (break-escapes, (autolinks-on, (html-on-alike, (html-on-alike, (html-on-alike, (html-on-alike, (html-on-alike, tt))))))))
between-alike previous (Some digit) = (goes-on, (break-escapes, (autolinks-on, (html-on-alike, (html-on-alike, (html-on-alike, (html-on-alike, (html-on-alike, tt))))))))
between-alike previous (Some mark) = (goes-on, (break-escapes, (autolinks-on, (html-on-alike, (html-on-alike, (html-on-alike, (html-on-alike, (html-on-alike, tt))))))))
between-alike previous (Some ampersand) = (on-alike, (goes-on, (on-alike, (break-escapes, (autolinks-on, (html-on-alike, (html-on-alike, (html-on-alike, (html-on-alike, (html-on-alike, tt))))))))))
between-alike previous (Some white) = (goes-on, (space, (break-escapes, (autolinks-on, (html-on-alike, (html-on-alike, (html-on-alike, (html-on-alike, (html-on-alike, (space, (space, (space, (space, (space, tt))))))))))))))
between-alike previous (Some punctuation) = (goes-on, (begins, (links-begin, (images-begin, (ends-make, (ends-awaited, (break-escapes, (autolinks-on, (html-on-alike, (html-on-alike, (html-on-alike, (html-on-alike, (html-on-alike, (marks, (marks, (marks, (marks, tt)))))))))))))))))
between-alike previous (Some blank) = (goes-on, (break-escapes, (autolinks-on, (html-on-alike, (html-on-alike, (html-on-alike, (html-on-alike, (html-on-alike, tt))))))))
between-alike previous (Some other) = (goes-on, (break-escapes, (autolinks-on, (html-on-alike, (html-on-alike, (html-on-alike, (html-on-alike, (html-on-alike, tt))))))))

code-spans-alike : (previous current : Option TextByte) → AllByRecursion IsAnsweredAlike (tests (remembered_code_spans {R = Unit {0}} {D = Unit {0}}).states previous current)
code-spans-alike previous None = (sizes, tt)
code-spans-alike previous (Some backtick) = tt
code-spans-alike previous (Some _) = ((λ g h s k alike. refl), (sizes, tt))

autolinks-alike : (previous current : Option TextByte) → AllByRecursion IsAnsweredAlike (tests (autolinks {R = Unit {0}} {D = Unit {0}}).states previous current)
autolinks-alike previous (Some colon) = (scheme, tt)
autolinks-alike previous (Some letter) = (room, tt)
autolinks-alike previous (Some digit) = (room, tt)
autolinks-alike previous (Some mark) = (room, tt)
autolinks-alike previous _ = tt

emails-alike : (previous current : Option TextByte) → AllByRecursion IsAnsweredAlike (tests (emails {R = Unit {0}} {D = Unit {0}}).states previous current)
emails-alike previous None = tt
emails-alike previous (Some _) = (name-ends-alike, (name-alike, (label-alike, (hyphen-alike, (label-ends-alike, (domain-ends-alike, (label-alike, (hyphen-alike, tt))))))))

marks-alike : (previous current : Option TextByte) → AllByRecursion IsAnsweredAlike (tests (html_marks {R = Unit {0}} {D = Unit {0}}).states previous current)
marks-alike previous None = tt
marks-alike previous (Some line_feed) = tt
marks-alike previous (Some _) = ((λ g h s k alike. refl), ((λ g h s k alike. refl), ((λ g h s k alike. refl), ((λ g h s k alike. refl), ((λ g h s k alike. refl), ((λ g h s k alike. refl), ((λ g h s k alike. refl), ((λ g h s k alike. refl), ((λ g h s k alike. refl), ((λ g h s k alike. refl), ((λ g h s k alike. refl), ((λ g h s k alike. refl), ((λ g h s k alike. refl), ((λ g h s k alike. refl), ((λ g h s k alike. refl), ((λ g h s k alike. refl), ((λ g h s k alike. refl), ((λ g h s k alike. refl), tt))))))))))))))))))

-- of backslash escapes and those that follow them
others-alike : (previous current : Option TextByte) → AllByRecursion IsAnsweredAlike (tests (states_of (record escapes { otherwise = TextBeforeHardBreakEscape } ∷ behind_escapes)) previous current)
others-alike previous None = tt
others-alike previous (Some white) = refs tt
others-alike previous (Some _) = refs tt

-- the bytes before the one that waits are the same in two documents that are alike up to the place behind it
pub take-swap : (n m : ℕ) (xs : List ℕ) → take n (take m xs) ≡ take m (take n xs)
take-swap zero zero xs = refl
take-swap zero (suc m) [] = refl
take-swap zero (suc m) (x ∷ xs) = refl
take-swap (suc n) zero [] = refl
take-swap (suc n) zero (x ∷ xs) = refl
take-swap (suc n) (suc m) [] = refl
take-swap (suc n) (suc m) (x ∷ xs) = ap (λ l. x ∷ l) (take-swap n m xs)

before-alike : (g h : Given) (s : Sight) → AreAlikeUpTo g h s.next → read_before g s ≡ read_before h s
before-alike g h s alike =
    let n = bytes_up_to s.next in
    let m = s.enter_place.index in
    take-swap n m g.bytes ∙ ap (take m) alike.bytes ∙ sym (take-swap n m h.bytes)

-- tests of labels
module _ (defined : List ℕ → Bool) where
  wanted-alike : IsAnsweredAlike {R = Unit {0}} {D = Unit {0}} (label_is_wanted defined)
  wanted-alike g h s k alike = ap (λ bytes. is_defined_label defined bytes (label_behind k.events)) (before-alike g h s alike)

  own-alike : IsAnsweredAlike {R = Unit {0}} {D = Unit {0}} (own_label_is_defined defined)
  own-alike g h s k alike = ap (λ bytes. has_own_label defined bytes k.events (reverse (kept_starts k))) (before-alike g h s alike)

  -- of brackets and ends
  abbrev end_states : List (StateRows TextByte Unit Unit)
  end_states = link_start ∷ image_start ∷ image_open ∷ end_start ∷ not_resource ∷ reference_end ∷ not_full defined ∷ end_after ∷ collapsed_start ∷ collapsed_open ∷ end_ok ∷ end_nok ∷ []

  ends-alike : (previous current : Option TextByte) → AllByRecursion IsAnsweredAlike (tests end_states previous current)
  ends-alike previous None = ((λ g h s k alike. refl), (own-alike, tt))
  ends-alike previous (Some _) = ((λ g h s k alike. refl), ((λ g h s k alike. refl), (own-alike, ((λ g h s k alike. refl), ((λ g h s k alike. refl), tt)))))

  -- of labels of full references
  labels-alike : (previous current : Option TextByte) → AllByRecursion IsAnsweredAlike (tests (reference_states {R = Unit {0}} {D = Unit {0}} defined) previous current)
  labels-alike previous None = tt
  labels-alike previous (Some _) = ((λ g h s k alike. refl), ((λ g h s k alike. refl), ((λ g h s k alike. refl), ((λ g h s k alike. refl), ((λ g h s k alike. refl), ((λ g h s k alike. refl), ((λ g h s k alike. refl), ((λ g h s k alike. refl), ((λ g h s k alike. refl), ((λ g h s k alike. refl), ((λ g h s k alike. refl), ((λ g h s k alike. refl), ((λ g h s k alike. refl), ((λ g h s k alike. refl), ((λ g h s k alike. refl), ((λ g h s k alike. refl), ((λ g h s k alike. refl), ((λ g h s k alike. refl), ((λ g h s k alike. refl), ((λ g h s k alike. refl), (wanted-alike, tt)))))))))))))))))))))

-- of resources
resources-alike : (previous current : Option TextByte) → AllByRecursion IsAnsweredAlike (tests (resources {R = Unit {0}} {D = Unit {0}}).states previous current)
resources-alike previous None = tt
resources-alike previous (Some _) = ((λ g h s k alike. refl), ((λ g h s k alike. refl), ((λ g h s k alike. refl), ((λ g h s k alike. refl), ((λ g h s k alike. refl), ((λ g h s k alike. refl), ((λ g h s k alike. refl), ((λ g h s k alike. refl), ((λ g h s k alike. refl), ((λ g h s k alike. refl), ((λ g h s k alike. refl), ((λ g h s k alike. refl), ((λ g h s k alike. refl), ((λ g h s k alike. refl), ((λ g h s k alike. refl), ((λ g h s k alike. refl), ((λ g h s k alike. refl), ((λ g h s k alike. refl), ((λ g h s k alike. refl), ((λ g h s k alike. refl), ((λ g h s k alike. refl), ((λ g h s k alike. refl), ((λ g h s k alike. refl), ((λ g h s k alike. refl), ((λ g h s k alike. refl), ((λ g h s k alike. refl), ((λ g h s k alike. refl), ((λ g h s k alike. refl), ((λ g h s k alike. refl), ((λ g h s k alike. refl), ((λ g h s k alike. refl), ((λ g h s k alike. refl), ((λ g h s k alike. refl), ((λ g h s k alike. refl), ((λ g h s k alike. refl), ((λ g h s k alike. refl), ((λ g h s k alike. refl), ((λ g h s k alike. refl), ((λ g h s k alike. refl), ((λ g h s k alike. refl), ((λ g h s k alike. refl), ((λ g h s k alike. refl), ((λ g h s k alike. refl), ((λ g h s k alike. refl), ((λ g h s k alike. refl), ((λ g h s k alike. refl), ((λ g h s k alike. refl), ((λ g h s k alike. refl), ((λ g h s k alike. refl), ((λ g h s k alike. refl), ((λ g h s k alike. refl), ((λ g h s k alike. refl), ((λ g h s k alike. refl), ((λ g h s k alike. refl), ((λ g h s k alike. refl), ((λ g h s k alike. refl), ((λ g h s k alike. refl), ((λ g h s k alike. refl), ((λ g h s k alike. refl), tt)))))))))))))))))))))))))))))))))))))))))))))))))))))))))))

-- of two lists of states together
both-alike : (xs ys : List (StateRows TextByte Unit Unit)) (previous current : Option TextByte) → AllByRecursion IsAnsweredAlike (tests xs previous current) → AllByRecursion IsAnsweredAlike (tests ys previous current)
    → AllByRecursion IsAnsweredAlike (tests (xs ++ ys) previous current)
both-alike [] ys b w h k = k
both-alike (x ∷ xs) ys b w h k =
    let first = tests_of (x.rows b w) in
    every-append IsAnsweredAlike first (tests (xs ++ ys) b w) (every-front IsAnsweredAlike first (tests xs b w) h) (both-alike xs ys b w (every-back IsAnsweredAlike first (tests xs b w) h) k)

-- of brackets, resources and references
brackets-alike : (defined : List ℕ → Bool) (previous current : Option TextByte) → AllByRecursion IsAnsweredAlike (tests (bracket_states {R = Unit {0}} {D = Unit {0}} defined) previous current)
brackets-alike defined b w =
    both-alike (end_states defined) (resources.states ++ reference_states defined) b w (ends-alike defined b w)
    (both-alike resources.states (reference_states defined) b w (resources-alike b w) (labels-alike defined b w))

alike : (defined : List ℕ → Bool) (previous current : Option TextByte) → AllByRecursion IsAnsweredAlike (tests (inlines defined).states previous current)
alike defined b w =
    let escaped : List (StateRows TextByte Unit Unit) = states_of (record escapes { otherwise = TextBeforeHardBreakEscape } ∷ behind_escapes) in
    let tags = both-alike html_tags.states escaped b w (html-tags-alike b w) (others-alike b w) in
    let marks = both-alike html_marks.states (html_tags.states ++ escaped) b w (marks-alike b w) tags in
    let mails = both-alike emails.states (html_marks.states ++ (html_tags.states ++ escaped)) b w (emails-alike b w) marks in
    let links = both-alike autolinks.states (emails.states ++ (html_marks.states ++ (html_tags.states ++ escaped))) b w (autolinks-alike b w) mails in
    both-alike between_states (states_of inline_constructs ++ bracket_states defined) b w (between-alike b w) (both-alike (states_of inline_constructs) (bracket_states defined) b w (both-alike remembered_code_spans.states (autolinks.states ++ (emails.states ++ (html_marks.states ++ (html_tags.states ++ escaped)))) b w (code-spans-alike b w) links) (brackets-alike defined b w))

pub inlines-look : (defined : List ℕ → Bool) → LooksNoFurther (inlines_rules defined)
inlines-look defined g h text k name is same = steps-alike (inlines defined) (alike defined) g h _ k name same
