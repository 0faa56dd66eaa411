-- The tests of raw HTML and of tags look no further than the byte that waits.
use Rattle.mdinline_constructs.proofs.Prelude.{Option, Some, None, refl, ap, AllByRecursion, ParseOptions, IsAnsweredAlike, tests, TextByte, line_feed, backtick, less, greater, backslash, colon, letter, digit, mark, ampersand, white, punctuation, blank, other, html_tags, html_is_on}

pub html-on-alike : IsAnsweredAlike {R = Unit {0}} {D = Unit {0}} html_is_on
html-on-alike g h s k alike = ap (λ (o : ParseOptions). o.constructs.html_text) alike.options

-- the tests of a byte that is no line feed: each takes what is seen, or what states share
abbrev AreAlike : TextByte → Type 0
AreAlike w = (previous : Option TextByte) → AllByRecursion IsAnsweredAlike (tests (html_tags {R = Unit {0}} {D = Unit {0}}).states previous (Some w))

bytes-alike : AreAlike other
bytes-alike previous =
    (λ g h s k a. refl, (λ g h s k a. refl, (λ g h s k a. refl, (λ g h s k a. refl, (λ g h s k a. refl, (λ g h s k a. refl, (λ g h s k a. refl, (λ g h s k a. refl, (λ g h s k a. refl, (λ g h s k a. refl, (λ g h s k a. refl, (λ g h s k a. refl, (λ g h s k a. refl, (λ g h s k a. refl, (λ g h s k a. refl, (λ g h s k a. refl, (λ g h s k a. refl, (λ g h s k a. refl, (λ g h s k a. refl, (λ g h s k a. refl, (λ g h s k a. refl, (λ g h s k a. refl, (λ g h s k a. refl, (λ g h s k a. refl, (λ g h s k a. refl, (λ g h s k a. refl, (λ g h s k a. refl, (λ g h s k a. refl, (λ g h s k a. refl, (λ g h s k a. refl, (λ g h s k a. refl, (λ g h s k a. refl, (λ g h s k a. refl, (λ g h s k a. refl, (λ g h s k a. refl, (λ g h s k a. refl, (λ g h s k a. refl, (λ g h s k a. refl, (λ g h s k a. refl, (λ g h s k a. refl, (λ g h s k a. refl, (λ g h s k a. refl, (λ g h s k a. refl, (λ g h s k a. refl, (λ g h s k a. refl, (λ g h s k a. refl, (λ g h s k a. refl, (λ g h s k a. refl, (λ g h s k a. refl, (λ g h s k a. refl, tt))))))))))))))))))))))))))))))))))))))))))))))))))

pub html-tags-alike : (previous current : Option TextByte) → AllByRecursion IsAnsweredAlike (tests (html_tags {R = Unit {0}} {D = Unit {0}}).states previous current)
html-tags-alike previous None = tt
html-tags-alike previous (Some line_feed) = tt
html-tags-alike previous (Some backtick) = bytes-alike previous
html-tags-alike previous (Some less) = bytes-alike previous
html-tags-alike previous (Some greater) = bytes-alike previous
html-tags-alike previous (Some backslash) = bytes-alike previous
html-tags-alike previous (Some colon) = bytes-alike previous
html-tags-alike previous (Some letter) = bytes-alike previous
html-tags-alike previous (Some digit) = bytes-alike previous
html-tags-alike previous (Some mark) = bytes-alike previous
html-tags-alike previous (Some ampersand) = bytes-alike previous
html-tags-alike previous (Some white) = bytes-alike previous
html-tags-alike previous (Some punctuation) = bytes-alike previous
html-tags-alike previous (Some blank) = bytes-alike previous
html-tags-alike previous (Some other) = bytes-alike previous
