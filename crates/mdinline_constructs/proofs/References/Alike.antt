-- The tests of character references look no further than the byte that waits.
use Rattle.mdinline_constructs.proofs.Prelude.{refl, ap, ParseOptions, IsAnsweredAlike, at_number_sign, at_semicolon, at_x, references_are_on, value_goes_on, value_is_whole}

pub on-alike : IsAnsweredAlike {R = Unit {0}} {D = Unit {0}} references_are_on
on-alike g h s k alike = ap (λ (o : ParseOptions). o.constructs.character_reference) alike.options

pub number-sign-alike : IsAnsweredAlike {R = Unit {0}} {D = Unit {0}} at_number_sign
number-sign-alike g h s k alike = refl

pub x-alike : IsAnsweredAlike {R = Unit {0}} {D = Unit {0}} at_x
x-alike g h s k alike = refl

pub semicolon-alike : IsAnsweredAlike {R = Unit {0}} {D = Unit {0}} at_semicolon
semicolon-alike g h s k alike = refl

pub goes-on-alike : IsAnsweredAlike {R = Unit {0}} {D = Unit {0}} value_goes_on
goes-on-alike g h s k alike = refl

pub whole-alike : IsAnsweredAlike {R = Unit {0}} {D = Unit {0}} value_is_whole
whole-alike g h s k alike = refl
