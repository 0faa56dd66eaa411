-- The tests of email autolinks look no further than the byte that waits.
use Rattle.mdinline_constructs.proofs.Prelude.{refl, IsAnsweredAlike, domain_ends, label_ends, label_goes_on, label_has_hyphen, name_ends, name_goes_on}

pub name-ends-alike : IsAnsweredAlike {R = Unit {0}} {D = Unit {0}} name_ends
name-ends-alike g h s k alike = refl

pub name-alike : IsAnsweredAlike {R = Unit {0}} {D = Unit {0}} name_goes_on
name-alike g h s k alike = refl

pub label-alike : IsAnsweredAlike {R = Unit {0}} {D = Unit {0}} label_goes_on
label-alike g h s k alike = refl

pub hyphen-alike : IsAnsweredAlike {R = Unit {0}} {D = Unit {0}} label_has_hyphen
hyphen-alike g h s k alike = refl

pub label-ends-alike : IsAnsweredAlike {R = Unit {0}} {D = Unit {0}} label_ends
label-ends-alike g h s k alike = refl

pub domain-ends-alike : IsAnsweredAlike {R = Unit {0}} {D = Unit {0}} domain_ends
domain-ends-alike g h s k alike = refl
