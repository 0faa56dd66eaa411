-- The examples, computed.
use Rattle.std.proofs.Common.{◌≡◌, refl}
use Rattle.mdgfm_literals.specs.Examples.{lines, lines_told, lines_with, literals, of_emails, of_ends, of_escapes, of_protocols, of_www, told}

pub www-told : literals of_www ≡ told of_www
www-told = refl

pub protocols-told : literals of_protocols ≡ told of_protocols
protocols-told = refl

pub ends-told : literals of_ends ≡ told of_ends
ends-told = refl

pub emails-told : literals of_emails ≡ told of_emails
emails-told = refl

pub escapes-told : literals of_escapes ≡ told of_escapes
escapes-told = refl

pub lines-told : lines_with lines ≡ lines_told lines
lines-told = refl
