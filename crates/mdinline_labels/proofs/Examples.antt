-- Examples of parts of links and of definitions, computed from their definitions.
use Rattle.mdinline_labels.proofs.Prelude.{◌≡◌, [], ◌++◌, Some, None, false, refl, codes, length, replicate, is_label, collapsed, label_size, destination_size, title_size, definition_at, definitions, rest, stretch_at, resource_at}

label : label_size (codes "a\\]b] c") ≡ Some 4
label = refl

no-label : label_size (codes "a [b] c") ≡ None
no-label = refl

-- no blank line in a label
torn-label : label_size (codes "a\n \nb]") ≡ None
torn-label = refl

raw : destination_size (codes "a(b)c) d") ≡ Some 5
raw = refl

open-one : destination_size (codes "a(b") ≡ None
open-one = refl

-- 32 parentheses may be open, and 33 may not
deep : destination_size (replicate 32 40 ++ replicate 32 41) ≡ Some 64
deep = refl

too-deep : destination_size (replicate 33 40 ++ replicate 33 41) ≡ None
too-deep = refl

marked : destination_size (codes "<a b>c") ≡ Some 5
marked = refl

marked-empty : destination_size (codes "<>") ≡ Some 2
marked-empty = refl

no-destination : destination_size (codes " a") ≡ None
no-destination = refl

title : title_size (codes "\"a\\\"b\" c") ≡ Some 6
title = refl

nested : title_size (codes "(a(b)") ≡ None
nested = refl

torn-title : title_size (codes "'a\n\t\nb'") ≡ None
torn-title = refl

one : definition_at (codes " [a]:\n /u 't' \nb") ≡ Some (record { label = stretch_at 1 3; destination = stretch_at 7 2; title = Some (stretch_at 10 3); size = 14 })
one = refl

-- a title with more in its line is none, and is given back
given-back : definition_at (codes "[a]: /u\n't' b") ≡ Some (record { label = stretch_at 0 3; destination = stretch_at 5 2; title = None; size = 7 })
given-back = refl

no-definition : definition_at (codes "[a]: /u 't' b") ≡ None
no-definition = refl

-- no title without white space before it
no-white : definition_at (codes "[a]: <u>'t'") ≡ None
no-white = refl

-- a label is not only white space
no-name : definition_at (codes "[ ]: /u") ≡ None
no-name = refl

together : collapsed (codes " a \n\t b ") ≡ codes "a b"
together = refl

all-white : is_label (codes " \n") ≡ false
all-white = refl

-- three definitions, and text behind them
three : length (definitions (codes "[a]: /u\n[b]:\n  <v>\n[c]: /w 'x\ny'\n[d] z")) ≡ 3
three = refl

behind-three : rest (codes "[a]: /u\n[b]:\n  <v>\n[c]: /w 'x\ny'\n[d] z") ≡ codes "[d] z"
behind-three = refl

all-defined : rest (codes "[a]: /u\n[b]: /v") ≡ []
all-defined = refl

tail : resource_at (codes "( <u v>\n 't' )x") ≡ Some (record { destination = Some (stretch_at 2 5); title = Some (stretch_at 9 3); size = 14 })
tail = refl

-- no title without white space before it
tail-no-white : resource_at (codes "(<u>'t')") ≡ None
tail-no-white = refl

empty : resource_at (codes "()") ≡ Some (record { destination = None; title = None; size = 2 })
empty = refl

-- one line ending at most stands in an empty one
empty-lines : resource_at (codes "(\n )") ≡ Some (record { destination = None; title = None; size = 4 })
empty-lines = refl

two-lines : resource_at (codes "(\n\n)") ≡ None
two-lines = refl
