-- Examples of tags (CommonMark 0.31, 6.6): how many bytes they have.
use Rattle.mdinline_constructs.proofs.Prelude.{◌≡◌, Some, None, refl, codes, tag_length}

example_1 : tag_length (codes "<a><bab>") ≡ Some 3
example_1 = refl

example_2 : tag_length (codes "<a/>") ≡ Some 4
example_2 = refl

example_3 : tag_length (codes "<b2/>") ≡ Some 5
example_3 = refl

example_4 : tag_length (codes "<a  />") ≡ Some 6
example_4 = refl

example_5 : tag_length (codes "<33>") ≡ None
example_5 = refl

example_6 : tag_length (codes "<__>") ≡ None
example_6 = refl

example_7 : tag_length (codes "< a>") ≡ None
example_7 = refl

example_8 : tag_length (codes "<a h*#ref>") ≡ None
example_8 = refl

example_9 : tag_length (codes "<a href='hi>") ≡ None
example_9 = refl

example_10 : tag_length (codes "<a href='bar'title=title>") ≡ None
example_10 = refl

example_11 : tag_length (codes "</a></foo >") ≡ Some 4
example_11 = refl

example_12 : tag_length (codes "</foo >") ≡ Some 7
example_12 = refl

example_13 : tag_length (codes "</a href='foo'>") ≡ None
example_13 = refl

example_14 : tag_length (codes "<foo bar=baz") ≡ None
example_14 = refl

example_15 : tag_length (codes "<a foo=bar _boolean zoop:33=zoop:33 />") ≡ Some 38
example_15 = refl

example_16 : tag_length (codes "<a b = 'c>d' e>") ≡ Some 15
example_16 = refl

example_17 : tag_length (codes "<bar/ >") ≡ None
example_17 = refl

example_18 : tag_length (codes "<i class=>") ≡ None
example_18 = refl
