-- Raw HTML between marks (CommonMark 0.31, 6.6), with no states: comments, instructions, declarations and CDATA.
use Rattle.std.specs.Prelude.{ℕ, ◌+◌, ◌==◌, ◌&&◌, Bool, true, cond, false, List, [], ◌∷◌, drop, length, Option, Some, None, codes}
use Rattle.std.specs.Char.{is_ascii_alphabetic}
use Rattle.mdinline_text_machine.specs.Bytes.{is_less_than, has_byte_at}
use Rattle.mdinline_text_machine.specs.Construct.{Found, Grammar}
use Rattle.mdinline_constructs.specs.HtmlText.{html_of}

-- a text begins with these bytes
abbrev pub starts_with : List ℕ → List ℕ → Bool
starts_with [] text = true
starts_with (m ∷ ms) [] = false
starts_with (m ∷ ms) (b ∷ bs) = (b == m) && starts_with ms bs

-- so many bytes more, if there are some
abbrev pub and_before : ℕ → Option ℕ → Option ℕ
and_before n None = None
and_before n (Some k) = Some (n + k)

-- how many bytes come up to the end of the first mark, if there is one
abbrev pub through : (mark : List ℕ) → List ℕ → Option ℕ
through mark [] = None
through mark (b ∷ bs) = cond (starts_with mark (b ∷ bs)) (Some (length mark)) (and_before 1 (through mark bs))

-- from an opening mark at the front through the first closing mark behind it
abbrev pub between_marks : (opening closing : List ℕ) → List ℕ → Option ℕ
between_marks opening closing text = cond (starts_with opening text) (and_before (length opening) (through closing (drop (length opening) text))) None

-- Comment: `<!-->`, `<!--->`, or `<!--` through the first `-->` behind it; how many bytes it has
abbrev pub comment : List ℕ → Option ℕ
comment text = cond (starts_with (codes "<!-->") text) (Some 5) (cond (starts_with (codes "<!--->") text) (Some 6) (between_marks (codes "<!--") (codes "-->") text))

-- Processing instruction: `<?` through the first `?>` behind it
abbrev pub instruction : List ℕ → Option ℕ
instruction text = between_marks (codes "<?") (codes "?>") text

-- Declaration: `<!` and an ASCII letter, through the first `>`
abbrev pub declaration : List ℕ → Option ℕ
declaration text = cond (has_byte_at text 2 is_ascii_alphabetic) (between_marks (codes "<!") (codes ">") text) None

-- CDATA section: `<![CDATA[` through the first `]]>` behind it
abbrev pub cdata : List ℕ → Option ℕ
cdata text = between_marks (codes "<![CDATA[") (codes "]]>") text

-- the first of two that is there
abbrev pub either_there : Option ℕ → Option ℕ → Option ℕ
either_there None other = other
either_there (Some n) other = Some n

-- how many bytes the one that is there has: each begins in another way, so at most one is
abbrev pub marked : List ℕ → Option ℕ
marked text = either_there (comment text) (either_there (instruction text) (either_there (declaration text) (cdata text)))

-- what raw HTML between marks is
abbrev pub html_mark_grammar : Grammar Found
html_mark_grammar = record { first = is_less_than; on = λ on. on.html_text; front = λ text. html_of text (marked text) }
