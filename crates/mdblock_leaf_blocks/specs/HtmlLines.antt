-- HTML that a line begins (CommonMark 0.31, 4.6): which of the seven kinds, and where it ends. The definitions have no states.
use Rattle.std.specs.Prelude.{ℕ, zero, suc, ◌+◌, ◌==◌, ◌&&◌, ◌||◌, not, nat_le, Bool, true, false, cond, List, [], ◌∷◌, map, take, drop, length, Option, Some, None, codes}
use Rattle.std.specs.List.{prefix_len}
use Rattle.std.specs.Char.{is_ascii_alphabetic, is_ascii_alphanumeric}
use Rattle.markdown_base.specs.Texts.{html_block_names, html_raw_names}
use Rattle.mdconstructs_tables.specs.Breaks.{is_white}
pub use Rattle.mdblock_leaf_blocks.specs.LineWords.{first_passes, holds, is_blank_line, lower, starts_with, unindented}

-- Tag name (CommonMark, 6.6): an ASCII letter, and then letters, digits and dashes; how many bytes it has
abbrev pub tag_name : List ℕ → ℕ
tag_name t = cond (first_passes is_ascii_alphabetic t) (prefix_len (λ b. is_ascii_alphanumeric b || (b == 45)) t) 0

-- the bytes are one of these names, in any case
abbrev pub is_named : List (List ℕ) → List ℕ → Bool
is_named [] name = false
is_named (n ∷ ns) name = (starts_with n (map lower name) && (length n == length name)) || is_named ns name

-- Attribute name (CommonMark, 6.6): an ASCII letter, `_` or `:`, and then letters, digits, `_`, `.`, `:` and `-`
abbrev pub begins_attribute : ℕ → Bool
begins_attribute b = is_ascii_alphabetic b || ((b == 95) || (b == 58))

abbrev pub goes_on_attribute : ℕ → Bool
goes_on_attribute b = is_ascii_alphanumeric b || ((b == 95) || ((b == 46) || ((b == 58) || (b == 45))))

-- a byte of an attribute value without quotes
abbrev pub is_bare : ℕ → Bool
is_bare b = not (is_white b || ((b == 34) || ((b == 39) || ((b == 61) || ((b == 60) || ((b == 62) || (b == 96)))))))

-- what is behind a quoted value, if it ends
abbrev pub behind_quote : (quote : ℕ) → List ℕ → Option (List ℕ)
behind_quote quote [] = None
behind_quote quote (b ∷ bs) = cond (b == quote) (Some bs) (behind_quote quote bs)

-- what is behind an attribute value, if there is one
abbrev pub behind_value : List ℕ → Option (List ℕ)
behind_value t =
    cond (first_passes (λ b. b == 34) t) (behind_quote 34 (drop 1 t))
    (cond (first_passes (λ b. b == 39) t) (behind_quote 39 (drop 1 t))
    (cond (first_passes is_bare t) (Some (drop (prefix_len is_bare t) t)) None))

-- what is behind an attribute without the white space before it: its name, and maybe a value
abbrev pub behind_attribute : List ℕ → Option (List ℕ)
behind_attribute t =
    let rest = drop (prefix_len goes_on_attribute t) t in
    let more = unindented rest in
    cond (first_passes begins_attribute t) (cond (first_passes (λ b. b == 61) more) (behind_value (unindented (drop 1 more))) (Some rest)) None

-- the end of a tag, and then only white space
abbrev pub ends_tag : List ℕ → Bool
ends_tag t = first_passes (λ b. b == 62) t && is_blank_line (drop 1 t)

-- what comes behind a tag's name, so many bytes at most: attributes, each with white space before it; white space; maybe a slash; and the end
abbrev pub ends_open_tag : (bound : ℕ) → List ℕ → Bool
ends_open_tag zero t = false
ends_open_tag (suc bound) t =
    let more = unindented t in
    cond (first_passes (λ b. b == 47) more) (ends_tag (drop 1 more))
    (cond (first_passes (λ b. b == 62) more) (ends_tag more)
    (cond (first_passes is_white t) (elim (behind_attribute more) [ None ↦ false | Some rest ↦ ends_open_tag bound rest ]) false))

-- a complete opening tag, or a complete closing tag, and then only white space
abbrev pub is_open_tag : List ℕ → Bool
is_open_tag r = let n = tag_name (drop 1 r) in let rest = drop (1 + n) r in first_passes (λ b. b == 60) r && (nat_le 1 n && ends_open_tag (suc (length rest)) rest)

abbrev pub is_closing_tag : List ℕ → Bool
is_closing_tag r = let n = tag_name (drop 2 r) in starts_with (60 ∷ 47 ∷ []) r && (nat_le 1 n && ends_tag (unindented (drop (2 + n) r)))

-- ---- the seven kinds

-- HTML by how it begins (CommonMark, 4.6, in this order)
pub data HtmlKind : Type 0 where
  raw : HtmlKind
  comment : HtmlKind
  instruction : HtmlKind
  declaration : HtmlKind
  cdata : HtmlKind
  block_tag : HtmlKind
  any_tag : HtmlKind

-- the name of a tag, and what is behind it
abbrev pub name_at : List ℕ → List ℕ
name_at t = take (tag_name t) t

abbrev pub behind_name : List ℕ → List ℕ
behind_name t = drop (tag_name t) t

-- a space, a tab, `>` or nothing comes
abbrev pub ends_name : List ℕ → Bool
ends_name t = is_blank_line (take 1 t) || first_passes (λ b. b == 62) t

-- a tag of a block, from its name on
abbrev pub is_block_name : List ℕ → Bool
is_block_name t = is_named html_block_names (name_at t) && (ends_name (behind_name t) || starts_with (codes "/>") (behind_name t))

-- Start conditions: what a line begins with, from its first byte that is not white space on
abbrev pub begins : HtmlKind → List ℕ → Bool
-- 1. "<pre, <script, <style, or <textarea (case-insensitive), followed by a space, a tab, the string >, or the end of the line"
begins raw r = starts_with (codes "<") r && (is_named html_raw_names (name_at (drop 1 r)) && ends_name (behind_name (drop 1 r)))
-- 2. "<!--"
begins comment r = starts_with (codes "<!--") r
-- 3. "<?"
begins instruction r = starts_with (codes "<?") r
-- 4. "<! followed by an ASCII letter"
begins declaration r = starts_with (codes "<!") r && first_passes is_ascii_alphabetic (drop 2 r)
-- 5. "<![CDATA["
begins cdata r = starts_with (codes "<![CDATA[") r
-- 6. "< or </ followed by one of the strings (case-insensitive) .., followed by a space, a tab, the end of the line, the string >, or the string />"
begins block_tag r = (starts_with (codes "<") r && is_block_name (drop 1 r)) || (starts_with (codes "</") r && is_block_name (drop 2 r))
-- 7. "a complete open or closing tag .. followed by zero or more spaces and tabs, followed by the end of the line", here with any name
begins any_tag r = is_open_tag r || is_closing_tag r

-- The kind of HTML that a line begins, if it begins one. None of the first six begins as another does
abbrev pub html_kind : List ℕ → Option HtmlKind
html_kind r =
    cond (begins raw r) (Some raw)
    (cond (begins block_tag r) (Some block_tag)
    (cond (begins comment r) (Some comment)
    (cond (begins instruction r) (Some instruction)
    (cond (begins declaration r) (Some declaration)
    (cond (begins cdata r) (Some cdata)
    (cond (begins any_tag r) (Some any_tag) None))))))

-- End conditions: the line that HTML ends with contains this
abbrev pub ends : HtmlKind → List ℕ → Bool
-- 1. "an end tag </pre>, </script>, </style>, or </textarea> (case-insensitive; it need not match the start tag)"
ends raw t = let l = map lower t in holds (codes "</pre>") l || (holds (codes "</script>") l || (holds (codes "</style>") l || holds (codes "</textarea>") l))
-- 2. "-->", 3. "?>", 4. ">", 5. "]]>"
ends comment t = holds (codes "-->") t
ends instruction t = holds (codes "?>") t
ends declaration t = holds (codes ">") t
ends cdata t = holds (codes "]]>") t
-- 6. and 7. by no line
ends block_tag t = false
ends any_tag t = false

-- 6. and 7. "line is followed by a blank line"
abbrev pub waits_for_blank : HtmlKind → Bool
waits_for_blank block_tag = true
waits_for_blank any_tag = true
waits_for_blank _ = false
