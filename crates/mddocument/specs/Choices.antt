-- How a document is read: by which machine, in which cuts, and whether its chunks are read too.
use Rattle.std.specs.Prelude.{ℕ, ◌≤◌, IfSome, ◌&&◌, not, Bool, true, false, Option, Some, None, cond}
use Rattle.mddocument.specs.declared.choice.Choice.{Choice}
use Rattle.mddocument.specs.declared.choice.Which.{Which}
use Rattle.mddocument.specs.declared.choice.Which.TheVariants.{Lines, Paragraphs, Peek, Deep, Back, Save, Text, Flow, Document}

-- whether a machine links chunks of text
abbrev pub links_text : Which → Bool
links_text Lines = false
links_text Paragraphs = true
links_text Peek = false
links_text Deep = false
links_text Back = false
links_text Save = false
links_text Text = true
links_text Flow = true
links_text Document = true

-- the choice of a cut, of `--deep`, of a machine and of a tab size, if they are accepted together: `--deep` only with a machine that links
abbrev pub choice_together : Option ℕ → Bool → Which → ℕ → Option Choice
choice_together n is_deep which t = cond (is_deep && not (links_text which)) None (Some (record { cut = n; deep = is_deep; machine = which; tab = t }))

-- a cut is at least 1
abbrev pub CanCut : Choice → Type 0
CanCut choice = IfSome choice.cut (λ n. 1 ≤ n)
