use Rattle.mdtests_tables.proofs.Prelude.{◌≡◌, Option, Some, None, refl, subst, lit<, option_and_then, Contains, Content, Flow, String, Name, ContentDefinitionBefore, StringStart, TextStart, start_name, starved}
use Rattle.markdown.specs.declared.event.Content.TheVariants.{Text}
use Rattle.markdown.specs.declared.event.Content.TheVariants as content
use Rattle.mdtests_tables.proofs.starved.read_chains.Goals as goal

-- the machine starts with the state of each content that is read
any-start : (content : Option Content) (name : Name) → option_and_then start_name content ≡ Some name → Contains starved.starts name
any-start None name e = absurd (cc)
any-start (Some Flow) name e = absurd (cc)
any-start (Some content.Content) name e = let same : ContentDefinitionBefore ≡ name = cc in subst (Contains starved.starts) same (0, lit< tt, refl)
any-start (Some String) name e = let same : StringStart ≡ name = cc in subst (Contains starved.starts) same (1, lit< tt, refl)
any-start (Some Text) name e = let same : TextStart ≡ name = cc in subst (Contains starved.starts) same (2, lit< tt, refl)

pub subtokenize-answer-requires-clause-starts : goal.subtokenize-answer-requires-clause-starts
subtokenize-answer-requires-clause-starts c = λ _ name _ start. any-start _ name start
