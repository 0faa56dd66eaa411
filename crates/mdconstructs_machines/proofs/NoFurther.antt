-- Paragraphs look no further than the byte that waits: their tests take nothing of the document.
use Rattle.mdconstructs_machines.proofs.Prelude.{Option, Some, None, refl, AllByRecursion, LooksNoFurther, IsAnsweredAlike, tests, steps-alike, LineByte, line_ending, paragraphs, paragraphs_rules}
use Rattle.mdconstructs_tables.specs.Tables.{other}

paragraphs-tests : (previous current : Option LineByte) → AllByRecursion IsAnsweredAlike (tests paragraphs.states previous current)
paragraphs-tests previous None = tt
paragraphs-tests previous (Some line_ending) = ((λ g h s k alike. refl), tt)
paragraphs-tests previous (Some other) = ((λ g h s k alike. refl), ((λ g h s k alike. refl), tt))

pub paragraphs-look : LooksNoFurther paragraphs_rules
paragraphs-look g h text k name is alike = steps-alike paragraphs paragraphs-tests g h _ k name alike
