-- The definitions compute what is told.
use Rattle.mdgfm_literals.proofs.Examples.{emails-told, ends-told, escapes-told, lines-told, protocols-told, www-told}
use Rattle.mdgfm_literals.proofs.laws.literals_of_texts.Goals as goal

pub returns : goal.returns
returns c = record { www = www-told; protocols = protocols-told; ends = ends-told; emails = emails-told; escapes = escapes-told; lines = lines-told }
