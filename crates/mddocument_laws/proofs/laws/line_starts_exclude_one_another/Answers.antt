use Rattle.mddocument_laws.proofs.HtmlStarts.{html-excludes, kinds-have-no-order}
use Rattle.mddocument_laws.proofs.LineStarts.{blank-starts-nothing, starts-exclude}
use Rattle.mddocument_laws.proofs.laws.line_starts_exclude_one_another.Goals as goal

pub returns-clause-starts : goal.returns-clause-starts
returns-clause-starts c = starts-exclude

pub returns-clause-blank : goal.returns-clause-blank
returns-clause-blank c = blank-starts-nothing

pub returns-clause-html : goal.returns-clause-html
returns-clause-html c = html-excludes

pub returns-clause-order : goal.returns-clause-order
returns-clause-order c = kinds-have-no-order
