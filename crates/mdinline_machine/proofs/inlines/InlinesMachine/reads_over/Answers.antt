use Rattle.mdinline_labels.specs.Defined.{defines}
use Rattle.mdinline_text_machine.specs.Autolink.{is_allowed}
use Rattle.mdinline_machine.specs.Over.{is_in_code, is_in_data, is_in_marks, is_in_quotes, is_in_string}
use Rattle.mdinline_machine.proofs.Prelude.{rules}
use Rattle.mdinline_machine.proofs.OverBytes.{code-over, data-over, mark-over, quote-over, set-passes, string-over, uri-over}
use Rattle.mdinline_machine.proofs.inlines.InlinesMachine.reads_over.Goals as goal

pub returns-in-DataInside : goal.returns-in-DataInside
returns-in-DataInside c = λ byte e. let is = set-passes is_in_data c.in_data.ensures byte e in (is.0, data-over byte is.1 c.args.name (search rules) (defines c.args.self.now.labels))

pub returns-in-DataStart : goal.returns-in-DataStart
returns-in-DataStart c = λ byte e. let is = set-passes is_in_string c.in_string.ensures byte e in (is.0, string-over byte is.1 c.args.name (search rules) (defines c.args.self.now.labels))

pub returns-in-RawTextData : goal.returns-in-RawTextData
returns-in-RawTextData c = λ byte e. let is = set-passes is_in_code c.in_code.ensures byte e in (is.0, code-over byte is.1 c.args.name (search rules) (defines c.args.self.now.labels))

pub returns-in-AutolinkUrlInside : goal.returns-in-AutolinkUrlInside
returns-in-AutolinkUrlInside c = λ byte e. let is = set-passes is_allowed c.in_uri.ensures byte e in (is.0, uri-over byte is.1 c.args.name (search rules) (defines c.args.self.now.labels))

pub returns-in-HtmlTextMarkInside : goal.returns-in-HtmlTextMarkInside
returns-in-HtmlTextMarkInside c = λ byte e. let is = set-passes is_in_marks c.in_marks.ensures byte e in (is.0, mark-over byte is.1 c.args.name (search rules) (defines c.args.self.now.labels))

pub returns-in-HtmlTextTagOpenAttributeValueQuoted : goal.returns-in-HtmlTextTagOpenAttributeValueQuoted
returns-in-HtmlTextTagOpenAttributeValueQuoted c = λ byte e. let is = set-passes is_in_quotes c.in_quotes.ensures byte e in (is.0, quote-over byte is.1 c.args.name (search rules) (defines c.args.self.now.labels))
