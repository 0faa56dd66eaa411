use Rattle.mdinline_text_machine.proofs.Texts.NoFurther.{texts-look}
use Rattle.mdinline_text_machine.proofs.laws.texts_look_no_further.Goals as goal

pub returns : goal.returns
returns c = texts-look
