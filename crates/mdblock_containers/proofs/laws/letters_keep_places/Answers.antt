-- Each virtual byte keeps its place, and so does each piece of a text.
use Rattle.mdblock_containers.proofs.LetterPlaces.{places_kept, texts_kept}
use Rattle.mdblock_containers.proofs.laws.letters_keep_places.Goals as goal

pub returns-clause-places : goal.returns-clause-places
returns-clause-places c = places_kept

pub returns-clause-texts : goal.returns-clause-texts
returns-clause-texts c = texts_kept
