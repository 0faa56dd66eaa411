-- The definition computes what is told of each example.
use Rattle.std.proofs.Common.{◌≡◌, map, refl}
use Rattle.mdblock_definitions.specs.Examples.{read_of, parts_of_definitions, where_definitions_stand, text_behind_definitions, definitions_in_containers}

pub of-parts : map (λ e. read_of e.document) parts_of_definitions ≡ parts_of_definitions
of-parts = refl

pub of-places : map (λ e. read_of e.document) where_definitions_stand ≡ where_definitions_stand
of-places = refl

pub of-text : map (λ e. read_of e.document) text_behind_definitions ≡ text_behind_definitions
of-text = refl

pub of-containers : map (λ e. read_of e.document) definitions_in_containers ≡ definitions_in_containers
of-containers = refl
