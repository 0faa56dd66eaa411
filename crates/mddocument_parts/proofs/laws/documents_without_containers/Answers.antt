use Rattle.mddocument_parts.proofs.WithoutContainers.Off.{none-begins-where-off}
use Rattle.mddocument_parts.proofs.WithoutContainers.Whole.{documents-without-containers}
use Rattle.mddocument_parts.proofs.laws.documents_without_containers.Goals as goal

pub returns-clause-read : goal.returns-clause-read
returns-clause-read c = documents-without-containers

pub returns-clause-off : goal.returns-clause-off
returns-clause-off c = none-begins-where-off
