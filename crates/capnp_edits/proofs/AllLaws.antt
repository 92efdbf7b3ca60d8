-- The laws under names that attributes take.
use Rattle.capnp_edits.specs.Laws.{ListedLaw, SpliceLaw}
use Rattle.capnp_edits.proofs.EditedValues.{listed_values}
use Rattle.capnp_edits.proofs.SplicedValues.{spliced_values}

pub values_spliced : SpliceLaw
values_spliced = spliced_values

pub values_listed : ListedLaw
values_listed = listed_values
