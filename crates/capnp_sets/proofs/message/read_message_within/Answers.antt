-- What is said of the lists that were read stands of their set; the values of lists that are refused are past the limit.
use Rattle.std.proofs.Common.{inr}
use Rattle.capnp_schema.specs.Schema.{seen_schemas}
use Rattle.capnp_sets.proofs.ListsWithin.{all_fit}
use Rattle.capnp_sets.proofs.message.read_message_within.Goals as goal

pub returns-in-None-clause-too_large : goal.returns-in-None-clause-too_large
returns-in-None-clause-too_large c =
    λ _. inr (seen_schemas c.in_ok-nodes.nodes.items c.in_ok-nodes.brands.items c.in_ok-nodes.enums.items, c.in_ok-nodes.ensures.lists, rw (← c.deref.ensures.value, ← c.deref-2.ensures.value) c.in-None.ensures)

pub returns-in-Some-clause-fits : goal.returns-in-Some-clause-fits
returns-in-Some-clause-fits c = all_fit c.new.result _ c.in_ok-nodes.ensures.fits
