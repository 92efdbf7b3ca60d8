-- Splices and elements as the code has them.
use Rattle.capnp_wire.specs.Standing.{list_of}
use Rattle.capnp_splices.specs.Splices.{Element, Splice}
use Rattle.capnp_splices.specs.declared.pick.Picked.{Picked}
use Rattle.capnp_splices.specs.declared.pick.Splice.{Splice as SpliceOf}

abbrev pub splice_seen : SpliceOf → Splice
splice_seen s = record { old = list_of s.old; added = list_of s.added; at = s.at; removed = s.removed }

abbrev pub picked_element : Picked → Element
picked_element p = record { list = list_of p.list; index = p.index }
