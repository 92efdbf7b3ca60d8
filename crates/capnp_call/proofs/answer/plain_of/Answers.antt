-- A list is answered by its length.
use Rattle.std.proofs.Common.{ap, ◌∙◌, sym}
use Rattle.capnp_records.specs.Call.{ListPlain}
use Rattle.capnp_records.specs.Operation.{answer_of}
use Rattle.capnp_records.specs.Facts.ListValues.{count_values_from}
use Rattle.capnp_dynamic_readers.specs.Seen.{value_seen}
use Rattle.capnp_call.proofs.answer.plain_of.Goals as goal

pub returns-in-List-clause-plain : goal.returns-in-List-clause-plain
returns-in-List-clause-plain c set t h =
    ap ListPlain (c.len.ensures ∙ sym (count_values_from _ 0 _)) ∙ sym (ap (λ v. answer_of t (value_seen v)) c.in-List.is)
