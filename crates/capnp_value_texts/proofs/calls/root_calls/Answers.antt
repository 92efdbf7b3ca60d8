-- A root in round brackets has the calls of its fields.
use Rattle.std.proofs.Common.{◌≡◌, Ok, sym, subst}
use Rattle.std.specs.Prelude.{IfErr, IfOk}
use Rattle.capnp_schema.specs.StructHandles.{number_of, set_of}
use Rattle.capnp_value_texts.specs.Errors.{IsErrorOf}
use Rattle.capnp_value_texts.specs.Made.{calls_made}
use Rattle.capnp_value_texts.proofs.Making.{root_fields_is}
use Rattle.capnp_value_texts.proofs.calls.root_calls.Goals as goal

pub returns-in-Fields-clause-calls : goal.returns-in-Fields-clause-calls
returns-in-Fields-clause-calls c =
    subst (λ r. IfOk c.root_fields.result (λ made. r ≡ Ok (calls_made made.items)))
    (sym (root_fields_is (set_of c.args.schema) (number_of c.args.schema) c.args.shown.now c.in-Fields.place c.in-Fields.parts c.in-Fields.is)) c.root_fields.ensures.calls

pub returns-in-Fields-clause-refused : goal.returns-in-Fields-clause-refused
returns-in-Fields-clause-refused c =
    subst (λ r. IfErr c.root_fields.result (IsErrorOf r))
    (sym (root_fields_is (set_of c.args.schema) (number_of c.args.schema) c.args.shown.now c.in-Fields.place c.in-Fields.parts c.in-Fields.is)) c.root_fields.ensures.refused
