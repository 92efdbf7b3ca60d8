use Rattle.std.proofs.Common.{refl, sym, ◌∙◌}
use Rattle.capnp_from_json.proofs.Refusals.{error_at}
use Rattle.capnp_from_json.specs.declared.error.RefusalKind.TheVariants.{NotJson}
use Rattle.capnp_json_messages.specs.Holders.{text_element}
use Rattle.capnp_json_messages.specs.Rows.{row_type}
use Rattle.capnp_json_messages.proofs.OneReads.{no_element}
use Rattle.capnp_json_messages.proofs.value.read_one.Goals as goal

pub returns-in-Some-clause-refused : goal.returns-in-Some-clause-refused
returns-in-Some-clause-refused c = λ rules are.
    error_at (text_element (row_type c.args.row) c.args.row.is_float c.args.text.now rules) c.refused.result NotJson c.in-Some.place c.in-Some.place c.refused.ensures refl
    (no_element c.values_stand_in_steps.ensures c.args.row c.args.text.now rules c.in-Some.place (sym c.in-Ok.ensures.fault ∙ c.in-Some.is))
