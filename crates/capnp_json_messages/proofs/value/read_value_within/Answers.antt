-- A text that is no JSON has its first fault for the refusal of every value of it.
use Rattle.std.proofs.Common.{refl, sym, ◌∙◌}
use Rattle.capnp_from_json.proofs.Refusals.{error_at}
use Rattle.capnp_from_json.specs.declared.error.RefusalKind.TheVariants.{NotJson}
use Rattle.capnp_json_messages.specs.Holders.{text_value}
use Rattle.capnp_json_messages.proofs.HolderReads.{no_value}
use Rattle.capnp_json_messages.proofs.value.read_value_within.Goals as goal

pub returns-in-Some-clause-refused : goal.returns-in-Some-clause-refused
returns-in-Some-clause-refused c = λ rules are.
    error_at (text_value c.args.field c.args.text.now rules) c.refused.result NotJson c.in-Some.place c.in-Some.place c.refused.ensures refl
    (no_value c.values_stand_in_steps.ensures c.args.field c.args.text.now rules c.in-Some.place (sym c.in-Ok.ensures.fault ∙ c.in-Some.is))
