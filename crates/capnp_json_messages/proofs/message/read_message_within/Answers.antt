-- A text that is no JSON has its first fault for the refusal of every reading of it.
use Rattle.std.proofs.Common.{refl, sym, ◌∙◌}
use Rattle.capnp_json_messages.proofs.RootReads.{not_text}
use Rattle.capnp_from_json.proofs.Refusals.{error_at}
use Rattle.capnp_from_json.specs.declared.error.RefusalKind.TheVariants.{NotJson}
use Rattle.capnp_json_messages.specs.Messages.{text_record}
use Rattle.capnp_json_messages.proofs.message.read_message_within.Goals as goal

pub returns-in-Some-clause-refused : goal.returns-in-Some-clause-refused
returns-in-Some-clause-refused c = λ rules are.
    error_at (text_record c.args.schema c.args.text.now rules) c.refused.result NotJson c.in-Some.place c.in-Some.place c.refused.ensures refl
    (not_text c.values_stand_in_steps.ensures c.args.schema c.args.text.now rules c.in-Some.place (sym c.in-Ok.ensures.fault ∙ c.in-Some.is))
