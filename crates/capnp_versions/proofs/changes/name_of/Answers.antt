-- Whether the field is there.
use Rattle.std.proofs.Common.{sym, ◌∙◌}
use Rattle.capnp_versions.proofs.ChangesPut.{no_name, some_name}
use Rattle.capnp_versions.proofs.changes.name_of.Goals as goal

pub returns-in_default : goal.returns-in_default
returns-in_default c = sym (no_name c.args.fields.now c.args.index c.in_default.ensures.lookup.3)

pub returns : goal.returns
returns c =
    let e = c.in-Some.ensures.lookup in
    c.as_str.ensures.value ∙ sym (some_name c.args.fields.now c.args.index c.in-Some.field.now e.3.0 e.1)
