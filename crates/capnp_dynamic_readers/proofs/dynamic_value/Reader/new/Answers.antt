-- One layer of a type stands for the type.
use Rattle.std.proofs.Common.{ap, sym, subst, IfOk, ◌∙◌}
use Rattle.capnp_schema.specs.Accepted.{NamesEntries}
use Rattle.capnp_schema.specs.Entries.{lists_seen}
use Rattle.capnp_schema.specs.Types.{SchemaType, seen_variant}
use Rattle.capnp_schema.specs.Facts.Layers.{seen_which}
use Rattle.capnp_dynamic_readers.specs.Typed.{IsOf}
use Rattle.capnp_dynamic_readers.specs.Viewed.{view_read, view_type}
use Rattle.capnp_dynamic_readers.proofs.dynamic_value.Reader.new.Goals as goal

pub returns-clause-value : goal.returns-clause-value
returns-clause-value c =
    c.read_view.ensures.value
    ∙ ap (view_read (lists_seen c.args.schemas.now) c.args.value) (ap seen_variant c.which.ensures ∙ seen_which c.args.value_type)

pub returns-clause-typed : goal.returns-clause-typed
returns-clause-typed c named =
    subst (λ (t : SchemaType). IfOk c.read_view.result (IsOf (lists_seen c.args.schemas.now) (view_type c.args.value t))) (ap seen_variant c.which.ensures ∙ seen_which c.args.value_type) (c.read_view.ensures.typed (subst (NamesEntries (lists_seen c.args.schemas.now)) (sym (ap seen_variant c.which.ensures ∙ seen_which c.args.value_type)) named))
