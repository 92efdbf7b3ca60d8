-- The element is the list's value's.
use Rattle.std.proofs.Common.{ap, sym, subst, IfOk, ◌∙◌}
use Rattle.capnp_wire.specs.Standing.{list_levels, list_of}
use Rattle.capnp_schema.specs.Accepted.{NamesEntries}
use Rattle.capnp_schema.specs.Entries.{lists_seen}
use Rattle.capnp_schema.specs.Schema.{VoidValue}
use Rattle.capnp_schema.specs.Types.{SchemaType, seen_type, seen_variant}
use Rattle.capnp_schema.specs.Facts.Layers.{seen_which}
use Rattle.capnp_records.specs.Facts.Readers.{element_is_read, element_read}
use Rattle.capnp_records.specs.Default.{read_of}
use Rattle.capnp_dynamic_readers.specs.Typed.{IsOf}
use Rattle.capnp_dynamic_readers.proofs.dynamic_list.Reader.get.Goals as goal

pub returns-clause-value : goal.returns-clause-value
returns-clause-value c =
    c.read_element.ensures.value
    ∙ (ap (λ (t : SchemaType). read_of (lists_seen c.args.self.schemas.now) VoidValue t (element_read (lists_seen c.args.self.schemas.now) (list_of c.args.self.reader) (list_levels c.args.self.reader) t c.args.index)) (ap seen_variant c.which.ensures ∙ seen_which c.args.self.element_type)
    ∙ ap (read_of (lists_seen c.args.self.schemas.now) VoidValue (seen_type c.args.self.element_type)) (sym (element_is_read (lists_seen c.args.self.schemas.now) (list_of c.args.self.reader) (list_levels c.args.self.reader) (seen_type c.args.self.element_type) c.args.index)))

pub returns-clause-typed : goal.returns-clause-typed
returns-clause-typed c named =
    subst (λ (t : SchemaType). IfOk c.read_element.result (IsOf (lists_seen c.args.self.schemas.now) t)) (ap seen_variant c.which.ensures ∙ seen_which c.args.self.element_type) (c.read_element.ensures.typed (subst (NamesEntries (lists_seen c.args.self.schemas.now)) (sym (ap seen_variant c.which.ensures ∙ seen_which c.args.self.element_type)) named))
