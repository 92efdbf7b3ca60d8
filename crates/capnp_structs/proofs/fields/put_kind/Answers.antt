-- A group has no default, so nothing is put; a slot's default is put by its own function.
use Rattle.std.proofs.Common.{string_bytes, subst, sym}
use Rattle.capnp_schema.specs.Entries.{lists_seen}
use Rattle.capnp_schema.specs.Schema.{kind_default, seen_kind}
use Rattle.capnp_schema.specs.Types.{seen_type}
use Rattle.capnp_schema.specs.declared.record.FieldKind.{FieldKind}
use Rattle.capnp_dynamic_readers.specs.Facts.Appended.{nothing}
use Rattle.capnp_dynamic_readers.specs.Pieces.{IsAppended}
use Rattle.capnp_structs.specs.Values.{default_text}
use Rattle.capnp_structs.proofs.fields.put_kind.Goals as goal

pub returns-in-Group-clause-put : goal.returns-in-Group-clause-put
returns-in-Group-clause-put c =
    subst (λ (z : FieldKind). IsAppended (string_bytes c.args.out.now) (default_text c.args.floats (lists_seen c.args.schemas.now) (seen_type c.args.of) (kind_default (seen_kind z))) (string_bytes c.args.out.now)) (sym c.in-Group.is) (nothing (string_bytes c.args.out.now))
