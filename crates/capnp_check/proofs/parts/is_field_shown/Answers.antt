-- An inactive field is not shown, and an active member with a discriminant above zero is; else what the struct has decides.
use Rattle.std.proofs.Common.{◌∙◌, sym}
use Rattle.capnp_schema.specs.FieldLists.{index_of}
use Rattle.capnp_dynamic_readers.specs.Handles.{schema_of}
use Rattle.capnp_dynamic_readers.specs.Facts.ItemsShown.{belongs}
use Rattle.capnp_check.proofs.Shown.{always_in, is_free, is_other, part_there, shown_always, shown_inactive, shown_there}
use Rattle.capnp_dynamic_readers.specs.Facts.HasWhich.{ok_same}
use Rattle.capnp_check.proofs.parts.is_field_shown.Goals as goal

pub is_active-requires : goal.is_active-requires
is_active-requires c = belongs (schema_of c.args.reader) (index_of c.args.field) c.args.field c.requires.field

pub returns-then-not-is_active : goal.returns-then-not-is_active
returns-then-not-is_active c = shown_inactive (is_free c.args.reader c.args.field) (part_there c.args.reader c.args.field) (is_other c.args.reader c.args.field) (sym c.is_active.ensures ∙ c.if-not-is_active.true)

pub returns-then-is_always_shown : goal.returns-then-is_always_shown
returns-then-is_always_shown c =
    shown_always (is_free c.args.reader c.args.field) (part_there c.args.reader c.args.field) (is_other c.args.reader c.args.field) (sym c.is_active.ensures ∙ c.if-not-is_active.false)
    (always_in c.args.reader c.args.field c.requires.field c.is_always_shown.result c.is_always_shown.ensures ∙ c.if-is_always_shown.true)

pub returns : goal.returns
returns c =
    shown_there (is_free c.args.reader c.args.field) (part_there c.args.reader c.args.field) (is_other c.args.reader c.args.field) c.in-Ok.is_there
    (always_in c.args.reader c.args.field c.requires.field c.is_always_shown.result c.is_always_shown.ensures ∙ c.if-is_always_shown.false)
    (ok_same c.has.result c.in-Ok.is_there _ c.in-Ok.is c.has.ensures)
