-- A struct is that of its brand in the set.
use Rattle.std.proofs.Common.{ℕ, IfErr, IfOk, ap, subst, sym, ◌∙◌, ◌≡◌}
use Rattle.std.specs.Option.{option_map}
use Rattle.capnp_schema.specs.Entries.{lists_seen}
use Rattle.capnp_schema.specs.Facts.Layers.{seen_which}
use Rattle.capnp_schema.specs.Schema.{Schemas}
use Rattle.capnp_schema.specs.StructHandles.{number_of}
use Rattle.capnp_schema.specs.Types.{SchemaType, StructType, seen_type, seen_variant}
use Rattle.riftcalico_core.specs.ShownSeen.{shown_source}
use Rattle.riftcalico_core.specs.ShownValues.{IsShownRead, IsShownUnread}
use Rattle.riftcalico_core.specs.SpotsSeen.{spot_seen}
use Rattle.riftcalico_core.proofs.shown_values.read_shown.Goals as goal

pub returns-in-Struct-clause-read : goal.returns-in-Struct-clause-read
returns-in-Struct-clause-read c =
    let spot = option_map spot_seen c.args.spot in
    let type : StructType (number_of c.struct_schema.result) c.in-Struct.raw.generic ≡ seen_type c.args.target =
    ap (λ (b : ℕ). StructType b c.in-Struct.raw.generic) c.struct_schema.ensures.number ∙ sym (sym (seen_which c.args.target) ∙ (sym (ap seen_variant c.which.ensures) ∙ ap seen_variant c.in-Struct.is)) in
    subst (λ (t : SchemaType). IfOk c.read_shown_struct.result (λ r. IfOk r (λ w. IsShownRead (lists_seen c.args.schemas.now) spot t c.args.text.now (shown_source w)))) type
    (subst (λ (set : Schemas). IfOk c.read_shown_struct.result (λ r. IfOk r (λ w. IsShownRead set spot (StructType (number_of c.struct_schema.result) c.in-Struct.raw.generic) c.args.text.now (shown_source w)))) c.struct_schema.ensures.set
    (c.read_shown_struct.ensures.read spot c.in-Struct.raw.generic))

pub returns-in-Struct-clause-unread : goal.returns-in-Struct-clause-unread
returns-in-Struct-clause-unread c =
    let spot = option_map spot_seen c.args.spot in
    let type : StructType (number_of c.struct_schema.result) c.in-Struct.raw.generic ≡ seen_type c.args.target =
    ap (λ (b : ℕ). StructType b c.in-Struct.raw.generic) c.struct_schema.ensures.number ∙ sym (sym (seen_which c.args.target) ∙ (sym (ap seen_variant c.which.ensures) ∙ ap seen_variant c.in-Struct.is)) in
    subst (λ (t : SchemaType). IfOk c.read_shown_struct.result (λ r. IfErr r (IsShownUnread (lists_seen c.args.schemas.now) spot t c.args.text.now))) type
    (subst (λ (set : Schemas). IfOk c.read_shown_struct.result (λ r. IfErr r (IsShownUnread set spot (StructType (number_of c.struct_schema.result) c.in-Struct.raw.generic) c.args.text.now))) c.struct_schema.ensures.set
    (c.read_shown_struct.ensures.unread spot c.in-Struct.raw.generic))
