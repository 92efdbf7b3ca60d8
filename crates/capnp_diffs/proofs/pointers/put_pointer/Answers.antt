use Rattle.std.proofs.Common.{ap, sym, ◌∙◌}
use Rattle.std.proofs.lemmas.Result.{err_from_is_err_and}
use Rattle.capnp_wire.specs.Reading.{as_list}
use Rattle.capnp_base.specs.declared.introspect.TypeVariant.TheVariants as variant
use Rattle.capnp_wire.specs.Standing.{levels_of, struct_of, tree_of}
use Rattle.capnp_schema.specs.Entries.{lists_seen}
use Rattle.capnp_schema.specs.Facts.Layers.{elements_sized}
use Rattle.capnp_schema.specs.Types.{AnyPointerType, DataType, ListType, StructType, TextType, is_pointer, seen_type}
use Rattle.capnp_diffs.proofs.Behind.{null_missing}
use Rattle.capnp_diffs.proofs.LayersFound.{list_put_there, list_stands, list_value_there, put_layer, put_missing}
use Rattle.capnp_diffs.proofs.TypeLayers.{layer_is, untyped_is}
use Rattle.capnp_diffs.proofs.Whole.{ok_map}
use Rattle.capnp_diffs.proofs.Refused.{err_map, member_layer, member_list_refused, member_struct_refused, member_unread, member_untyped, memory_where}
use Rattle.capnp_diffs.proofs.pointers.put_pointer.Goals as goal

pub returns-then-is_null-clause-put : goal.returns-then-is_null-clause-put
returns-then-is_null-clause-put c =
    let set = lists_seen c.args.schemas.now in
    let t = seen_type c.args.pointed in
    ok_map c.put_clear.result
    (λ adds. put_missing set t (tree_of c.args.new) (null_missing set (tree_of c.args.new) t (sym c.is_null.ensures ∙ c.if-is_null.true)) c.args.step c.args.path.now c.args.out.now.items c.put_clear.new.out.items (adds set))
    c.put_clear.ensures.added

pub put_list-requires-clause-value : goal.put_list-requires-clause-value
put_list-requires-clause-value c =
    list_value_there (lists_seen c.args.schemas.now) (tree_of c.args.new) (levels_of c.args.new) (sym c.is_null.ensures ∙ c.if-is_null.false)
    (seen_type c.in-List.element) c.in_ok-target-in-List.target _ (sym (c.expected_element_size.ensures ∙ elements_sized c.in-List.element)) (sym c.in_ok-target-in-List.ensures.read)

pub returns-in_ok-text_there-in-Text-clause-put : goal.returns-in_ok-text_there-in-Text-clause-put
returns-in_ok-text_there-in-Text-clause-put c =
    let set = lists_seen c.args.schemas.now in
    ok_map c.put_text.result
    (λ adds. put_layer set TextType (seen_type c.args.pointed) (layer_is c.args.pointed variant.Text (sym c.in-Text.is ∙ c.which.ensures)) (tree_of c.args.new) _ (c.in_ok-text_there-in-Text.ensures.value set)
    c.args.step c.args.path.now c.args.out.now.items c.put_text.new.out.items (adds set))
    c.put_text.ensures.added

pub returns-in_ok-data_there-in-Data-clause-put : goal.returns-in_ok-data_there-in-Data-clause-put
returns-in_ok-data_there-in-Data-clause-put c =
    let set = lists_seen c.args.schemas.now in
    ok_map c.put_data.result
    (λ adds. put_layer set DataType (seen_type c.args.pointed) (layer_is c.args.pointed variant.«Data» (sym c.in-Data.is ∙ c.which.ensures)) (tree_of c.args.new) _ (c.in_ok-data_there-in-Data.ensures.value set)
    c.args.step c.args.path.now c.args.out.now.items c.put_data.new.out.items (adds set))
    c.put_data.ensures.added

pub returns-in_ok-target-in-List-clause-put : goal.returns-in_ok-target-in-List-clause-put
returns-in_ok-target-in-List-clause-put c =
    ok_map c.put_list.result
    (list_put_there (lists_seen c.args.schemas.now) (tree_of c.args.new) (levels_of c.args.new) (sym c.is_null.ensures ∙ c.if-is_null.false)
    (seen_type c.in-List.element) c.in_ok-target-in-List.target _ (sym (c.expected_element_size.ensures ∙ elements_sized c.in-List.element)) (sym c.in_ok-target-in-List.ensures.read)
    (seen_type c.args.pointed) (layer_is c.args.pointed (variant.List c.in-List.element) (sym c.in-List.is ∙ c.which.ensures)) c.args.step c.args.path.now c.args.out.now.items c.put_list.new.out.items)
    c.put_list.ensures.added

pub returns-in_ok-target-in-List-clause-stands : goal.returns-in_ok-target-in-List-clause-stands
returns-in_ok-target-in-List-clause-stands c =
    ok_map c.put_list.result
    (λ adds. list_stands (lists_seen c.args.schemas.now) (tree_of c.args.new) (levels_of c.args.new) (sym c.is_null.ensures ∙ c.if-is_null.false)
    (seen_type c.in-List.element) c.in_ok-target-in-List.target _ (sym (c.expected_element_size.ensures ∙ elements_sized c.in-List.element)) (sym c.in_ok-target-in-List.ensures.read)
    (seen_type c.args.pointed) (layer_is c.args.pointed (variant.List c.in-List.element) (sym c.in-List.is ∙ c.which.ensures)))
    c.put_list.ensures.added

pub returns-then-is_null-clause-refused : goal.returns-then-is_null-clause-refused
returns-then-is_null-clause-refused c = err_map c.put_clear.result (λ e. memory_where _ e.kind) c.put_clear.ensures.cause

pub returns-in_err-text_there-in-Text-clause-refused : goal.returns-in_err-text_there-in-Text-clause-refused
returns-in_err-text_there-in-Text-clause-refused c =
    let p = err_from_is_err_and c.from_residual.result c.from_residual.ensures.1 in
    rw (p.1, p.2) (member_layer TextType (seen_type c.args.pointed) (tree_of c.args.new) (levels_of c.args.new) _ (layer_is c.args.pointed variant.Text (sym c.in-Text.is ∙ c.which.ensures))
    (member_unread TextType (tree_of c.args.new) (levels_of c.args.new) _ c.in_err-text_there-in-Text.ensures.unread))

pub returns-in_err-data_there-in-Data-clause-refused : goal.returns-in_err-data_there-in-Data-clause-refused
returns-in_err-data_there-in-Data-clause-refused c =
    let p = err_from_is_err_and c.from_residual-in_err-data_there-in-Data.result c.from_residual-in_err-data_there-in-Data.ensures.1 in
    rw (p.1, p.2) (member_layer DataType (seen_type c.args.pointed) (tree_of c.args.new) (levels_of c.args.new) _ (layer_is c.args.pointed variant.«Data» (sym c.in-Data.is ∙ c.which.ensures))
    (member_unread DataType (tree_of c.args.new) (levels_of c.args.new) _ c.in_err-data_there-in-Data.ensures.unread))

pub returns-in_err-target-in-Struct-clause-refused : goal.returns-in_err-target-in-Struct-clause-refused
returns-in_err-target-in-Struct-clause-refused c =
    let p = err_from_is_err_and c.from_residual-in_err-target-in-Struct.result c.from_residual-in_err-target-in-Struct.ensures.1 in
    rw (p.1, p.2) (member_layer (StructType c.in-Struct.raw.number c.in-Struct.raw.generic) (seen_type c.args.pointed) (tree_of c.args.new) (levels_of c.args.new) _ (layer_is c.args.pointed (variant.Struct c.in-Struct.raw) (sym c.in-Struct.is ∙ c.which.ensures))
    (member_unread (StructType c.in-Struct.raw.number c.in-Struct.raw.generic) (tree_of c.args.new) (levels_of c.args.new) _ ((sym c.is_null.ensures ∙ c.if-is_null.false), sym c.in_err-target-in-Struct.ensures.read)))

pub returns-in_err-target-in-List-clause-refused : goal.returns-in_err-target-in-List-clause-refused
returns-in_err-target-in-List-clause-refused c =
    let p = err_from_is_err_and c.from_residual-in_err-target-in-List.result c.from_residual-in_err-target-in-List.ensures.1 in
    let sized = c.expected_element_size.ensures ∙ elements_sized c.in-List.element in
    rw (p.1, p.2) (member_layer (ListType (seen_type c.in-List.element)) (seen_type c.args.pointed) (tree_of c.args.new) (levels_of c.args.new) _ (layer_is c.args.pointed (variant.List c.in-List.element) (sym c.in-List.is ∙ c.which.ensures))
    (member_unread (ListType (seen_type c.in-List.element)) (tree_of c.args.new) (levels_of c.args.new) _ ((sym c.is_null.ensures ∙ c.if-is_null.false), ap (λ s. as_list s (tree_of c.args.new) (levels_of c.args.new)) (sym sized) ∙ sym c.in_err-target-in-List.ensures.read)))

pub returns-in_ok-text_there-in-Text-clause-refused : goal.returns-in_ok-text_there-in-Text-clause-refused
returns-in_ok-text_there-in-Text-clause-refused c = err_map c.put_text.result (λ e. memory_where _ e.kind) c.put_text.ensures.cause

pub returns-in_ok-data_there-in-Data-clause-refused : goal.returns-in_ok-data_there-in-Data-clause-refused
returns-in_ok-data_there-in-Data-clause-refused c = err_map c.put_data.result (λ e. memory_where _ e.kind) c.put_data.ensures.cause

pub returns-in_ok-target-in-Struct-clause-refused : goal.returns-in_ok-target-in-Struct-clause-refused
returns-in_ok-target-in-Struct-clause-refused c =
    err_map c.put_struct.result
    (λ e put. member_layer (StructType c.in-Struct.raw.number c.in-Struct.raw.generic) (seen_type c.args.pointed) (tree_of c.args.new) (levels_of c.args.new) e.kind (layer_is c.args.pointed (variant.Struct c.in-Struct.raw) (sym c.in-Struct.is ∙ c.which.ensures))
    (member_struct_refused (tree_of c.args.new) (levels_of c.args.new) e.kind c.in-Struct.raw.number c.in-Struct.raw.generic (struct_of c.in_ok-target-in-Struct.target) (sym c.is_null.ensures ∙ c.if-is_null.false) (sym c.in_ok-target-in-Struct.ensures.read) put))
    c.put_struct.ensures.refused

pub returns-in_ok-target-in-List-clause-refused : goal.returns-in_ok-target-in-List-clause-refused
returns-in_ok-target-in-List-clause-refused c =
    err_map c.put_list.result
    (λ e put. member_layer (ListType (seen_type c.in-List.element)) (seen_type c.args.pointed) (tree_of c.args.new) (levels_of c.args.new) e.kind (layer_is c.args.pointed (variant.List c.in-List.element) (sym c.in-List.is ∙ c.which.ensures)) (member_list_refused (tree_of c.args.new) (levels_of c.args.new) e.kind (seen_type c.in-List.element) put))
    c.put_list.ensures.refused

pub returns-in_default-clause-refused : goal.returns-in_default-clause-refused
returns-in_default-clause-refused c =
    let layer = layer_is c.args.pointed c.which.result c.which.ensures in
    member_layer AnyPointerType (seen_type c.args.pointed) (tree_of c.args.new) (levels_of c.args.new) c.from.result.kind
    (sym (untyped_is c.which.result (ap is_pointer layer ∙ c.requires.pointer) c.in_default.not-Text c.in_default.not-Data c.in_default.not-Struct c.in_default.not-List) ∙ layer)
    (member_untyped (tree_of c.args.new) (levels_of c.args.new) c.from.result.kind c.from.ensures (sym c.is_null.ensures ∙ c.if-is_null.false))
