-- The innermost type decides: a struct or enum with a name at its number gets that name, and one past the last gets none.
use Rattle.std.proofs.Common.{[], ◌≡◌, ◌∙◌, refl, slice_get, sym, Some, None}
use Rattle.std.proofs.lemmas.Option.{slice_get_past, slice_get_read}
use Rattle.std.proofs.lemmas.List.{append-nil}
use Rattle.capnp_base.specs.Types.{base_of}
use Rattle.capnp_schema.specs.Types.{seen_base}
use Rattle.capnp_request.specs.Names.{set_type_name}
use Rattle.capnp_request.specs.Steps.NamesMade.{struct_names, texts}
use Rattle.capnp_request.proofs.NamesJoined.{enum_word, name_missing, name_there, struct_word, text_missing, text_there}
use Rattle.capnp_request.proofs.names.append_base.Goals as goal

pub returns-in-Some-clause-appended : goal.returns-in-Some-clause-appended
returns-in-Some-clause-appended c =
    let h = c.in-Some.ensures.lookup in
    let there : slice_get c.args.named.structs.now c.in-Struct.entry.number ≡ Some c.in-Some.node.now = slice_get_read _ _ _ _ refl h.3.0 h.1 in
    let e : set_type_name (struct_names c.args.named.structs.now) (texts c.args.named.enums.now) c.args.bound.is_float (seen_base (base_of c.args.bound.standing)) ≡ c.as_bytes.result.now = struct_word (struct_names c.args.named.structs.now) (texts c.args.named.enums.now) c.args.bound.is_float (base_of c.args.bound.standing) c.in-Struct.entry _ c.in-Struct.ensures (name_there c.args.named.structs.now c.in-Struct.entry.number c.in-Some.node.now there ∙ sym c.as_bytes.ensures.value) in
    rw e c.append.ensures.appended

pub returns-in-Some-clause-refused : goal.returns-in-Some-clause-refused
returns-in-Some-clause-refused c =
    let h = c.in-Some.ensures.lookup in
    let there : slice_get c.args.named.structs.now c.in-Struct.entry.number ≡ Some c.in-Some.node.now = slice_get_read _ _ _ _ refl h.3.0 h.1 in
    let e : set_type_name (struct_names c.args.named.structs.now) (texts c.args.named.enums.now) c.args.bound.is_float (seen_base (base_of c.args.bound.standing)) ≡ c.as_bytes.result.now = struct_word (struct_names c.args.named.structs.now) (texts c.args.named.enums.now) c.args.bound.is_float (base_of c.args.bound.standing) c.in-Struct.entry _ c.in-Struct.ensures (name_there c.args.named.structs.now c.in-Struct.entry.number c.in-Some.node.now there ∙ sym c.as_bytes.ensures.value) in
    rw e c.append.ensures.refused

pub returns-in-None-clause-appended : goal.returns-in-None-clause-appended
returns-in-None-clause-appended c =
    let h = c.in-None.ensures.lookup in
    let missing : slice_get c.args.named.structs.now c.in-Struct.entry.number ≡ None = slice_get_past _ _ h.3 in
    let e : set_type_name (struct_names c.args.named.structs.now) (texts c.args.named.enums.now) c.args.bound.is_float (seen_base (base_of c.args.bound.standing)) ≡ [] = struct_word (struct_names c.args.named.structs.now) (texts c.args.named.enums.now) c.args.bound.is_float (base_of c.args.bound.standing) c.in-Struct.entry _ c.in-Struct.ensures (name_missing c.args.named.structs.now c.in-Struct.entry.number missing) in
    rw e (sym (append-nil c.args.name.now.items))

pub returns-in-Some-get-clause-appended : goal.returns-in-Some-get-clause-appended
returns-in-Some-get-clause-appended c =
    let h = c.in-Some-get.ensures.lookup in
    let there : slice_get c.args.named.enums.now c.in-Enum.entry.number ≡ Some c.in-Some-get.enum_name.now = slice_get_read _ _ _ _ refl h.3.0 h.1 in
    let e : set_type_name (struct_names c.args.named.structs.now) (texts c.args.named.enums.now) c.args.bound.is_float (seen_base (base_of c.args.bound.standing)) ≡ c.as_bytes-in-Some-get.result.now = enum_word (struct_names c.args.named.structs.now) (texts c.args.named.enums.now) c.args.bound.is_float (base_of c.args.bound.standing) c.in-Enum.entry _ c.in-Enum.ensures (text_there c.args.named.enums.now c.in-Enum.entry.number c.in-Some-get.enum_name.now there ∙ sym c.as_bytes-in-Some-get.ensures.value) in
    rw e c.append-in-Some-get.ensures.appended

pub returns-in-Some-get-clause-refused : goal.returns-in-Some-get-clause-refused
returns-in-Some-get-clause-refused c =
    let h = c.in-Some-get.ensures.lookup in
    let there : slice_get c.args.named.enums.now c.in-Enum.entry.number ≡ Some c.in-Some-get.enum_name.now = slice_get_read _ _ _ _ refl h.3.0 h.1 in
    let e : set_type_name (struct_names c.args.named.structs.now) (texts c.args.named.enums.now) c.args.bound.is_float (seen_base (base_of c.args.bound.standing)) ≡ c.as_bytes-in-Some-get.result.now = enum_word (struct_names c.args.named.structs.now) (texts c.args.named.enums.now) c.args.bound.is_float (base_of c.args.bound.standing) c.in-Enum.entry _ c.in-Enum.ensures (text_there c.args.named.enums.now c.in-Enum.entry.number c.in-Some-get.enum_name.now there ∙ sym c.as_bytes-in-Some-get.ensures.value) in
    rw e c.append-in-Some-get.ensures.refused

pub returns-in-None-get-clause-appended : goal.returns-in-None-get-clause-appended
returns-in-None-get-clause-appended c =
    let h = c.in-None-get.ensures.lookup in
    let missing : slice_get c.args.named.enums.now c.in-Enum.entry.number ≡ None = slice_get_past _ _ h.3 in
    let e : set_type_name (struct_names c.args.named.structs.now) (texts c.args.named.enums.now) c.args.bound.is_float (seen_base (base_of c.args.bound.standing)) ≡ [] = enum_word (struct_names c.args.named.structs.now) (texts c.args.named.enums.now) c.args.bound.is_float (base_of c.args.bound.standing) c.in-Enum.entry _ c.in-Enum.ensures (text_missing c.args.named.enums.now c.in-Enum.entry.number missing) in
    rw e (sym (append-nil c.args.name.now.items))
