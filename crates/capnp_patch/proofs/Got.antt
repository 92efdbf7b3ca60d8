-- The text that is got is that of what a path leads to from the struct that the root's reader stands on.
use Rattle.std.proofs.Common.{arith, ap, ap₂, refl, subst, sym, ◌∙◌, ◌≡◌, ℕ, ◌+◌, Bool, List, [], ◌∷◌, true, false, Option, Some, Result, Ok, Err}
use Rattle.capnp_check.specs.Refusals.{text_refusal}
use Rattle.capnp_device.specs.declared.error.ErrorKind.{ErrorKind}
use Rattle.capnp_wire.specs.Reading.{as_struct}
use Rattle.capnp_wire.specs.Tree as tree
use Rattle.capnp_wire.specs.Tree.{StructTree, Tree}
use Rattle.capnp_wire.specs.Standing.{struct_levels, struct_of}
use Rattle.capnp_wire.specs.Stream.{message_tree_of}
use Rattle.capnp_wire.specs.declared.struct_reader.StructReader.{StructReader}
use Rattle.capnp_schema.specs.Schema.{Schemas, node_of}
use Rattle.capnp_schema.specs.StructHandles.{IsStruct, number_of, set_of}
use Rattle.capnp_schema.specs.Types.{SchemaType, StructType}
use Rattle.capnp_schema.specs.declared.schema.structs.StructSchema.{StructSchema}
use Rattle.capnp_records.specs.Call.{PathStep}
use Rattle.capnp_records.specs.Reading.{struct_record}
use Rattle.capnp_records.specs.Record as value
use Rattle.capnp_records.specs.Record.{Left, Record}
use Rattle.capnp_records.specs.Run.{root_type}
use Rattle.capnp_records.specs.Text.{Out, text_of}
use Rattle.capnp_dynamic_readers.specs.Handles.{reader_of, schema_of}
use Rattle.capnp_dynamic_readers.specs.Pieces.{IsLonger}
use Rattle.capnp_dynamic_readers.specs.Seen.{record_seen, value_seen}
use Rattle.capnp_dynamic_readers.specs.Shown.{printed_text, struct_printed, type_seen}
use Rattle.capnp_dynamic_readers.specs.Typed.{IsOf, struct_type}
use Rattle.capnp_dynamic_readers.specs.declared.dynamic_struct.Reader.{Reader as StructHandle}
use Rattle.capnp_dynamic_readers.specs.declared.dynamic_value.Reader.{Reader as DynamicValue}
use Rattle.capnp_dynamic_readers.specs.declared.dynamic_value.Reader.TheVariants as dynamic
use Rattle.capnp_show_engine.specs.Show.{message_root_value, struct_or_group}
use Rattle.capnp_patch.specs.Places.{root_reached}
use Rattle.capnp_patch.specs.Gets.{Reached, got_text, value_part_seen, path_read, reached_value, reached_text, text_at}

-- ---- the text of a part ----

printed_is : (q : Bool) (h : StructHandle) → struct_printed q h ≡ struct_or_group q (record_seen h)
printed_is true h = refl
printed_is false h = refl

-- the text of a value of a set is that of the part that it is seen as
part_text : (set : Schemas) (indented : Bool) (v : DynamicValue) → IsOf set (type_seen v) v → printed_text indented v ≡ reached_text set indented (Ok (value_part_seen v))
part_text set indented dynamic.Void is = refl
part_text set indented (dynamic.Bool b) is = refl
part_text set indented (dynamic.Int8 x) is = refl
part_text set indented (dynamic.Int16 x) is = refl
part_text set indented (dynamic.Int32 x) is = refl
part_text set indented (dynamic.Int64 x) is = refl
part_text set indented (dynamic.UInt8 x) is = refl
part_text set indented (dynamic.UInt16 x) is = refl
part_text set indented (dynamic.UInt32 x) is = refl
part_text set indented (dynamic.UInt64 x) is = refl
part_text set indented (dynamic.Enum e) is = ap (λ (y : Schemas). text_of y indented (type_seen (dynamic.Enum e)) (value_seen (dynamic.Enum e))) is.1
part_text set indented (dynamic.Text t) is = refl
part_text set indented (dynamic.«Data» bytes) is = refl
part_text set indented (dynamic.Struct s) is =
    ap (text_of (set_of (schema_of s)) indented (struct_type (schema_of s))) (printed_is (node_of (set_of (schema_of s)) (number_of (schema_of s))).is_group s)
    ∙ ap (λ (y : Schemas). text_of y indented (struct_type (schema_of s)) (struct_or_group (node_of y (number_of (schema_of s))).is_group (record_seen s))) is.1
part_text set indented (dynamic.List l) is = ap (λ (y : Schemas). text_of y indented (type_seen (dynamic.List l)) (value_seen (dynamic.List l))) is.0
part_text set indented (dynamic.AnyPointer p) is = refl

-- ---- the root ----

abbrev entered : StructTree → Result StructTree ErrorKind
entered s = Ok s

abbrev refused : ErrorKind → Result StructTree ErrorKind
refused kind = Err kind

abbrev unreached : ErrorKind → Reached
unreached kind = Err kind

same_struct : (x y : StructTree) → entered x ≡ entered y → x ≡ y
same_struct x y e = cc

same_kind : (k j : ErrorKind) → refused k ≡ refused j → unreached j ≡ unreached k
same_kind k j e = cc

abbrev struct_part : SchemaType → Record → Reached
struct_part t r = Ok (record { type = t; value = value.Struct r })

module _ (set : Schemas) (b : ℕ) where
  abbrev root_part : StructTree → Reached
  root_part s = struct_part (root_type set b) (struct_record set (Left 63) s b)

  abbrev tree_reached : Tree → Reached
  tree_reached root = reached_value (root_type set b) (message_root_value set b root)

  entered_root : (root : Tree) (s : StructTree) → Ok s ≡ as_struct root 64 → root_part s ≡ tree_reached root
  entered_root tree.Null s e = ap root_part (same_struct s _ e)
  entered_root (tree.Struct bytes ps) s e = ap root_part (same_struct s _ e)
  entered_root (tree.Voids n) s e = cc
  entered_root (tree.Bits bs) s e = cc
  entered_root (tree.Numbers w bytes) s e = cc
  entered_root (tree.Pointers ps) s e = cc
  entered_root (tree.Composite d p es) s e = cc
  entered_root (tree.FaultLeaf k) s e = cc

  refused_root : (root : Tree) (kind : ErrorKind) → Err kind ≡ as_struct root 64 → tree_reached root ≡ Err kind
  refused_root tree.Null kind e = cc
  refused_root (tree.Struct bytes ps) kind e = cc
  refused_root (tree.Voids n) kind e = same_kind kind _ e
  refused_root (tree.Bits bs) kind e = same_kind kind _ e
  refused_root (tree.Numbers w bytes) kind e = same_kind kind _ e
  refused_root (tree.Pointers ps) kind e = same_kind kind _ e
  refused_root (tree.Composite d p es) kind e = same_kind kind _ e
  refused_root (tree.FaultLeaf k) kind e = same_kind kind _ e

  abbrev along : List PathStep → (indented : Bool) → Reached → Out
  along path indented y = reached_text set indented (path_read set path y)

  -- a root that is no struct has no text
  pub no_root : (path : List PathStep) (indented : Bool) (bytes : List ℕ) (root x : Tree) (n : ℕ) (kind : ErrorKind) →
      Ok root ≡ message_tree_of bytes → x ≡ root → n ≡ 64 → Err kind ≡ as_struct x n → got_text set b path indented bytes ≡ Err kind
  no_root path indented bytes root x n kind whole tree_is levels_are read =
      ap (text_at set b path indented) (sym whole) ∙ ap (along path indented) (refused_root root kind (read ∙ ap₂ as_struct tree_is levels_are))

  pub root_refused : (bytes : List ℕ) (root x : Tree) (n : ℕ) (kind : ErrorKind) → Ok root ≡ message_tree_of bytes → x ≡ root → n ≡ 64 → Err kind ≡ as_struct x n →
      root_reached set b (message_tree_of bytes) ≡ Err kind
  root_refused bytes root x n kind whole tree_is levels_are read =
      ap (root_reached set b) (sym whole) ∙ refused_root root kind (read ∙ ap₂ as_struct tree_is levels_are)

  -- bytes that are no message have none
  pub no_message : (path : List PathStep) (indented : Bool) (bytes : List ℕ) (kind : ErrorKind) → Err kind ≡ message_tree_of bytes → got_text set b path indented bytes ≡ Err kind
  no_message path indented bytes kind none = ap (text_at set b path indented) (sym none)

  pub message_refused : (bytes : List ℕ) (kind : ErrorKind) → Err kind ≡ message_tree_of bytes → root_reached set b (message_tree_of bytes) ≡ Err kind
  message_refused bytes kind none = ap (root_reached set b) (sym none)

module _ (schema : StructSchema) (path : List PathStep) (indented : Bool) (bytes : List ℕ) (root x : Tree) (n : ℕ) (h : StructHandle) (r : StructReader)
    (whole : Ok root ≡ message_tree_of bytes) (tree_is : x ≡ root) (levels_are : n ≡ 64) (read : Ok (struct_of r) ≡ as_struct x n) (levels : struct_levels r + 1 ≡ n)
    (same : schema_of h ≡ schema) (reader : reader_of h ≡ r) (stands : IsStruct schema) where
  root_seen : Ok (value_part_seen (dynamic.Struct h)) ≡ tree_reached (set_of schema) (number_of schema) root
  root_seen =
      let left : struct_levels r ≡ 63 = omega (arith, levels, levels_are) in
      let typed : struct_type (schema_of h) ≡ root_type (set_of schema) (number_of schema) = ap struct_type same ∙ ap (λ (g : ℕ). StructType (number_of schema) g) stands.generic in
      let seen : record_seen h ≡ struct_record (set_of schema) (Left (struct_levels r)) (struct_of r) (number_of schema) =
      ap (λ (s : StructSchema). struct_record (set_of s) (Left (struct_levels (reader_of h))) (struct_of (reader_of h)) (number_of s)) same
      ∙ ap (λ (y : StructReader). struct_record (set_of schema) (Left (struct_levels y)) (struct_of y) (number_of schema)) reader in
      let known : record_seen h ≡ struct_record (set_of schema) (Left 63) (struct_of r) (number_of schema) = seen ∙ ap (λ (m : ℕ). struct_record (set_of schema) (Left m) (struct_of r) (number_of schema)) left in
      ap₂ struct_part typed known ∙ entered_root (set_of schema) (number_of schema) root (struct_of r) (read ∙ ap₂ as_struct tree_is levels_are)

  -- the text is that of what the path leads to from the root's struct
  got_along : got_text (set_of schema) (number_of schema) path indented bytes ≡ along (set_of schema) (number_of schema) path indented (Ok (value_part_seen (dynamic.Struct h)))
  got_along = ap (text_at (set_of schema) (number_of schema) path indented) (sym whole) ∙ ap (along (set_of schema) (number_of schema) path indented) (sym root_seen)

  -- the root is the struct that the reader stands on
  pub root_known : root_reached (set_of schema) (number_of schema) (message_tree_of bytes) ≡ Ok (value_part_seen (dynamic.Struct h))
  root_known = ap (root_reached (set_of schema) (number_of schema)) (sym whole) ∙ sym root_seen

  abbrev IsReached : Reached → Type 0
  IsReached y = y ≡ path_read (set_of schema) path (Ok (value_part_seen (dynamic.Struct h)))

  -- the root's struct is of the schema's set
  pub root_is : IsOf (set_of schema) (type_seen (dynamic.Struct h)) (dynamic.Struct h)
  root_is = (subst IsStruct (sym same) stands, ap set_of same, refl)

  -- where the path leads to no value there is none
  pub not_got : (kind : ErrorKind) → IsReached (Err kind) → got_text (set_of schema) (number_of schema) path indented bytes ≡ Err kind
  not_got kind is = got_along ∙ ap (reached_text (set_of schema) indented) (sym is)

  -- and else it is the value's, as it is printed
  pub got_printed : (v : DynamicValue) → IsOf (set_of schema) (type_seen v) v → IsReached (Ok (value_part_seen v)) → printed_text indented v ≡ got_text (set_of schema) (number_of schema) path indented bytes
  got_printed v is_of is = part_text (set_of schema) indented v is_of ∙ ap (reached_text (set_of schema) indented) is ∙ sym got_along

-- ---- the root as it is read ----

-- a path that begins at no value leads to none
nowhere : (set : Schemas) (path : List PathStep) (kind : ErrorKind) → path_read set path (Err kind) ≡ Err kind
nowhere set [] kind = refl
nowhere set (s ∷ path) kind = refl

got_is : (set : Schemas) (b : ℕ) (path : List PathStep) (indented : Bool) (bytes : List ℕ) →
    got_text set b path indented bytes ≡ reached_text set indented (path_read set path (root_reached set b (message_tree_of bytes)))
got_is set b path indented bytes = go (message_tree_of bytes)
  where
    go : (m : Result Tree ErrorKind) → text_at set b path indented m ≡ reached_text set indented (path_read set path (root_reached set b m))
    go (Ok root) = refl
    go (Err kind) = sym (ap (reached_text set indented) (nowhere set path kind))

-- the root of these bytes is a struct that was read
pub record IsRootRead (schema : StructSchema) (bytes : List ℕ) (h : StructHandle) : Type 0 where
  pub known : root_reached (set_of schema) (number_of schema) (message_tree_of bytes) ≡ Ok (value_part_seen (dynamic.Struct h))
  pub typed : IsOf (set_of schema) (type_seen (dynamic.Struct h)) (dynamic.Struct h)

pub root_read : (schema : StructSchema) (bytes : List ℕ) (root x : Tree) (n : ℕ) (h : StructHandle) (r : StructReader) →
    Ok root ≡ message_tree_of bytes → x ≡ root → n ≡ 64 → Ok (struct_of r) ≡ as_struct x n → struct_levels r + 1 ≡ n →
    schema_of h ≡ schema → reader_of h ≡ r → IsStruct schema → IsRootRead schema bytes h
root_read schema bytes root x n h r whole tree_is levels_are read levels same reader stands = record {
  known = root_known schema [] false bytes root x n h r whole tree_is levels_are read levels same reader stands;
  typed = root_is schema [] false bytes root x n h r whole tree_is levels_are read levels same reader stands;
}

module _ (schema : StructSchema) (bytes : List ℕ) (h : StructHandle) (path : List PathStep) (root : IsRootRead schema bytes h) where
  abbrev path_text : Bool → Out
  path_text indented = got_text (set_of schema) (number_of schema) path indented bytes

  abbrev from_root : Reached
  from_root = path_read (set_of schema) path (Ok (value_part_seen (dynamic.Struct h)))

  text_along : (indented : Bool) (y : Reached) → y ≡ from_root → path_text indented ≡ reached_text (set_of schema) indented y
  text_along indented y is =
      got_is (set_of schema) (number_of schema) path indented bytes
      ∙ ap (reached_text (set_of schema) indented) (ap (path_read (set_of schema) path) root.known ∙ sym is)

  -- the number of a step's refusal
  pub step_number : (kind : ErrorKind) → Err kind ≡ from_root → (indented : Bool) → Some kind ≡ text_refusal (path_text indented)
  step_number kind is indented = sym (ap text_refusal (text_along indented (Err kind) is))

  -- that of what the path leads to
  pub part_number : (v : DynamicValue) (o : Option ErrorKind) → IsOf (set_of schema) (type_seen v) v → Ok (value_part_seen v) ≡ from_root →
      ((indented : Bool) → o ≡ text_refusal (printed_text indented v)) → (indented : Bool) → o ≡ text_refusal (path_text indented)
  part_number v o typed is number indented =
      number indented ∙ ap text_refusal (part_text (set_of schema) indented v typed ∙ sym (text_along indented (Ok (value_part_seen v)) is))

  pub part_reached : (v : DynamicValue) → Ok (value_part_seen v) ≡ from_root → path_read (set_of schema) path (root_reached (set_of schema) (number_of schema) (message_tree_of bytes)) ≡ Ok (value_part_seen v)
  part_reached v is = ap (path_read (set_of schema) path) root.known ∙ sym is

-- a text that is refused counts as too long
pub longer_refused : (limit : ℕ) (o : Out) (kind : ErrorKind) → o ≡ Err kind → IsLonger limit o
longer_refused limit o kind e = subst (IsLonger limit) (sym e) (tt {0})
