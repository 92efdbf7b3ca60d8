-- The text of a message's root is that of the reader which stands on it, whose tree is cut off further down.
use Rattle.std.proofs.Common.{ℕ, suc, ◌≡◌, refl, List, Bool, true, false, IsTrue, Ok, Err, ap, arith, sym, subst, ◌∙◌}
use Rattle.std.proofs.lemmas.Bool.{true≢false}
use Rattle.capnp_device.specs.declared.error.ErrorKind.{ErrorKind}
use Rattle.capnp_wire.specs.Edits.{is_struct, struct_in}
use Rattle.capnp_wire.specs.Reading.{as_struct}
use Rattle.capnp_wire.specs.Standing.{struct_levels, struct_of}
use Rattle.capnp_wire.specs.Tree as tree
use Rattle.capnp_wire.specs.Tree.{StructTree, Tree}
use Rattle.capnp_wire.specs.declared.struct_reader.StructReader.{StructReader}
use Rattle.capnp_arena.specs.Same.{IsCutOf, SameParts, SameTo}
use Rattle.capnp_schema.specs.StructHandles.{generic_of, number_of, set_of, struct_node}
use Rattle.capnp_schema.specs.declared.schema.structs.StructSchema.{StructSchema}
use Rattle.capnp_records.specs.Laws.{GroupPrintLaw, PrintLaw}
use Rattle.capnp_records.specs.Reading.{struct_record}
use Rattle.capnp_records.specs.Record as value
use Rattle.capnp_records.specs.Record.{Left, Record}
use Rattle.capnp_records.specs.Text.{Out, text_of}
use Rattle.capnp_dynamic_readers.specs.Handles.{reader_of, schema_of}
use Rattle.capnp_dynamic_readers.specs.Pieces.{IsAppended}
use Rattle.capnp_dynamic_readers.specs.Seen.{record_seen}
use Rattle.capnp_dynamic_readers.specs.Shown.{printed_text, struct_printed}
use Rattle.capnp_dynamic_readers.specs.Typed.{struct_type}
use Rattle.capnp_dynamic_readers.specs.declared.dynamic_struct.Reader.{Reader as StructHandle}
use Rattle.capnp_dynamic_readers.specs.declared.dynamic_value.Reader.TheVariants as dynamic
use Rattle.capnp_call.specs.Messages.{record_left, root_value, record_text}
use Rattle.capnp_call.specs.Runs.{record_under_schema}
use Rattle.capnp_call.proofs.CutRecords.{record_cut}
use Rattle.capnp_call.proofs.Starts.{appended, struct_answered}
use Rattle.capnp_call.proofs.Trimmed.{text_alike, trimmed, trimmed_record}

-- ---- a struct that is cut is one ----

no_struct : (t u : Tree) → t ≡ u → is_struct u ≡ false → IsTrue (is_struct t) → ⊥
no_struct t u e other here = true≢false (sym here ∙ (ap is_struct e ∙ other))

struct_alike : (n : ℕ) (x t : Tree) → SameTo (suc n) x t → IsTrue (is_struct t) → IsTrue (is_struct x)
struct_alike n (tree.Struct bytes ps) t h here = refl
struct_alike n tree.Null t h here = absurd (no_struct t tree.Null h refl here)
struct_alike n (tree.Voids k) t h here = absurd (no_struct t (tree.Voids k) h refl here)
struct_alike n (tree.Bits bits) t h here = absurd (no_struct t (tree.Bits bits) h refl here)
struct_alike n (tree.Numbers w bytes) t h here = absurd (no_struct t (tree.Numbers w bytes) h refl here)
struct_alike n (tree.Pointers ps) t (qs, e, row) here = absurd (no_struct t (tree.Pointers qs) e refl here)
struct_alike n (tree.Composite d p es) t (fs, e, row) here = absurd (no_struct t (tree.Composite d p fs) e refl here)
struct_alike n (tree.FaultLeaf k) t h here = absurd (no_struct t (tree.FaultLeaf k) h refl here)

parts_alike : (n : ℕ) (x t : Tree) → SameTo (suc n) x t → IsTrue (is_struct t) → SameParts (SameTo n) (struct_in x) (struct_in t)
parts_alike n (tree.Struct bytes ps) t (qs, e, row) here = subst (SameParts (SameTo n) (record { bytes = bytes; pointers = ps })) (sym (ap struct_in e)) (refl, row)
parts_alike n tree.Null t h here = absurd (no_struct t tree.Null h refl here)
parts_alike n (tree.Voids k) t h here = absurd (no_struct t (tree.Voids k) h refl here)
parts_alike n (tree.Bits bits) t h here = absurd (no_struct t (tree.Bits bits) h refl here)
parts_alike n (tree.Numbers w bytes) t h here = absurd (no_struct t (tree.Numbers w bytes) h refl here)
parts_alike n (tree.Pointers ps) t (qs, e, row) here = absurd (no_struct t (tree.Pointers qs) e refl here)
parts_alike n (tree.Composite d p es) t (fs, e, row) here = absurd (no_struct t (tree.Composite d p fs) e refl here)
parts_alike n (tree.FaultLeaf k) t h here = absurd (no_struct t (tree.FaultLeaf k) h refl here)

pub is_struct_cut : (x t : Tree) → IsCutOf x t → IsTrue (is_struct t) → IsTrue (is_struct x)
unfolding IsCutOf
is_struct_cut x t h here = struct_alike 64 x t h here

left_cut : (schema : StructSchema) (x t : Tree) → IsCutOf x t → IsTrue (is_struct t) → trimmed_record (record_left schema (struct_in x)) ≡ trimmed_record (record_left schema (struct_in t))
unfolding IsCutOf
left_cut schema x t h here = record_cut (set_of schema) 64 63 (struct_in x) (struct_in t) (parts_alike 64 x t h here) (omega arith) (number_of schema)

-- ---- texts ----

value_trimmed : (q : Bool) (r s : Record) → trimmed_record r ≡ trimmed_record s → trimmed (root_value q r) ≡ trimmed (root_value q s)
value_trimmed true r s e = ap value.Group e
value_trimmed false r s e = ap value.Struct e

text_cut : (schema : StructSchema) (indented : Bool) (x t : Tree) → IsCutOf x t → IsTrue (is_struct t) → record_text schema indented (record_left schema (struct_in x)) ≡ record_text schema indented (record_left schema (struct_in t))
text_cut schema indented x t h here =
    text_alike (set_of schema) indented (struct_type schema) (root_value (struct_node schema).is_group (record_left schema (struct_in x))) (root_value (struct_node schema).is_group (record_left schema (struct_in t)))
    (value_trimmed (struct_node schema).is_group (record_left schema (struct_in x)) (record_left schema (struct_in t)) (left_cut schema x t h here))

-- the text of a struct's record where its reader has so many levels
abbrev text_at : Bool → StructSchema → ℕ → StructTree → Out
text_at indented schema l s = record_text schema indented (struct_record (set_of schema) (Left l) s (number_of schema))

printed_at : (handle : StructHandle) (indented : Bool) → printed_text indented (dynamic.Struct handle) ≡ text_at indented (schema_of handle) (struct_levels (reader_of handle)) (struct_of (reader_of handle))
printed_at handle indented = ap (text_of (set_of (schema_of handle)) indented (struct_type (schema_of handle))) (go (struct_node (schema_of handle)).is_group)
  where
    go : (q : Bool) → struct_printed q handle ≡ root_value q (record_seen handle)
    go true = refl
    go false = refl

-- a root, by the reader that stands on it
module _ (schema : StructSchema) (indented : Bool) (x t : Tree) (h : IsCutOf x t) (here : IsTrue (is_struct t)) (handle : StructHandle) (levels : ℕ) (reader : StructReader) (named : schema_of handle ≡ schema) (stands : struct_of (reader_of handle) ≡ struct_of reader) (read : Ok (struct_of reader) ≡ as_struct x levels) (left : struct_levels (reader_of handle) ≡ 63) where
  read_text_is : printed_text indented (dynamic.Struct handle) ≡ record_text schema indented (record_left schema (struct_in t))
  read_text_is =
      printed_at handle indented
      ∙ (ap (λ (z : StructSchema). text_at indented z (struct_levels (reader_of handle)) (struct_of (reader_of handle))) named
      ∙ (ap (λ (l : ℕ). text_at indented schema l (struct_of (reader_of handle))) left
      ∙ (ap (text_at indented schema 63) (stands ∙ struct_answered x levels (struct_of reader) (is_struct_cut x t h here) (sym read))
      ∙ text_cut schema indented x t h here)))

  pub printed_of : PrintLaw → GroupPrintLaw → (old new : List ℕ) → IsAppended old (printed_text indented (dynamic.Struct handle)) new → IsAppended old (record_text schema indented (record_under_schema schema (struct_in t))) new
  printed_of law groups old new printed =
      appended law groups (set_of schema) indented (number_of schema) (generic_of schema) (struct_in t) (Left 63) (struct_node schema).is_group old new (subst (λ (o : Out). IsAppended old o new) read_text_is printed)

  pub unprinted_of : (kind : ErrorKind) → printed_text indented (dynamic.Struct handle) ≡ Err kind → record_text schema indented (record_left schema (struct_in t)) ≡ Err kind
  unprinted_of kind refused = sym read_text_is ∙ refused
