-- In an accepted set whose numbers fit their types the sections' sizes have 16 bits and the defaults are well-formed.
use Rattle.std.specs.Prelude.{ℕ, zero, suc, ◌^◌, ◌<◌, ⊤, List, [], ◌∷◌, slice_index_or}
use Rattle.std.proofs.Common.{arith}
use Rattle.capnp_wire.specs.WellFormed.{AreBytes, AreSegments, IsWellFormed}
use Rattle.capnp_wire.specs.Facts.Places.{IsWellFormed_tree_at}
use Rattle.capnp_wire.specs.Facts.Lists.{IsWellFormed_data, IsWellFormed_text}
use Rattle.capnp_schema.specs.Schema.{DataValue, FieldKind, Group, ListValue, Schemas, Slot, StructValue, TextValue, brand_at, field_at, kind_default, node_of, Value as SchemaValue}
use Rattle.capnp_schema.specs.Types.{SchemaType}
use Rattle.capnp_schema.specs.Accepted.{Decodes, EachField, IsAccepted, KindDefault, words_root}
use Rattle.capnp_schema.specs.Ranges.{HasRanges, ValueFits}
use Rattle.capnp_records.specs.Facts.Members.{default_decodes}
use Rattle.capnp_records.specs.Given.{data_tree}
use Rattle.capnp_base.specs.Text.{text_tree}

-- the tree of a default is well-formed
abbrev pub DefaultFormed : SchemaValue → Type 0
DefaultFormed (TextValue bytes) = IsWellFormed (text_tree bytes)
DefaultFormed (DataValue bytes) = IsWellFormed (data_tree bytes)
DefaultFormed (StructValue words) = IsWellFormed (words_root words)
DefaultFormed (ListValue words) = IsWellFormed (words_root words)
DefaultFormed d = ⊤

pub record HasFormedParts (set : Schemas) : Type 0 where
  pub words : (b : ℕ) → (node_of set b).data_word_count < 2 ^ 16
  pub pointers : (b : ℕ) → (node_of set b).pointer_count < 2 ^ 16
  pub defaults : EachField set (λ b i f. KindDefault (λ d t. DefaultFormed d) f.field.kind f.type)

pub formed_words : (words : List ℕ) → AreBytes words → IsWellFormed (words_root words)
formed_words words h = IsWellFormed_tree_at 64 (words ∷ []) (slice_index_or (words ∷ []) 0 []) 0 segments h
  where
    segments : AreSegments (words ∷ [])
    segments zero = h
    segments (suc i) = λ j. omega arith

formed_default : (d : SchemaValue) → ValueFits d → Decodes d → DefaultFormed d
formed_default (TextValue bytes) fits few = IsWellFormed_text bytes fits (omega (arith, few))
formed_default (DataValue bytes) fits few = IsWellFormed_data bytes fits (omega (arith, few))
formed_default (StructValue words) fits h = formed_words words fits
formed_default (ListValue words) fits h = formed_words words fits
formed_default d fits h = tt

formed_kind : (k : FieldKind) (t : SchemaType) → ValueFits (kind_default k) → Decodes (kind_default k) → KindDefault (λ d t. DefaultFormed d) k t
formed_kind (Slot offset d) t fits h = formed_default d fits h
formed_kind (Group node) t fits h = tt

pub formed_set : (set : Schemas) → IsAccepted set → HasRanges set → HasFormedParts set
formed_set set accepted ranges = record {
  words = λ b. (ranges.nodes (brand_at set b).node).data_words;
  pointers = λ b. (ranges.nodes (brand_at set b).node).pointers;
  defaults = λ b i b_in i_in. formed_kind (field_at set b i).field.kind (field_at set b i).type (ranges.defaults b i b_in i_in) (default_decodes set accepted b i b_in i_in);
}
