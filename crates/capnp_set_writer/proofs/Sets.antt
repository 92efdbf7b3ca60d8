-- A set that was written is read as itself: its tree, and the message of that tree.
use Rattle.std.proofs.Common.{All, ◌≡◌, ℕ, suc, ◌^◌, ◌<◌, refl, ap, sym, subst, ◌∙◌, List, Ok}
use Rattle.capnp_wire.specs.Message.{IsReadAs}
use Rattle.capnp_wire.specs.Depth.{IsShallow}
use Rattle.capnp_wire.specs.Place.{struct_tree}
use Rattle.capnp_wire.specs.Tree.{Tree}
use Rattle.capnp_wire.specs.WellFormed.{IsWellFormed}
use Rattle.capnp_wire.specs.Words.{words_of}
use Rattle.capnp_schema.specs.Accepted.{IsAccepted}
use Rattle.capnp_schema.specs.Builtin.{zero_word}
use Rattle.capnp_schema.specs.Meta.{meta}
use Rattle.capnp_schema.specs.Schema.{Schemas, ListValue}
use Rattle.capnp_records.specs.Reading.{struct_record}
use Rattle.capnp_records.specs.Record.{Left}
use Rattle.capnp_sets.specs.Fields.{node_meant}
use Rattle.capnp_sets.specs.Lists.{brand_of, enum_meant, read_or_none, set_meant}
use Rattle.capnp_sets.specs.Parts.{meta_read_at, structs}
use Rattle.capnp_set_writer.specs.Kept.{NodeKept}
use Rattle.capnp_set_writer.specs.Steps.Kept.{SetKept}
use Rattle.capnp_set_writer.specs.Limits.{set_message_words}
use Rattle.capnp_set_writer.specs.Message.{IsReadAsSet}
use Rattle.capnp_sets.specs.Message.{root_set, root_struct}
use Rattle.capnp_set_writer.specs.Trees.{brand_tree, enum_tree, node_tree, set_tree}
use Rattle.capnp_set_writer.proofs.Depth.{shallow}
use Rattle.capnp_set_writer.proofs.Lists.{structs_there}
use Rattle.capnp_set_writer.proofs.Named.{brand_values, brands_named, enums_named}
use Rattle.capnp_set_writer.proofs.Numbers.{applied}
use Rattle.capnp_set_writer.proofs.Records.{BrandRead, EnumRead, brand_read, enum_read, node_read}

module _ (s : Schemas) where
  nodes_there : All NodeKept s.nodes → structs 1 node_meant (meta_read_at 0 0 (struct_record meta (Left 63) (set_tree s) 0)) ≡ Ok s.nodes
  unfolding meta_read_at
  nodes_there k = structs_there 1 3 3 node_meant node_tree NodeKept (Left 63) refl refl (node_read (Left 61) (refl, (refl, (refl, (refl, (refl, tt)))))) s.nodes k (ListValue zero_word)

  brands_there : All (BrandRead (brand_values s.brands)) s.brands → structs 6 (brand_of (brand_values s.brands)) (meta_read_at 0 1 (struct_record meta (Left 63) (set_tree s) 0)) ≡ Ok s.brands
  unfolding meta_read_at
  brands_there k = structs_there 6 1 3 (brand_of (brand_values s.brands)) brand_tree (BrandRead (brand_values s.brands)) (Left 63) refl refl (brand_read (brand_values s.brands) (Left 61) (refl, (refl, (refl, tt)))) s.brands k (ListValue zero_word)

  enums_there : All (EnumRead (brand_values s.brands)) s.enums → structs 8 (enum_meant (brand_values s.brands)) (meta_read_at 0 2 (struct_record meta (Left 63) (set_tree s) 0)) ≡ Ok s.enums
  unfolding meta_read_at
  enums_there k = structs_there 8 1 5 (enum_meant (brand_values s.brands)) enum_tree (EnumRead (brand_values s.brands)) (Left 63) refl refl (enum_read (brand_values s.brands) (Left 61) (refl, (refl, (refl, (refl, (refl, tt)))))) s.enums k (ListValue zero_word)

  pub set_read : IsAccepted s → SetKept s → set_meant (struct_record meta (Left 63) (set_tree s) 0) ≡ Ok s
  unfolding set_meant meta_read_at
  set_read accepted k =
      applied (applied (applied refl (nodes_there k.nodes)) (brands_there (brands_named s accepted k.brands))) (enums_there (enums_named s accepted k.brands k.enums))

  pub message_read : (t : Tree) (bytes : List ℕ) → t ≡ struct_tree (set_tree s) → IsAccepted s → SetKept s → IsReadAs t bytes → IsReadAsSet s bytes
  message_read t bytes e accepted k reads rest =
      ap (λ r. root_set (root_struct r)) (reads (subst IsShallow (sym e) (shallow s)) rest)
      ∙ (ap (λ (x : Tree). root_set (root_struct (Ok x))) e ∙ ap read_or_none (set_read accepted k))

  -- the words of the message, by its tree
  pub message_small : (t : Tree) → t ≡ struct_tree (set_tree s) → IsWellFormed t × (suc (words_of t) < 2 ^ 29) → set_message_words s < 2 ^ 29
  message_small t e held = subst (λ (x : Tree). suc (words_of x) < 2 ^ 29) e held.1
