-- Places with values whose words break rule 6.
use Rattle.std.proofs.Common.{◌≡◌, ℕ, ◌≤◌, Some, length, slice_get, sym}
use Rattle.capnp_device.specs.declared.error.SchemaTable.TheVariants.{Node as InNodes, Enum as InEnums}
use Rattle.capnp_schema.specs.Schema.{Schemas, Node, Enum, Enumerant, Field}
use Rattle.capnp_schema.specs.Accepted.{DefaultStands, HasFewEnumerants, HasFewFields, HaveWords, Rule3}
use Rattle.capnp_schema.specs.Broken.{EntryBreaks, IsBroken, default_words, enum_annotation_words, enumerant_annotation_words, field_annotation_words, node_annotation_words}
use Rattle.capnp_schema.proofs.EntryWalk.{entry_breaks, entry_has}

module _ (set : Schemas) (n : ℕ) (x : Node) (here : slice_get set.nodes n ≡ Some x) where
  pub few_at : Rule3 set → length x.fields ≤ 65535
  few_at rule = (entry_has HasFewFields set.nodes n x rule.counts.nodes (sym here)).fields

  pub wordless_node_at : (HaveWords x.annotations → ⊥) → IsBroken set 6 InNodes n 65535
  wordless_node_at fails = node_annotation_words n (entry_breaks set.nodes (λ (y : Node). HaveWords y.annotations) n x (sym here) fails)

  pub wordless_field_at : (i : ℕ) → EntryBreaks x.fields (λ (f : Field). HaveWords f.annotations) i → IsBroken set 6 InNodes n i
  wordless_field_at i fails = field_annotation_words n i (record { entry = x; is = here; child = fails })

  pub broken_default_at : (i : ℕ) → EntryBreaks x.fields DefaultStands i → IsBroken set 6 InNodes n i
  broken_default_at i fails = default_words n i (record { entry = x; is = here; child = fails })

module _ (set : Schemas) (n : ℕ) (x : Enum) (here : slice_get set.enums n ≡ Some x) where
  pub few_enumerants_at : Rule3 set → length x.enumerants ≤ 65535
  few_enumerants_at rule = (entry_has HasFewEnumerants set.enums n x rule.counts.enums (sym here)).enumerants

  pub wordless_enum_at : (HaveWords x.annotations → ⊥) → IsBroken set 6 InEnums n 65535
  wordless_enum_at fails = enum_annotation_words n (entry_breaks set.enums (λ (y : Enum). HaveWords y.annotations) n x (sym here) fails)

  pub wordless_enumerant_at : (i : ℕ) → EntryBreaks x.enumerants (λ (y : Enumerant). HaveWords y.annotations) i → IsBroken set 6 InEnums n i
  wordless_enumerant_at i fails = enumerant_annotation_words n i (record { entry = x; is = here; child = fails })
