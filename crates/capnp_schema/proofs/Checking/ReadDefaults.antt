-- List defaults: of a type by its layer, and of the fields of brands.
use Rattle.std.proofs.Common.{◌↔◌, IsTrue, Result, is_ok, ◌≡◌, ℕ, ◌<◌, ◌≤◌, ◌∙◌, Bool, List, Option, Some, ap, arith, length, refl, slice_get, subst, sym}
use Rattle.std.specs.List.{All}
use Rattle.std.specs.Option.{unwrap_or}
use Rattle.std.proofs.lemmas.Option.{slice_get_within, unwrap_or-slice_get}
use Rattle.capnp_device.specs.declared.error.ErrorKind.{ErrorKind}
use Rattle.capnp_device.specs.declared.error.SchemaTable.TheVariants.{Brand as InBrands}
use Rattle.capnp_base.specs.Types.{variant_element_size as size_of_variant, variant_of}
use Rattle.capnp_base.specs.declared.introspect.«Type».{«Type» as TypeHandle}
use Rattle.capnp_base.specs.declared.introspect.TypeVariant.{TypeVariant}
use Rattle.capnp_wire.specs.Reading.{as_list}
use Rattle.capnp_wire.specs.Tree as tree
use Rattle.capnp_wire.specs.Tree.{Tree}
use Rattle.capnp_wire.specs.declared.size.ElementSize.{ElementSize}
use Rattle.capnp_schema.specs.Types.{SchemaType, element_size, seen_type, seen_variant}
use Rattle.capnp_schema.specs.Schema.{Schemas, ListValue, TypedField, fields_of, no_field}
use Rattle.capnp_schema.specs.Accepted.{HaveAllWords, ListDefaultsRead, ListReads, ReadsDefault, ReadsElements, Rule6, words_root}
use Rattle.capnp_schema.specs.Broken.{IsBroken, default_list}
use Rattle.capnp_schema.specs.Facts.Fields.{brand_there}
use Rattle.capnp_schema.specs.Facts.Layers.{elements_sized, seen_which}

pub layer_read : (r : Bool) (words : List ℕ) (t : TypeHandle) (layer : TypeVariant) → layer ≡ variant_of t → (IsTrue r ↔ ListReads (ListValue words) (seen_variant layer)) → IsTrue r ↔ ListReads (ListValue words) (seen_type t)
layer_read r words t layer e h = subst (λ (x : SchemaType). IsTrue r ↔ ListReads (ListValue words) x) (ap seen_variant e ∙ seen_which t) h

-- one level is as good as the 64 of a reader of words
one_level : (size : ElementSize) (t : Tree) → as_list size t 64 ≡ as_list size t 1
one_level size tree.Null = refl
one_level size (tree.Struct bytes ps) = refl
one_level size (tree.Voids n) = refl
one_level size (tree.Bits bits) = refl
one_level size (tree.Numbers w bytes) = refl
one_level size (tree.Pointers ps) = refl
one_level size (tree.Composite d p es) = refl
one_level size (tree.FaultLeaf k) = refl

-- whether a list was found says whether words are read as such elements
pub read_decides : (b : Bool) (found : Result Tree ErrorKind) (element : TypeHandle) (words : List ℕ) (size : ElementSize) (t : Tree) (levels : ℕ)
    → b ≡ is_ok found → found ≡ as_list size t levels → size ≡ size_of_variant (variant_of element) → t ≡ words_root words → levels ≡ 64
    → IsTrue b ↔ ReadsElements (seen_type element) (words_root words)
read_decides b found element words size t levels is read sized tree all = (λ yes. sym same ∙ yes, λ yes. same ∙ yes)
  where
    same : b ≡ is_ok (as_list (element_size (seen_type element)) (words_root words) 1)
    same = is ∙ ap is_ok (read ∙ ap (λ n. as_list size t n) all ∙ one_level size t ∙ ap (λ s. as_list s t 1) (sized ∙ elements_sized element) ∙ ap (λ x. as_list (element_size (seen_type element)) x 1) tree)

module _ (set : Schemas) (b i : ℕ) (f : TypedField) (here : slice_get (fields_of set b) i ≡ Some f) where
  pub field_inside : i < length (fields_of set b)
  field_inside = slice_get_within (fields_of set b) i f here

  pub unread_at : (ReadsDefault f → ⊥) → IsBroken set 6 InBrands b i
  unread_at fails = default_list b i (record {
    brand = brand_there set b i field_inside;
    field = field_inside;
    broken = λ reads. fails (subst ReadsDefault (ap (λ (o : Option TypedField). unwrap_or o no_field) here) reads);
  })

-- ---- brands, one after another ----

pub read_all : (set : Schemas) (n : ℕ) → ((b : ℕ) → b < n → All ReadsDefault (fields_of set b)) → length set.brands ≤ n → ListDefaultsRead set
read_all set n before end = λ b i hb hi. subst ReadsDefault (sym (unwrap_or-slice_get (fields_of set b) i no_field)) (before b (omega arith) i no_field hi)

pub rule6_stands : (set : Schemas) → HaveAllWords set → ListDefaultsRead set → Rule6 set
rule6_stands set words reads = record {
  values = words;
  lists = reads;
}
