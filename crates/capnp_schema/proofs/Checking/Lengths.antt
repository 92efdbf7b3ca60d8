-- One type for each field and each annotation.
use Rattle.std.proofs.Common.{ℕ, zero, suc, ◌≡◌, ◌≢◌, ◌<◌, true, false, List, [], ◌∷◌, length, get_or, slice_get, Some, None, Vec, refl, sym, ap, ◌∙◌, subst}
use Rattle.std.specs.Bool.{Decides}
use Rattle.std.specs.Option.{unwrap_or}
use Rattle.std.specs.declared.alloc.Global.{Global}
use Rattle.std.proofs.lemmas.List.{length-map, ext_get_or}
use Rattle.std.proofs.lemmas.Option.{slice_get_within, slice_get-get_or}
use Rattle.capnp_base.specs.declared.introspect.«Type».{«Type» as TypeHandle}
use Rattle.capnp_device.specs.declared.error.SchemaTable.TheVariants.{Brand as InBrands}
use Rattle.capnp_schema.specs.Types.{seen_type}
use Rattle.capnp_schema.specs.Schema.{Schemas, Node, Brand, Annotation, no_brand, no_node, brand_at}
use Rattle.capnp_schema.specs.Steps.Entries.{brand_node, node_of_entry}
use Rattle.capnp_schema.specs.Accepted.{BrandHasTypes, BrandStands}
use Rattle.capnp_schema.specs.Broken.{IsBroken, brand_node as broken_node, brand_lengths}
use Rattle.capnp_schema.specs.Steps.Checking.Lengths.{annotation_count, annotation_counts, children_counts, types_count}
use Rattle.capnp_schema.proofs.FoundEntries.{found_node}

pub types_at : (types : List (Vec TypeHandle Global)) (i : ℕ) → get_or (children_counts types) i 0 ≡ types_count (slice_get types i)
types_at [] i = refl
types_at (ts ∷ types) zero = length-map ts.items seen_type
types_at (ts ∷ types) (suc i) = types_at types i

pub annotations_at : {A B : Type 0} (seen : A → B) (annotations : B → List Annotation) (xs : List A) (i : ℕ) → get_or (annotation_counts seen annotations xs) i 0 ≡ annotation_count seen annotations (slice_get xs i)
annotations_at seen annotations [] i = refl
annotations_at seen annotations (x ∷ xs) zero = refl
annotations_at seen annotations (x ∷ xs) (suc i) = annotations_at seen annotations xs i

pub children_length : (types : List (Vec TypeHandle Global)) → length (children_counts types) ≡ length types
children_length [] = refl
children_length (ts ∷ types) = ap suc (children_length types)

pub annotations_length : {A B : Type 0} (seen : A → B) (annotations : B → List Annotation) (xs : List A) → length (annotation_counts seen annotations xs) ≡ length xs
annotations_length seen annotations [] = refl
annotations_length seen annotations (x ∷ xs) = ap suc (annotations_length seen annotations xs)

-- two lists of counts that differ in length or at a place
pub other_length : (xs ys : List ℕ) → length xs ≢ length ys → Decides false (xs ≡ ys)
other_length xs ys h = (λ e. cc, λ e. absurd (h (ap length e)))

pub other_at : (xs ys : List ℕ) (i : ℕ) → get_or xs i 0 ≢ get_or ys i 0 → Decides false (xs ≡ ys)
other_at xs ys i h = (λ e. cc, λ e. absurd (h (ap (λ zs. get_or zs i 0) e)))

pub same_counts : (xs ys : List ℕ) → length xs ≡ length ys → ((i : ℕ) → i < length xs → get_or xs i 0 ≡ get_or ys i 0) → Decides true (xs ≡ ys)
same_counts xs ys h each = (λ _. ext_get_or 0 xs ys h each, λ _. refl)

-- ---- brands ----

pub names_no_node : (set : Schemas) (b : ℕ) (x : Brand) → Some x ≡ slice_get set.brands b → None ≡ brand_node set b → IsBroken set 2 InBrands b 65535
names_no_node set b x is none = broken_node b (record { entry = x; is = sym is; broken = λ h. gone h })
  where
    gone : x.node < length set.nodes → ⊥
    gone h = let there = slice_get-get_or set.nodes x.node no_node h in let e = ap (node_of_entry set) is in cc

pub brand_stands : (set : Schemas) (b : ℕ) (x : Brand) (n : Node) → Some x ≡ slice_get set.brands b → Some n ≡ brand_node set b → BrandHasTypes n x → BrandStands set b
brand_stands set b x n is there types = record {
  node = subst (λ (y : Brand). y.node < length set.nodes) same (slice_get_within set.nodes x.node n (ap (node_of_entry set) is ∙ sym there));
  types = subst (λ m. BrandHasTypes m (brand_at set b)) (sym (found_node set b n there)) (subst (BrandHasTypes n) same types);
}
  where
    same : x ≡ brand_at set b
    same = ap (λ o. unwrap_or o (no_brand set)) is

pub lacks_types : (set : Schemas) (b : ℕ) (x : Brand) (n : Node) → Some x ≡ slice_get set.brands b → Some n ≡ brand_node set b → (BrandHasTypes n x → ⊥) → IsBroken set 2 InBrands b 65535
lacks_types set b x n is there broken = brand_lengths b (slice_get_within set.brands b x (sym is)) (λ h. broken (subst (BrandHasTypes n) (sym same) (subst (λ m. BrandHasTypes m (brand_at set b)) (found_node set b n there) h)))
  where
    same : x ≡ brand_at set b
    same = ap (λ o. unwrap_or o (no_brand set)) is
