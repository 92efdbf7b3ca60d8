-- Brands and the nodes that they are of: brand i is of node i, and has a type for each of its fields and annotations.
use Rattle.std.specs.Prelude.{ℕ, ◌≡◌, List, [], ◌∷◌, length, suc, ⊤}
use Rattle.capnp_schema.specs.declared.record.BrandRecord.{BrandRecord}
use Rattle.capnp_schema.specs.declared.record.NodeRecord.{NodeRecord}

-- a brand of node number i: a type for each field, for each annotation of its own, and a list of types for each field
pub record IsBrandOf (i : ℕ) (n : NodeRecord) (b : BrandRecord) : Type 0 where
  pub number : b.node ≡ i
  pub fields : length b.field_types.items ≡ length n.body.fields.items
  pub own : length b.annotation_types.own.items ≡ length n.annotations.items
  pub children : length b.annotation_types.children.items ≡ length n.body.fields.items

-- brands of these nodes, one each, from number i on
abbrev pub AreBrandsFrom : ℕ → List NodeRecord → List BrandRecord → Type 0
AreBrandsFrom i [] [] = ⊤
AreBrandsFrom i [] (b ∷ bs) = ⊥
AreBrandsFrom i (n ∷ ns) [] = ⊥
AreBrandsFrom i (n ∷ ns) (b ∷ bs) = IsBrandOf i n b × AreBrandsFrom (suc i) ns bs

abbrev pub AreBrandsOf : List NodeRecord → List BrandRecord → Type 0
AreBrandsOf nodes brands = AreBrandsFrom 0 nodes brands
