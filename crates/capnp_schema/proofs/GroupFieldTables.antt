-- The table of group fields, and what handles of them are.
use Rattle.std.proofs.Common.{ℕ, zero, suc, ◌≡◌, ◌<◌, ◌≤◌, ◌^◌, ◌∙◌, ⊎_elim, IfSome, IsFalse, List, [], ◌∷◌, ◌++◌, drop, length, map, slice_get, Option, Some, None, ap, arith, refl, subst, sym}
use Rattle.std.specs.Option.{option_flatten}
use Rattle.std.proofs.lemmas.Bool.{cases_lt, false_from_ne_true}
use Rattle.capnp_schema.specs.Accepted.{IsAccepted, IsGroupOf, IsParent}
use Rattle.capnp_schema.specs.Steps.Checking.Parents.{IsParentTable, TargetsAreGroups, group_target}
use Rattle.capnp_schema.specs.Facts.GroupFields.{group_field_found, group_field_is, group_of, no_group_field, place_found, place_missing, target_parent}
use Rattle.capnp_schema.specs.Facts.Groups.{group_of_field}
use Rattle.capnp_schema.specs.GroupFields.{AreGroupFields, group_field_of, numbered_pair, place_naming}
use Rattle.capnp_schema.specs.FieldLists.{IsFieldOf, index_of, field_schema, typed_of}
use Rattle.capnp_schema.specs.GroupsDown.{IsGroupFieldOf, place_of_field}
use Rattle.capnp_schema.specs.Schema.{Node, Schemas, fields_of, field_at, kind_target, node_of}
use Rattle.capnp_schema.specs.StructHandles.{IsStruct, number_of, set_of, struct_field}
use Rattle.capnp_schema.specs.declared.schema.fields.Field.{Field}
use Rattle.capnp_schema.specs.declared.schema.structs.StructSchema.{StructSchema}
use Rattle.capnp_schema.proofs.FieldCounts.{few_fields_of}
use Rattle.capnp_schema.proofs.NamedTypes.{brand_of_field}
use Rattle.capnp_schema.proofs.GroupTargets.{node_past, within_brands, within_fields}

-- what is found is a field of its brand
pub inside_brand : (set : Schemas) → IsAccepted set → (g : ℕ) (o : Option (ℕ × ℕ)) → o ≡ group_field_of set g → IfSome o (λ p. (p.1 < length (fields_of set p.0)) × (p.1 < 65535))
inside_brand set accepted g None e = tt
inside_brand set accepted g (Some (b, i)) e =
    let inside : i < length (fields_of set b) = within_fields set b i g (group_field_found set g b i (sym e)).1 in
    let few = few_fields_of set accepted.rule3 b in
    (inside, omega arith)

-- ---- the table by the table of parents ----

entry_here : (o : Option (Option (ℕ × ℕ))) (p : ℕ × ℕ) → option_flatten o ≡ Some p → o ≡ Some (Some p)
entry_here None p e = cc
entry_here (Some None) p e = cc
entry_here (Some (Some q)) p e = ap (λ (x : Option (ℕ × ℕ)). Some x) e

-- what stands in the table of parents is found
pub parent_found : (set : Schemas) → TargetsAreGroups set → (table : List (Option (ℕ × ℕ))) → IsParentTable set table → (g : ℕ) → option_flatten (slice_get table g) ≡ place_naming set g (length set.brands)
parent_found set targets table is g = go (option_flatten (slice_get table g)) (place_naming set g (length set.brands)) refl refl
  where
    all : (b i : ℕ) → group_target set b i ≡ Some g → slice_get table g ≡ Some (Some (b, i))
    all b i t = is.all g b i (let l = is.same_length in let in_set = (targets b i g t).0 in omega arith) t

    go : (o q : Option (ℕ × ℕ)) → option_flatten (slice_get table g) ≡ o → place_naming set g (length set.brands) ≡ q → o ≡ q
    go None None e f = refl
    go (Some (b, i)) None e f = let t : group_target set b i ≡ Some g = is.holds g b i (entry_here (slice_get table g) (b, i) e) in absurd (place_missing set g (length set.brands) b i f (within_brands set b i g t) t)
    go o (Some (b, i)) e f = sym e ∙ ap (λ (x : Option (Option (ℕ × ℕ))). option_flatten x) (all b i (place_found set g (length set.brands) b i f).1)

flat_map : (table : List (Option (ℕ × ℕ))) (g : ℕ) → option_flatten (slice_get (map numbered_pair table) g) ≡ numbered_pair (option_flatten (slice_get table g))
flat_map [] g = refl
flat_map (x ∷ xs) zero = refl
flat_map (x ∷ xs) (suc g) = flat_map xs g

pub group_fields_are : (set : Schemas) → TargetsAreGroups set → (table fields : List (Option (ℕ × ℕ))) → IsParentTable set table → fields ≡ map numbered_pair table → AreGroupFields set fields
unfolding group_field_of
group_fields_are set targets table fields is e g = ap (λ (xs : List (Option (ℕ × ℕ))). option_flatten (slice_get xs g)) e ∙ (flat_map table g ∙ ap numbered_pair (parent_found set targets table is g))

-- an index in the table of parents fits 16 bits
pub parent_small : (set : Schemas) → IsAccepted set → (table : List (Option (ℕ × ℕ))) → IsParentTable set table → (g : ℕ) (o : Option (ℕ × ℕ)) → slice_get table g ≡ Some o → IfSome o (λ p. p.1 < 2 ^ 16)
parent_small set accepted table is g None e = tt
parent_small set accepted table is g (Some (b, i)) e =
    let inside : i < length (fields_of set b) = within_fields set b i g (is.holds g b i e) in
    let few = few_fields_of set accepted.rule3 b in
    omega arith

-- ---- the table is filled, one entry after another ----

drop_past : (xs : List (Option (ℕ × ℕ))) (i : ℕ) → length xs ≤ i → drop i xs ≡ []
drop_past [] zero le = refl
drop_past [] (suc i) le = refl
drop_past (x ∷ xs) zero le = absurd (omega arith)
drop_past (x ∷ xs) (suc i) le = drop_past xs i (omega arith)

nothing_after : (xs : List (Option (ℕ × ℕ))) → xs ++ [] ≡ xs
nothing_after [] = refl
nothing_after (x ∷ xs) = ap (λ (ys : List (Option (ℕ × ℕ))). x ∷ ys) (nothing_after xs)

pub numbered_all : (table fields : List (Option (ℕ × ℕ))) (i : ℕ) → length table ≤ i → fields ++ map numbered_pair (drop i table) ≡ map numbered_pair table → fields ≡ map numbered_pair table
numbered_all table fields i end so = sym (nothing_after fields) ∙ (ap (λ (xs : List (Option (ℕ × ℕ))). fields ++ map numbered_pair xs) (sym (drop_past table i end)) ∙ so)

-- ---- handles ----

-- a struct without a group field is no group
pub no_field_no_group : (set : Schemas) → IsAccepted set → (g : ℕ) → None ≡ group_field_of set g → length set.brands ≤ 2 ^ 32 → IsFalse (node_of set g).is_group
no_field_no_group set accepted g none few = ⊎_elim
    (λ inside. false_from_ne_true (node_of set g).is_group (λ group. no_group_field set accepted g inside few (sym none) group))
    (λ past. ap (λ (n : Node). n.is_group) (node_past set g past))
    (cases_lt g (length set.brands))

-- the field that is found is the group's
pub is_group_field : (g s : StructSchema) (f : Field) (b i : ℕ) → IsAccepted (set_of g) → Some (b, i) ≡ group_field_of (set_of g) (number_of g) → set_of s ≡ set_of g → number_of s ≡ b → (b < length (set_of g).brands → IsStruct s) → IsFieldOf s i f → IsGroupFieldOf g f
is_group_field g s f b i accepted found set number stands is = record {
  stands = subst IsStruct (sym is.schema) (stands parent.brand);
  set = ap set_of is.schema ∙ set;
  names = subst (λ (z : StructSchema). Names z (index_of f)) (sym is.schema) (subst (Names s) (sym is.index) here);
  group = group_of_field (set_of g) accepted b i (number_of g) parent.brand parent.field parent.names;
}
  where
    Names : StructSchema → ℕ → Type 0
    Names z k = IsGroupOf (struct_field z k).field.kind (struct_field z k).type (number_of g)

    parent : IsParent (set_of g) (number_of g) b i
    parent = target_parent (set_of g) (number_of g) b i (group_field_found (set_of g) (number_of g) b i (sym found)).1

    at_brand : (z : Schemas) (c : ℕ) → Type 0
    at_brand z c = IsGroupOf (field_at z c i).field.kind (field_at z c i).type (number_of g)

    here : Names s i
    here = subst (λ (z : Schemas). at_brand z (number_of s)) (sym set) (subst (at_brand (set_of g)) (sym number) parent.names)

-- and a group's field is found by the group
pub goes_back : (f : Field) → IsAccepted (set_of (field_schema f)) → (n m : ℕ) → Some n ≡ kind_target (typed_of f).field.kind (typed_of f).type → m ≡ n → number_of (field_schema f) < 2 ^ 32 → group_field_of (set_of (field_schema f)) m ≡ Some (place_of_field f)
goes_back f accepted n m names same small = ap (group_field_of (set_of (field_schema f))) same
    ∙ group_field_is (set_of (field_schema f)) accepted n (number_of (field_schema f)) (index_of f)
    (record { brand = brand_of_field (set_of (field_schema f)) (number_of (field_schema f)) (index_of f) f.inside; field = f.inside; names = group_of (typed_of f).field.kind (typed_of f).type n (sym names) }) small
