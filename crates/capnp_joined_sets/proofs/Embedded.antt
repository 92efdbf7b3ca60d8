-- A set whose entries stand in another, so many numbers further on.
use Rattle.std.proofs.Common.{ℕ, zero, suc, ◌+◌, ◌-◌, ◌<◌, ◌≡◌, refl, List, [], ◌∷◌, ◌++◌, length, map, slice_get, arith, ap, ap₂, sym, subst, ◌∙◌, add-zero, ⊎_elim}
use Rattle.std.specs.Option.{unwrap_or}
use Rattle.std.proofs.lemmas.Bool.{cases_lt}
use Rattle.std.proofs.lemmas.List.{length-append, length-map}
use Rattle.capnp_schema.specs.Types.{SchemaType}
use Rattle.capnp_schema.specs.Schema.{Schemas, Node, Brand, Enum, Field, TypedField, no_node, no_brand, no_enum, no_field, brand_at, enum_at, node_at, node_of, fields_of, field_at, typed_fields}
use Rattle.capnp_schema.specs.Accepted.{IsAccepted}
use Rattle.capnp_joined_sets.specs.declared.moves.Moves.{Moves}
use Rattle.capnp_joined_sets.specs.declared.moves.TheConstants.{NO_MOVES}
use Rattle.capnp_joined_sets.specs.Joined.{ends_of, joined, moved_brand, moved_enum, moved_field, moved_node, moved_type}
use Rattle.capnp_joined_sets.proofs.Kept.{brand_kept, enum_kept, node_kept}

-- ---- two lists, one behind the other ----

get_first : {X : Type 0} (xs ys : List X) (i : ℕ) → i < length xs → slice_get (xs ++ ys) i ≡ slice_get xs i
get_first [] ys i below = absurd (omega arith)
get_first (x ∷ xs) ys zero below = refl
get_first (x ∷ xs) ys (suc i) below = get_first xs ys i (omega arith)

get_second : {X : Type 0} (xs ys : List X) (i : ℕ) → slice_get (xs ++ ys) (i + length xs) ≡ slice_get ys i
get_second [] ys i = ap (slice_get ys) (add-zero i)
get_second (x ∷ xs) ys i =
    let e : i + suc (length xs) ≡ suc (i + length xs) = omega arith in
    ap (slice_get (x ∷ (xs ++ ys))) e ∙ get_second xs ys i

-- an entry that is there doesn't depend on what stands past the end
at_same : {X : Type 0} (xs : List X) (i : ℕ) (none other : X) → i < length xs → unwrap_or (slice_get xs i) none ≡ unwrap_or (slice_get xs i) other
at_same [] i none other below = absurd (omega arith)
at_same (x ∷ xs) zero none other below = refl
at_same (x ∷ xs) (suc i) none other below = at_same xs i none other (omega arith)

at_mapped : {X Y : Type 0} (f : X → Y) (xs : List X) (i : ℕ) (none : Y) (other : X) → i < length xs → unwrap_or (slice_get (map f xs) i) none ≡ f (unwrap_or (slice_get xs i) other)
at_mapped f [] i none other below = absurd (omega arith)
at_mapped f (x ∷ xs) zero none other below = refl
at_mapped f (x ∷ xs) (suc i) none other below = at_mapped f xs i none other (omega arith)

pub at_mapped_any : {X Y : Type 0} (f : X → Y) (xs : List X) (i : ℕ) (none : X) → unwrap_or (slice_get (map f xs) i) (f none) ≡ f (unwrap_or (slice_get xs i) none)
at_mapped_any f [] i none = refl
at_mapped_any f (x ∷ xs) zero none = refl
at_mapped_any f (x ∷ xs) (suc i) none = at_mapped_any f xs i none

-- ---- embedded sets ----

pub record IsIn (by : Moves) (s t : Schemas) : Type 0 where
  pub nodes : (n : ℕ) → n < length s.nodes → (n + by.nodes < length t.nodes) × (node_at t (n + by.nodes) ≡ moved_node by (node_at s n))
  pub brands : (b : ℕ) → b < length s.brands → (b + by.brands < length t.brands) × (brand_at t (b + by.brands) ≡ moved_brand by (brand_at s b))
  pub enums : (e : ℕ) → e < length s.enums → (e + by.enums < length t.enums) × (enum_at t (e + by.enums) ≡ moved_enum by (enum_at s e))

pub older_in : (older newer : Schemas) → IsIn NO_MOVES older (joined older newer)
older_in older newer = record {
  nodes = λ n below. (
    omega (arith, length-append older.nodes (joined_nodes)),
    ap (λ i. unwrap_or (slice_get (older.nodes ++ joined_nodes) i) no_node) (add-zero n)
        ∙ ap (λ o. unwrap_or o no_node) (get_first older.nodes joined_nodes n below)
        ∙ sym (node_kept (node_at older n)),
  );
  brands = λ b below. (
    omega (arith, length-append older.brands (joined_brands)),
    ap (λ i. unwrap_or (slice_get (older.brands ++ joined_brands) i) none) (add-zero b)
        ∙ ap (λ o. unwrap_or o none) (get_first older.brands joined_brands b below)
        ∙ at_same older.brands b none (no_brand older) below
        ∙ sym (brand_kept (brand_at older b)),
  );
  enums = λ e below. (
    omega (arith, length-append older.enums joined_enums),
    ap (λ i. unwrap_or (slice_get (older.enums ++ joined_enums) i) no_enum) (add-zero e)
        ∙ ap (λ o. unwrap_or o no_enum) (get_first older.enums joined_enums e below)
        ∙ sym (enum_kept (enum_at older e)),
  );
}
  where
    joined_nodes : List Node
    joined_nodes = map (moved_node (ends_of older)) newer.nodes

    joined_enums : List Enum
    joined_enums = map (moved_enum (ends_of older)) newer.enums

    joined_brands : List Brand
    joined_brands = map (moved_brand (ends_of older)) newer.brands

    none : Brand
    none = no_brand (joined older newer)

pub newer_in : (older newer : Schemas) → IsIn (ends_of older) newer (joined older newer)
newer_in older newer = record {
  nodes = λ n below. (
    omega (arith, length-append older.nodes (map (moved_node (ends_of older)) newer.nodes), length-map newer.nodes (moved_node (ends_of older))),
    ap (λ o. unwrap_or o no_node) (get_second older.nodes (map (moved_node (ends_of older)) newer.nodes) n)
        ∙ at_mapped (moved_node (ends_of older)) newer.nodes n no_node no_node below,
  );
  brands = λ b below. (
    omega (arith, length-append older.brands (map (moved_brand (ends_of older)) newer.brands), length-map newer.brands (moved_brand (ends_of older))),
    ap (λ o. unwrap_or o (no_brand (joined older newer))) (get_second older.brands (map (moved_brand (ends_of older)) newer.brands) b)
        ∙ at_mapped (moved_brand (ends_of older)) newer.brands b (no_brand (joined older newer)) (no_brand newer) below,
  );
  enums = λ e below. (
    omega (arith, length-append older.enums (map (moved_enum (ends_of older)) newer.enums), length-map newer.enums (moved_enum (ends_of older))),
    ap (λ o. unwrap_or o no_enum) (get_second older.enums (map (moved_enum (ends_of older)) newer.enums) e)
        ∙ at_mapped (moved_enum (ends_of older)) newer.enums e no_enum no_enum below,
  );
}

-- each brand of joined sets is one of either
pub either_brand : (older newer : Schemas) (P : ℕ → Type 0) → ((b : ℕ) → b < length older.brands → P (b + NO_MOVES.brands)) → ((b : ℕ) → b < length newer.brands → P (b + length older.brands)) →
    (b : ℕ) → b < length (joined older newer).brands → P b
either_brand older newer P first second b below = ⊎_elim
    (λ lt. subst P (add-zero b) (first b lt))
    (λ le.
    let e : (b - length older.brands) + length older.brands ≡ b = omega arith in
    subst P e (second (b - length older.brands) (omega (arith, length-append older.brands (map (moved_brand (ends_of older)) newer.brands), length-map newer.brands (moved_brand (ends_of older))))))
    (cases_lt b (length older.brands))

-- ---- brands of an embedded set ----

abbrev pub moved_typed : Moves → TypedField → TypedField
moved_typed by f = record { field = moved_field by f.field; type = moved_type by f.type }

typed_moved : (by : Moves) (fs : List Field) (ts : List SchemaType) → typed_fields (map (moved_field by) fs) (map (moved_type by) ts) ≡ map (moved_typed by) (typed_fields fs ts)
typed_moved by [] ts = refl
typed_moved by (f ∷ fs) [] = refl
typed_moved by (f ∷ fs) (t ∷ ts) = ap (λ l. moved_typed by (record { field = f; type = t }) ∷ l) (typed_moved by fs ts)

module _ (by : Moves) (s t : Schemas) (accepted : IsAccepted s) (within : IsIn by s t) (b : ℕ) (below : b < length s.brands) where
  pub brand_in : brand_at t (b + by.brands) ≡ moved_brand by (brand_at s b)
  brand_in = (within.brands b below).1

  pub node_in : node_of t (b + by.brands) ≡ moved_node by (node_of s b)
  node_in = ap (λ (x : Brand). node_at t x.node) brand_in ∙ (within.nodes (brand_at s b).node (accepted.rule2.brands b below).node).1

  pub fields_in : fields_of t (b + by.brands) ≡ map (moved_typed by) (fields_of s b)
  fields_in =
      ap₂ (λ (n : Node) (x : Brand). typed_fields n.fields x.field_types) node_in brand_in
      ∙ typed_moved by (node_of s b).fields (brand_at s b).field_types

  pub count_in : length (fields_of t (b + by.brands)) ≡ length (fields_of s b)
  count_in = ap (λ (l : List TypedField). length l) fields_in ∙ length-map (fields_of s b) (moved_typed by)

  pub field_in : (i : ℕ) → field_at t (b + by.brands) i ≡ moved_typed by (field_at s b i)
  field_in i = ap (λ (l : List TypedField). unwrap_or (slice_get l i) no_field) fields_in ∙ at_mapped_any (moved_typed by) (fields_of s b) i no_field
