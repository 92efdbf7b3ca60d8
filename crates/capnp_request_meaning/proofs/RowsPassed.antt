-- Worked rows of bounds that are passed, of names that are left out, and of brackets.
use Rattle.std.proofs.Common.{ℕ, zero, suc, ◌<◌, ◌≡◌, ◌∙◌, ap, arith, codes, inl, inr, refl, sym, true, false, List, [], ◌∷◌, ◌++◌, length, slice_get, Option, Some, Ok, Err}
use Rattle.capnp_device.specs.declared.error.ErrorKind.TheVariants.{TooManyTypes}
use Rattle.capnp_schema.specs.Types.{AnyPointerType, EnumType, ListType, StructType, TextType, UIntType}
use Rattle.capnp_request.specs.Names.{dotted_of, part_bindings}
use Rattle.capnp_request.specs.Order.{conversion_of}
use Rattle.capnp_request.specs.Scopes.{node_named}
use Rattle.capnp_request.specs.Terms.{OtherNode, RequestTerm, Said, SchemaNode, StructNode}
use Rattle.capnp_request.specs.Work.{Bound, MarkedType, float_of, plain}
use Rattle.capnp_request_meaning.specs.Meaning.{AreEnumsNamed, IsEnumNamed, Numbers}
use Rattle.capnp_request_meaning.specs.Passed.{IsNameLong, IsPassed, bounds}
use Rattle.capnp_request_meaning.specs.Plain.{AreNodesPlain}
use Rattle.capnp_request_meaning.specs.Sound.{IsRequestSound}
use Rattle.capnp_request_meaning.specs.Written.{AreAlike, AreTypesAlike, HaveOwnParts, IsBare}
use Rattle.capnp_request_meaning.proofs.BracketsRead.{Ends, EndsAtComma, Stays, read_on}
use Rattle.capnp_request_meaning.proofs.ListsFound.{same_some}
use Rattle.capnp_request_meaning.proofs.OrderPassed.{bounds_passed}
use Rattle.capnp_request_meaning.proofs.Rows.{IsBoxName, box_numbers, node, struct_part}
use Rattle.capnp_request_meaning.proofs.RowsSound.{all_sound}
use Rattle.capnp_request_meaning.proofs.TermsPlain.{named_plain}

-- ---- a name that is too long by one byte ----

abbrev many : ℕ → List ℕ
many zero = []
many (suc n) = 65 ∷ many n

abbrev named : ℕ → RequestTerm
named count = record { nodes = node 1 (codes "x.capnp") 0 (2 ∷ []) OtherNode ∷ node 2 (codes "x:" ++ many count) 1 [] (StructNode (struct_part false 0 [])) ∷ []; files = Ok (1 ∷ []) }

long_refused : conversion_of (named 1025) false ≡ Err TooManyTypes
long_refused = refl

long_sound : IsRequestSound (bounds false) (named 1025)
long_sound = record {
  files = tt;
  nodes = λ id n e. all_sound (bounds false) (named 1025).nodes (named 1025).nodes id n (
    record { display_name = λ e. absurd (cc); nested = tt; parameters = tt; annotations = tt; kind = tt },
    (record { display_name = λ e. absurd (cc); nested = tt; parameters = tt; annotations = tt; kind = tt }, tt),
  ) e;
}

-- so it passes a bound
pub row_passed : IsPassed (named 1025) false
row_passed = bounds_passed (named 1025) false long_sound long_refused

-- a name of one byte is not long
row_short : (k : Numbers) (h : IsNameLong k) → h.name ≡ 65 ∷ [] → ⊥
row_short k h e = let one : length h.name ≡ 1 = ap (λ xs. length xs) e in let long : 1024 < length h.name = h.long in omega (arith, one, long)

-- ---- an enum that is left out ----

box_plain : AreNodesPlain box_numbers.nodes
box_plain = named_plain box_numbers.nodes ((tt, tt), (((tt, (tt, tt)), tt), tt))

first_named : (id : ℕ) (name : List ℕ) → id ≡ 5 → IsEnumNamed box_numbers.nodes id name → name ≡ codes "E"
first_named id name five is =
    let node_five : node_named box_numbers.nodes 5 ≡ Some is.node = ap (λ i. node_named box_numbers.nodes i) (sym five) ∙ is.first in
    let shown : Ok (codes "x.capnp:E") ≡ Ok is.display = ap (λ (n : SchemaNode). n.display_name) (same_some node_five) ∙ is.said in
    is.is ∙ ap dotted_of (sym (shown_or shown))
  where
    shown_or : {xs ys : List ℕ} → ◌≡◌ {A = Said (List ℕ)} (Ok xs) (Ok ys) → xs ≡ ys
    shown_or e = cc

abbrev first_of : List ℕ → ℕ
first_of [] = 0
first_of (x ∷ xs) = x

enum_first : (ids more : List ℕ) (names : List (List ℕ)) → 5 ∷ [] ≡ ids ++ more → AreEnumsNamed box_numbers.nodes ids names → 0 < length names → slice_get names 0 ≡ Some (codes "E")
enum_first ids more [] are named less = absurd (omega (arith, less))
enum_first [] more (name ∷ names) are named less = absurd named
enum_first (id ∷ ids) more (name ∷ names) are named less = let same : 5 ≡ id = ap first_of are in ap (λ x. Some x) (first_named id name (sym same) named.0)

-- the enum of a bound list has its name there
row_named : (name : List ℕ) (h : IsBoxName name) → slice_get h.enums 0 ≡ Some (codes "E")
row_named name h = enum_first h.first_enums.ids h.first_enums.more h.enums h.first_enums.are h.first_enums.named (h.have_names box_plain).0.0

-- ---- brackets ----

row_outside : read_on Stays 0 (codes "Box(List(E)).In(B, C)") ≡ codes "Box.In"
row_outside = refl

row_behind : read_on Ends 0 (codes "(A(B), C).In(D)") ≡ codes ".In(D)"
row_behind = refl

row_comma : read_on EndsAtComma 0 (codes "List(A, B), C") ≡ codes ", C"
row_comma = refl

row_bare : IsBare (codes "x:A.b")
row_bare = (refl, refl, (refl, refl, (refl, refl, (refl, refl, (refl, refl, tt)))))

row_not_bare : IsBare (codes "A(B)") → ⊥
row_not_bare h = let e : true ≡ false = h.2.0 in cc

-- ---- bindings that are written alike ----

abbrev bound_one : MarkedType → List Bound
bound_one t = record { scope = 4; distance = 0; parameters = 1; types = t ∷ [] } ∷ []

abbrev written_one : MarkedType → List ℕ
written_one t = part_bindings (codes "Text" ∷ []) (codes "Text" ∷ []) (bound_one t) 0 0

-- a text, and a struct and an enum of that name
row_struct_alike : written_one (plain TextType) ≡ written_one (plain (StructType 0 0))
row_struct_alike = refl

row_enum_alike : written_one (plain TextType) ≡ written_one (plain (EnumType 0))
row_enum_alike = refl

-- a list of it isn't, nor is a float like the integer that stands for it
row_list_apart : written_one (plain TextType) ≡ written_one (plain (ListType TextType)) → ⊥
row_list_apart e = let second : ◌≡◌ {A = Option ℕ} (Some 84) (Some 76) = ap (λ (xs : List ℕ). slice_get xs 1) e in let same : 84 ≡ 76 = same_some second in absurd (omega (arith, same))

row_float_apart : written_one (float_of 4) ≡ written_one (plain (UIntType 4)) → ⊥
row_float_apart e = let second : ◌≡◌ {A = Option ℕ} (Some 70) (Some 85) = ap (λ (xs : List ℕ). slice_get xs 1) e in let same : 70 ≡ 85 = same_some second in absurd (omega (arith, same))

-- ---- types that are alike ----

row_alike_named : AreAlike (codes "Text" ∷ []) [] [] [] false false (StructType 0 0) TextType
row_alike_named = inl (refl, refl)

row_alike_lists : AreAlike [] [] [] [] false false (ListType (UIntType 2)) (ListType (UIntType 2))
row_alike_lists = inr (refl, refl)

not_so : false ≡ true → ⊥
not_so e = cc

-- a float isn't like an integer, nor a list like its elements
row_float_unlike : AreAlike [] [] [] [] true false (UIntType 4) (UIntType 4) → ⊥
row_float_unlike (inl h) = not_so h.0
row_float_unlike (inr k) = let same : 16 ≡ 8 = k.1 in absurd (omega (arith, same))

row_list_unlike : AreAlike [] [] [] [] false false (ListType TextType) TextType → ⊥
row_list_unlike (inl h) = not_so h.0
row_list_unlike (inr k) = let same : 15 ≡ 10 = k.1 in absurd (omega (arith, same))

-- two structs of two names are not alike, though both are structs
row_structs_unlike : AreAlike (codes "A" ∷ codes "B" ∷ []) [] (codes "A" ∷ codes "B" ∷ []) [] false false (StructType 0 0) (StructType 1 1) → ⊥
row_structs_unlike (inl h) = let first : ◌≡◌ {A = Option ℕ} (Some 65) (Some 66) = ap (λ (xs : List ℕ). slice_get xs 0) h.1 in let same : 65 ≡ 66 = same_some first in absurd (omega (arith, same))
row_structs_unlike (inr k) = not_so (sym k.0)

-- a type that is bound, and an untyped pointer that isn't
row_types_unlike : AreTypesAlike [] [] [] [] (plain TextType ∷ []) [] 1 → ⊥
row_types_unlike h = go h.0
  where
    go : AreAlike [] [] [] [] false false TextType AnyPointerType → ⊥
    go (inl k) = not_so k.0
    go (inr k) = let same : 10 ≡ 13 = k.1 in absurd (omega (arith, same))

-- ---- parts for themselves ----

abbrev scope_at : ℕ → Bound
scope_at distance = record { scope = 4; distance = distance; parameters = 1; types = [] }

row_own_parts : HaveOwnParts 1 (scope_at 0 ∷ scope_at 1 ∷ [])
row_own_parts = ((refl, tt), (tt, tt))

-- where a name has one part, both scopes have it
row_one_part : HaveOwnParts 0 (scope_at 0 ∷ scope_at 1 ∷ []) → ⊥
row_one_part h = not_so (sym h.0.0)
