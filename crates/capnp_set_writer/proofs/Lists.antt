-- Lists of structs that were written, as they are read: each part of its struct.
use Rattle.std.proofs.Common.{◌≡◌, ℕ, zero, suc, refl, ap, ◌∙◌, List, [], ◌∷◌, true, false, ◌==◌, cond, arith, Ok, Err}
use Rattle.std.specs.Prelude.{All, map, ⊤}
use Rattle.capnp_device.specs.declared.error.ErrorKind.TheVariants.{TooDeep}
use Rattle.capnp_wire.specs.Tree as tree
use Rattle.capnp_wire.specs.Tree.{StructTree, Tree, struct_count, tree_count}
use Rattle.capnp_wire.specs.Place.{struct_tree}
use Rattle.capnp_schema.specs.Meta.{meta, meta_structs, meta_struct}
use Rattle.capnp_schema.specs.Schema.{VoidValue, Value as SchemaValue}
use Rattle.capnp_schema.specs.Types.{ListType}
use Rattle.capnp_records.specs.Default.{read_of}
use Rattle.capnp_records.specs.Reading.{Body, bodies_of, elements_value, entered_value, nth_body, nth_reading, of_read, pointers_below, record_of, struct_record, structs_below, value_of, values_of}
use Rattle.capnp_records.specs.Record as value
use Rattle.capnp_records.specs.Record.{Levels, MoreValues, NoValues, Record, Value, Values, levels_asked, one_less, values_from}
use Rattle.capnp_sets.specs.Causes.{SetRead, ◌<*>◌}
use Rattle.capnp_sets.specs.Parts.{all_of, list, struct, structs, unless_fault}
use Rattle.capnp_set_writer.specs.Trees.{struct_list_tree, structs_of, trees_of}
use Rattle.capnp_set_writer.proofs.Numbers.{applied}

-- ---- all of a row ----

pub all_head : {A : Type 0} (P : A → Type 0) (x : A) (xs : List A) → All P (x ∷ xs) → P x
all_head P x xs k = k 0 x (omega arith)

pub all_tail : {A : Type 0} (P : A → Type 0) (x : A) (xs : List A) → All P (x ∷ xs) → All P xs
all_tail P x xs k = λ i d a. k (suc i) d (omega (arith, a))

-- ---- levels ----

-- a level is left
abbrev pub HasLevel : Levels → Type 0
HasLevel l = (levels_asked l == 0) ≡ false

-- and so many are, one behind another
abbrev pub HasLevels : ℕ → Levels → Type 0
HasLevels zero l = ⊤
HasLevels (suc count) l = HasLevel l × HasLevels count (one_less l)

-- a struct behind a pointer
pub struct_entered : (l : Levels) (s : StructTree) (b : ℕ) → HasLevel l → value_of meta (struct_tree s) l (meta_struct b) ≡ value.Struct (struct_record meta (one_less l) s b)
struct_entered l s b e = ap (λ q. of_read (λ (t : StructTree). value.Struct (record_of meta (one_less l) t.bytes (values_of meta s.pointers) b)) (cond q (Err TooDeep) (Ok s))) e

-- ---- rows ----

shift : (g : ℕ → Value) (first count : ℕ) → values_from g (suc first) count ≡ values_from (λ i. g (suc i)) first count
shift g first zero = refl
shift g first (suc count) = ap (MoreValues (g (suc first))) (shift g (suc first) count)

none_left : {A : Type 0} (h : Value → SetRead A) → all_of h NoValues ≡ Ok []
unfolding all_of
none_left h = refl

one_more : {A : Type 0} (h : Value → SetRead A) (v : Value) (vs : Values) → all_of h (MoreValues v vs) ≡ Ok (λ (a : A) (rest : List A). a ∷ rest) <*> h v <*> all_of h vs
unfolding all_of
one_more h v vs = refl

row : {A : Type 0} (h : Value → SetRead A) (v : Value) (vs : Values) (x : A) (xs : List A) → h v ≡ Ok x → all_of h vs ≡ Ok xs → all_of h (MoreValues v vs) ≡ Ok (x ∷ xs)
row h v vs x xs e f = one_more h v vs ∙ applied (applied refl e) f

-- ---- structs ----

-- an element, with the levels that its list has left
abbrev pub element_at : Levels → ℕ → Body → Value
element_at l b body = entered_value l (value.Struct (record_of meta (one_less l) body.bytes body.pointers b))

abbrev pub body_of : StructTree → Body
body_of s = record { bytes = s.bytes; pointers = values_of meta s.pointers }

pub element_entered : (l : Levels) (b : ℕ) (s : StructTree) → HasLevel l → element_at l b (body_of s) ≡ value.Struct (struct_record meta (one_less l) s b)
element_entered l b s e = ap (λ q. elim q as (λ _. Value) [ true ↦ value.Fault TooDeep | false ↦ value.Struct (struct_record meta (one_less l) s b) ]) e

-- the values of a list of structs, from one on
abbrev pub elements_from : Levels → ℕ → List StructTree → ℕ → Values
elements_from l b ss first = values_from (λ i. element_at l b (nth_body (bodies_of meta (structs_of ss)) i)) first (struct_count (structs_of ss))

-- the values of the rest of a list
pub rest_shifted : (l : Levels) (b : ℕ) (s : StructTree) (ss : List StructTree) →
    values_from (λ i. element_at l b (nth_body (bodies_of meta (structs_of (s ∷ ss))) i)) 1 (struct_count (structs_of ss)) ≡ elements_from l b ss 0
rest_shifted l b s ss = shift (λ i. element_at l b (nth_body (bodies_of meta (structs_of (s ∷ ss))) i)) 0 (struct_count (structs_of ss))

pub list_entered : (l : Levels) (b d p : ℕ) (ss : List StructTree) → HasLevel l → value_of meta (struct_list_tree d p ss) l (meta_structs b) ≡ value.Elements (elements_from (one_less l) b ss 0)
list_entered l b d p ss e =
    ap (λ q. of_read (λ _. elements_value meta (struct_list_tree d p ss) (structs_below meta (bodies_of meta (structs_of ss))) (one_less l) (meta_struct b)) (cond q (Err TooDeep) (Ok (struct_list_tree d p ss)))) e

module _ {A : Type 0} (b : ℕ) (f : Record → SetRead A) (tree_of : A → StructTree) (Kept : A → Type 0) (l : Levels) (e : HasLevel l) (each : (a : A) → Kept a → f (struct_record meta (one_less l) (tree_of a) b) ≡ Ok a) where
  abbrev h : Value → SetRead A
  h v = unless_fault (struct f) (read_of meta VoidValue (meta_struct b) v)

  here : (a : A) → Kept a → h (element_at l b (body_of (tree_of a))) ≡ Ok a
  here a k = ap h (element_entered l b (tree_of a) e) ∙ each a k

  pub rows_read : (xs : List A) → All Kept xs → all_of h (elements_from l b (map tree_of xs) 0) ≡ Ok xs
  rows_read [] k = none_left h
  rows_read (x ∷ xs) k =
      row h _ _ x xs (here x (all_head Kept x xs k)) (ap (all_of h) (rest_shifted l b (tree_of x) (map tree_of xs)) ∙ rows_read xs (all_tail Kept x xs k))

-- the same of what is read in the place of a null, where there is none
pub structs_there : {A : Type 0} (b d p : ℕ) (f : Record → SetRead A) (tree_of : A → StructTree) (Kept : A → Type 0) (l : Levels) → HasLevel l → HasLevel (one_less l) →
    ((a : A) → Kept a → f (struct_record meta (one_less (one_less l)) (tree_of a) b) ≡ Ok a) → (xs : List A) → All Kept xs → (default : SchemaValue) →
    structs b f (read_of meta default (meta_structs b) (value_of meta (struct_list_tree d p (map tree_of xs)) l (meta_structs b))) ≡ Ok xs
structs_there b d p f tree_of Kept l e e' each xs k default =
    ap (λ v. structs b f (read_of meta default (meta_structs b) v)) (list_entered l b d p (map tree_of xs) e) ∙ rows_read b f tree_of Kept (one_less l) e' each xs k

-- ---- lists of such lists ----

module _ {A : Type 0} (b d p : ℕ) (f : Record → SetRead A) (tree_of : A → StructTree) (Kept : A → Type 0) (l : Levels) (e : HasLevel l) (e' : HasLevel (one_less l)) (each : (a : A) → Kept a → f (struct_record meta (one_less (one_less l)) (tree_of a) b) ≡ Ok a) where
  abbrev row_tree : List A → Tree
  row_tree xs = struct_list_tree d p (map tree_of xs)

  abbrev row_read : Value → SetRead (List A)
  row_read v = unless_fault (structs b f) (read_of meta VoidValue (meta_structs b) v)

  abbrev rows_from : List (List A) → ℕ → Values
  rows_from rows first = values_from (λ i. nth_reading (values_of meta (trees_of (map row_tree rows))) i l (meta_structs b)) first (tree_count (trees_of (map row_tree rows)))

  row_there : (xs : List A) → All Kept xs → row_read (value_of meta (row_tree xs) l (meta_structs b)) ≡ Ok xs
  row_there xs k = ap row_read (list_entered l b d p (map tree_of xs) e) ∙ rows_read b f tree_of Kept (one_less l) e' each xs k

  pub all_rows : (rows : List (List A)) → All (All Kept) rows → all_of row_read (rows_from rows 0) ≡ Ok rows
  all_rows [] k = none_left row_read
  all_rows (r ∷ rows) k =
      row row_read _ _ r rows (row_there r (all_head (All Kept) r rows k))
      (ap (all_of row_read) (shift (λ i. nth_reading (values_of meta (trees_of (map row_tree (r ∷ rows)))) i l (meta_structs b)) 0 (tree_count (trees_of (map row_tree rows)))) ∙ all_rows rows (all_tail (All Kept) r rows k))

rows_entered : (l : Levels) (b : ℕ) (ts : List Tree) → HasLevel l →
    value_of meta (tree.Pointers (trees_of ts)) l (ListType (meta_structs b))
    ≡ value.Elements (values_from (λ i. nth_reading (values_of meta (trees_of ts)) i (one_less l) (meta_structs b)) 0 (tree_count (trees_of ts)))
rows_entered l b ts e =
    ap (λ q. of_read (λ _. elements_value meta (tree.Pointers (trees_of ts)) (pointers_below (values_of meta (trees_of ts))) (one_less l) (meta_structs b)) (cond q (Err TooDeep) (Ok (tree.Pointers (trees_of ts))))) e

pub lists_there : {A : Type 0} (b d p : ℕ) (f : Record → SetRead A) (tree_of : A → StructTree) (Kept : A → Type 0) (l : Levels) → HasLevel l → HasLevel (one_less l) → HasLevel (one_less (one_less l)) →
    ((a : A) → Kept a → f (struct_record meta (one_less (one_less (one_less l))) (tree_of a) b) ≡ Ok a) → (rows : List (List A)) → All (All Kept) rows → (default : SchemaValue) →
    list (meta_structs b) (structs b f) (read_of meta default (ListType (meta_structs b)) (value_of meta (tree.Pointers (trees_of (map (λ (xs : List A). struct_list_tree d p (map tree_of xs)) rows))) l (ListType (meta_structs b)))) ≡ Ok rows
lists_there b d p f tree_of Kept l e e' e'' each rows k default =
    ap (λ v. list (meta_structs b) (structs b f) (read_of meta default (ListType (meta_structs b)) v)) (rows_entered l b _ e)
    ∙ all_rows b d p f tree_of Kept (one_less l) e' e'' each rows k
