-- What holds of every reading of a tree, once it holds of a null and of each tree over what stands below it.
use Rattle.std.specs.Prelude.{ℕ, zero, suc, ⊤, List, [], ◌∷◌}
use Rattle.capnp_wire.specs.Tree as tree
use Rattle.capnp_wire.specs.Tree.{Structs, Tree, Trees}
use Rattle.capnp_schema.specs.Schema.{Schemas}
use Rattle.capnp_records.specs.Reading.{Below, Body, Reading, bodies_of, bytes_below, first_pointer, nth_body, nth_reading, null, only_reading, pointers_below, struct_below, structs_below, tree_value, value_of, values_of}

module _ (P : Reading → Type 0) where
  abbrev pub AllReadings : List Reading → Type 0
  AllReadings [] = ⊤
  AllReadings (r ∷ rs) = P r × AllReadings rs

  abbrev pub AllBodies : List Body → Type 0
  AllBodies [] = ⊤
  AllBodies (b ∷ bs) = AllReadings b.pointers × AllBodies bs

  -- what stands below a tree
  pub record AllBelow (below : Below) : Type 0 where
    pub pointers : AllReadings below.pointers
    pub element_pointers : (i : ℕ) → P (below.element_pointer i)
    pub element_bodies : (i : ℕ) → AllReadings (below.element_body i).pointers

  module _ (of_null : P null) where
    pub nth_reading_is : (rs : List Reading) → AllReadings rs → (i : ℕ) → P (nth_reading rs i)
    nth_reading_is [] all i = of_null
    nth_reading_is (r ∷ rs) all zero = all.0
    nth_reading_is (r ∷ rs) all (suc i) = nth_reading_is rs all.1 i

    -- ---- what stands below ----

    pub struct_below_are : (rs : List Reading) → AllReadings rs → AllBelow (struct_below rs)
    struct_below_are rs all = record { pointers = all; element_pointers = λ i. of_null; element_bodies = λ i. tt }

    pub bytes_below_are : (x : Tree) → AllBelow (bytes_below x)
    bytes_below_are x = record { pointers = tt; element_pointers = λ i. of_null; element_bodies = λ i. tt }

    only_readings : (rs : List Reading) → AllReadings rs → (i : ℕ) → AllReadings (only_reading rs i)
    only_readings [] all i = tt
    only_readings (r ∷ rs) all zero = (all.0, tt)
    only_readings (r ∷ rs) all (suc i) = only_readings rs all.1 i

    pub pointers_below_are : (rs : List Reading) → AllReadings rs → AllBelow (pointers_below rs)
    pointers_below_are rs all = record { pointers = tt; element_pointers = nth_reading_is rs all; element_bodies = only_readings rs all }

    pub nth_body_reads : (bs : List Body) → AllBodies bs → (i : ℕ) → AllReadings (nth_body bs i).pointers
    nth_body_reads [] all i = tt
    nth_body_reads (b ∷ bs) all zero = all.0
    nth_body_reads (b ∷ bs) all (suc i) = nth_body_reads bs all.1 i

    module _ (set : Schemas) (of_first : (body : Body) → AllReadings body.pointers → P (first_pointer set body)) (of_tree : (x : Tree) (below : Below) → AllBelow below → P (tree_value set x below)) where
      structs_below_are : (bs : List Body) → AllBodies bs → AllBelow (structs_below set bs)
      structs_below_are bs all = record { pointers = tt; element_pointers = λ i. of_first (nth_body bs i) (nth_body_reads bs all i); element_bodies = nth_body_reads bs all }

      -- ---- trees ----

      mutual
        pub each_reading : (x : Tree) → P (value_of set x)
        each_reading tree.Null = of_null
        each_reading (tree.Struct bytes ps) = of_tree (tree.Struct bytes ps) (struct_below (values_of set ps)) (struct_below_are (values_of set ps) (each_pointer ps))
        each_reading (tree.Voids n) = of_tree (tree.Voids n) (bytes_below (tree.Voids n)) (bytes_below_are (tree.Voids n))
        each_reading (tree.Bits bs) = of_tree (tree.Bits bs) (bytes_below (tree.Bits bs)) (bytes_below_are (tree.Bits bs))
        each_reading (tree.Numbers w bytes) = of_tree (tree.Numbers w bytes) (bytes_below (tree.Numbers w bytes)) (bytes_below_are (tree.Numbers w bytes))
        each_reading (tree.Pointers ps) = of_tree (tree.Pointers ps) (pointers_below (values_of set ps)) (pointers_below_are (values_of set ps) (each_pointer ps))
        each_reading (tree.Composite d p es) = of_tree (tree.Composite d p es) (structs_below set (bodies_of set es)) (structs_below_are (bodies_of set es) (each_body es))
        each_reading (tree.FaultLeaf k) = of_tree (tree.FaultLeaf k) (struct_below []) (struct_below_are [] tt)

        pub each_pointer : (xs : Trees) → AllReadings (values_of set xs)
        each_pointer tree.NoTrees = tt
        each_pointer (tree.MoreTrees x xs) = (each_reading x, each_pointer xs)

        each_body : (es : Structs) → AllBodies (bodies_of set es)
        each_body tree.NoStructs = tt
        each_body (tree.MoreStructs bytes ps es) = (each_pointer ps, each_body es)
