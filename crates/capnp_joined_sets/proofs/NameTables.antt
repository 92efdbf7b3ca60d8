-- Tables of names don't depend on numbers: those of two sets, one behind the other, are those of the joined set.
use Rattle.std.proofs.Common.{IfOk, Result, Ok, Err, ℕ, zero, suc, ◌≡◌, refl, List, [], ◌∷◌, ◌++◌, Vec, length, map, slice_get, slice_index, vec_items, arith, ap, ap₂, sym, subst, ◌∙◌}
use Rattle.std.specs.Cmp.Lexicographic.{slice_cmp}
use Rattle.std.specs.Option.{unwrap_or}
use Rattle.std.specs.Ordering.{nat_cmp}
use Rattle.std.specs.declared.alloc.Global.{Global}
use Rattle.std.proofs.lemmas.List.{length-append, length-map, map-append}
use Rattle.capnp_device.specs.declared.error.Error.{Error}
use Rattle.capnp_schema.specs.Names.{IsNameTable, name_at}
use Rattle.capnp_schema.specs.Schema.{Field, Node, Schemas, no_node, node_at}
use Rattle.capnp_schema.specs.Tables.{AreNameTables, table_at}
use Rattle.capnp_joined_sets.specs.declared.moves.Moves.{Moves}
use Rattle.capnp_joined_sets.specs.Joined.{ends_of, joined, moved_field, moved_node}
use Rattle.capnp_joined_sets.proofs.Embedded.{at_mapped_any}

-- ---- one table ----

name_stays : (by : Moves) (fs : List Field) (i : ℕ) → name_at (map (moved_field by) fs) i ≡ name_at fs i
name_stays by [] i = refl
name_stays by (f ∷ fs) zero = refl
name_stays by (f ∷ fs) (suc i) = name_stays by fs i

table_stays : (by : Moves) (fs : List Field) (table : List ℕ) → IsNameTable fs table → IsNameTable (map (moved_field by) fs) table
table_stays by fs table h =
    let count = length-map fs (moved_field by) in
    record {
      same_length = h.same_length ∙ sym count;
      below = λ k inside. let b = h.below k inside in omega arith;
      each = λ i inside. h.each i (omega arith);
      rises = λ j k first inside. ap₂ (λ x y. slice_cmp nat_cmp x y) (name_stays by fs (slice_index table j)) (name_stays by fs (slice_index table k)) ∙ h.rises j k first inside;
    }

-- ---- lists of tables ----

-- a table by its number, nothing past the last
abbrev list_at : List (List ℕ) → ℕ → List ℕ
list_at [] n = []
list_at (t ∷ ts) zero = t
list_at (t ∷ ts) (suc n) = list_at ts n

table_seen : (tables : List (Vec ℕ Global)) (n : ℕ) → table_at tables n ≡ list_at (map vec_items tables) n
table_seen [] n = refl
table_seen (t ∷ ts) zero = refl
table_seen (t ∷ ts) (suc n) = table_seen ts n

-- each list is the table of the node of its number
abbrev EachNamed : List Node → List (List ℕ) → Type 0
EachNamed nodes lists = (n : ℕ) → IsNameTable (unwrap_or (slice_get nodes n) no_node).fields (list_at lists n)

each_seen : (set : Schemas) (tables : List (Vec ℕ Global)) → AreNameTables set tables → EachNamed set.nodes (map vec_items tables)
each_seen set tables h n = subst (IsNameTable (node_at set n).fields) (table_seen tables n) (h.each n)

each_moved : (by : Moves) (nodes : List Node) (lists : List (List ℕ)) → EachNamed nodes lists → EachNamed (map (moved_node by) nodes) lists
each_moved by nodes lists each n =
    subst (λ (m : Node). IsNameTable m.fields (list_at lists n)) (sym (at_mapped_any (moved_node by) nodes n no_node))
    (table_stays by (unwrap_or (slice_get nodes n) no_node).fields (list_at lists n) (each n))

each_of_both : (ms ns : List Node) (ts us : List (List ℕ)) → length ts ≡ length ms → EachNamed ms ts → EachNamed ns us → EachNamed (ms ++ ns) (ts ++ us)
each_of_both [] ns [] us same first second n = second n
each_of_both [] ns (t ∷ ts) us same first second n = absurd (omega arith)
each_of_both (m ∷ ms) ns [] us same first second n = absurd (omega arith)
each_of_both (m ∷ ms) ns (t ∷ ts) us same first second zero = first zero
each_of_both (m ∷ ms) ns (t ∷ ts) us same first second (suc n) = each_of_both ms ns ts us (omega arith) (λ k. first (suc k)) second n

-- ---- two sets ----

pub tables_joined : (older newer : Schemas) (first second tables : List (Vec ℕ Global)) → AreNameTables older first → AreNameTables newer second
    → map vec_items tables ≡ map vec_items first ++ map vec_items second → AreNameTables (joined older newer) tables
tables_joined older newer first second tables those these same =
    let firsts = length-map first vec_items in
    record {
      same_length =
          let all = length-map tables vec_items in
          let seconds = length-map second vec_items in
          let lists = length-append (map vec_items first) (map vec_items second) in
          let equal = ap length same in
          let nodes = length-append older.nodes (map (moved_node (ends_of older)) newer.nodes) in
          let moved = length-map newer.nodes (moved_node (ends_of older)) in
          let a = those.same_length in
          let b = these.same_length in
          omega arith;
      each = λ n.
          subst (IsNameTable (node_at (joined older newer) n).fields) (sym (table_seen tables n ∙ ap (λ ts. list_at ts n) same))
          (each_of_both older.nodes (map (moved_node (ends_of older)) newer.nodes) (map vec_items first) (map vec_items second) (firsts ∙ those.same_length)
          (each_seen older first those) (each_moved (ends_of older) newer.nodes (map vec_items second) (each_seen newer second these)) n);
    }

pub copied_tables : (older newer : Schemas) (first second : List (Vec ℕ Global)) (r : Result (Vec (Vec ℕ Global) Global) Error) → AreNameTables older first → AreNameTables newer second
    → IfOk r (λ out. map vec_items out.items ≡ map vec_items first ++ map vec_items second) → IfOk r (λ out. AreNameTables (joined older newer) out.items)
copied_tables older newer first second (Ok out) those these same = tables_joined older newer first second out.items those these same
copied_tables older newer first second (Err e) those these same = tt

-- the same of tables that stand one behind the other
pub tables_behind : (older newer : Schemas) (first second tables : List (Vec ℕ Global)) → AreNameTables older first → AreNameTables newer second
    → tables ≡ first ++ second → AreNameTables (joined older newer) tables
tables_behind older newer first second tables those these same =
    tables_joined older newer first second tables those these (ap (map vec_items) same ∙ map-append vec_items first second)
