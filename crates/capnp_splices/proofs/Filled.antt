-- Rows that are filled one after another.
use Rattle.std.proofs.Common.{◌≡◌, ◌≢◌, ℕ, zero, suc, ◌+◌, ◌-◌, ◌*◌, ◌<◌, ◌≤◌, refl, sym, ap, ap₂, ◌∙◌, cond, true, false, nat_lt, arith, Option, Some, None, List, length, replicate, ◌++◌}
use Rattle.std.proofs.lemmas.Bool.Decides.{nat_tests}
use Rattle.std.proofs.lemmas.Bool.{le-ltb, lt-ltb}
use Rattle.std.specs.Prelude.{option_map}
use Rattle.std.proofs.lemmas.List.{take_all}
use Rattle.std.proofs.lemmas.Option.{none-some}
use Rattle.capnp_device.specs.declared.error.ErrorKind.{ErrorKind}
use Rattle.capnp_wire.specs.Edits.{append_trees, extended_struct, first_trees, fitted_struct, nulls, with_tree}
use Rattle.capnp_wire.specs.Elements.{with_struct}
use Rattle.capnp_wire.specs.Reading.{refusal}
use Rattle.capnp_wire.specs.Tree.{Tree, Null, Trees, NoTrees, MoreTrees, MoreStructs, StructTree, structs_from, tree_count, trees_from}
use Rattle.capnp_wire.specs.Words.{first_fault, first_fault_of_all, first_fault_of_elements, first_of}
use Rattle.capnp_wire.specs.declared.fault.Fault.{Fault}
use Rattle.capnp_wire.specs.declared.size.StructSize.{StructSize}

-- what a function gives below a number, and something else from it on
abbrev pub filled_to : {A : Type 0} → ℕ → (ℕ → A) → A → ℕ → A
filled_to n f blank i = cond (nat_lt i n) (f i) blank

below : {A : Type 0} (n i : ℕ) (x y : A) → i < n → cond (nat_lt i n) x y ≡ x
below n i x y h = ap (λ b. cond b x y) {x = nat_lt i n} {y = true} (lt-ltb i n h)

from : {A : Type 0} (n i : ℕ) (x y : A) → n ≤ i → cond (nat_lt i n) x y ≡ y
from n i x y h = ap (λ b. cond b x y) {x = nat_lt i n} {y = false} (le-ltb i n h)

pub filled_none : {A : Type 0} (f : ℕ → A) (blank : A) (i : ℕ) → filled_to 0 f blank i ≡ blank
filled_none f blank i = from 0 i (f i) blank (omega arith)

pub filled_all : {A : Type 0} (f : ℕ → A) (blank : A) (n i : ℕ) → i < n → filled_to n f blank i ≡ f i
filled_all f blank n i h = below n i (f i) blank h

pub filled_from : {A : Type 0} (f : ℕ → A) (blank : A) (j : ℕ) → filled_to j f blank j ≡ blank
filled_from f blank j = from j j (f j) blank (omega arith)

-- one more
pub filled_other : {A : Type 0} (f : ℕ → A) (blank : A) (j i : ℕ) → i ≢ j → filled_to (j + 1) f blank i ≡ filled_to j f blank i
filled_other f blank j i h =
    elim (nat_lt i j) as (λ b. nat_lt i j ≡ b → filled_to (j + 1) f blank i ≡ cond b (f i) blank) [
      | true ↦ λ e. below (j + 1) i (f i) blank (grind (arith, nat_tests))
      | false ↦ λ e. from (j + 1) i (f i) blank (grind (arith, nat_tests))
    ] refl

pub filled_here : {A : Type 0} (f : ℕ → A) (blank : A) (j : ℕ) → filled_to (j + 1) f blank j ≡ f j
filled_here f blank j = below (j + 1) j (f j) blank (omega arith)

-- ---- rows of trees ----

at_zero : {A : Type 0} (f : ℕ → A) (a : ℕ) → f (a + 0) ≡ f a
at_zero f a = ap f (omega arith)

at_suc : {A : Type 0} (f : ℕ → A) (a i : ℕ) → f (suc a + i) ≡ f (a + suc i)
at_suc f a i = ap f (omega arith)

pub trees_same : (f g : ℕ → Tree) (a n : ℕ) → ((i : ℕ) → i < n → f (a + i) ≡ g (a + i)) → trees_from f a n ≡ trees_from g a n
trees_same f g a zero h = refl
trees_same f g a (suc n) h =
    ap₂ MoreTrees (sym (at_zero f a) ∙ (h 0 (omega arith) ∙ at_zero g a))
    (trees_same f g (suc a) n (λ i b. at_suc f a i ∙ (h (suc i) (omega (arith, b)) ∙ sym (at_suc g a i))))

trees_put : (f g : ℕ → Tree) (a n j : ℕ) (v : Tree) → ((i : ℕ) → i < n → i ≢ j → g (a + i) ≡ f (a + i)) → (j < n → g (a + j) ≡ v) → trees_from g a n ≡ with_tree (trees_from f a n) j v
trees_put f g a zero j v others here = refl
trees_put f g a (suc n) zero v others here =
    ap₂ MoreTrees (sym (at_zero g a) ∙ here (omega arith))
    (trees_same g f (suc a) n (λ i b. at_suc g a i ∙ (others (suc i) (omega (arith, b)) (λ e. omega (arith, e)) ∙ sym (at_suc f a i))))
trees_put f g a (suc n) (suc j) v others here =
    ap₂ MoreTrees (sym (at_zero g a) ∙ (others 0 (omega arith) (λ e. omega (arith, e)) ∙ at_zero f a))
    (trees_put f g (suc a) n j v
    (λ i b other. at_suc g a i ∙ (others (suc i) (omega (arith, b)) (λ e. other (omega (arith, e))) ∙ sym (at_suc f a i)))
    (λ b. at_suc g a j ∙ here (omega (arith, b))))

pub trees_none : (f : ℕ → Tree) (n : ℕ) → trees_from (filled_to 0 f Null) 0 n ≡ nulls n
trees_none f n = trees_same (filled_to 0 f Null) (λ _. Null) 0 n (λ i h. filled_none f Null (0 + i))

pub trees_more : (f : ℕ → Tree) (n j : ℕ) → with_tree (trees_from (filled_to j f Null) 0 n) j (f j) ≡ trees_from (filled_to (j + 1) f Null) 0 n
trees_more f n j =
    sym (trees_put (filled_to j f Null) (filled_to (j + 1) f Null) 0 n j (f j)
    (λ i b other. filled_other f Null j (0 + i) (λ e. other (omega (arith, e))))
    (λ b. ap (filled_to (j + 1) f Null) (omega arith) ∙ filled_here f Null j))

pub trees_all : (f : ℕ → Tree) (n : ℕ) → trees_from (filled_to n f Null) 0 n ≡ trees_from f 0 n
trees_all f n = trees_same (filled_to n f Null) f 0 n (λ i h. filled_all f Null n (0 + i) (omega (arith, h)))

-- ---- rows of structs ----

pub structs_same : (f g : ℕ → StructTree) (a n : ℕ) → ((i : ℕ) → i < n → f (a + i) ≡ g (a + i)) → structs_from f a n ≡ structs_from g a n
structs_same f g a zero h = refl
structs_same f g a (suc n) h =
    let e : f a ≡ g a = sym (at_zero f a) ∙ (h 0 (omega arith) ∙ at_zero g a) in
    ap₂ (λ (s : StructTree) es. MoreStructs s.bytes s.pointers es) e
    (structs_same f g (suc a) n (λ i b. at_suc f a i ∙ (h (suc i) (omega (arith, b)) ∙ sym (at_suc g a i))))

structs_put : (f g : ℕ → StructTree) (a n j : ℕ) (v : StructTree) → ((i : ℕ) → i < n → i ≢ j → g (a + i) ≡ f (a + i)) → (j < n → g (a + j) ≡ v) → structs_from g a n ≡ with_struct (structs_from f a n) j v
structs_put f g a zero j v others here = refl
structs_put f g a (suc n) zero v others here =
    ap₂ (λ (s : StructTree) es. MoreStructs s.bytes s.pointers es) (sym (at_zero g a) ∙ here (omega arith))
    (structs_same g f (suc a) n (λ i b. at_suc g a i ∙ (others (suc i) (omega (arith, b)) (λ e. omega (arith, e)) ∙ sym (at_suc f a i))))
structs_put f g a (suc n) (suc j) v others here =
    ap₂ (λ (s : StructTree) es. MoreStructs s.bytes s.pointers es) (sym (at_zero g a) ∙ (others 0 (omega arith) (λ e. omega (arith, e)) ∙ at_zero f a))
    (structs_put f g (suc a) n j v
    (λ i b other. at_suc g a i ∙ (others (suc i) (omega (arith, b)) (λ e. other (omega (arith, e))) ∙ sym (at_suc f a i)))
    (λ b. at_suc g a j ∙ here (omega (arith, b))))

pub structs_none : (f : ℕ → StructTree) (blank : StructTree) (n : ℕ) → structs_from (filled_to 0 f blank) 0 n ≡ structs_from (λ _. blank) 0 n
structs_none f blank n = structs_same (filled_to 0 f blank) (λ _. blank) 0 n (λ i h. filled_none f blank (0 + i))

pub structs_more : (f : ℕ → StructTree) (blank : StructTree) (n j : ℕ) → with_struct (structs_from (filled_to j f blank) 0 n) j (f j) ≡ structs_from (filled_to (j + 1) f blank) 0 n
structs_more f blank n j =
    sym (structs_put (filled_to j f blank) (filled_to (j + 1) f blank) 0 n j (f j)
    (λ i b other. filled_other f blank j (0 + i) (λ e. other (omega (arith, e))))
    (λ b. ap (filled_to (j + 1) f blank) (omega arith) ∙ filled_here f blank j))

pub structs_all : (f : ℕ → StructTree) (blank : StructTree) (n : ℕ) → structs_from (filled_to n f blank) 0 n ≡ structs_from f 0 n
structs_all f blank n = structs_same (filled_to n f blank) f 0 n (λ i h. filled_all f blank n (0 + i) (omega (arith, h)))

-- ---- faults ----

none_then : (a b : Option Fault) → a ≡ None → first_of a b ≡ b
none_then a b e = rw e refl

pub no_faults : (f : ℕ → Tree) (a n : ℕ) → ((i : ℕ) → i < n → first_fault (f (a + i)) ≡ None) → first_fault_of_all (trees_from f a n) ≡ None
no_faults f a zero h = refl
no_faults f a (suc n) h =
    none_then (first_fault (f a)) (first_fault_of_all (trees_from f (suc a) n)) (ap first_fault (sym (at_zero f a)) ∙ h 0 (omega arith))
    ∙ no_faults f (suc a) n (λ i b. ap first_fault (at_suc f a i) ∙ h (suc i) (omega (arith, b)))

some_first : (kind : ErrorKind) (a b : Option Fault) → option_map refusal a ≡ Some kind → option_map refusal (first_of a b) ≡ Some kind
some_first kind None b e = absurd (none-some kind e)
some_first kind (Some x) b e = e

pub fault_in_trees : (f : ℕ → Tree) (kind : ErrorKind) (a n j : ℕ) → j < n → ((i : ℕ) → i < j → first_fault (f (a + i)) ≡ None) → option_map refusal (first_fault (f (a + j))) ≡ Some kind
    → option_map refusal (first_fault_of_all (trees_from f a n)) ≡ Some kind
fault_in_trees f kind a zero j b h e = absurd (omega (arith, b))
fault_in_trees f kind a (suc n) zero b h e =
    some_first kind (first_fault (f a)) (first_fault_of_all (trees_from f (suc a) n)) (ap (λ t. option_map refusal (first_fault t)) (sym (at_zero f a)) ∙ e)
fault_in_trees f kind a (suc n) (suc j) b h e =
    ap (option_map refusal) (none_then (first_fault (f a)) (first_fault_of_all (trees_from f (suc a) n)) (ap first_fault (sym (at_zero f a)) ∙ h 0 (omega arith)))
    ∙ fault_in_trees f kind (suc a) n j (omega (arith, b)) (λ i c. ap first_fault (at_suc f a i) ∙ h (suc i) (omega (arith, c))) (ap (λ t. option_map refusal (first_fault t)) (at_suc f a j) ∙ e)

pub no_faults_of : (f : ℕ → StructTree) (a n : ℕ) → ((i : ℕ) → i < n → first_fault_of_all (f (a + i)).pointers ≡ None) → first_fault_of_elements (structs_from f a n) ≡ None
no_faults_of f a zero h = refl
no_faults_of f a (suc n) h =
    none_then (first_fault_of_all (f a).pointers) (first_fault_of_elements (structs_from f (suc a) n)) (ap (λ (s : StructTree). first_fault_of_all s.pointers) (sym (at_zero f a)) ∙ h 0 (omega arith))
    ∙ no_faults_of f (suc a) n (λ i b. ap (λ (s : StructTree). first_fault_of_all s.pointers) (at_suc f a i) ∙ h (suc i) (omega (arith, b)))

pub fault_in_structs : (f : ℕ → StructTree) (kind : ErrorKind) (a n j : ℕ) → j < n → ((i : ℕ) → i < j → first_fault_of_all (f (a + i)).pointers ≡ None) → option_map refusal (first_fault_of_all (f (a + j)).pointers) ≡ Some kind
    → option_map refusal (first_fault_of_elements (structs_from f a n)) ≡ Some kind
fault_in_structs f kind a zero j b h e = absurd (omega (arith, b))
fault_in_structs f kind a (suc n) zero b h e =
    some_first kind (first_fault_of_all (f a).pointers) (first_fault_of_elements (structs_from f (suc a) n)) (ap (λ (s : StructTree). option_map refusal (first_fault_of_all s.pointers)) (sym (at_zero f a)) ∙ e)
fault_in_structs f kind a (suc n) (suc j) b h e =
    ap (option_map refusal) (none_then (first_fault_of_all (f a).pointers) (first_fault_of_elements (structs_from f (suc a) n)) (ap (λ (s : StructTree). first_fault_of_all s.pointers) (sym (at_zero f a)) ∙ h 0 (omega arith)))
    ∙ fault_in_structs f kind (suc a) n j (omega (arith, b)) (λ i c. ap (λ (s : StructTree). first_fault_of_all s.pointers) (at_suc f a i) ∙ h (suc i) (omega (arith, c))) (ap (λ (s : StructTree). option_map refusal (first_fault_of_all s.pointers)) (at_suc f a j) ∙ e)

-- ---- structs of at least a size ----

first_all : (n : ℕ) (ts : Trees) → tree_count ts ≤ n → first_trees n ts ≡ ts
first_all zero NoTrees h = refl
first_all zero (MoreTrees t ts) h = absurd (omega (arith, h))
first_all (suc n) NoTrees h = refl
first_all (suc n) (MoreTrees t ts) h = ap (MoreTrees t) (first_all n ts (omega (arith, h)))

-- what fits is all of it
pub fitted_whole : (size : StructSize) (s : StructTree) → length s.bytes ≤ 8 * size.data_words → tree_count s.pointers ≤ size.pointers → fitted_struct (8 * size.data_words) size.pointers s ≡ extended_struct size s
fitted_whole size s h k =
    ap₂ (λ (bytes : List ℕ) ps. record { bytes = bytes; pointers = ps })
    (ap (λ bytes. bytes ++ replicate (8 * size.data_words - length s.bytes) 0) (take_all (8 * size.data_words) s.bytes h))
    (ap (λ ps. append_trees ps (nulls (size.pointers - tree_count s.pointers))) (first_all size.pointers s.pointers k))

no_fault_in_nulls : (a n : ℕ) → first_fault_of_all (trees_from (λ _. Null) a n) ≡ None
no_fault_in_nulls a zero = refl
no_fault_in_nulls a (suc n) = no_fault_in_nulls (suc a) n

-- nulls have no fault
pub fault_appended : (ts : Trees) (n : ℕ) → first_fault_of_all (append_trees ts (nulls n)) ≡ first_fault_of_all ts
fault_appended NoTrees n = no_fault_in_nulls 0 n
fault_appended (MoreTrees t ts) n = ap (first_of (first_fault t)) (fault_appended ts n)
