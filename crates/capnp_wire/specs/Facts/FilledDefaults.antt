-- Which default is copied, and what stands there then.
use mathlib.Core.Bool.{true≢false}
use Rattle.std.proofs.Common.{Option, Some, None, not, ◌&&◌, ◌≡◌, refl, sym, ap, ◌∙◌, Bool, true, false, cond}
use Rattle.capnp_wire.specs.Tree.{Tree, Null, Struct, Voids, Bits, Numbers, Pointers, Composite, FaultLeaf}
use Rattle.capnp_wire.specs.Reading.{is_null_tree}
use Rattle.capnp_wire.specs.Standing.{tree_of}
use Rattle.capnp_wire.specs.Edits.{HoldsStruct, struct_refusal}
use Rattle.capnp_wire.specs.StructLists.{struct_list_refusal}
use Rattle.capnp_wire.specs.Defaults.{default_tree, filled_list_refusal, filled_struct_refusal, filled_structs_refusal, list_default_refusal, list_refusal, or_default, struct_default_refusal, structs_default_refusal, takes_default}
use Rattle.capnp_wire.specs.Steps.Defaults.{taken_default}
use Rattle.capnp_wire.specs.declared.pointer_reader.PointerReader.{PointerReader}
use Rattle.capnp_wire.specs.declared.size.ElementSize.{ElementSize}
use Rattle.capnp_wire.specs.declared.size.StructSize.{StructSize}

-- ---- a default that is copied ----

-- a null stands there, and the default is none
pub record IsTaken (d : Option PointerReader) (t : Tree) (r : PointerReader) : Type 0 where
  pub null : is_null_tree t ≡ true
  pub some : is_null_tree (tree_of r) ≡ false
  pub is : tree_of r ≡ default_tree d

taken_of : (x r : PointerReader) (b : Bool) → is_null_tree (tree_of x) ≡ b → Some r ≡ cond (not b) (Some x) None → IsTaken (Some x) Null r
taken_of x r true p e = cc
taken_of x r false p e =
    let same : r ≡ x = cc in
    record {
      null = refl;
      some = ap (λ y. is_null_tree (tree_of y)) same ∙ p;
      is = ap tree_of same;
    }

pub is_taken : (d : Option PointerReader) (t : Tree) (r : PointerReader) → Some r ≡ taken_default d t → IsTaken d t r
is_taken None t r e = cc
is_taken (Some x) Null r e = taken_of x r _ refl e
is_taken (Some x) (Struct bytes ps) r e = cc
is_taken (Some x) (Voids n) r e = cc
is_taken (Some x) (Bits bs) r e = cc
is_taken (Some x) (Numbers w bytes) r e = cc
is_taken (Some x) (Pointers ps) r e = cc
is_taken (Some x) (Composite d p es) r e = cc
is_taken (Some x) (FaultLeaf k) r e = cc

-- the default stands there then, and is what is asked
pub taken_tree : (d t : Tree) → is_null_tree t ≡ true → d ≡ or_default d t
taken_tree d t e = sym (ap (λ b. cond b d t) e)

pub taken_struct : (d t : Tree) → is_null_tree t ≡ true → struct_default_refusal d ≡ filled_struct_refusal d t
taken_struct d t e = sym (ap (λ b. cond b (struct_default_refusal d) (struct_refusal t)) e)

pub taken_list : (d : Tree) (size : ElementSize) (t : Tree) → is_null_tree t ≡ true → list_default_refusal size d ≡ filled_list_refusal d size t
taken_list d size t e = sym (ap (λ b. cond b (list_default_refusal size d) (list_refusal size t)) e)

pub taken_structs : (d : Tree) (size : StructSize) (t : Tree) → is_null_tree t ≡ true → structs_default_refusal size d ≡ filled_structs_refusal d size t
taken_structs d size t e = sym (ap (λ b. cond b (structs_default_refusal size d) (struct_list_refusal size t)) e)

-- ---- no default is copied ----

null_is : (t : Tree) → is_null_tree t ≡ true → t ≡ Null
null_is Null e = refl
null_is t e = cc

left_of : (x : PointerReader) (b : Bool) → is_null_tree (tree_of x) ≡ b → None ≡ cond (not b) (Some x) None → tree_of x ≡ Null
left_of x true p e = null_is (tree_of x) p
left_of x false p e = cc

-- what stands there stays
pub left_tree : (d : Option PointerReader) (t : Tree) → None ≡ taken_default d t → t ≡ or_default (default_tree d) t
left_tree None Null e = refl
left_tree (Some x) Null e = sym (left_of x _ refl e)
left_tree d (Struct bytes ps) e = refl
left_tree d (Voids n) e = refl
left_tree d (Bits bs) e = refl
left_tree d (Numbers w bytes) e = refl
left_tree d (Pointers ps) e = refl
left_tree d (Composite n p es) e = refl
left_tree d (FaultLeaf k) e = refl

-- and is what is asked
pub left_struct : (d t : Tree) → t ≡ or_default d t → struct_refusal t ≡ filled_struct_refusal d t
left_struct d Null e = ap struct_default_refusal e
left_struct d t e = refl

pub left_list : (d : Tree) (size : ElementSize) (t : Tree) → t ≡ or_default d t → list_refusal size t ≡ filled_list_refusal d size t
left_list d size Null e = ap (list_default_refusal size) e
left_list d size t e = refl

pub left_structs : (d : Tree) (size : StructSize) (t : Tree) → t ≡ or_default d t → struct_list_refusal size t ≡ filled_structs_refusal d size t
left_structs d size Null e = ap (structs_default_refusal size) e
left_structs d size t e = refl

-- no struct stands at a null
pub no_struct : {A : Type 0} (size : StructSize) (t : Tree) → is_null_tree t ≡ true → HoldsStruct size t → A
no_struct size (Struct bytes ps) e h = cc
no_struct size t e h = absurd h

-- a default that is copied is taken
pub not_taken : {A : Type 0} (d : Option PointerReader) (t : Tree) (r : PointerReader) → IsTaken d t r → takes_default (default_tree d) t ≡ false → A
not_taken d t r h e =
    let some : is_null_tree (default_tree d) ≡ false = ap is_null_tree (sym h.is) ∙ h.some in
    let takes : takes_default (default_tree d) t ≡ true = ap (λ b. b && not (is_null_tree (default_tree d))) h.null ∙ ap not some in
    absurd (true≢false (sym takes ∙ e))

-- ---- a default of which nothing is to be refused ----

pub struct_taken : (d t : Tree) → struct_default_refusal d ≡ None → filled_struct_refusal d t ≡ struct_refusal t
struct_taken d Null e = e
struct_taken d t e = refl

pub list_taken : (d : Tree) (size : ElementSize) (t : Tree) → list_default_refusal size d ≡ None → filled_list_refusal d size t ≡ list_refusal size t
list_taken d size Null e = e
list_taken d size t e = refl

pub structs_taken : (d : Tree) (size : StructSize) (t : Tree) → structs_default_refusal size d ≡ None → filled_structs_refusal d size t ≡ struct_list_refusal size t
structs_taken d size Null e = e
structs_taken d size t e = refl
