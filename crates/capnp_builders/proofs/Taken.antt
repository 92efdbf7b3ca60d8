-- Defaults that stand in for what is at a pointer.
use Rattle.std.proofs.Common.{ℕ, List, ◌≡◌, refl, Bool, true, false, cond, Option, Some, None, Result, Err, ap, arith, inl, sym, ◌∙◌}
use Rattle.capnp_device.specs.declared.error.Error.{Error}
use Rattle.capnp_device.specs.declared.error.ErrorKind.{ErrorKind}
use Rattle.capnp_wire.specs.Edits.{IsDueRefusal}
use Rattle.capnp_wire.specs.Reading.{is_null_tree}
use Rattle.capnp_wire.specs.Standing.{tree_of}
use Rattle.capnp_wire.specs.Tree.{Tree}
use Rattle.capnp_wire.specs.declared.pointer_reader.PointerReader.{PointerReader}
use Rattle.capnp_base.specs.Traits.{IsDefaultRefusal, IsReadRefusal, default_refusal, refusal_in, takes_pointer_default, tree_or}
use Rattle.capnp_arena.specs.Forest.{Changes}
use Rattle.capnp_builders.specs.Steps.Defaults.{default_taken}

not_null : (q : Bool) (d : PointerReader) → cond q (Some d) None ≡ None → q ≡ false
not_null true d h = absurd cc
not_null false d h = refl

is_null : (q : Bool) (d x : PointerReader) → cond q (Some d) None ≡ Some x → q ≡ true
is_null true d x h = refl
is_null false d x h = absurd cc

the_default : (q : Bool) (d x : PointerReader) → cond q (Some d) None ≡ Some x → d ≡ x
the_default true d x h = cc
the_default false d x h = absurd cc

pub no_change : (w : ℕ) (words : List ℕ) → Changes w words words
no_change w words = record { longer = omega arith; stays = λ k l o p. refl; grows = λ k o. inl o }

-- ---- there is none, or the pointer is not null ----

pub own_tree : (t : Tree) (default : Option PointerReader) → default_taken t default ≡ None → tree_or t default ≡ t
own_tree t None h = refl
own_tree t (Some d) h = ap (λ q. cond q (tree_of d) t) (not_null (is_null_tree t) d h)

pub own_refusal : {A : Type 0} (read : Tree → Result A ErrorKind) (t : Tree) (default : Option PointerReader) → default_taken t default ≡ None → default_refusal read t default ≡ None
own_refusal read t None h = refl
own_refusal read t (Some d) h = ap (λ q. cond q (refusal_in (read (tree_of d))) None) (not_null (is_null_tree t) d h)

pub refused_as_read : {A : Type 0} (read : Tree → Result A ErrorKind) (t : Tree) (default : Option PointerReader) (error : Error) → default_taken t default ≡ None → Err error.kind ≡ read t → IsReadRefusal read t default error
refused_as_read read t default error h r =
    let due : refusal_in (read (tree_or t default)) ≡ Some error.kind = ap (λ u. refusal_in (read u)) (own_tree t default h) ∙ ap refusal_in (sym r) in
    (λ own. sym r, (λ _. due, λ kind other. cc))

-- ---- it stands in for a null ----

pub other_tree : (t : Tree) (default : Option PointerReader) (x : PointerReader) → default_taken t default ≡ Some x → tree_or t default ≡ tree_of x
other_tree t None x h = absurd cc
other_tree t (Some d) x h = ap (λ q. cond q (tree_of d) t) (is_null (is_null_tree t) d x h) ∙ ap tree_of (the_default (is_null_tree t) d x h)

pub is_taken : (t : Tree) (default : Option PointerReader) (x : PointerReader) → default_taken t default ≡ Some x → takes_pointer_default t default ≡ true
is_taken t None x h = absurd cc
is_taken t (Some d) x h = is_null (is_null_tree t) d x h

pub other_refusal : {A : Type 0} (read : Tree → Result A ErrorKind) (t : Tree) (default : Option PointerReader) (x : PointerReader) → default_taken t default ≡ Some x → default_refusal read t default ≡ refusal_in (read (tree_of x))
other_refusal read t None x h = absurd cc
other_refusal read t (Some d) x h = ap (λ q. cond q (refusal_in (read (tree_of d))) None) (is_null (is_null_tree t) d x h) ∙ ap (λ e. refusal_in (read (tree_of e))) (the_default (is_null_tree t) d x h)

pub refused_default : {A : Type 0} (read : Tree → Result A ErrorKind) (t : Tree) (default : Option PointerReader) (x : PointerReader) (error : Error) → default_taken t default ≡ Some x → IsDueRefusal error (refusal_in (read (tree_of x))) → IsDefaultRefusal read t default error
refused_default read t default x error h due = (is_taken t default x h, rw (other_refusal read t default x h) due)

true_false : true ≡ false → ⊥
true_false h = cc

pub refused_as_default : {A : Type 0} (read : Tree → Result A ErrorKind) (t : Tree) (default : Option PointerReader) (x : PointerReader) (error : Error) → default_taken t default ≡ Some x → IsDueRefusal error (refusal_in (read (tree_of x))) → IsReadRefusal read t default error
refused_as_default read t default x error h due = (λ own. absurd (true_false (sym (is_taken t default x h) ∙ own)), rw (other_tree t default x h) due)
