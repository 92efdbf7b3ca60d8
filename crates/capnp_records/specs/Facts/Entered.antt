-- What is read behind a pointer: a value that is there, a null, and what a level more answers.
use Rattle.std.proofs.Common.{ℕ, ◌+◌, ◌≡◌, ◌==◌, Bool, true, false, cond, Ok, Err, arith, ap}
use Rattle.capnp_device.specs.declared.error.ErrorKind.{ErrorKind}
use Rattle.capnp_device.specs.declared.error.ErrorKind.TheVariants.{TooDeep}
use Rattle.capnp_wire.specs.Reading.{is_null_tree}
use Rattle.capnp_wire.specs.Tree.{Tree}
use Rattle.capnp_schema.specs.Schema.{Schemas, Value as SchemaValue}
use Rattle.capnp_schema.specs.Types.{SchemaType}
use Rattle.capnp_records.specs.Default.{default_value, read_of}
use Rattle.capnp_records.specs.Facts.DefaultTree.{read_there}
use Rattle.capnp_records.specs.Facts.Readers.{null_is, value_there}
use Rattle.capnp_records.specs.Reading.{entered_value, value_of}
use Rattle.capnp_records.specs.Record.{Left, Levels, Value}
use Rattle.capnp_records.specs.Record as value

-- what is read of a value that is there, and of a null
pub there_read : (set : Schemas) (d : SchemaValue) (t : SchemaType) (x : Tree) (l : Levels) → is_null_tree x ≡ false → read_of set d t (value_of set x l t) ≡ value_of set x l t
there_read set d t x l h = read_there set d t (value_of set x l t) (value_there set x l t h)

pub null_read : (set : Schemas) (d : SchemaValue) (t : SchemaType) (x : Tree) (l : Levels) → is_null_tree x ≡ true → read_of set d t (value_of set x l t) ≡ default_value set l d t
null_read set d t x l h = ap (λ y. read_of set d t (value_of set y l t)) (null_is x h)

-- an answer where no level is left, or else
pub entered_ok : {X : Type 0} (q : Bool) (x y : X) (k : ErrorKind) → Ok x ≡ cond q (Err k) (Ok y) → x ≡ y
entered_ok true x y k e = cc
entered_ok false x y k e = cc

pub never_ok : {X : Type 0} (q : Bool) (x : X) (k j : ErrorKind) → Ok x ≡ cond q (Err k) (Err j) → ⊥
never_ok true x k j e = cc
never_ok false x k j e = cc

pub ok_if : {X : Type 0} (q p : Bool) (x y : X) (k j : ErrorKind) → Ok x ≡ cond q (Err k) (cond p (Ok y) (Err j)) → x ≡ y
ok_if true p x y k j e = cc
ok_if false true x y k j e = cc
ok_if false false x y k j e = cc

pub refused_entered : {X : Type 0} (q : Bool) (k : ErrorKind) (y : X) (v : Value) → Err k ≡ cond q (Err TooDeep) (Ok y) → value.Fault k ≡ (elim q as (λ _. Value) [ true ↦ value.Fault TooDeep | false ↦ v ])
refused_entered true k y v e = cc
refused_entered false k y v e = cc

pub entered_some : (n m : ℕ) (v : Value) → m + 1 ≡ n → entered_value (Left n) v ≡ v
entered_some n m v e = ap (λ q. elim q as (λ _. Value) [ true ↦ value.Fault TooDeep | false ↦ v ]) (not_zero n m e)
  where
    not_zero : (n m : ℕ) → m + 1 ≡ n → (n == 0) ≡ false
    not_zero n m e = grind (arith, e)
