-- What a slot takes as a copy.
use Rattle.std.proofs.Common.{◌≡◌, refl, Bool, true, false, Result, Ok, Err, IfOk, IfErr, ap, sym, subst, ◌∙◌}
use Rattle.capnp_device.specs.declared.error.Error.{Error}
use Rattle.capnp_wire.specs.Tree.{Tree}
use Rattle.capnp_base.specs.declared.introspect.TypeVariant.{TypeVariant}
use Rattle.capnp_schema.specs.FieldLists.{typed_of}
use Rattle.capnp_schema.specs.Schema.{Schemas}
use Rattle.capnp_schema.specs.Types.{SchemaType, VoidType, BoolType, IntType, UIntType, EnumType, TextType, DataType, StructType, ListType, AnyPointerType, is_pointer, seen_variant}
use Rattle.capnp_schema.specs.declared.schema.fields.Field.{Field}
use Rattle.capnp_records.specs.Call.{Source, BoolSource, IntSource, UIntSource, EnumSource, TextSource, DataSource, StructSource, ListSource}
use Rattle.capnp_records.specs.Facts.NewTrees.{fails_copies, gives_copies}
use Rattle.capnp_records.specs.Facts.Numbers.{copies_gives, fails_gives}
use Rattle.capnp_records.specs.Given.{Given, Gives, Copies, CopiesGroup, Fails, given_slot}
use Rattle.capnp_records.specs.Record.{Value}
use Rattle.capnp_slots.specs.Fields.{field_set}
use Rattle.capnp_slots.specs.Primitives.{given_to}
use Rattle.capnp_slots.specs.Sources.{IsPointed}
use Rattle.capnp_slots.specs.Steps.Sources.{GivesCopy, IsCopy, TakesSource, source_copied, source_past}

-- what stands behind a pointer is given at once to a void slot alone
pub void_only : (set : Schemas) (t : SchemaType) (s : Source) (v : Value) → IsPointed s → given_slot set t s ≡ Gives v → VoidType ≡ t
void_only set VoidType s v p e = refl
void_only set BoolType (BoolSource b) v p e = absurd p
void_only set (IntType k) (IntSource n x) v p e = absurd p
void_only set (UIntType k) (UIntSource n x) v p e = absurd p
void_only set (EnumType m) (EnumSource n) v p e = absurd p
void_only set TextType (TextSource bytes) v p e = absurd (copies_gives e)
void_only set DataType (DataSource bytes) v p e = absurd (copies_gives e)
void_only set (StructType b g) (StructSource l x from) v p e = absurd (copies_gives e)
void_only set (ListType t) (ListSource l x from) v p e = absurd (copies_gives e)
void_only set AnyPointerType (TextSource bytes) v p e = absurd (copies_gives e)
void_only set AnyPointerType (DataSource bytes) v p e = absurd (copies_gives e)
void_only set AnyPointerType (StructSource l x from) v p e = absurd (copies_gives e)
void_only set AnyPointerType (ListSource l x from) v p e = absurd (copies_gives e)
void_only set t s v p e = absurd (fails_gives e)

-- a slot that takes a copy is a pointer's, and what is copied is a text, data, a struct or a list
pub record IsCopied (t : SchemaType) (s : Source) : Type 0 where
  pub pointer : is_pointer t ≡ true
  pub copy : IsCopy s

copied_only : (set : Schemas) (t : SchemaType) (s : Source) (x : Tree) (past : Bool) (v : Value) → IsPointed s → given_slot set t s ≡ Copies x past v → IsCopied t s
copied_only set VoidType s x past v p e = absurd (gives_copies e)
copied_only set BoolType (BoolSource b) x past v p e = absurd p
copied_only set (IntType k) (IntSource n y) x past v p e = absurd p
copied_only set (UIntType k) (UIntSource n y) x past v p e = absurd p
copied_only set (EnumType m) (EnumSource n) x past v p e = absurd p
copied_only set TextType (TextSource bytes) x past v p e = record { pointer = refl; copy = tt }
copied_only set DataType (DataSource bytes) x past v p e = record { pointer = refl; copy = tt }
copied_only set (StructType b g) (StructSource l y from) x past v p e = record { pointer = refl; copy = tt }
copied_only set (ListType t) (ListSource l y from) x past v p e = record { pointer = refl; copy = tt }
copied_only set AnyPointerType (TextSource bytes) x past v p e = record { pointer = refl; copy = tt }
copied_only set AnyPointerType (DataSource bytes) x past v p e = record { pointer = refl; copy = tt }
copied_only set AnyPointerType (StructSource l y from) x past v p e = record { pointer = refl; copy = tt }
copied_only set AnyPointerType (ListSource l y from) x past v p e = record { pointer = refl; copy = tt }
copied_only set t s x past v p e = absurd (fails_copies e)

-- ---- by a field ----

module _ (f : Field) (s : Source) where
  takes_false : (q : Bool) → q ≡ false → VoidType ≡ (typed_of f).type → TakesSource f s q
  takes_false q e h = subst (TakesSource f s) (sym e) h

  takes_true : (q : Bool) → q ≡ true → TakesSource f s true → TakesSource f s q
  takes_true q e h = subst (TakesSource f s) (sym e) h

  same_copies : (x : Tree) (past : Bool) (v : Value) → x ≡ source_copied s → past ≡ source_past s → Copies x past v ≡ Copies (source_copied s) (source_past s) v
  same_copies x past v e h = ap (λ y. Copies y past v) e ∙ ap (λ q. Copies (source_copied s) q v) h

  pub takes_ok : (v : TypeVariant) (r : Result Bool Error) → IsPointed s → seen_variant v ≡ (typed_of f).type →
      ((set : Schemas) → GivesCopy s (given_slot set (seen_variant v) s) r) → IfOk r (TakesSource f s)
  takes_ok v r p e h = go (given_to f s) refl r (subst (λ t. GivesCopy s (given_slot (field_set f) t s) r) e (h (field_set f)))
    where
      go : (g : Given) → given_to f s ≡ g → (r : Result Bool Error) → GivesCopy s g r → IfOk r (TakesSource f s)
      go (Gives w) is (Ok q) h = takes_false q h (void_only (field_set f) (typed_of f).type s w p is)
      go (Gives w) is (Err n) h = tt
      go (Copies x past w) is (Ok q) h = takes_true q h.0 ((copied_only (field_set f) (typed_of f).type s x past w p is).copy, (w, is ∙ same_copies x past w h.1 h.2))
      go (Copies x past w) is (Err n) h = tt
      go (CopiesGroup l x b) is r h = absurd h
      go (Fails kind) is (Ok q) h = absurd h
      go (Fails kind) is (Err n) h = tt

  pub takes_err : (v : TypeVariant) (r : Result Bool Error) → seen_variant v ≡ (typed_of f).type →
      ((set : Schemas) → GivesCopy s (given_slot set (seen_variant v) s) r) → IfErr r (λ n. given_to f s ≡ Fails n.kind)
  takes_err v r e h = go (given_to f s) refl r (subst (λ t. GivesCopy s (given_slot (field_set f) t s) r) e (h (field_set f)))
    where
      go : (g : Given) → given_to f s ≡ g → (r : Result Bool Error) → GivesCopy s g r → IfErr r (λ n. given_to f s ≡ Fails n.kind)
      go (Gives w) is (Ok q) h = tt
      go (Gives w) is (Err n) h = absurd h
      go (Copies x past w) is (Ok q) h = tt
      go (Copies x past w) is (Err n) h = absurd h
      go (CopiesGroup l x b) is r h = absurd h
      go (Fails kind) is (Ok q) h = absurd h
      go (Fails kind) is (Err n) h = is ∙ ap Fails (sym h)
