-- What is written alike has the same calls, wherever it stands.
use Rattle.std.proofs.Common.{ℕ, suc, ◌≡◌, refl, List, [], ◌∷◌, ◌++◌, Bool, true, false, cond, ◌==◌, nat_lt, Option, None, Some, Ok, Err, ap, ap₂, sym, ◌∙◌, subst}
use Rattle.capnp_schema.specs.Query.{field_named, records_of}
use Rattle.capnp_schema.specs.Schema.{Schemas, field_at}
use Rattle.capnp_schema.specs.Types.{AnyPointerType, BoolType, DataType, EnumType, IntType, ListType, SchemaType, StructType, TextType, UIntType, VoidType}
use Rattle.capnp_records.specs.Call.{Call, PathStep, Set, VoidSource}
use Rattle.capnp_words.specs.Marked.{marked_value_by_word}
use Rattle.capnp_words.specs.Reads as word
use Rattle.capnp_records.specs.Record.{Value}
use Rattle.capnp_value_texts.specs.Calls.{Holder, InList, InStruct, PartsMake, Target, all_behind, at_place, begun, both_calls, counted, element_target, field_target, fields_calls, held_calls, is_given, items_calls, leaf_calls, list_begun, mark_of, most_parts, named_target, one_call, part_calls, part_count, parts_calls, root_calls, set_call, target_of, value_calls, void_calls}
use Rattle.capnp_value_texts.specs.Errors.{Read, read_as, refused}
use Rattle.capnp_value_laws.specs.Texts.{AreAlike, ArePartsAlike}
use Rattle.capnp_value_texts.specs.Written.{Fields, Items, Leaf, NoPart, Part, Parts, Written}
use Rattle.capnp_value_texts.specs.declared.error.Refusal.{Refusal}
use Rattle.capnp_value_texts.specs.declared.error.RefusalKind.TheVariants.{CannotStand, GivenTwice, SizePastFormat}
use Rattle.capnp_value_texts.specs.declared.parts.Bracket.{Bracket}
use Rattle.capnp_value_texts.specs.declared.parts.Bracket.TheVariants.{Round, Square}

-- what is read without a refusal is read there too
abbrev IsReadToo : {A : Type 0} → Read A → Read A → Type 0
IsReadToo {A} r q = (x : A) → r ≡ Ok x → q ≡ Ok x

not_ok : {A : Type 0} {e : Refusal} {x : A} → Err e ≡ Ok x → ⊥
not_ok e = cc

refused_read : {A : Type 0} (e : Refusal) (q : Read A) → IsReadToo (Err e) q
refused_read e q x is = absurd (not_ok is)

ok_read : {A : Type 0} (y : A) → IsReadToo (Ok y) (Ok y)
ok_read y x is = is

as_read : {A B : Type 0} (f : A → B) (r q : Read A) → IsReadToo r q → IsReadToo (read_as f r) (read_as f q)
as_read f (Ok y) q too x is = ap (read_as f) (too y refl) ∙ is
as_read f (Err e) q too x is = absurd (not_ok is)

counted_read : {A : Type 0} (place other count : ℕ) (r q : Read A) → IsReadToo r q → IsReadToo (counted place count r) (counted other count q)
counted_read place other count r q too x is = go (nat_lt most_parts count) is
  where
    go : (b : Bool) → cond b (refused SizePastFormat place) r ≡ Ok x → cond b (refused SizePastFormat other) q ≡ Ok x
    go true e = absurd (not_ok e)
    go false e = too x e

both_read : (r q s t : Read (List Call)) → IsReadToo r q → IsReadToo s t → IsReadToo (both_calls r s) (both_calls q t)
both_read (Ok cs) q (Ok ds) t first second x is = ap₂ both_calls (first cs refl) (second ds refl) ∙ is
both_read (Ok cs) q (Err e) t first second x is = absurd (not_ok is)
both_read (Err e) q s t first second x is = absurd (not_ok is)

leaf_read : (place other : ℕ) (t : Target) (r : word.Read Value) → IsReadToo (read_as (set_call t) (at_place place r)) (read_as (set_call t) (at_place other r))
leaf_read place other t (Ok v) x is = is
leaf_read place other t (Err inner) x is = absurd (not_ok is)

held_read : (place other count : ℕ) (step : PathStep) (first : List Call) (r q : Read (List Call)) → IsReadToo r q → IsReadToo (held_calls place count step first r) (held_calls other count step first q)
held_read place other count step first r q too = counted_read place other count (read_as (λ cs. first ++ all_behind step cs) r) (read_as (λ cs. first ++ all_behind step cs) q) (as_read (λ cs. first ++ all_behind step cs) r q too)

void_read : (place other count : ℕ) (t : Target) → IsReadToo (void_calls place count t) (void_calls other count t)
void_read place other count t x is = go (count == 0) is
  where
    go : (b : Bool) → cond b (Ok (one_call t.step (Set VoidSource))) (refused CannotStand place) ≡ Ok x → cond b (Ok (one_call t.step (Set VoidSource))) (refused CannotStand other) ≡ Ok x
    go true e = e
    go false e = absurd (not_ok e)

-- ---- by their types ----

module _ (place other count : ℕ) (parts parts' : PartsMake) (t : Target) where
  fields_read : (u : SchemaType) → ((b : ℕ) → IsReadToo (parts (InStruct b) 0 []) (parts' (InStruct b) 0 [])) → IsReadToo (fields_calls place count parts t u) (fields_calls other count parts' t u)
  fields_read VoidType too x is = void_read place other count t x is
  fields_read BoolType too x is = absurd (not_ok is)
  fields_read (IntType bytes) too x is = absurd (not_ok is)
  fields_read (UIntType bytes) too x is = absurd (not_ok is)
  fields_read (EnumType number) too x is = absurd (not_ok is)
  fields_read TextType too x is = absurd (not_ok is)
  fields_read DataType too x is = absurd (not_ok is)
  fields_read (StructType b g) too x is = held_read place other count t.step (begun t) (parts (InStruct b) 0 []) (parts' (InStruct b) 0 []) (too b) x is
  fields_read (ListType element) too x is = absurd (not_ok is)
  fields_read AnyPointerType too x is = absurd (not_ok is)

  items_read : (u : SchemaType) → ((e : SchemaType) → IsReadToo (parts (InList e t.floats) 0 []) (parts' (InList e t.floats) 0 [])) → IsReadToo (items_calls place count parts t u) (items_calls other count parts' t u)
  items_read VoidType too x is = absurd (not_ok is)
  items_read BoolType too x is = absurd (not_ok is)
  items_read (IntType bytes) too x is = absurd (not_ok is)
  items_read (UIntType bytes) too x is = absurd (not_ok is)
  items_read (EnumType number) too x is = absurd (not_ok is)
  items_read TextType too x is = absurd (not_ok is)
  items_read DataType too x is = absurd (not_ok is)
  items_read (StructType b g) too x is = absurd (not_ok is)
  items_read (ListType e) too x is = held_read place other count t.step (list_begun count t) (parts (InList e t.floats) 0 []) (parts' (InList e t.floats) 0 []) (too e) x is
  items_read AnyPointerType too x is = absurd (not_ok is)

-- a part and those behind it
part_read : (h : Holder) (index : ℕ) (value value' : Target → Read (List Call)) (rest rest' : PartsMake) (r q : Read (Target × List ℕ)) → IsReadToo r q → ((t : Target) → IsReadToo (value t) (value' t)) →
    ((given : List ℕ) → IsReadToo (rest h (suc index) given) (rest' h (suc index) given)) → IsReadToo (part_calls value rest h index r) (part_calls value' rest' h index q)
part_read h index value value' rest rest' (Ok t) q too values rests x is =
    ap (part_calls value' rest' h index) (too t refl) ∙ both_read (value t.0) (value' t.0) (rest h (suc index) t.1) (rest' h (suc index) t.1) (values t.0) (rests t.1) x is
part_read h index value value' rest rest' (Err e) q too values rests x is = absurd (not_ok is)

module _ (set : Schemas) where
  same_count : (k : Bracket) (ps qs : Parts) → ArePartsAlike k ps qs → part_count qs ≡ part_count ps
  same_count k NoPart NoPart alike = refl
  same_count k NoPart (Part other given v qs) alike = absurd alike
  same_count k (Part place name w ps) NoPart alike = absurd alike
  same_count k (Part place name w ps) (Part other given v qs) alike = ap suc (same_count k ps qs alike.2)

  -- a target is found or not, wherever its name stands
  target_read : (place other index b : ℕ) (name given : List ℕ) → IsReadToo (target_of set (InStruct b) index place name given) (target_of set (InStruct b) index other name given)
  target_read place other index b name given = named (field_named (records_of set b) name)
    where
      once : (i : ℕ) (q : Bool) → IsReadToo {A = Target × List ℕ} (cond q (refused GivenTwice place) (Ok (field_target (field_at set b i) i, given ++ mark_of (field_at set b i) i ∷ []))) (cond q (refused GivenTwice other) (Ok (field_target (field_at set b i) i, given ++ mark_of (field_at set b i) i ∷ [])))
      once i true x is = absurd (not_ok is)
      once i false x is = is

      named : (o : Option ℕ) → IsReadToo (named_target set b place given o) (named_target set b other given o)
      named None x is = absurd (not_ok is)
      named (Some i) x is = once i (is_given (mark_of (field_at set b i) i) given) x is

  mutual
    value_read : (w v : Written) (t : Target) → AreAlike w v → IsReadToo (value_calls set w t) (value_calls set v t)
    value_read (Leaf place bs) (Leaf other cs) t alike =
        subst (λ xs. IsReadToo (leaf_calls set place bs t) (leaf_calls set other xs t)) alike (leaf_read place other t (marked_value_by_word set t.floats t.type bs))
    value_read (Leaf place bs) (Fields other qs) t alike = absurd alike
    value_read (Leaf place bs) (Items other qs) t alike = absurd alike
    value_read (Fields place ps) (Leaf other cs) t alike = absurd alike
    value_read (Fields place ps) (Fields other qs) t alike =
        subst (λ n. IsReadToo (fields_calls place (part_count ps) (parts_calls set ps) t t.type) (fields_calls other n (parts_calls set qs) t t.type)) (sym (same_count Round ps qs alike))
        (fields_read place other (part_count ps) (parts_calls set ps) (parts_calls set qs) t t.type (λ b. fields_parts_read ps qs b 0 [] alike))
    value_read (Fields place ps) (Items other qs) t alike = absurd alike
    value_read (Items place ps) (Leaf other cs) t alike = absurd alike
    value_read (Items place ps) (Fields other qs) t alike = absurd alike
    value_read (Items place ps) (Items other qs) t alike =
        subst (λ n. IsReadToo (items_calls place (part_count ps) (parts_calls set ps) t t.type) (items_calls other n (parts_calls set qs) t t.type)) (sym (same_count Square ps qs alike))
        (items_read place other (part_count ps) (parts_calls set ps) (parts_calls set qs) t t.type (λ e. items_parts_read ps qs e t.floats 0 [] alike))

    fields_parts_read : (ps qs : Parts) (b index : ℕ) (given : List ℕ) → ArePartsAlike Round ps qs → IsReadToo (parts_calls set ps (InStruct b) index given) (parts_calls set qs (InStruct b) index given)
    fields_parts_read NoPart NoPart b index given alike = λ x is. is
    fields_parts_read NoPart (Part other named v qs) b index given alike = absurd alike
    fields_parts_read (Part place name w ps) NoPart b index given alike = absurd alike
    fields_parts_read (Part place name w ps) (Part other named v qs) b index given alike =
        part_read (InStruct b) index (value_calls set w) (value_calls set v) (parts_calls set ps) (parts_calls set qs)
        (target_of set (InStruct b) index place name given) (target_of set (InStruct b) index other named given)
        (subst (λ xs. IsReadToo (target_of set (InStruct b) index place name given) (target_of set (InStruct b) index other xs given)) alike.0 (target_read place other index b name given))
        (λ t. value_read w v t alike.1) (λ marks. fields_parts_read ps qs b (suc index) marks alike.2)

    items_parts_read : (ps qs : Parts) (e : SchemaType) (floats : Bool) (index : ℕ) (given : List ℕ) → ArePartsAlike Square ps qs → IsReadToo (parts_calls set ps (InList e floats) index given) (parts_calls set qs (InList e floats) index given)
    items_parts_read NoPart NoPart e floats index given alike = λ x is. is
    items_parts_read NoPart (Part other named v qs) e floats index given alike = absurd alike
    items_parts_read (Part place name w ps) NoPart e floats index given alike = absurd alike
    items_parts_read (Part place name w ps) (Part other named v qs) e floats index given alike =
        part_read (InList e floats) index (value_calls set w) (value_calls set v) (parts_calls set ps) (parts_calls set qs)
        (Ok (element_target e floats index, given)) (Ok (element_target e floats index, given)) (ok_read (element_target e floats index, given))
        (λ t. value_read w v t alike.1) (λ marks. items_parts_read ps qs e floats (suc index) marks alike.2)

-- what is written alike has the same calls, where none is refused
pub alike_calls : (set : Schemas) (w v : Written) (t : Target) (calls : List Call) → AreAlike w v → value_calls set w t ≡ Ok calls → value_calls set v t ≡ Ok calls
alike_calls set w v t calls alike is = value_read set w v t alike calls is

-- and so a root
pub alike_root : (set : Schemas) (b : ℕ) (w v : Written) (calls : List Call) → AreAlike w v → root_calls set b w ≡ Ok calls → root_calls set b v ≡ Ok calls
alike_root set b (Leaf place bs) v calls alike is = absurd (not_ok is)
alike_root set b (Items place ps) v calls alike is = absurd (not_ok is)
alike_root set b (Fields place ps) (Leaf other cs) calls alike is = absurd alike
alike_root set b (Fields place ps) (Items other qs) calls alike is = absurd alike
alike_root set b (Fields place ps) (Fields other qs) calls alike is =
    ap (λ n. counted other n (parts_calls set qs (InStruct b) 0 [])) (same_count set Round ps qs alike)
    ∙ counted_read place other (part_count ps) (parts_calls set ps (InStruct b) 0 []) (parts_calls set qs (InStruct b) 0 []) (fields_parts_read set ps qs b 0 [] alike) calls is
