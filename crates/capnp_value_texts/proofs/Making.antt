-- The calls of values and parts, as they are added.
use Rattle.std.proofs.Common.{◌≡◌, ℕ, suc, ◌≤◌, refl, List, [], ◌∷◌, ◌++◌, Bool, false, cond, length, nat_lt, Result, Ok, Err, ap, sym, ◌∙◌, subst, arith}
use Rattle.std.specs.Prelude.{OnOk}
use Rattle.std.specs.declared.alloc.Global.{Global}
use Rattle.std.specs.declared.vec.Vec.{Vec}
use Rattle.std.proofs.lemmas.Bool.Decides.{nat_tests}
use Rattle.capnp_base.specs.declared.introspect.RawBrandedStructSchema.{RawBrandedStructSchema}
use Rattle.capnp_base.specs.declared.introspect.TypeVariant.{TypeVariant}
use Rattle.capnp_base.specs.declared.introspect.TypeVariant.TheVariants as variant
use Rattle.capnp_schema.specs.Schema.{Schemas}
use Rattle.capnp_schema.specs.Types.{SchemaType, seen_type, seen_variant}
use Rattle.capnp_records.specs.Call.{Call, PathStep, Set}
use Rattle.capnp_records.specs.Record.{Value}
use Rattle.capnp_call.specs.Seen.{step_seen}
use Rattle.capnp_call.specs.declared.calls.Step.{Step}
use Rattle.capnp_words.specs.Seen.{word_value_seen, word_value_type}
use Rattle.capnp_words.specs.declared.value.PlainValue.{PlainValue}
use Rattle.capnp_value_texts.specs.Calls.{Holder, InStruct, PartsMake, Target, all_behind, both_calls, counted, fields_calls, held_calls, items_calls, most_parts, one_call, part_calls, part_count, parts_calls, root_calls, set_call, source_taken, value_calls}
use Rattle.capnp_value_texts.specs.Errors.{IsErrorOf, Read, read_as, refused}
use Rattle.capnp_value_texts.specs.Made.{calls_made}
use Rattle.capnp_value_texts.specs.Seen.{shown_view}
use Rattle.capnp_value_texts.specs.Steps.Seen.{parts_view}
use Rattle.capnp_value_texts.specs.Steps.Adding.{Adds, AddsRead, one_made}
use Rattle.capnp_value_texts.specs.TargetsSeen.{target_seen}
use Rattle.capnp_value_texts.specs.declared.error.Error.{Error}
use Rattle.capnp_value_texts.specs.declared.error.Error.TheVariants.{NotMade, OutOfMemory, Refused}
use Rattle.capnp_value_texts.specs.declared.error.RefusalKind.TheVariants.{CannotStand, SizePastFormat}
use Rattle.capnp_value_texts.specs.declared.made.Goal.TheVariants as goal
use Rattle.capnp_value_texts.specs.declared.made.Made.{Made}
use Rattle.capnp_value_texts.specs.declared.shown.Shown.{Shown}
use Rattle.capnp_value_texts.specs.declared.shown.Shown.TheVariants as shown
use Rattle.capnp_value_texts.specs.declared.target.Target.{Target as TargetHeld}
use Rattle.capnp_value_texts.proofs.Added.{added_alone, adds_behind, adds_both, append_both, append_none}
use Rattle.capnp_value_texts.proofs.Refusals.{error_as}
use Rattle.capnp_value_texts.proofs.Trees.{PartHeld, view_fields, view_items}
use Rattle.capnp_value_texts.specs.Written.{Written}

-- ---- a leaf ----

pub leaf_made : (t : TargetHeld) (v : PlainValue) (path : List Step) (old new : List Made) (r : Read Value) → r ≡ Ok (word_value_seen v) → word_value_type v ≡ seen_type t.of
    → Adds path old new (one_made t.step (goal.Put v)) → AddsRead path old new (read_as (set_call (target_seen t)) r)
leaf_made t v path old new r is typed adds =
    subst (λ (q : Read Value). AddsRead path old new (read_as (set_call (target_seen t)) q)) (sym is)
    (subst (λ (u : SchemaType). Adds path old new (one_call (step_seen t.step) (Set (source_taken u (word_value_seen v))))) typed adds)

-- ---- brackets ----

pub within_most : {A : Type 0} (place count : ℕ) (r : Read A) → count ≤ most_parts → counted place count r ≡ r
within_most place count r h = let e : nat_lt most_parts count ≡ false = grind (arith, nat_tests) in ap (λ (b : Bool). cond b (refused SizePastFormat place) r) e

pub held_made : (place count : ℕ) (path inner : List Step) (step : Step) (old mid new : List Made) (first : List Call) (parts : Read (List Call)) → count ≤ most_parts → inner ≡ (path ++ step ∷ [])
    → Adds path old mid first → AddsRead inner mid new parts → AddsRead path old new (held_calls place count (step_seen step) first parts)
held_made place count path inner step old mid new first (Err r) h is begun adds = absurd adds
held_made place count path inner step old mid new first (Ok cs) h is begun adds =
    subst (AddsRead path old new) (sym (within_most place count (read_as (λ ds. first ++ all_behind (step_seen step) ds) (Ok cs)) h))
    (adds_both path old mid new first (all_behind (step_seen step) cs) begun (adds_behind path inner step mid new cs is adds))

pub held_failed : (place count : ℕ) (step : PathStep) (first : List Call) (parts : Read (List Call)) (e : Error) → count ≤ most_parts → IsErrorOf parts e → IsErrorOf (held_calls place count step first parts) e
held_failed place count step first parts e h is =
    subst (λ (r : Read (List Call)). IsErrorOf r e) (sym (within_most place count (read_as (λ ds. first ++ all_behind step ds) parts) h)) (error_as (λ ds. first ++ all_behind step ds) parts e is)

-- ---- parts ----

-- what is read of the whole is what was added, and then what is read of the rest
pub record IsGoing (path : List Step) (old new : List Made) (whole rest : Read (List Call)) : Type 0 where
  pub calls : List Call
  pub whole_is : whole ≡ both_calls (Ok calls) rest
  pub adds : Adds path old new calls

both_none : (r : Read (List Call)) → r ≡ both_calls (Ok []) r
both_none (Ok cs) = refl
both_none (Err x) = refl

pub begins : (path : List Step) (old : List Made) (whole : Read (List Call)) → IsGoing path old old whole whole
begins path old whole = record { calls = []; whole_is = both_none whole; adds = sym (append_none (calls_made old)) }

both_behind : (cs ds : List Call) (r : Read (List Call)) → both_calls (Ok cs) (both_calls (Ok ds) r) ≡ both_calls (Ok (cs ++ ds)) r
both_behind cs ds (Ok es) = ap Ok (sym (append_both cs ds es))
both_behind cs ds (Err x) = refl

goes_by : (path : List Step) (old mid new : List Made) (whole made rest : Read (List Call)) → IsGoing path old mid whole (both_calls made rest) → AddsRead path mid new made → IsGoing path old new whole rest
goes_by path old mid new whole (Err x) rest g adds = absurd adds
goes_by path old mid new whole (Ok ds) rest g adds = record {
  calls = g.calls ++ ds;
  whole_is = g.whole_is ∙ both_behind g.calls ds rest;
  adds = adds_both path old mid new g.calls ds g.adds adds;
}

pub goes_on : (path : List Step) (old mid new : List Made) (whole : Read (List Call)) (value : Target → Read (List Call)) (rest : PartsMake) (h : Holder) (i j : ℕ) (target : Read (Target × List ℕ)) (t : Target) (given : List ℕ) → suc i ≡ j
    → IsGoing path old mid whole (part_calls value rest h i target) → target ≡ Ok (t, given) → AddsRead path mid new (value t) → IsGoing path old new whole (rest h j given)
goes_on path old mid new whole value rest h i j target t given next g is adds =
    subst (λ (k : ℕ). IsGoing path old new whole (rest h k given)) next
    (goes_by path old mid new whole (value t) (rest h (suc i) given) (subst (λ (r : Read (Target × List ℕ)). IsGoing path old mid whole (part_calls value rest h i r)) is g) adds)

both_end : (cs : List Call) → both_calls (Ok cs) (Ok []) ≡ Ok cs
both_end cs = ap Ok (append_none cs)

pub ends : (path : List Step) (old new : List Made) (whole rest : Read (List Call)) → rest ≡ Ok [] → IsGoing path old new whole rest → AddsRead path old new whole
ends path old new whole rest is g = subst (AddsRead path old new) (sym (g.whole_is ∙ (ap (both_calls (Ok g.calls)) is ∙ both_end g.calls))) g.adds

error_behind : (cs : List Call) (r : Read (List Call)) (e : Error) → IsErrorOf r e → IsErrorOf (both_calls (Ok cs) r) e
error_behind cs r OutOfMemory h = tt
error_behind cs r (NotMade kind) h = absurd h
error_behind cs r (Refused x) h = ap (both_calls (Ok cs)) h

error_first : (r rest : Read (List Call)) (e : Error) → IsErrorOf r e → IsErrorOf (both_calls r rest) e
error_first r rest OutOfMemory h = tt
error_first r rest (NotMade kind) h = absurd h
error_first r rest (Refused x) h = ap (λ q. both_calls q rest) h

error_target : (value : Target → Read (List Call)) (rest : PartsMake) (h : Holder) (i : ℕ) (target : Read (Target × List ℕ)) (e : Error) → IsErrorOf target e → IsErrorOf (part_calls value rest h i target) e
error_target value rest h i target OutOfMemory is = tt
error_target value rest h i target (NotMade kind) is = absurd is
error_target value rest h i target (Refused x) is = ap (part_calls value rest h i) is

whole_fails : (path : List Step) (old new : List Made) (whole rest : Read (List Call)) (e : Error) → IsGoing path old new whole rest → IsErrorOf rest e → IsErrorOf whole e
whole_fails path old new whole rest e g is = subst (λ (r : Read (List Call)). IsErrorOf r e) (sym g.whole_is) (error_behind g.calls rest e is)

pub target_fails : (path : List Step) (old new : List Made) (whole : Read (List Call)) (value : Target → Read (List Call)) (rest : PartsMake) (h : Holder) (i : ℕ) (target : Read (Target × List ℕ)) (e : Error)
    → IsGoing path old new whole (part_calls value rest h i target) → IsErrorOf target e → IsErrorOf whole e
target_fails path old new whole value rest h i target e g is = whole_fails path old new whole (part_calls value rest h i target) e g (error_target value rest h i target e is)

pub value_fails : (path : List Step) (old new : List Made) (whole : Read (List Call)) (value : Target → Read (List Call)) (rest : PartsMake) (h : Holder) (i : ℕ) (target : Read (Target × List ℕ)) (t : Target) (given : List ℕ) (e : Error)
    → IsGoing path old new whole (part_calls value rest h i target) → target ≡ Ok (t, given) → IsErrorOf (value t) e → IsErrorOf whole e
value_fails path old new whole value rest h i target t given e g is fails =
    whole_fails path old new whole (part_calls value rest h i target) e g
    (subst (λ (r : Read (Target × List ℕ)). IsErrorOf (part_calls value rest h i r) e) (sym is) (error_first (value t) (rest h (suc i) given) e fails))

-- ---- alone ----

pub made_alone : (path : List Step) (old new : List Made) (r : Read (List Call)) → path ≡ [] → old ≡ [] → AddsRead path old new r → r ≡ Ok (calls_made new)
made_alone path old new (Err x) at_root nothing adds = absurd adds
made_alone path old new (Ok cs) at_root nothing adds = ap Ok (sym (added_alone path old new cs at_root nothing adds))

-- ---- values ----

pub on_ok : {P Q : Type 0} (r : Result (Unit {0}) Error) → (P → Q) → OnOk r P → OnOk r Q
on_ok (Ok x) f p = f p
on_ok (Err e) f p = p

count_is : (ps : List PartHeld) → part_count (parts_view ps) ≡ length ps
count_is [] = refl
count_is (p ∷ ps) = ap suc (count_is ps)

pub fields_value : (set : Schemas) (s : Shown) (place : ℕ) (ps : Vec PartHeld Global) (t : Target) → s ≡ shown.Fields place ps
    → value_calls set (shown_view s) t ≡ fields_calls place (length ps.items) (parts_calls set (parts_view ps.items)) t t.type
fields_value set s place ps t is =
    ap (λ x. value_calls set (shown_view x) t) is
    ∙ (ap (λ (w : Written). value_calls set w t) (view_fields place ps) ∙ ap (λ n. fields_calls place n (parts_calls set (parts_view ps.items)) t t.type) (count_is ps.items))

pub items_value : (set : Schemas) (s : Shown) (place : ℕ) (ps : Vec PartHeld Global) (t : Target) → s ≡ shown.Items place ps
    → value_calls set (shown_view s) t ≡ items_calls place (length ps.items) (parts_calls set (parts_view ps.items)) t t.type
items_value set s place ps t is =
    ap (λ x. value_calls set (shown_view x) t) is
    ∙ (ap (λ (w : Written). value_calls set w t) (view_items place ps) ∙ ap (λ n. items_calls place n (parts_calls set (parts_view ps.items)) t t.type) (count_is ps.items))

pub root_fields_is : (set : Schemas) (b : ℕ) (s : Shown) (place : ℕ) (ps : Vec PartHeld Global) → s ≡ shown.Fields place ps
    → root_calls set b (shown_view s) ≡ counted place (length ps.items) (parts_calls set (parts_view ps.items) (InStruct b) 0 [])
root_fields_is set b s place ps is =
    ap (λ x. root_calls set b (shown_view x)) is
    ∙ (ap (root_calls set b) (view_fields place ps) ∙ ap (λ n. counted place n (parts_calls set (parts_view ps.items) (InStruct b) 0 [])) (count_is ps.items))

-- round brackets under a type that is neither void nor a struct
pub no_fields : (place count : ℕ) (parts : PartsMake) (t : Target) (v : TypeVariant) → (v ≡ variant.Void → ⊥) → ((raw : RawBrandedStructSchema) → v ≡ variant.Struct raw → ⊥)
    → fields_calls place count parts t (seen_variant v) ≡ refused CannotStand place
no_fields place count parts t variant.Void h k = absurd (h refl)
no_fields place count parts t variant.Bool h k = refl
no_fields place count parts t variant.Int8 h k = refl
no_fields place count parts t variant.Int16 h k = refl
no_fields place count parts t variant.Int32 h k = refl
no_fields place count parts t variant.Int64 h k = refl
no_fields place count parts t variant.UInt8 h k = refl
no_fields place count parts t variant.UInt16 h k = refl
no_fields place count parts t variant.UInt32 h k = refl
no_fields place count parts t variant.UInt64 h k = refl
no_fields place count parts t variant.Text h k = refl
no_fields place count parts t variant.«Data» h k = refl
no_fields place count parts t (variant.Struct raw) h k = absurd (k raw refl)
no_fields place count parts t variant.AnyPointer h k = refl
no_fields place count parts t (variant.Enum raw) h k = refl
no_fields place count parts t (variant.List e) h k = refl
