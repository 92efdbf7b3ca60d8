-- What look-ups in a set's tables answer.
use Rattle.std.proofs.Common.{ℕ, zero, suc, ◌≡◌, ◌<◌, ◌+◌, List, [], ◌∷◌, ◌++◌, Some, None, add-one, drop, length, map, slice_get, Option, ⊎_elim, refl, sym, ap, ◌∙◌, subst, arith}
use Rattle.std.specs.Option.{unwrap_or}
use Rattle.std.proofs.Math.Seq.{drop-cons}
use Rattle.std.proofs.lemmas.List.{append_assoc, length-map}
use Rattle.std.proofs.lemmas.Bool.{cases_lt}
use Rattle.std.proofs.lemmas.Option.{slice_get_within, unwrap_or-slice_get}
use Rattle.capnp_schema.specs.Types.{SchemaType}
use Rattle.capnp_schema.specs.Schema.{Schemas, Brand, Field, Node, TypedField, no_brand, no_field, node_at, node_of, brand_at, fields_of, field_at, typed_fields}
use Rattle.capnp_schema.specs.Entries.{lists_seen}
use Rattle.capnp_schema.specs.Steps.Entries.{brand_node}
use Rattle.capnp_schema.specs.Accepted.{IsAccepted}
use Rattle.capnp_schema.specs.Plan.{IsPlan, LiesInNode, plan_of}
use Rattle.capnp_schema.specs.Ranges.{HasRanges}
use Rattle.capnp_schema.specs.Query.{records_of}
use Rattle.capnp_schema.specs.declared.lists.Lists.{Lists}
use Rattle.capnp_schema.specs.declared.plan.SlotPlan.{SlotPlan}
use Rattle.capnp_schema.specs.declared.tables.FieldTables.{FieldTables}
use Rattle.capnp_schema.specs.Tables.{AreTables}
use Rattle.capnp_schema.specs.Steps.Tables.{no_plan}
use Rattle.capnp_schema.proofs.FoundEntries.{found_field, found_node}
use Rattle.capnp_schema.proofs.GroupTargets.{no_fields}
use Rattle.capnp_schema.proofs.Plans.{lies_in_node, plans_stand}
use Rattle.capnp_schema.specs.Facts.Fields.{typed_nothing}

-- ---- a set and what is kept in it ----

pub accepted_seen : {kept seen : Lists} → kept ≡ seen → IsAccepted (lists_seen kept) → IsAccepted (lists_seen seen)
accepted_seen same accepted = subst (λ (l : Lists). IsAccepted (lists_seen l)) same accepted

pub tables_seen : {kept seen : Lists} {tables : FieldTables} → kept ≡ seen → AreTables (lists_seen kept) tables → AreTables (lists_seen seen) tables
tables_seen {kept} {seen} {tables} same are = subst (λ (l : Lists). AreTables (lists_seen l) tables) same are

pub ranges_seen : {kept seen : Lists} → kept ≡ seen → HasRanges (lists_seen kept) → HasRanges (lists_seen seen)
ranges_seen same ranges = subst (λ (l : Lists). HasRanges (lists_seen l)) same ranges

-- ---- the fields of a brand ----

records_typed : (fs : List Field) (ts : List SchemaType) → length ts ≡ length fs → map (λ (f : TypedField). f.field) (typed_fields fs ts) ≡ fs
records_typed [] ts e = refl
records_typed (f ∷ fs) [] e = absurd (omega arith)
records_typed (f ∷ fs) (t ∷ ts) e = ap (λ (gs : List Field). f ∷ gs) (records_typed fs ts (omega arith))

-- a brand that is there has the fields of its node
pub records_inside : (set : Schemas) → IsAccepted set → (b : ℕ) → b < length set.brands → records_of set b ≡ (node_of set b).fields
records_inside set accepted b h = records_typed (node_of set b).fields (brand_at set b).field_types (accepted.rule2.brands b h).types.0

pub counted_fields : (set : Schemas) → IsAccepted set → (b : ℕ) → b < length set.brands → length (fields_of set b) ≡ length (node_of set b).fields
counted_fields set accepted b h = sym (length-map (fields_of set b) (λ (f : TypedField). f.field)) ∙ ap (λ (fs : List Field). length fs) (records_inside set accepted b h)

pub records_here : (set : Schemas) → IsAccepted set → (b : ℕ) (x : Brand) → Some x ≡ slice_get set.brands b → records_of set b ≡ (node_at set x.node).fields
records_here set accepted b x is =
    records_inside set accepted b (slice_get_within set.brands b x (sym is))
    ∙ ap (λ (o : Option Brand). (node_at set (unwrap_or o (no_brand set)).node).fields) (sym is)

-- and one past the last has none
pub no_records : (set : Schemas) (b : ℕ) → None ≡ slice_get set.brands b → records_of set b ≡ []
no_records set b is = ap (λ (o : Option Brand). map (λ (f : TypedField). f.field) (typed_fields (node_at set (unwrap_or o (no_brand set)).node).fields (unwrap_or o (no_brand set)).field_types)) (sym is) ∙ ap (λ (fs : List TypedField). map (λ (f : TypedField). f.field) fs) (typed_nothing (node_at set (length set.nodes)).fields)

-- ---- plans ----

abbrev planned : Schemas → ℕ → List TypedField → List SlotPlan
planned set b fs = map (plan_of set b) fs

plan_at : (set : Schemas) (b : ℕ) (fs : List TypedField) (i : ℕ) → unwrap_or (slice_get (planned set b fs) i) no_plan ≡ plan_of set b (unwrap_or (slice_get fs i) no_field)
plan_at set b [] i = refl
plan_at set b (f ∷ fs) zero = refl
plan_at set b (f ∷ fs) (suc i) = plan_at set b fs i

pub plan_here : (set : Schemas) (b i : ℕ) (plans : List SlotPlan) → plans ≡ map (plan_of set b) (fields_of set b) → unwrap_or (slice_get plans i) no_plan ≡ plan_of set b (field_at set b i)
plan_here set b i plans are = ap (λ (ps : List SlotPlan). unwrap_or (slice_get ps i) no_plan) are ∙ plan_at set b (fields_of set b) i

-- the plan of a field is one
pub plan_stands : (set : Schemas) → IsAccepted set → HasRanges set → (b i : ℕ) (plan : SlotPlan) → plan ≡ plan_of set b (field_at set b i) → i < length (fields_of set b) → IsPlan set b (field_at set b i) plan
plan_stands set accepted ranges b i plan is h = subst (IsPlan set b (field_at set b i)) (sym is) (plans_stand set accepted ranges b i inside h).1
  where
    inside : b < length set.brands
    inside = ⊎_elim (λ less. less) (λ past. let none = ap (λ (fs : List TypedField). length fs) (no_fields set b past) in absurd (omega (arith, none, h))) (cases_lt b (length set.brands))

pub lies_here : (set : Schemas) → IsAccepted set → (b i : ℕ) → b < length set.brands → i < length (fields_of set b) → (n : Node) (f : TypedField) → Some n ≡ brand_node set b → Some f ≡ slice_get (fields_of set b) i → LiesInNode n f
lies_here set accepted b i b_in i_in n f is here =
    subst (LiesInNode n) (found_field set b i f here) (subst (λ (m : Node). LiesInNode m (field_at set b i)) (found_node set b n is) (lies_in_node set accepted b i b_in i_in))

-- a walk that has the plans of the fields before i, and makes the next
pub plan_next : (set : Schemas) (b i : ℕ) (plans : List SlotPlan) (whole : List SlotPlan) → i < length (fields_of set b) → plans ++ map (plan_of set b) (drop i (fields_of set b)) ≡ whole → (plans ++ plan_of set b (field_at set b i) ∷ []) ++ map (plan_of set b) (drop (i + 1) (fields_of set b)) ≡ whole
plan_next set b i plans whole h so =
    append_assoc plans (plan_of set b (field_at set b i) ∷ []) (planned set b (drop (i + 1) (fields_of set b)))
    ∙ ap (λ (fs : List TypedField). plans ++ planned set b fs) (sym (next (fields_of set b) i h))
    ∙ so
  where
    next : (fs : List TypedField) (i : ℕ) → i < length fs → drop i fs ≡ unwrap_or (slice_get fs i) no_field ∷ drop (i + 1) fs
    next fs i h = drop-cons fs i no_field h ∙ ap (λ (f : TypedField). f ∷ drop (suc i) fs) (sym (unwrap_or-slice_get fs i no_field)) ∙ ap (λ (k : ℕ). unwrap_or (slice_get fs i) no_field ∷ drop k fs) (sym (add-one i))
