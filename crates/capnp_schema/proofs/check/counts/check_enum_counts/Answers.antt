-- An enum is refused for too many enumerants, for its own annotations or for those of one enumerant; each breaks the small
-- counts. The enumerant's index is below their count.
use Rattle.std.proofs.Common.{◌≡◌, List, ap, arith, length, map, sym}
use Rattle.std.proofs.lemmas.List.{length-map}
use Rattle.capnp_schema.specs.Accepted.{HasFewAnnotations}
use Rattle.capnp_schema.specs.Schema.{Enumerant, seen_enum, seen_enumerant}
use Rattle.capnp_schema.specs.declared.record.EnumerantRecord.{EnumerantRecord}
use Rattle.capnp_schema.proofs.EntryWalk.{breaks_within}
use Rattle.capnp_schema.proofs.Checking.SmallCounts.{crowded_enum, annotated_enum, annotated_enumerant}
use Rattle.capnp_schema.proofs.Checking.FieldWalk.{refused}
use Rattle.capnp_schema.proofs.check.counts.check_enum_counts.Goals as goal

pub returns-then-len-gt-MOST_ENTRIES : goal.returns-then-len-gt-MOST_ENTRIES
returns-then-len-gt-MOST_ENTRIES c = refused _ _ _ _ _ _ c.refusal.ensures
    (crowded_enum _ _ (seen_enum c.in-Some.schema.now) (sym c.in-Some.ensures) (let n = length-map c.in-Some.schema.now.enumerants.items seen_enumerant in omega arith))

pub returns-then-not-are_few : goal.returns-then-not-are_few
returns-then-not-are_few c = refused _ _ _ _ _ _ c.refusal-then-not-are_few.ensures
    (annotated_enum _ _ (seen_enum c.in-Some.schema.now) (sym c.in-Some.ensures) (λ few. let t = c.are_few.ensures.1 (rw (← c.deref.ensures.value) at few) in cc))

pub overflow_cast-field : goal.overflow_cast-field
overflow_cast-field c =
    let all : c.deref-2.result.now ≡ c.in-Some.schema.now.enumerants.items = c.deref-2.ensures.value in
    let inside = breaks_within (map seen_enumerant c.deref-2.result.now) (λ (x : Enumerant). HasFewAnnotations x.annotations) c.in-Some-broken_entry.field c.in-Some-broken_entry.ensures in
    let n = length-map c.deref-2.result.now seen_enumerant in
    let m = ap (λ (l : List EnumerantRecord). length l) all in
    omega arith

pub returns-in-Some-broken_entry : goal.returns-in-Some-broken_entry
returns-in-Some-broken_entry c = refused _ _ _ _ _ _ c.refusal-in-Some-broken_entry.ensures
    (annotated_enumerant _ _ (seen_enum c.in-Some.schema.now) (sym c.in-Some.ensures) _ (rw c.deref-2.ensures.value at c.in-Some-broken_entry.ensures))
