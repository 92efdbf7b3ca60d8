-- The calls of parts, one after another: each is found, and what is given once isn't given again.
use Rattle.std.proofs.Common.{ℕ, suc, ◌+◌, ◌<◌, ◌≤◌, ◌≡◌, refl, List, [], ◌∷◌, ◌++◌, Bool, true, false, cond, nat_lt, ◌==◌, ◌||◌, Some, Ok, arith, ap, ap₂, ◌∙◌}
use Rattle.std.proofs.lemmas.Bool.{le-ltb, ne_eqb, true≢false}
use Rattle.capnp_schema.specs.Query.{field_named, records_of}
use Rattle.capnp_schema.specs.Schema.{Schemas, TypedField, field_at}
use Rattle.capnp_schema.specs.Types.{SchemaType}
use Rattle.capnp_records.specs.Call.{Call, PathStep}
use Rattle.capnp_records.specs.Record.{Value}
use Rattle.capnp_diffs.proofs.Walked.{IsSolid, Nest}
use Rattle.capnp_value_texts.specs.Calls.{InStruct, Target, all_behind, both_calls, counted, field_target, held_calls, is_given, mark_of, most_parts, named_target, part_calls, part_count, parts_calls, target_of, value_calls}
use Rattle.capnp_value_texts.specs.Errors.{Read, read_as, refused}
use Rattle.capnp_value_texts.specs.Written.{NoPart, Part, Parts, Written}
use Rattle.capnp_value_texts.specs.declared.error.RefusalKind.TheVariants.{GivenTwice, SizePastFormat}
use Rattle.capnp_value_laws.specs.Trees.{both_parts}
use Rattle.capnp_value_laws.proofs.CallsLead.{CallsLead, lead_behind, lead_both, lead_from}

-- ---- what is made by what is read ----

-- no refusal: calls, which lead from one value to another
pub record IsMade (set : Schemas) (s : SchemaType) (here : Value) (r : Read (List Call)) (w : Value) : Type 0 where
  pub calls : List Call
  pub read : r ≡ Ok calls
  pub leads : CallsLead set s here calls w

-- so many parts are not too many
pub few_read : {A : Type 0} (place count : ℕ) (r : Read A) → count ≤ most_parts → counted place count r ≡ r
few_read place count r few = counts (nat_lt most_parts count) (le-ltb most_parts count few)
  where
    counts : (b : Bool) → b ≡ false → cond b (refused SizePastFormat place) r ≡ r
    counts true e = absurd (true≢false e)
    counts false e = refl

module _ (set : Schemas) (s : SchemaType) where
  pub made_both : (here m w : Value) (r q : Read (List Call)) → IsMade set s here r m → IsMade set s m q w → IsMade set s here (both_calls r q) w
  made_both here m w r q first second = record {
    calls = first.calls ++ second.calls;
    read = ap₂ both_calls first.read second.read;
    leads = lead_both set s here m w first.calls second.calls first.leads second.leads;
  }

  pub made_from : (here here' w w' : Value) (r r' : Read (List Call)) → here ≡ here' → w ≡ w' → r' ≡ r → IsMade set s here r w → IsMade set s here' r' w'
  made_from here here' w w' r r' e f is made = record {
    calls = made.calls;
    read = is ∙ made.read;
    leads = lead_from set s here here' w w' made.calls e f made.leads;
  }

  -- what is begun, and then its parts behind the step
  pub made_held : (u : SchemaType) (step : PathStep) (put : Value → Value) (here p q : Value) (place count : ℕ) (first : List Call) (r : Read (List Call)) → count ≤ most_parts →
      CallsLead set s here first (put p) → Nest set s u step put → IsSolid p → IsMade set u p r q → IsMade set s here (held_calls place count step first r) (put q)
  made_held u step put here p q place count first r few begun nest solid made = record {
    calls = first ++ all_behind step made.calls;
    read = few_read place count (read_as (λ cs. first ++ all_behind step cs) r) few ∙ ap (read_as (λ cs. first ++ all_behind step cs)) made.read;
    leads = lead_both set s here (put p) (put q) first (all_behind step made.calls) begun (lead_behind set s u step put nest made.calls p q solid made.leads);
  }

-- ---- what is given ----

-- what is given is none of these
pub given_more : (mark x : ℕ) (given : List ℕ) → is_given mark given ≡ false → (mark == x) ≡ false → is_given mark (given ++ x ∷ []) ≡ false
given_more mark x [] e f = ap (λ q. q || false) f
given_more mark x (m ∷ given) e f = ap₂ (λ a b. a || b) (left (mark == m) (is_given mark given) e) (given_more mark x given (right (mark == m) (is_given mark given) e) f)
  where
    left : (a b : Bool) → (a || b) ≡ false → a ≡ false
    left true b e = absurd (true≢false e)
    left false b e = refl

    right : (a b : Bool) → (a || b) ≡ false → b ≡ false
    right true b e = absurd (true≢false e)
    right false b e = e

-- no field from an index on is given
abbrev pub IsFresh : (index : ℕ) → (given : List ℕ) → Type 0
IsFresh i given = (mark : ℕ) → i ≤ mark → mark < 65536 → is_given mark given ≡ false

pub fresh_after : (i : ℕ) (given : List ℕ) → IsFresh i given → IsFresh (suc i) given
fresh_after i given fresh mark h k = fresh mark (omega (arith, h)) k

pub fresh_more : (i : ℕ) (given : List ℕ) → IsFresh i given → IsFresh (suc i) (given ++ i ∷ [])
fresh_more i given fresh mark h k = given_more mark i given (fresh mark (omega (arith, h)) k) (ne_eqb mark i (λ e. omega (arith, e, h)))

pub fresh_union : (i : ℕ) (given : List ℕ) → IsFresh i given → IsFresh i (given ++ 65536 ∷ [])
fresh_union i given fresh mark h k = given_more mark 65536 given (fresh mark h k) (ne_eqb mark 65536 (λ e. omega (arith, e, k)))

-- ---- a part and those behind it ----

module _ (set : Schemas) (b : ℕ) (name : List ℕ) (j : ℕ) (found : field_named (records_of set b) name ≡ Some j) where
  abbrev f : TypedField
  f = field_at set b j

  target_found : (index place : ℕ) (given : List ℕ) → is_given (mark_of f j) given ≡ false → target_of set (InStruct b) index place name given ≡ Ok (field_target f j, given ++ mark_of f j ∷ [])
  target_found index place given fresh = ap (named_target set b place given) found ∙ passed (is_given (mark_of f j) given) fresh
    where
      passed : (q : Bool) → q ≡ false → cond q (refused {A = Target × List ℕ} GivenTwice place) (Ok (field_target f j, given ++ mark_of f j ∷ [])) ≡ Ok (field_target f j, given ++ mark_of f j ∷ [])
      passed true e = absurd (true≢false e)
      passed false e = refl

  -- a field that wasn't given
  pub made_field : (s : SchemaType) (here m w : Value) (index place : ℕ) (given : List ℕ) (v : Written) (ps : Parts) → is_given (mark_of f j) given ≡ false →
      IsMade set s here (value_calls set v (field_target f j)) m → IsMade set s m (parts_calls set ps (InStruct b) (suc index) (given ++ mark_of f j ∷ [])) w →
      IsMade set s here (parts_calls set (Part place name v ps) (InStruct b) index given) w
  made_field s here m w index place given v ps fresh first second =
      made_from set s here here w w (both_calls (value_calls set v (field_target f j)) (parts_calls set ps (InStruct b) (suc index) (given ++ mark_of f j ∷ []))) (parts_calls set (Part place name v ps) (InStruct b) index given) refl refl
      (ap (part_calls (value_calls set v) (parts_calls set ps) (InStruct b) index) (target_found index place given fresh))
      (made_both set s here m w (value_calls set v (field_target f j)) (parts_calls set ps (InStruct b) (suc index) (given ++ mark_of f j ∷ [])) first second)

-- ---- parts in a row ----

pub both_nothing : (ps : Parts) → both_parts ps NoPart ≡ ps
both_nothing NoPart = refl
both_nothing (Part place name v ps) = ap (Part place name v) (both_nothing ps)

pub both_thrice : (ps qs rs : Parts) → both_parts (both_parts ps qs) rs ≡ both_parts ps (both_parts qs rs)
both_thrice NoPart qs rs = refl
both_thrice (Part place name v ps) qs rs = ap (Part place name v) (both_thrice ps qs rs)

pub both_count : (ps qs : Parts) → part_count (both_parts ps qs) ≡ part_count ps + part_count qs
both_count NoPart qs = omega arith
both_count (Part place name v ps) qs = let h = both_count ps qs in omega (arith, h)
