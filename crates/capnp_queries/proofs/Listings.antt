-- Listings one after another, as they are made: a part of one, and what follows.
use Rattle.std.proofs.Common.{ℕ, zero, suc, ◌+◌, ◌-◌, ◌<◌, ◌≤◌, List, [], ◌∷◌, ◌++◌, drop, length, map, Option, Some, None, Result, Ok, Err, ◌≡◌, ◌∙◌, add-one, ap, append-nil, append_assoc, arith, refl, subst, sym}
use Rattle.std.proofs.lemmas.List.{length-append}
use Rattle.std.specs.Prelude.{slice_get, unwrap_or}
use Rattle.std.specs.declared.alloc.Global.{Global}
use Rattle.std.specs.declared.vec.Vec.{Vec}
use Rattle.capnp_call.specs.declared.calls.Step.{Step}
use Rattle.capnp_records.specs.Call.{ElementAt, FieldNamed, PathStep}
use Rattle.capnp_schema.specs.Schema.{Schemas, TypedField, fields_of, no_field}
use Rattle.capnp_schema.specs.StructHandles.{number_of, set_of, struct_fields}
use Rattle.capnp_schema.specs.declared.schema.structs.StructSchema.{StructSchema}
use Rattle.capnp_queries.specs.Patterns.{Listing, Stop, all_listed, and_then, elements_from, field_step, listed}
use Rattle.capnp_queries.specs.PatternsSeen.{IsFewEnough, IsListed, IsNotListed, paths_seen}
use Rattle.capnp_queries.specs.declared.patterns.NotListed.{NotListed}
use Rattle.capnp_queries.specs.declared.patterns.NotListed.TheVariants.{Refused, Unmade}

abbrev pub Answer : Type 0
Answer = Result (Vec (Vec Step Global) Global) NotListed

-- ---- one listing, and then another ----

-- none follow
pub and_nothing : (l : Listing) → and_then l.paths l.stop (listed []) ≡ l
and_nothing l = go l.stop
  where
    go : (o : Option Stop) → and_then l.paths o (listed []) ≡ record { paths = l.paths; stop = o }
    go None = ap (λ (ps : List (List PathStep)). record { paths = ps; stop = None }) (append-nil l.paths)
    go (Some x) = refl

module _ (most : ℕ) (before : List (List PathStep)) (set : Schemas) where
  few_more : (ps : List (List PathStep)) (more : Listing) (now : List (List PathStep)) → now ≡ before ++ ps → (length before ≤ most → length before + length ps ≤ most) →
      IsFewEnough most (length now) more → length before ≤ most → length before + length (ps ++ more.paths) ≤ most
  few_more ps more now e few rest le =
      let long = ap length e in
      let now_few : length now ≤ most = omega (arith, long, length-append before ps, few le) in
      omega (arith, rest now_few, long, length-append before ps, length-append ps more.paths)

  -- the paths of one were listed, and the other is behind them
  more_listed : (ps : List (List PathStep)) (o : Option Stop) (more : Listing) (paths : Vec (Vec Step Global) Global) (r : Answer) →
      o ≡ None → paths_seen paths.items ≡ before ++ ps → (length before ≤ most → length before + length ps ≤ most) → IsListed most (paths_seen paths.items) set more r → IsListed most before set (and_then ps o more) r
  more_listed ps None more paths (Ok q) n e few h =
      (h.0, h.1 ∙ (ap (λ (xs : List (List PathStep)). xs ++ more.paths) e ∙ append_assoc before ps more.paths), few_more ps more (paths_seen paths.items) e few h.2)
  more_listed ps None more paths (Err (Refused x)) n e few h = (h.0, few_more ps more (paths_seen paths.items) e few h.1)
  more_listed ps None more paths (Err (Unmade kind)) n e few h = λ memory.
      ((h memory).0, omega (arith, (h memory).1, ap length e, length-append before ps, length-append ps more.paths))
  more_listed ps (Some x) more paths r n e few h = absurd (none n)
    where
      none : Some x ≡ None → ⊥
      none k = cc

  pub then_listed : (l more : Listing) (paths : Vec (Vec Step Global) Global) (r : Answer) → IsListed most before set l (Ok paths) → IsListed most (paths_seen paths.items) set more r →
      IsListed most before set (and_then l.paths l.stop more) r
  then_listed l more paths r h g = more_listed l.paths l.stop more paths r h.0 h.1 h.2 g

  -- one was refused, and the other isn't looked at
  stop_there : (ps : List (List PathStep)) (o : Option Stop) (more : Listing) (why : NotListed) →
      IsNotListed most (length before) set (record { paths = ps; stop = o }) why → IsNotListed most (length before) set (and_then ps o more) why
  stop_there ps None more (Refused x) h = absurd h.0
  stop_there ps (Some y) more (Refused x) h = h
  stop_there ps None more (Unmade kind) h = λ memory. ((h memory).0, omega (arith, (h memory).1, length-append ps more.paths))
  stop_there ps (Some y) more (Unmade kind) h = h

  pub then_refused : (l more : Listing) (why : NotListed) → IsListed most before set l (Err why) → IsListed most before set (and_then l.paths l.stop more) (Err why)
  then_refused l more why h = stop_there l.paths l.stop more why h

-- ---- several ----

-- what is left of a listing behind some paths gives all of it
abbrev pub GoesOn : (most : ℕ) → (before : List (List PathStep)) → Schemas → (all : Listing) → (now : List (List PathStep)) → (left : Listing) → Type 0
GoesOn most before set all now left = (r : Answer) → IsListed most now set left r → IsListed most before set all r

module _ (most : ℕ) (before : List (List PathStep)) (set : Schemas) (all : Listing) (f : PathStep → Listing) (s : PathStep) (steps left : List PathStep) where
  pub goes_on : (now : List (List PathStep)) (paths : Vec (Vec Step Global) Global) → left ≡ s ∷ steps → GoesOn most before set all now (all_listed f left) →
      IsListed most now set (f s) (Ok paths) → GoesOn most before set all (paths_seen paths.items) (all_listed f steps)
  goes_on now paths e on h = λ r rest.
      on r (subst (λ (xs : List PathStep). IsListed most now set (all_listed f xs) r) (sym e) (then_listed most now set (f s) (all_listed f steps) paths r h rest))

  pub ends_at : (now : List (List PathStep)) (why : NotListed) → left ≡ s ∷ steps → GoesOn most before set all now (all_listed f left) → IsListed most now set (f s) (Err why) →
      IsListed most before set all (Err why)
  ends_at now why e on h = on (Err why) (subst (λ (xs : List PathStep). IsListed most now set (all_listed f xs) (Err why)) (sym e) (then_refused most now set (f s) (all_listed f steps) why h))

-- none are left
pub all_done : (most : ℕ) (before : List (List PathStep)) (set : Schemas) (all : Listing) (f : PathStep → Listing) (left : List PathStep) (paths : Vec (Vec Step Global) Global) → left ≡ [] →
    GoesOn most before set all (paths_seen paths.items) (all_listed f left) → IsListed most before set all (Ok paths)
all_done most before set all f left paths e on =
    on (Ok paths) (subst (λ (xs : List PathStep). IsListed most (paths_seen paths.items) set (all_listed f xs) (Ok paths)) (sym e)
    (refl, sym (append-nil (paths_seen paths.items)), λ le. omega (arith, le)))

-- ---- the steps that are left ----

pub next_element : (i n : ℕ) → i < n → elements_from i (n - i) ≡ ElementAt i ∷ elements_from (i + 1) (n - (i + 1))
next_element i n lt =
    let e : n - i ≡ suc (n - (i + 1)) = omega (arith, lt) in
    ap (elements_from i) e ∙ ap (λ (k : ℕ). ElementAt i ∷ elements_from k (n - (i + 1))) (sym (add-one i))

pub no_element : (i n : ℕ) → n ≤ i → elements_from i (n - i) ≡ []
no_element i n le = let e : n - i ≡ 0 = omega (arith, le) in ap (elements_from i) e

field_next : (fs : List TypedField) (i : ℕ) → i < length fs → drop i fs ≡ unwrap_or (slice_get fs i) no_field ∷ drop (i + 1) fs
field_next [] i lt = absurd (omega (arith, lt))
field_next (f ∷ fs) zero lt = refl
field_next (f ∷ fs) (suc i) lt =
    let e : suc i + 1 ≡ suc (i + 1) = omega arith in
    field_next fs i (omega (arith, lt)) ∙ ap (λ n. unwrap_or (slice_get fs i) no_field ∷ drop n (f ∷ fs)) (sym e)

pub next_field : (fs : List TypedField) (i : ℕ) → i < length fs → map field_step (drop i fs) ≡ field_step (unwrap_or (slice_get fs i) no_field) ∷ map field_step (drop (i + 1) fs)
next_field fs i lt = ap (map field_step) (field_next fs i lt)

no_field_past : (fs : List TypedField) (i : ℕ) → length fs ≤ i → drop i fs ≡ []
no_field_past [] zero le = refl
no_field_past [] (suc i) le = refl
no_field_past (f ∷ fs) zero le = absurd (omega (arith, le))
no_field_past (f ∷ fs) (suc i) le = no_field_past fs i (omega (arith, le))

pub no_field_left : (fs : List TypedField) (i : ℕ) → length fs ≤ i → map field_step (drop i fs) ≡ []
no_field_left fs i le = ap (map field_step) (no_field_past fs i le)

pub next_field_of : (set : Schemas) (s : StructSchema) (i : ℕ) (name : List ℕ) → set_of s ≡ set → i < length (struct_fields s) → name ≡ (unwrap_or (slice_get (struct_fields s) i) no_field).field.name →
    map field_step (drop i (fields_of set (number_of s))) ≡ FieldNamed name ∷ map field_step (drop (i + 1) (fields_of set (number_of s)))
next_field_of set s i name e lt named =
    subst (λ (z : Schemas). map field_step (drop i (fields_of z (number_of s))) ≡ FieldNamed name ∷ map field_step (drop (i + 1) (fields_of z (number_of s)))) e
    (next_field (struct_fields s) i lt ∙ ap (λ (n : List ℕ). FieldNamed n ∷ map field_step (drop (i + 1) (struct_fields s))) (sym named))

pub no_field_of : (set : Schemas) (s : StructSchema) (i : ℕ) → set_of s ≡ set → length (struct_fields s) ≤ i → map field_step (drop i (fields_of set (number_of s))) ≡ []
no_field_of set s i e le = subst (λ (z : Schemas). map field_step (drop i (fields_of z (number_of s))) ≡ []) e (no_field_left (struct_fields s) i le)
