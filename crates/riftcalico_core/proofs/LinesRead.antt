-- Lines of changes are read as their calls, and their leaves as their values.
use Rattle.std.proofs.Common.{ℕ, suc, ◌+◌, ◌<◌, ◌≡◌, ◌∙◌, All, List, [], ◌∷◌, ◌++◌, Bool, true, false, not, ◌==◌, ◌&&◌, Option, Some, None, Ok, Err, ap, arith, length, refl, subst, sym}
use Rattle.std.proofs.lemmas.Bool.{eqb-true, true≢false}
use Rattle.std.proofs.lemmas.List.Elements.{All-cons, All-nil}
use Rattle.std.specs.Char.{is_ascii_digit}
use Rattle.std.specs.List.{AllByRecursion}
use Rattle.std.specs.Option.{option_and_then}
use Rattle.capnp_call.specs.Seen.{path_seen, step_seen}
use Rattle.capnp_call.specs.declared.calls.Op.{Op}
use Rattle.capnp_call.specs.declared.calls.Op.TheVariants as op
use Rattle.capnp_device.specs.declared.error.ErrorKind.TheVariants.{NotAContainer}
use Rattle.capnp_diffs.proofs.Equal.{same_leaf_is}
use Rattle.capnp_records.specs.Call.{ElementAt, FieldNamed, FieldNumber, PathStep}
use Rattle.capnp_records.specs.Record as value
use Rattle.capnp_records.specs.Record.{Record, Value}
use Rattle.capnp_records.specs.Step.{field_found, in_record, step_target}
use Rattle.capnp_records.specs.Run.{root_type}
use Rattle.capnp_schema.specs.Query.{field_named, records_of}
use Rattle.capnp_schema.specs.Schema.{Field, Schemas}
use Rattle.capnp_schema.specs.Types.{SchemaType, StructType}
use Rattle.capnp_words.proofs.CallsRead.{calls_read}
use Rattle.capnp_words.specs.Calls.{Clear, Init, Set, call_at, call_of}
use Rattle.capnp_words.specs.Laws.{IsNonEmptyPath, IsPathName, IsPathStep}
use Rattle.capnp_words.specs.Marked.{marked_value_by_word}
use Rattle.capnp_words.specs.Paths.{words_of_path}
use Rattle.capnp_words.specs.Reads.{Read}
use Rattle.capnp_words.specs.Targets.{field_type, type_behind}
use Rattle.riftcalico_core.specs.ChangeLines.{IsOpLine, change_path, change_steps, is_read}
use Rattle.riftcalico_core.specs.DiffLaws.{ChangeLinesAreRead, IsReadAs, LeavesAreReadBack, NamesHaveTargets, NamesHaveTypes}
use Rattle.riftcalico_core.specs.FieldNames.{are_name_bytes, by_name, is_index, is_name_byte, is_plain_name, name_at, named_field, named_first, named_path, named_step, type_next}

and_both : (a b : Bool) → (a && b) ≡ true → (a ≡ true) × (b ≡ true)
and_both true b e = (refl, e)
and_both false b e = absurd (true≢false (sym e))

-- ---- leaves ----

read_is : (v : Value) (r : Read Value) → is_read v r ≡ true → r ≡ Ok v
read_is v (Ok u) e = ap Ok (sym (same_leaf_is v u e))
read_is v (Err place) e = absurd (true≢false (sym e))

pub leaves_are_read_back : LeavesAreReadBack
leaves_are_read_back set floats t v word e = read_is v (marked_value_by_word set floats t word) e

-- ---- names ----

index_is : (i : ℕ) (o : Option ℕ) → is_index i o ≡ true → o ≡ Some i
index_is i None e = absurd (true≢false (sym e))
index_is i (Some j) e = ap Some (sym (eqb-true i j e))

-- what a step to a field is by its number, of all by which it may be named
abbrev by_number : {A : Type 0} → List Field → (Option ℕ → A) → (other : A) → PathStep → A
by_number fields f other (FieldNumber j) = f (Some j)
by_number fields f other (FieldNamed name) = f (field_named fields name)
by_number fields f other (ElementAt j) = other

told_alike : {A : Type 0} (fields : List Field) (f : Option ℕ → A) (other : A) (i : ℕ) (named : Bool) (name : List ℕ) → (named ≡ true → field_named fields name ≡ Some i) → by_number fields f other (by_name named i name) ≡ f (Some i)
told_alike fields f other i true name h = ap f (h refl)
told_alike fields f other i false name h = refl

named_alike : {A : Type 0} (fields : List Field) (f : Option ℕ → A) (other : A) (i : ℕ) (o : Option (List ℕ)) → by_number fields f other (named_field fields i o) ≡ f (Some i)
named_alike fields f other i None = refl
named_alike fields f other i (Some name) =
    told_alike fields f other i (is_plain_name name && is_index i (field_named fields name)) name (λ e. index_is i (field_named fields name) (and_both (is_plain_name name) (is_index i (field_named fields name)) e).1)

type_by : (set : Schemas) (b g : ℕ) (s : PathStep) → type_behind set (StructType b g) s ≡ by_number (records_of set b) (option_and_then (field_type set b)) None s
type_by set b g (FieldNumber i) = refl
type_by set b g (FieldNamed name) = refl
type_by set b g (ElementAt i) = refl

target_by : (set : Schemas) (whole : Record → Value) (r : Record) (b : ℕ) (s : PathStep) → in_record set whole r b s ≡ by_number (records_of set b) (field_found set whole r b) (Err NotAContainer) s
target_by set whole r b (FieldNumber i) = refl
target_by set whole r b (FieldNamed name) = refl
target_by set whole r b (ElementAt i) = refl

targets_alike : (set : Schemas) (b g i : ℕ) (v : Value) → step_target set (StructType b g) v (named_step set (StructType b g) (FieldNumber i)) ≡ step_target set (StructType b g) v (FieldNumber i)
targets_alike set b g i (value.Struct r) =
    target_by set value.Struct r b (named_field (records_of set b) i (name_at set b i)) ∙ named_alike (records_of set b) (field_found set value.Struct r b) (Err NotAContainer) i (name_at set b i)
targets_alike set b g i (value.Group r) =
    target_by set value.Group r b (named_field (records_of set b) i (name_at set b i)) ∙ named_alike (records_of set b) (field_found set value.Group r b) (Err NotAContainer) i (name_at set b i)
targets_alike set b g i v = refl

pub names_have_types : NamesHaveTypes
names_have_types set (StructType b g) (FieldNumber i) =
    type_by set b g (named_field (records_of set b) i (name_at set b i)) ∙ named_alike (records_of set b) (option_and_then (field_type set b)) None i (name_at set b i)
names_have_types set t s = refl

pub names_have_targets : NamesHaveTargets
names_have_targets set (StructType b g) v (FieldNumber i) = targets_alike set b g i v
names_have_targets set t v s = refl

-- ---- names in paths ----

byte_not : (k b : ℕ) → is_name_byte k ≡ false → is_name_byte b ≡ true → (b == k) ≡ false
byte_not k b lacks has = go (b == k) refl
  where
    go : (q : Bool) → (b == k) ≡ q → (b == k) ≡ false
    go true e = absurd (true≢false (sym has ∙ (ap is_name_byte (eqb-true b k e) ∙ lacks)))
    go false e = e

all_not : (k : ℕ) (bs : List ℕ) → is_name_byte k ≡ false → are_name_bytes bs ≡ true → All (λ b. (b == k) ≡ false) bs
all_not k [] lacks e = All-nil (λ b. (b == k) ≡ false)
all_not k (b ∷ bs) lacks e =
    let (head, tail) = and_both (is_name_byte b) (are_name_bytes bs) e in
    All-cons (λ b. (b == k) ≡ false) b bs (byte_not k b lacks head) (all_not k bs lacks tail)

not_digit : (d : Bool) → not d ≡ true → d ≡ false
not_digit false e = refl
not_digit true e = absurd (true≢false (sym e))

plain_is : (name : List ℕ) → is_plain_name name ≡ true → IsPathName name
plain_is [] e = absurd (true≢false (sym e))
plain_is (b ∷ bs) e =
    let (digit, all) = and_both (not (is_ascii_digit b)) (are_name_bytes (b ∷ bs)) e in
    let (head, tail) = and_both (is_name_byte b) (are_name_bytes bs) all in
    record {
      some = omega arith;
      begins = not_digit (is_ascii_digit b) digit;
      no_number = λ h. true≢false (sym head ∙ ap is_name_byte h);
      no_dot = all_not 46 (b ∷ bs) refl all;
      no_space = all_not 32 (b ∷ bs) refl all;
    }

by_fine : (named : Bool) (i : ℕ) (name : List ℕ) → (named ≡ true → IsPathName name) → IsPathStep (FieldNumber i) → IsPathStep (by_name named i name)
by_fine true i name plain h = plain refl
by_fine false i name plain h = h

field_fine : (fields : List Field) (i : ℕ) (o : Option (List ℕ)) → IsPathStep (FieldNumber i) → IsPathStep (named_field fields i o)
field_fine fields i None h = h
field_fine fields i (Some name) h =
    by_fine (is_plain_name name && is_index i (field_named fields name)) i name (λ e. plain_is name (and_both (is_plain_name name) (is_index i (field_named fields name)) e).0) h

step_fine : (set : Schemas) (t : SchemaType) (s : PathStep) → IsPathStep s → IsPathStep (named_step set t s)
step_fine set (StructType b g) (FieldNumber i) h = field_fine (records_of set b) i (name_at set b i) h
step_fine set t s h = h

first_fine : (set : Schemas) (o : Option SchemaType) (s : PathStep) → IsPathStep s → IsPathStep (named_first set o s)
first_fine set None s h = h
first_fine set (Some t) s h = step_fine set t s h

path_fine : (set : Schemas) (o : Option SchemaType) (steps : List PathStep) → AllByRecursion IsPathStep steps → AllByRecursion IsPathStep (named_path set o steps)
path_fine set o [] h = h
path_fine set o (s ∷ steps) h = (first_fine set o s h.0, path_fine set (type_next set o s) steps h.1)

path_long : (set : Schemas) (o : Option SchemaType) (steps : List PathStep) → length (named_path set o steps) ≡ length steps
path_long set o [] = refl
path_long set o (s ∷ steps) = ap suc (path_long set (type_next set o s) steps)

some_step : (steps : List PathStep) (s : PathStep) → 0 < length (steps ++ s ∷ [])
some_step [] s = omega arith
some_step (t ∷ steps) s = omega arith

-- ---- lines ----

op_read : (set : Schemas) (b : ℕ) (path : List PathStep) (o : Op) (line : List ℕ) → IsNonEmptyPath path → IsOpLine set b path o line → IsReadAs set b path o line
op_read set b path (op.Set v) line p is =
    let place : ℕ = 4 + (length (words_of_path path) + 1) in
    record {
      word = is.word;
      is = is.is;
      place = place;
      read = subst (λ (l : List ℕ). call_at l ≡ Ok (call_of (Set is.word place) path)) (sym is.line_is) (calls_read (call_of (Set is.word place) path) (p, refl));
    }
op_read set b path op.Init line p is = subst (λ (l : List ℕ). call_at l ≡ Ok (call_of Init path)) (sym is) (calls_read (call_of Init path) p)
op_read set b path o line p is = subst (λ (l : List ℕ). call_at l ≡ Ok (call_of Clear path)) (sym is) (calls_read (call_of Clear path) p)

pub change_lines_are_read : ChangeLinesAreRead
change_lines_are_read set b c line fine is =
    let long : length (change_path set b c) ≡ length (change_steps c) = path_long set (Some (root_type set b)) (change_steps c) in
    let some : 0 < length (change_steps c) = some_step (path_seen c.path.items) (step_seen c.last) in
    op_read set b (change_path set b c) c.op line (path_fine set (Some (root_type set b)) (change_steps c) fine, omega (arith, long, some)) is
