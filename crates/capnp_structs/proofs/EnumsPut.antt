-- The enums that fields name: the names of each, and the enums one after another.
use Rattle.std.proofs.Common.{ℕ, zero, suc, ◌+◌, ◌<◌, ◌≤◌, ◌==◌, ◌||◌, List, [], ◌∷◌, ◌++◌, Bool, true, false, Contains, cond, codes, drop, get_or, length, ◌≡◌, ◌∙◌, ap, append_assoc, arith, inl, inr, refl, subst, sym}
use Rattle.capnp_device.specs.declared.error.ErrorKind.{ErrorKind}
use Rattle.std.specs.Bool.{nat_eq}
use Rattle.std.specs.HashSet.{HashSet, contains}
use Rattle.std.specs.List.{list_any}
use Rattle.std.proofs.lemmas.List.{drop_more}
use Rattle.capnp_schema.specs.Annotated.{TypedAnnotation, enum_annotations, enumerant_annotations, enumerant_at, no_enumerant}
use Rattle.capnp_schema.specs.Enumerants.{IsEnumerantOf, containing_enum, ordinal_of}
use Rattle.capnp_schema.specs.Enums.{enum_in, enum_number, enum_set}
use Rattle.capnp_schema.specs.Schema.{Schemas, Enumerant as Named, enum_at}
use Rattle.capnp_schema.specs.declared.schema.enums.Enumerant.{Enumerant}
use Rattle.capnp_schema.specs.declared.schema.enums.EnumSchema.{EnumSchema}
use Rattle.capnp_records.specs.Text.{Out, after, said_text}
use Rattle.capnp_dynamic_readers.specs.Facts.Appended.{both, nothing}
use Rattle.capnp_dynamic_readers.specs.Pieces.{IsAppended}
use Rattle.capnp_structs.specs.Enums.{before_name, enum_line, enum_lines, name_text, names_text, unless_met}
use Rattle.capnp_structs.specs.Limits.{HasRefusedAmong, HasRefusedEnum, HasRefusedName, IsStopped}
use Rattle.capnp_structs.specs.Steps.Fields.{AreEnumsMet, IsEnumMet}
use Rattle.capnp_structs.specs.Values.{annotations_text}
use Rattle.capnp_structs.proofs.AnnotationsSaid.{among_here}
use Rattle.capnp_structs.proofs.Appended.{IsLeft, annotations_here, ended, led, left_all, left_more}
use Rattle.capnp_structs.proofs.Lines.{next, none_left}
use Rattle.capnp_structs.proofs.Stopped.{stopped_behind, stopped_front, stopped_led}
use Rattle.capnp_structs.proofs.TextsThere.{both_there, names_there, said_there}

-- ---- names ----

-- an enumerant is that of its enum and its number
name_there : (set : Schemas) (e : ℕ) (schema : EnumSchema) (x : Enumerant) (i : ℕ) (P : Schemas → ℕ → ℕ → Type 0) → enum_set schema ≡ set → enum_number schema ≡ e → IsEnumerantOf schema i x →
    P (enum_set (containing_enum x)) (enum_number (containing_enum x)) (ordinal_of x) → P set e i
name_there set e schema x i P of_set number is so =
    subst (λ (n : ℕ). P set n i) number
    (subst (λ (z : Schemas). P z (enum_number schema) i) of_set
    (subst (λ (n : ℕ). P (enum_set schema) (enum_number schema) n) is.ordinal
    (subst (λ (s : EnumSchema). P (enum_set s) (enum_number s) (ordinal_of x)) is.containing so)))

named_here : (set : Schemas) (e : ℕ) (schema : EnumSchema) (x : Enumerant) (i : ℕ) (P : Schemas → ℕ → ℕ → Type 0) → enum_set schema ≡ set → enum_number schema ≡ e → IsEnumerantOf schema i x →
    P set e i → P (enum_set (containing_enum x)) (enum_number (containing_enum x)) (ordinal_of x)
named_here set e schema x i P of_set number is so =
    subst (λ (s : EnumSchema). P (enum_set s) (enum_number s) (ordinal_of x)) (sym is.containing)
    (subst (λ (n : ℕ). P (enum_set schema) (enum_number schema) n) (sym is.ordinal)
    (subst (λ (z : Schemas). P z (enum_number schema) i) (sym of_set)
    (subst (λ (n : ℕ). P set n i) (sym number) so)))

-- what stands before each name but the first
pub later_name : (i : ℕ) → (i ≡ 0 → ⊥) → codes ", " ≡ before_name i
later_name zero some = absurd (some refl)
later_name (suc i) some = refl

-- the first of the names that are left
pub first_name : (set : Schemas) (e : ℕ) (schema : EnumSchema) (x : Enumerant) (xs : List Named) (i : ℕ) (start : List ℕ) (whole : Out) (text : List ℕ) → i < length xs → enum_set schema ≡ set → enum_number schema ≡ e →
    IsEnumerantOf schema i x → IsLeft start whole text (names_text set e i (drop i xs)) →
    IsLeft start whole text (after (name_text (enum_set (containing_enum x)) (enum_number (containing_enum x)) (ordinal_of x)) (names_text set e (i + 1) (drop (i + 1) xs)))
first_name set e schema x xs i start whole text inside of_set number is before =
    let here : drop i xs ≡ get_or xs i no_enumerant ∷ drop (i + 1) xs = drop_more xs i no_enumerant inside in
    let rest : Out = names_text set e (i + 1) (drop (i + 1) xs) in
    named_here set e schema x i (λ z n j. IsLeft start whole text (after (name_text z n j) rest)) of_set number is
    (subst (λ (n : ℕ). IsLeft start whole text (after (name_text set e i) (names_text set e n (drop (i + 1) xs)))) (sym (next i))
    (subst (λ (ys : List Named). IsLeft start whole text (names_text set e i ys)) here before))

-- one of its annotations is one of the enum
pub name_refused : (set : Schemas) (e : ℕ) (schema : EnumSchema) (x : Enumerant) (i : ℕ) → enum_set schema ≡ set → enum_number schema ≡ e → IsEnumerantOf schema i x →
    HasRefusedAmong (enum_set (containing_enum x)) (enumerant_annotations (enum_set (containing_enum x)) (enum_number (containing_enum x)) (ordinal_of x)) → (j : ℕ) × HasRefusedAmong set (enumerant_annotations set e j)
name_refused set e schema x i of_set number is r = (i, name_there set e schema x i (λ z n j. HasRefusedAmong z (enumerant_annotations z n j)) of_set number is r)

-- one name more
pub next_name : (set : Schemas) (e : ℕ) (schema : EnumSchema) (x : Enumerant) (xs : List Named) (i : ℕ) (start : List ℕ) (whole : Out) (text text' : List ℕ) → i < length xs → enum_set schema ≡ set → enum_number schema ≡ e →
    IsEnumerantOf schema i x → IsLeft start whole text (names_text set e i (drop i xs)) →
    IsAppended text (name_text (enum_set (containing_enum x)) (enum_number (containing_enum x)) (ordinal_of x)) text' → IsLeft start whole text' (names_text set e (i + 1) (drop (i + 1) xs))
next_name set e schema x xs i start whole text text' inside of_set number is before put =
    left_more start whole (name_text (enum_set (containing_enum x)) (enum_number (containing_enum x)) (ordinal_of x)) (names_text set e (i + 1) (drop (i + 1) xs)) text text'
    (first_name set e schema x xs i start whole text inside of_set number is before) put

pub no_name_left : (set : Schemas) (e : ℕ) (xs : List Named) (i : ℕ) (start : List ℕ) (whole : Out) (text : List ℕ) → length xs ≤ i → IsLeft start whole text (names_text set e i (drop i xs)) → IsAppended start whole text
no_name_left set e xs i start whole text past before = left_all start whole (names_text set e i (drop i xs)) text (ap (names_text set e i) (none_left xs i past)) before

-- ---- the parts of a line ----

name_head : (set : Schemas) (e i : ℕ) (b n old p a : List ℕ) → b ≡ before_name i → n ≡ (enumerant_at set e i).name → p ≡ old ++ b → a ≡ p ++ n → a ≡ old ++ (before_name i ++ (enumerant_at set e i).name)
name_head set e i b n old p a before name put_before put_name =
    put_name ∙ (ap (λ (ys : List ℕ). ys ++ n) put_before ∙ (append_assoc old b n ∙ (ap (λ (ys : List ℕ). old ++ (ys ++ n)) before ∙ ap (λ (ys : List ℕ). old ++ (before_name i ++ ys)) name)))

pub name_stopped : (limit : ℕ) (set : Schemas) (e i : ℕ) (z : Schemas) (xs : List TypedAnnotation) (b n old p a : List ℕ) (kind : ErrorKind) → b ≡ before_name i → n ≡ (enumerant_at set e i).name → p ≡ old ++ b → a ≡ p ++ n → z ≡ set →
    xs ≡ enumerant_annotations set e i → IsStopped limit a (annotations_text z xs) (HasRefusedAmong z xs) kind → IsStopped limit old (name_text set e i) (HasRefusedAmong set (enumerant_annotations set e i)) kind
name_stopped limit set e i z xs b n old p a kind before name put_before put_name same_set same h =
    stopped_led limit (before_name i ++ (enumerant_at set e i).name) (annotations_text set (enumerant_annotations set e i)) old a kind (name_head set e i b n old p a before name put_before put_name) (λ r. r)
    (among_here limit z set xs (enumerant_annotations set e i) a kind same_set same h)

pub name_put : (set : Schemas) (e i : ℕ) (z : Schemas) (xs : List TypedAnnotation) (b n old p a new : List ℕ) → b ≡ before_name i → n ≡ (enumerant_at set e i).name → p ≡ old ++ b → a ≡ p ++ n → z ≡ set → xs ≡ enumerant_annotations set e i →
    IsAppended a (annotations_text z xs) new → IsAppended old (name_text set e i) new
name_put set e i z xs b n old p a new before name put_before put_name same_set same put =
    led (before_name i ++ (enumerant_at set e i).name) (annotations_text set (enumerant_annotations set e i)) old a new (name_head set e i b n old p a before name put_before put_name) (annotations_here z set xs (enumerant_annotations set e i) a new same_set same put)

parts_put : (set : Schemas) (e : ℕ) (old a b c d new : List ℕ) → a ≡ old ++ (codes "enum " ++ (enum_at set e).display_name) → IsAppended a (annotations_text set (enum_annotations set e)) b →
    c ≡ b ++ codes ":" → IsAppended c (names_text set e 0 (enum_at set e).enumerants) d → new ≡ d ++ 10 ∷ [] → IsAppended old (enum_line set e) new
parts_put set e old a b c d new head annotated colon names end =
    let last : Out = after (names_text set e 0 (enum_at set e).enumerants) (said_text (10 ∷ [])) in
    let behind : Out = after (said_text (codes ":")) last in
    led (codes "enum " ++ (enum_at set e).display_name) (after (annotations_text set (enum_annotations set e)) behind) old a new head
    (both (annotations_text set (enum_annotations set e)) behind a b new annotated
    (led (codes ":") last b c new colon
    (ended (names_text set e 0 (enum_at set e).enumerants) (10 ∷ []) c d new names end)))

-- the schema of an enum of a set, and what was read of it
pub record IsEnumRead (set : Schemas) (e : ℕ) (s : EnumSchema) (z : Schemas) (xs : List TypedAnnotation) (n : List ℕ) : Type 0 where
  -- the enum that the schema is of
  pub in_set : enum_set s ≡ set
  pub number : enum_number s ≡ e
  -- its name, and its annotations with their set
  pub name : n ≡ (enum_in s).display_name
  pub annotations_set : z ≡ enum_set s
  pub annotations : xs ≡ enum_annotations (enum_set s) (enum_number s)

-- the parts of an enum's line, appended one after another
pub record ArePartsPut (s : EnumSchema) (z : Schemas) (xs : List TypedAnnotation) (n old p a b c d new : List ℕ) : Type 0 where
  -- its name behind the word
  pub word : p ≡ old ++ codes "enum "
  pub name : a ≡ p ++ n
  pub annotations : IsAppended a (annotations_text z xs) b
  -- the names of its enumerants, to the end of the line
  pub colon : c ≡ b ++ codes ":"
  pub names : IsAppended c (names_text (enum_set s) (enum_number s) 0 (enum_in s).enumerants) d
  pub end : new ≡ d ++ 10 ∷ []

-- the name behind the word
name_behind : (n old p a name : List ℕ) → p ≡ old ++ codes "enum " → a ≡ p ++ n → n ≡ name → a ≡ old ++ (codes "enum " ++ name)
name_behind n old p a name word put is = put ∙ (ap (λ (ys : List ℕ). ys ++ n) word ∙ (append_assoc old (codes "enum ") n ∙ ap (λ (ys : List ℕ). old ++ (codes "enum " ++ ys)) is))

-- what is so of a schema's enum is so of that enum of the set
of_schema : (set : Schemas) (e : ℕ) (s : EnumSchema) (P : Schemas → ℕ → Type 0) → enum_set s ≡ set → enum_number s ≡ e → P (enum_set s) (enum_number s) → P set e
of_schema set e s P in_set number so = subst (λ (n : ℕ). P set n) number (subst (λ (z : Schemas). P z (enum_number s)) in_set so)

pub line_put : (set : Schemas) (e : ℕ) (s : EnumSchema) (z : Schemas) (xs : List TypedAnnotation) (n old p a b c d new : List ℕ) → IsEnumRead set e s z xs n → ArePartsPut s z xs n old p a b c d new → IsAppended old (enum_line set e) new
line_put set e s z xs n old p a b c d new read put =
    let head : a ≡ old ++ (codes "enum " ++ (enum_in s).display_name) = name_behind n old p a (enum_in s).display_name put.word put.name read.name in
    of_schema set e s (λ y m. IsAppended old (enum_line y m) new) read.in_set read.number
    (parts_put (enum_set s) (enum_number s) old a b c d new head (annotations_here z (enum_set s) xs (enum_annotations (enum_set s) (enum_number s)) a b read.annotations_set read.annotations put.annotations) put.colon put.names put.end)

-- the line was stopped in the annotations of the enum
pub annotations_stopped : (limit : ℕ) (set : Schemas) (e : ℕ) (s : EnumSchema) (z : Schemas) (xs : List TypedAnnotation) (n old p a : List ℕ) (kind : ErrorKind) → IsEnumRead set e s z xs n → p ≡ old ++ codes "enum " → a ≡ p ++ n →
    IsStopped limit a (annotations_text z xs) (HasRefusedAmong z xs) kind → IsStopped limit old (enum_line set e) (HasRefusedName set e) kind
annotations_stopped limit set e s z xs n old p a kind read word name h =
    let y : Schemas = enum_set s in
    let number : ℕ = enum_number s in
    let noted : Out = annotations_text y (enum_annotations y number) in
    let names : Out = names_text y number 0 (enum_in s).enumerants in
    let last : Out = after names (said_text (10 ∷ [])) in
    let behind : Out = after (said_text (codes ":")) last in
    of_schema set e s (λ y m. IsStopped limit old (enum_line y m) (HasRefusedName y m) kind) read.in_set read.number
    (stopped_led limit (codes "enum " ++ (enum_in s).display_name) (after noted behind) old a kind (name_behind n old p a (enum_in s).display_name word name read.name) (λ r. r)
    (stopped_front limit noted behind a kind
    (both_there (said_text (codes ":")) last (said_there (codes ":")) (both_there names (said_text (10 ∷ [])) (names_there y number 0 (enum_in s).enumerants) (said_there (10 ∷ []))))
    (λ r. inl r) (among_here limit z y xs (enum_annotations y number) a kind read.annotations_set read.annotations h)))

-- or in its names
pub names_stopped : (limit : ℕ) (set : Schemas) (e : ℕ) (s : EnumSchema) (z : Schemas) (xs : List TypedAnnotation) (n old p a b c : List ℕ) (kind : ErrorKind) → IsEnumRead set e s z xs n → p ≡ old ++ codes "enum " → a ≡ p ++ n →
    IsAppended a (annotations_text z xs) b → c ≡ b ++ codes ":" →
    IsStopped limit c (names_text (enum_set s) (enum_number s) 0 (enum_in s).enumerants) ((i : ℕ) × HasRefusedAmong (enum_set s) (enumerant_annotations (enum_set s) (enum_number s) i)) kind →
    IsStopped limit old (enum_line set e) (HasRefusedName set e) kind
names_stopped limit set e s z xs n old p a b c kind read word name put colon h =
    let y : Schemas = enum_set s in
    let number : ℕ = enum_number s in
    let noted : Out = annotations_text y (enum_annotations y number) in
    let names : Out = names_text y number 0 (enum_in s).enumerants in
    let last : Out = after names (said_text (10 ∷ [])) in
    of_schema set e s (λ y m. IsStopped limit old (enum_line y m) (HasRefusedName y m) kind) read.in_set read.number
    (stopped_led limit (codes "enum " ++ (enum_in s).display_name) (after noted (after (said_text (codes ":")) last)) old a kind (name_behind n old p a (enum_in s).display_name word name read.name) (λ r. r)
    (stopped_behind limit noted (after (said_text (codes ":")) last) a b kind (annotations_here z y xs (enum_annotations y number) a b read.annotations_set read.annotations put) (λ r. r)
    (stopped_led limit (codes ":") last b c kind colon (λ r. r) (stopped_front limit names (said_text (10 ∷ [])) c kind (said_there (10 ∷ [])) (λ r. inr r) h))))

-- ---- enums one after another ----

-- an entry of a list is in it
contains_at : (xs : List ℕ) (i x d : ℕ) → i < length xs → x ≡ get_or xs i d → Contains xs x
contains_at [] i x d inside e = absurd (omega (arith, inside))
contains_at (y ∷ ys) zero x d inside e = (0, omega arith, sym e)
contains_at (y ∷ ys) (suc i) x d inside e = let h : Contains ys x = contains_at ys i x d (omega (arith, inside)) e in (suc h.0, omega (arith, h.1), h.2)

pub enum_refused : (set : Schemas) (enums : List ℕ) (i number : ℕ) → i < length enums → number ≡ get_or enums i 0 → HasRefusedName set number → HasRefusedEnum set enums
enum_refused set enums i number inside is r = (number, contains_at enums i number 0 inside is, r)

-- a line that is not made, where it is not met
pub unmet_stopped : (limit : ℕ) (q : Bool) (line : Out) (refused : Type 0) (old : List ℕ) (kind : ErrorKind) → q ≡ false → IsStopped limit old line refused kind → IsStopped limit old (unless_met q line) refused kind
unmet_stopped limit q line refused old kind unmet h = subst (λ (b : Bool). IsStopped limit old (unless_met b line) refused kind) (sym unmet) h

pub met_before : (q : Bool) (line : Out) (old : List ℕ) → q ≡ true → IsAppended old (unless_met q line) old
met_before q line old met = subst (λ (b : Bool). IsAppended old (unless_met b line) old) (sym met) (nothing old)

pub first_met : (q : Bool) (line : Out) (old new : List ℕ) → q ≡ false → IsAppended old line new → IsAppended old (unless_met q line) new
first_met q line old new unmet put = subst (λ (b : Bool). IsAppended old (unless_met b line) new) (sym unmet) put

more_met : {S : Type 0} (number : ℕ) (old new : HashSet ℕ S) (ids : List ℕ) → AreEnumsMet old ids → IsEnumMet number old new → AreEnumsMet new (number ∷ ids)
more_met number old new ids before one = λ e. one e ∙ or_by (number == e) (contains nat_eq old e) (list_any (λ (x : ℕ). x == e) ids) (before e)
  where
    or_by : (t a b : Bool) → a ≡ b → cond t true a ≡ (t || b)
    or_by true a b same = refl
    or_by false a b same = same

-- the first of the enums that are left
pub first_enum : {S : Type 0} (set : Schemas) (enums : List ℕ) (i number : ℕ) (old : HashSet ℕ S) (start : List ℕ) (whole : Out) (text : List ℕ) → i < length enums → number ≡ get_or enums i 0 → (ids : List ℕ) → AreEnumsMet old ids →
    IsLeft start whole text (enum_lines set ids (drop i enums)) → IsLeft start whole text (after (unless_met (contains nat_eq old number) (enum_line set number)) (enum_lines set (number ∷ ids) (drop (i + 1) enums)))
first_enum set enums i number old start whole text inside is ids met before =
    let rest : List ℕ = drop (i + 1) enums in
    let here : drop i enums ≡ number ∷ rest = drop_more enums i 0 inside ∙ ap (λ (n : ℕ). n ∷ rest) (sym is) in
    subst (λ (t : Bool). IsLeft start whole text (after (unless_met t (enum_line set number)) (enum_lines set (number ∷ ids) rest))) (sym (met number))
    (subst (λ (es : List ℕ). IsLeft start whole text (enum_lines set ids es)) here before)

pub next_enum : {S : Type 0} (set : Schemas) (enums : List ℕ) (i number : ℕ) (old new : HashSet ℕ S) (start : List ℕ) (whole : Out) (text text' : List ℕ) → i < length enums → number ≡ get_or enums i 0 →
    (ids : List ℕ) × AreEnumsMet old ids × IsLeft start whole text (enum_lines set ids (drop i enums)) → IsEnumMet number old new → IsAppended text (unless_met (contains nat_eq old number) (enum_line set number)) text' →
    (ids : List ℕ) × AreEnumsMet new ids × IsLeft start whole text' (enum_lines set ids (drop (i + 1) enums))
next_enum set enums i number old new start whole text text' inside is (ids, met, before) one put = (
  number ∷ ids,
  more_met number old new ids met one,
  left_more start whole (unless_met (contains nat_eq old number) (enum_line set number)) (enum_lines set (number ∷ ids) (drop (i + 1) enums)) text text' (first_enum set enums i number old start whole text inside is ids met before) put,
)

pub no_enum_left : {S : Type 0} (set : Schemas) (enums : List ℕ) (i : ℕ) (met : HashSet ℕ S) (start : List ℕ) (whole : Out) (text : List ℕ) → length enums ≤ i →
    (ids : List ℕ) × AreEnumsMet met ids × IsLeft start whole text (enum_lines set ids (drop i enums)) → IsAppended start whole text
no_enum_left set enums i met start whole text past (ids, known, before) = left_all start whole (enum_lines set ids (drop i enums)) text (ap (enum_lines set ids) (none_left enums i past)) before
