-- Texts that are appended one after another.
use Rattle.std.proofs.Common.{ℕ, List, [], ◌∷◌, ◌++◌, Bool, codes, length, ◌≡◌, ◌∙◌, Result, Ok, Err, OnOk, ap, append_assoc, arith, refl, subst, sym}
use Rattle.capnp_schema.specs.Annotated.{TypedAnnotation, field_annotations}
use Rattle.capnp_schema.specs.Schema.{Field, Schemas, default_of, field_at}
use Rattle.capnp_schema.specs.Plan.{plan_of}
use Rattle.capnp_schema.specs.Types.{SchemaType}
use Rattle.capnp_records.specs.Text.{Out, after, said_text}
use Rattle.capnp_dynamic_readers.specs.Facts.Appended.{both, bytes_put, nothing}
use Rattle.capnp_dynamic_readers.specs.Pieces.{IsAppended}
use Rattle.capnp_structs.specs.Fields.{annotated_line, field_end, member_text}
use Rattle.capnp_structs.specs.Values.{annotations_text, default_text}

-- what stands before a text, and behind one
pub led : (a : List ℕ) (x : Out) (old mid new : List ℕ) → mid ≡ old ++ a → IsAppended mid x new → IsAppended old (after (said_text a) x) new
led a x old mid new e put = both (said_text a) x old mid new (bytes_put a old mid e) put

pub ended : (x : Out) (a : List ℕ) (old mid new : List ℕ) → IsAppended old x mid → new ≡ mid ++ a → IsAppended old (after x (said_text a)) new
ended x a old mid new put e = both x (said_text a) old mid new put (bytes_put a mid new e)

-- what follows where a call answered
pub on_ok : {T E P Q : Type 0} (r : Result T E) → (P → Q) → OnOk r P → OnOk r Q
on_ok (Ok t) f h = f h
on_ok (Err error) f h = tt {0}

-- what stands before what a call appended
pub led_by : {T E : Type 0} (r : Result T E) (a : List ℕ) (x : Out) (old mid new : List ℕ) → mid ≡ old ++ a → OnOk r (IsAppended mid x new) → OnOk r (IsAppended old (after (said_text a) x) new)
led_by r a x old mid new e put = on_ok r (led a x old mid new e) put

-- what a call put behind a text
pub ended_by : {T E : Type 0} (r : Result T E) (x : Out) (a : List ℕ) (old mid new : List ℕ) → IsAppended old x mid → OnOk r (new ≡ mid ++ a) → OnOk r (IsAppended old (after x (said_text a)) new)
ended_by r x a old mid new put e = on_ok r (ended x a old mid new put) e

-- what stands before two texts, the first, and what a call appended
pub three_by : {T E : Type 0} (r : Result T E) (a : List ℕ) (x y : Out) (old mid mid' new : List ℕ) → mid ≡ old ++ a → IsAppended mid x mid' → OnOk r (IsAppended mid' y new) → OnOk r (IsAppended old (after (said_text a) (after x y)) new)
three_by r a x y old mid mid' new e put more = on_ok r (λ (last : IsAppended mid' y new). led a (after x y) old mid new e (both x y mid mid' new put last)) more

-- what stands before a text, the text, and what stands behind it
pub between : (x : Out) (a b old mid mid' new : List ℕ) → mid ≡ old ++ a → IsAppended mid x mid' → new ≡ mid' ++ b → IsAppended old (after (said_text a) (after x (said_text b))) new
between x a b old mid mid' new e put f = led a (after x (said_text b)) old mid new e (ended x b mid mid' new put f)

-- ---- texts that are appended in a loop ----

-- once what is left is appended, the whole stands behind the start
abbrev pub IsLeft : (start : List ℕ) → (whole : Out) → (text : List ℕ) → (left : Out) → Type 0
IsLeft start whole text left = (new : List ℕ) → IsAppended text left new → IsAppended start whole new

pub left_more : (start : List ℕ) (whole x left : Out) (text text' : List ℕ) → IsLeft start whole text (after x left) → IsAppended text x text' → IsLeft start whole text' left
left_more start whole x left text text' before put = λ new more. before new (both x left text text' new put more)

pub left_all : (start : List ℕ) (whole left : Out) (text : List ℕ) → left ≡ said_text [] → IsLeft start whole text left → IsAppended start whole text
left_all start whole left text none before = before text (subst (λ (o : Out). IsAppended text o text) (sym none) (nothing text))

-- ---- the same under other names ----

-- what is so of a default under what is the same set and the same type, of the same field, whose numbers are floats alike
pub of_default : (P : Bool → Schemas → SchemaType → Field → Type 0) (q q' : Bool) (set set' : Schemas) (t t' : SchemaType) (f f' : Field) → q ≡ q' → set ≡ set' → t ≡ t' → f ≡ f' → P q set t f → P q' set' t' f'
of_default P q q' set set' t t' f f' same_floats same_set same_type same_field so =
    subst (λ (p : Bool). P p set' t' f') same_floats (subst (λ (g : Field). P q set' t' g) same_field (subst (λ (u : SchemaType). P q set' u f) same_type (subst (λ (z : Schemas). P q z t f) same_set so)))

abbrev IsDefaultPut : (old new : List ℕ) → Bool → Schemas → SchemaType → Field → Type 0
IsDefaultPut old new q set t f = IsAppended old (default_text q set t (default_of f)) new

pub default_here : (q q' : Bool) (set set' : Schemas) (t t' : SchemaType) (f f' : Field) (old new : List ℕ) → q ≡ q' → set ≡ set' → t ≡ t' → f ≡ f' → IsAppended old (default_text q set t (default_of f)) new →
    IsAppended old (default_text q' set' t' (default_of f')) new
default_here q q' set set' t t' f f' old new same_floats same_set same_type same_field put = of_default (IsDefaultPut old new) q q' set set' t t' f f' same_floats same_set same_type same_field put

pub default_shown : {T E : Type 0} (r : Result T E) (q q' : Bool) (set set' : Schemas) (t t' : SchemaType) (f f' : Field) (old new : List ℕ) → q ≡ q' → set ≡ set' → t ≡ t' → f ≡ f' →
    OnOk r (IsAppended old (default_text q set t (default_of f)) new) → OnOk r (IsAppended old (default_text q' set' t' (default_of f')) new)
default_shown r q q' set set' t t' f f' old new same_floats same_set same_type same_field put =
    on_ok r (default_here q q' set set' t t' f f' old new same_floats same_set same_type same_field) put

-- annotations of what is the same set
pub annotations_here : (set set' : Schemas) (xs xs' : List TypedAnnotation) (old new : List ℕ) → set ≡ set' → xs ≡ xs' → IsAppended old (annotations_text set xs) new → IsAppended old (annotations_text set' xs') new
annotations_here set set' xs xs' old new same_set same put =
    subst (λ (ys : List TypedAnnotation). IsAppended old (annotations_text set' ys) new) same
    (subst (λ (z : Schemas). IsAppended old (annotations_text z xs) new) same_set put)

-- ---- the parts of lines ----

-- a line where there are annotations, and none where there are none
pub no_line : (set : Schemas) (head : List ℕ) (xs : List TypedAnnotation) (old : List ℕ) → length xs ≡ 0 → IsAppended old (annotated_line set head xs) old
no_line set head [] old none = nothing old
no_line set head (x ∷ xs) old none = absurd (omega (arith, none))

pub some_line : (set : Schemas) (head : List ℕ) (xs : List TypedAnnotation) (old mid mid' new : List ℕ) → (length xs ≡ 0 → ⊥) → mid ≡ old ++ head → IsAppended mid (annotations_text set xs) mid' → new ≡ mid' ++ 10 ∷ [] →
    IsAppended old (annotated_line set head xs) new
some_line set head [] old mid mid' new some e put f = absurd (some refl)
some_line set head (x ∷ xs) old mid mid' new some e put f = between (annotations_text set (x ∷ xs)) head (10 ∷ []) old mid mid' new e put f

-- the parts of a union's line
pub union_put : (p m d old new : List ℕ) → new ≡ old ++ (p ++ (codes "union: " ++ (m ++ (codes " members, tag at data bit " ++ (d ++ 10 ∷ []))))) →
    new ≡ old ++ (p ++ codes "union: " ++ m ++ codes " members, tag at data bit " ++ d ++ 10 ∷ [])
union_put p m d old new e =
    let n : List ℕ = 10 ∷ [] in
    let b : List ℕ = codes " members, tag at data bit " in
    let a : List ℕ = codes "union: " in
    e ∙ ap (λ (xs : List ℕ). old ++ xs) (sym (append_assoc (p ++ a ++ m ++ b) d n ∙ (append_assoc (p ++ a ++ m) b (d ++ n) ∙ (append_assoc (p ++ a) m (b ++ (d ++ n)) ∙ append_assoc p a (m ++ (b ++ (d ++ n)))))))

-- the parts behind a field's default
pub end_put : (set : Schemas) (b i : ℕ) (z : Schemas) (xs : List TypedAnnotation) (old mid mid' new : List ℕ) → mid ≡ old ++ member_text (plan_of set b (field_at set b i)).member → z ≡ set → xs ≡ field_annotations set b i →
    IsAppended mid (annotations_text z xs) mid' → new ≡ mid' ++ 10 ∷ [] → IsAppended old (field_end set b i) new
end_put set b i z xs old mid mid' new member same_set same put end =
    between (annotations_text set (field_annotations set b i)) (member_text (plan_of set b (field_at set b i)).member) (10 ∷ []) old mid mid' new member (annotations_here z set xs (field_annotations set b i) mid mid' same_set same put) end
