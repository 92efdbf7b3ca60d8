-- Data, step by step.
use Rattle.std.proofs.Common.{ℕ, zero, suc, ◌+◌, ◌<◌, ◌≤◌, ◌≡◌, refl, List, [], ◌∷◌, ◌++◌, Bool, false, ◌==◌, codes, decimal, drop, get_or, length, Ok, Err, ap, add-one, append_assoc, arith, sym, subst, ◌∙◌}
use Rattle.std.proofs.Math.Seq.{drop-cons}
use Rattle.std.proofs.lemmas.Bool.Decides.{nat_tests}
use Rattle.capnp_records.specs.Text.{Layout}
use Rattle.capnp_json.specs.Leaves.{base64_text, byte_items, hex_digits, hex_text}
use Rattle.capnp_json.specs.Pieces.{Out, after, ending, items_left, said, separator}
use Rattle.capnp_json.specs.Steps.Puts.{Gives, IsPut, IsStopped, Leads}
use Rattle.capnp_json.specs.declared.error.JsonError.{JsonError}
use Rattle.capnp_json.specs.declared.error.JsonError.TheVariants.{OutOfMemory}
use Rattle.capnp_json.specs.declared.output.Output.{Output}
use Rattle.capnp_json.proofs.Puts.{nothing_put, same, stop_first, then, then_bytes, two_first}

pub after_assoc : (x y z : Out) → after (after x y) z ≡ after x (after y z)
after_assoc (Err why) y z = refl
after_assoc (Ok a) (Err why) z = refl
after_assoc (Ok a) (Ok b) (Err why) = refl
after_assoc (Ok a) (Ok b) (Ok c) = ap Ok (append_assoc a b c)

-- the entry at an index, and those behind it
at_index : (bs : List ℕ) (i : ℕ) → i < length bs → drop i bs ≡ get_or bs i 0 ∷ drop (i + 1) bs
at_index bs i h = drop-cons bs i 0 h ∙ ap (λ (n : ℕ). get_or bs i 0 ∷ drop n bs) (sym (add-one i))

not_first : (i : ℕ) → false ≡ (i + 1 == 0)
not_first i = grind (arith, nat_tests)

past : (bs : List ℕ) (i : ℕ) → length bs ≤ i → drop i bs ≡ []
past [] zero h = refl
past [] (suc i) h = refl
past (b ∷ bs) zero h = absurd (omega (arith, h))
past (b ∷ bs) (suc i) h = past bs i (omega (arith, h))

-- ---- arrays ----

abbrev left_items : Layout → Bool → List ℕ → Out
left_items at first bs = items_left (codes "]") at first (byte_items bs)

abbrev own_item : Layout → Bool → ℕ → Out
own_item at first b = after (said (separator at first)) (said (decimal b))

next_is : (at : Layout) (bs : List ℕ) (i : ℕ) → i < length bs → left_items at (i == 0) (drop i bs) ≡ after (own_item at (i == 0) (get_or bs i 0)) (left_items at (i + 1 == 0) (drop (i + 1) bs))
next_is at bs i h =
    ap (left_items at (i == 0)) (at_index bs i h)
    ∙ (sym (after_assoc (said (separator at (i == 0))) (said (decimal (get_or bs i 0))) (left_items at false (drop (i + 1) bs)))
    ∙ ap (λ (q : Bool). after (own_item at (i == 0) (get_or bs i 0)) (left_items at q (drop (i + 1) bs))) (not_first i))

pub item_then : (now mid : Output) (at : Layout) (bs : List ℕ) (i : ℕ) → i < length bs → IsPut now (after (said (separator at (i == 0))) (said (decimal (get_or bs i 0)))) mid →
    Leads now (items_left (codes "]") at (i == 0) (byte_items (drop i bs))) mid (items_left (codes "]") at (i + 1 == 0) (byte_items (drop (i + 1) bs)))
item_then now mid at bs i lt h r k = same now (next_is at bs i lt) r (then now mid (own_item at (i == 0) (get_or bs i 0)) (left_items at (i + 1 == 0) (drop (i + 1) bs)) h r k)

pub item_stopped : (now : Output) (at : Layout) (bs : List ℕ) (i : ℕ) → i < length bs → (why : JsonError) → IsStopped now (after (said (separator at (i == 0))) (said (decimal (get_or bs i 0)))) why →
    IsStopped now (items_left (codes "]") at (i == 0) (byte_items (drop i bs))) why
item_stopped now at bs i lt why h = same now (next_is at bs i lt) (Err why) (stop_first now (own_item at (i == 0) (get_or bs i 0)) (left_items at (i + 1 == 0) (drop (i + 1) bs)) why h)

pub items_end : (now : Output) (at : Layout) (bs : List ℕ) (i : ℕ) (none : Bool) → i ≡ length bs → none ≡ (length bs == 0) → Leads now (items_left (codes "]") at (i == 0) (byte_items (drop i bs))) now (said (ending at none ++ codes "]"))
items_end now at bs i none e n r k =
    same now
    (ap (left_items at (i == 0)) (past bs i (omega (arith, e)))
    ∙ ap (λ (q : Bool). said (ending at q ++ codes "]")) (ap (λ (m : ℕ). m == 0) e ∙ sym n)) r k

pub no_memory : (now : Output) (o : Out) (why : JsonError) → why ≡ OutOfMemory → IsStopped now o why
no_memory now o why e = subst (λ (w : JsonError). IsStopped now o w) (sym e) (tt {0})

-- ---- hexadecimal ----

hex_next : (bs : List ℕ) (i : ℕ) → i < length bs → hex_text (drop i bs) ≡ hex_digits (get_or bs i 0) ++ hex_text (drop (i + 1) bs)
hex_next bs i h = ap hex_text (at_index bs i h)

pub hex_then : (now mid : Output) (bs : List ℕ) (i : ℕ) → i < length bs → IsPut now (said (hex_digits (get_or bs i 0))) mid → Leads now (said (hex_text (drop i bs))) mid (said (hex_text (drop (i + 1) bs)))
hex_then now mid bs i lt h r k = subst (λ (z : List ℕ). Gives now (said z) r) (sym (hex_next bs i lt)) (then_bytes now mid (hex_digits (get_or bs i 0)) (hex_text (drop (i + 1) bs)) h r k)

pub hex_stopped : (now : Output) (bs : List ℕ) (i : ℕ) → i < length bs → (why : JsonError) → IsStopped now (said (hex_digits (get_or bs i 0))) why → IsStopped now (said (hex_text (drop i bs))) why
hex_stopped now bs i lt why h = subst (λ (z : List ℕ). IsStopped now (said z) why) (sym (hex_next bs i lt)) (two_first now (hex_digits (get_or bs i 0)) (hex_text (drop (i + 1) bs)) why h)

pub hex_end : (now : Output) (bs : List ℕ) (i : ℕ) → length bs ≤ i → IsPut now (said (hex_text (drop i bs))) now
hex_end now bs i h = subst (λ (z : List ℕ). IsPut now (said (hex_text z)) now) (sym (past bs i h)) (nothing_put now)

-- ---- base64 ----

three_next : (bs : List ℕ) → 3 ≤ length bs → base64_text bs ≡ base64_text (get_or bs 0 0 ∷ get_or bs 1 0 ∷ get_or bs 2 0 ∷ []) ++ base64_text (drop 3 bs)
three_next [] h = absurd (omega (arith, h))
three_next (a ∷ []) h = absurd (omega (arith, h))
three_next (a ∷ b ∷ []) h = absurd (omega (arith, h))
three_next (a ∷ b ∷ c ∷ rest) h = refl

pub three_then : (now mid : Output) (bs left : List ℕ) → 3 ≤ length bs → left ≡ drop 3 bs → IsPut now (said (base64_text (get_or bs 0 0 ∷ get_or bs 1 0 ∷ get_or bs 2 0 ∷ []))) mid → Leads now (said (base64_text bs)) mid (said (base64_text left))
three_then now mid bs left h e p r k =
    subst (λ (z : List ℕ). Gives now (said z) r) (sym (three_next bs h))
    (then_bytes now mid (base64_text (get_or bs 0 0 ∷ get_or bs 1 0 ∷ get_or bs 2 0 ∷ [])) (base64_text (drop 3 bs)) p r (subst (λ (z : List ℕ). Gives mid (said (base64_text z)) r) e k))

pub three_stopped : (now : Output) (bs : List ℕ) → 3 ≤ length bs → (why : JsonError) → IsStopped now (said (base64_text (get_or bs 0 0 ∷ get_or bs 1 0 ∷ get_or bs 2 0 ∷ []))) why → IsStopped now (said (base64_text bs)) why
three_stopped now bs h why k =
    subst (λ (z : List ℕ). IsStopped now (said z) why) (sym (three_next bs h)) (two_first now (base64_text (get_or bs 0 0 ∷ get_or bs 1 0 ∷ get_or bs 2 0 ∷ [])) (base64_text (drop 3 bs)) why k)

pub none_is : (bs : List ℕ) → length bs ≡ 0 → [] ≡ bs
none_is [] h = refl
none_is (a ∷ bs) h = absurd (omega (arith, h))

pub one_is : (bs : List ℕ) → length bs ≡ 1 → get_or bs 0 0 ∷ [] ≡ bs
one_is [] h = absurd (omega (arith, h))
one_is (a ∷ []) h = refl
one_is (a ∷ b ∷ bs) h = absurd (omega (arith, h))

pub two_is : (bs : List ℕ) → length bs ≡ 2 → get_or bs 0 0 ∷ get_or bs 1 0 ∷ [] ≡ bs
two_is [] h = absurd (omega (arith, h))
two_is (a ∷ []) h = absurd (omega (arith, h))
two_is (a ∷ b ∷ []) h = refl
two_is (a ∷ b ∷ c ∷ bs) h = absurd (omega (arith, h))
