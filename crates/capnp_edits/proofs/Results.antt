-- What holds of a result where one thing follows from another.
use Rattle.std.proofs.Common.{Result, Ok, Err, IfErr, IfOk, OnOk}

pub if_ok : {A E : Type 0} {P Q : A → Type 0} (r : Result A E) → ((a : A) → P a → Q a) → IfOk r P → IfOk r Q
if_ok (Ok a) f p = f a p
if_ok (Err e) f p = tt

pub on_ok : {A E : Type 0} {P Q : Type 0} (r : Result A E) → (P → Q) → OnOk r P → OnOk r Q
on_ok (Ok a) f p = f p
on_ok (Err e) f p = tt

pub if_err : {A E : Type 0} {P Q : E → Type 0} (r : Result A E) → ((e : E) → P e → Q e) → IfErr r P → IfErr r Q
if_err (Ok a) f p = tt
if_err (Err e) f p = f e p

-- two facts of one value
pub if_both : {A E : Type 0} {P Q R : A → Type 0} (r : Result A E) → ((a : A) → P a → Q a → R a) → IfOk r P → IfOk r Q → IfOk r R
if_both (Ok a) f p q = f a p q
if_both (Err e) f p q = tt

pub with_on : {A E : Type 0} {P Q : A → Type 0} {F : Type 0} (r : Result A E) → ((a : A) → P a → F → Q a) → IfOk r P → OnOk r F → IfOk r Q
with_on (Ok a) f p q = f a p q
with_on (Err e) f p q = tt
