-- What is known of an answer that a fault was made into.
use Rattle.std.proofs.Common.{◌≡◌, sym, subst, Result, Ok, Err}
use Rattle.std.specs.Prelude.{IfErr, OnErr, OnOk}
use Rattle.std.specs.Result.{IsErrAnd}
use Rattle.std.proofs.lemmas.Result.{err_from_is_err_and}

-- what holds of the fault holds of the answer
pub if-err : {T E : Type 0} (r : Result T E) (e : E) (P : E → Type 0) → IsErrAnd r (λ y. y ≡ e) → P e → IfErr r P
if-err {T = T} {E = E} r e P is h =
    let (y, at, same) = err_from_is_err_and r is in
    let Q : Result T E → Type 0 = λ q. IfErr q P in
    subst Q (sym at) (subst P (sym same) h)

-- and so does what doesn't speak of it
pub on-err : {T E : Type 0} (r : Result T E) (P : Type 0) → P → OnErr r P
on-err (Ok x) P h = tt
on-err (Err e) P h = h

-- what follows from it
pub ok-with : {T E : Type 0} (r : Result T E) (P Q : Type 0) → (P → Q) → OnOk r P → OnOk r Q
ok-with (Ok x) P Q f h = f h
ok-with (Err e) P Q f h = tt

pub err-with : {T E : Type 0} (r : Result T E) (P Q : Type 0) → (P → Q) → OnErr r P → OnErr r Q
err-with (Ok x) P Q f h = tt
err-with (Err e) P Q f h = f h
