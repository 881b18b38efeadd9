-- What is known of the value or the error of a result, passed on to another result.
use Rattle.std.proofs.Common.{Result, Ok, Err, IfOk, IfErr}

pub IfOk-carried : {A E : Type 0} (P Q : A → Type 0) (r : Result A E) → ((x : A) → P x → Q x) → IfOk r P → IfOk r Q
IfOk-carried P Q (Ok x) f h = f x h
IfOk-carried P Q (Err e) f h = tt

pub IfErr-carried : {A E : Type 0} (P Q : E → Type 0) (r : Result A E) → ((e : E) → P e → Q e) → IfErr r P → IfErr r Q
IfErr-carried P Q (Ok x) f h = tt
IfErr-carried P Q (Err e) f h = f e h
