-- What is told of a call, from what is told of it done and of it refused. Assumes nothing.
use Rattle.std.specs.Prelude.{◌≡◌, Result, Ok, Err, IfOk, IfErr}
use Rattle.answers.specs.declared.Answer.{Answer}

pub told_by : {T E : Type 0} (x : Result T E) (told : Result T E → Answer) (r : Answer) → IfOk x (λ d. r ≡ told (Ok d)) → IfErr x (λ e. r ≡ told (Err e)) → r ≡ told x
told_by (Ok d) told r h k = h
told_by (Err e) told r h k = k
