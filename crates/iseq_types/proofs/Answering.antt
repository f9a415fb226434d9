-- What follows from an answer of yes, and from one of no.
use Rattle.std.proofs.Common.{Bool, true, false}
use Rattle.std.specs.Prelude.{IfOk, Result, Ok, Err}
use Rattle.std.specs.Bool.{OnTrue, OnFalse}

pub yes_then : {E : Type 0} (r : Result Bool E) (P Q : Type 0) → (P → Q) → IfOk r (λ yes. OnTrue yes P) → IfOk r (λ yes. OnTrue yes Q)
yes_then (Ok true) P Q f h = f h
yes_then (Ok false) P Q f h = tt
yes_then (Err e) P Q f h = tt

pub no_then : {E : Type 0} (r : Result Bool E) (P Q : Type 0) → (P → Q) → IfOk r (λ yes. OnFalse yes P) → IfOk r (λ yes. OnFalse yes Q)
no_then (Ok true) P Q f h = tt
no_then (Ok false) P Q f h = f h
no_then (Err e) P Q f h = tt
