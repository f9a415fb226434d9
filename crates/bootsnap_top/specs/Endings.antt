use Rattle.std.specs.Prelude.{ℕ, ◌≡◌, ◌<◌, Result, Err, List, [], ◌∷◌}
use Rattle.bootsnap_top.specs.declared.ending.Ending.{Ending}
use Rattle.bootsnap_top.specs.declared.ending.Ending.TheVariants as ending
use Rattle.bootsnap_top.specs.declared.planning.PlanError.{PlanError}
use Rattle.bootsnap_top.specs.declared.planning.PlanError.TheVariants as error
use Rattle.bootsnap_top.specs.declared.planning.Planned.{Planned}

-- P, where nothing outside cut the call off: neither a fault of a tree, an input or a sink, nor want of memory
abbrev pub IfWhole : Ending → Type 0 → Type 0
IfWhole (ending.Exit code) P = P
IfWhole (ending.Usage place) P = P
IfWhole ending.NotYet P = P
IfWhole ending.TurnsSpent P = P
IfWhole ending.StoreFull P = P
IfWhole ending.TreeFault P = Unit {0}
IfWhole ending.InputFault P = Unit {0}
IfWhole ending.SinkFault P = Unit {0}
IfWhole ending.NoMemory P = Unit {0}

-- a bad word at this place ends the call with its place, unless a sink failed or memory ran out
abbrev pub EndsAtWord : Ending → ℕ → Type 0
EndsAtWord (ending.Exit code) place = ⊥
EndsAtWord (ending.Usage at) place = at ≡ place
EndsAtWord ending.NotYet place = ⊥
EndsAtWord ending.TurnsSpent place = ⊥
EndsAtWord ending.StoreFull place = ⊥
EndsAtWord ending.TreeFault place = ⊥
EndsAtWord ending.InputFault place = ⊥
EndsAtWord ending.SinkFault place = Unit {0}
EndsAtWord ending.NoMemory place = Unit {0}

-- the number that the process ends with
abbrev pub status_of : Ending → ℕ
status_of (ending.Exit code) = code
status_of (ending.Usage place) = 200
status_of ending.TurnsSpent = 201
status_of ending.StoreFull = 202
status_of ending.TreeFault = 203
status_of ending.InputFault = 204
status_of ending.SinkFault = 205
status_of ending.NoMemory = 206
status_of ending.NotYet = 207

-- what an error of a plan says of the plan: a bad word is the first bad one, want of memory says nothing
abbrev pub IsPlanError : Result Planned ℕ → PlanError → Type 0
IsPlanError plan (error.Usage usage) = plan ≡ Err usage.0
IsPlanError plan error.NoMemory = Unit {0}

-- R of the first of both lists
abbrev pub OfFirst : {A : Type 0} → (A → A → Type 0) → List A → List A → Type 0
OfFirst R [] news = Unit {0}
OfFirst R (old ∷ olds) [] = Unit {0}
OfFirst R (old ∷ olds) (new ∷ news) = R old new

-- an ending of a run: no bad word, no turns, no full store, and no input fault; a number of its own is below 200
abbrev pub IsOfRun : Ending → Type 0
IsOfRun (ending.Exit code) = code < 200
IsOfRun (ending.Usage place) = ⊥
IsOfRun ending.NotYet = Unit {0}
IsOfRun ending.TurnsSpent = ⊥
IsOfRun ending.StoreFull = ⊥
IsOfRun ending.TreeFault = Unit {0}
IsOfRun ending.InputFault = ⊥
IsOfRun ending.SinkFault = Unit {0}
IsOfRun ending.NoMemory = Unit {0}

-- an ending that a program has by itself, with a number below 200 or because it cannot be run yet
abbrev pub IsOfProgram : Ending → Type 0
IsOfProgram (ending.Exit code) = code < 200
IsOfProgram (ending.Usage place) = ⊥
IsOfProgram ending.NotYet = Unit {0}
IsOfProgram ending.TurnsSpent = ⊥
IsOfProgram ending.StoreFull = ⊥
IsOfProgram ending.TreeFault = ⊥
IsOfProgram ending.InputFault = ⊥
IsOfProgram ending.SinkFault = ⊥
IsOfProgram ending.NoMemory = ⊥

-- an ending of a call that was cut off: a fault of a tree or a sink, or want of memory
abbrev pub IsCutOff : Ending → Type 0
IsCutOff (ending.Exit code) = ⊥
IsCutOff (ending.Usage place) = ⊥
IsCutOff ending.NotYet = ⊥
IsCutOff ending.TurnsSpent = ⊥
IsCutOff ending.StoreFull = ⊥
IsCutOff ending.TreeFault = Unit {0}
IsCutOff ending.InputFault = ⊥
IsCutOff ending.SinkFault = Unit {0}
IsCutOff ending.NoMemory = Unit {0}
