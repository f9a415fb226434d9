use Rattle.std.specs.Prelude.{[]}
use Rattle.bs_outside.specs.History.{History}

-- What a shelf that tells nothing is taken to tell. No clause reads it.
abbrev pub nothing_told : History
nothing_told = record { start = []; past = []; guests = []; own = []; loads = []; temps = λ n. [] }
