-- Units are a set.
use Rattle.std.specs.Coded.{codes}
use Rattle.iseq_types.specs.contracts.sequences.Unit as unit
use Rattle.iseq_types.specs.declared.sequences.Unit.{Unit as CompiledUnit}

pub unit_set : IsSet CompiledUnit
unit_set = hlevel (codes, unit.the_row.coded)
