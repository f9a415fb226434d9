-- Lists of values.
use Rattle.std.specs.Prelude.{List}
use Rattle.store_values.specs.declared.values.Value.{Value}

abbrev pub Values : Type 0
Values = List Value
