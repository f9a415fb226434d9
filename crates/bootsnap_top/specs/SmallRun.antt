use Rattle.std.specs.Prelude.{ℕ, ℤ, pos, negsuc, ◌+◌, ◌^◌, ◌+ℤ◌, ◌-ℤ◌, Bool, cond, nat_lt, unwrap_or, Option, None, Some, List, [], ◌∷◌, ◌++◌, codes}
use Rattle.std.specs.Fmt.{decimal, signed_decimal}
use Rattle.std.specs.Ordering.{nat_cmp}
use Rattle.std.specs.Cmp.Lexicographic.{slice_cmp}
use Rattle.std.specs.FinMap as map
use Rattle.std.specs.Option.{option_map}
use Rattle.small_form.specs.declared.tree.Operand.{Operand}
use Rattle.small_form.specs.declared.tree.Operand.TheVariants as operand
use Rattle.small_form.specs.declared.tree.Operator.{Operator}
use Rattle.small_form.specs.declared.tree.Operator.TheVariants as operator
use Rattle.small_form.specs.declared.tree.Term.{Term}
use Rattle.small_form.specs.declared.tree.Sum.{Sum}
use Rattle.small_form.specs.declared.tree.Line.{Line}
use Rattle.small_form.specs.declared.tree.Line.TheVariants as line
use Rattle.bootsnap_top.specs.declared.ending.Ending.{Ending}
use Rattle.bootsnap_top.specs.declared.ending.Ending.TheVariants as ending

-- What a call writes to its output and its error text, and how it ends.
pub record Answer : Type 0 where
  pub output : List ℕ
  pub errors : List ℕ
  pub ending : Ending

-- the answer behind a piece of output
abbrev pub behind : List ℕ → Answer → Answer
behind piece answer = record { output = piece ++ answer.output; errors = answer.errors; ending = answer.ending }

-- The values of the names that were assigned.
abbrev pub Values : Type 0
Values = map.FinMap {K = List ℕ} (slice_cmp nat_cmp) ℤ

-- an Integer: from -2 ^ 63 to 2 ^ 63 - 1
abbrev pub is_integer : ℤ → Bool
is_integer (pos n) = nat_lt n (2 ^ 63)
is_integer (negsuc n) = nat_lt n (2 ^ 63)

abbrev pub value_of : Values → Operand → ℤ
value_of values (operand.Number n) = n
value_of values (operand.Name name) = unwrap_or (map.get values name) (pos 0)

abbrev pub applied : Operator → ℤ → ℤ → ℤ
applied operator.Plus total value = total +ℤ value
applied operator.Minus total value = total -ℤ value

abbrev pub in_range : ℤ → Option ℤ
in_range z = cond (is_integer z) (Some z) None

-- the total with one term more
abbrev pub with_term : Values → ℤ → Term → Option ℤ
with_term values total term = in_range (applied term.operator total (value_of values term.operand))

-- from the left; nothing from the first total on that is no Integer
abbrev pub total_of : Values → Option ℤ → List Term → Option ℤ
total_of values None terms = None
total_of values (Some total) [] = Some total
total_of values (Some total) (term ∷ terms) = total_of values (with_term values total term) terms

-- The value of a sum, or nothing where a step of it is out of the range of Integers.
abbrev pub sum_value : Values → Sum → Option ℤ
sum_value values sum = total_of values (Some (value_of values sum.first)) sum.rest

-- the error text of an exception at a line of a file
abbrev pub out_of_range : List ℕ → ℕ → List ℕ
out_of_range path number = path ++ 58 ∷ (decimal number ++ codes ": integer out of range (RangeError)\n")

-- the run ends at this line, whose sum is out of range
abbrev pub ends_at : List ℕ → ℕ → Answer
ends_at path number = record { output = []; errors = out_of_range path number; ending = ending.Exit 1 }

-- the run ends behind its last line
abbrev pub ends_well : Answer
ends_well = record { output = []; errors = []; ending = ending.Exit 0 }

-- what the line writes, or nothing where its sum is out of range
abbrev pub line_piece : Values → Line → Option (List ℕ)
line_piece values line.Empty = Some []
line_piece values (line.Assign name sum) = option_map (λ value. []) (sum_value values sum)
line_piece values (line.PutsSum sum) = option_map (λ value. signed_decimal value ++ 10 ∷ []) (sum_value values sum)
line_piece values (line.PutsText text) = Some (text ++ 10 ∷ [])

abbrev pub assigned : Values → List ℕ → Option ℤ → Values
assigned values name None = values
assigned values name (Some value) = map.insert values name value

-- the values behind the line
abbrev pub values_after : Values → Line → Values
values_after values line.Empty = values
values_after values (line.Assign name sum) = assigned values name (sum_value values sum)
values_after values (line.PutsSum sum) = values
values_after values (line.PutsText text) = values

abbrev pub shown : List ℕ → ℕ → Option (List ℕ) → Answer → Answer
shown path number None rest = ends_at path number
shown path number (Some piece) rest = behind piece rest

-- The run of these lines, of which the first has this number, with these values.
abbrev pub run_lines : List ℕ → ℕ → Values → List Line → Answer
run_lines path number values [] = ends_well
run_lines path number values (first ∷ lines) = shown path number (line_piece values first) (run_lines path (number + 1) (values_after values first) lines)
