-- The answer of a native to any arguments, whatever their number.
use Rattle.std.specs.Prelude.{cond, List, length}
use Rattle.ruby_meaning.specs.NativeName.{Native, control, Control}
use Rattle.ruby_meaning.specs.Value.{Value, Objects}
use Rattle.ruby_meaning.specs.Numbers.{argument_error}
use Rattle.ruby_meaning.specs.Native.{Answer, raises, Meaning, Count}
use Rattle.ruby_meaning.specs.Natives.{meaning_of, count_of}
use Rattle.ruby_meaning.specs.Calls.{fits, wrong_count}

-- A native answers by itself, or it is one of control, which the evaluation runs.
pub data NativeAnswer : Type 0 where
  itself : Answer → NativeAnswer
  by_control : Control → NativeAnswer

-- first the arguments are counted
abbrev pub after_count : Count → Meaning → Meaning
after_count c m store self vs = cond (fits c (length vs)) (m store self vs) (raises argument_error (wrong_count (length vs) c))

-- What a native answers to the receiver and the arguments: a wrong number of them is refused, and then it does what it means. A native of control
-- says that it is one, and the evaluation counts its arguments.
abbrev pub native_answer : Native → Objects → Value → List Value → NativeAnswer
native_answer (control c) store self vs = by_control c
native_answer n store self vs = itself (after_count (count_of n) (meaning_of n) store self vs)
