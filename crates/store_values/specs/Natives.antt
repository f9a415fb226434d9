-- Which native of the definition each one is.
use Rattle.std.specs.Prelude.{ℕ, Bool, true, false}
use Rattle.ruby_tree.specs.Names.{Bytes}
use Rattle.ruby_meaning.specs.NativeName.{Native, control}
use Rattle.ruby_meaning.specs.NativeName as meant
use Rattle.ruby_meaning.specs.Store.{Place, rows_of, class_rows_of}
use Rattle.store_values.specs.declared.rows.NativeRow.{NativeRow}
use Rattle.store_values.specs.declared.natives.Native as own
use Rattle.store_values.specs.declared.natives.Native.TheVariants as native
use Rattle.store_values.specs.declared.natives.ObjectNative.{ObjectNative}
use Rattle.store_values.specs.declared.natives.ObjectNative.TheVariants as object_native
use Rattle.store_values.specs.declared.natives.NilNative.{NilNative}
use Rattle.store_values.specs.declared.natives.NilNative.TheVariants as nil_native
use Rattle.store_values.specs.declared.natives.IntegerNative.{IntegerNative}
use Rattle.store_values.specs.declared.natives.IntegerNative.TheVariants as integer_native
use Rattle.store_values.specs.declared.natives.StringNative.{StringNative}
use Rattle.store_values.specs.declared.natives.StringNative.TheVariants as string_native
use Rattle.store_values.specs.declared.natives.SymbolNative.{SymbolNative}
use Rattle.store_values.specs.declared.natives.SymbolNative.TheVariants as symbol_native
use Rattle.store_values.specs.declared.natives.ArrayNative.{ArrayNative}
use Rattle.store_values.specs.declared.natives.ArrayNative.TheVariants as array_native
use Rattle.store_values.specs.declared.natives.HashNative.{HashNative}
use Rattle.store_values.specs.declared.natives.HashNative.TheVariants as hash_native
use Rattle.store_values.specs.declared.natives.RangeNative.{RangeNative}
use Rattle.store_values.specs.declared.natives.RangeNative.TheVariants as range_native
use Rattle.store_values.specs.declared.natives.ModuleNative.{ModuleNative}
use Rattle.store_values.specs.declared.natives.ModuleNative.TheVariants as module_native
use Rattle.store_values.specs.declared.natives.ControlNative.{ControlNative}
use Rattle.store_values.specs.declared.natives.ControlNative.TheVariants as control_native

abbrev pub of_object : ObjectNative → Native
of_object object_native.Equal = meant.object_equal
of_object object_native.Not = meant.object_not
of_object object_native.Class = meant.object_class
of_object object_native.IsA = meant.object_is_a
of_object object_native.IsNil = meant.object_is_nil
of_object object_native.Responds = meant.object_responds
of_object object_native.ToText = meant.object_to_text
of_object object_native.Inspect = meant.object_inspect
of_object object_native.Freeze = meant.object_freeze
of_object object_native.IsFrozen = meant.object_is_frozen
of_object object_native.Copy = meant.object_copy
of_object object_native.NewTable = meant.object_new_table

abbrev pub of_nil : NilNative → Native
of_nil nil_native.ToText = meant.nil_to_text
of_nil nil_native.Inspect = meant.nil_inspect
of_nil nil_native.ToArray = meant.nil_to_array
of_nil nil_native.ToInteger = meant.nil_to_integer

abbrev pub of_integer : IntegerNative → Native
of_integer integer_native.Add = meant.integer_add
of_integer integer_native.Subtract = meant.integer_subtract
of_integer integer_native.Multiply = meant.integer_multiply
of_integer integer_native.Divide = meant.integer_divide
of_integer integer_native.Modulo = meant.integer_modulo
of_integer integer_native.Power = meant.integer_power
of_integer integer_native.And = meant.integer_and
of_integer integer_native.Or = meant.integer_or
of_integer integer_native.Xor = meant.integer_xor
of_integer integer_native.ShiftLeft = meant.integer_shift_left
of_integer integer_native.ShiftRight = meant.integer_shift_right
of_integer integer_native.Minus = meant.integer_minus
of_integer integer_native.Plus = meant.integer_plus
of_integer integer_native.Complement = meant.integer_complement
of_integer integer_native.Less = meant.integer_less
of_integer integer_native.AtMost = meant.integer_at_most
of_integer integer_native.More = meant.integer_more
of_integer integer_native.AtLeast = meant.integer_at_least
of_integer integer_native.Compare = meant.integer_compare
of_integer integer_native.ToText = meant.integer_to_text
of_integer integer_native.Inspect = meant.integer_inspect
of_integer integer_native.ToInteger = meant.integer_to_integer
of_integer integer_native.Absolute = meant.integer_absolute
of_integer integer_native.IsEven = meant.integer_is_even
of_integer integer_native.IsOdd = meant.integer_is_odd
of_integer integer_native.IsZero = meant.integer_is_zero
of_integer integer_native.Successor = meant.integer_successor

abbrev pub of_string : StringNative → Native
of_string string_native.Add = meant.string_add
of_string string_native.Repeat = meant.string_repeat
of_string string_native.Equal = meant.string_equal
of_string string_native.Compare = meant.string_compare
of_string string_native.Less = meant.string_less
of_string string_native.AtMost = meant.string_at_most
of_string string_native.More = meant.string_more
of_string string_native.AtLeast = meant.string_at_least
of_string string_native.Index = meant.string_index
of_string string_native.Size = meant.string_size
of_string string_native.ByteSize = meant.string_byte_size
of_string string_native.IsEmpty = meant.string_is_empty
of_string string_native.Upcase = meant.string_upcase
of_string string_native.Downcase = meant.string_downcase
of_string string_native.Capitalize = meant.string_capitalize
of_string string_native.Strip = meant.string_strip
of_string string_native.Chomp = meant.string_chomp
of_string string_native.StartsWith = meant.string_starts_with
of_string string_native.EndsWith = meant.string_ends_with
of_string string_native.Includes = meant.string_includes
of_string string_native.PlaceOf = meant.string_place_of
of_string string_native.ReplaceFirst = meant.string_replace_first
of_string string_native.ReplaceAll = meant.string_replace_all
of_string string_native.Split = meant.string_split
of_string string_native.Characters = meant.string_characters
of_string string_native.Lines = meant.string_lines
of_string string_native.LeftJustify = meant.string_left_justify
of_string string_native.RightJustify = meant.string_right_justify
of_string string_native.ToInteger = meant.string_to_integer
of_string string_native.ToText = meant.string_to_text
of_string string_native.ToSymbol = meant.string_to_symbol
of_string string_native.Inspect = meant.string_inspect
of_string string_native.Append = meant.string_append

abbrev pub of_symbol : SymbolNative → Native
of_symbol symbol_native.ToText = meant.symbol_to_text
of_symbol symbol_native.ToSymbol = meant.symbol_to_symbol
of_symbol symbol_native.Size = meant.symbol_size
of_symbol symbol_native.Inspect = meant.symbol_inspect

abbrev pub of_array : ArrayNative → Native
of_array array_native.Size = meant.array_size
of_array array_native.IsEmpty = meant.array_is_empty
of_array array_native.Index = meant.array_index
of_array array_native.SetIndex = meant.array_set_index
of_array array_native.Append = meant.array_append
of_array array_native.Push = meant.array_push
of_array array_native.Unshift = meant.array_unshift
of_array array_native.Pop = meant.array_pop
of_array array_native.Shift = meant.array_shift
of_array array_native.Concat = meant.array_concat
of_array array_native.Add = meant.array_add
of_array array_native.Subtract = meant.array_subtract
of_array array_native.Unique = meant.array_unique
of_array array_native.Delete = meant.array_delete
of_array array_native.DeleteAt = meant.array_delete_at
of_array array_native.Clear = meant.array_clear
of_array array_native.Reverse = meant.array_reverse
of_array array_native.First = meant.array_first
of_array array_native.Last = meant.array_last
of_array array_native.Sort = meant.array_sort
of_array array_native.Join = meant.array_join
of_array array_native.SortPairs = meant.array_sort_pairs

abbrev pub of_hash : HashNative → Native
of_hash hash_native.Index = meant.hash_index
of_hash hash_native.SetIndex = meant.hash_set_index
of_hash hash_native.HasKey = meant.hash_has_key
of_hash hash_native.Delete = meant.hash_delete
of_hash hash_native.Keys = meant.hash_keys
of_hash hash_native.Values = meant.hash_values
of_hash hash_native.Size = meant.hash_size
of_hash hash_native.IsEmpty = meant.hash_is_empty
of_hash hash_native.Merge = meant.hash_merge
of_hash hash_native.Clear = meant.hash_clear

abbrev pub of_range : RangeNative → Native
of_range range_native.First = meant.range_first
of_range range_native.Last = meant.range_last
of_range range_native.ExcludesEnd = meant.range_excludes_end

abbrev pub of_module : ModuleNative → Native
of_module module_native.Name = meant.module_name
of_module module_native.CaseEqual = meant.module_case_equal
of_module module_native.Superclass = meant.module_superclass
of_module module_native.Include = meant.module_include
of_module module_native.AttributeReader = meant.module_attribute_reader
of_module module_native.AttributeWriter = meant.module_attribute_writer
of_module module_native.AttributeAccessor = meant.module_attribute_accessor

abbrev pub of_control : ControlNative → Native
of_control control_native.Require = control meant.control_require
of_control control_native.RequireRelative = control meant.control_require_relative
of_control control_native.Load = control meant.control_load
of_control control_native.Gets = control meant.control_gets
of_control control_native.BlockGiven = control meant.control_block_given
of_control control_native.Emit = control meant.control_emit
of_control control_native.Throw = control meant.control_throw
of_control control_native.Call = control meant.control_call
of_control control_native.LoadYaml = control meant.control_load_yaml
of_control control_native.LoadJson = control meant.control_load_json

-- the native of the definition
abbrev pub native_of : own.Native → Native
native_of (native.Object n) = of_object n
native_of (native.Nil n) = of_nil n
native_of (native.Integer n) = of_integer n
native_of (native.String n) = of_string n
native_of (native.Symbol n) = of_symbol n
native_of (native.Array n) = of_array n
native_of (native.Hash n) = of_hash n
native_of (native.Range n) = of_range n
native_of (native.Module n) = of_module n
native_of (native.Control n) = of_control n
native_of native.BoolToText = meant.bool_to_text
native_of native.BoolInspect = meant.bool_inspect
native_of native.Allocate = meant.class_allocate

-- where the row stands
abbrev pub place_of : Bool → ℕ → Place
place_of false c = rows_of c
place_of true c = class_rows_of c

abbrev pub row_of : NativeRow → Place × Bytes × Native
row_of r = (place_of r.on_class r.class, r.name.now, native_of r.native)
